-- Proves the laws from the rule.
use Rattle.std.proofs.Common.{◌≡◌, ◌⊎◌, inl, inr, ⊎_elim, ℕ, zero, suc, ◌+◌, ◌≤◌, List, [], ◌∷◌, ◌++◌, get_or, refl}
use Rattle.std.proofs.Common.{sym, ◌∙◌, arith}
use Rattle.sysv_gate.specs.declared.table.view.View.{View}
use Rattle.sysv_gate.specs.declared.table.view.Turn.{Turn}
use Rattle.sysv_lists.specs.Numbers.{times}
use Rattle.sysv_lists.specs.Prefix.{IsPrefixOf}
use Rattle.sysv_gate.specs.History.{made_at}
use Rattle.sysv_gate.specs.Laws.{OneTurnAtATime, NoTurnOfTwoSeats, OneHistory, MarkedOnlyWhenWorn, CountsOutsideATurn}
use Rattle.sysv_lists.proofs.Sums.{two-le-sum_by}
use Rattle.sysv_gate.specs.Counts.{word_of, of_count}
use Rattle.sysv_gate.specs.History.{after_all}
use Rattle.sysv_gate.proofs.CountsStayAnnounced.{exactly}
use Rattle.sysv_gate.proofs.OneViewKeepsRule.{served_alone}

-- Of two prefixes of one list, one is a prefix of the other.
pub prefix_either : {A : Type 0} (xs ys xs' ys' : List A) → xs ++ xs' ≡ ys ++ ys' → IsPrefixOf ys xs ⊎ IsPrefixOf xs ys
prefix_either [] ys xs' ys' same = inr (ys, refl)
prefix_either (x ∷ xs) [] xs' ys' same = inl (x ∷ xs, refl)
prefix_either {A} (x ∷ xs) (y ∷ ys) xs' ys' same =
    let first : x ≡ y = cc in
    let rest : xs ++ xs' ≡ ys ++ ys' = cc in
    ⊎_elim (λ (b : IsPrefixOf ys xs). inl (b.0, λ i. first i ∷ b.1 i))
    (λ (b : IsPrefixOf xs ys). inr (b.0, λ i. sym first i ∷ b.1 i)) (prefix_either xs ys xs' ys' rest)

module _ {O C R : Type 0} where
  made_by_one : (one two : List ℕ) → ((x : ℕ) → times x one + times x two ≤ 1) → (ts : List (Turn O C R)) (p : ℕ) →
      made_at one ts p + made_at two ts p ≤ 1
  made_by_one one two apart [] p = omega arith
  made_by_one one two apart (u ∷ us) zero = apart u.by
  made_by_one one two apart (u ∷ us) (suc p) = made_by_one one two apart us p

  module _ (moves : O → C → R → O → Type 0) where
    pub one_turn : OneTurnAtATime {C = C} {R = R} moves
    one_turn opening first log drawn homes views kept i k v w other at there turn =
        served_alone moves opening first log drawn i homes views v kept at ((kept.each i v at).turn turn).0 k w other
        there

    pub no_turn_of_two : NoTurnOfTwoSeats {C = C} {R = R} moves
    no_turn_of_two opening first log drawn homes views kept i k v w other at there p =
        let mine = (kept.each i v at).own p in
        let theirs = (kept.each k w there).own p in
        let apart = made_by_one v.numbers w.numbers
        (λ x.
        let all = kept.apart x in
        let two = two-le-sum_by (λ (u : View O C R). times x u.numbers) views i k v w other at there in
        omega arith) log p in
        omega arith

    pub one_history : OneHistory {C = C} {R = R} moves
    one_history opening first log drawn homes views kept i k v w other at there =
        let one = (kept.each i v at).seen in
        let two = (kept.each k w there).seen in
        prefix_either v.seen w.seen one.0 two.0 (sym one.1 ∙ two.1)

    pub marked_only : MarkedOnlyWhenWorn {C = C} {R = R} moves
    marked_only opening first log drawn homes views kept i v at marked =
        let reached = (kept.each i v at).worn marked in
        let most = kept.limit in
        omega arith

    pub counts_outside : (counted : O → ℕ × ℕ) → CountsOutsideATurn {C = C} {R = R} moves counted
    counts_outside counted opening first s held nobody = (
      held.0,
      held.1.3.legal,
      held.1.2,
      λ count.
          let told = held.1.4 count in
          exactly count (of_count count (counted (after_all opening held.0))) (get_or s.words (word_of count) 0) s.views
          told (λ k u there. told.quiet k u there (nobody k u there)),
    )
