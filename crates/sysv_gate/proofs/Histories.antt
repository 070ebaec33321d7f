-- Histories that grow by one turn.
use Rattle.std.proofs.Common.{◌≡◌, ℕ, zero, suc, ◌+◌, ◌≤◌, ◌==◌, cond, List, [], ◌∷◌, ◌++◌, length, refl, arith}
use Rattle.std.proofs.lemmas.Bool.Decides.{nat_tests}
use Rattle.sysv_gate.specs.declared.table.view.Turn.{Turn}
use Rattle.sysv_lists.specs.Numbers.{times, NoneTwice}
use Rattle.sysv_lists.proofs.Counting.{times-append}
use Rattle.sysv_gate.specs.History.{after_all, IsLegal, made_at}

module _ {O C R : Type 0} where
  pub after_all-snoc : (o : O) (ts : List (Turn O C R)) (t : Turn O C R) → after_all o (ts ++ t ∷ []) ≡ t.after
  after_all-snoc o [] t = refl
  after_all-snoc o (u ∷ us) t = after_all-snoc u.after us t

  module _ (moves : O → C → R → O → Type 0) where
    pub legal-snoc : (o : O) (ts : List (Turn O C R)) (t : Turn O C R) → IsLegal moves o ts →
        moves (after_all o ts) t.call t.reply t.after → IsLegal moves o (ts ++ t ∷ [])
    legal-snoc o [] t legal move = (move, tt)
    legal-snoc o (u ∷ us) t legal move = (legal.0, legal-snoc u.after us t legal.1 move)

    -- A number that rises by at most one in each turn rises by at most the number of turns.
    pub rises : (f : O → ℕ) → ((o : O) (c : C) (r : R) (o' : O) → moves o c r o' → f o' ≤ f o + 1) → (o : O)
        (ts : List (Turn O C R)) → IsLegal moves o ts → f (after_all o ts) ≤ f o + length ts
    rises f each o [] legal = omega arith
    rises f each o (u ∷ us) legal =
        let first = each o u.call u.reply u.after legal.0 in let more = rises f each u.after us legal.1 in omega arith

    -- A number that falls in no turn is at least as great after more turns.
    pub grows_on : (f : O → ℕ) → ((o : O) (c : C) (r : R) (o' : O) → moves o c r o' → f o ≤ f o') → (o : O)
        (ts us : List (Turn O C R)) → IsLegal moves o (ts ++ us) → f (after_all o ts) ≤ f (after_all o (ts ++ us))
    grows_on f each o [] [] legal = omega arith
    grows_on f each o [] (u ∷ us) legal =
        let first = each o u.call u.reply u.after legal.0 in
        let more = grows_on f each u.after [] us legal.1 in
        omega arith
    grows_on f each o (t ∷ ts) us legal = grows_on f each t.after ts us legal.1

  -- A seat without a number has made no turn.
  pub made_at-nobody : (ts : List (Turn O C R)) (p : ℕ) → made_at [] ts p ≡ 0
  made_at-nobody [] p = refl
  made_at-nobody (u ∷ us) zero = refl
  made_at-nobody (u ∷ us) (suc p) = made_at-nobody us p

  -- A seat that has made no turn made none in an earlier part.
  pub made_at-front : (numbers : List ℕ) (ts us : List (Turn O C R)) → ((p : ℕ) → made_at numbers (ts ++ us) p ≡ 0) →
      (p : ℕ) → made_at numbers ts p ≡ 0
  made_at-front numbers [] us none p = refl
  made_at-front numbers (t ∷ ts) us none zero = none zero
  made_at-front numbers (t ∷ ts) us none (suc p) = made_at-front numbers ts us (λ q. none (suc q)) p

  pub made_at-append : (one two : List ℕ) (ts : List (Turn O C R)) (p : ℕ) →
      made_at (one ++ two) ts p ≡ made_at one ts p + made_at two ts p
  made_at-append one two [] p = omega arith
  made_at-append one two (u ∷ us) zero = times-append u.by one two
  made_at-append one two (u ∷ us) (suc p) = made_at-append one two us p

  module _ (numbers : List ℕ) where
    pub made_at-le : NoneTwice numbers → (ts : List (Turn O C R)) (p : ℕ) → made_at numbers ts p ≤ 1
    made_at-le none [] p = omega arith
    made_at-le none (u ∷ us) zero = none u.by
    made_at-le none (u ∷ us) (suc p) = made_at-le none us p

    pub made_at-mine : (ts : List (Turn O C R)) (t : Turn O C R) (p : ℕ) → times t.by numbers ≡ 1 →
        made_at numbers (ts ++ t ∷ []) p ≡ made_at numbers ts p + cond (length ts == p) 1 0
    made_at-mine [] t zero mine = mine
    made_at-mine [] t (suc p) mine = grind (arith, nat_tests)
    made_at-mine (u ∷ us) t zero mine = grind (arith, nat_tests)
    made_at-mine (u ∷ us) t (suc p) mine = let r = made_at-mine us t p mine in grind (arith, nat_tests)

    pub made_at-theirs : (ts : List (Turn O C R)) (t : Turn O C R) (p : ℕ) → times t.by numbers ≡ 0 →
        made_at numbers (ts ++ t ∷ []) p ≡ made_at numbers ts p
    made_at-theirs [] t zero theirs = theirs
    made_at-theirs [] t (suc p) theirs = refl
    made_at-theirs (u ∷ us) t zero theirs = refl
    made_at-theirs (u ∷ us) t (suc p) theirs = made_at-theirs us t p theirs
