-- What steps at one place leave unchanged of a pass.
use Rattle.std.proofs.Common.{◌≡◌, ◌≢◌, ℕ, zero, suc, List, [], ◌∷◌, length, set, sym, ap, ◌∙◌, subst, refl, arith}
use Rattle.std.proofs.Common.{length-set}
use Rattle.std.proofs.lemmas.List.{set-get_or}
use Rattle.sysv_gate.specs.declared.table.view.Turn.{Turn}
use Rattle.sysv_lists.specs.Prefix.{IsPrefixOf}
use Rattle.sysv_lists.proofs.Prefixes.{prefix_self, prefix_longer, prefix_trans}
use Rattle.sysv_gate.specs.Orders.{turns_at, placed}
use Rattle.sysv_gate.specs.Steps.{Mine, spent}
use Rattle.sysv_gate.specs.Tables.{view_at, Passing, Carries}
use Rattle.sysv_gate.specs.Plays.{StepsAt}
use Rattle.sysv_gate.specs.Locks.{LockView, IsAt, Only, IsSame}
use Rattle.atomic_table.specs.Seated.{TableId}
use Rattle.sysv_gate.specs.Turns.{Looked, TurnCame, SawMore}
use Rattle.sysv_gate.proofs.LearnedInCall.{not_held, turn_later, saw_later}
use Rattle.sysv_gate.specs.Rule.{Spot}
use Rattle.sysv_gate.specs.declared.table.view.Sight.{Sight}
use Rattle.sysv_gate.specs.declared.table.view.View.{View}
use Rattle.atomic_table.specs.declared.shared.Seat.{Seat}

set_twice : {A : Type 0} (xs : List A) (i : ℕ) (a b : A) → set (set xs i a) i b ≡ set xs i b
set_twice [] i a b = refl
set_twice (x ∷ xs) zero a b = refl
set_twice (x ∷ xs) (suc i) a b = ap (λ l. x ∷ l) (set_twice xs i a b)

module _ {O C R : Type 0} (place : ℕ) where
  -- No step was made.
  pub only_self : (m : Passing O C R) → Carries place m →
      IsPrefixOf (view_at place m.0).seen (turns_at place m.0.seen) → Only place m m
  only_self m carries within = record {
    many = refl;
    order = prefix_self m.0.seen;
    also = refl;
    shares = refl;
    others = sym (set-get_or m.0.views place spent);
    carries = carries;
    within = within;
    owns = λ o. o;
  }

  -- Steps after other steps.
  pub only_trans : (m m' m'' : Passing O C R) → Only place m m' → Only place m' m'' → Only place m m''
  only_trans m m' m'' one two = record {
    many = two.many ∙ one.many;
    order = prefix_trans m.0.seen m'.0.seen m''.0.seen one.order two.order;
    also = two.also ∙ one.also;
    shares = two.shares ∙ one.shares;
    others = two.others ∙ ap (λ l. set l place (view_at place m''.0)) one.others
        ∙ set_twice m.0.views place (view_at place m'.0) (view_at place m''.0);
    carries = two.carries;
    within = two.within;
    owns = λ o. two.owns (one.owns o);
  }

  -- One step was made.
  pub stepped_only : (added : List (Turn O C R)) (told : Mine O C R → Type 0) (m m' : Passing O C R) →
      StepsAt place added told m m' → Only place m m'
  stepped_only added told m m' went = record {
    many = ap length went.views ∙ length-set m.0.views place (view_at place m'.0);
    order = subst (IsPrefixOf m.0.seen) (sym went.seen)
        (prefix_longer m.0.seen went.order (placed place added) went.longer);
    also = went.also;
    shares = went.shares;
    others = went.views;
    carries = went.carries;
    within = went.within;
    owns = λ _. went.owns;
  }

  pub same_trans : (before mid after : Seat (Spot O C R) (Sight O C R)) → IsSame place before mid →
      IsSame place mid after → IsSame place before after
  same_trans before mid after one two = (two.0 ∙ one.0, two.1 ∙ one.1, only_trans before.me mid.me after.me one.2 two.2)

-- The pass is still one of the table, and knows the object that was first at the place.
pub at_after : {O C R : Type 0} (table : TableId) (lock : LockView O) (before after : Seat (Spot O C R) (Sight O C R))
    → IsAt table lock before → IsSame lock.place before after
    → (view_at lock.place after.me.0).opening ≡ (view_at lock.place before.me.0).opening → IsAt table lock after
at_after table lock before after at same opening =
    let less = at.1 in
    let many = same.2.many in
    (same.0 ∙ at.0, omega arith, opening ∙ at.2, same.2.carries, same.2.within)

module _ {O C R : Type 0} (moves : O → C → R → O → Type 0) (counted : O → ℕ × ℕ) (o : O) where
  -- A look after other looks shows that the turn has begun.
  pub looked_mine : (v : View O C R) (ticket : ℕ) (m : Mine O C R) (n : ℕ) (m' : Mine O C R) → SawMore v m →
      v.tickets ≡ ticket ∷ [] → Looked moves counted o m n m' → n ≡ ticket → TurnCame moves counted o v ticket m'
  looked_mine v ticket m n m' saw one look is =
      let held : m.0.tickets ≡ n ∷ [] =
      ap (λ (x : Mine O C R). x.0.tickets) saw.is ∙ one ∙ ap (λ (k : ℕ). k ∷ []) (sym is) in
      turn_later moves counted o v ticket m m' saw
      (subst (λ (k : ℕ). TurnCame moves counted o m.0 k m') is (look.mine held))

  -- A look after other looks shows that the turn has not begun.
  pub looked_other : (v : View O C R) (ticket : ℕ) (m : Mine O C R) (n : ℕ) (m' : Mine O C R) → SawMore v m →
      v.tickets ≡ ticket ∷ [] → Looked moves counted o m n m' → n ≢ ticket → SawMore v m'
  looked_other v ticket m n m' saw one look other =
      let held : m.0.tickets ≡ ticket ∷ [] = ap (λ (x : Mine O C R). x.0.tickets) saw.is ∙ one in
      saw_later v m m' saw
      (record { log = look.log; longer = look.longer; is = look.other (not_held n ticket m.0.tickets held other) })
