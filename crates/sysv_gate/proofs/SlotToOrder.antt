-- The turn of a pass at a place, from the slot to the order.
use Rattle.std.proofs.Common.{◌≡◌, ℕ, ◌+◌, ◌%◌, ◌^◌, ◌≤◌, true, List, [], ◌∷◌, ◌++◌, map, sym, ap, ◌∙◌, subst, refl}
use Rattle.std.specs.Prelude.{Some}
use mathlib.Core.Option.{none}
use Rattle.atomic_table.specs.Table.{step, rest}
use Rattle.sysv_gate.specs.declared.table.view.View.{View}
use Rattle.sysv_gate.specs.declared.table.view.Turn.{Turn}
use Rattle.sysv_gate.specs.declared.table.place.Done.{Done}
use Rattle.sysv_lists.specs.Numbers.{times}
use Rattle.sysv_lists.specs.Prefix.{IsPrefixOf}
use Rattle.sysv_lists.proofs.Prefixes.{prefix_self, prefix_trans}
use Rattle.std.proofs.lemmas.List.{set-get_or}
use Rattle.sysv_gate.specs.Rule.{Spot, put, GatedBy}
use Rattle.sysv_gate.specs.History.{after_all}
use Rattle.sysv_gate.specs.Counts.{of_count}
use Rattle.sysv_gate.specs.declared.count.Count.{Count}
use Rattle.sysv_gate.specs.Steps.{Mine, turn_of, ended, spent, Ends}
use Rattle.sysv_gate.specs.Orders.{turns_at, placed}
use Rattle.sysv_gate.specs.Tables.{view_at, Passing, me_at, Carries}
use Rattle.sysv_gate.specs.Plays.{StepsAt, turns_told}
use Rattle.sysv_gate.specs.Locks.{Only, EndsOrder}
use Rattle.sysv_gate.proofs.OrderByPlace.{turns_append, turns_here}
use Rattle.sysv_gate.proofs.OneSlotStep.{AllowsTo}
use Rattle.sysv_gate.proofs.StepKeepsRule.{ends}

module _ {O C R : Type 0} where
  -- The only slot that the pass holds is that of the place.
  pub out_there : (place : ℕ) (m : Passing O C R) (s : Spot O C R) → Carries place m → (me_at place m).1 ≡ (0, s) ∷ [] →
      m.1 ≡ (place, s) ∷ []
  out_there place m s carries out = from m.1 carries out
    where
      from : (xs : List (ℕ × Spot O C R)) → xs ≡ map {B = ℕ × Spot O C R} (λ (x : ℕ × Spot O C R). (place, x.1)) xs →
          map {B = ℕ × Spot O C R} (λ (x : ℕ × Spot O C R). (0, x.1)) xs ≡ (0, s) ∷ [] → xs ≡ (place, s) ∷ []
      from [] all out = absurd (cc)
      from (x ∷ []) all out =
          let same : (0, x.1) ≡ (0, s) = cc in
          all ∙ ap (λ (y : ℕ × Spot O C R). (place, y.1) ∷ []) same
      from (x ∷ y ∷ ys) all out = absurd (cc)

  -- What was lent is what was in the slot.
  pub lent_there : (slot : ℕ) (xs ys : List (ℕ × Spot O C R)) (lent s : Spot O C R) → xs ≡ (slot, lent) ∷ ys →
      xs ≡ (slot, s) ∷ [] → lent ≡ s
  lent_there slot xs ys lent s had out =
      let pair : (slot, lent) ≡ (slot, s) = cc in
      ap (λ (x : ℕ × Spot O C R). x.1) pair

  -- Another value was written into the slot.
  pub written_there : (slot : ℕ) (m : Passing O C R) (s x : Spot O C R) → m.1 ≡ (slot, s) ∷ [] →
      ◌≡◌ {A = Passing O C R} (m.0, (slot, x) ∷ rest m.1) (m.0, (slot, x) ∷ [])
  written_there slot m s x out = ap (λ (xs : List (ℕ × Spot O C R)). (m.0, (slot, x) ∷ rest xs)) out

  -- Only the contents of the slot have changed.
  pub refilled_only : (place : ℕ) (m m' : Passing O C R) (x : Spot O C R) → m' ≡ (m.0, (place, x) ∷ []) →
      IsPrefixOf (view_at place m.0).seen (turns_at place m.0.seen) → Only place m m'
  refilled_only place m m' x is within = subst (Only place m) (sym is) (record {
    many = refl;
    order = prefix_self m.0.seen;
    also = refl;
    shares = refl;
    others = sym (set-get_or m.0.views place spent);
    carries = refl;
    within = within;
    owns = λ o. o;
  })

  -- The turn that the slot records is appended to the history.
  pub ends_told : (moves : O → C → R → O → Type 0) (counted : O → ℕ × ℕ) (opening : O) (first : ℕ)
      (log : List (Turn O C R)) (slots id : ℕ) (me : Mine O C R) (v : View O C R) (o : O) (ticket : ℕ) (after : O)
      (done : Done C R)
      → me ≡ (v, (0, put after (Some done)) ∷ []) → v.opening ≡ Some o → v.tickets ≡ ticket ∷ [] → v.in_turn ≡ true
      → 1 ≤ times v.number v.numbers → moves (after_all o v.seen) done.call.value done.reply.value after
      → ((count : Count)
      → of_count count (counted after) ≡ of_count count (counted (after_all o v.seen)) + of_count count v.announced)
      → AllowsTo (GatedBy moves counted opening first log) (GatedBy moves counted opening first (log ++ turns_told me))
      slots id me 16 (λ n. (n + 1) % 2 ^ 64) (Ends (step slots 16 1 0 none) me)
  ends_told moves counted opening first log slots id me v o ticket after done has knows one turn named move announced =
      subst (λ (l : List (Turn O C R)).
      AllowsTo (GatedBy moves counted opening first log) (GatedBy moves counted opening first (log ++ l)) slots id me 16
      (λ n. (n + 1) % 2 ^ 64) (Ends (step slots 16 1 0 none) me)) (sym (ap turns_told has))
      (ends moves counted opening first log slots id me v o ticket after done has knows one turn named move announced)

  -- The turn is the last of the order.
  pub ends_order : (place : ℕ) (m mid m' : Passing O C R) (told : Mine O C R → Type 0) (v : View O C R) (call : C)
      (reply : R) (after : O) (rest' : List (ℕ × Spot O C R))
      → Only place m mid → StepsAt place (turns_told (me_at place mid)) told mid m'
      → turns_told (me_at place mid) ≡ turn_of v call reply after ∷ [] → view_at place mid.0 ≡ v → v.in_turn ≡ true
      → me_at place m' ≡ (ended v call reply after, rest') → EndsOrder place m m'
  ends_order place m mid m' told v call reply after rest' only went adds is turn ends =
      let t : Turn O C R = turn_of v call reply after in
      let order : m'.0.seen ≡ went.order ++ record { place = place; turn = t } ∷ [] =
      went.seen ∙ ap (λ (ts : List (Turn O C R)). went.order ++ placed place ts) adds in
      let whole : v.seen ≡ turns_at place went.order =
      ap (λ (u : View O C R). u.seen) (sym is) ∙ went.turn (ap (λ (u : View O C R). u.in_turn) is ∙ turn) in
      record {
        front = went.order;
        turn = t;
        longer = prefix_trans m.0.seen mid.0.seen went.order only.order went.longer;
        order = order;
        seen = ap (λ (n : Mine O C R). n.0.seen) ends
            ∙ ap (λ (l : List (Turn O C R)). l ++ t ∷ []) whole
            ∙ sym (ap (turns_at place) order ∙ turns_append place went.order (record { place = place; turn = t } ∷ [])
            ∙ ap (λ (l : List (Turn O C R)). turns_at place went.order ++ l) (turns_here place (t ∷ [])));
        by = ap (λ (n : Mine O C R). n.0.number) (sym ends);
      }
