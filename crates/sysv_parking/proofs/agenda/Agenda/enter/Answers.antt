-- A place for whose line memory was refused is due.
use Rattle.std.proofs.Common.{◌≡◌, ◌≤◌, ◌⊎◌, ◌∙◌, ◌||◌, ℕ, zero, suc, inl, inr, Bool, true, false, List, [], ◌∷◌, ap}
use Rattle.std.proofs.Common.{arith, length, refl, slice_index_or, slice_set, sym, subst}
use Rattle.sysv_parking.specs.declared.due.Why.{Why}
use Rattle.sysv_parking.specs.Due.{both, by_all, not_due}
use Rattle.sysv_parking.proofs.agenda.Agenda.enter.Goals as goal

or_true : (b : Bool) → (b || true) ≡ true
or_true true = refl
or_true false = refl

abbrev for_both : Bool → Bool → Why
for_both changed raised = record { changed = changed; raised = raised }

both_all : (why : Why) → both why by_all ≡ by_all
both_all why =
    ap (λ (b : Bool). for_both b (why.raised || true)) (or_true why.changed)
    ∙ ap (λ (b : Bool). for_both true b) (or_true why.raised)

-- What was set at a place of a list is there, unless the place is beyond the list.
at_set : (whys : List Why) (place : ℕ) (why : Why) → (slice_index_or (slice_set whys place why) place not_due ≡ why)
    ⊎ (length (slice_set whys place why) ≤ place)
at_set [] place why = inr (omega arith)
at_set (x ∷ whys) zero why = inl refl
at_set (x ∷ whys) (suc place) why = elim (at_set whys place why) [
  | inl is ↦ inl is
  | inr out ↦ inr (omega (arith, out))
]

pub returns-clause-due : goal.returns-clause-due
returns-clause-due c = λ refused.
    let place = c.args.place in
    let was = slice_index_or c.self.inside.lines.why place not_due in
    subst (λ (whys : List Why). (slice_index_or whys place not_due ≡ by_all) ⊎ (length whys ≤ place))
    (sym (c.enter.ensures.due refused))
    (elim (at_set c.self.inside.lines.why place (both was by_all)) [
      | inl is ↦ inl (is ∙ both_all was)
      | inr out ↦ inr out
    ])
