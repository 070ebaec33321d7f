use Rattle.std.proofs.Common.{refl, ap, subst, ◌∙◌, w64, FitsSigned, rules}
use Rattle.std.proofs.lemmas.Int.{to_z-of_z}
use Rattle.std.specs.List.{slice_get}
use Rattle.sysv_messages.specs.Entries.{IsIndex}
use Rattle.sysv_messages.proofs.Selection.{earliest_selected, lowest_selected, first_selected}
use Rattle.sysv_messages.proofs.index.Index.select.Goals as goal

pub returns-in-Any-clause-selected : goal.returns-in-Any-clause-selected
returns-in-Any-clause-selected g c =
    earliest_selected c.args.self.now c.args.sel c.earliest.result c.in-Any.is
    (c.earliest.ensures.first ∙ ap (λ es. slice_get es 0) c.self.view_is)

pub returns-in-UpTo-clause-selected : goal.returns-in-UpTo-clause-selected
returns-in-UpTo-clause-selected g c =
    let x = subst (λ es. IsIndex es c.self.inside.by_type.entries.items) c.self.view_is c.self.invariant.0 in
    lowest_selected c.args.self.now c.self.inside.by_type.entries.items _ x refl c.args.sel c.in-UpTo.field-0
    c.lowest.result c.in-UpTo.is c.lowest.ensures.found

pub returns-in-Exactly-clause-selected : goal.returns-in-Exactly-clause-selected
returns-in-Exactly-clause-selected g c =
    let x = subst (λ es. IsIndex es c.self.inside.by_type.entries.items) c.self.view_is c.self.invariant.0 in
    let fits : FitsSigned w64 c.in-Exactly.mtype = search rules in
    first_selected c.args.self.now c.self.inside.by_type.entries.items _ x refl c.args.sel c.in-Exactly.mtype _
    c.first_of.result c.in-Exactly.is (to_z-of_z w64 c.in-Exactly.mtype fits) c.first_of.ensures.found
