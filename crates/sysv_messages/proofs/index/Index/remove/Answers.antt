use Rattle.std.proofs.Common.{◌==◌, not, ap, subst, ◌∙◌, arith}
use Rattle.std.specs.List.{filter}
use Rattle.sysv_messages.specs.declared.entry.Entry.{Entry}
use Rattle.sysv_messages.specs.Entries.{IsIndex}
use Rattle.sysv_messages.proofs.EntryLists.{others, others_absent}
use Rattle.sysv_messages.proofs.Changes.{types_differ, held_of, none_of, removed, removed_one}
use Rattle.sysv_messages.proofs.index.Index.remove.Goals as goal

pub remove_entry-requires-clause-differ : goal.remove_entry-requires-clause-differ
remove_entry-requires-clause-differ c =
    types_differ c.self.inside.by_number.entries.items c.self.inside.by_type.entries.items c.self.invariant.0

pub remove_entry-requires-clause-held : goal.remove_entry-requires-clause-held
remove_entry-requires-clause-held c =
    held_of c.self.inside.by_number.entries.items c.self.inside.by_type.entries.items c.self.invariant.0 c.in-Some.entry
    c.in-Some.ensures.removed.0

pub invariant_of-self : goal.invariant_of-self
invariant_of-self c =
    let entries = c.self.inside.by_number.entries.items in
    let by_type = c.self.inside.by_type.entries.items in
    let kept = removed entries by_type c.self.invariant.0 c.in-Some.entry.number in
    let asked = subst (λ n.
    IsIndex (others (λ (e : Entry). e.number) n entries)
    (others (λ (e : Entry). e.number) c.in-Some.entry.number by_type)) c.in-Some.ensures.removed.1 kept in (
      rw (c.remove_number.ensures.others, c.remove_entry.ensures.others) asked,
      omega (arith, c.remove_number.ensures.roomy, c.self.invariant.1),
      omega (arith, c.remove_entry.ensures.roomy, c.self.invariant.2),
    )

pub invariant_of-self-in_default : goal.invariant_of-self-in_default
invariant_of-self-in_default c =
    let entries = c.self.inside.by_number.entries.items in
    let by_type = c.self.inside.by_type.entries.items in
    let kept = removed entries by_type c.self.invariant.0 c.args.number in
    let same = others_absent (λ (e : Entry). e.number) c.args.number by_type
    (none_of entries by_type c.self.invariant.0 c.args.number c.in_default.ensures.removed) in (
      rw c.remove_number.ensures.others
          (subst (λ ts. IsIndex (others (λ (e : Entry). e.number) c.args.number entries) ts) same kept),
      omega (arith, c.remove_number.ensures.roomy, c.self.invariant.1),
      c.self.invariant.2,
    )

pub returns-in-Some-clause-removed : goal.returns-in-Some-clause-removed
returns-in-Some-clause-removed c position entry there is =
    let x = subst (λ es. IsIndex es c.self.inside.by_type.entries.items) c.self.view_is c.self.invariant.0 in
    c.remove_number.ensures.others
    ∙ (ap (λ es. filter (λ (e : Entry). not (e.number == c.args.number)) es) c.self.view_is
    ∙ removed_one c.args.self.now c.self.inside.by_type.entries.items x c.args.number position entry there is)

pub returns-in_default-clause-removed : goal.returns-in_default-clause-removed
returns-in_default-clause-removed c position entry there is =
    let x = subst (λ es. IsIndex es c.self.inside.by_type.entries.items) c.self.view_is c.self.invariant.0 in
    c.remove_number.ensures.others
    ∙ (ap (λ es. filter (λ (e : Entry). not (e.number == c.args.number)) es) c.self.view_is
    ∙ removed_one c.args.self.now c.self.inside.by_type.entries.items x c.args.number position entry there is)
