use Rattle.std.proofs.Common.{◌<ℤ◌, ◌≤ℤ◌, length, ap, subst, w64, of_z}
use Rattle.std.specs.List.{AllWithin}
use Rattle.std.proofs.lemmas.Int.{to_z-of_z}
use Rattle.sysv_messages.specs.declared.entry.Entry.{Entry}
use Rattle.sysv_messages.proofs.SortedEntries.{none_of_type}
use Rattle.sysv_messages.proofs.index.first_of.Goals as goal

pub returns-else-found-mtype-clause-found : goal.returns-else-found-mtype-clause-found
returns-else-found-mtype-clause-found g c =
    let xs = c.args.by_type.now.entries.items in
    let at = c.first_from-at.result in
    let same = to_z-of_z w64 c.args.mtype c.ranges.mtype in
    none_of_type xs c.args.mtype at c.probe-found.result c.requires c.probe-found.ensures.read
    (subst (λ t. AllWithin (λ (e : Entry). e.mtype <ℤ t) xs 0 at) same c.first_from-at.ensures.below)
    (subst (λ t. AllWithin (λ (e : Entry). t ≤ℤ e.mtype) xs at (length xs)) same c.first_from-at.ensures.above)
    (λ is. c.if-found-mtype.false (ap (of_z w64) is))
