use Rattle.std.proofs.Common.{◌≡◌, ◌≢◌, ◌<◌, ◌≤◌, Some, length, sym, ap, ◌∙◌, rules, arith}
use Rattle.std.proofs.lemmas.Option.{slice_get_within, slice_get-get_or}
use Rattle.std.specs.List.{remove, slice_get}
use Rattle.std.proofs.lemmas.List.Sorted.{IsPartitionPoint-from_clause}
use Rattle.sysv_messages.specs.declared.entry.Entry.{Entry}
use Rattle.sysv_messages.proofs.EntryLists.{one_there, others_present, others_absent}
use Rattle.sysv_messages.proofs.Removal.{below, parted_by_number, rising_differ, none_of_number}
use Rattle.sysv_messages.proofs.rows.Row.remove_number.Goals as goal

pub returns-in-Some-clause-others : goal.returns-in-Some-clause-others
returns-in-Some-clause-others c =
    let xs = c.args.self.now.entries.items in
    let at = c.partition_point-at.result in
    let within : at < length xs = search rules in
    let there : slice_get xs at ≡ Some c.in-Some.found.now =
    slice_get-get_or xs at c.in-Some.found.now within ∙ ap Some (sym c.in-Some.ensures.lookup) in
    let is : c.in-Some.found.now.number ≡ c.args.number = search rules in
    let out : c.take_at.new.self.entries.items ≡ remove xs at = search rules in
    out
    ∙ sym (others_present (λ (o : Entry). o.number) c.args.number xs at c.in-Some.found.now there is
    (rising_differ xs c.requires.rising))

pub returns-in_default-clause-removed : goal.returns-in_default-clause-removed
returns-in_default-clause-removed c =
    let xs = c.args.self.now.entries.items in
    let n = c.args.number in
    let at = c.partition_point-at.result in
    let point = IsPartitionPoint-from_clause (below n) xs at c.partition_point-at.ensures.partitioned
    (parted_by_number xs n c.requires.rising) (λ a r q k. search rules) in
    let within : at < length xs = search rules in
    let there : slice_get xs at ≡ Some c.in-Some.found.now =
    slice_get-get_or xs at c.in-Some.found.now within ∙ ap Some (sym c.in-Some.ensures.lookup) in
    let other : c.in-Some.found.now.number ≢ n = search rules in
    none_of_number xs n at c.requires.rising point
    (λ e here same. other (ap (λ (o : Entry). o.number) (one_there xs at c.in-Some.found.now e there here) ∙ same))

pub returns-in_default-clause-others : goal.returns-in_default-clause-others
returns-in_default-clause-others c =
    sym (others_absent (λ (o : Entry). o.number) c.args.number c.args.self.now.entries.items
    (returns-in_default-clause-removed c))

pub returns-in_default-2-clause-removed : goal.returns-in_default-2-clause-removed
returns-in_default-2-clause-removed c =
    let xs = c.args.self.now.entries.items in
    let n = c.args.number in
    let at = c.partition_point-at.result in
    let point = IsPartitionPoint-from_clause (below n) xs at c.partition_point-at.ensures.partitioned
    (parted_by_number xs n c.requires.rising) (λ a r q k. search rules) in
    let over : length xs ≤ at = search rules in
    none_of_number xs n at c.requires.rising point
    (λ e here same. let within = slice_get_within xs at e here in omega arith)

pub returns-in_default-2-clause-others : goal.returns-in_default-2-clause-others
returns-in_default-2-clause-others c =
    sym (others_absent (λ (o : Entry). o.number) c.args.number c.args.self.now.entries.items
    (returns-in_default-2-clause-removed c))
