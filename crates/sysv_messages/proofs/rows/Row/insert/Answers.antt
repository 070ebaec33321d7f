use Rattle.std.proofs.Common.{◌≡◌, rules}
use Rattle.std.specs.List.{insert}
use Rattle.std.specs.Int.Signed.{le_z}
use Rattle.std.proofs.lemmas.List.Sorted.{IsPartitionPoint-from_clause}
use Rattle.sysv_messages.specs.declared.entry.Entry.{Entry}
use Rattle.sysv_messages.proofs.SortedEntries.{parted, comes_in}
use Rattle.sysv_messages.proofs.rows.Row.insert.Goals as goal

pub returns-clause-inserted : goal.returns-clause-inserted
returns-clause-inserted c =
    let xs = c.args.self.now.entries.items in
    let e = c.args.entry in
    let point = IsPartitionPoint-from_clause (λ (o : Entry). le_z o.mtype e.mtype) xs c.partition_point-at.result
    c.partition_point-at.ensures.partitioned (parted xs e.mtype c.requires.sorted) (λ a r q k. search rules) in
    let is : c.insert.new.self.items ≡ insert xs c.partition_point-at.result e = search rules in
    comes_in xs c.insert.new.self.items e c.partition_point-at.result (search rules) point is
