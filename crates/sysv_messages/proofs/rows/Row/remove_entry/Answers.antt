use Rattle.std.proofs.Common.{◌≡◌, sym, ap, ◌∙◌, rules, refl}
use Rattle.std.specs.List.{remove}
use Rattle.std.proofs.lemmas.List.Sorted.{IsPartitionPoint-from_clause}
use Rattle.sysv_messages.specs.declared.entry.Entry.{Entry}
use Rattle.sysv_messages.proofs.EntryLists.{place_of, others_present}
use Rattle.sysv_messages.proofs.Removal.{before, before_as_told, parted_by_type, one_place_by_type}
use Rattle.sysv_messages.proofs.rows.Row.remove_entry.Goals as goal

pub returns-clause-others : goal.returns-clause-others
returns-clause-others c =
    let xs = c.args.self.now.entries.items in
    let e = c.args.entry in
    let at = c.partition_point-at.result in
    let w = place_of xs e c.requires.held in
    let point = IsPartitionPoint-from_clause (before e) xs at c.partition_point-at.ensures.partitioned
    (parted_by_type xs e c.requires.sorted) (λ a r q k. (before_as_told e a.0.now r (search rules), search rules)) in
    let same = one_place_by_type xs e at w.0 c.requires.sorted w.1 point in
    let out : c.take_at-removed.new.self.entries.items ≡ remove xs at = search rules in
    out
    ∙ (ap (λ p. remove xs p) same
    ∙ sym (others_present (λ (o : Entry). o.number) e.number xs w.0 e w.1 refl c.requires.differ))
