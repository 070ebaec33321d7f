-- A user and a group are those around the mark.
use Rattle.sysv_options.proofs.EntranceLemmas.{ids_of_parts, no_ids}
use Rattle.sysv_options.proofs.asked.ids_in.Goals as goal

pub returns-in-Some : goal.returns-in-Some
returns-in-Some c =
    ids_of_parts c.one_split.ensures c.args.text.now c.in-Some.user.now c.in-Some.group.now c.both_ids.result
    c.in-Some.ensures c.both_ids.ensures

pub returns-in-None : goal.returns-in-None
returns-in-None c = no_ids c.one_split.ensures c.args.text.now c.in-None.ensures
