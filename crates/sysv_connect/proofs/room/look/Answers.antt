-- A look at a queue writes its first request, or both.
use Rattle.std.proofs.Common.{rules}
use Rattle.std.specs.Int.{w32}
use Rattle.std.proofs.lemmas.Int.{to_z-of_z}
use Rattle.sysv_connect.proofs.EndLemmas.{looks_both, looks_first}
use Rattle.sysv_connect.proofs.room.look.Goals as goal

pub returns-in_err-id : goal.returns-in_err-id
returns-in_err-id g c =
    looks_first c.args.key _ c.empty.result _ _ (to_z-of_z w32 c.args.key c.ranges.key) (search rules)
    c.answer.ensures.part

pub returns-in_default : goal.returns-in_default
returns-in_default g c =
    looks_first c.args.key _ c.empty.result _ _ (to_z-of_z w32 c.args.key c.ranges.key) (search rules)
    c.answer.ensures.part

pub returns-in_err-stat : goal.returns-in_err-stat
returns-in_err-stat g c =
    looks_both c.args.key _ _ c.empty.result _ _ _ (to_z-of_z w32 c.args.key c.ranges.key) (search rules)
    c.in_ok-id.ensures.whole c.answer-2.ensures.part

pub returns-in-Stat : goal.returns-in-Stat
returns-in-Stat g c =
    looks_both c.args.key _ _ c.empty.result _ _ _ (to_z-of_z w32 c.args.key c.ranges.key) (search rules)
    c.in_ok-id.ensures.whole c.answer-2.ensures.part

pub returns-in_default-2 : goal.returns-in_default-2
returns-in_default-2 g c =
    looks_both c.args.key _ _ c.empty.result _ _ _ (to_z-of_z w32 c.args.key c.ranges.key) (search rules)
    c.in_ok-id.ensures.whole c.answer-2.ensures.part
