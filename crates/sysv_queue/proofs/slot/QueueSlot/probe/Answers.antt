use Rattle.std.proofs.Common.{sym, subst, w32}
use Rattle.std.proofs.lemmas.Int.{to_z-of_z}
use Rattle.sysv_queue.specs.Granted.{MayAsAsked}
use Rattle.sysv_queue.proofs.Turns.{quiet_probe}
use Rattle.sysv_queue.proofs.Stands.{turn_quiet}
use Rattle.sysv_queue.proofs.slot.QueueSlot.probe.Goals as goal

pub returns-in-Some : goal.returns-in-Some
returns-in-Some c =
    let found = rw (to_z-of_z w32 c.args.id c.ranges.id) at c.in-Some.ensures in
    let granted : MayAsAsked c.args.flags c.args.cred c.args.self.now.live =
    subst (MayAsAsked c.args.flags c.args.cred) (sym found.0) (c.may_as_asked.ensures.0 c.if-may_as_asked.true) in
    record { turn = turn_quiet _ _ _ (quiet_probe c.args.id c.args.cred c.args.flags _) (found.1, granted) }

pub returns-in-Some-2 : goal.returns-in-Some-2
returns-in-Some-2 c =
    let found = rw (to_z-of_z w32 c.args.id c.ranges.id) at c.in-Some.ensures in
    let denied : ¬ MayAsAsked c.args.flags c.args.cred c.args.self.now.live = λ granted.
    let t = c.may_as_asked.ensures.1 (subst (MayAsAsked c.args.flags c.args.cred) found.0 granted) in cc in
    record { turn = turn_quiet _ _ _ (quiet_probe c.args.id c.args.cred c.args.flags _) (found.1, denied) }

pub returns-in-None : goal.returns-in-None
returns-in-None c =
    let gone = rw (to_z-of_z w32 c.args.id c.ranges.id) at c.in-None.ensures in
    record { turn = turn_quiet _ _ _ (quiet_probe c.args.id c.args.cred c.args.flags _) gone }
