use Rattle.std.proofs.Common.{rules, IsSome, w32}
use Rattle.std.proofs.lemmas.Int.{to_z-of_z}
use Rattle.sysv_queue.proofs.Turns.{quiet_install}
use Rattle.sysv_queue.proofs.Stands.{turn_quiet, turn_made}
use Rattle.sysv_queue.proofs.slot.QueueSlot.install.Goals as goal

pub returns-then-is_some-clause-turn : goal.returns-then-is_some-clause-turn
returns-then-is_some-clause-turn c =
    let taken : IsSome c.self.inside.live = search rules in
    rw (← c.self.view_is)
    (turn_quiet _ _ _ (quiet_install c.args.id c.args.key c.args.cred c.args.mode c.args.now) taken)

pub returns-clause-turn : goal.returns-clause-turn
returns-clause-turn c =
    rw (to_z-of_z w32 c.args.id c.ranges.id, to_z-of_z w32 c.args.key c.ranges.key, ← c.self.view_is)
    (turn_made _ c.args.id c.args.key c.args.cred c.args.mode c.args.now (search rules))
