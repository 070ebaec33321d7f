use Rattle.sysv_buffer.specs.Turns.{IsSame, Reached}
use Rattle.sysv_buffer.proofs.buffer.OneBuffer.spin_room.Given as goal

-- What was found last.
abbrev pub invariant-loop : goal.invariant-loop
invariant-loop g l =
    record { same : IsSame l.fn.token l.token; reached : Reached l.self.room l.fn.token.me.0.put l.found l.token.me }
