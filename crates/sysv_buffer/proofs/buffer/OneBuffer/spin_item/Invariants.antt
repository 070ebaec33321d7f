use Rattle.sysv_buffer.specs.Turns.{IsSame, Looked}
use Rattle.sysv_buffer.proofs.buffer.OneBuffer.spin_item.Given as goal

-- What was found last.
abbrev pub invariant-loop : goal.invariant-loop
invariant-loop g l =
    record { same : IsSame l.fn.token l.token; looked : Looked l.self.room l.fn.token.me l.found l.token.me }
