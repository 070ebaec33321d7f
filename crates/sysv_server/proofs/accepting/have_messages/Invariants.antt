-- Rows were read, and nothing else was done with what reads them.
use Rattle.sysv_engine.specs.Looks.{Looks}
use Rattle.sysv_server.proofs.accepting.have_messages.Given as goal

abbrev pub invariant-loop-slot : goal.invariant-loop-slot
invariant-loop-slot g l = Looks l.fn.rows l.rows
