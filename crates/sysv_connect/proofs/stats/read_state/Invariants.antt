-- What was read so far is the state so far.
use Rattle.std.specs.Io.KnownBytes.{Consumes}
use Rattle.sysv_connect.proofs.stats.read_state.Given as goal

abbrev pub invariant-loop : goal.invariant-loop
invariant-loop g l =
    Consumes (g.R.Read.remaining l.fn.reader) (g.R.Read.remaining l.reader) l.state.items
