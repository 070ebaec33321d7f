-- An interrupted read consumes nothing, and the buffer keeps its length.
use Rattle.std.proofs.Common.{◌≡◌, length}
use Rattle.std.specs.Io.KnownBytes.{Keeps}
use Rattle.sysv_clients.specs.Feed.{feed_name, feed_stream}
use Rattle.sysv_clients.proofs.input_lines.read_some.Given as goal

abbrev pub invariant-loop : goal.invariant-loop
invariant-loop g l = (length l.buffer ≡ length l.initial.buffer)
    × Keeps (g.I.Read.remaining (feed_stream l.initial.input)) (g.I.Read.remaining (feed_stream l.input))
    × (feed_name l.input ≡ feed_name l.initial.input)
