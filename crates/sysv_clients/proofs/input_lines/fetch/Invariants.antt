-- The bytes read so far are those of the line, and none is an LF.
use Rattle.std.proofs.Common.{◌≡◌, ◌+◌, ◌-◌, ◌≤◌, length}
use Rattle.std.specs.Io.KnownBytes.{Consumes, prepend_known}
use Rattle.sysv_clients.specs.Feed.{feed_name, feed_stream}
use Rattle.sysv_clients.specs.Lines.{HasNoEnd}
use Rattle.sysv_clients.proofs.input_lines.fetch.Given as goal

abbrev pub invariant-loop-chunk : goal.invariant-loop-chunk
invariant-loop-chunk g l = record {
  has_no_end : HasNoEnd l.line;
  few : length l.line ≤ l.most + 1;
  so_far : Consumes (prepend_known l.initial.chunk (g.I.Read.remaining (feed_stream l.initial.input)))
      (prepend_known l.chunk (g.I.Read.remaining (feed_stream l.input))) l.line;
  same : feed_name l.input ≡ feed_name l.initial.input;
}

abbrev pub decreases-loop-chunk : goal.decreases-loop-chunk
decreases-loop-chunk g l = (l.most + 1) - length l.line
