use Rattle.std.proofs.Common.{◌≡◌, ℕ, ◌-◌, ◌≤◌, length, take}
use Rattle.sysv_model.specs.Instrumented.{failures_of, stream_name, stream_of}
use Rattle.sysv_script.specs.Found.{HasNoEnd, IsFirstLine}
use Rattle.sysv_script.specs.Streams.{HandsOn, TakesIn}
use Rattle.sysv_script.specs.declared.input.TheConstants.{INPUT_ROOM}
use Rattle.sysv_script.proofs.line_reader.next_line.Given as goal

abbrev pub invariant-loop-found : goal.invariant-loop-found
invariant-loop-found g l = record {
  within : l.seen ≤ length l.input;
  before : HasNoEnd (take l.seen l.input);
  -- If the end of a line was pending at the start, no read was made.
  at_once : (len : ℕ) → IsFirstLine len l.initial.input →
      (l.input ≡ l.initial.input) × (l.output ≡ l.initial.output) × (l.reader ≡ l.initial.reader)
      × (l.writer ≡ l.initial.writer);
  text : TakesIn (g.R.Read.remaining (stream_of l.initial.reader)) l.initial.input
      (g.R.Read.remaining (stream_of l.reader)) l.input;
  answers : HandsOn (g.W.Write.contents (stream_of l.initial.writer)) l.initial.output
      (g.W.Write.contents (stream_of l.writer)) l.output;
  same_reader : stream_name l.reader ≡ stream_name l.initial.reader;
  same_writer : stream_name l.writer ≡ stream_name l.initial.writer;
  reader_failed : failures_of l.reader ≡ failures_of l.initial.reader;
  writer_failed : failures_of l.writer ≡ failures_of l.initial.writer;
}

abbrev pub decreases-loop-found : goal.decreases-loop-found
decreases-loop-found g l = INPUT_ROOM - length l.input
