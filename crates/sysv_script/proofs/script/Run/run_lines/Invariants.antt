use Rattle.std.proofs.Common.{◌≡◌, ◌+◌, ℕ, List}
use Rattle.sysv_model.specs.Instrumented.{failures_of, stream_name, stream_of}
use Rattle.sysv_script.specs.ScriptState.{ScriptState}
use Rattle.sysv_script.specs.Staged.{IsScriptStateOf}
use Rattle.sysv_script.specs.Faults.{Grows}
use Rattle.sysv_script.specs.ScriptSofar.{IsText, RunsOn}
use Rattle.sysv_script.proofs.script.Run.run_lines.Given as goal

abbrev pub invariant-loop-passed : goal.invariant-loop-passed
invariant-loop-passed g l = record {
  grows : Grows (g.W.Write.contents (stream_of l.initial.writer)) (g.W.Write.contents (stream_of l.writer));
  runs : (s : ScriptState) → IsScriptStateOf s l.initial.self.stage → (text : List ℕ) →
      IsText l.initial.self.input (g.R.Read.remaining (stream_of l.initial.reader)) text →
      RunsOn s text (g.W.Write.contents (stream_of l.initial.writer)) (l.passed + 1) l.self.stage l.self.input
      (g.R.Read.remaining (stream_of l.reader)) (g.W.Write.contents (stream_of l.writer)) l.self.output;
  same_reader : stream_name l.reader ≡ stream_name l.initial.reader;
  same_writer : stream_name l.writer ≡ stream_name l.initial.writer;
  reader_failed : failures_of l.reader ≡ failures_of l.initial.reader;
  writer_failed : failures_of l.writer ≡ failures_of l.initial.writer;
}
