use Rattle.std.proofs.Common.{◌≡◌, ◌∙◌, Result, sym, subst}
use Rattle.std.specs.Prelude.{Err, IfErr, ⊤}
use Rattle.sysv_model.specs.Instrumented.{failures_of, failures_after, stream_of}
use Rattle.sysv_script.specs.declared.fault.ScriptFault.{ScriptFault}
use Rattle.sysv_script.specs.declared.fault.ScriptFault.TheVariants.{NoMemory}
use Rattle.sysv_script.specs.Faults.{TellsBadLine, is_read_fault, is_write_fault}
use Rattle.sysv_script.specs.Written.{WritesScript}
use Rattle.sysv_script.proofs.FaultLemmas.{tells_end, grows_end, reader_ended, writer_ended}
use Rattle.sysv_script.proofs.ScriptEnds.{writes_none, writes_end, script_runs}
use Rattle.sysv_script.proofs.script.run_script.Goals as goal

pub returns-in_default-clause-prints : goal.returns-in_default-clause-prints
returns-in_default-clause-prints g c = λ text known.
    writes_none c.one_text.ensures c.each_text_prints.ensures text (g.W.Write.contents (stream_of c.args.writer.now))

pub returns-clause-prints : goal.returns-clause-prints
returns-clause-prints g c = λ text known.
    subst (λ r.
    WritesScript r text (g.W.Write.contents (stream_of c.args.writer.now))
    (g.W.Write.contents (stream_of c.end.new.writer)) (g.R.Read.remaining (stream_of c.run_lines-ended.new.reader)))
    (sym c.and.ensures)
    (writes_end c.one_text.ensures c.each_text_prints.ensures c.end.result c.run_lines-ended.result text _ _ _ _ _
    c.end.ensures.ok c.end.ensures.err c.end.ensures.fault
    (script_runs c.run_lines-ended.result _ _ text _ _ _ _ _ c.in-Ok.ensures.0 c.in-Ok.ensures.1 known
    c.run_lines-ended.ensures.prints))

pub returns-in_default-clause-obeys : goal.returns-in_default-clause-obeys
returns-in_default-clause-obeys g c = λ text known.
    c.each_script_obeys.ensures (Err NoMemory) text (g.W.Write.contents (stream_of c.args.writer.now))
    (g.W.Write.contents (stream_of c.args.writer.now)) (g.R.Read.remaining (stream_of c.args.reader.now))
    (returns-in_default-clause-prints g c text known)

pub returns-clause-obeys : goal.returns-clause-obeys
returns-clause-obeys g c = λ text known.
    c.each_script_obeys.ensures c.and.result text (g.W.Write.contents (stream_of c.args.writer.now))
    (g.W.Write.contents (stream_of c.end.new.writer)) (g.R.Read.remaining (stream_of c.run_lines-ended.new.reader))
    (returns-clause-prints g c text known)

pub returns-clause-grows : goal.returns-clause-grows
returns-clause-grows g c =
    grows_end c.end.result _ _ _ _ c.run_lines-ended.ensures.grows c.end.ensures.ok c.end.ensures.err

pub returns-clause-bad : goal.returns-clause-bad
returns-clause-bad g c =
    subst (λ r.
    IfErr r (λ fault.
    TellsBadLine fault (g.W.Write.contents (stream_of c.args.writer.now))
    (g.W.Write.contents (stream_of c.end.new.writer)))) (sym c.and.ensures)
    (tells_end c.end.result c.run_lines-ended.result _ _ _ _ c.run_lines-ended.ensures.grows c.end.ensures.ok
    c.end.ensures.fault c.run_lines-ended.ensures.bad)

pub returns-clause-reader : goal.returns-clause-reader
returns-clause-reader g c = record {
  same = c.run_lines-ended.ensures.reader.same;
  failed = subst (λ (r : Result ⊤ ScriptFault).
      failures_of c.run_lines-ended.new.reader ≡ failures_after (is_read_fault r) (failures_of c.args.reader.now))
      (sym c.and.ensures)
      (reader_ended c.end.result c.run_lines-ended.result _ _ _ c.end.ensures.fault c.end.ensures.empty
      c.run_lines-ended.ensures.none_left c.run_lines-ended.ensures.reader.failed);
}

pub returns-clause-writer : goal.returns-clause-writer
returns-clause-writer g c = record {
  same = c.end.ensures.stream.same ∙ c.run_lines-ended.ensures.writer.same;
  failed = subst (λ (r : Result ⊤ ScriptFault).
      failures_of c.end.new.writer ≡ failures_after (is_write_fault r) (failures_of c.args.writer.now))
      (sym c.and.ensures)
      (writer_ended c.end.result c.run_lines-ended.result _ _ _ _ c.end.ensures.empty
      c.run_lines-ended.ensures.none_left c.run_lines-ended.ensures.writer.failed c.end.ensures.stream.failed);
}
