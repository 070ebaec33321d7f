use Rattle.std.proofs.Common.{arith, refl, ◌∙◌}
use Rattle.sysv_model.specs.Instrumented.{stream_of}
use Rattle.sysv_script.proofs.RunSofar.{begins_text}
use Rattle.sysv_script.proofs.ScriptEnds.{RunsNext-on, RunsNext-end}
use Rattle.sysv_script.proofs.StreamLemmas.{Grows-none, Grows-trans}
use Rattle.sysv_script.proofs.script.Run.run_lines.Goals as goal

pub loop-passed-init : goal.loop-passed-init
loop-passed-init g c = record {
  grows = Grows-none (g.W.Write.contents (stream_of c.args.writer.now));
  runs = λ s seen text t.
      begins_text s c.args.self.now.stage text c.args.self.now.input (g.R.Read.remaining (stream_of c.args.reader.now))
      (g.W.Write.contents (stream_of c.args.writer.now)) c.args.self.now.output c.requires seen t;
  same_reader = refl;
  same_writer = refl;
  reader_failed = refl;
  writer_failed = refl;
}

pub loop-passed-preserved : goal.loop-passed-preserved
loop-passed-preserved g c = record {
  grows = Grows-trans _ _ _ c.loop-passed.invariant.grows c.in-Ok-true.ensures.grows;
  runs = λ s seen text t.
      RunsNext-on c.in-Ok-true.field-0 _ _ _ _ _ _ _ _ _ c.in-Ok-true.field-0-test
      (c.in-Ok-true.ensures.runs s text _ (c.loop-passed.invariant.runs s seen text t));
  same_reader = c.in-Ok-true.ensures.reader.same ∙ c.loop-passed.invariant.same_reader;
  same_writer = c.in-Ok-true.ensures.writer.same ∙ c.loop-passed.invariant.same_writer;
  reader_failed = c.in-Ok-true.ensures.reader.failed ∙ c.loop-passed.invariant.reader_failed;
  writer_failed = c.in-Ok-true.ensures.writer.failed ∙ c.loop-passed.invariant.writer_failed;
}

pub returns-in-Ok-false-clause-prints : goal.returns-in-Ok-false-clause-prints
returns-in-Ok-false-clause-prints g c = λ s seen text t.
    RunsNext-end c.in-Ok-false.field-0 _ _ _ _ _ _ _ _ _ c.in-Ok-false.field-0-test
    (c.in-Ok-false.ensures.runs s text _ (c.loop-passed.invariant.runs s seen text t))

pub returns-in-Ok-false-clause-grows : goal.returns-in-Ok-false-clause-grows
returns-in-Ok-false-clause-grows g c = Grows-trans _ _ _ c.loop-passed.invariant.grows c.in-Ok-false.ensures.grows

pub returns-in-Err-clause-prints : goal.returns-in-Err-clause-prints
returns-in-Err-clause-prints g c = λ s seen text t.
    c.in-Err.ensures.runs s text _ (c.loop-passed.invariant.runs s seen text t)

pub returns-in-Err-clause-grows : goal.returns-in-Err-clause-grows
returns-in-Err-clause-grows g c = Grows-trans _ _ _ c.loop-passed.invariant.grows c.in-Err.ensures.grows

pub returns-clause-prints : goal.returns-clause-prints
returns-clause-prints g c = λ s seen text t.
    c.expect_end.ensures.runs s text _ _ (omega (arith, c.loop-passed-test.false))
    (c.loop-passed.invariant.runs s seen text t)

pub returns-clause-grows : goal.returns-clause-grows
returns-clause-grows g c = Grows-trans _ _ _ c.loop-passed.invariant.grows c.expect_end.ensures.grows
