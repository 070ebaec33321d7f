use Rattle.std.proofs.Common.{arith, refl, ◌∙◌}
use Rattle.std.proofs.lemmas.Result.{err_from_is_err_and}
use Rattle.std.proofs.KnownBytes.{Appends-nil}
use Rattle.sysv_clients.proofs.WindowLemmas.{keeps_appends}
use Rattle.sysv_clients.proofs.StreamLemmas.{one_more_wrote, whole_prefix, wrote_all, wrote_part}
use Rattle.sysv_clients.proofs.stream.request_more.Goals as goal

pub loop-written-init : goal.loop-written-init
loop-written-init g c = record { wrote = Appends-nil _; few = omega arith; same_writer = refl }

pub returns-in_err-put-clause-err : goal.returns-in_err-put-clause-err
returns-in_err-put-clause-err g c =
    let p = err_from_is_err_and c.from_residual.result c.from_residual.ensures.1 in
    rw p.1
    (wrote_part c.args.ask c.args.text.now c.loop-written.written c.args.count _ _ _ c.requires
    (omega (arith, c.loop-written-test.true)) c.loop-written.invariant.wrote c.in_err-put.ensures.err)

pub loop-written-preserved : goal.loop-written-preserved
loop-written-preserved g c = record {
  wrote = one_more_wrote c.args.ask c.args.text.now c.loop-written.written _ _ _ c.requires
      c.loop-written.invariant.wrote c.in_ok-put.ensures.ok;
  few = omega (arith, c.loop-written-test.true);
  same_writer = c.in_ok-put.ensures.stream.same ∙ c.loop-written.invariant.same_writer;
}

pub returns-in-Ok-clause-ok : goal.returns-in-Ok-clause-ok
returns-in-Ok-clause-ok g c =
    wrote_all c.args.ask c.loop-written.written c.args.count _ _ _
    (omega (arith, c.loop-written-test.false, c.loop-written.invariant.few)) c.loop-written.invariant.wrote
    (keeps_appends _ _ c.flush.ensures.bytes)

pub returns-in-Err-clause-err : goal.returns-in-Err-clause-err
returns-in-Err-clause-err g c =
    whole_prefix _ _ _
    (wrote_all c.args.ask c.loop-written.written c.args.count _ _ _
    (omega (arith, c.loop-written-test.false, c.loop-written.invariant.few)) c.loop-written.invariant.wrote
    (keeps_appends _ _ c.flush.ensures.bytes))
