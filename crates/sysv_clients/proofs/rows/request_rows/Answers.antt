use Rattle.std.proofs.Common.{ℕ, ap, arith, refl, true, ◌∙◌}
use Rattle.std.proofs.lemmas.Result.{err_from_is_err_and}
use Rattle.sysv_model.specs.Instrumented.{failures_after}
use Rattle.sysv_clients.proofs.RowLemmas.{starts_writing, writes_more, wrote_all, wrote_part, wrote_whole}
use Rattle.sysv_clients.proofs.WindowLemmas.{keeps_appends}
use Rattle.sysv_clients.proofs.rows.request_rows.Goals as goal

pub loop-slot-init : goal.loop-slot-init
loop-slot-init g c = record {
  writing = starts_writing c.args.from c.args.to c.args.text.now _;
  stream = record { same = refl; failed = refl };
}

pub returns-in_err-put-clause-err : goal.returns-in_err-put-clause-err
returns-in_err-put-clause-err g c =
    let p = err_from_is_err_and c.from_residual.result c.from_residual.ensures.1 in
    rw p.1
    (wrote_part c.args.from c.loop-slot.slot c.args.to c.args.text.now _ _ _ (omega arith) c.loop-slot.invariant.writing
    c.in_err-put.ensures.err)

pub returns-in_err-put-clause-stream : goal.returns-in_err-put-clause-stream
returns-in_err-put-clause-stream g c =
    let p = err_from_is_err_and c.from_residual.result c.from_residual.ensures.1 in
    rw p.1
    (record {
      same = c.in_err-put.ensures.stream.same ∙ c.loop-slot.invariant.stream.same;
      failed = c.in_err-put.ensures.stream.failed
          ∙ ap (λ (n : ℕ). failures_after true n) c.loop-slot.invariant.stream.failed;
    })

pub loop-slot-preserved : goal.loop-slot-preserved
loop-slot-preserved g c = record {
  writing = writes_more c.args.from c.loop-slot.slot c.args.to c.args.text.now _ _ _ (omega arith)
      c.loop-slot.invariant.writing c.in_ok-put.ensures.ok;
  stream = record {
    same = c.in_ok-put.ensures.stream.same ∙ c.loop-slot.invariant.stream.same;
    failed = c.in_ok-put.ensures.stream.failed ∙ c.loop-slot.invariant.stream.failed;
  };
}

pub returns-in-Ok-clause-ok : goal.returns-in-Ok-clause-ok
returns-in-Ok-clause-ok g c =
    wrote_all c.args.from c.loop-slot.slot c.args.to c.args.text.now _ _ _ (omega arith) c.loop-slot.invariant.writing
    (keeps_appends _ _ c.flush.ensures.bytes)

pub returns-in-Err-clause-err : goal.returns-in-Err-clause-err
returns-in-Err-clause-err g c =
    wrote_whole _ _ _
    (wrote_all c.args.from c.loop-slot.slot c.args.to c.args.text.now _ _ _ (omega arith) c.loop-slot.invariant.writing
    (keeps_appends _ _ c.flush.ensures.bytes))
