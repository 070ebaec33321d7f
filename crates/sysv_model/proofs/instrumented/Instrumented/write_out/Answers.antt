use Rattle.std.proofs.Common.{◌+◌, ◌≤◌, ◌-◌, length, drop, ap, subst, ◌∙◌, arith, length-take}
use Rattle.std.specs.Io.KnownBytes.{Appends}
use Rattle.std.proofs.KnownBytes.{Appends-trans, Appends-kept}
use Rattle.sysv_model.specs.Instrumented.{failures_of, failures_after, takes_none-some}
use Rattle.sysv_model.proofs.Writing.{went, AppendsPrefix-take}
use Rattle.sysv_model.proofs.instrumented.Instrumented.write_out.Goals as goal

pub loop-written-preserved : goal.loop-written-preserved
loop-written-preserved g c =
    let bytes = c.args.bytes.now in
    let written = c.loop-written.written in
    let bound = c.in-Ok.ensures.bound in
    let fits : c.in-Ok.count ≤ length bytes - written =
    omega (arith, length-take (length bytes - written) (drop written bytes)) in
    record {
      within = omega arith;
      so_far = subst (Appends _ _) (went bytes written c.in-Ok.count fits)
          (Appends-trans _ _ _ _ _ c.loop-written.invariant.so_far c.in-Ok.ensures.bytes);
      same = c.in-Ok.ensures.same ∙ c.loop-written.invariant.same;
      failed = c.in-Ok.ensures.failed
          ∙ ap (λ b. failures_after b (failures_of c.loop-written.self))
          (takes_none-some c.in-Ok.count _ c.in-Ok.count-test.1) ∙ c.loop-written.invariant.failed;
    }

pub returns-in-Ok-eq0-clause-err : goal.returns-in-Ok-eq0-clause-err
returns-in-Ok-eq0-clause-err g c =
    let bytes = c.args.bytes.now in
    let written = c.loop-written.written in
    let count = c.in-Ok-eq0.field-0 in
    let bound = c.in-Ok-eq0.ensures.bound in
    let fits : count ≤ length bytes - written =
    omega (arith, length-take (length bytes - written) (drop written bytes)) in
    AppendsPrefix-take _ _ (written + count) bytes
    (subst (Appends _ _) (went bytes written count fits)
    (Appends-trans _ _ _ _ _ c.loop-written.invariant.so_far c.in-Ok-eq0.ensures.bytes))

pub returns-in-Err-clause-err : goal.returns-in-Err-clause-err
returns-in-Err-clause-err g c =
    AppendsPrefix-take _ _ c.loop-written.written c.args.bytes.now
    (Appends-kept _ _ _ _ c.loop-written.invariant.so_far c.in-Err.ensures.bytes)
