use Rattle.std.proofs.Common.{subst, rules}
use Rattle.sysv_steps.specs.Seen.{state_of}
use Rattle.sysv_service.specs.Ran.{Comes}
use Rattle.sysv_service.specs.Pending.{stopped_at, StoppedBy}
use Rattle.sysv_service.specs.Pieces.{comes_on}
use Rattle.sysv_service.proofs.ProceedsByStep.{comes_first, comes_wait}
use Rattle.sysv_service.proofs.service.Service.run.Goals as goal

pub loop-init : goal.loop-init
loop-init g c = record {
  pass = c.requires.pass;
  can = c.requires.can;
  comes = comes_first (g.S.Stepper.may c.args.stepper.now) _ _;
  goes_on = search rules;
}

pub loop-preserved : goal.loop-preserved
loop-preserved g c =
    let stepper = c.args.stepper.now in
    let may = g.S.Stepper.may stepper in
    let phase = g.S.Stepper.phase stepper in
    let wait = g.S.Stepper.wait stepper in
    let ending = g.S.Stepper.ending stepper in
    let ran =
    subst (λ p.
    Comes may (state_of phase wait ending c.loop.state) c.loop.pass (stopped_at wait ending p) c.run_on.new.pass)
    c.in-Waits.is c.run_on.ensures.ran in
    let there = comes_on may _ _ _ _ _ c.run_on.new.pass c.loop.invariant.comes ran in
    record {
      pass = c.wait_out.ensures.pass;
      can = c.wait_out.ensures.can;
      comes = comes_wait may _ _ (wait c.in-Waits.wait) c.run_on.new.pass _ c.wait_out.new.pass there
          c.wait_out.ensures.ended;
      goes_on = search rules;
    }

pub wait_out-requires-clause-can : goal.wait_out-requires-clause-can
wait_out-requires-clause-can g c =
    subst (StoppedBy (g.S.Stepper.can c.args.stepper.now)) c.in-Waits.is c.run_on.ensures.can

pub returns-in-Over-clause-ran : goal.returns-in-Over-clause-ran
returns-in-Over-clause-ran g c =
    let stepper = c.args.stepper.now in
    let may = g.S.Stepper.may stepper in
    let phase = g.S.Stepper.phase stepper in
    let wait = g.S.Stepper.wait stepper in
    let ending = g.S.Stepper.ending stepper in
    let ran =
    subst (λ p.
    Comes may (state_of phase wait ending c.loop.state) c.loop.pass (stopped_at wait ending p) c.run_on.new.pass)
    c.in-Over.is c.run_on.ensures.ran in
    comes_on may _ _ _ _ _ c.run_on.new.pass c.loop.invariant.comes ran
