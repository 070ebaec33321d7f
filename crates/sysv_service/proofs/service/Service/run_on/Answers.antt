use Rattle.std.proofs.Common.{ap, subst, rules}
use Rattle.sysv_steps.specs.Seen.{state_of}
use Rattle.sysv_service.proofs.ProceedsByStep.{comes_first, moved, comes_step}
use Rattle.sysv_service.proofs.service.Service.run_on.Goals as goal

pub loop-init : goal.loop-init
loop-init g c = record {
  pass = c.requires.pass;
  can = c.requires.can;
  comes = comes_first (g.S.Stepper.may c.args.stepper.now) _ _;
  goes_on = search rules;
}

pub loop-preserved : goal.loop-preserved
loop-preserved g c =
    let stepper = c.args.stepper.now in
    let may = g.S.Stepper.may stepper in
    let phase = g.S.Stepper.phase stepper in
    let wait = g.S.Stepper.wait stepper in
    let ending = g.S.Stepper.ending stepper in
    let there =
    moved may _ _ _ _ c.loop.pass (ap (state_of phase wait ending) c.in-Goes.is) c.loop.invariant.comes in
    record {
      pass = c.step.ensures.pass;
      can = c.step.ensures.can;
      comes = comes_step may _ _ (phase c.in-Goes.step) c.loop.pass _ c.step.new.pass there c.step.ensures.steps;
      goes_on = search rules;
    }

pub step-requires-clause-can : goal.step-requires-clause-can
step-requires-clause-can g c =
    subst (g.S.Stepper.can c.args.stepper.now) c.in-Goes.is c.loop.invariant.can

pub returns-in-Waits-clause-can : goal.returns-in-Waits-clause-can
returns-in-Waits-clause-can g c =
    subst (g.S.Stepper.can c.args.stepper.now) c.in-Waits.is c.loop.invariant.can

pub returns-in-Over-clause-can : goal.returns-in-Over-clause-can
returns-in-Over-clause-can g c =
    subst (g.S.Stepper.can c.args.stepper.now) c.in-Over.is c.loop.invariant.can

pub returns-in-Waits-clause-ran : goal.returns-in-Waits-clause-ran
returns-in-Waits-clause-ran g c =
    let stepper = c.args.stepper.now in
    moved (g.S.Stepper.may stepper) _ _ _ _ c.loop.pass
    (ap (state_of (g.S.Stepper.phase stepper) (g.S.Stepper.wait stepper) (g.S.Stepper.ending stepper)) c.in-Waits.is)
    c.loop.invariant.comes

pub returns-in-Over-clause-ran : goal.returns-in-Over-clause-ran
returns-in-Over-clause-ran g c =
    let stepper = c.args.stepper.now in
    moved (g.S.Stepper.may stepper) _ _ _ _ c.loop.pass
    (ap (state_of (g.S.Stepper.phase stepper) (g.S.Stepper.wait stepper) (g.S.Stepper.ending stepper)) c.in-Over.is)
    c.loop.invariant.comes
