use Rattle.std.proofs.Common.{ap, subst, ◌∙◌, rules, sym}
use Rattle.sysv_queue.specs.Delivery.{Given}
use Rattle.sysv_steps.specs.declared.state.State.TheVariants as state
use Rattle.sysv_steps.specs.State.{Got}
use Rattle.sysv_steps.specs.Seen.{ending_of, receive_state}
use Rattle.sysv_steps.specs.Bodies.{IsSized}
use Rattle.sysv_steps.specs.Giving.{nothing_is_sized}
use Rattle.sysv_service.proofs.ProceedsByStep.{comes_first, moved}
use Rattle.sysv_service.proofs.ReceiveGivesTaken.{comes_giving, comes_with_nothing, has_given}
use Rattle.sysv_service.proofs.service.Service.receive_on.Goals as goal

pub loop-init : goal.loop-init
loop-init g c =
    let may = g.C.Clock.may c.args.clock.now in
    let out = c.args.out.now in
    record {
      pass = c.requires.pass;
      sized = nothing_is_sized c.args.begun out c.requires.nothing;
      comes = comes_with_nothing may _ _ c.args.begun out _ c.requires.nothing (comes_first may _ _);
      goes_on = search rules;
    }

pub loop-preserved : goal.loop-preserved
loop-preserved g c = record {
  pass = c.receive_step.ensures.pass;
  sized = c.receive_step.ensures.sized;
  comes = comes_giving (g.C.Clock.may c.args.clock.now) _ _ c.in-Goes.step c.loop.out c.loop.pass _ _ _
      c.receive_step.new.pass c.in-Goes.is c.loop.invariant.comes c.receive_step.ensures.steps;
  goes_on = search rules;
}

pub returns-in-Waits-clause-ran : goal.returns-in-Waits-clause-ran
returns-in-Waits-clause-ran g c =
    let may = g.C.Clock.may c.args.clock.now in
    let came = c.loop.invariant.comes in
    let there = moved may _ _ _ _ c.loop.pass (ap (λ s. receive_state s c.loop.out) c.in-Waits.is) (came.0, came.1) in
    (there, search rules)

pub returns-in-Over-clause-ran : goal.returns-in-Over-clause-ran
returns-in-Over-clause-ran g c =
    let may = g.C.Clock.may c.args.clock.now in
    let out = c.loop.out in
    let came = c.loop.invariant.comes in
    let there = moved may _ _ _ _ c.loop.pass (ap (λ s. receive_state s out) c.in-Over.is) (came.0, came.1) in
    let over = c.in-Over.is ∙ ap (λ r. state.Over r) (sym c.given_of.ensures.same) in (
      (ending_of (λ (d : Given). Got d.mtype out) c.in-Over.told, there, c.given_of.ensures.told),
      has_given may _ _ c.loop.state out c.loop.pass c.given_of.result over came,
    )

pub receive_step-requires-clause-sized : goal.receive_step-requires-clause-sized
receive_step-requires-clause-sized g c = subst (λ s. IsSized s c.loop.out) c.in-Goes.is c.loop.invariant.sized

pub given_of-requires : goal.given_of-requires
given_of-requires g c = subst (λ s. IsSized s c.loop.out) c.in-Over.is c.loop.invariant.sized
