use Rattle.std.proofs.Common.{Some, sym, subst}
use Rattle.sysv_steps.specs.Pending.{phase_of, text_in, StepsTo}
use Rattle.sysv_steps.specs.Seen.{get_state, send_state, receive_state, stat_phase, stat_state, set_state, remove_phase}
use Rattle.sysv_steps.specs.Seen.{remove_state}
use Rattle.sysv_steps.specs.Stepping.{lifts}
use Rattle.sysv_steps.specs.declared.pending.Step.TheVariants as step
use Rattle.sysv_steps.proofs.ReceiveGivesTaken.{steps_giving}
use Rattle.sysv_steps.proofs.pending.Step.make.Goals as goal

pub returns-in-Get-clause-steps : goal.returns-in-Get-clause-steps
returns-in-Get-clause-steps g c =
    let may = g.C.Clock.may c.args.clock.now in
    let kept = c.args.kept.now.blocks in
    let body = c.args.body.now in
    subst (λ s.
    StepsTo g.T.Turns.takes g.T.Turns.misses may (phase_of s (text_in body)) c.args.at.now kept c.of_get.result body
    c.get_step.new.at kept) (sym c.in-Get.is)
    (get_state c.get_step.result, c.get_step.ensures.steps kept, c.of_get.ensures.comes body)

pub returns-in-Some-clause-steps : goal.returns-in-Some-clause-steps
returns-in-Some-clause-steps g c =
    let may = g.C.Clock.may c.args.clock.now in
    let text = c.in-Some.text in
    subst (λ s.
    StepsTo g.T.Turns.takes g.T.Turns.misses may (phase_of s (text_in c.args.body.now)) c.args.at.now
    c.args.kept.now.blocks c.of_send.result (Some text) c.send_step.new.at c.send_step.new.kept.blocks)
    (sym c.in-Send.is)
    (subst (λ b.
    StepsTo g.T.Turns.takes g.T.Turns.misses may (phase_of (step.Send c.in-Send.step) (text_in b)) c.args.at.now
    c.args.kept.now.blocks c.of_send.result (Some text) c.send_step.new.at c.send_step.new.kept.blocks)
    (sym c.in-Some.is)
    (send_state c.send_step.result text, c.send_step.ensures.steps, c.of_send.ensures.comes text))

pub returns-in-Some-body-clause-steps : goal.returns-in-Some-body-clause-steps
returns-in-Some-body-clause-steps g c =
    let may = g.C.Clock.may c.args.clock.now in
    let out = c.of_receive.new.out in
    subst (λ s.
    StepsTo g.T.Turns.takes g.T.Turns.misses may (phase_of s (text_in c.args.body.now)) c.args.at.now
    c.args.kept.now.blocks c.of_receive.result (Some out) c.receive_step-state.new.at
    c.receive_step-state.new.kept.blocks) (sym c.in-Receive.is)
    (subst (λ b.
    StepsTo g.T.Turns.takes g.T.Turns.misses may (phase_of (step.Receive c.in-Receive.step) (text_in b)) c.args.at.now
    c.args.kept.now.blocks c.of_receive.result (Some out) c.receive_step-state.new.at
    c.receive_step-state.new.kept.blocks) (sym c.in-Some-body.is) (
      receive_state c.receive_step-state.result c.receive_step-state.new.out,
      steps_giving g.T.Turns.takes g.T.Turns.misses may c.in-Receive.step c.in-Some-body.out c.args.at.now
          c.args.kept.now.blocks c.receive_step-state.result c.receive_step-state.new.out c.receive_step-state.new.at
          c.receive_step-state.new.kept.blocks c.receive_step-state.ensures.steps,
      c.of_receive.ensures.comes,
    ))

pub returns-in-Stat-clause-steps : goal.returns-in-Stat-clause-steps
returns-in-Stat-clause-steps g c =
    let may = g.C.Clock.may c.args.clock.now in
    let kept = c.args.kept.now.blocks in
    let body = c.args.body.now in
    let state = stat_state c.stat_step.result in
    subst (λ s.
    StepsTo g.T.Turns.takes g.T.Turns.misses may (phase_of s (text_in body)) c.args.at.now kept c.of_stat.result body
    c.stat_step.new.at kept) (sym c.in-Stat.is) (
      state,
      lifts g.T.Turns.takes g.T.Turns.misses may (stat_phase c.in-Stat.step) c.args.at.now kept state
          c.stat_step.new.at kept (c.stat_step.ensures.steps kept),
      c.of_stat.ensures.comes body,
    )

pub returns-in-Set-clause-steps : goal.returns-in-Set-clause-steps
returns-in-Set-clause-steps g c =
    let may = g.C.Clock.may c.args.clock.now in
    let body = c.args.body.now in
    subst (λ s.
    StepsTo g.T.Turns.takes g.T.Turns.misses may (phase_of s (text_in body)) c.args.at.now c.args.kept.now.blocks
    c.of_set.result body c.set_step.new.at c.set_step.new.kept.blocks) (sym c.in-Set.is)
    (set_state c.set_step.result, c.set_step.ensures.steps, c.of_set.ensures.comes body)

pub returns-in-Remove-clause-steps : goal.returns-in-Remove-clause-steps
returns-in-Remove-clause-steps g c =
    let may = g.C.Clock.may c.args.clock.now in
    let body = c.args.body.now in
    let kept = c.args.kept.now.blocks in
    let keeps = c.remove_step.new.kept.blocks in
    let state = remove_state c.remove_step.result in
    subst (λ s.
    StepsTo g.T.Turns.takes g.T.Turns.misses may (phase_of s (text_in body)) c.args.at.now kept c.of_remove.result body
    c.remove_step.new.at keeps) (sym c.in-Remove.is) (
      state,
      lifts g.T.Turns.takes g.T.Turns.misses may (remove_phase c.in-Remove.step) c.args.at.now kept state
          c.remove_step.new.at keeps c.remove_step.ensures.steps,
      c.of_remove.ensures.comes body,
    )
