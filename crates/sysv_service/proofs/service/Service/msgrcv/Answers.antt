use Rattle.std.proofs.Common.{subst, rules, w32, w64, to_z, of_z}
use Rattle.std.proofs.lemmas.Int.{to_z-of_z}
use Rattle.sysv_steps.specs.Seen.{receive_wait, receive_state}
use Rattle.sysv_steps.specs.State.{Waits}
use Rattle.sysv_steps.specs.Giving.{GivesNothing}
use Rattle.sysv_service.specs.Pending.{ReceivesOn}
use Rattle.sysv_service.specs.Pieces.{comes_on, if_given}
use Rattle.sysv_service.proofs.ProceedsByStep.{first_at, comes_wait}
use Rattle.sysv_service.proofs.ReceiveGivesTaken.{begin_gives_nothing}
use Rattle.sysv_service.proofs.service.Service.msgrcv.Goals as goal

pub loop-init : goal.loop-init
loop-init g c =
    let may = g.C.Clock.may c.args.clock.now in
    let starts = c.begin-state.ensures c.args.out.now 0 in
    record {
      pass = c.requires;
      nothing = subst GivesNothing starts
          (begin_gives_nothing c.args.cred (to_z w32 (of_z w32 c.args.id)) c.args.size
          (to_z w64 (of_z w64 c.args.mtype))
          c.args.flags);
      comes = first_at may _ _ _ starts;
      goes_on = search rules;
    }

pub loop-preserved : goal.loop-preserved
loop-preserved g c =
    let may = g.C.Clock.may c.args.clock.now in
    let wait = receive_wait c.in-Waits.wait in
    let out = c.receive_on.new.out in
    let on = subst (λ p.
    ReceivesOn may (receive_state c.loop.state c.loop.out) c.loop.pass p out c.receive_on.new.pass)
    c.in-Waits.is c.receive_on.ensures.ran in
    let there = comes_on may _ _ _ _ (Waits wait) c.receive_on.new.pass c.loop.invariant.comes on.0 in
    record {
      pass = c.wait_for_message.ensures.pass;
      nothing = c.wait_for_message.ensures.nothing out;
      comes = comes_wait may _ _ wait c.receive_on.new.pass _ c.wait_for_message.new.pass there
          (c.wait_for_message.ensures.ended out);
      goes_on = search rules;
    }

pub returns-in-Over-clause-ran : goal.returns-in-Over-clause-ran
returns-in-Over-clause-ran g c =
    let may = g.C.Clock.may c.args.clock.now in
    let on =
    subst (λ p.
    ReceivesOn may (receive_state c.loop.state c.loop.out) c.loop.pass p c.receive_on.new.out c.receive_on.new.pass)
    c.in-Over.is c.receive_on.ensures.ran in
    let comes = comes_on may _ _ _ _ _ c.receive_on.new.pass c.loop.invariant.comes on.0.1 in
    let id = c.ranges.id in
    let mtype = c.ranges.mtype in
    let there = simp to_z-of_z at comes in
    (on.0.0, there, on.0.2)

pub returns-in-Over-clause-given : goal.returns-in-Over-clause-given
returns-in-Over-clause-given g c =
    let may = g.C.Clock.may c.args.clock.now in
    let on =
    subst (λ p.
    ReceivesOn may (receive_state c.loop.state c.loop.out) c.loop.pass p c.receive_on.new.out c.receive_on.new.pass)
    c.in-Over.is c.receive_on.ensures.ran in
    let given = if_given may _ _ _ _ c.in-Over.told c.receive_on.new.pass c.loop.invariant.comes on.1 in
    let id = c.ranges.id in
    let mtype = c.ranges.mtype in
    simp to_z-of_z at given
