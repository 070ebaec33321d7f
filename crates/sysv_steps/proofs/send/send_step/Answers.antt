use Rattle.std.proofs.Common.{Ok, refl, sym, subst}
use Rattle.sysv_steps.specs.State.{AtLook, AtReserve, AtSendGiveback}
use Rattle.sysv_steps.specs.Seen.{send_phase, send_state, sending, afterwards_of}
use Rattle.sysv_steps.specs.Stepping.{StepsOn}
use Rattle.sysv_steps.specs.Stepping.{lifts}
use Rattle.sysv_steps.proofs.StepFromReply.{given}
use Rattle.sysv_steps.proofs.send.send_step.Goals as goal

pub returns-in-Look-clause-steps : goal.returns-in-Look-clause-steps
returns-in-Look-clause-steps g c =
    let may = g.C.Clock.may c.args.clock.now in
    let kept = c.args.kept.now.blocks in
    subst (λ p.
    StepsOn g.T.Turns.takes g.T.Turns.misses may (send_phase p c.args.text.now) c.args.at.now kept
    (send_state c.look.result c.args.text.now) c.look.new.at kept) (sym c.in-Look.is)
    (lifts g.T.Turns.takes g.T.Turns.misses may (AtLook (sending c.in-Look.send c.args.text.now)) c.args.at.now kept
    (send_state c.look.result c.args.text.now) c.look.new.at kept (c.look.ensures.steps kept))

pub returns-in-Reserve-clause-steps : goal.returns-in-Reserve-clause-steps
returns-in-Reserve-clause-steps g c =
    let may = g.C.Clock.may c.args.clock.now in
    let kept = c.args.kept.now.blocks in
    subst (λ p.
    StepsOn g.T.Turns.takes g.T.Turns.misses may (send_phase p c.args.text.now) c.args.at.now kept
    (send_state c.reserve.result c.args.text.now) c.reserve.new.at kept) (sym c.in-Reserve.is)
    (lifts g.T.Turns.takes g.T.Turns.misses may (AtReserve (sending c.in-Reserve.send c.args.text.now)) c.args.at.now
    kept (send_state c.reserve.result c.args.text.now) c.reserve.new.at kept (c.reserve.ensures.steps kept))

pub returns-in-Giveback-clause-steps : goal.returns-in-Giveback-clause-steps
returns-in-Giveback-clause-steps g c =
    let may = g.C.Clock.may c.args.clock.now in
    let text = c.args.text.now in
    let blocks = c.in-Giveback.chain.blocks in
    subst (λ p.
    StepsOn g.T.Turns.takes g.T.Turns.misses may (send_phase p text) c.args.at.now c.args.kept.now.blocks
    (send_state c.given_back.result text) c.give_back.new.at c.give_back.new.kept.blocks) (sym c.in-Giveback.is)
    (given g.T.Turns.takes g.T.Turns.misses may
    (AtSendGiveback blocks (afterwards_of c.in-Giveback.afterwards text)) c.args.at.now
    (send_state c.given_back.result text) c.give_back.new.at
    blocks c.args.kept.now.blocks c.give_back.new.kept.blocks refl refl (λ done. c.given_back.ensures.next text done)
    (λ held. (let on = c.given_back.ensures.next text (Ok tt) in cc, refl, refl, held)) c.give_back.ensures.released)
