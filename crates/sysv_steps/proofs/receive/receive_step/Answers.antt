use Rattle.std.proofs.Common.{Ok, refl, sym, subst}
use Rattle.sysv_steps.specs.declared.receive.ReceiveStep.TheVariants as step
use Rattle.sysv_steps.specs.declared.state.State.TheVariants as state
use Rattle.sysv_steps.specs.State.{AtReceiveGiveback}
use Rattle.sysv_steps.specs.Seen.{receive_state}
use Rattle.sysv_steps.specs.Bodies.{IsSized}
use Rattle.sysv_steps.specs.Giving.{HasWhatItGives, StepsGiving}
use Rattle.sysv_steps.proofs.StepFromReply.{given}
use Rattle.sysv_steps.proofs.ReceiveGivesTaken.{gives_still}
use Rattle.sysv_steps.proofs.receive.receive_step.Goals as goal

pub returns-in-Take-clause-steps : goal.returns-in-Take-clause-steps
returns-in-Take-clause-steps g c =
    let kept = c.args.kept.now.blocks in
    subst (λ p.
    StepsGiving g.T.Turns.takes g.T.Turns.misses (g.C.Clock.may c.args.clock.now) p c.args.out.now c.args.at.now kept
    c.take.result c.take.new.out c.take.new.at kept) (sym c.in-Take.is) (c.take.ensures.steps kept)

pub returns-in-Giveback-clause-steps : goal.returns-in-Giveback-clause-steps
returns-in-Giveback-clause-steps g c =
    let may = g.C.Clock.may c.args.clock.now in
    let chain = c.in-Giveback.chain in
    let delivery = c.in-Giveback.delivery in
    let out = c.args.out.now in
    let before = c.args.kept.now.blocks in
    let after = c.give_back.new.kept.blocks in
    let goes = given g.T.Turns.takes g.T.Turns.misses may (AtReceiveGiveback chain.blocks delivery.mtype out)
    c.args.at.now (receive_state c.given_back.result out) c.give_back.new.at chain.blocks before after refl refl
    (λ done. c.given_back.ensures.next out done)
    (λ held. (let on = c.given_back.ensures.next out (Ok tt) in cc, refl, refl, held)) c.give_back.ensures.released in
    subst (λ p.
    StepsGiving g.T.Turns.takes g.T.Turns.misses may p out c.args.at.now before c.given_back.result out
    c.give_back.new.at after) (sym c.in-Giveback.is)
    (gives_still g.T.Turns.takes g.T.Turns.misses may (step.Giveback chain delivery) out c.args.at.now before
    c.given_back.result out c.give_back.new.at after delivery (λ ops has. has)
    (λ ops has. subst (λ s. HasWhatItGives s ops) (sym c.given_back.ensures.kept) has) goes)

pub returns-in-Giveback-clause-sized : goal.returns-in-Giveback-clause-sized
returns-in-Giveback-clause-sized g c = λ was.
    let sized : IsSized (state.Goes (step.Giveback c.in-Giveback.chain c.in-Giveback.delivery))
    c.args.out.now = subst (λ p. IsSized (state.Goes p) c.args.out.now) c.in-Giveback.is was in
    subst (λ s. IsSized s c.args.out.now) (sym c.given_back.ensures.kept) sized
