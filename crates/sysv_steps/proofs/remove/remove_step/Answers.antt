use Rattle.std.proofs.Common.{rules, w32, FitsSigned, true, Ok, refl, sym, subst, arith, ◌≡◌}
use Rattle.std.proofs.lemmas.Int.{to_z-of_z}
use Rattle.sysv_steps.specs.State.{AtForget, AtRemoveGiveback, Goes}
use Rattle.sysv_steps.specs.Seen.{remove_phase, remove_state}
use Rattle.sysv_steps.specs.Stepping.{StepsOn, no_moment}
use Rattle.sysv_steps.proofs.StepFromReply.{forgot, given}
use Rattle.sysv_steps.proofs.remove.remove_step.Goals as goal

pub returns-in-Remove-clause-steps : goal.returns-in-Remove-clause-steps
returns-in-Remove-clause-steps g c =
    let kept = c.args.kept.now.blocks in
    let id : FitsSigned w32 c.in-Remove.id = search rules in
    let step = c.remove.ensures.steps kept in
    let on = simp to_z-of_z at step in
    subst (λ p.
    StepsOn g.T.Turns.takes g.T.Turns.misses no_moment (remove_phase p) c.args.at.now kept
    (remove_state c.remove.result)
    c.remove.new.at kept) (sym c.in-Remove.is) on

pub returns-in-Forget-clause-steps : goal.returns-in-Forget-clause-steps
returns-in-Forget-clause-steps g c =
    let id : FitsSigned w32 c.in-Forget.id = search rules in
    let blocks = c.in-Forget.chain.blocks in
    let asked = c.forget.ensures.asks in
    let asks = simp to_z-of_z at asked in
    let goes_on : remove_state c.forgotten.result ≡ Goes (AtRemoveGiveback blocks) =
    let on = c.forgotten.ensures true in cc in
    subst (λ p.
    StepsOn g.T.Turns.takes g.T.Turns.misses no_moment (remove_phase p) c.args.at.now c.args.kept.now.blocks
    (remove_state c.forgotten.result) c.forget.new.at c.args.kept.now.blocks) (sym c.in-Forget.is)
    (forgot g.T.Turns.takes g.T.Turns.misses no_moment (AtForget c.in-Forget.id blocks) c.args.at.now
    (remove_state c.forgotten.result) c.forget.new.at
    c.in-Forget.id refl refl (λ done. c.forgotten.ensures done) (λ kept. (goes_on, refl, refl, omega arith)) asks
    c.args.kept.now.blocks)

pub returns-in-Giveback-clause-steps : goal.returns-in-Giveback-clause-steps
returns-in-Giveback-clause-steps g c =
    let blocks = c.in-Giveback.chain.blocks in
    subst (λ p.
    StepsOn g.T.Turns.takes g.T.Turns.misses no_moment (remove_phase p) c.args.at.now c.args.kept.now.blocks
    (remove_state c.given_back.result) c.give_back.new.at c.give_back.new.kept.blocks) (sym c.in-Giveback.is)
    (given g.T.Turns.takes g.T.Turns.misses no_moment (AtRemoveGiveback blocks) c.args.at.now
    (remove_state c.given_back.result) c.give_back.new.at
    blocks c.args.kept.now.blocks c.give_back.new.kept.blocks refl refl (λ done. c.given_back.ensures done)
    (λ held. (let on = c.given_back.ensures (Ok tt) in cc, refl, refl, held)) c.give_back.ensures.released)
