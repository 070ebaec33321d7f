use Rattle.std.proofs.Common.{rules, w32, FitsSigned, Ok, refl, sym, ap, subst, ◌≡◌}
use Rattle.std.proofs.lemmas.Int.{to_z-of_z}
use Rattle.sysv_pool.specs.Chain.{Chained}
use Rattle.sysv_steps.specs.State.{AtSetGiveback}
use Rattle.sysv_steps.specs.Seen.{set_phase, set_state}
use Rattle.sysv_steps.specs.Stepping.{StepsOn, GivesBack}
use Rattle.sysv_steps.proofs.StepFromReply.{given}
use Rattle.sysv_steps.proofs.set.set_step.Goals as goal

pub returns-in-Set-clause-steps : goal.returns-in-Set-clause-steps
returns-in-Set-clause-steps g c =
    let may = g.C.Clock.may c.args.clock.now in
    let kept = c.args.kept.now.blocks in
    let id : FitsSigned w32 c.in-Set.id = search rules in
    let step = c.set.ensures.steps kept in
    let on = simp to_z-of_z at step in
    subst (λ p.
    StepsOn g.T.Turns.takes g.T.Turns.misses may (set_phase p) c.args.at.now kept (set_state c.set.result)
    c.set.new.at kept) (sym c.in-Set.is) on

pub returns-in-Giveback-clause-steps : goal.returns-in-Giveback-clause-steps
returns-in-Giveback-clause-steps g c =
    let may = g.C.Clock.may c.args.clock.now in
    let none : c.empty.result.blocks ≡ 0 = ap (λ (x : Chained). x.blocks) c.empty.ensures in
    let back = subst (λ n.
    GivesBack g.T.Turns.takes g.T.Turns.misses n c.args.at.now c.args.kept.now.blocks c.give_back.new.at
    c.give_back.new.kept.blocks) none c.give_back.ensures.released in
    subst (λ p.
    StepsOn g.T.Turns.takes g.T.Turns.misses may (set_phase p) c.args.at.now c.args.kept.now.blocks
    (set_state c.given_back.result) c.give_back.new.at c.give_back.new.kept.blocks) (sym c.in-Giveback.is)
    (given g.T.Turns.takes g.T.Turns.misses may AtSetGiveback c.args.at.now (set_state c.given_back.result)
    c.give_back.new.at
    0 c.args.kept.now.blocks c.give_back.new.kept.blocks refl refl (λ done. c.given_back.ensures done)
    (λ held. (let on = c.given_back.ensures (Ok tt) in cc, refl, refl, held)) back)
