use Rattle.std.proofs.Common.{true, refl, arith, ◌≡◌}
use Rattle.std.proofs.lemmas.Int.{to_z-of_z}
use Rattle.sysv_steps.specs.Seen.{get_state}
use Rattle.sysv_steps.specs.State.{AtUnmake}
use Rattle.sysv_steps.specs.Stepping.{no_moment, when_worn}
use Rattle.sysv_steps.proofs.StepFromReply.{forgot}
use Rattle.sysv_steps.proofs.get.unmake.Goals as goal

pub returns-clause-steps : goal.returns-clause-steps
returns-clause-steps g c =
    let id = c.ranges.id in
    let asked = c.forget.ensures.asks in
    let asks = simp to_z-of_z at asked in
    let ends : get_state c.unmade.result ≡ when_worn (AtUnmake c.args.id) = let on = c.unmade.ensures true in cc in
    forgot g.T.Turns.takes g.T.Turns.misses no_moment (AtUnmake c.args.id) c.args.at.now (get_state c.unmade.result)
    c.forget.new.at
    c.args.id refl refl (λ done. c.unmade.ensures done) (λ kept. (ends, refl, refl, omega arith)) asks
