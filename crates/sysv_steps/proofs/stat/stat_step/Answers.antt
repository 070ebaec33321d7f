use Rattle.std.proofs.Common.{rules, w32, FitsSigned, refl, ap, arith}
use Rattle.std.proofs.lemmas.Int.{to_z-of_z}
use Rattle.sysv_steps.specs.State.{AtStat}
use Rattle.sysv_steps.specs.Seen.{stat_state}
use Rattle.sysv_steps.specs.Stepping.{no_moment}
use Rattle.sysv_steps.proofs.StepFromReply.{met}
use Rattle.sysv_steps.proofs.stat.stat_step.Goals as goal

pub returns-in-Err-clause-steps : goal.returns-in-Err-clause-steps
returns-in-Err-clause-steps g c = λ kept.
    let step = c.args.step in
    let id : FitsSigned w32 step.id = search rules in
    let missed = c.in-Err.ensures.missed.1 in
    let worn = simp to_z-of_z at missed in
    met g.T.Turns.takes g.T.Turns.misses no_moment (AtStat step.cred step.id) c.args.at.now
    (stat_state c.overflow.result) c.make.new.at 0 (λ e. absurd cc) c.make.new.at worn kept
    (ap stat_state c.overflow.ensures, refl, refl, omega arith)
