use Rattle.std.proofs.Common.{◌≡◌, List, ℕ, Option, Some, None, refl, sym, ap, subst}
use Rattle.sysv_steps.specs.Pending.{text_in, pending_state}
use Rattle.sysv_script.specs.Heads.{step_name}
use Rattle.sysv_script.specs.Names.{step_now}
use Rattle.sysv_script.proofs.names.Step.of_doing.Goals as goal

pub returns-in-At : goal.returns-in-At
returns-in-At c =
    let text = text_in c.args.doing.now.body in
    subst (λ p. Some (step_name c.of_step.result) ≡ step_now (pending_state p text)) (sym c.in-At.is)
    (ap Some (c.of_step.ensures text))

pub returns-in-Waits : goal.returns-in-Waits
returns-in-Waits c =
    let text = text_in c.args.doing.now.body in
    let none : Option (List ℕ) = None in
    subst (λ p. none ≡ step_now (pending_state p text)) (sym c.in-Waits.is) refl
