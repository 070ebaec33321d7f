use Rattle.std.proofs.Common.{◌≡◌, refl, sym, subst}
use Rattle.sysv_steps.specs.Pending.{phase_of}
use Rattle.sysv_script.specs.Heads.{step_name}
use Rattle.sysv_script.specs.Names.{step_in}
use Rattle.sysv_script.specs.declared.names.Step.TheVariants as named
use Rattle.sysv_script.proofs.names.Step.of_step.Goals as goal

pub returns-in-Get : goal.returns-in-Get
returns-in-Get c = λ text.
    subst (λ s. step_name c.of_get.result ≡ step_in (phase_of s text)) (sym c.in-Get.is) c.of_get.ensures

pub returns-in-Send : goal.returns-in-Send
returns-in-Send c = λ text.
    subst (λ s. step_name c.of_send.result ≡ step_in (phase_of s text)) (sym c.in-Send.is) (c.of_send.ensures text)

pub returns-in-Receive : goal.returns-in-Receive
returns-in-Receive c = λ text.
    subst (λ s. step_name c.of_receive.result ≡ step_in (phase_of s text)) (sym c.in-Receive.is)
    (c.of_receive.ensures text)

pub returns-in-Stat : goal.returns-in-Stat
returns-in-Stat c = λ text.
    subst (λ s. step_name named.Stat ≡ step_in (phase_of s text)) (sym c.in-Stat.is) refl

pub returns-in-Set : goal.returns-in-Set
returns-in-Set c = λ text.
    subst (λ s. step_name c.of_set.result ≡ step_in (phase_of s text)) (sym c.in-Set.is) c.of_set.ensures

pub returns-in-Remove : goal.returns-in-Remove
returns-in-Remove c = λ text.
    subst (λ s. step_name c.of_remove.result ≡ step_in (phase_of s text)) (sym c.in-Remove.is) c.of_remove.ensures
