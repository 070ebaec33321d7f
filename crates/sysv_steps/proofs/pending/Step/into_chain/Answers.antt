use Rattle.std.proofs.Common.{◌≡◌, sym, ap, subst, ◌∙◌}
use Rattle.sysv_pool.specs.Chain.{Chained}
use Rattle.sysv_steps.specs.HeldBlocks.{held}
use Rattle.sysv_steps.specs.Pending.{phase_of}
use Rattle.sysv_steps.specs.State.{Goes}
use Rattle.sysv_steps.proofs.HoldsNone.{get_holds_none, set_holds_none}
use Rattle.sysv_steps.proofs.pending.Step.into_chain.Goals as goal

pub returns-in-Get : goal.returns-in-Get
returns-in-Get c = λ text.
    subst (λ s. c.empty.result.blocks ≡ held (Goes (phase_of s text))) (sym c.in-Get.is)
    (ap (λ (x : Chained). x.blocks) c.empty.ensures ∙ sym (get_holds_none c.in-Get._step))

pub returns-in-Send : goal.returns-in-Send
returns-in-Send c = λ text.
    subst (λ s. c.into_chain.result.blocks ≡ held (Goes (phase_of s text))) (sym c.in-Send.is)
    (c.into_chain.ensures text)

pub returns-in-Receive : goal.returns-in-Receive
returns-in-Receive c = λ text.
    subst (λ s. c.into_chain-in-Receive.result.blocks ≡ held (Goes (phase_of s text))) (sym c.in-Receive.is)
    (c.into_chain-in-Receive.ensures text)

pub returns-in-Stat : goal.returns-in-Stat
returns-in-Stat c = λ text.
    subst (λ s. c.empty-in-Stat.result.blocks ≡ held (Goes (phase_of s text))) (sym c.in-Stat.is)
    (ap (λ (x : Chained). x.blocks) c.empty-in-Stat.ensures)

pub returns-in-Set : goal.returns-in-Set
returns-in-Set c = λ text.
    subst (λ s. c.empty-in-Set.result.blocks ≡ held (Goes (phase_of s text))) (sym c.in-Set.is)
    (ap (λ (x : Chained). x.blocks) c.empty-in-Set.ensures ∙ sym (set_holds_none c.in-Set._step))

pub returns-in-Remove : goal.returns-in-Remove
returns-in-Remove c = λ text.
    subst (λ s. c.into_chain-in-Remove.result.blocks ≡ held (Goes (phase_of s text))) (sym c.in-Remove.is)
    c.into_chain-in-Remove.ensures
