use Rattle.std.proofs.Common.{◌≡◌, List, ℕ, inr, refl, subst, sym}
use Rattle.sysv_clients.specs.Saved.{IsQueueLine}
use Rattle.sysv_clients.proofs.loading.Loader.pass.Goals as goal

pub returns-in-Ok-None-clause-passes : goal.returns-in-Ok-None-clause-passes
returns-in-Ok-None-clause-passes c =
    let none = rw c.in-Ok-None.field-0-is at c.in-Ok-None.ensures in
    rw c.take.ensures.place (
      refl,
      inr (
        λ queue h. none queue (subst (λ (l : List ℕ). IsQueueLine l queue) (sym c.bytes.ensures) h),
        refl,
        refl,
      ),
    )
