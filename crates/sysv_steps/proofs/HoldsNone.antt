-- The calls that hold no block.
use Rattle.std.proofs.Common.{◌≡◌, refl}
use Rattle.sysv_steps.specs.HeldBlocks.{held}
use Rattle.sysv_steps.specs.Seen.{get_phase, set_phase}
use Rattle.sysv_steps.specs.State.{Goes}
use Rattle.sysv_steps.specs.declared.get.GetStep.{GetStep}
use Rattle.sysv_steps.specs.declared.get.GetStep.TheVariants as get
use Rattle.sysv_steps.specs.declared.set.SetStep.{SetStep}
use Rattle.sysv_steps.specs.declared.set.SetStep.TheVariants as set

pub get_holds_none : (s : GetStep) → held (Goes (get_phase s)) ≡ 0
get_holds_none (get.Begin g) = refl
get_holds_none (get.Install g id) = refl
get_holds_none (get.Settle id) = refl
get_holds_none (get.Probe g id settled) = refl
get_holds_none (get.Unmake id) = refl

pub set_holds_none : (s : SetStep) → held (Goes (set_phase s)) ≡ 0
set_holds_none (set.Set cred id to) = refl
set_holds_none set.Giveback = refl
