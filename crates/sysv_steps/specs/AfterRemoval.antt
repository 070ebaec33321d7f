-- What a send or a receive reports after its queue was removed (POSIX.1-2017, msgsnd and msgrcv,
-- ERRORS, EIDRM and EINVAL). A call that had come to its slot before it found the identifier gone
-- fails with EIDRM. A call that found it gone at its first turn at a slot fails with EINVAL.
-- Neither comes to a slot again.
use Rattle.std.specs.Prelude.{◌≡◌, ℕ, false, List, ◌∷◌, ◌++◌}
use Rattle.std.specs.List.{list_any}
use Rattle.sysv_model.specs.declared.cred.Cred.{Cred}
use Rattle.sysv_model.specs.declared.errno.Errno.TheVariants.{EIDRM, EINVAL}
use Rattle.sysv_model.specs.History.{Call, Gone}
use Rattle.sysv_model.specs.Turn.{Op, AtSlot}
use Rattle.sysv_steps.specs.Call.{SystemCall, Msgsnd, Msgrcv}
use Rattle.sysv_steps.specs.State.{Ending, Refused, Over}
use Rattle.sysv_steps.specs.Begin.{begin}
use Rattle.sysv_steps.specs.Played.{Plays}
use Rattle.sysv_steps.specs.Answers.{is_at_slot, some}

-- The call is a send or a receive.
abbrev pub SendsOrReceives : SystemCall → Type 0
SendsOrReceives (Msgsnd id mtype flags text) = Unit {0}
SendsOrReceives (Msgrcv id size mtype flags) = Unit {0}
SendsOrReceives asked = ⊥

-- What a call that found its identifier gone reports, by its operations before that one and after
-- it: EIDRM if one of the earlier operations was at a slot, EINVAL if none was. No later operation
-- is at a slot.
pub record IsToldOfRemoval (before after : List Op) (ending : Ending) : Type 0 where
  pub removed : some is_at_slot before → ending ≡ Refused EIDRM
  pub absent : list_any is_at_slot before ≡ false → ending ≡ Refused EINVAL
  pub last : list_any is_at_slot after ≡ false

-- Each send or receive that plays to its end and found its identifier gone reports that.
abbrev pub EachIsToldOfRemoval : Type 0
EachIsToldOfRemoval = (cred : Cred) (asked : SystemCall) (released : ℕ) (ops : List Op) (ending : Ending) →
    SendsOrReceives asked → Plays (begin cred asked released) ops (Over ending) →
    (before after : List Op) (slot : ℕ) (call : Call) → ops ≡ before ++ AtSlot slot call Gone ∷ after →
    IsToldOfRemoval before after ending
