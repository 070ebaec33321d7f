-- What the sends and receives of a removed queue report (POSIX.1-2017, msgsnd and msgrcv, ERRORS,
-- EIDRM and EINVAL). Each turn that such a call makes at the slot after the removal finds the
-- identifier gone. A call that came to the slot before the removal and comes to it again afterwards
-- fails with EIDRM; one that comes to it only afterwards fails with EINVAL.
use Rattle.std.specs.Prelude.{◌≡◌, ℤ, true, false, List, ◌∷◌, ◌++◌, All, Contains}
use Rattle.std.specs.List.{list_any}
use Rattle.sysv_model.specs.declared.cred.Cred.{Cred}
use Rattle.sysv_model.specs.declared.errno.Errno.TheVariants.{EIDRM, EINVAL}
use Rattle.sysv_model.specs.Message.{Message}
use Rattle.sysv_model.specs.History.{Remove, Discarded}
use Rattle.sysv_model.specs.Turn.{Op, AtSlot, Turn, ops_of}
use Rattle.sysv_keys.specs.Identifier.{slot_of_id}
use Rattle.sysv_steps.specs.Call.{SystemCall, Msgsnd, Msgrcv}
use Rattle.sysv_steps.specs.State.{Ending, Refused}
use Rattle.sysv_steps.specs.Answers.{is_at_slot, found_gone, some}
use Rattle.sysv_core.specs.World.{World, Invocation, Response}
use Rattle.sysv_core.specs.AnswerLaw.{endings_of}

-- The call is a send or a receive under this identifier.
abbrev pub IsOfQueue : ℤ → SystemCall → Type 0
IsOfQueue id (Msgsnd at mtype flags text) = at ≡ id
IsOfQueue id (Msgrcv at size mtype flags) = at ≡ id
IsOfQueue id asked = ⊥

-- The operation removes the queue of this identifier.
abbrev pub IsRemoval : ℤ → Op → Type 0
IsRemoval id op =
    (cred : Cred) × (messages : List Message) × (op ≡ AtSlot (slot_of_id id) (Remove id cred) (Discarded messages))

-- What such a call finds after the removal, and how it ends if it is over, by its operations before
-- the removal and after it.
pub record IsToldSo (before after : List Op) (endings : List Ending) : Type 0 where
  pub gone : All (λ (op : Op). is_at_slot op ≡ true → found_gone op ≡ true) after
  pub removed : some is_at_slot before → some is_at_slot after →
      All (λ (ending : Ending). ending ≡ Refused EIDRM) endings
  pub absent : list_any is_at_slot before ≡ false → some is_at_slot after →
      All (λ (ending : Ending). ending ≡ Refused EINVAL) endings

-- This holds of each removal in the world and of each send and receive under its identifier.
abbrev pub AreToldOfRemovals : World → List Response → Type 0
AreToldOfRemovals w responses = (id : ℤ) (before after : List Turn) (t : Turn) (call : Invocation) →
    w.turns ≡ before ++ t ∷ after → IsRemoval id t.op →
    Contains w.calls call → IsOfQueue id call.asked →
    IsToldSo (ops_of call.who before) (ops_of call.who after) (endings_of call.who responses)
