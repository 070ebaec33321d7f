-- For each call the step table has a play with as many turns as are possible without a wait.
use Rattle.std.proofs.Common.{ℕ, ℤ, pos, true, [], cond, List, length, refl, sym, ap, subst}
use Rattle.sysv_model.specs.declared.attributes.SetTo.{SetTo}
use Rattle.sysv_model.specs.declared.cred.Cred.{Cred}
use Rattle.sysv_model.specs.declared.errno.Errno.TheVariants.{EINVAL, EACCES}
use Rattle.sysv_model.specs.declared.flags.Flags.{Flags}
use Rattle.sysv_model.specs.declared.flags.TheConstants.Flags.{MSG_NOERROR}
use Rattle.sysv_model.specs.HasFlag.{has_flag}
use Rattle.sysv_model.specs.Message.{Message}
use Rattle.sysv_model.specs.Selector.{selector_for}
use Rattle.sysv_model.specs.History.{Install, Look, Place, Take, ReadStat, Set, Remove, Installed, Fits, Denied, Taken}
use Rattle.sysv_model.specs.History.{Done, Discarded, Refused as IsRefusedFor}
use Rattle.sysv_model.specs.Registry.{Begin, Settle, Forget, Made, Changed}
use Rattle.sysv_model.specs.Pool.{Reserve, Release, Reserved, Released, blocks_for}
use Rattle.sysv_model.specs.Turn.{AtSlot, AtRegistry, AtPool}
use Rattle.sysv_keys.specs.Identifier.{slot_of_id}
use Rattle.sysv_steps.specs.Call.{SystemCall, Msgget, Msgsnd, Msgrcv, MsgctlStat, MsgctlSet, MsgctlRmid, Kind, kind_of}
use Rattle.sysv_steps.specs.State.{State, Goes, Over, Refused}
use Rattle.sysv_steps.specs.Begin.{first}
use Rattle.sysv_steps.specs.Played.{Plays, begins, steps}
use Rattle.sysv_thread_laws.specs.OwnSteps.{most_turns, IsReached, EachNumberIsReached}

-- A message of no bytes.
abbrev empty : Message
empty = record { number = 0; sender = 0; mtype = pos 1; bytes = [] }

abbrev at_start : {kind : Kind} (from : State kind) → Plays from [] from
at_start from = begins

module _ (cred : Cred) (released : ℕ) where
  abbrev start : (asked : SystemCall) → State (kind_of asked)
  start asked = Goes (first cred asked released)

  -- It makes a queue.
  by_get : (key : ℤ) (flags : Flags) → IsReached (start (Msgget key flags)) 3
  by_get key flags =
      let begun = steps (AtRegistry (Begin key flags) (Made (pos 0))) 0 _ (at_start (start (Msgget key flags))) refl
      refl in
      let installed =
      steps (AtSlot (slot_of_id (pos 0)) (Install (pos 0) key cred flags.0 0) (Installed true)) 0 _ begun
      refl refl in
      (_, _, steps (AtRegistry (Settle (pos 0)) (Changed true)) 0 _ installed refl refl, refl)

  -- It finds room, and is denied permission at its place.
  by_send : (id mtype : ℤ) (flags : Flags) (text : List ℕ) → IsReached (start (Msgsnd id mtype flags text)) 4
  by_send id mtype flags text =
      let looked = steps (AtSlot (slot_of_id id) (Look id cred (length text)) Fits) 0 _
      (at_start (start (Msgsnd id mtype flags text))) refl refl in
      let reserved = steps (AtPool (Reserve (length text)) (Reserved 0)) 0 _ looked refl refl in
      let placed = steps (AtSlot (slot_of_id id) (Place id cred mtype text 0) Denied) 0 _ reserved refl refl in
      (_, _, steps (AtPool (Release 0) Released) 0 _ placed refl refl, refl)

  -- It takes a message.
  by_receive : (id : ℤ) (size : ℕ) (mtype : ℤ) (flags : Flags) → IsReached (start (Msgrcv id size mtype flags)) 2
  by_receive id size mtype flags =
      let took = steps (AtSlot (slot_of_id id)
      (Take id cred (selector_for mtype flags) size (has_flag MSG_NOERROR flags) 0) (Taken empty)) 0 _
      (at_start (start (Msgrcv id size mtype flags))) refl
      refl in
      (_, _, steps (AtPool (Release (blocks_for 0)) Released) 0 _ took refl refl, refl)

  by_stat : (id : ℤ) → IsReached (start (MsgctlStat id)) 1
  by_stat id = (
    _,
    _,
    steps (AtSlot (slot_of_id id) (ReadStat id cred) (IsRefusedFor EACCES)) 0 _
        (at_start (start (MsgctlStat id))) refl refl,
    refl,
  )

  by_set : (id : ℤ) (to : SetTo) → IsReached (start (MsgctlSet id to)) 2
  by_set id to =
      let set = steps (AtSlot (slot_of_id id) (Set id cred to 0) Done) 0 _ (at_start (start (MsgctlSet id to))) refl
      refl in
      (_, _, steps (AtPool (Release 0) Released) 0 _ set refl refl, refl)

  by_removal : (id : ℤ) → IsReached (start (MsgctlRmid id)) 3
  by_removal id =
      let removed = steps (AtSlot (slot_of_id id) (Remove id cred) (Discarded [])) 0 _
      (at_start (start (MsgctlRmid id))) refl refl in
      let forgotten = steps (AtRegistry (Forget id) (Changed true)) 0 _ removed refl refl in
      (_, _, steps (AtPool (Release 0) Released) 0 _ forgotten refl refl, refl)

  by_first : (asked : SystemCall) → IsReached (start asked) (most_turns (kind_of asked))
  by_first (Msgget key flags) = by_get key flags
  by_first (Msgsnd id mtype flags text) = by_send id mtype flags text
  by_first (Msgrcv id size mtype flags) = by_receive id size mtype flags
  by_first (MsgctlStat id) = by_stat id
  by_first (MsgctlSet id to) = by_set id to
  by_first (MsgctlRmid id) = by_removal id

pub each_number : EachNumberIsReached
each_number cred asked released fine =
    subst (λ from. IsReached from (most_turns (kind_of asked)))
    (ap (λ b. cond b (Over (Refused EINVAL)) (Goes (first cred asked released))) (sym fine))
    (by_first cred released asked)
