-- Parked rightly: each call that waits has a reason to (POSIX.1-2017, msgsnd and msgrcv,
-- DESCRIPTION, where the caller is suspended; the counts are this project's profile).
--
-- A receive that waits below its goal has nothing to take: its queue is live, it may read, and its
-- selector names no queued message. A send that waits for room below its goal has none: its queue
-- is live, it may write, and its body does not fit. A get that waits below its goal finds its key
-- bound to a row that another call still has to settle or forget. A send that waits for blocks
-- below its goal finds too few free for its body; and its queue is live and it may write, or a set
-- or a removal of that queue is still before its giveback, which ends the wait. So no call keeps
-- waiting after its reason is gone, or for good on a queue that was removed or closed to it.
use Rattle.std.specs.Prelude.{◌≡◌, ◌<◌, ◌⊎◌, ℕ, ℤ, Some, length, slice_get}
use Rattle.sysv_model.specs.declared.attributes.Attributes.{Attributes}
use Rattle.sysv_model.specs.declared.cred.Cred.{Cred}
use Rattle.sysv_model.specs.declared.selector.Selector.{Selector}
use Rattle.sysv_model.specs.Selector.{selector_for}
use Rattle.sysv_model.specs.History.{History}
use Rattle.sysv_model.specs.Live.{live, IsLive}
use Rattle.sysv_model.specs.Waiting.{waiting}
use Rattle.sysv_model.specs.Pool.{blocks_for}
use Rattle.sysv_model.specs.Turn.{slot_history, registry_history, pool_history}
use Rattle.sysv_pool.specs.State.{free_after}
use Rattle.sysv_queue.specs.Fits.{Fits}
use Rattle.sysv_queue.specs.Granted.{MayRead, MayWrite}
use Rattle.sysv_queue.specs.Named.{IsNamed}
use Rattle.sysv_keys.specs.Identifier.{slot_of_id}
use Rattle.sysv_keys.specs.Rows.{Row, IsRow}
use Rattle.sysv_steps.specs.Call.{SystemCall, Msgget, Msgsnd, Msgrcv, MsgctlSet, MsgctlRmid, kind_of}
use Rattle.sysv_steps.specs.State.{Wait, OnSettled, OnFreed, OnReleased, OnArrived, AtSetGiveback, AtForget}
use Rattle.sysv_steps.specs.State.{AtRemoveGiveback, State, Goes, Waits}
use Rattle.sysv_steps.specs.Resume.{awaited, goal_of}
use Rattle.sysv_core.specs.World.{World, Doing, value_of}
use Rattle.sysv_core.specs.Tending.{IsTended}

-- The queue of this identifier, in the slot with this history, is live, may be read, and has no
-- message that the selector names.
pub record HasNothingToTake (h : History) (id : ℤ) (cred : Cred) (selector : Selector) : Type 0 where
  pub lives : IsLive h id
  pub may_read : MayRead cred (live h)
  pub unnamed : (place : ℕ) → ¬ IsNamed selector (waiting id h) place

-- The queue is live, may be written, and has no room for a body of this size.
pub record HasNoRoom (h : History) (id : ℤ) (cred : Cred) (size : ℕ) : Type 0 where
  pub lives : IsLive h id
  pub may_write : MayWrite cred (live h)
  pub crowded : (a : Attributes) → live h ≡ Some a → ¬ Fits a.qbytes (waiting id h) size

-- A row has the key, and some actor's call still has to settle or to forget it.
pub record IsBeingChanged (w : World) (key : ℤ) : Type 0 where
  pub row : Row
  pub bound : IsRow w.generation (registry_history w.turns) row
  pub of_key : row.key ≡ key
  pub tended : IsTended w row.id

-- Fewer blocks are free than a body of this size needs.
abbrev pub HasTooFewBlocks : World → ℕ → Type 0
HasTooFewBlocks w size = free_after w.blocks (pool_history w.turns) < blocks_for size

-- The queue of this identifier is live, and these credentials may write to it.
pub record IsOpenTo (h : History) (id : ℤ) (cred : Cred) : Type 0 where
  pub lives : IsLive h id
  pub may_write : MayWrite cred (live h)

-- A set of that queue was done, or a removal of it, and the call is still before its giveback, or
-- before the forget that precedes it.
abbrev pub HasToGiveBack : (asked : SystemCall) → State (kind_of asked) → ℤ → Type 0
HasToGiveBack (MsgctlSet at to) (Goes AtSetGiveback) id = at ≡ id
HasToGiveBack (MsgctlRmid at) (Goes (AtForget removed blocks)) id = at ≡ id
HasToGiveBack (MsgctlRmid at) (Goes (AtRemoveGiveback blocks)) id = at ≡ id
HasToGiveBack asked state id = ⊥

-- Some actor's call is such a set or removal.
pub record HasChangeToTell (w : World) (id : ℤ) : Type 0 where
  pub place : ℕ
  pub doing : Doing
  pub there : slice_get w.actors place ≡ Some (Some doing)
  pub gives : HasToGiveBack doing.call.asked doing.state id

-- The queue is still open to these credentials, or a change of it is still to be reported to the
-- pool.
abbrev pub IsToBeWoken : World → ℤ → Cred → Type 0
IsToBeWoken w id cred = IsOpenTo (slot_history (slot_of_id id) w.turns) id cred ⊎ HasChangeToTell w id

-- The reason for which a call with these credentials and arguments waits. A msgctl never waits.
abbrev pub HasReason : World → Cred → (asked : SystemCall) → Wait (kind_of asked) → Type 0
HasReason w cred (Msgrcv id size mtype flags) (OnArrived goal receive) =
    HasNothingToTake (slot_history (slot_of_id id) w.turns) id cred (selector_for mtype flags)
HasReason w cred (Msgsnd id mtype flags text) (OnFreed goal send) =
    HasNoRoom (slot_history (slot_of_id id) w.turns) id cred (length text)
HasReason w cred (Msgsnd id mtype flags text) (OnReleased goal send) =
    HasTooFewBlocks w (length text) × IsToBeWoken w id cred
HasReason w cred (Msgget key flags) (OnSettled goal get) = IsBeingChanged w key
HasReason w cred asked wait = elim wait [ ]

-- The actor's call waits below its goal.
pub record IsParked (w : World) (place : ℕ) (d : Doing) (wait : Wait (kind_of d.call.asked)) : Type 0 where
  pub there : slice_get w.actors place ≡ Some (Some d)
  pub waits : d.state ≡ Waits wait
  pub below : value_of w.turns (awaited wait) < goal_of wait

-- Each call that waits below its goal has its reason.
abbrev pub AreParkedRightly : World → Type 0
AreParkedRightly w =
    (place : ℕ) (d : Doing) (wait : Wait (kind_of d.call.asked)) → IsParked w place d wait →
    HasReason w d.call.cred d.call.asked wait
