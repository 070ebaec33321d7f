-- A removal is for good (this project's profile: POSIX.1-2017, msgctl, IPC_RMID has the removal,
-- and leaves open whether an identifier is used again). A queue is installed in the slot of its
-- identifier, and each identifier is installed at most once. So after a queue was removed, its slot
-- accepts and delivers nothing more under that identifier, and each later turn with that identifier
-- finds that it is not live.
use Rattle.std.specs.Prelude.{◌≡◌, ℕ, ℤ, true, List, ◌∷◌, ◌++◌, All}
use Rattle.sysv_model.specs.History.{Install, Entry, History}
use Rattle.sysv_model.specs.Turn.{Op, AtSlot, Turn, slot_history}
use Rattle.sysv_queue.specs.QueueLaw.{removes}
use Rattle.sysv_queue.specs.ForGood.{IsInstalledOnce, IsGoneSince}
use Rattle.sysv_keys.specs.Identifier.{slot_of_id}

-- If the operation is an install, it is at the slot of the identifier.
abbrev pub IsInItsSlot : Op → Type 0
IsInItsSlot (AtSlot slot (Install id key cred mode now) reply) = slot ≡ slot_of_id id
IsInItsSlot op = Unit {0}

-- In these turns each removal is for good.
pub record AreRemovedForGood (turns : List Turn) : Type 0 where
  pub at_home : All (λ (t : Turn). IsInItsSlot t.op) turns
  pub once : (slot : ℕ) (id : ℤ) → IsInstalledOnce id (slot_history slot turns)
  pub gone : (slot : ℕ) (id : ℤ) (before after : History) (e : Entry) → slot_history slot turns ≡ before ++ e ∷ after →
      removes id e.call e.reply ≡ true →
      IsGoneSince id after (slot_history slot turns)
