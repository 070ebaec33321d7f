-- Which parked calls are looked at (this project's profile). `Looked place key found` states that
-- the call of this place, which waited for this, was looked at, and what the look found.
use Rattle.std.specs.Prelude.{◌≡◌, ◌⊎◌, ℕ, ℤ, true, Option, None, Some}
use Rattle.sysv_parking.specs.declared.barriers.Barriers.{Barriers}
use Rattle.sysv_parking.specs.declared.found.Found.{Found}
use Rattle.sysv_parking.specs.declared.found.Found.TheVariants as found
use Rattle.sysv_parking.specs.declared.due.Why.{Why}
use Rattle.sysv_parking.specs.declared.key.Key.{Key}
use Rattle.sysv_parking.specs.Barriers.{IsStopped, learned}
use Rattle.sysv_parking.specs.Due.{IsGrantedAlike, NeedsNoMore}
use Rattle.sysv_parking.specs.Keys.{Names}
use Rattle.sysv_parking.specs.Parking.{MovesOnly, Parking, key_at, why_at}

module _ (Looked : ℕ → Option Key → Found → Type 0) where
  -- A call that waits for this was looked at, and still waits for it.
  abbrev pub StillWaits : Key → Type 0
  StillWaits key = (place : ℕ) × Looked place (Some key) found.Nothing

  -- The call was looked at.
  abbrev pub WasLookedAt : ℕ → Type 0
  WasLookedAt place = (key : Option Key) × (result : Found) × Looked place key result

  -- A call that waits for this and is due for these reasons would wait again. If its queue was set
  -- or removed: a call of the same caller there, of the same kind, still waits. If the count rose
  -- for which it waits: a call that needs no more still waits for the same.
  abbrev pub WouldWait : Why → Key → Type 0
  WouldWait why key = (why.changed ≡ true → (other : Key) × StillWaits other × IsGrantedAlike other key)
      × (why.raised ≡ true → (other : Key) × StillWaits other × NeedsNoMore other key)

  -- What became of a call that was due: it is still due for the same reasons, it was looked at, or
  -- it would wait again.
  abbrev pub IsHeeded : (old new : Parking) → ℕ → Type 0
  IsHeeded old new place = (why_at new place ≡ why_at old place) ⊎ (WasLookedAt place
      ⊎ ((key : Key) × (key_at old place ≡ Some key) × WouldWait (why_at old place) key))

  -- A receive that requests messages of this type at the slot was looked at, with this result.
  abbrev pub AnAskerFound : ℕ → ℤ → Found → Type 0
  AnAskerFound slot mtype result = (place : ℕ) × (key : Key) × Looked place (Some key) result × Names slot mtype key

-- No parked call is a receive that requests messages of this type at the slot.
abbrev pub IsUnwanted : Parking → ℕ → ℤ → Type 0
IsUnwanted parking slot mtype = (place : ℕ) (key : Key) → key_at parking place ≡ Some key → Names slot mtype key → ⊥

-- No call of this line is one.
abbrev pub IsUnwantedIn : (Key → ℕ) → ℕ → Parking → ℕ → ℤ → Type 0
IsUnwantedIn line_of line parking slot mtype =
    (place : ℕ) (key : Key) → key_at parking place ≡ Some key → line_of key ≡ line → Names slot mtype key → ⊥

-- Each call that is parked now was parked before, and waits for the same.
abbrev pub OnlyEnds : (old new : Parking) → Type 0
OnlyEnds old new = (place : ℕ) (key : Key) → key_at new place ≡ Some key → key_at old place ≡ Some key

-- What is known after a look with this result at a call that waited for this.
abbrev pub known_after : Found → Option Key → Barriers → Barriers
known_after found.Nothing (Some key) known = learned key known
known_after found.Nothing None known = known
known_after result key known = known

-- The key is one of a receive that requests messages of this type at the slot.
abbrev pub IsNaming : ℕ → ℤ → Option Key → Type 0
IsNaming slot mtype None = ⊥
IsNaming slot mtype (Some key) = Names slot mtype key

-- A call that waits for this and is due for these reasons would still wait.
abbrev pub IsStop : Barriers → Why → Option Key → Type 0
IsStop known why None = ⊥
IsStop known why (Some key) = IsStopped known why key

-- A call that was due was passed over, since it would still wait, or was looked at.
abbrev pub IsStep : (Looked : ℕ → Option Key → Found → Type 0) → (old new : Parking) → (was now : Barriers) → ℕ → Why →
    Type 0
IsStep Looked old new was now place why =
    ((new ≡ old) × (now ≡ was) × IsStop was why (key_at old place))
    ⊎ ((result : Found) × Looked place (key_at old place) result × MovesOnly place old new
    × (now ≡ known_after result (key_at old place) was))
