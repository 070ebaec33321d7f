-- The turns that are left at the gates of a service when it is closed. This project's profile.
use Rattle.std.specs.Prelude.{ℕ, ◌+◌, ◌^◌, ◌<◌, List, length}
use Rattle.sysv_model.specs.Turn.{slot_history, registry_history, pool_history}
use Rattle.sysv_model.specs.Members.{AreWhole}
use Rattle.sysv_model.specs.Turns.{Numbered, turns_of}
use Rattle.sysv_keys.specs.declared.identifier.TheConstants.{SLOTS}
use Rattle.sysv_service.specs.declared.opening.GatesClosed.{GatesClosed}
use Rattle.sysv_service.specs.Opened.{AreOpen}
use Rattle.sysv_service.specs.Seats.{Gates, Seats, AreOf}
use Rattle.sysv_service.specs.Sharing.{AllClose}
use Rattle.sysv_service.specs.Marks.{IsUnmarked}

-- A gate has turns left after this number of turns, if its tickets began at `first`.
abbrev pub HasTurnsLeft : ℕ → ℕ → Type 0
HasTurnsLeft first turns = first + turns < 2 ^ 62

-- If tickets begin at 0, this order has fewer than 2^62 turns at each slot, at the registry and at
-- the pool. If they begin at `first`, it has fewer than 2^62 - `first` turns at each.
pub record EachGateHasTurnsLeft (first : ℕ) (order : List Numbered) : Type 0 where
  pub slots : (slot : ℕ) → slot < SLOTS → HasTurnsLeft first (length (slot_history slot (turns_of order)))
  pub registry : HasTurnsLeft first (length (registry_history (turns_of order)))
  pub pool : HasTurnsLeft first (length (pool_history (turns_of order)))

-- If the gates were closed with seats that have the whole service, and each gate has turns left,
-- then none of the seats is marked: no pass found a gate worn out.
abbrev pub NoMarkWithTurnsLeft : Type 0
NoMarkWithTurnsLeft = (generation blocks first : ℕ) (gates : Gates) (seats : Seats) (parts : GatesClosed) →
    AreOpen generation blocks first gates → AreOf gates seats → (closes : AllClose seats parts) →
    AreWhole seats.member.shares → EachGateHasTurnsLeft first closes.order → IsUnmarked seats
