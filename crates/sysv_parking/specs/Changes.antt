-- What has changed for parked calls, apart from messages that have arrived (this project's profile).
use Rattle.std.specs.Prelude.{◌≡◌, ◌<◌, ◌+◌, ◌*◌, ◌/◌, ◌%◌, ⊤, ℕ, true, List, slice_index}
use Rattle.std.specs.Int.{bit_at}
use Rattle.std.specs.List.{Contains}
use Rattle.sysv_bells.specs.declared.view.Taking.{Taking}
use Rattle.sysv_keys.specs.declared.identifier.TheConstants.{SLOTS}
use Rattle.sysv_parking.specs.declared.changes.Change.{Change}
use Rattle.sysv_parking.specs.declared.changes.Change.TheVariants.{Queue, Room, Blocks, Settled, Anything}
use Rattle.sysv_parking.specs.declared.due.Why.{Why}
use Rattle.sysv_parking.specs.declared.key.Key.{Key}
use Rattle.sysv_parking.specs.Due.{by_raise, why_changed}
use Rattle.sysv_parking.specs.Keys.{line_blocks, line_of, line_room, line_settled, slot_in}
use Rattle.sysv_parking.specs.Lines.{NotesAll, NotesChange, NotesLine}
use Rattle.sysv_parking.specs.Parking.{Parking}
use Rattle.std.specs.Prelude.{Some}

-- The number of the change.
abbrev pub number_of : Change → ℕ
number_of (Queue slot) = slot
number_of (Room slot) = SLOTS + slot
number_of Blocks = 2 * SLOTS
number_of Settled = 2 * SLOTS + 1
number_of Anything = 2 * SLOTS + 2

-- The slot of the change exists, if it is at a slot.
abbrev pub IsThere : Change → Type 0
IsThere (Queue slot) = slot < SLOTS
IsThere (Room slot) = slot < SLOTS
IsThere change = ⊤

-- The change is one of those of which these words have a bit each.
abbrev pub Holds : List ℕ → Change → Type 0
Holds words change = bit_at (slice_index words (number_of change / 64)) (number_of change % 64) ≡ 1

-- Each change whose bit was taken is one of these.
abbrev pub AreHeld : List Taking → List ℕ → Type 0
AreHeld takings words =
    (change : Change) → IsThere change → (taking : Taking) → Contains takings taking
    → taking.word ≡ number_of change / 64 + 2 → bit_at taking.bits (number_of change % 64) ≡ 1 → Holds words change

-- Each change of the old words is one of the new words.
abbrev pub HoldsOn : (old new : List ℕ) → Type 0
HoldsOn old new = (change : Change) → Holds old change → Holds new change

-- Each reason is one of those.
abbrev pub IsWithin : (less more : Why) → Type 0
IsWithin less more = (less.changed ≡ true → more.changed ≡ true) × (less.raised ≡ true → more.raised ≡ true)

-- The change may end the wait of a call that waits for this, for these reasons.
abbrev pub Concerns : Change → Key → Why → Type 0
Concerns (Queue slot) key why = (slot_in key ≡ Some slot) × IsWithin why (why_changed key)
Concerns (Room slot) key why = (line_of key ≡ line_room slot) × IsWithin why by_raise
Concerns Blocks key why = (line_of key ≡ line_blocks) × IsWithin why by_raise
Concerns Settled key why = (line_of key ≡ line_settled) × IsWithin why by_raise
Concerns Anything key why = ⊤

-- Each parked call is due whose wait the change may end.
abbrev pub Heeds : Change → Parking → Parking → Type 0
Heeds (Queue slot) = NotesChange slot
Heeds (Room slot) = NotesLine (line_room slot)
Heeds Blocks = NotesLine line_blocks
Heeds Settled = NotesLine line_settled
Heeds Anything = NotesAll
