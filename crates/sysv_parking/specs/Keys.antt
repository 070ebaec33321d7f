-- What parked calls wait for, and in which line they are (this project's profile). Calls that wait
-- for the same are in one line: the receives at a slot by their kind of selector, those of an exact
-- type by a hash of slot and type, the sends that wait for room at a slot, all sends that wait for
-- blocks, and all gets.
use Rattle.std.specs.Prelude.{◌≡◌, ℕ, ℤ, ◌+◌, ◌-◌, ◌*◌, ◌/◌, ◌%◌, ◌^◌, min, Option, None, Some, unsigned_abs}
use Rattle.sysv_keys.specs.Identifier.{slot_of_id}
use Rattle.sysv_keys.specs.declared.identifier.TheConstants.{SLOTS}
use Rattle.sysv_model.specs.declared.selector.Selector.{Selector}
use Rattle.sysv_model.specs.declared.selector.Selector.TheVariants.{Any, Exactly, Except, UpTo}
use Rattle.sysv_rules.specs.Qualifies.{Qualifies}
use Rattle.sysv_parking.specs.declared.key.Caller.{Caller}
use Rattle.sysv_parking.specs.declared.key.Key.{Key}
use Rattle.sysv_parking.specs.declared.key.Key.TheVariants.{Message, Room, Blocks, Settled}
use Rattle.sysv_parking.specs.declared.key.TheConstants.{BLOCKS_LINE, SETTLED_LINE, SPREAD, SLOT_SPREAD, BLOCKS_WORD}
use Rattle.sysv_parking.specs.declared.key.TheConstants.{SETTLED_WORD}

-- Whose call it is, unless it is a get.
abbrev pub caller_of : Key → Option Caller
caller_of (Message caller selector) = Some caller
caller_of (Room caller length) = Some caller
caller_of (Blocks caller length) = Some caller
caller_of Settled = None

-- The slot of the queue at which the call is, unless it is a get.
abbrev pub slot_in : Key → Option ℕ
slot_in (Message caller selector) = Some (slot_of_id caller.id)
slot_in (Room caller length) = Some (slot_of_id caller.id)
slot_in (Blocks caller length) = Some (slot_of_id caller.id)
slot_in Settled = None

-- The sum, or the greatest number of 64 bits if that is less.
abbrev pub bounded_sum : ℕ → ℕ → ℕ
bounded_sum a b = min (a + b) (2 ^ 64 - 1)

-- The hash of a slot and an exact type.
abbrev pub hash_of : ℕ → ℤ → ℕ
hash_of slot mtype = (((unsigned_abs mtype + slot * SLOT_SPREAD % 2 ^ 64) % 2 ^ 64) * SPREAD % 2 ^ 64) / 2 ^ 52

-- The lines at a slot.
abbrev pub line_any : ℕ → ℕ
line_any slot = slot

abbrev pub line_up_to : ℕ → ℕ
line_up_to slot = bounded_sum SLOTS slot

abbrev pub line_except : ℕ → ℕ
line_except slot = bounded_sum (2 * SLOTS) slot

abbrev pub line_room : ℕ → ℕ
line_room slot = bounded_sum (3 * SLOTS) slot

abbrev pub line_exact : ℕ → ℤ → ℕ
line_exact slot mtype = bounded_sum (4 * SLOTS) (hash_of slot mtype)

abbrev pub line_blocks : ℕ
line_blocks = BLOCKS_LINE

abbrev pub line_settled : ℕ
line_settled = SETTLED_LINE

-- The line of a receive with this selector at a slot.
abbrev pub line_for : ℕ → Selector → ℕ
line_for slot Any = line_any slot
line_for slot (UpTo bound) = line_up_to slot
line_for slot (Except mtype) = line_except slot
line_for slot (Exactly mtype) = line_exact slot mtype

-- The line of a call that waits for this.
abbrev pub line_of : Key → ℕ
line_of (Message caller selector) = line_for (slot_of_id caller.id) selector
line_of (Room caller length) = line_room (slot_of_id caller.id)
line_of (Blocks caller length) = line_blocks
line_of Settled = line_settled

-- The word of the calls that wait for the same count.
abbrev pub word_of : Key → ℕ
word_of (Message caller selector) = slot_of_id caller.id
word_of (Room caller length) = bounded_sum SLOTS (slot_of_id caller.id)
word_of (Blocks caller length) = BLOCKS_WORD
word_of Settled = SETTLED_WORD

-- The call is a receive that requests messages of this type at the slot.
abbrev pub Names : ℕ → ℤ → Key → Type 0
Names slot mtype (Message caller selector) = (slot_of_id caller.id ≡ slot) × Qualifies selector mtype
Names slot mtype key = ⊥
