-- Identifiers (this profile's; POSIX.1-2017, 2.7.1 IPC General Description, requires only that an
-- identifier is not negative). An identifier consists of its slot and of the slot's generation when
-- it was made.
use Rattle.std.specs.Prelude.{ℕ, ℤ, ◌+◌, ◌*◌, ◌%◌, pos, unsigned_abs}
use Rattle.sysv_keys.specs.declared.identifier.TheConstants.{SLOTS}

-- The identifier of a slot in a generation.
abbrev pub id_of : ℕ → ℕ → ℤ
id_of slot generation = pos (slot + SLOTS * generation)

-- The slot of the queue with this identifier.
abbrev pub slot_of_id : ℤ → ℕ
slot_of_id id = unsigned_abs id % SLOTS
