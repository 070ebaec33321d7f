-- The state in which a history leaves the registry (this profile's words for what POSIX.1-2017,
-- msgget, says of keys and identifiers). Each slot has a generation, and at most one row. A row
-- binds the identifier that consists of the slot and its generation to the key that it was made
-- for. It exists from the turn that made the identifier to the turn that forgot it. It is Making
-- until a turn has settled it, and Live from then on. A slot's generation rises by one with each
-- identifier of the slot that is forgotten.
use Rattle.std.specs.Prelude.{ℕ, ℤ, ◌+◌, ◌==◌, true, false, List, None, Some, option_map}
use Rattle.std.specs.Prelude.{fold, nat_lt, get_or, if◌then◌else◌}
use Rattle.sysv_model.specs.Registry.{RegistryCall, RegistryReply, RegistryEntry, RegistryHistory, Begin, Settle}
use Rattle.sysv_model.specs.Registry.{Forget, Made, Changed, changes_row, settled}
use Rattle.sysv_keys.specs.declared.identifier.TheConstants.{SLOTS}
use Rattle.sysv_keys.specs.declared.registry.KeyRow.{KeyRow}
use Rattle.sysv_keys.specs.declared.registry.Place.{Place}
use Rattle.sysv_keys.specs.Identifier.{slot_of_id}

-- The state of the registry: the place of each slot, and the settled count.
pub record State : Type 0 where
  pub places : ℕ → Place
  pub settled : ℕ

-- A place without a row.
abbrev pub empty : ℕ → Place
empty generation = record { generation = generation; row = None }

-- A place in which an identifier was made for this key.
abbrev pub made_in : ℤ → Place → Place
made_in key place = record { generation = place.generation; row = Some (record { key = key; live = false }) }

-- A place whose row was settled.
abbrev pub settled_in : Place → Place
settled_in place = record {
  generation = place.generation;
  row = option_map (λ (row : KeyRow). record { key = row.key; live = true }) place.row;
}

-- A place whose row was forgotten.
abbrev pub forgotten_in : Place → Place
forgotten_in place = empty (place.generation + 1)

-- The places with another one at this slot.
abbrev pub write : (ℕ → Place) → ℕ → Place → ℕ → Place
write places slot place other = if other == slot then place else places other

-- The places after one more turn. Only the turns listed here change one, in the slot of their
-- identifier.
abbrev pub places_after : (ℕ → Place) → RegistryCall → RegistryReply → ℕ → Place
places_after old (Begin key flags) (Made id) = write old (slot_of_id id) (made_in key (old (slot_of_id id)))
places_after old (Settle id) (Changed true) = write old (slot_of_id id) (settled_in (old (slot_of_id id)))
places_after old (Forget id) (Changed true) = write old (slot_of_id id) (forgotten_in (old (slot_of_id id)))
places_after old call reply = old

-- The registry after one more turn.
abbrev pub state_after : State → RegistryCall → RegistryReply → State
state_after old call reply = record {
  places = places_after old.places call reply;
  settled = if changes_row reply then old.settled + 1 else old.settled;
}

-- The places of a registry that was just opened: all slots have this generation. Numbers from SLOTS
-- on are no slots, and their places never change.
abbrev pub opened : ℕ → ℕ → Place
opened generation slot = if nat_lt slot SLOTS then empty generation else empty 0

-- The places that a history leaves, if all slots had the generation `opening` when the registry was
-- opened.
abbrev pub places_of : ℕ → RegistryHistory → ℕ → Place
places_of opening h = fold (λ (old : ℕ → Place) (e : RegistryEntry). places_after old e.call e.reply) (opened opening) h

-- The state in which a history leaves the registry.
abbrev pub state_of : ℕ → RegistryHistory → State
state_of opening h = record { places = places_of opening h; settled = settled h }

-- What the contracts see of a registry: the places of the slots in their order, and the settled
-- count.
pub record Registry : Type 0 where
  pub places : List Place
  pub settled : ℕ

-- The place of each slot in this list. Numbers from its length on are no slots.
abbrev pub places_in : List Place → ℕ → Place
places_in places slot = get_or places slot (empty 0)

-- The state of a registry.
abbrev pub state_in : Registry → State
state_in r = record { places = places_in r.places; settled = r.settled }
