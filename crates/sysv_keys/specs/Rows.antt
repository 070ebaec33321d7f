-- The rows of the registry, its vacant slots, and the turns that change them (this profile's words
-- for what POSIX.1-2017, msgget, says of keys and identifiers).
use Rattle.std.specs.Prelude.{◌≡◌, ℕ, ℤ, ◌<◌, ◌≤◌, ◌==◌, ◌&&◌, Bool, true, false, Option, None, Some, option_map}
use Rattle.std.specs.List.{list_any}
use Rattle.std.specs.Ordering.{int_eq}
use Rattle.sysv_model.specs.Registry.{RegistryCall, RegistryReply, RegistryEntry, RegistryHistory, Begin, Settle}
use Rattle.sysv_model.specs.Registry.{Forget, Made, Changed}
use Rattle.sysv_keys.specs.declared.identifier.TheConstants.{SLOTS, GENERATION_LAST}
use Rattle.sysv_keys.specs.declared.registry.KeyRow.{KeyRow}
use Rattle.sysv_keys.specs.declared.registry.Place.{Place}
use Rattle.sysv_keys.specs.Identifier.{id_of, slot_of_id}
use Rattle.sysv_keys.specs.State.{State, state_of}

-- A row: an identifier, the key that it was made for, and whether the row is Live.
pub record Row : Type 0 where
  pub id : ℤ
  pub key : ℤ
  pub live : Bool

-- The row in the place of a slot, if there is one. Its identifier consists of the slot and the
-- slot's generation.
abbrev pub row_at : ℕ → Place → Option Row
row_at slot place = option_map (λ (row : KeyRow). record {
  id = id_of slot place.generation;
  key = row.key;
  live = row.live;
}) place.row

-- The registry has this row.
abbrev pub HasRow : State → Row → Type 0
HasRow r row = row_at (slot_of_id row.id) (r.places (slot_of_id row.id)) ≡ Some row

-- The history leaves this row, if all slots had the generation `opening` when the registry was
-- opened.
abbrev pub IsRow : ℕ → RegistryHistory → Row → Type 0
IsRow opening h row = HasRow (state_of opening h) row

-- A queue can be made in the slot: it has no row and is not retired.
pub record IsVacant (r : State) (slot : ℕ) : Type 0 where
  pub there : slot < SLOTS
  pub empty : (r.places slot).row ≡ None
  pub usable : (r.places slot).generation ≤ GENERATION_LAST

-- The slot is the least vacant one.
abbrev pub IsLeastVacant : State → ℕ → Type 0
IsLeastVacant r slot = IsVacant r slot × ((lower : ℕ) → lower < slot → ¬ IsVacant r lower)

-- The slot has no row and generation 0, so no identifier of it was ever made.
pub record IsUnused (opening : ℕ) (h : RegistryHistory) (slot : ℕ) : Type 0 where
  pub empty : ((state_of opening h).places slot).row ≡ None
  pub first : ((state_of opening h).places slot).generation ≡ 0

-- A turn that made this identifier for this key.
abbrev pub makes : ℤ → ℤ → RegistryCall → RegistryReply → Bool
makes id key (Begin asked flags) (Made made) = int_eq made id && int_eq asked key
makes id key call reply = false

-- A turn that settled this identifier.
abbrev pub settles : ℤ → RegistryCall → RegistryReply → Bool
settles id (Settle at) (Changed true) = int_eq at id
settles id call reply = false

-- A turn that forgot this identifier.
abbrev pub forgets : ℤ → RegistryCall → RegistryReply → Bool
forgets id (Forget at) (Changed true) = int_eq at id
forgets id call reply = false

-- A turn that forgot an identifier of this slot.
abbrev pub frees : ℕ → RegistryCall → RegistryReply → Bool
frees slot (Forget id) (Changed true) = slot_of_id id == slot
frees slot call reply = false

-- The history has a turn that made this identifier for this key.
abbrev pub is_made : ℤ → ℤ → RegistryHistory → Bool
is_made id key h = list_any (λ (e : RegistryEntry). makes id key e.call e.reply) h

-- The history has a turn that settled this identifier.
abbrev pub is_settled : ℤ → RegistryHistory → Bool
is_settled id h = list_any (λ (e : RegistryEntry). settles id e.call e.reply) h

-- The history has a turn that forgot this identifier.
abbrev pub is_forgotten : ℤ → RegistryHistory → Bool
is_forgotten id h = list_any (λ (e : RegistryEntry). forgets id e.call e.reply) h
