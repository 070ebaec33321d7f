-- What the code keeps of its places, and of the index that finds the slot of a key (this profile's).
use Rattle.std.specs.Prelude.{◌≡◌, ◌≢◌, ◌⊎◌, ℕ, ℤ, ◌+◌, ◌*◌, ◌<◌, ◌≤◌, Bool, false, List, All, Option, Some, None}
use Rattle.std.specs.Prelude.{length}
use Rattle.std.specs.Prelude.{is_some, sum_by, if◌then◌else◌}
use Rattle.std.proofs.Common.{HashMap, BuildHasherDefault, FoldHasher}
use Rattle.std.specs.Ordering.{int_eq}
use Rattle.indexmap.specs.IndexMap.{get, index_map_len, spare}
use Rattle.sysv_model.specs.declared.flags.Flags.{Flags}
use Rattle.sysv_model.specs.declared.limits.TheConstants.{IPC_PRIVATE}
use Rattle.sysv_model.specs.Registry.{Begin}
use Rattle.sysv_keys.specs.declared.identifier.TheConstants.{SLOTS, GENERATION_LAST}
use Rattle.sysv_keys.specs.declared.registry.Begun.{Begun}
use Rattle.sysv_keys.specs.declared.registry.KeyRow.{KeyRow}
use Rattle.sysv_keys.specs.declared.registry.Place.{Place}
use Rattle.sysv_keys.specs.Identifier.{id_of, slot_of_id}
use Rattle.sysv_keys.specs.State.{Registry, places_in, state_in}
use Rattle.sysv_keys.specs.Rows.{Row, HasRow}
use Rattle.sysv_keys.specs.LegalReply.{IsBound, Creates}
use Rattle.sysv_keys.specs.Represents.{MakesTurn}
use Rattle.sysv_keys.specs.Replies.{begun_reply, ChangesOnlyIfMade}

-- An identifier can be made in the place: it has no row, and its generation is at most the last.
abbrev pub IsOpen : Place → Type 0
IsOpen place = (place.row ≡ None) × (place.generation ≤ GENERATION_LAST)

-- There is a row, and it is Live.
abbrev pub is_live : Option KeyRow → Bool
is_live None = false
is_live (Some row) = row.live

-- The generation of a place once its row is forgotten.
abbrev pub age : Place → ℕ
age place = place.generation + (if is_some place.row then 1 else 0)

-- An upper bound on the number of settles and forgets that changed a row in this place.
abbrev pub changes_in : Place → ℕ
changes_in place = 2 * place.generation + (if is_live place.row then 1 else 0)

abbrev pub KeyIndex : Type 0
KeyIndex = HashMap ℤ ℕ (BuildHasherDefault FoldHasher)

-- The index maps the key of each row in the first slots, unless it is private, to its slot. It may
-- have other keys. It has space for one key per slot and one more.
pub record IsIndex (places : ℕ → Place) (slots : ℕ) (index : KeyIndex) : Type 0 where
  pub finds : (slot : ℕ) (row : KeyRow) → slot < slots → (places slot).row ≡ Some row → row.key ≢ IPC_PRIVATE →
      get int_eq index row.key ≡ Some slot
  pub roomy : SLOTS < index_map_len index + spare index

-- The key is entered with its slot.
pub record IsEntered (key : ℤ) (slot : ℕ) (old new : KeyIndex) : Type 0 where
  pub here : get int_eq new key ≡ Some slot
  pub others : (other : ℤ) → other ≢ key → get int_eq new other ≡ get int_eq old other
  pub longer : index_map_len new ≤ index_map_len old + 1
  pub roomy : index_map_len old + spare old ≤ index_map_len new + spare new

-- The key has a row in no other slot.
abbrev pub IsOnlyAt : (ℕ → Place) → ℕ → ℤ → Type 0
IsOnlyAt places slot key =
    (other : ℕ) (row : KeyRow) → other < SLOTS → (places other).row ≡ Some row → row.key ≡ key → other ≡ slot

-- The invariant of the registry. There is one place per slot, no generation is more than one past
-- the last once its row is forgotten, the index is right, and the settled count is bounded.
pub record IsKept (places : List Place) (index : KeyIndex) (settled : ℕ) : Type 0 where
  pub wide : length places ≡ SLOTS
  pub young : All (λ place. age place ≤ GENERATION_LAST + 1) places
  pub right : IsIndex (places_in places) SLOTS index
  pub counted : settled ≤ sum_by changes_in places

-- The place may be put into the slot, which raises the settled count by `changes`.
pub record MayPut (r : Registry) (slot : ℕ) (place : Place) (changes : ℕ) : Type 0 where
  pub there : slot < SLOTS
  pub young : age place ≤ GENERATION_LAST + 1
  -- its key is private, or it is that of the slot's row, or no row has it
  pub only : (row : KeyRow) → place.row ≡ Some row → row.key ≢ IPC_PRIVATE →
      ((old : KeyRow) × ((places_in r.places slot).row ≡ Some old) × (old.key ≡ row.key))
      ⊎ ¬ IsBound (state_in r) row.key
  pub counted : changes + changes_in (places_in r.places slot) ≤ changes_in place

-- The identifier has a row, and this is the place of its slot.
pub record IsPlaceOf (r : Registry) (id : ℤ) (place : Place) : Type 0 where
  pub there : slot_of_id id < length r.places
  pub is : places_in r.places (slot_of_id id) ≡ place
  pub current : id ≡ id_of (slot_of_id id) place.generation
  pub row : KeyRow
  pub held : place.row ≡ Some row
  pub young : place.generation ≤ GENERATION_LAST

-- The identifier has no row.
abbrev pub HasNoRow : Registry → ℤ → Type 0
HasNoRow r id = (row : Row) → HasRow (state_in r) row → row.id ≢ id

-- A begin of this key finds its row, whatever the flags are, and changes nothing.
abbrev pub Finds : Registry → ℤ → Begun → Type 0
Finds r key found =
    (flags : Flags) → MakesTurn r (Begin key flags) (begun_reply found) r × ChangesOnlyIfMade found r r

-- A begin that is to make an identifier of this key has this result.
abbrev pub Creating : Registry → ℤ → Begun → Registry → Type 0
Creating old key result new =
    (flags : Flags) → Creates (state_in old) key flags → MakesTurn old (Begin key flags) (begun_reply result) new
