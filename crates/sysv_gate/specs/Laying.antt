-- How a table with several places is laid. This project's profile.
use Rattle.std.specs.Prelude.{◌≡◌, ℕ, ◌*◌, ◌<◌, List, [], ◌∷◌, length, map, slice_index, None}
use mathlib.Core.Option.{some}
use lib.ListN.{get_elem?}
use Rattle.sysv_gate.specs.Rule.{Spot, put}
use Rattle.atomic_table.specs.Seated.{TableId}
use Rattle.atomic_table.specs.declared.shared.Seat.{Seat}
use Rattle.sysv_gate.specs.declared.table.TableKey.{TableKey}
use Rattle.sysv_gate.specs.declared.table.view.Sight.{Sight}
use Rattle.sysv_gate.specs.Tables.{block, outset}
use Rattle.sysv_gate.specs.Locks.{LockView}

-- The words of a new place: its tickets begin at `first`, and the counts are those of the object.
abbrev pub IsLaid : {O : Type 0} → (O → ℕ × ℕ) → ℕ → O → List ℕ → Type 0
IsLaid counted first o words =
    (slice_index words 16 ≡ first) × (slice_index words 32 ≡ first) × (slice_index words 48 ≡ (counted o).0)
    × (slice_index words 64 ≡ (counted o).1)

-- The words of the first `count` places.
abbrev pub AreLaidUpTo : {O : Type 0} → (O → ℕ × ℕ) → ℕ → List O → ℕ → List ℕ → Type 0
AreLaidUpTo {O} counted first objects count words =
    (length words ≡ 80 * count)
    × ((place : ℕ) (o : O) → place < count → get_elem? objects place ≡ some o →
    IsLaid counted first o (block place words))

-- The locks of the first `count` places, each with its object.
abbrev pub AreLocksUpTo : {O : Type 0} → List O → ℕ → List (LockView O) → Type 0
AreLocksUpTo {O} objects count locks =
    (length locks ≡ count)
    × ((place : ℕ) (o : O) → place < count → get_elem? objects place ≡ some o →
    get_elem? locks place ≡ some (record { place = place; opening = o }))

-- Each object is in its slot.
abbrev pub all_put : {O C R : Type 0} → List O → List (Spot O C R)
all_put objects = map (λ o. put o None) objects

-- The table has one place, where this object was first, and the lock is that of the place.
pub record IsOneLock {O : Type 0} (o : O) (start : ℕ) (id : TableId) (key : TableKey O)
    (lock : LockView O) : Type 0 where
  pub openings : key.openings.value.items ≡ o ∷ []
  pub first : key.first ≡ start
  pub words : id.words ≡ 80
  pub slots : id.slots ≡ 1
  pub is : lock ≡ record { place = 0; opening = o }

module _ {O C R : Type 0} where
  -- The table and its first pass are new.
  pub record IsNew (id : TableId) (known about : TableKey O) (token : Seat (Spot O C R) (Sight O C R)) : Type 0 where
    pub key : known ≡ about
    pub words : id.words ≡ 80 * length about.openings.value.items
    pub slots : id.slots ≡ length about.openings.value.items
    pub table : token.table_id ≡ id
    pub me : token.me ≡ (outset about.openings.value.items about.first, [])

  -- The table has one place, and the table and its first pass are new.
  abbrev pub IsLaidOut : O → ℕ → TableId → TableKey O → LockView O → Seat (Spot O C R) (Sight O C R) → Type 0
  IsLaidOut o first id key lock token =
      IsOneLock o first id key lock × (token.table_id ≡ id) × (token.me ≡ (outset (o ∷ []) first, []))
