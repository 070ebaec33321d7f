-- The places in the lines of parked calls, as one is put into a line or taken out (this project's
-- profile).
use Rattle.std.specs.Prelude.{◌≡◌, ◌≢◌, ◌++◌, ◌<◌, ℕ, List, [], ◌∷◌, Vec, length, map, slice_index, slice_index_or}
use Rattle.std.specs.Prelude.{slice_set}
use Rattle.std.specs.declared.collections.VecDeque.{VecDeque}
use Rattle.sysv_lists.specs.Numbers.{times}
use Rattle.sysv_parking.specs.Parking.{without}

-- The places in each line.
abbrev pub places_in : {A B : Type 0} → Vec (VecDeque ℕ A) B → List (List ℕ)
places_in lines = map (λ line. line.items) lines.items

-- The place is appended to this line.
pub record Appends (line place : ℕ) (old new : List (List ℕ)) : Type 0 where
  pub there : line < length old
  pub lines : new ≡ slice_set old line (slice_index_or old line [] ++ place ∷ [])

-- The place is not in this line.
abbrev pub IsNowhere : ℕ → List ℕ → Type 0
IsNowhere place places = (index : ℕ) → index < length places → slice_index places index ≢ place

-- The place is at this index of the line.
abbrev pub IsAt : ℕ → List ℕ → ℕ → Type 0
IsAt place places index = (index < length places) × (slice_index places index ≡ place)

-- The place is taken out of a line once, if it is there.
pub record TakesOut (place : ℕ) (old new : List ℕ) : Type 0 where
  pub rest : without place new ≡ without place old
  pub others : (other : ℕ) → other ≢ place → times other new ≡ times other old
  pub once : times place old ≡ 1 → times place new ≡ 0

-- The place is taken out of this line once, if it is there.
pub record Removes (line place : ℕ) (old new : List (List ℕ)) : Type 0 where
  pub elsewhere : (other : ℕ) → other ≢ line → slice_index_or new other [] ≡ slice_index_or old other []
  pub there : TakesOut place (slice_index_or old line []) (slice_index_or new line [])

-- No place is in a line.
abbrev pub EachIsEmpty : List (List ℕ) → Type 0
EachIsEmpty lines = (line : ℕ) → slice_index_or lines line [] ≡ []
