-- What happens to the lines of parked calls (this project's profile).
use Rattle.std.specs.Prelude.{◌≡◌, ◌≢◌, ◌++◌, ℕ, true, false, [], ◌∷◌, Option, None, Some, length, slice_index}
use Rattle.std.specs.Prelude.{slice_set, map}
use Rattle.std.specs.List.{count_by}
use Rattle.sysv_parking.specs.declared.due.Why.{Why}
use Rattle.sysv_parking.specs.declared.key.Key.{Key}
use Rattle.sysv_parking.specs.declared.key.TheConstants.{WORDS}
use Rattle.sysv_parking.specs.declared.lines.Lines.TheInside.{Inside}
use Rattle.sysv_parking.specs.Due.{both, by_all, by_raise, is_due, not_due, why_changed}
use Rattle.sysv_parking.specs.Keys.{line_of, slot_in}
use Rattle.sysv_parking.specs.Parking.{AreInLines, Parking, key_at, line_at, parked_at, why_at}

-- What the lines are seen as.
abbrev pub parking_in : Inside → Parking
parking_in lines = record {
  keys = lines.keys.items;
  lines = map (λ line. line.items) lines.lines.items;
  why = lines.why.items;
}

-- What is true of the lines at any time.
pub record IsKept (lines : Inside) : Type 0 where
  pub in_lines : AreInLines (parking_in lines)
  pub places : length lines.why.items ≡ length lines.keys.items
  pub words : length lines.counts.items ≡ WORDS
  pub counts : (word : ℕ) → slice_index lines.counts.items word ≡ parked_at (parking_in lines) word
  pub due : lines.due_count ≡ count_by is_due lines.why.items

-- No call is in a line, and none is due.
pub record AreEmpty (parking : Parking) : Type 0 where
  pub keys : (place : ℕ) → key_at parking place ≡ None
  pub lines : (line : ℕ) → line_at parking line ≡ []
  pub why : (place : ℕ) → why_at parking place ≡ not_due

-- The place is in the line of this key, and was in none before.
pub record Enters (place : ℕ) (key : Key) (old new : Parking) : Type 0 where
  pub keys : new.keys ≡ slice_set old.keys place (Some key)
  pub there : key_at new place ≡ Some key
  pub lines : new.lines ≡ slice_set old.lines (line_of key) (line_at old (line_of key) ++ place ∷ [])
  pub why : new.why ≡ old.why

-- Each call at the queue of this slot is due, since it was set or removed. No other call is due for
-- more reasons.
pub record NotesChange (slot : ℕ) (old new : Parking) : Type 0 where
  pub keys : new.keys ≡ old.keys
  pub lines : new.lines ≡ old.lines
  pub there : (place : ℕ) (key : Key) → key_at old place ≡ Some key → slot_in key ≡ Some slot →
      why_at new place ≡ both (why_at old place) (why_changed key)
  pub elsewhere : (place : ℕ) → ((key : Key) → key_at old place ≡ Some key → slot_in key ≢ Some slot) →
      why_at new place ≡ why_at old place

-- Each call in this line is due, since the count rose for which it waits. No other call is due for
-- more reasons.
pub record NotesLine (line : ℕ) (old new : Parking) : Type 0 where
  pub keys : new.keys ≡ old.keys
  pub lines : new.lines ≡ old.lines
  pub there : (place : ℕ) (key : Key) → key_at old place ≡ Some key → line_of key ≡ line →
      why_at new place ≡ both (why_at old place) by_raise
  pub elsewhere : (place : ℕ) → ((key : Key) → key_at old place ≡ Some key → line_of key ≢ line) →
      why_at new place ≡ why_at old place

-- Each parked call is due, whatever happened. No other place is due for more reasons.
pub record NotesAll (old new : Parking) : Type 0 where
  pub keys : new.keys ≡ old.keys
  pub lines : new.lines ≡ old.lines
  pub there : (place : ℕ) (key : Key) → key_at old place ≡ Some key → why_at new place ≡ by_all
  pub elsewhere : (place : ℕ) → key_at old place ≡ None → why_at new place ≡ why_at old place

-- A place that was due is not due any more. It was due for these reasons.
pub record TakesDue (place : ℕ) (why : Why) (old new : Parking) : Type 0 where
  pub keys : new.keys ≡ old.keys
  pub lines : new.lines ≡ old.lines
  pub was : why_at old place ≡ why
  pub due : is_due why ≡ true
  pub now : new.why ≡ slice_set old.why place not_due

-- No place is due.
abbrev pub NoneIsDue : Parking → Type 0
NoneIsDue parking = (place : ℕ) → is_due (why_at parking place) ≡ false

-- A place is due.
abbrev pub SomeIsDue : Parking → Type 0
SomeIsDue parking = (place : ℕ) × (is_due (why_at parking place) ≡ true)

-- What was taken of the places that are due.
abbrev pub Takes : Option (ℕ × Why) → Parking → Parking → Type 0
Takes None old new = NoneIsDue old × (new ≡ old)
Takes (Some taken) old new = TakesDue taken.0 taken.1 old new
