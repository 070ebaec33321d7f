-- The parked calls of a worker (this project's profile). A call is known by its place.
use Rattle.std.specs.Prelude.{◌≡◌, ◌≢◌, ◌==◌, ℕ, Bool, false, not, List, [], Option, None, Some, cond, slice_get}
use Rattle.std.specs.Prelude.{refl, slice_index_or}
use Rattle.std.specs.List.{count_by, filter}
use Rattle.std.proofs.Common.{◌∙◌}
use Rattle.sysv_lists.specs.Numbers.{times}
use Rattle.sysv_parking.specs.declared.due.Why.{Why}
use Rattle.sysv_parking.specs.declared.key.Key.{Key}
use Rattle.sysv_parking.specs.Due.{not_due}
use Rattle.sysv_parking.specs.Keys.{line_of, word_of}

-- What the call of each place waits for, if it is in a line; the places in each line, in the order
-- in which they were parked; and why the call of each place is due.
pub record Parking : Type 0 where
  pub keys : List (Option Key)
  pub lines : List (List ℕ)
  pub why : List Why

abbrev pub key_at : Parking → ℕ → Option Key
key_at parking place = slice_index_or parking.keys place None

abbrev pub line_at : Parking → ℕ → List ℕ
line_at parking line = slice_index_or parking.lines line []

abbrev pub why_at : Parking → ℕ → Why
why_at parking place = slice_index_or parking.why place not_due

-- The element at this index of a list, if there is one.
abbrev pub item_at : List ℕ → ℕ → Option ℕ
item_at xs index = slice_get xs index

-- How often a place is in a line whose call waits for this.
abbrev pub in_line : Option Key → ℕ → ℕ
in_line None line = 0
in_line (Some key) line = cond (line_of key == line) 1 0

-- Each place with a key is in the line of its key once. No other place is in a line.
abbrev pub AreInLines : Parking → Type 0
AreInLines parking = (line place : ℕ) → times place (line_at parking line) ≡ in_line (key_at parking place) line

-- The list without this place.
abbrev pub without : ℕ → List ℕ → List ℕ
without place places = filter (λ x. not (x == place)) places

-- Nothing changed for any other place.
pub record MovesOnly (place : ℕ) (old new : Parking) : Type 0 where
  pub keys : (other : ℕ) → other ≢ place → key_at new other ≡ key_at old other
  pub lines : (line : ℕ) → without place (line_at new line) ≡ without place (line_at old line)
  pub why : (other : ℕ) → other ≢ place → why_at new other ≡ why_at old other

-- Whether a call that waits for this is counted with those of the word.
abbrev pub is_of_word : ℕ → Option Key → Bool
is_of_word word None = false
is_of_word word (Some key) = word_of key == word

-- The number of places in the lines of a word.
abbrev pub parked_at : Parking → ℕ → ℕ
parked_at parking word = count_by (is_of_word word) parking.keys

pub moves_none : (place : ℕ) (parking : Parking) → MovesOnly place parking parking
moves_none place parking = record { keys = λ other ne. refl; lines = λ line. refl; why = λ other ne. refl }

pub moves_on : (place : ℕ) (first second third : Parking) → MovesOnly place first second →
    MovesOnly place second third → MovesOnly place first third
moves_on place first second third one two = record {
  keys = λ other ne. two.keys other ne ∙ one.keys other ne;
  lines = λ line. two.lines line ∙ one.lines line;
  why = λ other ne. two.why other ne ∙ one.why other ne;
}
