-- A text splits at a mark in exactly one way if it contains the mark, and in no way if it does not
-- (this project's script language).
use Rattle.std.specs.Prelude.{◌≡◌, ◌<◌, ◌⊎◌, ℕ, List, length, Contains}
use Rattle.sysv_words.specs.Words.{SplitsAt}

pub record OneSplit : Type 0 where
  pub once : (mark : ℕ) (text part rest front behind : List ℕ) → SplitsAt mark text part rest →
      SplitsAt mark text front behind → (part ≡ front) × (rest ≡ behind)
  pub either : (mark : ℕ) (text : List ℕ) →
      ((part : List ℕ) × (rest : List ℕ) × SplitsAt mark text part rest) ⊎ ¬ Contains text mark
  pub marked : (mark : ℕ) (text part rest : List ℕ) → SplitsAt mark text part rest → Contains text mark
  -- The rest after the mark is shorter than the text.
  pub shorter : (mark : ℕ) (text part rest : List ℕ) → SplitsAt mark text part rest → length rest < length text
