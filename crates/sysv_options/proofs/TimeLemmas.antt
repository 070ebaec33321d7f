-- The words of a time.
use Rattle.std.proofs.Common.{inl, inr, ℕ, List, Option, Some, None, subst}
use Rattle.std.specs.Prelude.{Contains, MatchOption}
use Rattle.sysv_words.specs.OneSplit.{OneSplit}
use Rattle.sysv_words.specs.Words.{SplitsAt}
use Rattle.sysv_options.specs.Words.{ArePartsOf, AreSeconds, IsTime}

-- A word with a point is the time of its parts.
pub time_of_parts : (law : OneSplit) (word whole places : List ℕ) (r : Option ℕ) → SplitsAt 46 word whole places
    → MatchOption r ((time : ℕ) → ¬ ArePartsOf whole places time) (ArePartsOf whole places)
    → MatchOption r ((time : ℕ) → ¬ IsTime word time) (IsTime word)
time_of_parts law word whole places (Some time) split says = inr (whole, places, split, says)
time_of_parts law word whole places None split none = λ time h. elim h [
  | inl plain ↦ plain.0 (law.marked 46 word whole places split)
  | inr other ↦
      let same = law.once 46 word other.0 other.1 whole places other.2 split in
      none time
      (subst (λ (w : List ℕ). ArePartsOf w places time) same.0
      (subst (λ (p : List ℕ). ArePartsOf other.0 p time) same.1 other.3))
]

-- A word without a point is its number of seconds.
pub time_of_whole : (law : OneSplit) (word : List ℕ) (r : Option ℕ) → ¬ Contains word 46
    → MatchOption r ((time : ℕ) → ¬ AreSeconds word time) (AreSeconds word)
    → MatchOption r ((time : ℕ) → ¬ IsTime word time) (IsTime word)
time_of_whole law word (Some time) unmarked says = inl (unmarked, says)
time_of_whole law word None unmarked none = λ time h. elim h [
  | inl plain ↦ none time plain.1
  | inr other ↦ unmarked (law.marked 46 word other.0 other.1 other.2)
]
