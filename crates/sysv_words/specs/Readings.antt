-- Words have at most one value, and it is decided whether they have one (this project's script
-- language).
use Rattle.std.specs.Prelude.{◌≡◌, ◌⊎◌, ℕ, List}
use Rattle.sysv_words.specs.Words.{IsInt32, IsInt64, IsNat32, IsNat64}
use Rattle.sysv_words.specs.FlagNames.{IsFlagList}
use Rattle.sysv_words.specs.Octal.{IsOctal}

-- A text has at most one value.
abbrev pub SaysOnce : {A : Type 0} → (List ℕ → A → Type 0) → Type 0
SaysOnce {A} Says = (text : List ℕ) (one other : A) → Says text one → Says text other → one ≡ other

-- A text has a value, or it has none.
abbrev pub IsDecided : {A : Type 0} → (List ℕ → A → Type 0) → Type 0
IsDecided {A} Says = (text : List ℕ) → ((value : A) × Says text value) ⊎ ((value : A) → ¬ Says text value)

-- Both.
pub record IsReading {A : Type 0} (Says : List ℕ → A → Type 0) : Type 0 where
  pub once : SaysOnce Says
  pub decided : IsDecided Says

-- Each kind of word is read in this way.
pub record WordsAreRead : Type 0 where
  pub int32 : IsReading IsInt32
  pub int64 : IsReading IsInt64
  pub nat32 : IsReading IsNat32
  pub nat64 : IsReading IsNat64
  pub flags : IsReading IsFlagList
  pub octal : IsReading IsOctal
