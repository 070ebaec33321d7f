-- What the words of a parsed command mean (this project's programs). clap lists the words of a
-- command in rows, under the names that the table of commands has.
use Rattle.std.specs.Prelude.{◌≡◌, ◌≤◌, ◌+◌, ◌-◌, ◌*◌, ◌^◌, ◌⊎◌, ⊤, ℕ, ℤ, pos, neg_ℤ, Bool, true, false, List, codes}
use Rattle.std.specs.Prelude.{Option, Some, None, Result}
use Rattle.std.specs.Prelude.{Contains, MatchResult, length}
use Rattle.std.specs.Str.Parse.{IsNumeral, digits_value}
use Rattle.clap.specs.Words.{Row, first_of, found_of, one_of, rows_of}
use Rattle.clap.specs.declared.parser.matches.ArgMatches.{ArgMatches}
use Rattle.sysv_options.specs.declared.asked.TheConstants.{MAX_MODE}
use Rattle.sysv_clients.specs.Words.{IsType}
use Rattle.sysv_words.specs.Words.{IsNat32, SplitsAt, is_negative}

-- The words of a command, as clap found them.
abbrev pub words_in : ArgMatches → List Row
words_in matches = rows_of (found_of matches)

-- The word that a command has under a name: the value of an option, or the word at a position.
abbrev pub word_of : List Row → List ℕ → Option (List ℕ)
word_of words name = first_of name words

-- The word is there and has this value.
abbrev pub Has : {A : Type 0} → (List ℕ → A → Type 0) → Option (List ℕ) → A → Type 0
Has Says (Some word) value = Says word value
Has Says None value = ⊥

-- The word has this value, or there is no word and the value is the default.
abbrev pub HasOr : {A : Type 0} → (List ℕ → A → Type 0) → A → Option (List ℕ) → A → Type 0
HasOr Says default (Some word) value = Says word value
HasOr Says default None value = value ≡ default

-- The word has this value, or there is neither a word nor a value.
abbrev pub HasMaybe : {A : Type 0} → (List ℕ → A → Type 0) → Option (List ℕ) → Option A → Type 0
HasMaybe Says (Some word) (Some value) = Says word value
HasMaybe Says (Some word) None = ⊥
HasMaybe Says None (Some value) = ⊥
HasMaybe Says None None = ⊤

-- clap found this flag as `true`.
abbrev pub IsOn : Option (List ℕ) → Type 0
IsOn flag = flag ≡ Some (codes "true")

-- It is on exactly if clap found it as `true`.
abbrev pub IsExactly : Option (List ℕ) → Bool → Type 0
IsExactly flag on = (on ≡ true → IsOn flag) × (on ≡ false → ¬ IsOn flag)

-- A flag is on if clap found it as `true`. It is off if clap found it as `false` or did not find it.
abbrev pub IsFlag : Option (List ℕ) → Bool → Type 0
IsFlag (Some text) on = ((text ≡ codes "true") → on ≡ true) × ((text ≡ codes "false") → on ≡ false)
IsFlag None on = on ≡ false

-- A command has a flag of this name, or does not have it.
abbrev pub HasFlag : List Row → List ℕ → Bool → Type 0
HasFlag words name on = IsFlag (one_of name words) on

-- The result is the value that is meant, or an error because none is meant.
abbrev pub IsRead : {T E : Type 0} → Result T E → (T → Type 0) → Type 0
IsRead {T} {E} result Means = MatchResult result Means (λ _. (value : T) → ¬ Means value)

-- The type argument of a `rcv` with these words after `--type`, `--upto` and `--except`: that type,
-- or minus the largest type, or the type to except, or 0 if there is none of them.
abbrev pub WantsType : (one upto except : Option (List ℕ)) → ℤ → Type 0
WantsType (Some word) upto except mtype = IsType word mtype
WantsType None (Some word) except mtype = (most : ℤ) × IsType word most × (mtype ≡ neg_ℤ most)
WantsType None None except mtype = HasOr IsType (pos 0) except mtype

-- The word is a numeral of this number, without a minus before it.
abbrev pub IsUnsigned : List ℕ → ℕ → Type 0
IsUnsigned word number = (is_negative word ≡ false) × IsNat32 word number

-- One to three decimal places of this number of thousandths.
pub record IsThousandths (places : List ℕ) (number : ℕ) : Type 0 where
  pub digits : ℕ
  pub is_digits : IsUnsigned places digits
  pub least : 1 ≤ length places
  pub most : length places ≤ 3
  pub value : number ≡ digits * 10 ^ (3 - length places)

-- A number of seconds and its decimal places are this number of milliseconds.
pub record ArePartsOf (whole places : List ℕ) (time : ℕ) : Type 0 where
  pub seconds : ℕ
  pub thousandths : ℕ
  pub is_whole : IsUnsigned whole seconds
  pub is_rest : IsThousandths places thousandths
  pub value : time ≡ seconds * 1000 + thousandths

-- A number of seconds without decimal places is this number of milliseconds.
abbrev pub AreSeconds : List ℕ → ℕ → Type 0
AreSeconds word time = (seconds : ℕ) × IsNat32 word seconds × (time ≡ seconds * 1000)

-- The word is a number of seconds, without a point, or with one and one to three decimal places. It is
-- this number of milliseconds.
abbrev pub IsTime : List ℕ → ℕ → Type 0
IsTime word time =
    (¬ Contains word 46 × AreSeconds word time)
    ⊎ ((whole : List ℕ) × (places : List ℕ) × SplitsAt 46 word whole places × ArePartsOf whole places time)

-- The word is an octal numeral of this mode of a file.
abbrev pub IsOctalMode : List ℕ → ℕ → Type 0
IsOctalMode word mode = IsNumeral 8 word × (digits_value 8 word ≡ mode) × (mode ≤ MAX_MODE)

-- The word is the mode, or there is neither a word nor a mode.
abbrev pub IsMode : Option (List ℕ) → Option ℕ → Type 0
IsMode (Some word) (Some mode) = IsOctalMode word mode
IsMode (Some word) None = ⊥
IsMode None (Some mode) = ⊥
IsMode None None = ⊤
