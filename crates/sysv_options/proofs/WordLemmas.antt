-- What clap's getters and a reader say of the words of a command.
use Rattle.std.proofs.Common.{◌≡◌, ◌∙◌, ℕ, Bool, true, false, List, Option, Some, None, codes, refl, sym, ap, subst}
use Rattle.std.specs.Prelude.{Box, MatchOption, option_map}
use Rattle.std.specs.Option.{ok_or}
use Rattle.std.specs.Borrow.{Bor}
use Rattle.std.specs.Box.{box_value}
use Rattle.clap.specs.Words.{first_value, found_of, one_text, rows_of, subcommand_rows}
use Rattle.clap.specs.declared.parser.matches.ArgMatches.{ArgMatches}
use Rattle.clap.specs.declared.parser.matches.ArgMatches.TheViews.{out-SubCommand}
use Rattle.clap.specs.declared.parser.matches.SubCommand.{SubCommand}
use Rattle.clap.proofs.WalkLemmas.{first_value-rows, one_text-rows}
use Rattle.sysv_options.specs.Words.{Has, HasFlag, HasMaybe, IsFlag, IsRead, word_of, words_in}

-- The text that clap returns is the word of the command.
pub found_word : (words : ArgMatches) (name : List ℕ) (r : Option (Bor (List ℕ)))
    → option_map (λ s. s.now) r ≡ first_value (found_of words) name
    → MatchOption r (word_of (words_in words) name ≡ None) (λ word. word_of (words_in words) name ≡ Some word.now)
found_word words name None h = sym (h ∙ first_value-rows (found_of words) name)
found_word words name (Some word) h = sym (h ∙ first_value-rows (found_of words) name)

flag_as : (found : Option (List ℕ)) (on : Bool) → (found ≡ None → on ≡ false)
    → (found ≡ Some (codes "true") → on ≡ true) → (found ≡ Some (codes "false") → on ≡ false)
    → IsFlag found on
flag_as None on none on_true on_false = none refl
flag_as (Some text) on none on_true on_false =
    (λ is. on_true (ap (λ (t : List ℕ). Some t) is), λ is. on_false (ap (λ (t : List ℕ). Some t) is))

-- The flag that clap returns is that of the command.
pub found_flag : (words : ArgMatches) (name : List ℕ) (on : Bool) → (one_text (found_of words) name ≡ None → on ≡ false)
    → (one_text (found_of words) name ≡ Some (codes "true") → on ≡ true)
    → (one_text (found_of words) name ≡ Some (codes "false") → on ≡ false) → HasFlag (words_in words) name on
found_flag words name on none on_true on_false =
    subst (λ (o : Option (List ℕ)). IsFlag o on) (one_text-rows (found_of words) name)
    (flag_as (one_text (found_of words) name) on none on_true on_false)

-- The command that clap returns is that of the command line.
pub found_command : {Z : Type 0} (s : Option (Box SubCommand Z)) (r : Option (Bor (List ℕ) × Bor ArgMatches))
    → option_map (λ p. p.0.now) r ≡ option_map (λ b. (out-SubCommand (box_value b)).name.now) s
    → option_map (λ p. rows_of (found_of p.1.now)) r ≡ option_map (λ p. p.1) (subcommand_rows s)
    → MatchOption r (subcommand_rows s ≡ None) (λ found. subcommand_rows s ≡ Some (found.0.now, words_in found.1.now))
found_command None None name rows = refl
found_command None (Some found) name rows = cc
found_command (Some b) None name rows = absurd (apart _ (sym name))
  where
    apart : (text : List ℕ) → Some text ≡ None → ⊥
    apart text e = cc
found_command (Some b) (Some found) name rows = cc

-- A word that is there was read as a reader reads it.
pub read_word : {A E : Type 0} (Says : List ℕ → A → Type 0) (word : List ℕ) (found : Option (List ℕ)) (r : Option A)
    (bad : E) → found ≡ Some word
    → MatchOption r ((value : A) → ¬ Says word value) (Says word) → IsRead (ok_or r bad) (Has Says found)
read_word Says word found (Some value) bad is says = subst (λ (o : Option (List ℕ)). Has Says o value) (sym is) says
read_word Says word found None bad is none = λ value h.
    none value (subst (λ (o : Option (List ℕ)). Has Says o value) is h)

-- The word that was found says this value.
pub has_value : {A : Type 0} (Says : List ℕ → A → Type 0) (word : List ℕ) (found : Option (List ℕ))
    → found ≡ Some word → (value : A) → Says word value → HasMaybe Says found (Some value)
has_value Says word found there value says =
    subst (λ (w : Option (List ℕ)). HasMaybe Says w (Some value)) (sym there) says

no_value : {A : Type 0} (Says : List ℕ → A → Type 0) (word : List ℕ) → ((value : A) → ¬ Says word value)
    → (value : Option A) → ¬ HasMaybe Says (Some word) value
no_value Says word none (Some value) = none value
no_value Says word none None = λ h. h

-- The word that was found says no value, so there is none that the option has.
pub has_no_value : {A : Type 0} (Says : List ℕ → A → Type 0) (word : List ℕ) (found : Option (List ℕ))
    → found ≡ Some word → ((value : A) → ¬ Says word value) → (value : Option A) → ¬ HasMaybe Says found value
has_no_value Says word found there none value =
    subst (λ (w : Option (List ℕ)). ¬ HasMaybe Says w value) (sym there) (no_value Says word none value)
