-- The kind of a line, by its first two bytes.
use Rattle.std.proofs.Common.{◌≡◌, ◌≢◌, ◌≤◌, ◌<◌, ℕ, zero, suc, Bool, true, false, List, [], ◌∷◌, ◌++◌, Option, Some}
use Rattle.std.proofs.Common.{None, MatchOption, length, get_or, cond, nat_eq, codes, inl, inr, sym, ap, subst, ◌∙◌}
use Rattle.std.proofs.Common.{arith}
use Rattle.std.specs.Prelude.{Contains}
use Rattle.std.specs.Char.{digit_value}
use Rattle.std.specs.Str.Parse.{IsNumeral}
use Rattle.std.proofs.lemmas.Str.Parse.{digit_from_value}
use Rattle.std.proofs.lemmas.Bool.Decides.{nat_tests}
use Rattle.sysv_words.specs.Words.{SplitsAt, IsNumber}
use Rattle.sysv_words.specs.Splitting.{SplitsAt-marked}
use Rattle.sysv_steps.specs.Call.{SystemCall}
use Rattle.sysv_script.specs.Said.{Said, Nothing, MakesPreset, GivesCred, GivesMoment, Starts, StepsOnce, Continues}
use Rattle.sysv_script.specs.Said.{AllContinue, GivesBlocks}
use Rattle.sysv_script.specs.Lines.{IsSkipped, SaysStart, OrderNamed, SaysOrder, TellsAlone, TellsInWords, Tells, Says}
use Rattle.sysv_script.specs.Lines.{order_name}
use Rattle.sysv_script.specs.declared.line.Line.{Line}
use Rattle.sysv_script.specs.SaidBy.{said_of}
use Rattle.sysv_script.proofs.CallNames.{named_order, order_named}

-- The kind of a meaning, as a number.
abbrev pub kind : Said → ℕ
kind Nothing = 0
kind MakesPreset = 1
kind (GivesBlocks blocks) = 9
kind (GivesCred who cred) = 2
kind AllContinue = 3
kind (GivesMoment moment) = 4
kind (StepsOnce who) = 5
kind (Continues who) = 6
kind (Starts who asked false) = 7
kind (Starts who asked true) = 8

-- The kind of a line, by its first two bytes.
abbrev pub kind_by : ℕ → ℕ → ℕ
kind_by a b =
    cond (nat_eq a 0) 0
    (cond (nat_eq a 35) 0 (cond (nat_eq a 112) (cond (nat_eq b 114) 1 9) (cond (nat_eq a 97) (cond (nat_eq b 115) 2 3)
    (cond (nat_eq a 110) 4 (cond (nat_eq a 115) 5 (cond (nat_eq a 103) 6 (cond (nat_eq a 43) 7 8)))))))

abbrev pub kind_in : List ℕ → ℕ
kind_in line = kind_by (get_or line 0 0) (get_or line 1 0)

-- A numeral begins with a digit or a minus.
starts_number : (a b : ℕ) → (a ≡ 45) → kind_by a b ≡ 8
starts_number a b e = ap (λ x. kind_by x b) e

below_digits : (a k : ℕ) → 48 ≤ a → k < 48 → nat_eq a k ≡ false
below_digits a k low h = grind (arith, nat_tests)

above_digits : (a k : ℕ) → a ≤ 57 → 57 < k → nat_eq a k ≡ false
above_digits a k high h = grind (arith, nat_tests)

digit_kind : (a b : ℕ) → digit_value a < 10 → kind_by a b ≡ 8
digit_kind a b h =
    let digit = digit_from_value a h in
    let low : 48 ≤ a = digit.0 in
    let high : a ≤ 57 = digit.1 in
    rw (
      below_digits a 0 low (omega arith),
      below_digits a 35 low (omega arith),
      above_digits a 112 high (omega arith),
      above_digits a 97 high (omega arith),
      above_digits a 110 high (omega arith),
      above_digits a 115 high (omega arith),
      above_digits a 103 high (omega arith),
      below_digits a 43 low (omega arith),
    ) (λ i. 8)

number_kind : (minus : Bool) (a b : ℕ) (word : List ℕ) → nat_eq a 45 ≡ minus →
    IsNumeral 10 (cond minus word (a ∷ word)) → kind_by a b ≡ 8
number_kind true a b word e h = let same : a ≡ 45 = grind (arith, nat_tests, e) in starts_number a b same
number_kind false a b word e h = digit_kind a b h.1.0

start_kind : (word rest : List ℕ) → IsNumber word → kind_in (word ++ 32 ∷ rest) ≡ 8
start_kind [] rest h = absurd (omega (arith, h.0))
start_kind (a ∷ word) rest h = number_kind (nat_eq a 45) a (get_or (word ++ 32 ∷ rest) 0 0) word (λ i. nat_eq a 45) h

-- ---- each line by what it says

order_kind : (name rest : List ℕ) → 2 ≤ length name → kind_in (name ++ 32 ∷ rest) ≡ kind_in name
order_kind [] rest long = absurd (omega (arith, long))
order_kind (a ∷ []) rest long = absurd (omega (arith, long))
order_kind (a ∷ b ∷ name) rest long = λ i. kind_by a b

skipped_kind : (line : List ℕ) → IsSkipped line → kind_in line ≡ 0
skipped_kind line (inl e) = ap kind_in e
skipped_kind line (inr (comment, e)) = ap kind_in e

order_said : (line : List ℕ) (said : Said) (k : ℕ) → 2 ≤ length (order_name said) → kind_in (order_name said) ≡ k →
    SaysOrder line said → kind_in line ≡ k
order_said line said k long e h = ap kind_in h.split.whole ∙ (order_kind (order_name said) h.rest long ∙ e)

-- A line is of the kind of its meaning.
pub kind_said : (line : List ℕ) (said : Said) → Tells line said → kind_in line ≡ kind said
kind_said line Nothing h = skipped_kind line h
kind_said line MakesPreset h = ap kind_in h
kind_said line AllContinue h = ap kind_in h
kind_said line (Starts who asked true) h = ap kind_in h.split.whole ∙ start_kind h.word h.rest h.one.number.0
kind_said line (Starts who asked false) h = ap kind_in h.1
kind_said line (GivesCred who cred) h = order_said line (GivesCred who cred) 2 (omega arith) (λ i. 2) h
kind_said line (GivesBlocks blocks) h = order_said line (GivesBlocks blocks) 9 (omega arith) (λ i. 9) h
kind_said line (GivesMoment moment) h = order_said line (GivesMoment moment) 4 (omega arith) (λ i. 4) h
kind_said line (StepsOnce who) h = order_said line (StepsOnce who) 5 (omega arith) (λ i. 5) h
kind_said line (Continues who) h = order_said line (Continues who) 6 (omega arith) (λ i. 6) h

-- A line whose words have a meaning has that meaning.
pub in_words : (line : List ℕ) (said : Said) → TellsInWords line said → Tells line said
in_words line Nothing h = elim h [ ]
in_words line (Starts who asked false) h = elim h [ ]
in_words line MakesPreset h = h
in_words line AllContinue h = h
in_words line (Starts who asked true) h = h
in_words line (GivesCred who cred) h = h
in_words line (GivesMoment moment) h = h
in_words line (GivesBlocks blocks) h = h
in_words line (StepsOnce who) h = h
in_words line (Continues who) h = h

-- ---- what the code finds of a line

pub alone_in_words : (line : List ℕ) (said : Said) → TellsAlone line said → TellsInWords line said
alone_in_words line Nothing h = elim h [ ]
alone_in_words line (GivesCred who cred) h = elim h [ ]
alone_in_words line (GivesMoment moment) h = elim h [ ]
alone_in_words line (GivesBlocks blocks) h = elim h [ ]
alone_in_words line (Starts who asked goes) h = elim h [ ]
alone_in_words line (StepsOnce who) h = elim h [ ]
alone_in_words line (Continues who) h = elim h [ ]
alone_in_words line MakesPreset h = h
alone_in_words line AllContinue h = h

pub words_alone : (line : List ℕ) (said : Said) → ¬ Contains line 32 → TellsInWords line said → TellsAlone line said
words_alone line Nothing plain h = elim h [ ]
words_alone line (Starts who asked false) plain h = elim h [ ]
words_alone line MakesPreset plain h = h
words_alone line AllContinue plain h = h
words_alone line (Starts who asked true) plain h = absurd (plain (SplitsAt-marked 32 line h.word h.rest h.split))
words_alone line (GivesCred who cred) plain h = absurd (plain (SplitsAt-marked 32 line _ h.rest h.split))
words_alone line (GivesBlocks blocks) plain h = absurd (plain (SplitsAt-marked 32 line _ h.rest h.split))
words_alone line (GivesMoment moment) plain h = absurd (plain (SplitsAt-marked 32 line _ h.rest h.split))
words_alone line (StepsOnce who) plain h = absurd (plain (SplitsAt-marked 32 line _ h.rest h.split))
words_alone line (Continues who) plain h = absurd (plain (SplitsAt-marked 32 line _ h.rest h.split))

-- A line without a space.
pub one_word : (line : List ℕ) (r : Option Line) → ¬ Contains line 32 →
    MatchOption r ((said : Said) → ¬ TellsAlone line said) (λ u. TellsAlone line (said_of u)) →
    MatchOption r ((said : Said) → ¬ TellsInWords line said) (λ u. TellsInWords line (said_of u))
one_word line None plain none = λ said h. none said (words_alone line said plain h)
one_word line (Some u) plain says = alone_in_words line (said_of u) says

-- A line of a name and its arguments.
pub order_in_words : (line name rest : List ℕ) (said : Said) → SplitsAt 32 line name rest → OrderNamed name rest said →
    TellsInWords line said
order_in_words line name rest (GivesCred who cred) split h = named_order line name rest (GivesCred who cred) split h
order_in_words line name rest (GivesBlocks blocks) split h = named_order line name rest (GivesBlocks blocks) split h
order_in_words line name rest (GivesMoment moment) split h = named_order line name rest (GivesMoment moment) split h
order_in_words line name rest (StepsOnce who) split h = named_order line name rest (StepsOnce who) split h
order_in_words line name rest (Continues who) split h = named_order line name rest (Continues who) split h
order_in_words line name rest Nothing split h = absurd h.arguments
order_in_words line name rest MakesPreset split h = absurd h.arguments
order_in_words line name rest (Starts who asked goes) split h = absurd h.arguments
order_in_words line name rest AllContinue split h = absurd h.arguments

unspaced_preset : Contains (codes "preset") 32 → ⊥
unspaced_preset (zero, h, e) = omega (arith, e)
unspaced_preset (suc zero, h, e) = omega (arith, e)
unspaced_preset (suc (suc zero), h, e) = omega (arith, e)
unspaced_preset (suc (suc (suc zero)), h, e) = omega (arith, e)
unspaced_preset (suc (suc (suc (suc zero))), h, e) = omega (arith, e)
unspaced_preset (suc (suc (suc (suc (suc zero)))), h, e) = omega (arith, e)
unspaced_preset (suc (suc (suc (suc (suc (suc k))))), h, e) = omega arith

unspaced_all : Contains (codes "all") 32 → ⊥
unspaced_all (zero, h, e) = omega (arith, e)
unspaced_all (suc zero, h, e) = omega (arith, e)
unspaced_all (suc (suc zero), h, e) = omega (arith, e)
unspaced_all (suc (suc (suc k)), h, e) = omega arith

-- A line that is no name with arguments and starts no call.
pub nothing_in_words : (line name rest : List ℕ) → SplitsAt 32 line name rest →
    ((said : Said) → ¬ OrderNamed name rest said) →
    ((who : ℕ) (asked : SystemCall) → ¬ SaysStart line who asked) → (said : Said) → ¬ TellsInWords line said
nothing_in_words line name rest split orders starts Nothing h = elim h [ ]
nothing_in_words line name rest split orders starts (Starts who asked false) h = elim h [ ]
nothing_in_words line name rest split orders starts MakesPreset h =
    unspaced_preset (subst (λ (l : List ℕ). Contains l 32) h (SplitsAt-marked 32 line name rest split))
nothing_in_words line name rest split orders starts AllContinue h =
    unspaced_all (subst (λ (l : List ℕ). Contains l 32) h (SplitsAt-marked 32 line name rest split))
nothing_in_words line name rest split orders starts (Starts who asked true) h = starts who asked h
nothing_in_words line name rest split orders starts (GivesCred who cred) h =
    orders _ (order_named line name rest (GivesCred who cred) split h)
nothing_in_words line name rest split orders starts (GivesBlocks blocks) h =
    orders _ (order_named line name rest (GivesBlocks blocks) split h)
nothing_in_words line name rest split orders starts (GivesMoment moment) h =
    orders _ (order_named line name rest (GivesMoment moment) split h)
nothing_in_words line name rest split orders starts (StepsOnce who) h =
    orders _ (order_named line name rest (StepsOnce who) split h)
nothing_in_words line name rest split orders starts (Continues who) h =
    orders _ (order_named line name rest (Continues who) split h)

-- ---- the line as a whole

pub tail_same : (x : ℕ) (line a b : List ℕ) → line ≡ x ∷ a → line ≡ x ∷ b → a ≡ b
tail_same x line a b h k = cc

-- A line whose `+` is not followed by the start of a call has no meaning.
pub nothing_behind_plus : (line words : List ℕ) → line ≡ 43 ∷ words →
    ((who : ℕ) (asked : SystemCall) → ¬ SaysStart words who asked) → (said : Said) → ¬ Says line said
nothing_behind_plus line words e none (Starts who asked false) h =
    none who asked (subst (λ (l : List ℕ). SaysStart l who asked) (tail_same 43 line h.1.0 words h.1.1 e) h.1.2)
nothing_behind_plus line words e none said h = let k = sym (ap kind_in e) ∙ kind_said line said h.1 in omega (arith, k)

-- A line that is not skipped and has no `+` before it.
kept_line : (line : List ℕ) → 1 ≤ length line → get_or line 0 0 ≢ 35 → get_or line 0 0 ≢ 43 →
    (¬ IsSkipped line) × ((words : List ℕ) → ¬ (line ≡ 43 ∷ words))
kept_line line long hash plus = (
  λ skipped. elim skipped [
    | inl e ↦ let short : length line ≡ 0 = ap length e in omega (arith, long, short)
    | inr h ↦ hash (ap (λ (l : List ℕ). get_or l 0 0) h.1)
  ],
  λ words e. plus (ap (λ (l : List ℕ). get_or l 0 0) e),
)

pub in_words_only : (line : List ℕ) (said : Said) → ¬ IsSkipped line → ((words : List ℕ) → ¬ (line ≡ 43 ∷ words)) →
    Tells line said → TellsInWords line said
in_words_only line Nothing kept plain h = absurd (kept h)
in_words_only line (Starts who asked false) kept plain h = absurd (plain h.0 h.1)
in_words_only line MakesPreset kept plain h = h
in_words_only line AllContinue kept plain h = h
in_words_only line (Starts who asked true) kept plain h = h
in_words_only line (GivesCred who cred) kept plain h = h
in_words_only line (GivesMoment moment) kept plain h = h
in_words_only line (GivesBlocks blocks) kept plain h = h
in_words_only line (StepsOnce who) kept plain h = h
in_words_only line (Continues who) kept plain h = h

pub line_in_words : (line : List ℕ) (r : Option Line) → length line ≤ 9000 → 1 ≤ length line → get_or line 0 0 ≢ 35 →
    get_or line 0 0 ≢ 43 →
    MatchOption r ((said : Said) → ¬ TellsInWords line said) (λ u. TellsInWords line (said_of u)) →
    MatchOption r ((said : Said) → ¬ Says line said) (λ u. Says line (said_of u))
line_in_words line None short long hash plus none = λ said h.
    let kept = kept_line line long hash plus in none said (in_words_only line said kept.0 kept.1 h.1)
line_in_words line (Some u) short long hash plus says = (short, in_words line (said_of u) says)
