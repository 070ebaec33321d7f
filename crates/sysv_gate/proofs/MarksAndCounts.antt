-- Marks that are made at 2^62, counts that rise by one, and lists of one number.
use Rattle.std.proofs.Common.{◌≡◌, ℕ, ◌+◌, ◌<◌, ◌≤◌, ◌==◌, cond, Bool, true, false, ◌||◌, [], ◌∷◌, arith, refl}
use Rattle.std.specs.Prelude.{◌^◌, nat_le, nat_lt}
use Rattle.std.proofs.lemmas.Bool.Decides.{nat_tests}
use Rattle.sysv_lists.specs.Numbers.{times}

pub holds_some : (n : ℕ) → nat_lt 0 n ≡ true → 1 ≤ n
holds_some n h = grind (arith, nat_tests)

-- A mark stays, or is made when 2^62 is found.
pub marked_by : (b : Bool) (n d : ℕ) → (b ≡ true → 2 ^ 62 ≤ d) → n ≤ d → (b || nat_le (2 ^ 62) n) ≡ true → 2 ^ 62 ≤ d
marked_by true n d was le now = was refl
marked_by false n d was le now = grind (arith, nat_tests)

-- A count that rises by at most one rises by one if it is greater than before.
pub risen_by : (before after : ℕ) → before ≤ after → after ≤ before + 1 →
    after ≡ before + cond (nat_lt before after) 1 0
risen_by before after le most = grind (arith, nat_tests)

pub not_true : (b : Bool) → ¬ (b ≡ true) → b ≡ false
not_true true h = absurd (h refl)
not_true false h = refl

-- A mark that is there only from 2^62 on is not there below it.
pub unmarked : (b : Bool) (n : ℕ) → (b ≡ true → 2 ^ 62 ≤ n) → n < 2 ^ 62 → b ≡ false
unmarked true n marks low = let high = marks refl in absurd (omega arith)
unmarked false n marks low = refl

-- A list of one number does not contain another number.
pub another : (x n : ℕ) → times n (x ∷ []) ≡ cond (x == n) 1 0 → ¬ (x ≡ n) → times n (x ∷ []) ≡ 0
another x n e apart = grind (arith, nat_tests)

-- A number below 2^62 makes no mark.
pub low_mark : (b : Bool) (n : ℕ) → n < 2 ^ 62 → (b || nat_le (2 ^ 62) n) ≡ b
low_mark true n low = refl
low_mark false n low = grind (arith, nat_tests)
