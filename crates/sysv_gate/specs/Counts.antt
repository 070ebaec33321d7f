-- The two counts of an object, and the words where they are announced. This project's profile.
use Rattle.std.specs.Prelude.{ℕ, max}
use Rattle.sysv_gate.specs.declared.count.Count.{Count}
use Rattle.sysv_gate.specs.declared.count.Count.TheVariants.{Arrived, Freed}

-- The word where the count is announced.
abbrev pub word_of : Count → ℕ
word_of Arrived = 48
word_of Freed = 64

-- The number for this count, of two numbers.
abbrev pub of_count : Count → ℕ × ℕ → ℕ
of_count Arrived numbers = numbers.0
of_count Freed numbers = numbers.1

-- The two numbers, after the number for this count was replaced.
abbrev pub with_count : Count → ℕ → ℕ × ℕ → ℕ × ℕ
with_count Arrived n numbers = (n, numbers.1)
with_count Freed n numbers = (numbers.0, n)

-- The larger number for each count.
abbrev pub larger : ℕ × ℕ → ℕ × ℕ → ℕ × ℕ
larger one two = (max one.0 two.0, max one.1 two.1)
