-- How often a number is in a list, and which numbers are between two others (this project's words).
use Rattle.std.specs.Prelude.{◌≡◌, ℕ, ◌≤◌, ◌==◌, ◌&&◌, List, cond, count_by, nat_le, nat_lt}

-- The number of times that x is in the list.
abbrev pub times : ℕ → List ℕ → ℕ
times x xs = count_by (λ y. y == x) xs

-- No number is in the list twice.
abbrev pub NoneTwice : List ℕ → Type 0
NoneTwice xs = (x : ℕ) → times x xs ≤ 1

-- 1 if x is at least `from` and below `to`, otherwise 0.
abbrev pub once_between : ℕ → ℕ → ℕ → ℕ
once_between from to x = cond (nat_le from x && nat_lt x to) 1 0

-- The list has each number that is at least `from` and below `to` exactly once, and no other
-- number.
abbrev pub AreBetween : ℕ → ℕ → List ℕ → Type 0
AreBetween from to xs = (x : ℕ) → times x xs ≡ once_between from to x
