-- How often numbers are in lists that grow at their end, and which numbers are between two others.
use Rattle.std.proofs.Common.{◌≡◌, ℕ, ◌+◌, ◌<◌, ◌≤◌, ◌==◌, cond, List, [], ◌∷◌, ◌++◌, ap, arith}
use Rattle.std.proofs.lemmas.List.Sums.{sum_by-append, sum_by_push}
use Rattle.std.proofs.lemmas.Bool.Decides.{nat_tests}
use Rattle.sysv_lists.specs.Numbers.{times, once_between}

pub times-append : (x : ℕ) (xs ys : List ℕ) → times x (xs ++ ys) ≡ times x xs + times x ys
times-append x xs ys = sum_by-append (λ (y : ℕ). cond (y == x) 1 0) xs ys

pub times-snoc : (x : ℕ) (xs : List ℕ) (n : ℕ) → times x (xs ++ n ∷ []) ≡ times x xs + cond (n == x) 1 0
times-snoc x xs n = sum_by_push (λ (y : ℕ). cond (y == x) 1 0) xs n

pub times-one : (x n : ℕ) → times x (n ∷ []) ≡ cond (n == x) 1 0
times-one x n = let e = times-snoc x [] n in omega arith

pub times-same : (n : ℕ) → 1 ≤ times n (n ∷ [])
times-same n = grind (arith, nat_tests, times-one n n)

pub times-one-le : (x n : ℕ) → times x (n ∷ []) ≤ 1
times-one-le x n = grind (arith, nat_tests, times-one x n)

-- A list of one number has no other.
pub the-one : (x n : ℕ) → 1 ≤ times x (n ∷ []) → n ≡ x
the-one x n has = grind (arith, nat_tests, times-one x n)

pub has : (n : ℕ) (ks : List ℕ) → ks ≡ n ∷ [] → 1 ≤ times n ks
has n ks is = let e : times n ks ≡ times n (n ∷ []) = ap (times n) is in let one = times-same n in omega arith

pub only : (x n : ℕ) (ks : List ℕ) → ks ≡ n ∷ [] → 1 ≤ times x ks → n ≡ x
only x n ks is has = let e : times x ks ≡ times x (n ∷ []) = ap (times x) is in the-one x n (omega arith)

pub none_of : (x : ℕ) (ks : List ℕ) → ks ≡ [] → times x ks ≡ 0
none_of x ks is = ap (times x) is

pub once_between-same : (n x : ℕ) → once_between n n x ≡ 0
once_between-same n x = grind (arith, nat_tests)

-- One more number at the end.
pub once_between-next : (from n x : ℕ) → from ≤ n →
    once_between from (n + 1) x ≡ once_between from n x + cond (n == x) 1 0
once_between-next from n x le = grind (arith, nat_tests)

-- One number less at the start.
pub once_between-drop : (from n x : ℕ) → from < n →
    once_between from n x ≡ once_between (from + 1) n x + cond (from == x) 1 0
once_between-drop from n x less = grind (arith, nat_tests)

pub once_between-le : (from n x : ℕ) → once_between from n x ≤ 1
once_between-le from n x = grind (arith, nat_tests)

-- The first number is among those between two others if and only if there are any.
pub once_between-first : (from n : ℕ) → from < n → once_between from n from ≡ 1
once_between-first from n less = grind (arith, nat_tests)

pub first_between : (from n : ℕ) → 1 ≤ once_between from n from → from < n
first_between from n has = grind (arith, nat_tests)
