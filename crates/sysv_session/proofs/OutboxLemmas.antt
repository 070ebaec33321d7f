-- Marks as bytes are taken.
use Rattle.std.proofs.Common.{◌≡◌, ◌≤◌, ℕ, ◌+◌, ◌-◌, Bool, true, false, cond, nat_le, List, [], ◌∷◌}
use Rattle.std.proofs.Common.{length}
use Rattle.std.proofs.Common.{refl, ap, arith}
use Rattle.std.proofs.lemmas.Bool.Decides.{nat_tests}
use Rattle.std.specs.List.{filter}
use Rattle.sysv_session.specs.Outbox.{Mark, is_passed, is_within, passed, within, nearer, beyond}

-- The first mark is within the first n bytes, or not.
pub first_within : (b : Bool) (n : ℕ) (x : Mark) (xs : List Mark) → nat_le x.ends n ≡ b →
    within n (x ∷ xs) ≡ cond b 1 0 + within n xs
first_within true n x xs is =
    let e : within n (x ∷ xs) ≡ length (x ∷ filter (is_within n) xs) = rw is in omega (arith, e)
first_within false n x xs is = let e : within n (x ∷ xs) ≡ within n xs = rw is in omega (arith, e)

-- The first mark is passed, or beyond the first n bytes.
pub first_passed : (b : Bool) (n : ℕ) (x : Mark) (xs : List Mark) → nat_le (1 + x.ends) n ≡ b →
    passed n (x ∷ xs) ≡ cond b 1 0 + passed n xs
first_passed true n x xs is =
    let e : passed n (x ∷ xs) ≡ length (x ∷ filter (is_passed n) xs) = rw is in omega (arith, e)
first_passed false n x xs is = let e : passed n (x ∷ xs) ≡ passed n xs = rw is in omega (arith, e)

pub first_beyond : (b : Bool) (n : ℕ) (x : Mark) (xs : List Mark) → nat_le (1 + x.ends) n ≡ b →
    beyond n (x ∷ xs) ≡ cond b (beyond n xs) (nearer n x ∷ beyond n xs)
first_beyond true n x xs is = rw is
first_beyond false n x xs is = rw is

each_at : (b : Bool) (n : ℕ) (x : Mark) (xs : List Mark) → nat_le (1 + x.ends) n ≡ b →
    passed n xs + length (beyond n xs) ≡ length xs →
    passed n (x ∷ xs) + length (beyond n (x ∷ xs)) ≡ length (x ∷ xs)
each_at true n x xs is more =
    let a = first_passed true n x xs is in
    let b = ap (length {A = Mark}) (first_beyond true n x xs is) in
    omega (arith, a, b, more)
each_at false n x xs is more =
    let a = first_passed false n x xs is in
    let b = ap (length {A = Mark}) (first_beyond false n x xs is) in
    omega (arith, a, b, more)

-- Each mark is passed or beyond the first n bytes.
pub each_once : (n : ℕ) (marks : List Mark) → passed n marks + length (beyond n marks) ≡ length marks
each_once n [] = refl
each_once n (x ∷ xs) = each_at (nat_le (1 + x.ends) n) n x xs refl (each_once n xs)

-- The marks after k bytes and n more.
pub beyond-add : (k n : ℕ) (marks : List Mark) → beyond n (beyond k marks) ≡ beyond (k + n) marks
beyond-add k n [] = refl
beyond-add k n (x ∷ xs) = grind (arith, nat_tests, beyond-add k n xs)

passed-add_at : (b : Bool) (k n : ℕ) (x : Mark) (xs : List Mark) → nat_le (1 + x.ends) k ≡ b →
    passed (k + n) xs ≡ passed k xs + passed n (beyond k xs) →
    passed (k + n) (x ∷ xs) ≡ passed k (x ∷ xs) + passed n (beyond k (x ∷ xs))
passed-add_at true k n x xs is more =
    let a = first_passed true k x xs is in
    let b = ap (passed n) (first_beyond true k x xs is) in
    let passed_both : nat_le (1 + x.ends) (k + n) ≡ true = grind (arith, nat_tests) in
    let c = first_passed true (k + n) x xs passed_both in
    omega (arith, a, b, c, more)
passed-add_at false k n x xs is more =
    let a = first_passed false k x xs is in
    let b = ap (passed n) (first_beyond false k x xs is) in
    let same : nat_le (1 + x.ends) (k + n) ≡ nat_le (1 + (x.ends - k)) n = grind (arith, nat_tests) in
    let c = first_passed (nat_le (1 + (x.ends - k)) n) (k + n) x xs same in
    let d = first_passed (nat_le (1 + (x.ends - k)) n) n (nearer k x) (beyond k xs) refl in
    omega (arith, a, b, c, d, more)

pub passed-add : (k n : ℕ) (marks : List Mark) → passed (k + n) marks ≡ passed k marks + passed n (beyond k marks)
passed-add k n [] = refl
passed-add k n (x ∷ xs) = passed-add_at (nat_le (1 + x.ends) k) k n x xs refl (passed-add k n xs)

within-beyond_at : (b : Bool) (n : ℕ) (x : Mark) (xs : List Mark) → nat_le (1 + x.ends) n ≡ b →
    within n xs ≡ passed n xs + within 0 (beyond n xs) →
    within n (x ∷ xs) ≡ passed n (x ∷ xs) + within 0 (beyond n (x ∷ xs))
within-beyond_at true n x xs is more =
    let a = first_passed true n x xs is in
    let b = ap (within 0) (first_beyond true n x xs is) in
    let whole : nat_le x.ends n ≡ true = grind (arith, nat_tests) in
    let c = first_within true n x xs whole in
    omega (arith, a, b, c, more)
within-beyond_at false n x xs is more =
    let a = first_passed false n x xs is in
    let b = ap (within 0) (first_beyond false n x xs is) in
    let same : nat_le x.ends n ≡ nat_le (x.ends - n) 0 = grind (arith, nat_tests) in
    let c = first_within (nat_le (x.ends - n) 0) n x xs same in
    let d = first_within (nat_le (x.ends - n) 0) 0 (nearer n x) (beyond n xs) refl in
    omega (arith, a, b, c, d, more)

-- A frame that lies wholly in the first n bytes is passed, or ends with the last of them.
pub within-beyond : (n : ℕ) (marks : List Mark) → within n marks ≡ passed n marks + within 0 (beyond n marks)
within-beyond n [] = refl
within-beyond n (x ∷ xs) = within-beyond_at (nat_le (1 + x.ends) n) n x xs refl (within-beyond n xs)

-- Some marks are within the first n bytes, and at most all.
pub few_within : (n : ℕ) (marks : List Mark) → within n marks ≤ length marks
few_within n [] = omega arith
few_within n (x ∷ xs) =
    let a = first_within (nat_le x.ends n) n x xs refl in
    let few : cond (nat_le x.ends n) 1 0 ≤ 1 = grind (arith, nat_tests) in
    omega (arith, a, few, few_within n xs)
