-- Whether one of several listeners is open, after one of them was closed.
use mathlib.Core.Bool.{true≢false}
use Rattle.std.proofs.Common.{◌≡◌, ◌∙◌, ℕ, zero, suc, ◌+◌, ◌<◌, List, [], ◌∷◌, length, take, drop, Bool, true, false}
use Rattle.std.proofs.Common.{ap, arith, refl, sym}
use Rattle.std.specs.Prelude.{◌||◌, Err, Ok, OnErr, OnOk, Result, slice_index_or, slice_set}
use Rattle.std.specs.List.{list_any}

or_assoc : (a b c : Bool) → a || (b || c) ≡ (a || b) || c
or_assoc true b c = refl
or_assoc false b c = refl

or_true : (a : Bool) → a || true ≡ true
or_true true = refl
or_true false = refl

if_one : (a b c : Bool) → (b ≡ true → c ≡ true) → a || b ≡ true → a || c ≡ true
if_one true b c then is = refl
if_one false b c then is = then is

right_off : (a b : Bool) → a || b ≡ false → b ≡ false
right_off true b is = absurd (true≢false is)
right_off false b is = is

next : (n : ℕ) → suc n + 1 ≡ suc (n + 1)
next n = omega arith

-- What holds anyway holds after a failure.
pub on_err : {A E Q : Type 0} (r : Result A E) → Q → OnErr r Q
on_err (Ok a) q = tt
on_err (Err e) q = q

module _ {L : Type 0} (f : L → Bool) where
  -- One was closed: the others are left.
  pub any_others : (ls : List L) (n : ℕ) (m : L) → n < length ls → f m ≡ false →
      list_any f (slice_set ls n m) ≡ list_any f (take n ls) || list_any f (drop (n + 1) ls)
  any_others [] n m there off = absurd (omega (arith, there))
  any_others (x ∷ ls) zero m there off = ap (λ (b : Bool). b || list_any f ls) off
  any_others (x ∷ ls) (suc n) m there off =
      ap (λ (b : Bool). f x || b) (any_others ls n m (omega (arith, there)) off)
      ∙ (or_assoc (f x) (list_any f (take n ls)) (list_any f (drop (n + 1) ls))
      ∙ ap (λ (k : ℕ). (f x || list_any f (take n ls)) || list_any f (drop k (x ∷ ls))) (sym (next n)))

  -- All up to this one are closed if all before it are.
  pub none_before : (ls : List L) (n : ℕ) (m : L) → n < length ls → f m ≡ false →
      list_any f (take (n + 1) (slice_set ls n m)) ≡ list_any f (take n ls)
  none_before [] n m there off = absurd (omega (arith, there))
  none_before (x ∷ ls) zero m there off = ap (λ (b : Bool). b || false) off
  none_before (x ∷ ls) (suc n) m there off =
      ap (λ (k : ℕ). list_any f (take k (x ∷ slice_set ls n m))) (next n)
      ∙ ap (λ (b : Bool). f x || b) (none_before ls n m (omega (arith, there)) off)

  -- One of them changed, and is as open as before.
  pub any_still : (ls : List L) (n : ℕ) (m d : L) → n < length ls → f m ≡ f (slice_index_or ls n d) →
      list_any f (slice_set ls n m) ≡ list_any f ls
  any_still [] n m d there same = absurd (omega (arith, there))
  any_still (x ∷ ls) zero m d there same = ap (λ (b : Bool). b || list_any f ls) same
  any_still (x ∷ ls) (suc n) m d there same =
      ap (λ (b : Bool). f x || b) (any_still ls n m d (omega (arith, there)) same)

  -- One was opened.
  pub any_opened : (ls : List L) (n : ℕ) (m : L) → n < length ls → f m ≡ true →
      list_any f (slice_set ls n m) ≡ true
  any_opened [] n m there on = absurd (omega (arith, there))
  any_opened (x ∷ ls) zero m there on = ap (λ (b : Bool). b || list_any f ls) on
  any_opened (x ∷ ls) (suc n) m there on =
      ap (λ (b : Bool). f x || b) (any_opened ls n m (omega (arith, there)) on) ∙ or_true (f x)

  -- The same of a result, and else it is as open as before.
  pub opened_ok : {A E : Type 0} (r : Result A E) (ls : List L) (n : ℕ) (m : L) → n < length ls →
      OnOk r (f m ≡ true) → OnOk r (list_any f (slice_set ls n m) ≡ true)
  opened_ok (Ok a) ls n m there on = any_opened ls n m there on
  opened_ok (Err e) ls n m there on = tt

  pub opened_err : {A E : Type 0} (r : Result A E) (ls : List L) (n : ℕ) (m old d : L) → n < length ls →
      old ≡ slice_index_or ls n d → OnErr r (f m ≡ f old) → OnErr r (list_any f (slice_set ls n m) ≡ list_any f ls)
  opened_err (Ok a) ls n m old d there is same = tt
  opened_err (Err e) ls n m old d there is same = any_still ls n m d there (same ∙ ap f is)

  -- Those up to a number and those from there on.
  pub any_of_both : (ls : List L) (n : ℕ) →
      list_any f ls ≡ list_any f (take n ls) || list_any f (drop n ls)
  any_of_both [] zero = refl
  any_of_both [] (suc n) = refl
  any_of_both (x ∷ ls) zero = refl
  any_of_both (x ∷ ls) (suc n) =
      ap (λ (b : Bool). f x || b) (any_of_both ls n)
      ∙ or_assoc (f x) (list_any f (take n ls)) (list_any f (drop n ls))

  -- If one of those up to a number is open, one is.
  pub some_before : (ls : List L) (n : ℕ) → list_any f (take n ls) ≡ true → list_any f ls ≡ true
  some_before ls n on = any_of_both ls n ∙ ap (λ (b : Bool). b || list_any f (drop n ls)) on

  -- None of those up to a number is open: the others are left.
  pub any_after : (ls : List L) (n : ℕ) → list_any f (take n ls) ≡ false →
      list_any f ls ≡ list_any f (drop n ls)
  any_after ls n off = any_of_both ls n ∙ ap (λ (b : Bool). b || list_any f (drop n ls)) off

  -- If none is open, none of those from a number on is.
  pub none_after : (ls : List L) (n : ℕ) → list_any f ls ≡ false → list_any f (drop n ls) ≡ false
  none_after ls n off = right_off (list_any f (take n ls)) (list_any f (drop n ls)) (sym (any_of_both ls n) ∙ off)

  -- If another one is open, one is.
  pub one_of_others : (ls : List L) (n : ℕ) → n < length ls →
      list_any f (take n ls) || list_any f (drop (n + 1) ls) ≡ true → list_any f ls ≡ true
  one_of_others [] n there is_open = absurd (omega (arith, there))
  one_of_others (x ∷ ls) zero there is_open = ap (λ (b : Bool). f x || b) is_open ∙ or_true (f x)
  one_of_others (x ∷ ls) (suc n) there is_open =
      let here = ap (λ (k : ℕ). (f x || list_any f (take n ls)) || list_any f (drop k (x ∷ ls))) (sym (next n))
      ∙ is_open in
      if_one (f x) (list_any f (take n ls) || list_any f (drop (n + 1) ls)) (list_any f ls)
      (one_of_others ls n (omega (arith, there)))
      (or_assoc (f x) (list_any f (take n ls)) (list_any f (drop (n + 1) ls)) ∙ here)
