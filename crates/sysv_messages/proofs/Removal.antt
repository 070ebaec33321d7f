-- The entry to be removed is at the place that the binary search finds.
use Rattle.std.proofs.Common.{◌≡◌, ◌≢◌, ℕ, ◌<◌, ◌≤◌, ◌↔◌, ◌&&◌, ◌||◌, Bool, true, false, not, nat_lt, int_lt, IsTrue}
use Rattle.std.proofs.Common.{List, Some, get_or, refl, sym, subst, ◌∙◌, inl, inr, arith}
use Rattle.std.specs.List.{All, AllPairs, slice_get}
use Rattle.std.specs.List.Sorted.{IsPartitionedBy, IsPartitionPoint}
use Rattle.std.proofs.lemmas.Bool.{cases_lt, cases_order}
use Rattle.std.proofs.lemmas.Int.{ints}
use Rattle.std.proofs.lemmas.Option.{slice_get-get_or, slice_get_within, get_or_from_slice_get}
use Rattle.sysv_messages.specs.declared.entry.Entry.{Entry}
use Rattle.sysv_messages.specs.Entries.{IsBefore, NumbersDiffer, NumbersRise}
use Rattle.sysv_messages.proofs.EntryLists.{never_both, not_true}

pub never_before_itself : (e : Entry) → ¬ IsBefore e e
never_before_itself e (inl lower) = omega (arith, ints)
never_before_itself e (inr same) = let h = same.1 in omega arith

before_through : (a b c : Entry) → IsBefore a b → IsBefore b c → IsBefore a c
before_through a b c (inl h) (inl k) = inl (omega (arith, ints))
before_through a b c (inl h) (inr k) = let t = k.0 in inl (omega (arith, ints))
before_through a b c (inr h) (inl k) = let t = h.0 in inl (omega (arith, ints))
before_through a b c (inr h) (inr k) = let m = h.1 in let n = k.1 in inr (h.0 ∙ k.0, omega arith)

pub rising_differ : (xs : List Entry) → NumbersRise xs → NumbersDiffer xs
rising_differ xs rising i j d less within same = let h = rising i j d less within in omega arith

-- By number.
abbrev pub below : ℕ → Entry → Bool
below n e = nat_lt e.number n

below_yes : (n : ℕ) (e : Entry) → below n e ≡ true → e.number < n
below_yes n e h = grind arith

below_no : (n : ℕ) (e : Entry) → below n e ≡ false → n ≤ e.number
below_no n e h = grind arith

is_below : (n : ℕ) (e : Entry) → e.number < n → below n e ≡ true
is_below n e h = grind arith

pub parted_by_number : (xs : List Entry) (n : ℕ) → NumbersRise xs → IsPartitionedBy (below n) xs
parted_by_number xs n rising i j d order within holds = elim (cases_lt i j) [
  | inl less ↦ is_below n (get_or xs i d)
      (let h = rising i j d less within in let k = below_yes n (get_or xs j d) holds in omega arith)
  | inr over ↦ let same : i ≡ j = omega arith in subst (λ p. below n (get_or xs p d) ≡ true) (sym same) holds
]

pub none_of_number : (xs : List Entry) (n at : ℕ) → NumbersRise xs →
    IsPartitionPoint (λ e. below n e ≡ true) (λ e. below n e ≡ false) xs at →
    ((e : Entry) → slice_get xs at ≡ Some e → e.number ≢ n) → All (λ (e : Entry). e.number ≢ n) xs
none_of_number xs n at rising point other k d within same = elim (cases_order k at) [
  | inl here ↦ other (get_or xs k d)
      (subst (λ p. slice_get xs p ≡ Some (get_or xs k d)) here (slice_get-get_or xs k d within)) same
  | inr (inl low) ↦ let h = below_yes n (get_or xs k d) (point.0 k d (omega arith) low) in omega arith
  | inr (inr high) ↦
      let h = below_no n (get_or xs at d) (point.1 at d (omega arith) (omega arith)) in
      let r = rising at k d high within in
      omega arith
]

-- By type.
abbrev pub before : Entry → Entry → Bool
before e a = int_lt a.mtype e.mtype || (not (int_lt e.mtype a.mtype) && nat_lt a.number e.number)

before_yes : (e a : Entry) → before e a ≡ true → IsBefore a e
before_yes e a h = grind (arith, ints)

is_before : (e a : Entry) → IsBefore a e → before e a ≡ true
is_before e a h = grind (arith, ints)

pub before_as_told : (e a : Entry) (r : Bool) → (IsTrue r ↔ IsBefore a e) → r ≡ before e a
before_as_told e a true h = sym (is_before e a (h.0 refl))
before_as_told e a false h = sym (not_true (before e a) (λ holds. never_both false (h.1 (before_yes e a holds)) refl))

pub parted_by_type : (xs : List Entry) (e : Entry) → AllPairs IsBefore xs → IsPartitionedBy (before e) xs
parted_by_type xs e sorted i j d order within holds = elim (cases_lt i j) [
  | inl less ↦ is_before e (get_or xs i d)
      (before_through (get_or xs i d) (get_or xs j d) e (sorted i j d less within) (before_yes e (get_or xs j d) holds))
  | inr over ↦ let same : i ≡ j = omega arith in subst (λ p. before e (get_or xs p d) ≡ true) (sym same) holds
]

pub one_place_by_type : (xs : List Entry) (e : Entry) (at k : ℕ) → AllPairs IsBefore xs → slice_get xs k ≡ Some e →
    IsPartitionPoint (λ a. before e a ≡ true) (λ a. before e a ≡ false) xs at → at ≡ k
one_place_by_type xs e at k sorted there point =
    let within = slice_get_within xs k e there in
    let is : get_or xs k e ≡ e = get_or_from_slice_get xs k e e there in
    elim (cases_order at k) [
      | inl here ↦ here
      | inr (inl low) ↦
          let h =
          is_before e (get_or xs at e) (subst (λ z. IsBefore (get_or xs at e) z) is (sorted at k e low within)) in
          absurd (never_both (before e (get_or xs at e)) h (point.1 at e (omega arith) (omega arith)))
      | inr (inr high) ↦
          let h = before_yes e (get_or xs k e) (point.0 k e (omega arith) high) in
          absurd (never_before_itself e (subst (λ z. IsBefore z e) is h))
    ]
