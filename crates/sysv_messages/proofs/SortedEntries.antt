-- What one entry implies for the entries before and after it, if entries are in the order of their
-- types.
use Rattle.std.proofs.Common.{◌≡◌, ℕ, zero, suc, ◌/◌, ◌^◌, ℤ, ◌+◌, ◌<◌, ◌≤◌, ◌<ℤ◌, ◌≤ℤ◌, true, false, List, Some}
use Rattle.std.proofs.Common.{length, get_or, ◌≢◌, refl, sym, ap, subst, ◌∙◌, inl, inr, arith}
use Rattle.std.specs.List.{All, AllPairs, AllWithin, insert, slice_get}
use Rattle.std.specs.List.Sorted.{IsPartitionedBy, IsPartitionPoint}
use Rattle.std.specs.Int.Signed.{le_z}
use Rattle.std.proofs.Math.Nat.{two-pow-succ}
use Rattle.std.proofs.lemmas.Bool.{cases_lt}
use Rattle.std.proofs.lemmas.Int.{ints}
use Rattle.std.proofs.lemmas.Option.{get_or_from_slice_get}
use Rattle.sysv_messages.specs.declared.entry.Entry.{Entry}
use Rattle.sysv_messages.specs.Entries.{IsBefore, IsInserted}

pub not_higher : (a b : Entry) → IsBefore a b → a.mtype ≤ℤ b.mtype
not_higher a b (inl lower) = omega (arith, ints)
not_higher a b (inr same) = let e = same.0 in omega (arith, ints)

at_most_itself : (a b : ℤ) → a ≡ b → a ≤ℤ b
at_most_itself a b e = omega (arith, ints)

pub types_rise : (xs : List Entry) → AllPairs IsBefore xs → (i j : ℕ) (d : Entry) → i ≤ j → j < length xs →
    (get_or xs i d).mtype ≤ℤ (get_or xs j d).mtype
types_rise xs sorted i j d order within = elim (cases_lt i j) [
  | inl less ↦ not_higher (get_or xs i d) (get_or xs j d) (sorted i j d less within)
  | inr over ↦ let same : i ≡ j = omega arith in at_most_itself _ _ (ap (λ k. (get_or xs k d).mtype) same)
]

lower_of : (a b t : ℤ) → a ≤ℤ b → b <ℤ t → a <ℤ t
lower_of a b t h k = omega (arith, ints)

higher_of : (a b t : ℤ) → b ≤ℤ a → t ≤ℤ b → t ≤ℤ a
higher_of a b t h k = omega (arith, ints)

pub below_from : (xs : List Entry) (t : ℤ) (middle : ℕ) (e : Entry) → AllPairs IsBefore xs → middle < length xs →
    slice_get xs middle ≡ Some e → e.mtype <ℤ t →
    AllWithin (λ (other : Entry). other.mtype <ℤ t) xs 0 (middle + 1)
below_from xs t middle e sorted within there lower k d low high =
    let is : get_or xs middle d ≡ e = get_or_from_slice_get xs middle e d there in
    lower_of (get_or xs k d).mtype (get_or xs middle d).mtype t (types_rise xs sorted k middle d (omega arith) within)
    (subst (λ (z : Entry). z.mtype <ℤ t) (sym is) lower)

pub above_from : (xs : List Entry) (t : ℤ) (middle : ℕ) (e : Entry) → AllPairs IsBefore xs → middle < length xs →
    slice_get xs middle ≡ Some e → t ≤ℤ e.mtype →
    AllWithin (λ (other : Entry). t ≤ℤ other.mtype) xs middle (length xs)
above_from xs t middle e sorted within there higher k d low high =
    let is : get_or xs middle d ≡ e = get_or_from_slice_get xs middle e d there in
    higher_of (get_or xs k d).mtype (get_or xs middle d).mtype t (types_rise xs sorted middle k d low high)
    (subst (λ (z : Entry). t ≤ℤ z.mtype) (sym is) higher)

-- Half of a number below a power of 2 is below half of that power.
pub halved : (left some half : ℕ) → some < 2 ^ left → 0 < some → half ≤ some / 2 →
    (less : ℕ) × (half < 2 ^ less) × (less + 1 ≡ left)
halved zero some half below more at_most = let one : 2 ^ 0 ≡ 1 = refl in absurd (omega arith)
halved (suc left) some half below more at_most = let twice = two-pow-succ left in (left, omega arith, omega arith)

-- Where an entry of a type is inserted.
admits_lower : (a b t : ℤ) → a ≤ℤ b → le_z b t ≡ true → le_z a t ≡ true
admits_lower a b t h k = grind (arith, ints)

admitted : (a t : ℤ) → le_z a t ≡ true → a ≤ℤ t
admitted a t h = grind (arith, ints)

not_admitted : (a t : ℤ) → le_z a t ≡ false → t <ℤ a
not_admitted a t h = grind (arith, ints)

pub parted : (xs : List Entry) (t : ℤ) → AllPairs IsBefore xs → IsPartitionedBy (λ (e : Entry). le_z e.mtype t) xs
parted xs t sorted i j d order within holds =
    admits_lower (get_or xs i d).mtype (get_or xs j d).mtype t (types_rise xs sorted i j d order within) holds

pub comes_in : (xs new : List Entry) (e : Entry) (at : ℕ) → at ≤ length xs →
    IsPartitionPoint (λ (o : Entry). le_z o.mtype e.mtype ≡ true) (λ (o : Entry). le_z o.mtype e.mtype ≡ false) xs at →
    new ≡ insert xs at e → IsInserted xs e new
comes_in xs new e at within point is = record {
  at = at;
  within = within;
  is = is;
  below = λ k d low high. admitted (get_or xs k d).mtype e.mtype (point.0 k d low high);
  above = λ k d low high. not_admitted (get_or xs k d).mtype e.mtype (point.1 k d low high);
}

between : (t a b : ℤ) → t ≤ℤ a → a ≤ℤ b → b ≡ t → a ≡ t
between t a b h k e = omega (arith, ints)

lower_apart : (a t : ℤ) → a <ℤ t → ¬ (a ≡ t)
lower_apart a t h e = omega (arith, ints)

-- If the first entry of a type or a higher one has another type, no entry has the type.
pub none_of_type : (xs : List Entry) (t : ℤ) (at : ℕ) (e : Entry) → AllPairs IsBefore xs → slice_get xs at ≡ Some e →
    AllWithin (λ (o : Entry). o.mtype <ℤ t) xs 0 at →
    AllWithin (λ (o : Entry). t ≤ℤ o.mtype) xs at (length xs) → ¬ (e.mtype ≡ t) → All (λ (o : Entry). o.mtype ≢ t) xs
none_of_type xs t at e sorted there below above other k d within same = elim (cases_lt k at) [
  | inl low ↦ lower_apart (get_or xs k d).mtype t (below k d (omega arith) low) same
  | inr high ↦
      let is : (get_or xs at d).mtype ≡ e.mtype = ap (λ (o : Entry). o.mtype) (get_or_from_slice_get xs at e d there) in
      let first = above at d (omega arith) (omega arith) in
      other (sym is
      ∙ between t (get_or xs at d).mtype (get_or xs k d).mtype first (types_rise xs sorted at k d high within) same)
]
