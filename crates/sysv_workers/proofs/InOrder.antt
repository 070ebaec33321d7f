-- Items that are taken from later and later places are in the order in which they were put.
use Rattle.std.proofs.Common.{◌≡◌, inl, inr, ℕ, zero, suc, ◌<◌, ◌≤◌, List, [], ◌∷◌, ◌++◌, length}
use Rattle.std.proofs.Common.{refl, sym, ap, ◌∙◌, subst, arith}
use Rattle.std.specs.List.{flat_map}
use Rattle.std.specs.List.Sorted.{IsPermutation}
use Rattle.std.proofs.lemmas.List.{append-nil}
use Rattle.std.proofs.lemmas.List.Sorted.{length_permutation}
use mathlib.Core.Logic.{dite}
use native.Mathlib.Decide.{dec_le}
use mathlib.Core.Option.{some, some-injective, some-ne-none}
use lib.ListN.{get_elem?}
use Rattle.sysv_workers.specs.declared.feed.Feed.{Feed}
use Rattle.sysv_workers.specs.declared.feed.Feed.TheVariants.{Item, End}
use Rattle.sysv_workers.specs.Feeding.{Reads, Rises, items_in}
use Rattle.sysv_lists.specs.Numbers.{times}
use Rattle.sysv_lists.specs.Prefix.{IsPrefixOf}
use Rattle.sysv_lists.proofs.Counting.{times-append, times-same, the-one}
use Rattle.sysv_workers.proofs.Feeds.{items_in-append}
use Rattle.sysv_workers.specs.Parts.{Part, IsSubsequenceOf, AreInOrder}

first_there : (k : ℕ) (ks : List ℕ) → 1 ≤ times k (k ∷ ks)
first_there k ks = let parts = times-append k (k ∷ []) ks in let one = times-same k in omega arith

module _ {A : Type 0} where
  -- The list from this place on.
  from_place : ℕ → List A → List A
  from_place zero xs = xs
  from_place (suc n) [] = []
  from_place (suc n) (x ∷ xs) = from_place n xs

  subsequence_at : (list : List A) (n k : ℕ) (x : A) (xs : List A) → n ≤ k → get_elem? list k ≡ some x →
      IsSubsequenceOf xs (from_place (suc k) list) → IsSubsequenceOf (x ∷ xs) (from_place n list)
  unfolding from_place
  subsequence_at [] n k x xs low at s = absurd (some-ne-none x (sym at))
  subsequence_at (y ∷ list) zero zero x xs low at s = inl (sym (some-injective y x at), s)
  subsequence_at (y ∷ list) zero (suc k) x xs low at s = inr (subsequence_at list zero k x xs (omega arith) at s)
  subsequence_at (y ∷ list) (suc n) zero x xs low at s = absurd (omega arith)
  subsequence_at (y ∷ list) (suc n) (suc k) x xs low at s = subsequence_at list n k x xs (omega arith) at s

  -- Values that were read at rising places are in the order of the list.
  reads_rising : (list : List A) (n : ℕ) (ks : List ℕ) (xs : List A) → Reads list ks xs → Rises ks →
      ((k : ℕ) → 1 ≤ times k ks → n ≤ k) → IsSubsequenceOf xs (from_place n list)
  reads_rising list n [] [] r up low = tt
  reads_rising list n [] (x ∷ xs) r up low = absurd r
  reads_rising list n (k ∷ ks) [] r up low = absurd r
  reads_rising list n (k ∷ ks) (x ∷ xs) r up low =
      subsequence_at list n k x xs (low k (first_there k ks)) r.0
      (reads_rising list (suc k) ks xs r.1 up.1 (λ j h. let later = up.0 j h in omega arith))

  one_more : (xs ys : List A) (y : A) → IsSubsequenceOf xs ys → IsSubsequenceOf xs (y ∷ ys)
  one_more [] ys y s = tt
  one_more (x ∷ xs) ys y s = inr s

  longer : (xs ys zs : List A) → IsSubsequenceOf xs ys → IsSubsequenceOf xs (ys ++ zs)
  longer [] ys zs s = tt
  longer (x ∷ xs) [] zs s = absurd s
  longer (x ∷ xs) (y ∷ ys) zs (inl s) = inl (s.0, longer xs ys zs s.1)
  longer (x ∷ xs) (y ∷ ys) zs (inr s) = inr (longer (x ∷ xs) ys zs s)

  shorter : (xs ys : List A) → IsSubsequenceOf xs ys → length xs ≤ length ys
  shorter [] ys s = omega arith
  shorter (x ∷ xs) [] s = absurd s
  shorter (x ∷ xs) (y ∷ ys) (inl s) = let low = shorter xs ys s.1 in omega arith
  shorter (x ∷ xs) (y ∷ ys) (inr s) = let low = shorter (x ∷ xs) ys s in omega arith

  all_of_it : (xs ys : List A) → IsSubsequenceOf xs ys → length xs ≡ length ys → xs ≡ ys
  all_of_it [] [] s long = refl
  all_of_it [] (y ∷ ys) s long = absurd (omega arith)
  all_of_it (x ∷ xs) [] s long = absurd s
  all_of_it (x ∷ xs) (y ∷ ys) (inl s) long =
      ap (λ z. z ∷ xs) s.0 ∙ ap (λ l. y ∷ l) (all_of_it xs ys s.1 (omega arith))
  all_of_it (x ∷ xs) (y ∷ ys) (inr s) long = let low = shorter (x ∷ xs) ys s in absurd (omega arith)

-- One more place, after all others.
pub rises_push : (ks : List ℕ) (p : ℕ) → Rises ks → ((k : ℕ) → 1 ≤ times k ks → k < p) → Rises (ks ++ p ∷ [])
rises_push [] p up low = ((λ j h. absurd (omega arith)), tt)
rises_push (k ∷ ks) p up low = (
  (λ j h.
      let parts = times-append j ks (p ∷ []) in
      let first = low k (first_there k ks) in
      dite (dec_le 1 (times j ks)) (λ d. up.0 j d) (λ nd. let same = the-one j p (omega (arith, nd)) in omega arith)),
  rises_push ks p up.1 (λ j h. low j (let parts = times-append j (k ∷ []) ks in omega arith)),
)

module _ {T : Type 0} where
  same_one : (x y : T) → Item x ≡ Item y → x ≡ y
  same_one x y e = cc

  without_marks : (fs gs : List (Feed T)) → IsSubsequenceOf fs gs → IsSubsequenceOf (items_in fs) (items_in gs)
  without_marks [] gs s = tt
  without_marks (f ∷ fs) [] s = absurd s
  without_marks (Item x ∷ fs) (Item y ∷ gs) (inl s) = inl (same_one x y s.0, without_marks fs gs s.1)
  without_marks (Item x ∷ fs) (End ∷ gs) (inl s) = let e : Item x ≡ End = s.0 in cc
  without_marks (End ∷ fs) (Item y ∷ gs) (inl s) = let e : End ≡ Item y = s.0 in cc
  without_marks (End ∷ fs) (End ∷ gs) (inl s) = without_marks fs gs s.1
  without_marks (f ∷ fs) (Item y ∷ gs) (inr s) =
      one_more (items_in (f ∷ fs)) (items_in gs) y (without_marks (f ∷ fs) gs s)
  without_marks (f ∷ fs) (End ∷ gs) (inr s) = without_marks (f ∷ fs) gs s

  -- Items that were read at rising places are in the order in which they were put.
  pub in_order_put : (list : List (Feed T)) (ks : List ℕ) (fs : List (Feed T)) (items : List T) → Reads list ks fs →
      Rises ks → items_in fs ≡ items → IsSubsequenceOf items (items_in list)
  unfolding from_place
  in_order_put list ks fs items r up same = subst (λ (l : List T). IsSubsequenceOf l (items_in list)) same
      (without_marks fs list (reads_rising list 0 ks fs r up (λ k h. omega arith)))

  -- They still are if more was put.
  pub still_in_order : (items : List T) (list list' : List (Feed T)) → IsPrefixOf list list' →
      IsSubsequenceOf items (items_in list) → IsSubsequenceOf items (items_in list')
  still_in_order items list list' p s =
      subst (λ (l : List T). IsSubsequenceOf items l) (sym (ap items_in p.1 ∙ items_in-append list p.0))
      (longer items (items_in list) (items_in p.0) s)

module _ {W T : Type 0} where
  -- One worker alone has all items in their order.
  pub one_in_order : (given : List T) (parts : List (Part W T)) → length parts ≡ 1 →
      IsPermutation (flat_map (λ p. p.items) parts) given → AreInOrder given parts →
      flat_map (λ p. p.items) parts ≡ given
  one_in_order given [] one deal ordered = absurd (omega arith)
  one_in_order given (p ∷ []) one deal ordered =
      let s : IsSubsequenceOf p.items given = ordered 0 p (omega arith) in
      let same = append-nil p.items in
      let long = length_permutation (p.items ++ []) given deal in
      let long' = ap length same in
      same ∙ all_of_it p.items given s (omega arith)
  one_in_order given (p ∷ q ∷ parts) one deal ordered = absurd (omega arith)
