-- If as many places were read as there are, and none twice, all were read.
use Rattle.std.proofs.Common.{◌≡◌, ◌≢◌, ℕ, zero, suc, ◌+◌, ◌≤◌, ◌==◌, cond, List, [], ◌∷◌, ◌++◌, length, map, refl, sym}
use Rattle.std.proofs.Common.{ap, ◌∙◌, subst, arith, length-append}
use Rattle.std.specs.List.Sorted.{IsPermutation}
use Rattle.std.proofs.lemmas.List.Sorted.{IsPermutation-refl, IsPermutation-cons, IsPermutation-middle}
use Rattle.std.proofs.lemmas.List.Sorted.{IsPermutation-sym, IsPermutation-trans}
use Rattle.std.proofs.lemmas.List.Sums.{sum_by-cons}
use Rattle.std.proofs.lemmas.Bool.Decides.{nat_tests}
use mathlib.Core.Option.{some, some-injective, some-ne-none}
use lib.ListN.{get_elem?}
use Rattle.sysv_lists.specs.Numbers.{times}
use Rattle.sysv_workers.specs.declared.feed.Feed.{Feed}
use Rattle.sysv_workers.specs.declared.feed.Feed.TheVariants.{Item, End}
use Rattle.sysv_workers.specs.Feeding.{Reads, items_in, fed}
use Rattle.sysv_workers.proofs.Feeds.{nil_of, items_in-append}

-- The number is none of these.
abbrev Away : ℕ → List ℕ → Type 0
Away k [] = Unit {0}
Away k (j ∷ js) = (j ≢ k) × Away k js

-- No number occurs twice among these.
abbrev pub Apart : List ℕ → Type 0
Apart [] = Unit {0}
Apart (j ∷ js) = Away j js × Apart js

abbrev hit_of : ℕ → ℕ → ℕ
hit_of k j = cond (j == k) 1 0

same_test : (n : ℕ) → hit_of n n ≡ 1
same_test n = grind (arith, nat_tests)

not_same : (k j t : ℕ) → hit_of k j + t ≡ 0 → j ≢ k
not_same k j t none is =
    let hit : hit_of k j ≡ 1 = ap (λ (m : ℕ). hit_of m j) (sym is) ∙ same_test j in absurd (omega arith)

away : (k : ℕ) (js : List ℕ) → times k js ≡ 0 → Away k js
away k [] none = tt
away k (j ∷ js) none =
    let sum = sum_by-cons (λ (y : ℕ). cond (y == k) 1 0) j js in
    (not_same k j (times k js) (omega arith), away k js (omega arith))

pub apart : (js : List ℕ) → ((k : ℕ) → times k js ≤ 1) → Apart js
apart [] once = tt
apart (j ∷ js) once = (
  (let sum = sum_by-cons (λ (y : ℕ). cond (y == j) 1 0) j js in
      let one = once j in
      let hit = same_test j in
      away j js (omega arith)),
  apart js (λ k. let sum = sum_by-cons (λ (y : ℕ). cond (y == k) 1 0) j js in let one = once k in omega arith),
)

-- The place of an element after another place is left out.
lowered : ℕ → ℕ → ℕ
lowered zero zero = zero
lowered zero (suc j) = j
lowered (suc k) zero = zero
lowered (suc k) (suc j) = suc (lowered k j)

still_apart : (k j i : ℕ) → j ≢ k → i ≢ k → j ≢ i → lowered k j ≢ lowered k i
unfolding lowered
still_apart zero zero i one two ne e = one refl
still_apart zero (suc j) zero one two ne e = two refl
still_apart zero (suc j) (suc i) one two ne e = ne (ap suc e)
still_apart (suc k) zero zero one two ne e = ne refl
still_apart (suc k) zero (suc i) one two ne e = absurd (omega arith)
still_apart (suc k) (suc j) zero one two ne e = absurd (omega arith)
still_apart (suc k) (suc j) (suc i) one two ne e =
    still_apart k j i (λ q. one (ap suc q)) (λ q. two (ap suc q)) (λ q. ne (ap suc q)) (omega arith)

away_lowered : (k i : ℕ) (js : List ℕ) → i ≢ k → Away k js → Away i js → Away (lowered k i) (map (lowered k) js)
away_lowered k i [] ne from one = tt
away_lowered k i (j ∷ js) ne from one = (still_apart k j i from.0 ne one.0, away_lowered k i js ne from.1 one.1)

apart_lowered : (k : ℕ) (js : List ℕ) → Away k js → Apart js → Apart (map (lowered k) js)
apart_lowered k [] from all = tt
apart_lowered k (j ∷ js) from all = (away_lowered k j js from.0 from.1 all.0, apart_lowered k js from.1 all.1)

module _ {A : Type 0} where
  at_lowered : (a b : List A) (x y : A) (j : ℕ) → j ≢ length a → get_elem? (a ++ x ∷ b) j ≡ some y →
      get_elem? (a ++ b) (lowered (length a) j) ≡ some y
  unfolding lowered
  at_lowered [] b x y zero ne at = absurd (ne refl)
  at_lowered [] b x y (suc j) ne at = at
  at_lowered (c ∷ a) b x y zero ne at = at
  at_lowered (c ∷ a) b x y (suc j) ne at = at_lowered a b x y j (λ q. ne (ap suc q)) at

  reads_lowered : (a b : List A) (x : A) (js : List ℕ) (ys : List A) → Away (length a) js → Reads (a ++ x ∷ b) js ys →
      Reads (a ++ b) (map (lowered (length a)) js) ys
  reads_lowered a b x [] [] from r = tt
  reads_lowered a b x [] (y ∷ ys) from r = r
  reads_lowered a b x (j ∷ js) [] from r = r
  reads_lowered a b x (j ∷ js) (y ∷ ys) from r = (at_lowered a b x y j from.0 r.0, reads_lowered a b x js ys from.1 r.1)

  -- The list around one place.
  pub record Round (list : List A) (k : ℕ) (x : A) : Type 0 where
    pub low : List A
    pub high : List A
    pub whole : list ≡ low ++ x ∷ high
    pub place : length low ≡ k

  round : (list : List A) (k : ℕ) (x : A) → get_elem? list k ≡ some x → Round list k x
  round [] k x at = absurd (some-ne-none x (sym at))
  round (y ∷ list) zero x at =
      record { low = []; high = list; whole = ap (λ z. z ∷ list) (some-injective y x at); place = refl }
  round (y ∷ list) (suc k) x at =
      let r = round list k x at in
      record { low = y ∷ r.low; high = r.high; whole = ap (λ l. y ∷ l) r.whole; place = ap suc r.place }

  map_length : {B : Type 0} (f : A → B) (xs : List A) → length (map f xs) ≡ length xs
  map_length f [] = refl
  map_length f (x ∷ xs) = ap suc (map_length f xs)

module _ {T : Type 0} where
  pub items_fed : (xs : List T) (n : ℕ) → items_in (fed xs n) ≡ xs
  items_fed [] zero = refl
  items_fed [] (suc n) = items_fed [] n
  items_fed (x ∷ xs) n = ap (λ l. x ∷ l) (items_fed xs n)

  one_dealt : (f : Feed T) (fs a b : List (Feed T)) → IsPermutation (items_in fs) (items_in (a ++ b)) →
      IsPermutation (items_in (f ∷ fs)) (items_in (a ++ f ∷ b))
  one_dealt (Item x) fs a b p =
      let all : items_in (a ++ b) ≡ items_in a ++ items_in b = items_in-append a b in
      let all' : items_in (a ++ Item x ∷ b) ≡ items_in a ++ x ∷ items_in b = items_in-append a (Item x ∷ b) in
      let first : IsPermutation (x ∷ items_in fs) (x ∷ (items_in a ++ items_in b)) =
      IsPermutation-cons x _ _ (subst (IsPermutation (items_in fs)) all p) in
      let second : IsPermutation (x ∷ (items_in a ++ items_in b)) (items_in a ++ x ∷ items_in b) =
      IsPermutation-sym _ _ (IsPermutation-middle (items_in a) x (items_in b)) in
      subst (IsPermutation (x ∷ items_in fs)) (sym all') (IsPermutation-trans _ _ _ first second)
  one_dealt End fs a b p =
      subst (IsPermutation (items_in fs)) (items_in-append a b ∙ sym (items_in-append a (End ∷ b))) p

  pub all_dealt : (fs list : List (Feed T)) (js : List ℕ) → Reads list js fs → Apart js → length list ≡ length js →
      IsPermutation (items_in fs) (items_in list)
  all_dealt [] list [] r all long =
      subst (λ (l : List (Feed T)). IsPermutation [] (items_in l)) (sym (nil_of list long)) (IsPermutation-refl [])
  all_dealt [] list (j ∷ js) r all long = absurd r
  all_dealt (f ∷ fs) list [] r all long = absurd r
  all_dealt (f ∷ fs) list (j ∷ js) r all long =
      let at = round list j f r.0 in
      let rest : Reads (at.low ++ f ∷ at.high) js fs = subst (λ (l : List (Feed T)). Reads l js fs) at.whole r.1 in
      let from : Away (length at.low) js = subst (λ (k : ℕ). Away k js) (sym at.place) all.0 in
      let lower = reads_lowered at.low at.high f js fs from rest in
      let apart' = apart_lowered (length at.low) js from all.1 in
      let one = ap length at.whole ∙ length-append at.low (f ∷ at.high) in
      let two = length-append at.low at.high in
      let three = map_length (lowered (length at.low)) js in
      subst (λ (l : List (Feed T)). IsPermutation (items_in (f ∷ fs)) (items_in l)) (sym at.whole)
      (one_dealt f fs at.low at.high
      (all_dealt fs (at.low ++ at.high) (map (lowered (length at.low)) js) lower apart' (omega arith)))
