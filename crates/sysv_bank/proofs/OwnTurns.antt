-- The turns of an order that were made under the numbers of a pass.
use Rattle.std.proofs.Common.{◌≡◌, ◌≢◌, ℕ, zero, suc, ◌+◌, ◌<◌, ◌≤◌, ◌==◌, cond, false, List, [], ◌∷◌, ◌++◌, length}
use Rattle.std.proofs.Common.{refl, sym, ap, ◌∙◌, subst, arith, lt_of_not-le}
use Rattle.std.specs.List.{filter}
use Rattle.std.proofs.lemmas.Bool.Decides.{nat_tests}
use Rattle.std.proofs.lemmas.List.Elements.{filter-append}
use mathlib.Core.Logic.{dite}
use native.Mathlib.Decide.{ℕ_discrete, dec_le}
use Rattle.std.proofs.lemmas.List.{append-nil}
use Rattle.sysv_lists.specs.Numbers.{times}
use Rattle.sysv_lists.specs.Prefix.{IsPrefixOf}
use Rattle.sysv_lists.proofs.Counting.{times-append, times-one}
use Rattle.sysv_gate.specs.declared.table.view.Turn.{Turn}
use Rattle.sysv_gate.specs.declared.table.view.Placed.{Placed}
use Rattle.sysv_gate.specs.History.{made_at}
use Rattle.sysv_gate.specs.Orders.{turns_at, AreBelow, NoneMadeUnder, AllMadeUnder}
use Rattle.sysv_gate.proofs.MarksAndCounts.{another}
use Rattle.sysv_gate.proofs.OrderByPlace.{turns_append, turns_here, turns_else, below_back}

other_number : (n k : ℕ) → n ≢ k → (n == k) ≡ false
other_number n k apart = grind (arith, nat_tests)

module _ {O C R : Type 0} (numbers : List ℕ) where
  -- ---- in the turns of one place

  made_at-beyond : (ts : List (Turn O C R)) (p : ℕ) → length ts ≤ p → made_at numbers ts p ≡ 0
  made_at-beyond [] p far = refl
  made_at-beyond (t ∷ ts) zero far = absurd (omega arith)
  made_at-beyond (t ∷ ts) (suc p) far = made_at-beyond ts p (omega arith)

  made_at-before : (ts us : List (Turn O C R)) (p : ℕ) → p < length ts →
      made_at numbers (ts ++ us) p ≡ made_at numbers ts p
  made_at-before [] us p less = absurd (omega arith)
  made_at-before (t ∷ ts) us zero less = refl
  made_at-before (t ∷ ts) us (suc p) less = made_at-before ts us p (omega arith)

  made_at-behind : (ts us : List (Turn O C R)) (p j : ℕ) → p ≡ length ts + j →
      made_at numbers (ts ++ us) p ≡ made_at numbers us j
  made_at-behind [] us p j is = let same : p ≡ j = omega arith in ap (made_at numbers us) same
  made_at-behind (t ∷ ts) us zero j is = absurd (omega arith)
  made_at-behind (t ∷ ts) us (suc p) j is = made_at-behind ts us p j (omega arith)

  pub made_at-longer : (ts us : List (Turn O C R)) (p : ℕ) → made_at numbers ts p ≤ made_at numbers (ts ++ us) p
  made_at-longer [] us p = omega arith
  made_at-longer (t ∷ ts) us zero = omega arith
  made_at-longer (t ∷ ts) us (suc p) = made_at-longer ts us p

  -- A pass that had all its turns before has none later.
  none_more : (own : List ℕ) (ts us : List (Turn O C R)) → ((p : ℕ) → made_at numbers (ts ++ us) p ≤ times p own) →
      ((p : ℕ) → times p own ≡ made_at numbers ts p) → (j : ℕ) → made_at numbers us j ≡ 0
  none_more own ts us most is j =
      let p : ℕ = length ts + j in
      let a = most p in
      let b = is p in
      let c = made_at-behind ts us p j refl in
      let d = made_at-beyond ts p (omega arith) in
      omega arith

  -- Before a new last turn, the pass has the same turns as before.
  pub before_last : (own : List ℕ) (ts : List (Turn O C R)) (t : Turn O C R) (k : ℕ) → k ≡ length ts →
      ((p : ℕ) → times p (own ++ k ∷ []) ≡ made_at numbers (ts ++ t ∷ []) p) → (p : ℕ) →
      made_at numbers ts p ≤ times p own
  before_last own ts t k last is p =
      dite (dec_le (length ts) p)
      (λ far. let none = made_at-beyond ts p far in omega arith)
      (λ near.
      let less : p < length ts = lt_of_not-le near in
      let a = is p in
      let b = times-append p own (k ∷ []) in
      let c : times p (k ∷ []) ≡ 0 = another k p (times-one p k) (λ e. omega arith) in
      let d = made_at-before ts (t ∷ []) p less in
      omega arith)

  -- ---- in an order

  -- If none was made at any place, none was made at all.
  pub none_made : (count : ℕ) (order : List (Placed O C R)) → AreBelow count order →
      ((q j : ℕ) → q < count → made_at numbers (turns_at q order) j ≡ 0) → NoneMadeUnder numbers order
  none_made count [] below each = tt
  none_made count (t ∷ ts) below each =
      let here : turns_at t.place (t ∷ ts) ≡ t.turn ∷ turns_at t.place ts = turns_append t.place (t ∷ []) ts
      ∙ ap (λ (l : List (Turn O C R)). l ++ turns_at t.place ts) (turns_here t.place (t.turn ∷ [])) in (
        ap (λ (l : List (Turn O C R)). made_at numbers l 0) (sym here) ∙ each t.place 0 below.0,
        none_made count ts below.1
            (λ q j less.
            dite (ℕ_discrete q t.place)
            (λ e.
            subst (λ (k : ℕ). made_at numbers (turns_at k ts) j ≡ 0) (sym e)
            (ap (λ (l : List (Turn O C R)). made_at numbers l (suc j)) (sym here) ∙ each t.place (suc j) below.0))
            (λ ne.
            ap (λ (l : List (Turn O C R)). made_at numbers l j)
            (sym (turns_append q (t ∷ []) ts
            ∙ ap (λ (l : List (Turn O C R)). l ++ turns_at q ts) (turns_else t.place q ne (t.turn ∷ []))))
            ∙ each q j less)),
      )

  -- If all that were made had been seen, the order goes on without them.
  pub goes_without : (count : ℕ) (own : ℕ → List ℕ) (xs ys : List (Placed O C R)) (longer : IsPrefixOf xs ys)
      → AreBelow count ys
      → ((q p : ℕ) → q < count → times p (own q) ≡ made_at numbers (turns_at q xs) p)
      → ((q p : ℕ) → q < count → made_at numbers (turns_at q ys) p ≤ times p (own q)) → NoneMadeUnder numbers longer.0
  goes_without count own xs ys longer below is most =
      none_made count longer.0 (below_back count xs longer.0 (subst (AreBelow count) longer.1 below))
      (λ q j less.
      none_more (own q) (turns_at q xs) (turns_at q longer.0) (λ p.
      subst (λ (l : List (Turn O C R)). made_at numbers l p ≤ times p (own q))
      (ap (turns_at q) longer.1 ∙ turns_append q xs longer.0) (most q p less)) (λ p. is q p less) j)

  -- If each turn at each place was made under the numbers, all were.
  pub all_made : (count : ℕ) (order : List (Placed O C R)) → AreBelow count order →
      ((q j : ℕ) → q < count → j < length (turns_at q order) → 1 ≤ made_at numbers (turns_at q order) j) →
      AllMadeUnder numbers order
  all_made count [] below each = tt
  all_made count (t ∷ ts) below each =
      let here : turns_at t.place (t ∷ ts) ≡ t.turn ∷ turns_at t.place ts = turns_append t.place (t ∷ []) ts
      ∙ ap (λ (l : List (Turn O C R)). l ++ turns_at t.place ts) (turns_here t.place (t.turn ∷ [])) in
      let long : length (turns_at t.place (t ∷ ts)) ≡ suc (length (turns_at t.place ts)) = ap length here in (
        subst (λ (l : List (Turn O C R)). 1 ≤ made_at numbers l 0) here (each t.place 0 below.0 (omega arith)),
        all_made count ts below.1
            (λ q j less near.
            dite (ℕ_discrete q t.place)
            (λ e.
            let near' : j < length (turns_at t.place ts) = subst (λ (k : ℕ). j < length (turns_at k ts)) e near in
            subst (λ (k : ℕ). 1 ≤ made_at numbers (turns_at k ts) j) (sym e)
            (subst (λ (l : List (Turn O C R)). 1 ≤ made_at numbers l (suc j)) here
            (each t.place (suc j) below.0 (omega arith))))
            (λ ne.
            let same : turns_at q (t ∷ ts) ≡ turns_at q ts = turns_append q (t ∷ []) ts
            ∙ ap (λ (l : List (Turn O C R)). l ++ turns_at q ts) (turns_else t.place q ne (t.turn ∷ [])) in
            subst (λ (l : List (Turn O C R)). 1 ≤ made_at numbers l j) same
            (each q j less (subst (λ (l : List (Turn O C R)). j < length l) (sym same) near)))),
      )

  all_back : (xs ys : List (Placed O C R)) → AllMadeUnder numbers (xs ++ ys) → AllMadeUnder numbers ys
  all_back [] ys all = all
  all_back (x ∷ xs) ys all = all_back xs ys all.1

  -- An order does not grow if each of its turns was made under the numbers, and no later turn was.
  pub ends_there : (xs ys : List (Placed O C R)) (longer : IsPrefixOf xs ys) → NoneMadeUnder numbers longer.0 →
      AllMadeUnder numbers ys → ys ≡ xs
  ends_there xs ys longer none all = longer.1
      ∙ ap (λ (l : List (Placed O C R)). xs ++ l)
      (nothing longer.0 none (all_back xs longer.0 (subst (AllMadeUnder numbers) longer.1 all))) ∙ append-nil xs
    where
      nothing : (zs : List (Placed O C R)) → NoneMadeUnder numbers zs → AllMadeUnder numbers zs → zs ≡ []
      nothing [] none' all' = refl
      nothing (z ∷ zs) none' all' = let a = none'.0 in let b = all'.0 in absurd (omega arith)

  -- The turns under each of the numbers are the same after an order has grown without them.
  pub same_under : (x : ℕ) → 1 ≤ times x numbers → (xs ys : List (Placed O C R)) (longer : IsPrefixOf xs ys)
      → NoneMadeUnder numbers longer.0
      → filter (λ (t : Placed O C R). t.turn.by == x) ys ≡ filter (λ (t : Placed O C R). t.turn.by == x) xs
  same_under x some_number xs ys longer none =
      ap (filter (λ (t : Placed O C R). t.turn.by == x)) longer.1
      ∙ filter-append (λ (t : Placed O C R). t.turn.by == x) xs longer.0
      ∙ ap (λ (l : List (Placed O C R)). filter (λ (t : Placed O C R). t.turn.by == x) xs ++ l) (bare longer.0 none)
      ∙ append-nil (filter (λ (t : Placed O C R). t.turn.by == x) xs)
    where
      bare : (zs : List (Placed O C R)) → NoneMadeUnder numbers zs →
          filter (λ (t : Placed O C R). t.turn.by == x) zs ≡ []
      bare [] none' = refl
      bare (z ∷ zs) none' =
          let theirs = none'.0 in
          let apart : z.turn.by ≢ x = (λ e.
          let same : times z.turn.by numbers ≡ times x numbers = ap (λ (n : ℕ). times n numbers) e in
          absurd (omega arith)) in
          let rest : List (Placed O C R) = filter (λ (t : Placed O C R). t.turn.by == x) zs in
          ap (λ b. cond b (z ∷ rest) rest) (other_number z.turn.by x apart) ∙ bare zs none'.1
