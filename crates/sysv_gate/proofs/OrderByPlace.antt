-- The turns of an order, place by place.
use Rattle.std.proofs.Common.{◌≡◌, ◌≢◌, ℕ, ◌<◌, ◌≤◌, ◌==◌, cond, true, false, List, [], ◌∷◌, ◌++◌, map, ap, ◌∙◌, refl}
use Rattle.std.proofs.Common.{arith}
use Rattle.std.specs.List.{filter}
use Rattle.std.proofs.lemmas.Bool.Decides.{nat_tests}
use Rattle.std.proofs.lemmas.List.{map-append}
use Rattle.std.proofs.lemmas.List.Elements.{filter-append}
use Rattle.sysv_gate.specs.declared.table.view.Turn.{Turn}
use Rattle.sysv_gate.specs.declared.table.view.Placed.{Placed}
use Rattle.sysv_lists.specs.Prefix.{IsPrefixOf}
use Rattle.sysv_gate.specs.Orders.{turns_at, placed, AreBelow}

same_number : (n : ℕ) → (n == n) ≡ true
same_number n = grind (arith, nat_tests)

other_number : (n k : ℕ) → k ≢ n → (n == k) ≡ false
other_number n k apart = grind (arith, nat_tests)

module _ {O C R : Type 0} where
  pub turns_append : (place : ℕ) (xs ys : List (Placed O C R)) →
      turns_at place (xs ++ ys) ≡ turns_at place xs ++ turns_at place ys
  turns_append place xs ys =
      ap (map (λ (t : Placed O C R). t.turn)) (filter-append (λ (t : Placed O C R). t.place == place) xs ys)
      ∙ map-append (λ (t : Placed O C R). t.turn) (filter (λ (t : Placed O C R). t.place == place) xs)
      (filter (λ (t : Placed O C R). t.place == place) ys)

  pub turns_here : (place : ℕ) (ts : List (Turn O C R)) → turns_at place (placed place ts) ≡ ts
  turns_here place [] = refl
  turns_here place (t ∷ ts) =
      ap (λ b.
      map (λ (t : Placed O C R). t.turn)
      (cond b (record { place = place; turn = t } ∷ filter (λ (t : Placed O C R). t.place == place) (placed place ts))
      (filter (λ (t : Placed O C R). t.place == place) (placed place ts)))) (same_number place)
      ∙ ap (λ l. t ∷ l) (turns_here place ts)

  pub turns_else : (place other : ℕ) → other ≢ place → (ts : List (Turn O C R)) → turns_at other (placed place ts) ≡ []
  turns_else place other apart [] = refl
  turns_else place other apart (t ∷ ts) =
      ap (λ b.
      map (λ (t : Placed O C R). t.turn)
      (cond b (record { place = place; turn = t } ∷ filter (λ (t : Placed O C R). t.place == other) (placed place ts))
      (filter (λ (t : Placed O C R). t.place == other) (placed place ts)))) (other_number place other apart)
      ∙ turns_else place other apart ts

  -- A longer order has no fewer turns at a place.
  pub turns_longer : (place : ℕ) (xs ys : List (Placed O C R)) → IsPrefixOf xs ys →
      IsPrefixOf (turns_at place xs) (turns_at place ys)
  turns_longer place xs ys longer =
      (turns_at place longer.0, ap (turns_at place) longer.1 ∙ turns_append place xs longer.0)

  -- An order has no turns at a place beyond its bound.
  pub turns_none : (count place : ℕ) (order : List (Placed O C R)) → AreBelow count order → count ≤ place →
      turns_at place order ≡ []
  turns_none count place [] below far = refl
  turns_none count place (t ∷ ts) below far =
      let low = below.0 in
      turns_append place (t ∷ []) ts
      ∙ ap (λ l. l ++ turns_at place ts) (turns_else t.place place (λ e. omega arith) (t.turn ∷ []))
      ∙ turns_none count place ts below.1 far

  -- A part of an order has the same bound.
  pub below_front : (count : ℕ) (xs ys : List (Placed O C R)) → AreBelow count (xs ++ ys) → AreBelow count xs
  below_front count [] ys below = tt
  below_front count (x ∷ xs) ys below = (below.0, below_front count xs ys below.1)

  pub below_back : (count : ℕ) (xs ys : List (Placed O C R)) → AreBelow count (xs ++ ys) → AreBelow count ys
  below_back count [] ys below = below
  below_back count (x ∷ xs) ys below = below_back count xs ys below.1

  pub below_more : (count : ℕ) (xs ys : List (Placed O C R)) → AreBelow count xs → AreBelow count ys →
      AreBelow count (xs ++ ys)
  below_more count [] ys one two = two
  below_more count (x ∷ xs) ys one two = (one.0, below_more count xs ys one.1 two)

  pub below_placed : (count place : ℕ) (ts : List (Turn O C R)) → place < count → AreBelow count (placed place ts)
  below_placed count place [] less = tt
  below_placed count place (t ∷ ts) less = (less, below_placed count place ts less)
