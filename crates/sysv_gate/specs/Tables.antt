-- The rule of a table with one place, as a gate has it, or several places. Place p has the words
-- from 80 p on and slot p. A pass has a view of each place, and has seen a prefix of the one order
-- of all turns. At each place the rule of a gate holds for the turns of the order that were made
-- there. This project's profile.
use Rattle.std.specs.Prelude.{◌≡◌, ◌⊎◌, ℕ, ◌+◌, ◌*◌, ◌^◌, ◌<◌, ◌≤◌, List, [], ◌∷◌, map, take, drop, length}
use Rattle.std.specs.Prelude.{slice_index_or, sum_by, Some}
use mathlib.Core.Option.{none, some}
use lib.ListN.{get_elem?}
use Rattle.atomic_table.specs.Table.{State, Me}
use Rattle.sysv_gate.specs.declared.table.view.View.{View}
use Rattle.sysv_gate.specs.declared.table.view.Placed.{Placed}
use Rattle.sysv_gate.specs.declared.table.view.Sight.{Sight}
use Rattle.sysv_gate.specs.declared.count.Count.{Count}
use Rattle.sysv_lists.specs.Numbers.{times}
use Rattle.sysv_lists.specs.Prefix.{IsPrefixOf}
use Rattle.sysv_gate.specs.History.{made_at, after_all, IsLegal}
use Rattle.sysv_gate.specs.Counts.{of_count}
use Rattle.sysv_gate.specs.Orders.{turns_at, AreBelow}
use Rattle.sysv_gate.specs.Shares.{AreWithin, parts}
use Rattle.sysv_gate.specs.Rule.{Spot, GatedBy, start}
use Rattle.sysv_gate.specs.Steps.{Mine, spent}

-- The words of a place.
abbrev pub block : ℕ → List ℕ → List ℕ
block place words = take 80 (drop (80 * place) words)

module _ {O C R : Type 0} where
  -- What the pass knows of the place.
  abbrev pub view_at : ℕ → Sight O C R → View O C R
  view_at place sight = slice_index_or sight.views place spent

  -- The state that a gate with only this place would have.
  abbrev pub state_at : ℕ → State (Spot O C R) (Sight O C R) → State (Spot O C R) (View O C R)
  state_at place s = record {
    words = block place s.words;
    homes = slice_index_or s.homes place none ∷ [];
    views = map (view_at place) s.views;
  }

  -- All turns in the order that the pass has seen are at its places. At each place, the pass's own
  -- turns are exactly those of the order that were made under its numbers.
  pub record OwnsInOrder (sight : Sight O C R) : Type 0 where
    pub below : AreBelow (length sight.views) sight.seen
    pub own : (place p : ℕ) → place < length sight.views →
        times p (view_at place sight).own ≡ made_at (view_at place sight).numbers (turns_at place sight.seen) p

  -- At each of the pass's places, the turns of the order that the pass has seen are legal. Of each
  -- count there, the pass has read at most one more than the object has after these turns.
  pub record ReadsInOrder (moves : O → C → R → O → Type 0) (counted : O → ℕ × ℕ) (sight : Sight O C R) : Type 0 where
    pub legal : (place : ℕ) (opening : O) → place < length sight.views →
        (view_at place sight).opening ≡ Some opening → IsLegal moves opening (turns_at place sight.seen)
    pub reads : (place : ℕ) (opening : O) → place < length sight.views →
        (view_at place sight).opening ≡ Some opening → (count : Count) →
        of_count count (view_at place sight).read
        ≤ of_count count (counted (after_all opening (turns_at place sight.seen))) + 1

  -- A pass has a view of each place, or it was joined into another and has no view. A pass without
  -- a share of the table has no view.
  pub record IsFull (openings : List O) (v : Sight O C R) : Type 0 where
    pub views : (v.views ≡ []) ⊎ (length v.views ≡ length openings)
    pub shareless : v.shares ≡ [] → v.views ≡ []

  -- The shares of all passes together are the whole table.
  abbrev pub AreTheWhole : List (Sight O C R) → Type 0
  AreTheWhole sights =
      (depth : ℕ) → ((id : ℕ) (v : Sight O C R) → get_elem? sights id ≡ some v → AreWithin depth v.shares) →
      sum_by (λ v. parts depth v.shares) sights ≡ 2 ^ depth

  -- There is one order of all turns. Each pass has seen a prefix of it, and at each place the rule
  -- of a gate holds for the turns that were made there. The shares of all passes together are the
  -- whole table.
  pub record Kept (moves : O → C → R → O → Type 0) (counted : O → ℕ × ℕ) (openings : List O) (first : ℕ)
      (order : List (Placed O C R)) (s : State (Spot O C R) (Sight O C R)) : Type 0 where
    pub words : length s.words ≡ 80 * length openings
    pub homes : length s.homes ≡ length openings
    pub below : AreBelow (length openings) order
    pub each : (place : ℕ) (o : O) → get_elem? openings place ≡ some o →
        GatedBy moves counted o first (turns_at place order) (state_at place s)
    pub seen : (id : ℕ) (v : Sight O C R) → get_elem? s.views id ≡ some v →
        IsPrefixOf v.seen order × IsPrefixOf v.also order
    pub full : (id : ℕ) (v : Sight O C R) → get_elem? s.views id ≡ some v → IsFull openings v
    pub shared : AreTheWhole s.views

  -- The rule of the table: there is such an order.
  abbrev pub InOrder : (O → C → R → O → Type 0) → (O → ℕ × ℕ) → List O → ℕ → State (Spot O C R) (Sight O C R) → Type 0
  InOrder moves counted openings first s = (order : List (Placed O C R)) × Kept moves counted openings first order s

  -- What the first pass knows.
  abbrev pub outset : List O → ℕ → Sight O C R
  outset openings first = record { views = map (λ o. start o first) openings; seen = []; also = []; shares = 0 ∷ [] }

module _ (O C R : Type 0) where
  -- What a pass knows, and the slots that it holds.
  abbrev pub Passing : Type 0
  Passing = Me (Spot O C R) (Sight O C R)

module _ {O C R : Type 0} where
  -- What the pass has at the place, as if this were the only one.
  abbrev pub me_at : ℕ → Passing O C R → Mine O C R
  me_at place m = (view_at place m.0, map (λ (x : ℕ × Spot O C R). (0, x.1)) m.1)

  -- The pass holds no slot except that of the place.
  abbrev pub Carries : ℕ → Passing O C R → Type 0
  Carries place m = m.1 ≡ map (λ (x : ℕ × Spot O C R). (place, x.1)) m.1
