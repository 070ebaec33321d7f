-- What contracts state of a bank and its seats, place by place. Banks are this project's profile,
-- and no part of POSIX.1-2017.
use Rattle.std.specs.Prelude.{◌≡◌, ℕ, ◌^◌, ◌<◌, ◌≤◌, List, [], ◌∷◌, map, slice_set, Vec}
use Rattle.std.specs.List.{All}
use mathlib.Core.Option.{some}
use lib.ListN.{get_elem?}
use Rattle.sysv_gate.specs.History.{IsAccepted}
use Rattle.sysv_gate.specs.Gates.{Gateway, Holding, KnowsItsOwn}
use Rattle.sysv_gate.specs.declared.refusals.OpenRefused.{OpenRefused}
use Rattle.sysv_gate.specs.declared.refusals.OpenRefused.TheVariants.{NoMemory, BadStart}

-- The two lists have the same length, and the fact holds of the two elements at each place.
abbrev pub Each2 : {A B : Type 0} → (A → B → Type 0) → List A → List B → Type 0
Each2 fact [] [] = Unit {0}
Each2 fact [] (y ∷ ys) = ⊥
Each2 fact (x ∷ xs) [] = ⊥
Each2 fact (x ∷ xs) (y ∷ ys) = fact x y × Each2 fact xs ys

-- The same for three lists.
abbrev pub Each3 : {A B C : Type 0} → (A → B → C → Type 0) → List A → List B → List C → Type 0
Each3 fact [] [] [] = Unit {0}
Each3 fact [] [] (z ∷ zs) = ⊥
Each3 fact [] (y ∷ ys) zs = ⊥
Each3 fact (x ∷ xs) [] zs = ⊥
Each3 fact (x ∷ xs) (y ∷ ys) [] = ⊥
Each3 fact (x ∷ xs) (y ∷ ys) (z ∷ zs) = fact x y z × Each3 fact xs ys zs

-- One element has changed as `how` allows, and all others are unchanged.
pub record ChangesAt {A : Type 0} (place : ℕ) (before after : List A) (how : A → A → Type 0) : Type 0 where
  pub was : A
  pub is : A
  pub at : get_elem? before place ≡ some was
  pub others : after ≡ slice_set before place is
  pub change : how was is

module _ {O C R : Type 0} where
  -- The gate of each seat.
  abbrev pub gates_of : List (Holding O C R) → List (Gateway O)
  gates_of seats = map (λ h. h.gate) seats

  -- Each of the seats has seen a legal history, and knows exactly its own turns in it.
  abbrev pub EachKnowsItsOwn : (O → C → R → O → Type 0) → List (Holding O C R) → Type 0
  EachKnowsItsOwn moves seats = (place : ℕ) (h : Holding O C R) → get_elem? seats place ≡ some h → KnowsItsOwn moves h

-- Every object to which legal turns lead at the place accepts the call.
abbrev pub AcceptsAt : {O C R : Type 0} → (O → C → R → O → Type 0) → (O → C → Type 0) → ℕ → List (Gateway O) → C →
    Type 0
AcceptsAt {O} moves accepts place gates call =
    (gate : Gateway O) → get_elem? gates place ≡ some gate → IsAccepted moves accepts gate.opening call

module _ {O : Type 0} where
  -- The gates were opened with these objects, in order, and with this first ticket.
  abbrev pub AreOpened : List O → ℕ → List (Gateway O) → Type 0
  AreOpened objects first gates = (map (λ g. g.opening) gates ≡ objects) × All (λ g. g.first ≡ first) gates

  -- The objects are handed back. The refusal is `BadStart` only if the first ticket is above 2^62,
  -- and `NoMemory` only if it is not.
  abbrev pub GivesBack : {Z : Type 0} → ℕ → List O → OpenRefused (Vec O Z) → Type 0
  GivesBack first objects (NoMemory back) = (back.items ≡ objects) × (first ≤ 2 ^ 62)
  GivesBack first objects (BadStart back) = (back.items ≡ objects) × (2 ^ 62 < first)
