-- The one order of the turns at several places. This project's profile.
use Rattle.std.specs.Prelude.{◌≡◌, ℕ, ◌<◌, ◌≤◌, ◌==◌, List, [], ◌∷◌, map, filter}
use Rattle.sysv_gate.specs.declared.table.view.Turn.{Turn}
use Rattle.sysv_gate.specs.declared.table.view.Placed.{Placed}
use Rattle.sysv_lists.specs.Numbers.{times}
use Rattle.sysv_lists.specs.Prefix.{IsPrefixOf}

module _ {O C R : Type 0} where
  -- The turns of the order at the place.
  abbrev pub turns_at : ℕ → List (Placed O C R) → List (Turn O C R)
  turns_at place order = map (λ (t : Placed O C R). t.turn) (filter (λ (t : Placed O C R). t.place == place) order)

  -- The turns, each with this place.
  abbrev pub placed : ℕ → List (Turn O C R) → List (Placed O C R)
  placed place turns = map (λ t. record { place = place; turn = t }) turns

  -- The place of each turn is below the number.
  abbrev pub AreBelow : ℕ → List (Placed O C R) → Type 0
  AreBelow count [] = Unit {0}
  AreBelow count (t ∷ ts) = (t.place < count) × AreBelow count ts

  -- None of the turns was made under one of the numbers.
  abbrev pub NoneMadeUnder : List ℕ → List (Placed O C R) → Type 0
  NoneMadeUnder numbers [] = Unit {0}
  NoneMadeUnder numbers (t ∷ ts) = (times t.turn.by numbers ≡ 0) × NoneMadeUnder numbers ts

  -- Each of the turns was made under one of the numbers.
  abbrev pub AllMadeUnder : List ℕ → List (Placed O C R) → Type 0
  AllMadeUnder numbers [] = Unit {0}
  AllMadeUnder numbers (t ∷ ts) = (1 ≤ times t.turn.by numbers) × AllMadeUnder numbers ts

  -- One order continues another, with turns none of which was made under one of the numbers.
  abbrev pub GoesOnWithout : List ℕ → List (Placed O C R) → List (Placed O C R) → Type 0
  GoesOnWithout numbers before after = (longer : IsPrefixOf before after) × NoneMadeUnder numbers longer.0
