-- Consequences of the rule of a gate for all seats together. They hold at each place of a table.
-- This project's profile.
use Rattle.std.specs.Prelude.{◌≡◌, ◌⊎◌, ℕ, ◌+◌, ◌^◌, ◌≤◌, List, length, slice_index, true, false}
use mathlib.Core.Option.{some}
use lib.ListN.{get_elem?}
use Rattle.sysv_gate.specs.declared.table.view.View.{View}
use Rattle.sysv_gate.specs.declared.table.view.Turn.{Turn}
use Rattle.sysv_lists.specs.Numbers.{times}
use Rattle.atomic_table.specs.Table.{State}
use Rattle.sysv_gate.specs.declared.count.Count.{Count}
use Rattle.sysv_lists.specs.Prefix.{IsPrefixOf}
use Rattle.sysv_gate.specs.History.{IsLegal, after_all}
use Rattle.sysv_gate.specs.Counts.{word_of, of_count}
use Rattle.sysv_gate.specs.Rule.{Spot, Homes, IsKept, Gated}

module _ {O C R : Type 0} (moves : O → C → R → O → Type 0) where
  -- A fact about any two seats of a gate, in every state.
  abbrev pub OfTwoSeats : (View O C R → View O C R → Type 0) → Type 0
  OfTwoSeats fact =
      (opening : O) (first : ℕ) (log : List (Turn O C R)) (drawn : ℕ) (homes : Homes O C R) (views : List (View O C R))
      → IsKept moves opening first log drawn homes views
      → (i k : ℕ) (v w : View O C R) → ¬ (k ≡ i) → get_elem? views i ≡ some v → get_elem? views k ≡ some w → fact v w

  -- If one seat is in its turn, another is not.
  abbrev pub OneTurnAtATime : Type 0
  OneTurnAtATime = OfTwoSeats (λ v w. v.in_turn ≡ true → w.in_turn ≡ false)

  -- No turn of the history is the own turn of two seats.
  abbrev pub NoTurnOfTwoSeats : Type 0
  NoTurnOfTwoSeats = OfTwoSeats (λ v w. (place : ℕ) → times place v.own + times place w.own ≤ 1)

  -- Of the histories that two seats have seen, one is a prefix of the other.
  abbrev pub OneHistory : Type 0
  OneHistory = OfTwoSeats (λ v w. IsPrefixOf w.seen v.seen ⊎ IsPrefixOf v.seen w.seen)

  -- A seat is marked as worn only if the tickets have reached 2^62.
  abbrev pub MarkedOnlyWhenWorn : Type 0
  MarkedOnlyWhenWorn =
      (opening : O) (first : ℕ) (log : List (Turn O C R)) (drawn : ℕ) (homes : Homes O C R) (views : List (View O C R))
      → IsKept moves opening first log drawn homes views
      → (i : ℕ) (v : View O C R) → get_elem? views i ≡ some v → v.worn ≡ true → drawn ≡ 2 ^ 62

  -- If no seat is in its turn, there is a legal history of all turns, and the words of the two
  -- counts have the counts of the object after it.
  abbrev pub CountsOutsideATurn : (O → ℕ × ℕ) → Type 0
  CountsOutsideATurn counted =
      (opening : O) (first : ℕ) (s : State (Spot O C R) (View O C R)) → Gated moves counted opening first s
      → ((i : ℕ) (v : View O C R) → get_elem? s.views i ≡ some v → v.in_turn ≡ false)
      → (log : List (Turn O C R)) × IsLegal moves opening log × (slice_index s.words 16 ≡ first + length log)
      × ((count : Count) → slice_index s.words (word_of count) ≡ of_count count (counted (after_all opening log)))
