-- A step at a place with one slot, with the facts before and after it stated apart.
use Rattle.std.proofs.Common.{◌≡◌, ℕ, ◌<◌, length, get_or}
use mathlib.Core.Option.{some}
use lib.ListN.{get_elem?}
use Rattle.atomic_table.specs.Table.{State, Me, Act, keeps, Valid, stepped, carried_after, Allows}
use Rattle.atomic_table.specs.Table as table

-- What the step does to the slot.
pub data Touch (S : Type 0) : Type 0 where
  leaves : Touch S
  takes : S → Touch S
  gives : Touch S

-- The same as an act at the slot with this number.
abbrev pub act_at : {S : Type 0} → ℕ → Touch S → Act S
act_at p leaves = keeps
act_at p (takes y) = table.takes p y
act_at p gives = table.gives

module _ {S V : Type 0} where
  -- Like `Allows`, but with one fact before the step and another after it.
  abbrev pub AllowsTo : (State S V → Type 0) → (State S V → Type 0) → ℕ → ℕ → Me S V → ℕ → (ℕ → ℕ) →
      (ℕ → Me S V → Type 0) → Type 0
  AllowsTo before after slots id me i f then = (s : State S V) → before s → length s.homes ≡ slots
      → get_elem? s.views id ≡ some me.0 → get_or s.words i 0 < 18446744073709551616
      → (w : V) × (a : Touch S) × Valid s.homes me.1 (act_at 0 a)
      × after (stepped s i (f (get_or s.words i 0)) id me.1 w (act_at 0 a))
      × then (get_or s.words i 0) (w, carried_after me.1 (act_at 0 a))
