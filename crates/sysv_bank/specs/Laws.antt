-- A consequence of the rule of a bank for all its passes together. This project's profile.
use Rattle.std.specs.Prelude.{◌≡◌, ◌⊎◌, ℕ, List}
use mathlib.Core.Option.{some}
use lib.ListN.{get_elem?}
use Rattle.atomic_table.specs.Table.{State}
use Rattle.sysv_lists.specs.Prefix.{IsPrefixOf}
use Rattle.sysv_gate.specs.declared.table.view.Sight.{Sight}
use Rattle.sysv_gate.specs.Rule.{Spot}
use Rattle.sysv_gate.specs.Tables.{InOrder}

-- Of the orders that two passes have seen, one is a prefix of the other.
abbrev pub OneOrder : {O C R : Type 0} → (O → C → R → O → Type 0) → (O → ℕ × ℕ) → Type 0
OneOrder {O} {C} {R} moves counted =
    (openings : List O) (first : ℕ) (s : State (Spot O C R) (Sight O C R)) → InOrder moves counted openings first s
    → (i k : ℕ) (v w : Sight O C R) → get_elem? s.views i ≡ some v → get_elem? s.views k ≡ some w
    → IsPrefixOf w.seen v.seen ⊎ IsPrefixOf v.seen w.seen
