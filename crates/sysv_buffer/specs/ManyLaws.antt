-- Consequences of the rule of a `ManyBuffer` for all its seats together. This project's profile.
use Rattle.std.specs.Prelude.{◌≡◌, ℕ, ◌+◌, ◌<◌, ◌≤◌, List, length, Option}
use mathlib.Core.Option.{some}
use lib.ListN.{get_elem?}
use Rattle.atomic_table.specs.Table.{State}
use Rattle.sysv_buffer.specs.declared.many_view.Sight.{Sight}
use Rattle.sysv_lists.specs.Numbers.{times}
use Rattle.sysv_buffer.specs.ManyRing.{Crowded}
use Rattle.sysv_lists.specs.Prefix.{IsPrefixOf}

-- There is one list of items put. The items taken are a prefix of it, shorter by at most the number
-- of cells. Each seat has seen a prefix of the list, the places of the seat's own items are in the
-- list, and the places that it took from are in the prefix that was taken.
abbrev pub OneList : Type 0 → Type 0
OneList T =
    (s : State (Option T) (Sight T)) → Crowded s
    → (put : List T) × (taken : ℕ) × (taken ≤ length put) × (length put ≤ taken + length s.homes)
    × ((i : ℕ) (v : Sight T) → get_elem? s.views i ≡ some v →
    IsPrefixOf v.seen put × ((k : ℕ) → 1 ≤ times k v.puts → k < length put)
    × ((k : ℕ) → 1 ≤ times k v.takes → k < taken))

-- No place is put into twice, and none is taken from twice, by one seat or by two.
abbrev pub NoPlaceTwice : Type 0 → Type 0
NoPlaceTwice T =
    (s : State (Option T) (Sight T)) → Crowded s
    → ((i : ℕ) (v : Sight T) → get_elem? s.views i ≡ some v → (place : ℕ)
    → (times place v.puts ≤ 1) × (times place v.takes ≤ 1))
    × ((i k : ℕ) (v w : Sight T) → ¬ (k ≡ i) → get_elem? s.views i ≡ some v → get_elem? s.views k ≡ some w →
    (place : ℕ) → (times place v.puts + times place w.puts ≤ 1) × (times place v.takes + times place w.takes ≤ 1))
