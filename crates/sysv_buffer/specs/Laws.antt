-- A consequence of the rule of a `OneBuffer` for its two ends together. This project's profile.
use Rattle.std.specs.Prelude.{◌≡◌, ℕ, ◌≤◌, List, ◌++◌, length, take, Option}
use mathlib.Core.Option.{some}
use lib.ListN.{get_elem?}
use Rattle.atomic_table.specs.Table.{State}
use Rattle.sysv_buffer.specs.declared.view.View.{View}
use Rattle.sysv_buffer.specs.declared.view.Role.TheVariants.{Producer, Consumer}
use Rattle.sysv_buffer.specs.Ring.{Kept}

-- In every state that keeps the rule, the items taken are a prefix of the items put, shorter by at
-- most the number of cells.
abbrev pub TakenIsABeginning : Type 0 → Type 0
TakenIsABeginning T =
    (s : State (Option T) (View T)) → Kept s → (i k : ℕ) (p c : View T) → get_elem? s.views i ≡ some p
    → p.role ≡ Producer → get_elem? s.views k ≡ some c → c.role ≡ Consumer
    → (rest : List T) × (p.put ≡ take c.taken c.put ++ rest) × (length rest ≤ length s.homes)
