-- What is read of one place of a table that was closed. This project's profile.
use Rattle.std.specs.Prelude.{◌≡◌, ◌≢◌, ℕ, ◌+◌, ◌-◌, ◌*◌, List, None}
use mathlib.Core.Option.{some}
use lib.ListN.{get_elem?}
use Rattle.sysv_gate.specs.declared.gate.closing.Closing.{Closing}
use Rattle.sysv_gate.specs.Rule.{Spot}
use Rattle.sysv_gate.specs.Closings.{held_object}

-- The words and the slot of the place show which ticket was served, which was next, and which
-- object is there. If every drawn ticket was served, the object is returned in `object` and nothing
-- in `rest`. If not, `object` is `None`.
pub record IsReadAt {O C R : Type 0} (first : ℕ) (words : List ℕ) (slots : List (Spot O C R)) (place : ℕ)
    (c : Closing O) : Type 0 where
  pub served : ℕ
  pub next : ℕ
  pub spot : Spot O C R
  pub at_served : get_elem? words (80 * place + 16) ≡ some served
  pub at_next : get_elem? words (80 * place + 32) ≡ some next
  pub at_spot : get_elem? slots place ≡ some spot
  pub turns : c.turns ≡ served - first
  pub ticket : c.next_ticket ≡ next
  pub whole : served ≡ next → (c.object ≡ held_object spot) × (c.rest ≡ None)
  pub due : served ≢ next → c.object ≡ None
