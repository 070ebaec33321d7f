-- What a bank returns when it is closed. This project's profile.
use Rattle.std.specs.Prelude.{◌≡◌, ℕ, List, length}
use Rattle.std.specs.List.{AllByRecursion}
use mathlib.Core.Option.{some}
use lib.ListN.{get_elem?}
use Rattle.sysv_lists.specs.Numbers.{NoneTwice}
use Rattle.sysv_lists.specs.Prefix.{IsPrefixOf}
use Rattle.sysv_gate.specs.declared.gate.closing.Closing.{Closing}
use Rattle.sysv_gate.specs.declared.table.view.Placed.{Placed}
use Rattle.sysv_gate.specs.Gates.{Holding}
use Rattle.sysv_gate.specs.Closings.{IsBack, Closes}
use Rattle.sysv_gate.specs.Shares.{IsWhole}
use Rattle.sysv_gate.specs.Orders.{turns_at, AreBelow, NoneMadeUnder, AllMadeUnder}
use Rattle.sysv_bank.specs.Passes.{Pass}

-- There is one order of all turns at the places. It begins with all that the pass had seen of it,
-- goes on without a turn of the pass, and its part at each place is the history in `Closes` there.
-- No number of the pass occurs twice. If the pass has the whole bank as its share, so that no other
-- pass is left, it had seen the whole order, each turn was made under one of its numbers, and each
-- place has returned its object.
pub record ClosesInOrder {O C R : Type 0} (moves : O → C → R → O → Type 0) (pass : Pass O C R)
    (closings : List (Closing O)) : Type 0 where
  pub order : List (Placed O C R)
  pub longer : IsPrefixOf pass.order order
  pub strangers : NoneMadeUnder pass.numbers longer.0
  pub apart : NoneTwice pass.numbers
  pub home : IsWhole pass.shares →
      (order ≡ pass.order) × AllMadeUnder pass.numbers order × AllByRecursion IsBack closings
  pub below : AreBelow (length pass.seats) order
  pub each : (place : ℕ) (h : Holding O C R) (c : Closing O) → get_elem? pass.seats place ≡ some h →
      get_elem? closings place ≡ some c → (closes : Closes moves h c) × (closes.log ≡ turns_at place order)
