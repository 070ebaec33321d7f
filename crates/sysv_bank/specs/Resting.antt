-- How a bank and its seats are stored between two calls. This project's profile.
use Rattle.std.specs.Prelude.{◌≡◌, ℕ, ◌*◌, ◌^◌, ◌<◌, ◌≤◌, List, [], length, map, vec_capacity}
use mathlib.Core.Option.{some}
use lib.ListN.{get_elem?}
use Rattle.atomic_table.specs.Seated.{TableId}
use Rattle.atomic_table.specs.declared.shared.Seat.{Seat}
use Rattle.sysv_gate.specs.declared.table.view.View.{View}
use Rattle.sysv_gate.specs.declared.table.view.Sight.{Sight}
use Rattle.sysv_gate.specs.Rule.{Spot}
use Rattle.sysv_gate.specs.Gates.{Gateway}
use Rattle.sysv_gate.specs.Held.{RestsThere}
use Rattle.sysv_gate.specs.Tables.{view_at, OwnsInOrder}
use Rattle.sysv_gate.specs.Laying.{AreLocksUpTo}
use Rattle.sysv_bank.specs.declared.seat.BankSeat.TheInside.{Inside}
use Rattle.sysv_bank.specs.declared.bank.Bank.TheInside.{Inside as BankInside}
use Rattle.sysv_bank.specs.Passes.{Pass, holdings}

module _ {O C R : Type 0} where
  -- What contracts see of a stored seat.
  abbrev pub pass_of : Inside O C R → Pass O C R
  pass_of s = record {
    seats = holdings s.token.table_id s.key.value.first s.key.value.openings.value.items s.token.me.0.views;
    order = s.token.me.0.seen;
    number = (view_at 0 s.token.me.0).number;
    numbers = (view_at 0 s.token.me.0).numbers;
    shares = s.token.me.0.shares;
  }

  -- The two views have the same number and the same numbers.
  abbrev pub IsNamedAs : View O C R → View O C R → Type 0
  IsNamedAs v w = (w.number ≡ v.number) × (w.numbers ≡ v.numbers)

  -- The pass holds no slot, each view is at rest, and what was seen at each place is in the order
  -- that was seen. The numbers are the same at each place, and the pass's own turns are exactly
  -- those of the order that were made under them.
  pub record Rests (moves : O → C → R → O → Type 0) (s : Inside O C R) : Type 0 where
    pub no_slot : s.token.me.1 ≡ []
    pub nothing_else : s.token.me.0.also ≡ []
    pub many : length s.token.me.0.views ≡ length s.key.value.openings.value.items
    pub each : (place : ℕ) (o : O) → get_elem? s.key.value.openings.value.items place ≡ some o
        → RestsThere moves place o s.key.value.first s.token.me.0
    pub named : (place : ℕ) → place < length s.token.me.0.views →
        IsNamedAs (view_at 0 s.token.me.0) (view_at place s.token.me.0)
    pub owns : OwnsInOrder s.token.me.0

  -- The token is that of a seat of which contracts see this.
  abbrev pub IsTokenOf : (O → C → R → O → Type 0) → Pass O C R → Seat (Spot O C R) (Sight O C R) → Type 0
  IsTokenOf moves pass token = (s : Inside O C R) × (pass_of s ≡ pass) × Rests moves s × (s.token ≡ token)

-- What contracts see of a bank: the gate of each place.
abbrev pub gateways : {O : Type 0} → TableId → ℕ → List O → List (Gateway O)
gateways table first openings = map (λ o. record { table = table; opening = o; first = first }) openings

-- The table has a place for each object, each place has its lock, and there is space for the result
-- of `close`.
pub record IsOpen {O C R : Type 0} (counted : O → ℕ × ℕ) (b : BankInside O C R) : Type 0 where
  pub key : b.table.shared.key ≡ b.key
  pub words : b.table.shared.table_id.words ≡ 80 * length b.key.openings.value.items
  pub slots : b.table.shared.table_id.slots ≡ length b.key.openings.value.items
  pub some_place : 1 ≤ length b.key.openings.value.items
  pub few : 80 * length b.key.openings.value.items ≤ 2 ^ 60
  pub locks : AreLocksUpTo b.key.openings.value.items (length b.key.openings.value.items) b.locks.items
  pub none_yet : b.closings.items ≡ []
  pub room : length b.key.openings.value.items ≤ vec_capacity b.closings
