-- How a seat is stored between two calls. This project's profile.
use Rattle.std.specs.Prelude.{◌≡◌, ℕ, ◌≤◌, false, [], length, Some}
use Rattle.atomic_table.specs.Seated.{TableId}
use Rattle.atomic_table.specs.declared.shared.Seat.{Seat}
use Rattle.sysv_gate.specs.declared.gate.seat.Seat.TheInside.{Inside}
use Rattle.sysv_gate.specs.declared.table.view.View.{View}
use Rattle.sysv_gate.specs.declared.table.view.Sight.{Sight}
use Rattle.sysv_gate.specs.Rule.{Spot}
use Rattle.sysv_gate.specs.History.{IsLegal, HasItsOwn}
use Rattle.sysv_gate.specs.Gates.{Holding}
use Rattle.sysv_gate.specs.Orders.{turns_at}
use Rattle.sysv_gate.specs.Tables.{view_at}
use Rattle.sysv_lists.specs.Numbers.{times}
use Rattle.sysv_lists.specs.Prefix.{IsPrefixOf}

module _ {O C R : Type 0} where
  -- What contracts see of a view.
  abbrev pub holding : TableId → ℕ → O → View O C R → Holding O C R
  holding table first opening v = record {
    gate = record { table = table; opening = opening; first = first };
    number = v.number;
    numbers = v.numbers;
    seen = v.seen;
    own = v.own;
    worn = v.worn;
    read = v.read;
    alone = v.alone;
  }

  -- A view at rest. It has no ticket and no turn, its number is one of its numbers, it knows the
  -- object that was first at the place, and it has seen a legal history, in which its own turns are
  -- exactly those made under its numbers.
  pub record RestsAt (moves : O → C → R → O → Type 0) (o : O) (start : ℕ) (v : View O C R) : Type 0 where
    pub no_ticket : v.tickets ≡ []
    pub no_turn : v.in_turn ≡ false
    pub nothing_else : v.also ≡ []
    pub opening : v.opening ≡ Some o
    pub first : v.first ≡ start
    pub named : 1 ≤ times v.number v.numbers
    pub legal : IsLegal moves o v.seen
    pub own : HasItsOwn v.numbers v.own v.seen

  -- The view of the place is at rest, and the turns seen there begin the place's part of the order
  -- that was seen.
  abbrev pub RestsThere : (O → C → R → O → Type 0) → ℕ → O → ℕ → Sight O C R → Type 0
  RestsThere moves place o start sight =
      RestsAt moves o start (view_at place sight) × IsPrefixOf (view_at place sight).seen (turns_at place sight.seen)

  -- What contracts see of a stored seat.
  abbrev pub held : Inside O C R → Holding O C R
  held s = holding s.token.table_id s.key.value.first s.key.value.opening.value (view_at 0 s.token.me.0)

  -- The seat holds no slot, and the view of its one place is at rest.
  pub record IsAtRest (moves : O → C → R → O → Type 0) (s : Inside O C R) : Type 0 where
    pub no_slot : s.token.me.1 ≡ []
    pub one : length s.token.me.0.views ≡ 1
    pub rests : RestsThere moves 0 s.key.value.opening.value s.key.value.first s.token.me.0

  -- The token is that of a seat of which contracts see this.
  abbrev pub IsTokenOf : (O → C → R → O → Type 0) → Holding O C R → Seat (Spot O C R) (Sight O C R) → Type 0
  IsTokenOf moves h token = (s : Inside O C R) × (held s ≡ h) × IsAtRest moves s × (s.token ≡ token)
