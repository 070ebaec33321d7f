-- One kind among the objects of a bank: how contracts see a gate, a seat and what a closed gate
-- returns, if objects, calls and replies are seen as those of the kind. This project's profile.
use Rattle.std.specs.Prelude.{◌≡◌, map, option_map, None}
use Rattle.sysv_gate.specs.declared.table.view.Turn.{Turn}
use Rattle.sysv_gate.specs.declared.gate.closing.Closing.{Closing}
use Rattle.sysv_gate.specs.Gates.{Gateway, Holding}

-- How objects, calls and replies are seen as those of the kind.
pub record Kind (O C R O' C' R' : Type 0) : Type 0 where
  pub object : O → O'
  pub call : C → C'
  pub reply : R → R'

-- What a closed gate returns, with its object seen in this way. If no object is returned, nothing
-- is stated of what the slot had.
pub record IsClosingBy {O O' : Type 0} (object_in : O → O') (c : Closing O) (c' : Closing O') : Type 0 where
  pub object : c'.object ≡ option_map object_in c.object
  pub rest : c.rest ≡ None → c'.rest ≡ None
  pub turns : c'.turns ≡ c.turns
  pub next_ticket : c'.next_ticket ≡ c.next_ticket

module _ {O C R O' C' R' : Type 0} (kind : Kind O C R O' C' R') where
  -- A turn, as one of the kind.
  abbrev pub turn_as : Turn O C R → Turn O' C' R'
  turn_as t = record { by = t.by; call = kind.call t.call; reply = kind.reply t.reply; after = kind.object t.after }

  -- A gate, as one of the kind.
  abbrev pub gate_as : Gateway O → Gateway O'
  gate_as g = record { table = g.table; opening = kind.object g.opening; first = g.first }

  -- A seat, as one of the kind.
  abbrev pub seat_as : Holding O C R → Holding O' C' R'
  seat_as h = record {
    gate = gate_as h.gate;
    number = h.number;
    numbers = h.numbers;
    seen = map turn_as h.seen;
    own = h.own;
    worn = h.worn;
    read = h.read;
    alone = h.alone;
  }

  -- What a closed gate returns, as an object of the kind.
  abbrev pub IsClosingAs : Closing O → Closing O' → Type 0
  IsClosingAs = IsClosingBy kind.object
