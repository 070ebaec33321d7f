-- The turns that passes make on threads, in one order (this profile's). Each pass has a number.
use Rattle.std.specs.Prelude.{ℕ, List, map}
use Rattle.sysv_model.specs.History.{Seat}
use Rattle.sysv_model.specs.Turn.{Op, Turn}

-- A turn: its operation, and the number of the pass that made it.
pub record Numbered : Type 0 where
  pub by : ℕ
  pub op : Op

-- The turn as in the histories of the objects. It was made by the seat with the number of the pass.
abbrev pub turn_of : Numbered → Turn
turn_of t = record { who = Seat t.by; op = t.op }

-- The turns of an order, as in the histories of the objects.
abbrev pub turns_of : List Numbered → List Turn
turns_of order = map turn_of order
