-- A gate is a table with one place, and the lock of that place. This project's profile.
use Rattle.sysv_gate.specs.declared.gate.Gate.TheInside.{Inside}
use Rattle.sysv_gate.specs.Gates.{Gateway}
use Rattle.sysv_gate.specs.Laying.{IsOneLock}

module _ {O C R : Type 0} where
  -- What contracts see of a gate.
  abbrev pub gateway : Inside O C R → Gateway O
  gateway g = record { table = g.table.shared.table_id; opening = g.key.opening.value; first = g.key.first }

  -- The condition of an open gate.
  abbrev pub IsOpen : Inside O C R → Type 0
  IsOpen g = IsOneLock g.key.opening.value g.key.first g.table.shared.table_id g.table.shared.key g.lock
