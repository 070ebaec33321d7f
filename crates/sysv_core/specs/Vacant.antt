-- A msgget that made an identifier finds its slot vacant (this project's profile): every install
-- makes a queue. The slot of a new identifier has no row, and a slot in which a queue is live has
-- the row of that queue. So no run comes to the row of the step table that gives up an identifier
-- whose slot is occupied.
use Rattle.std.specs.Prelude.{◌≡◌, true, List, All}
use Rattle.sysv_model.specs.History.{Install, Installed}
use Rattle.sysv_model.specs.Turn.{Op, AtSlot, Turn}

-- If the operation is an install, it made the queue.
abbrev pub FindsVacant : Op → Type 0
FindsVacant (AtSlot slot (Install id key cred mode now) reply) = reply ≡ Installed true
FindsVacant op = Unit {0}

-- Each of the turns that is an install made the queue.
abbrev pub AllFindVacant : List Turn → Type 0
AllFindVacant turns = All (λ (t : Turn). FindsVacant t.op) turns
