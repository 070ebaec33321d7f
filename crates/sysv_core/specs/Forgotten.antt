-- The forget of each removal takes the row of its identifier away (this project's profile): no
-- forget is answered false. The row exists until then: it was made with the identifier, only one
-- removal of an identifier succeeds, and no other call forgets it, because no install finds its
-- slot occupied.
use Rattle.std.specs.Prelude.{◌≡◌, true, List, All}
use Rattle.sysv_model.specs.Registry.{Forget, Changed}
use Rattle.sysv_model.specs.Turn.{Op, AtRegistry, Turn}

-- If the operation is a forget, it took a row away.
abbrev pub TakesItsRow : Op → Type 0
TakesItsRow (AtRegistry (Forget id) reply) = reply ≡ Changed true
TakesItsRow op = Unit {0}

-- Each of the turns that is a forget took a row away.
abbrev pub AllTakeTheirRows : List Turn → Type 0
AllTakeTheirRows turns = All (λ (t : Turn). TakesItsRow t.op) turns
