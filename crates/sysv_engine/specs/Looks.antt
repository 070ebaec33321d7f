-- What becomes of that which reads the rows of a running service (this project's profile).
use Rattle.std.specs.Prelude.{◌≡◌}
use Rattle.sysv_engine.specs.declared.rows.Rows.{Rows}
use Rattle.sysv_engine.specs.Looking.{LookedBy}

-- What reads rows is at the same service. If it has a pass, it has read rows with it, and done nothing
-- else.
abbrev pub Looks : {R : Type 0} → Rows R → Rows R → Type 0
Looks old new = (new.service.now ≡ old.service.now) × LookedBy old.pass new.pass
