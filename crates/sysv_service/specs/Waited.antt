-- How a wait of a call ends. This project's profile.
use Rattle.std.specs.Prelude.{◌≡◌, ℕ, ◌+◌, ◌<◌, ◌≤◌, ◌⊎◌}
use Rattle.sysv_steps.specs.Call.{Kind}
use Rattle.sysv_steps.specs.State.{Wait, State, Goes, Waits, Over, Refused}
use Rattle.sysv_model.specs.declared.errno.Errno.TheVariants.{EOVERFLOW}
use Rattle.sysv_steps.specs.Resume.{Count, awaited, goal_of, resume}
use Rattle.sysv_service.specs.declared.waiting.Waited.{Waited}
use Rattle.sysv_service.specs.declared.waiting.Waited.TheVariants as waited
use Rattle.sysv_service.specs.Reading.{Reads, GivesUp}
use Rattle.sysv_service.specs.Ran.{Pass}

-- The count was read and is not above the value.
abbrev pub IsNotAbove : Count → ℕ → Pass → Pass → Type 0
IsNotAbove count above before after =
    (value : ℕ) × (value < above + 1) × Reads count value before.seats after.seats

-- The count that was read is below the goal.
abbrev pub IsUnmet : {kind : Kind} → Wait kind → Pass → Pass → Type 0
IsUnmet wait before after = (value : ℕ) × (value < goal_of wait) × Reads (awaited wait) value before.seats after.seats

-- The end of a wait for the count to be above the value: it is, or it was read once, or the gate of
-- the object was found worn out.
abbrev pub WaitsAbove : Count → ℕ → Pass → Waited → Pass → Type 0
WaitsAbove count above before (waited.Above value) after =
    (above + 1 ≤ value) × Reads count value before.seats after.seats × (after.held ≡ before.held)
WaitsAbove count above before waited.Still after =
    (value : ℕ) × Reads count value before.seats after.seats × (after.held ≡ before.held)
WaitsAbove count above before waited.Worn after =
    (value : ℕ) × (value < above + 1) × GivesUp count value before.seats after.seats × (after.held ≡ before.held)

-- The state after a look at the count: the call goes on with the value, or still waits, or has
-- found the gate of the object worn out and is over.
abbrev pub EndsWait : {kind : Kind} → Wait kind → Pass → State kind → Pass → Type 0
EndsWait wait before state after =
    ((value : ℕ) × Reads (awaited wait) value before.seats after.seats × (after.held ≡ before.held)
    × (((goal_of wait ≤ value) × (state ≡ Goes (resume wait value))) ⊎ (state ≡ Waits wait)))
    ⊎ ((value : ℕ) × (value < goal_of wait) × GivesUp (awaited wait) value before.seats after.seats
    × (after.held ≡ before.held) × (state ≡ Over (Refused EOVERFLOW)))
