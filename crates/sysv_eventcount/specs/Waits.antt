-- The result of a bounded wait. This project's profile.
use Rattle.std.specs.Prelude.{ℕ, ◌<◌, ◌≤◌}
use Rattle.sysv_eventcount.specs.declared.awaited.Awaited.{Awaited}
use Rattle.sysv_eventcount.specs.declared.awaited.Awaited.TheVariants.{Reached, Short}

-- The value that the wait saw last.
abbrev pub value_of : Awaited → ℕ
value_of (Reached n) = n
value_of (Short n) = n

-- If the result is Reached, its value is at least the goal; if it is Short, its value is below the
-- goal.
abbrev pub Tells : ℕ → Awaited → Type 0
Tells goal (Reached n) = goal ≤ n
Tells goal (Short n) = n < goal
