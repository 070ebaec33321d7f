-- A call's result is decided by its arguments, its credentials and its own operations. The time at
-- which it started and the values of the counts that ended its waits change nothing (this project's
-- profile).
use Rattle.std.specs.Prelude.{◌≡◌, ℕ, List}
use Rattle.sysv_model.specs.declared.cred.Cred.{Cred}
use Rattle.sysv_model.specs.Turn.{Op}
use Rattle.sysv_steps.specs.Call.{SystemCall}
use Rattle.sysv_steps.specs.State.{Ending, Over}
use Rattle.sysv_steps.specs.Begin.{begin}
use Rattle.sysv_steps.specs.Played.{Plays}

abbrev pub OneAnswer : Type 0
OneAnswer = (cred : Cred) (asked : SystemCall) (released later : ℕ) (ops : List Op) (one other : Ending) →
    Plays (begin cred asked released) ops (Over one) → Plays (begin cred asked later) ops (Over other) → one ≡ other
