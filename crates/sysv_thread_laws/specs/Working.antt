-- What one pass does between two times: it makes calls, reads counts and reads rows. This project's
-- profile.
use Rattle.std.specs.Prelude.{◌≡◌, ℕ, List, [], ◌∷◌, ◌++◌, Option, Result}
use Rattle.sysv_model.specs.declared.attributes.Row.{Row}
use Rattle.sysv_model.specs.declared.cred.Cred.{Cred}
use Rattle.sysv_model.specs.declared.errno.Errno.{Errno}
use Rattle.sysv_model.specs.Turn.{Op}
use Rattle.sysv_steps.specs.Call.{SystemCall, kind_of}
use Rattle.sysv_steps.specs.State.{State}
use Rattle.sysv_steps.specs.Begin.{begin}
use Rattle.sysv_steps.specs.Resume.{Count}
use Rattle.sysv_thread_laws.specs.Order.{Called}
use Rattle.sysv_service.specs.Reading.{Reads}
use Rattle.sysv_service.specs.Ran.{Pass, Ran}
use Rattle.sysv_service.specs.Told.{TellsRow}
use Rattle.sysv_thread_laws.specs.Lifetime.{any_moment, call_of}

-- The pass made these calls, in this order. Each is over or was left at a wait.
pub data Works (old : Pass) : List Called → Pass → Type 0 where
  -- It has done nothing.
  begins : Works old [] old
  -- It made one more call.
  calls : {made : List Called} {mid : Pass} (cred : Cred) (asked : SystemCall) (released : ℕ) (ops : List Op)
      (state : State (kind_of asked)) (new : Pass) →
      Works old made mid → Ran any_moment (begin cred asked released) mid ops state new →
      Works old (made ++ call_of mid cred asked released ops state ∷ []) new
  -- It read a count, as each send does before it starts.
  reads_count : {made : List Called} {mid : Pass} (count : Count) (value : ℕ) (new : Pass) →
      Works old made mid → Reads count value mid.seats new.seats → new.held ≡ mid.held → Works old made new
  -- It read the row of a slot, which is no call.
  asks_row : {made : List Called} {mid : Pass} (slot : ℕ) (result : Result (Option Row) Errno) (new : Pass) →
      Works old made mid → TellsRow slot mid result new → Works old made new
