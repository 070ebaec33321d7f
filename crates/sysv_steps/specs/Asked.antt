-- A call of the code as a call of the definitions (this project's profile). What a receive brings to
-- be filled is no argument of it.
use Rattle.std.specs.Prelude.{ℕ, List}
use Rattle.sysv_steps.specs.Call.{SystemCall, Msgget, Msgsnd, Msgrcv, MsgctlStat, MsgctlSet, MsgctlRmid}
use Rattle.sysv_steps.specs.declared.call.Call.{Call}
use Rattle.sysv_steps.specs.declared.call.Call.TheVariants as call

-- The call of the definitions, if the body to send has these bytes.
module _ {S R : Type 0} (bytes_of : S → List ℕ) where
  abbrev pub asked_by : Call S R → SystemCall
  asked_by (call.Get key flags) = Msgget key flags
  asked_by (call.Send id mtype flags body) = Msgsnd id mtype flags (bytes_of body)
  asked_by (call.Receive id size mtype flags body) = Msgrcv id size mtype flags
  asked_by (call.Stat id) = MsgctlStat id
  asked_by (call.Set id to) = MsgctlSet id to
  asked_by (call.Remove id) = MsgctlRmid id

-- The same of a call with bodies.
abbrev pub asked_of : Call (List ℕ) (List ℕ) → SystemCall
asked_of = asked_by (λ body. body)
