-- How seats are stored between two calls. This project's profile.
use Rattle.std.specs.Prelude.{◌≡◌, ℕ, ◌+◌, ◌*◌, ◌<◌, []}
use Rattle.sysv_doorbells.specs.declared.seats.Sleeper.TheInside.{Inside}
use Rattle.sysv_doorbells.specs.declared.seats.Trace.TheInside as tracing
use Rattle.sysv_doorbells.specs.declared.view.Stage.TheVariants.{Ready}
use Rattle.sysv_doorbells.specs.Seats.{SleeperEnd, TraceEnd}

-- What contracts see of a stored sleeper, and of a trace.
abbrev pub sleeper_of : Inside → SleeperEnd
sleeper_of s = record { table = s.token.table_id; at = s.at; strokes = s.strokes; since = s.token.me.0.since }

abbrev pub trace_of : tracing.Inside → TraceEnd
trace_of s = record { table = s.token.table_id; stage = s.token.me.0.stage; at = s.token.me.0.at }

-- Between two calls a sleeper is ready to sleep, at one of the doorbells. It holds no slot.
pub record IsSleeper (s : Inside) : Type 0 where
  pub no_slot : s.token.me.1 ≡ []
  pub ready : s.token.me.0.stage ≡ Ready
  pub at : s.token.me.0.at ≡ s.at
  pub strokes : s.token.me.0.strokes ≡ s.strokes
  pub bell : (number : ℕ) × (s.at ≡ 2 * number + 2)
  pub within : s.at + 1 < s.token.table_id.words
