-- No place that was passed is due.
use Rattle.std.proofs.Common.{◌≡◌, ℕ, ◌<◌, false}
use Rattle.sysv_parking.specs.Due.{is_due}
use Rattle.sysv_parking.specs.Parking.{why_at}
use Rattle.sysv_parking.proofs.lines.Lines.any_due.Given as goal

abbrev pub invariant-loop-place : goal.invariant-loop-place
invariant-loop-place l = (other : ℕ) → other < l.place → is_due (why_at l.self other) ≡ false
