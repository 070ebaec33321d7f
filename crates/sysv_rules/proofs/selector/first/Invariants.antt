use Rattle.std.proofs.Common.{ℕ, ◌<◌}
use Rattle.sysv_rules.specs.Qualifies.{QualifiesAt}
use Rattle.sysv_rules.proofs.selector.first.Given as goal

-- No place before the present one qualifies.
abbrev pub invariant-loop-place : goal.invariant-loop-place
invariant-loop-place l = (earlier : ℕ) → earlier < l.place → ¬ QualifiesAt l.sel l.types earlier
