use Rattle.std.proofs.Common.{◌≡◌, ℕ, ◌<◌, ◌<ℤ◌}
use Rattle.sysv_rules.specs.Qualifies.{type_at}
use Rattle.sysv_rules.proofs.selector.least.Given as goal

-- `lowest` is the first place of the lowest type so far.
abbrev pub invariant-loop-place : goal.invariant-loop-place
invariant-loop-place l = record {
  within : l.lowest < l.place;
  none_lower : (other : ℕ) → other < l.place → ¬ (type_at l.types other <ℤ type_at l.types l.lowest);
  none_before : (earlier : ℕ) → earlier < l.lowest → ¬ (type_at l.types earlier ≡ type_at l.types l.lowest);
}
