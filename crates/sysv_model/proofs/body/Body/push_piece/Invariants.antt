use Rattle.std.proofs.Common.{◌≡◌, ◌+◌, ◌++◌, length}
use Rattle.sysv_model.proofs.body.Body.push_piece.Given as goal

-- The body followed by the rest of the piece stays the same.
abbrev pub invariant-loop-rest : goal.invariant-loop-rest
invariant-loop-rest l = record {
  text : l.self ++ l.rest ≡ l.initial.self ++ l.initial.rest;
  bytes : length l.self + length l.rest ≡ length l.initial.self + length l.initial.rest;
}

abbrev pub decreases-loop-rest : goal.decreases-loop-rest
decreases-loop-rest l = length l.rest
