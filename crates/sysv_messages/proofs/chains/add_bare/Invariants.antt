use Rattle.std.proofs.Common.{◌≡◌, ◌≤◌, None, replicate, vec_capacity}
use Rattle.sysv_messages.proofs.chains.add_bare.Given as goal

abbrev pub invariant-loop : goal.invariant-loop
invariant-loop l = record {
  bare : l.chains.items ≡ replicate l.counter None;
  room : l.places ≤ vec_capacity l.chains;
}
