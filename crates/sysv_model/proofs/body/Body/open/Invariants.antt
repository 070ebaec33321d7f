use Rattle.std.proofs.Common.{◌≡◌, ◌≤◌, vec_len, vec_capacity}
use Rattle.sysv_model.specs.Body.{AreWhole}
use Rattle.sysv_model.specs.declared.body.TheConstants.{BODY_BLOCKS}
use Rattle.sysv_model.proofs.body.Body.open.Given as goal

abbrev pub invariant-loop : goal.invariant-loop
invariant-loop l = record {
  many : vec_len l.blocks ≡ l.counter;
  room : BODY_BLOCKS ≤ vec_capacity l.blocks;
  whole : AreWhole l.blocks.items;
}
