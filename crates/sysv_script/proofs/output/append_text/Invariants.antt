-- The blocks so far are appended.
use Rattle.std.proofs.Common.{◌≡◌, ◌++◌, ◌*◌, take}
use Rattle.sysv_model.specs.declared.limits.TheConstants.{BLOCK_BYTES}
use Rattle.sysv_script.proofs.output.append_text.Given as goal

abbrev pub invariant-loop-k : goal.invariant-loop-k
invariant-loop-k l = l.bytes.items ≡ l.initial.bytes.items ++ take (l.k * BLOCK_BYTES) l.text
