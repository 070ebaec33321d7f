use Rattle.std.proofs.Common.{List, ℕ, ap, ◌∙◌, ◌++◌, arith}
use Rattle.sysv_wire.proofs.NumberLemmas.{i64_same}
use Rattle.sysv_wire.proofs.number.take_i64.Goals as goal

pub returns-clause-encoded : goal.returns-clause-encoded
returns-clause-encoded c =
    c.take_u64-number.ensures.encoded
    ∙ ap (λ (front : List ℕ). front ++ c.take_u64-number.result.1.now)
    (i64_same c.take_u64-number.result.0 c.cast_signed.result (omega arith) c.cast_signed.ensures)
