use Rattle.std.proofs.Common.{arith}
use Rattle.sysv_wire.proofs.NumberLemmas.{u32_front}
use Rattle.sysv_wire.proofs.number.take_u32.Goals as goal

pub returns-clause-encoded : goal.returns-clause-encoded
returns-clause-encoded c =
    u32_front c.args.bytes.now c.split_at.result.0.now c.split_at.result.1.now c.from_be_bytes-number.result c.requires
    (λ i. omega (arith, c.type_inv.bytes i)) c.split_at.ensures.front c.split_at.ensures.back
    c.from_be_bytes-number.ensures
