use Rattle.std.proofs.Common.{ap, subst, ◌∙◌, take}
use Rattle.std.specs.Io.KnownBytes.{Consumes}
use Rattle.sysv_wire.proofs.NumberLemmas.{u32_only}
use Rattle.sysv_wire.proofs.input.read_length.Goals as goal

pub returns-in-4-clause-found : goal.returns-in-4-clause-found
returns-in-4-clause-found g c =
    let bytes = c.fill.new.bytes in
    subst (Consumes _ _)
    (ap (λ k. take k bytes) c.in-4.is
    ∙ u32_only bytes c.take_u32-length.result.1.now c.take_u32-length.result.0 c.take_u32-length.ensures.encoded
    c.take_u32-length.ensures.len c.fill.auto.bytes) c.in_ok-fill.ensures.taken
