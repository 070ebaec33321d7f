-- The change has its bit.
use Rattle.std.proofs.Common.{◌≡◌, ◌∙◌, ◌/◌, ◌%◌, ◌<◌, ◌^◌, ℕ, Some, arith, sym, subst, ap, bit_or}
use Rattle.std.specs.Int.{bit_at}
use Rattle.std.specs.Prelude.{slice_index}
use Rattle.sysv_parking.specs.declared.changes.Change.{Change}
use Rattle.sysv_parking.specs.declared.changes.Change.TheVariants.{Queue, Room, Blocks, Settled, Anything}
use Rattle.sysv_parking.specs.Changes.{IsThere, number_of}
use Rattle.sysv_parking.proofs.Bits.{set_same}
use Rattle.sysv_parking.proofs.changes.Changes.add.Goals as goal

small : (change : Change) → IsThere change → number_of change < 515
small (Queue slot) there = omega (arith, there)
small (Room slot) there = omega (arith, there)
small Blocks there = omega arith
small Settled there = omega arith
small Anything there = omega arith

pub returns-in-Some-clause-added : goal.returns-in-Some-clause-added
returns-in-Some-clause-added c = λ there.
    let same : Some c.in-Some.number ≡ Some (number_of c.args.change) =
    sym c.in-Some.is ∙ c.number.ensures.there there in
    let number : c.in-Some.number ≡ number_of c.args.change = cc in
    let within = small c.args.change there in
    let bit : c.bit.result ≡ 2 ^ (c.in-Some.number % 64) = c.bit.ensures in
    let added = c.add_bits.ensures.added (omega (arith, number, within)) in
    subst (λ (n : ℕ). bit_at (slice_index c.add_bits.new.self (n / 64)) (n % 64) ≡ 1) number
    (ap (λ (w : ℕ). bit_at w (c.in-Some.number % 64)) added
    ∙ ap (λ (b : ℕ). bit_at (bit_or (slice_index c.args.self.now (c.in-Some.number / 64)) b) (c.in-Some.number % 64))
    bit
    ∙ set_same (slice_index c.args.self.now (c.in-Some.number / 64)) (c.in-Some.number % 64))
