-- A word has more bits.
use Rattle.std.proofs.Common.{◌/◌, ◌%◌, ℕ, List, arith, sym, subst}
use Rattle.sysv_parking.specs.Changes.{Holds, number_of}
use Rattle.sysv_parking.proofs.Bits.{set_more}
use Rattle.sysv_parking.proofs.changes.Changes.add_bits.Goals as goal

pub returns-then-at-lt-CHANGE_WORDS-clause-kept : goal.returns-then-at-lt-CHANGE_WORDS-clause-kept
returns-then-at-lt-CHANGE_WORDS-clause-kept c =
    λ change holds. set_more c.self.inside.words c.args.at (omega (arith, c.if-at-lt-CHANGE_WORDS.true, c.self.told))
    (number_of change / 64) (number_of change % 64)
    (subst (λ (words : List ℕ). Holds words change) (sym c.self.view_is) holds) c.args.bits
