-- The bit of the change is gone.
use Rattle.std.proofs.Common.{rules, ◌≡◌, ◌∙◌, ◌+◌, ◌*◌, ◌/◌, ◌%◌, ℕ, List, Some, inl, inr, arith, sym, subst, ap, w64}
use Rattle.std.proofs.Common.{length}
use Rattle.std.specs.Int.{trailing_zeros}
use Rattle.std.specs.Prelude.{slice_index}
use Rattle.std.proofs.lemmas.Bool.{cases_eq}
use Rattle.std.proofs.lemmas.Nat.Bits.{bit_at-trailing_zeros, bit_at_clear_other}
use Rattle.sysv_parking.specs.declared.changes.Changes.TheInside.{Inside}
use Rattle.sysv_parking.specs.Changes.{Holds, number_of}
use Rattle.sysv_parking.proofs.Bits.{set_less}
use Rattle.sysv_parking.proofs.changes.Changes.take.Goals as goal

pub returns-then-word-ne0-clause-kept : goal.returns-then-word-ne0-clause-kept
returns-then-word-ne0-clause-kept c =
    let words = c.loop-at.self-inside.words in
    let word = slice_index words c.loop-at.at in
    let lowest = bit_at-trailing_zeros w64 word (omega (arith, c.if-word-ne0.true)) (search rules) in
    let bit = trailing_zeros w64 word in
    let long : length words ≡ 9 = ap (λ (i : Inside). length i.words) c.loop-at.invariant.same ∙ c.self.told in
    λ change there holds.
    let n = number_of change in
    elim (cases_eq n (c.loop-at.at * 64 + bit)) [
      | inl e ↦ inl (ap Some (c.of.ensures change there e))
      | inr ne ↦ inr (set_less words c.loop-at.at (omega (arith, c.loop-at-test.true, long)) (n / 64) (n % 64)
          (subst (λ (ws : List ℕ). Holds ws change)
          (sym c.self.view_is ∙ sym (ap (λ (i : Inside). i.words) c.loop-at.invariant.same)) holds) bit _
          (λ at low. ne (omega (arith, at, low))) (λ j low apart. bit_at_clear_other w64 word bit lowest.0 j low apart)
          (omega arith))
    ]
