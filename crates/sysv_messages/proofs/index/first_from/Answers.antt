use Rattle.std.proofs.Common.{◌≡◌, ℕ, inl, inr, ◌+◌, ◌-◌, ◌/◌, ◌<◌, ◌≤◌, length, arith, w64, FitsSigned, rules}
use Rattle.std.proofs.lemmas.Int.{ints}
use Rattle.std.proofs.lemmas.Bool.{cases_lt}
use Rattle.sysv_rules.specs.Digits.{digits, digits-is}
use Rattle.sysv_messages.proofs.SortedEntries.{below_from, above_from, halved}
use Rattle.sysv_messages.proofs.index.first_from.Goals as goal

pub loop-low-init : goal.loop-low-init
loop-low-init g c = record {
  ordered = omega arith;
  within = omega arith;
  below = λ k d low high. absurd (omega arith);
  above = λ k d low high. absurd (omega arith);
  few = (
    digits (length c.args.by_type.now.entries.items),
    omega (arith, (digits-is (length c.args.by_type.now.entries.items)).0),
    omega arith,
  );
  risen = omega arith;
  some = λ none. omega arith;
}

pub loop-low-preserved-then-probe-mtype : goal.loop-low-preserved-then-probe-mtype
loop-low-preserved-then-probe-mtype g c =
    let low = c.loop-low.low in
    let high = c.loop-low.high in
    let middle = low + (high - low) / 2 in
    let i = c.loop-low.invariant in
    let t = c.loop-low-test.true in
    let f : FitsSigned w64 c.probe.result.mtype = search rules in
    let w = halved i.few.0 (high - low) (high - (middle + 1)) i.few.1 (omega arith) (omega arith) in
    record {
      ordered = omega arith;
      within = i.within;
      below = below_from _ _ middle c.probe.result c.requires (omega arith) c.probe.ensures.read (grind (arith, ints));
      above = i.above;
      few = (w.0, w.1, omega (arith, i.few.2));
      risen = omega arith;
      some = λ none. absurd (omega arith);
    }

pub loop-low-preserved : goal.loop-low-preserved
loop-low-preserved g c =
    let low = c.loop-low.low in
    let high = c.loop-low.high in
    let middle = low + (high - low) / 2 in
    let i = c.loop-low.invariant in
    let t = c.loop-low-test.true in
    let f : FitsSigned w64 c.probe.result.mtype = search rules in
    let w = halved i.few.0 (high - low) (middle - low) i.few.1 (omega arith) (omega arith) in
    record {
      ordered = omega arith;
      within = omega arith;
      below = i.below;
      above = above_from _ _ middle c.probe.result c.requires (omega arith) c.probe.ensures.read (grind (arith, ints));
      few = (w.0, w.1, omega (arith, i.few.2));
      risen = omega arith;
      some = λ none. absurd (omega arith);
    }

some_read : (before now low high count : ℕ) → before ≤ now → (now ≡ before → high - low ≡ count) → high ≤ low →
    0 < count → before < now
some_read before now low high count risen some over more =
    elim (cases_lt before now) [ inl h ↦ h | inr h ↦ let e = some (omega arith) in absurd (omega arith) ]

pub returns-clause-some : goal.returns-clause-some
returns-clause-some g c = λ more.
    some_read _ _ _ _ _ c.loop-low.invariant.risen c.loop-low.invariant.some c.loop-low-test.false more
