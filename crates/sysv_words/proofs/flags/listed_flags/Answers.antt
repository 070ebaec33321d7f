use Rattle.std.proofs.Common.{ℕ, List, bit_or, sym, ap, ◌∙◌, subst}
use Rattle.sysv_words.specs.FlagNames.{AddsFlags, One, More}
use Rattle.sysv_words.proofs.FlagLists.{AddsFlags-split, AddsFlags-last, NamesFlag-once}
use Rattle.sysv_words.proofs.flags.listed_flags.Goals as goal

pub loop-name-preserved : goal.loop-name-preserved
loop-name-preserved c =
    let before = c.loop-name.flags.0 in
    let flag = c.in_ok-flag_of.field-0.0 in
    let name = c.in-Some.name.now in
    let rest = c.in-Some.behind.now in
    let split = c.in-Some.ensures in
    let union = c.union-flags.ensures tt in (
      λ all behind.
          let after : AddsFlags (bit_or before flag) rest all = subst (λ n. AddsFlags n rest all) union behind in
          c.loop-name.invariant.0 all
          (subst (λ (text : List ℕ). AddsFlags before text all) (sym split.whole)
          (More before _ _ _ all c.in_ok-flag_of.ensures after)),
      λ all whole.
          let next =
          AddsFlags-split before c.loop-name.rest.now all name rest split (c.loop-name.invariant.1 all whole) in
          let same = NamesFlag-once name next.0 flag next.1 c.in_ok-flag_of.ensures in
          subst (λ n. AddsFlags n rest all) (ap (λ n. bit_or before n) same ∙ sym union) next.2,
    )

pub returns : goal.returns
returns c =
    subst (AddsFlags 0 c.args.list.now) (sym (c.union.ensures tt))
    (c.loop-name.invariant.0 _ (One c.loop-name.flags.0 _ _ c.in_ok-flag_of-2.ensures))

pub returns-in_err-flag_of : goal.returns-in_err-flag_of
returns-in_err-flag_of c =
    let before = c.loop-name.flags.0 in
    let split = c.in-Some.ensures in
    rw c.from_residual.ensures (λ bits h.
    let next = AddsFlags-split before c.loop-name.rest.now bits c.in-Some.name.now c.in-Some.behind.now split
    (c.loop-name.invariant.1 bits h) in
    c.in_err-flag_of.ensures next.0 next.1)

pub returns-in_err-flag_of-2 : goal.returns-in_err-flag_of-2
returns-in_err-flag_of-2 c =
    rw c.from_residual-in_err-flag_of-2.ensures (λ bits h.
    let last = AddsFlags-last c.loop-name.flags.0 c.loop-name.rest.now bits c.in_default.ensures
    (c.loop-name.invariant.1 bits h) in
    c.in_err-flag_of-2.ensures last.0 last.1)
