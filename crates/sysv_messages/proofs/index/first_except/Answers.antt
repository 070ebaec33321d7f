use Rattle.std.proofs.Common.{sym, ap, ◌∙◌, arith, w64, to_z, FitsSigned, rules}
use Rattle.std.proofs.lemmas.Int.{to_z-of_z}
use Rattle.sysv_messages.proofs.Selection.{none_before_next}
use Rattle.sysv_messages.proofs.index.first_except.Goals as goal

pub loop-at-preserved : goal.loop-at-preserved
loop-at-preserved g c =
    let i = c.loop-at.invariant in
    let entry = c.probe-entry.result in
    let fits : FitsSigned w64 entry.mtype = search rules in
    let same = sym (to_z-of_z w64 entry.mtype fits) ∙ ap (to_z w64) c.if-entry-refused.false in
    record {
      none = none_before_next c.args.by_number.now.entries.items _ c.loop-at.at entry i.none c.probe-entry.ensures.read
          same;
      read = omega arith;
    }
