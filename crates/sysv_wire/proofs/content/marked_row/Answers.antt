use Rattle.std.proofs.Common.{refl, inr, arith}
use Rattle.sysv_wire.proofs.ReplyLemmas.{wide_row}
use Rattle.sysv_wire.proofs.content.marked_row.Goals as goal

pub returns-then-row-gt-MAX_MODE-clause-err : goal.returns-then-row-gt-MAX_MODE-clause-err
returns-then-row-gt-MAX_MODE-clause-err c = (
  refl,
  inr (wide_row c.row_of-row.result c.args.mark c.args.rest.now c.row_of-row.ensures.encoded c.if-row-gt-MAX_MODE.true
      (omega arith)),
)
