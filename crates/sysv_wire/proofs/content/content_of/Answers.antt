use Rattle.std.proofs.Common.{IfOk, refl, sym, subst, arith}
use Rattle.sysv_wire.specs.declared.frame.Op.{Op}
use Rattle.sysv_wire.specs.Frames.{op_number}
use Rattle.sysv_wire.specs.Replies.{IsAnswer}
use Rattle.sysv_wire.specs.ReplyFaults.{IsBadAnswer}
use Rattle.sysv_wire.proofs.ReplyLemmas.{wide_stat}
use Rattle.sysv_wire.proofs.content.content_of.Goals as goal

pub returns-then-stat-gt-MAX_MODE-clause-err : goal.returns-then-stat-gt-MAX_MODE-clause-err
returns-then-stat-gt-MAX_MODE-clause-err c =
    let fields = c.args.fields.now in (
      refl,
      subst (λ op. IsBadAnswer op fields) (sym c.in-Stat.is)
          (wide_stat c.stat_of-stat.result fields c.stat_of-stat.ensures.encoded c.if-stat-gt-MAX_MODE.true
          (omega arith)),
    )

pub returns-in-len1-up-clause-answer : goal.returns-in-len1-up-clause-answer
returns-in-len1-up-clause-answer c =
    subst (λ (o : Op). IfOk c.marked_row.result (λ content. IsAnswer c.args.version (op_number o) content))
    (sym c.in-Row.is)
    (c.marked_row.ensures.answer c.args.version)
