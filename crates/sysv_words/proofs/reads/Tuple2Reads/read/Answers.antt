use Rattle.sysv_words.specs.Splitting.{Pair-no_one, Pair-no_other}
use Rattle.sysv_words.proofs.reads.Tuple2Reads.read.Goals as goal

pub returns-in_err-one : goal.returns-in_err-one
returns-in_err-one g c =
    rw c.from_residual.ensures (Pair-no_one g.A.Reads.says g.B.Reads.says c.args.words.now c.in_err-one.ensures)

pub returns-in_err-other : goal.returns-in_err-other
returns-in_err-other g c =
    let w = c.in_ok-one in
    rw c.from_residual-in_err-other.ensures
    (Pair-no_other g.A.Reads.says g.B.Reads.says c.args.words.now w.one w.rest.now w.ensures c.in_err-other.ensures)
