use Rattle.sysv_words.specs.Splitting.{first-unsplit, first-no_one}
use Rattle.sysv_words.proofs.reads.first.Goals as goal

pub returns-in_err-word : goal.returns-in_err-word
returns-in_err-word g c =
    rw c.from_residual.ensures (first-unsplit g.T.Reads.says c.args.words.now c.in_err-word.ensures)

pub returns-in_err-value : goal.returns-in_err-value
returns-in_err-value g c =
    let w = c.in_ok-word in
    rw c.from_residual-in_err-value.ensures
    (first-no_one g.T.Reads.says c.args.words.now w.word.now w.rest.now w.ensures c.in_err-value.ensures)
