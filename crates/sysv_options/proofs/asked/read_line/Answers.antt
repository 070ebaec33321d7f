-- What clap refuses although it takes such words, it refuses for want of memory. What is refused of the words that clap
-- has parsed asks for nothing.
use Rattle.clap.specs.Words.{app_of}
use Rattle.std.proofs.Common.{map}
use Rattle.std.proofs.lemmas.Result.{err_from_is_err_and}
use Rattle.sysv_options.proofs.AskedLemmas.{asks_nothing}
use Rattle.sysv_options.proofs.asked.read_line.Goals as goal

pub returns-in_err-matches-clause-refused : goal.returns-in_err-matches-clause-refused
returns-in_err-matches-clause-refused g c =
    let p = err_from_is_err_and c.from_residual.result c.from_residual.ensures.1 in
    rw (p.1, p.2) (λ taken kind asked asks. kind (c.in_err-matches.ensures.passes taken))

pub returns-clause-refused : goal.returns-clause-refused
returns-clause-refused g c = λ taken kind.
    asks_nothing (app_of c.args.line.now) (map g.S.AsStr.text c.args.words.now) c.in_ok-matches.matches
    c.in_ok-matches.ensures.ok.2 c.in-Err.ensures.meaning taken
