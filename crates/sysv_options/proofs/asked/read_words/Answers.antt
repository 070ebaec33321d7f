-- The table of commands is built, or memory for it was refused.
use Rattle.clap.specs.Words.{app_of}
use Rattle.std.proofs.Common.{inl, map}
use Rattle.std.proofs.lemmas.Result.{err_from_is_err_and}
use Rattle.sysv_options.proofs.AskedLemmas.{are_refused, is_meant}
use Rattle.sysv_options.proofs.asked.read_words.Goals as goal

pub returns-in_err-line-clause-refused : goal.returns-in_err-line-clause-refused
returns-in_err-line-clause-refused g c =
    let p = err_from_is_err_and c.from_residual.result c.from_residual.ensures.1 in
    rw p.1 (inl p.2)

pub returns-clause-meaning : goal.returns-clause-meaning
returns-clause-meaning g c =
    is_meant c.read_line.result (app_of c.in_ok-line.line) (map g.S.AsStr.text c.args.words.now)
    c.read_line.ensures.meaning

pub returns-clause-refused : goal.returns-clause-refused
returns-clause-refused g c =
    are_refused c.read_line.result (app_of c.in_ok-line.line) (map g.S.AsStr.text c.args.words.now)
    c.read_line.ensures.refused
