use Rattle.std.proofs.lemmas.Result.{err_from_is_err_and}
use Rattle.std.proofs.Common.{arith}
use Rattle.sysv_clients.proofs.LoadLemmas.{cut_of_line, format_taken, stops_by}
use Rattle.sysv_clients.proofs.loading.Loader.load_format.Goals as goal

pub returns-in_err-drain-clause-takes : goal.returns-in_err-drain-clause-takes
returns-in_err-drain-clause-takes g c = λ loading left taken fed unloaded unfed due is next so_far.
    let p = err_from_is_err_and c.from_residual.result c.from_residual.ensures.1 in
    rw (p.1, p.2)
    (stops_by loading c.in_err-drain.field-0.0 left _ _ taken _ _ fed unloaded unfed c.args.self.now.place
    c.args.self.now.place c.args.self.now.window c.drain.new.window so_far
    (c.in_err-drain.ensures.hears so_far.part.waiting so_far.part.snds so_far.part.waits) c.drain.ensures.writes)

pub returns-in_err-drain-clause-of_line : goal.returns-in_err-drain-clause-of_line
returns-in_err-drain-clause-of_line g c =
    let p = err_from_is_err_and c.from_residual.result c.from_residual.ensures.1 in
    rw (p.1, p.2) (cut_of_line c.in_err-drain.field-0.0 c.in_err-drain.ensures.cut)

pub returns-clause-takes : goal.returns-clause-takes
returns-clause-takes g c = λ loading left taken fed unloaded unfed due is next so_far.
    rw (c.take.ensures.place, c.take.ensures.window)
    (format_taken loading c.args.self.now.sender.line left _ _ taken _ _ fed unloaded unfed c.args.self.now.place
    c.args.self.now.window c.drain.new.window so_far
    (c.in_ok-drain.ensures.hears so_far.part.waiting so_far.part.snds so_far.part.waits) c.drain.ensures.writes
    c.in_ok-drain.ensures.few due is next)
