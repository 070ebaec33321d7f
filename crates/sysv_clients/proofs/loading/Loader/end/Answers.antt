use Rattle.std.proofs.Common.{inr}
use Rattle.std.proofs.lemmas.Result.{err_from_is_err_and}
use Rattle.sysv_clients.proofs.LoadLemmas.{cut_of_load, cuts_by, ends_lines, taken_by}
use Rattle.sysv_clients.proofs.loading.Loader.end.Goals as goal

pub returns-in_err-drain-clause-ends : goal.returns-in_err-drain-clause-ends
returns-in_err-drain-clause-ends g c = λ loading left taken fed unfed stops.
    let p = err_from_is_err_and c.from_residual.result c.from_residual.ensures.1 in
    let so_far = (taken_by loading c.args.ended left _ taken _ fed unfed c.args.self.now.place c.args.self.now.window
    stops).loads in
    rw (p.1, p.2)
    (cuts_by loading c.in_err-drain.field-0.0 left _ _ taken _ _ fed _ unfed c.args.self.now.place
    c.args.self.now.window c.drain.new.window so_far
    (c.in_err-drain.ensures.hears so_far.part.waiting so_far.part.snds so_far.part.waits) c.drain.ensures.writes)

pub returns-in_err-drain-clause-same_end : goal.returns-in_err-drain-clause-same_end
returns-in_err-drain-clause-same_end g c =
    let p = err_from_is_err_and c.from_residual.result c.from_residual.ensures.1 in
    rw (p.1, p.2) (inr (cut_of_load c.in_err-drain.field-0.0 c.in_err-drain.ensures.cut))

pub returns-clause-ends : goal.returns-clause-ends
returns-clause-ends g c = λ loading left taken fed unfed stops.
    ends_lines loading c.args.ended left _ _ taken _ _ fed unfed c.args.self.now.place c.args.self.now.window
    c.drain.new.window stops c.in_ok-drain.ensures.hears c.drain.ensures.writes c.in_ok-drain.ensures.few
