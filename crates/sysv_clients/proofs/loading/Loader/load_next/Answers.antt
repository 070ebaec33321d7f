use Rattle.std.proofs.Common.{arith, sym, ◌∙◌}
use Rattle.std.proofs.lemmas.Result.{err_from_is_err_and}
use Rattle.sysv_clients.proofs.SendLemmas.{is_next, none_left}
use Rattle.sysv_clients.specs.declared.stated.TheConstants.{OBJECT_BYTES}
use Rattle.sysv_clients.proofs.LoadLemmas.{at_end, fetch_fails, fetch_stops, line_fails, took_next}
use Rattle.sysv_clients.proofs.loading.Loader.load_next.Goals as goal

pub returns-in_err-fetched-clause-takes : goal.returns-in_err-fetched-clause-takes
returns-in_err-fetched-clause-takes g c = λ left taken fed so_far.
    let p = err_from_is_err_and c.from_residual.result c.from_residual.ensures.1 in
    rw (p.1, p.2)
    (fetch_stops c.args.loading.now c.in_err-fetched.field-0.0 c.fetch.new.self.line left _ taken _ fed _ _
    c.args.self.now.place c.args.self.now.window so_far c.in_err-fetched.ensures.fetches)

pub returns-in_err-fetched-clause-failed : goal.returns-in_err-fetched-clause-failed
returns-in_err-fetched-clause-failed g c =
    let p = err_from_is_err_and c.from_residual.result c.from_residual.ensures.1 in
    rw (p.1, p.2) (fetch_fails c.in_err-fetched.field-0.0 _ c.in_err-fetched.ensures.failed)

pub returns-then-is_nothing-clause-takes : goal.returns-then-is_nothing-clause-takes
returns-then-is_nothing-clause-takes g c = λ left taken fed so_far.
    at_end c.args.loading.now c.at_end.result c.in_ok-fetched.fetched c.fetch.new.self.line left _ taken _ fed _ _
    c.args.self.now.place c.args.self.now.window so_far
    (none_left _ c.args.self.now.place.lines c.in_ok-fetched.fetched _ _ c.fetch.new.self.line
    (sym c.is_nothing.ensures ∙ c.if-is_nothing.true) c.in_ok-fetched.ensures.fetches)
    c.at_end.ensures

pub returns-in_err-pass_or_load-clause-takes : goal.returns-in_err-pass_or_load-clause-takes
returns-in_err-pass_or_load-clause-takes g c = λ left taken fed so_far.
    let p = err_from_is_err_and c.from_residual-in_err-pass_or_load.result
    c.from_residual-in_err-pass_or_load.ensures.1 in
    rw (p.1, p.2, c.pass_or_load.ensures.chunk)
    (c.in_err-pass_or_load.ensures.takes left taken fed _ _
    (is_next OBJECT_BYTES c.args.self.now.place.lines c.in_ok-fetched.fetched _ _ c.fetch.new.self.line
    (sym c.is_nothing.ensures ∙ c.if-is_nothing.false) c.in_ok-fetched.ensures.fetches)
    so_far)

pub returns-in_err-pass_or_load-clause-failed : goal.returns-in_err-pass_or_load-clause-failed
returns-in_err-pass_or_load-clause-failed g c =
    let p = err_from_is_err_and c.from_residual-in_err-pass_or_load.result
    c.from_residual-in_err-pass_or_load.ensures.1 in
    rw (p.1, p.2) (line_fails c.in_err-pass_or_load.field-0.0 _ c.in_err-pass_or_load.ensures.of_line)

pub returns-clause-takes : goal.returns-clause-takes
returns-clause-takes g c = λ left taken fed so_far.
    let some = sym c.is_nothing.ensures ∙ c.if-is_nothing.false in
    rw c.pass_or_load.ensures.chunk
    (took_next c.args.loading.now c.args.self.now.place.lines c.is_line.result c.in_ok-fetched.fetched
    c.fetch.new.self.line left _ taken _ fed _ _ c.pass_or_load.new.self.place c.pass_or_load.new.self.window
    (c.in_ok-pass_or_load.ensures.takes left taken fed _ _
    (is_next OBJECT_BYTES c.args.self.now.place.lines c.in_ok-fetched.fetched _ _ c.fetch.new.self.line some
    c.in_ok-fetched.ensures.fetches) so_far)
    some c.is_line.ensures c.in_ok-fetched.ensures.fetches
    (omega (arith, c.in_ok-pass_or_load.ensures.lines)))
