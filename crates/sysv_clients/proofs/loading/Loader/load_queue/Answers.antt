use Rattle.std.proofs.Common.{Err, FitsSigned, Ok, ap, refl, rules, w32}
use Rattle.std.proofs.lemmas.Int.{to_z-of_z}
use Rattle.std.proofs.lemmas.Result.{err_from_is_err_and}
use Rattle.sysv_clients.specs.declared.loading.Place.{Place}
use Rattle.sysv_clients.specs.Loading.{make_ask, set_ask}
use Rattle.sysv_model.specs.Instrumented.{stream_of}
use Rattle.sysv_clients.proofs.LoadLemmas.{asked_as, bars_queue, check_of_line, cut_of_line, make_stops, queue_taken}
use Rattle.sysv_clients.proofs.LoadLemmas.{set_is, set_stops, stops_by}
use Rattle.sysv_clients.proofs.loading.Loader.load_queue.Goals as goal

pub returns-in_err-drain-clause-takes : goal.returns-in_err-drain-clause-takes
returns-in_err-drain-clause-takes g c = λ left taken fed unloaded unfed due is first next so_far.
    let p = err_from_is_err_and c.from_residual.result c.from_residual.ensures.1 in
    rw (p.1, p.2)
    (stops_by c.args.loading.now c.in_err-drain.field-0.0 left _ _ taken _ _ fed unloaded unfed c.args.self.now.place
    c.args.self.now.place c.args.self.now.window c.drain.new.window so_far
    (c.in_err-drain.ensures.hears so_far.part.waiting so_far.part.snds so_far.part.waits) c.drain.ensures.writes)

pub returns-in_err-drain-clause-of_line : goal.returns-in_err-drain-clause-of_line
returns-in_err-drain-clause-of_line g c =
    let p = err_from_is_err_and c.from_residual.result c.from_residual.ensures.1 in
    rw (p.1, p.2) (cut_of_line c.in_err-drain.field-0.0 c.in_err-drain.ensures.cut)

pub returns-in_err-check-clause-takes : goal.returns-in_err-check-clause-takes
returns-in_err-check-clause-takes g c = λ left taken fed unloaded unfed due is first next so_far.
    let p = err_from_is_err_and c.from_residual-in_err-check.result c.from_residual-in_err-check.ensures.1 in
    rw (p.1, p.2)
    (bars_queue c.args.loading.now c.args.queue c.in_err-check.field-0.0 c.args.self.now.sender.line left _ _ taken _ _
    fed unloaded unfed c.args.self.now.place c.args.self.now.window c.drain.new.window so_far
    (c.in_ok-drain.ensures.hears so_far.part.waiting so_far.part.snds so_far.part.waits) c.drain.ensures.writes
    is next c.in_err-check.ensures)

pub returns-in_err-check-clause-of_line : goal.returns-in_err-check-clause-of_line
returns-in_err-check-clause-of_line g c =
    let p = err_from_is_err_and c.from_residual-in_err-check.result c.from_residual-in_err-check.ensures.1 in
    rw (p.1, p.2) (check_of_line c.args.loading.now _ c.args.queue c.in_err-check.field-0.0 c.in_err-check.ensures)

pub returns-in_err-id-clause-takes : goal.returns-in_err-id-clause-takes
returns-in_err-id-clause-takes g c = λ left taken fed unloaded unfed due is first next so_far.
    let p = err_from_is_err_and c.from_residual-in_err-id.result c.from_residual-in_err-id.ensures.1 in
    rw (p.1, p.2, c.asked.ensures.place, c.asked.ensures.window)
    (make_stops c.args.loading.now c.args.queue c.in_err-id.field-0.0 c.args.self.now.sender.line left _ _ _ taken _ _ _
    fed unloaded unfed c.args.self.now.place c.args.self.now.window c.drain.new.window so_far
    (c.in_ok-drain.ensures.hears so_far.part.waiting so_far.part.snds so_far.part.waits) c.drain.ensures.writes
    c.in_ok-drain.ensures.few due is next c.in_ok-check.ensures
    (asked_as c.args.self.now.place.lines c.args.self.now.place.lines c.make.result
    (make_ask c.args.loading.now c.args.queue) (Err c.in_err-id.field-0.0)
    (g.R.Read.remaining (stream_of c.drain.new.reader)) (g.R.Read.remaining (stream_of c.asked.new.reader))
    (g.W.Write.contents (stream_of c.drain.new.writer)) (g.W.Write.contents (stream_of c.asked.new.writer)) refl
    c.make.ensures c.in_err-id.ensures.asks))

pub returns-in_err-asked-clause-takes : goal.returns-in_err-asked-clause-takes
returns-in_err-asked-clause-takes g c = λ left taken fed unloaded unfed due is first next so_far.
    let p = err_from_is_err_and c.from_residual-in_err-asked.result c.from_residual-in_err-asked.ensures.1 in
    let id_fits : FitsSigned w32 c.in_ok-id.id = search rules in
    rw (p.1, p.2, c.asked-2.ensures.place, c.asked-2.ensures.window, c.asked.ensures.place, c.asked.ensures.window)
    (set_stops c.args.loading.now c.args.queue c.in_ok-id.id c.in_err-asked.field-0.0 c.args.self.now.sender.line left
    _ _ _ _ taken _ _ _ _ fed unloaded unfed c.args.self.now.place c.args.self.now.window c.drain.new.window so_far
    (c.in_ok-drain.ensures.hears so_far.part.waiting so_far.part.snds so_far.part.waits) c.drain.ensures.writes
    c.in_ok-drain.ensures.few due is next c.in_ok-check.ensures
    (asked_as c.args.self.now.place.lines c.args.self.now.place.lines c.make.result
    (make_ask c.args.loading.now c.args.queue) (Ok c.in_ok-id.id)
    (g.R.Read.remaining (stream_of c.drain.new.reader)) (g.R.Read.remaining (stream_of c.asked.new.reader))
    (g.W.Write.contents (stream_of c.drain.new.writer)) (g.W.Write.contents (stream_of c.asked.new.writer)) refl
    c.make.ensures c.in_ok-id.ensures.asks)
    (asked_as c.asked.new.self.place.lines c.args.self.now.place.lines c.set.result (set_ask c.args.queue c.in_ok-id.id)
    (Err c.in_err-asked.field-0.0) (g.R.Read.remaining (stream_of c.asked.new.reader))
    (g.R.Read.remaining (stream_of c.asked-2.new.reader))
    (g.W.Write.contents (stream_of c.asked.new.writer)) (g.W.Write.contents (stream_of c.asked-2.new.writer))
    (ap (λ (p : Place). p.lines) c.asked.ensures.place)
    (set_is c.args.queue c.set.result c.in_ok-id.id id_fits c.set.ensures) c.in_err-asked.ensures.asks))

pub returns-clause-takes : goal.returns-clause-takes
returns-clause-takes g c = λ left taken fed unloaded unfed due is first next so_far.
    let id_fits : FitsSigned w32 c.in_ok-id.id = search rules in
    rw (
      c.take.ensures.place,
      c.take.ensures.window,
      c.asked-2.ensures.place,
      c.asked-2.ensures.window,
      c.asked.ensures.place,
      c.asked.ensures.window,
      to_z-of_z w32 c.in_ok-id.id id_fits,
    )
    (queue_taken c.args.loading.now c.args.queue c.in_ok-id.id c.in_ok-asked.field-0 c.args.self.now.sender.line
    c.args.self.now.sender.text left _ _ _ _ taken _ _ _ _ fed unloaded unfed c.args.self.now.place
    c.args.self.now.window c.drain.new.window so_far
    (c.in_ok-drain.ensures.hears so_far.part.waiting so_far.part.snds so_far.part.waits) c.drain.ensures.writes
    c.in_ok-drain.ensures.few due is first next c.in_ok-check.ensures
    (asked_as c.args.self.now.place.lines c.args.self.now.place.lines c.make.result
    (make_ask c.args.loading.now c.args.queue) (Ok c.in_ok-id.id)
    (g.R.Read.remaining (stream_of c.drain.new.reader)) (g.R.Read.remaining (stream_of c.asked.new.reader))
    (g.W.Write.contents (stream_of c.drain.new.writer)) (g.W.Write.contents (stream_of c.asked.new.writer)) refl
    c.make.ensures c.in_ok-id.ensures.asks)
    (asked_as c.asked.new.self.place.lines c.args.self.now.place.lines c.set.result (set_ask c.args.queue c.in_ok-id.id)
    (Ok c.in_ok-asked.field-0) (g.R.Read.remaining (stream_of c.asked.new.reader))
    (g.R.Read.remaining (stream_of c.asked-2.new.reader))
    (g.W.Write.contents (stream_of c.asked.new.writer)) (g.W.Write.contents (stream_of c.asked-2.new.writer))
    (ap (λ (p : Place). p.lines) c.asked.ensures.place)
    (set_is c.args.queue c.set.result c.in_ok-id.id id_fits c.set.ensures) c.in_ok-asked.ensures.asks))
