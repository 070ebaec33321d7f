use Rattle.std.proofs.Common.{FitsSigned, rules, w64}
use Rattle.std.proofs.lemmas.Int.{to_z-of_z}
use Rattle.std.proofs.lemmas.Result.{err_from_is_err_and}
use Rattle.sysv_clients.proofs.LoadLemmas.{entry_of_line, entry_stops}
use Rattle.sysv_clients.proofs.loading.Loader.load.Goals as goal

pub returns-in_err-entry-clause-takes : goal.returns-in_err-entry-clause-takes
returns-in_err-entry-clause-takes g c = λ left taken fed unloaded unfed due next so_far.
    let p = err_from_is_err_and c.from_residual.result c.from_residual.ensures.1 in
    rw (p.1, p.2, c.entry.ensures.place, c.entry.ensures.window)
    (entry_stops c.args.loading.now c.in_err-entry.field-0.0 c.args.self.now.sender.line c.entry.new.self.sender.text
    left _ taken _ fed unloaded unfed c.args.self.now.place c.args.self.now.window so_far next
    c.in_err-entry.ensures.reads)

pub returns-in_err-entry-clause-of_line : goal.returns-in_err-entry-clause-of_line
returns-in_err-entry-clause-of_line g c =
    let p = err_from_is_err_and c.from_residual.result c.from_residual.ensures.1 in
    rw (p.1, p.2)
    (entry_of_line c.args.self.now.place.lines c.in_err-entry.field-0.0 c.args.self.now.sender.line
    c.entry.new.self.sender.text c.in_err-entry.ensures.reads)

pub returns-in-Format-clause-takes : goal.returns-in-Format-clause-takes
returns-in-Format-clause-takes g c = λ left taken fed unloaded unfed due next so_far.
    let reads = rw c.in-Format.is at c.in_ok-entry.ensures.reads in
    c.load_format.ensures.takes c.args.loading.now left taken fed unloaded unfed (rw c.entry.ensures.place due)
    (rw c.entry.ensures.line reads.0) (rw c.entry.ensures.line next)
    (rw (c.entry.ensures.place, c.entry.ensures.window) so_far)

pub returns-in-Queue-clause-takes : goal.returns-in-Queue-clause-takes
returns-in-Queue-clause-takes g c = λ left taken fed unloaded unfed due next so_far.
    let reads = rw c.in-Queue.is at c.in_ok-entry.ensures.reads in
    c.load_queue.ensures.takes left taken fed unloaded unfed (rw c.entry.ensures.place due)
    (rw c.entry.ensures.line reads.0) (rw c.entry.ensures.place reads.1) (rw c.entry.ensures.line next)
    (rw (c.entry.ensures.place, c.entry.ensures.window) so_far)

pub returns-in-Message-clause-takes : goal.returns-in-Message-clause-takes
returns-in-Message-clause-takes g c = λ left taken fed unloaded unfed due next so_far.
    let reads = rw c.in-Message.is at c.in_ok-entry.ensures.reads in
    let fits : FitsSigned w64 c.in-Message.mtype = search rules in
    c.load_message.ensures.takes left taken fed unloaded unfed (rw c.entry.ensures.place due)
    (rw (c.entry.ensures.line, to_z-of_z w64 c.in-Message.mtype fits) reads.0)
    (rw (c.entry.ensures.place, to_z-of_z w64 c.in-Message.mtype fits) reads.1)
    (rw c.entry.ensures.line next) (rw (c.entry.ensures.place, c.entry.ensures.window) so_far)
