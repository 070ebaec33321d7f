use Rattle.std.proofs.Common.{FitsSigned, of_z, rules, to_z, w32}
use Rattle.std.proofs.lemmas.Result.{err_from_is_err_and}
use Rattle.sysv_clients.proofs.LoadLemmas.{after_message, cut_of_line, find_stops, hears_load, message_lost}
use Rattle.sysv_clients.proofs.LoadLemmas.{message_sent, message_as, snd_is, stops_by}
use Rattle.sysv_clients.proofs.loading.Loader.load_message.Goals as goal

pub returns-in_err-id-clause-takes : goal.returns-in_err-id-clause-takes
returns-in_err-id-clause-takes g c = λ left taken fed unloaded unfed due states first next so_far.
    let p = err_from_is_err_and c.from_residual.result c.from_residual.ensures.1 in
    rw (p.1, p.2, c.find.ensures.place, c.find.ensures.window)
    (find_stops c.args.loading.now c.in_err-id.field-0.0 c.args.mtype c.args.self.now.sender.line
    c.args.self.now.sender.text left _ _ taken _ _ fed unloaded unfed c.args.self.now.place c.args.self.now.window
    so_far due states next (c.in_err-id.ensures.finds so_far.may))

pub returns-in_err-send-clause-takes : goal.returns-in_err-send-clause-takes
returns-in_err-send-clause-takes g c = λ left taken fed unloaded unfed due states first next so_far.
    let p = err_from_is_err_and c.from_residual-in_err-send.result c.from_residual-in_err-send.ensures.1 in
    rw (p.1, p.2)
    (message_lost c.args.loading.now c.in_ok-id.id c.args.mtype c.send-ask.result c.in_err-send.field-0.0
    c.args.self.now.sender.line c.args.self.now.sender.text c.find.new.self.sender.text left _ _ taken _ _ _ fed
    unloaded unfed c.args.self.now.place c.find.new.self.place c.args.self.now.window c.find.new.self.window
    c.send.new.window
    so_far (c.in_ok-id.ensures.finds so_far.may) due states first next c.requires.room
    (snd_is c.args.loading.now c.sending-sending.result c.send-ask.result c.in_ok-id.id c.args.mtype (search rules)
    (search rules) c.sending-sending.ensures c.send-ask.ensures)
    c.find.ensures.text c.find.ensures.window c.in_err-send.ensures.puts)

pub returns-in_err-send-clause-of_line : goal.returns-in_err-send-clause-of_line
returns-in_err-send-clause-of_line g c =
    let p = err_from_is_err_and c.from_residual-in_err-send.result c.from_residual-in_err-send.ensures.1 in
    rw (p.1, p.2) (cut_of_line c.in_err-send.field-0.0 c.in_err-send.ensures.cut)

pub returns-in_err-drain-clause-takes : goal.returns-in_err-drain-clause-takes
returns-in_err-drain-clause-takes g c = λ left taken fed unloaded unfed due states first next so_far.
    let p = err_from_is_err_and c.from_residual-in_err-drain.result c.from_residual-in_err-drain.ensures.1 in
    let id_fits : FitsSigned w32 c.in_ok-id.id = search rules in
    let sent = message_as c.args.loading.now c.in_ok-id.id left _ taken _ fed unfed c.find.new.self.place
    c.send.new.window id_fits
    (message_sent c.args.loading.now c.in_ok-id.id c.args.mtype c.send-ask.result
    c.args.self.now.sender.line c.args.self.now.sender.text c.find.new.self.sender.text left _ _ taken _ _ _ fed
    unloaded unfed c.args.self.now.place c.find.new.self.place c.args.self.now.window c.find.new.self.window
    c.send.new.window
    so_far (c.in_ok-id.ensures.finds so_far.may) due states first next c.requires.room
    (snd_is c.args.loading.now c.sending-sending.result c.send-ask.result c.in_ok-id.id c.args.mtype id_fits
    (search rules) c.sending-sending.ensures c.send-ask.ensures)
    c.find.ensures.place c.find.ensures.text c.find.ensures.window c.in_ok-send.ensures.puts) in
    rw (p.1, p.2)
    (stops_by c.args.loading.now c.in_err-drain.field-0.0 left _ _ taken _ _ fed unfed unfed
    (after_message c.find.new.self.place (to_z w32 (of_z w32 c.in_ok-id.id)))
    (after_message c.find.new.self.place (to_z w32 (of_z w32 c.in_ok-id.id)))
    c.send.new.window c.drain.new.window sent
    (c.in_err-drain.ensures.hears sent.part.waiting sent.part.snds sent.part.waits) c.drain.ensures.writes)

pub returns-in_err-drain-clause-of_line : goal.returns-in_err-drain-clause-of_line
returns-in_err-drain-clause-of_line g c =
    let p = err_from_is_err_and c.from_residual-in_err-drain.result c.from_residual-in_err-drain.ensures.1 in
    rw (p.1, p.2) (cut_of_line c.in_err-drain.field-0.0 c.in_err-drain.ensures.cut)

pub returns-clause-takes : goal.returns-clause-takes
returns-clause-takes g c = λ left taken fed unloaded unfed due states first next so_far.
    let id_fits : FitsSigned w32 c.in_ok-id.id = search rules in
    let sent = message_as c.args.loading.now c.in_ok-id.id left _ taken _ fed unfed c.find.new.self.place
    c.send.new.window id_fits
    (message_sent c.args.loading.now c.in_ok-id.id c.args.mtype c.send-ask.result
    c.args.self.now.sender.line c.args.self.now.sender.text c.find.new.self.sender.text left _ _ taken _ _ _ fed
    unloaded unfed c.args.self.now.place c.find.new.self.place c.args.self.now.window c.find.new.self.window
    c.send.new.window
    so_far (c.in_ok-id.ensures.finds so_far.may) due states first next c.requires.room
    (snd_is c.args.loading.now c.sending-sending.result c.send-ask.result c.in_ok-id.id c.args.mtype id_fits
    (search rules) c.sending-sending.ensures c.send-ask.ensures)
    c.find.ensures.place c.find.ensures.text c.find.ensures.window c.in_ok-send.ensures.puts) in
    hears_load c.args.loading.now left _ _ taken _ _ fed unfed
    (after_message c.find.new.self.place (to_z w32 (of_z w32 c.in_ok-id.id)))
    c.send.new.window c.drain.new.window sent
    (c.in_ok-drain.ensures.hears sent.part.waiting sent.part.snds sent.part.waits) c.drain.ensures.writes
