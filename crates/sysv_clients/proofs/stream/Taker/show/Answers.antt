use Rattle.std.proofs.Common.{◌≡◌, ◌++◌, rules}
use Rattle.std.proofs.lemmas.Result.{err_from_is_err_and}
use Rattle.sysv_clients.specs.Stream.{received_text}
use Rattle.sysv_clients.proofs.StreamLemmas.{but_whole, part_longer, part_whole}
use Rattle.sysv_clients.proofs.stream.Taker.show.Goals as goal

pub returns-in_err-make_room-in-Rcv-clause-err : goal.returns-in_err-make_room-in-Rcv-clause-err
returns-in_err-make_room-in-Rcv-clause-err g c =
    let p = err_from_is_err_and c.from_residual.result c.from_residual.ensures.1 in
    rw p.1
    (part_longer _ _ _ _ c.in_err-make_room-in-Rcv.ensures.err)

pub returns-in_err-show_page-in-Rcv-clause-err : goal.returns-in_err-show_page-in-Rcv-clause-err
returns-in_err-show_page-in-Rcv-clause-err g c =
    let p = err_from_is_err_and c.from_residual-in_err-show_page-in-Rcv.result
    c.from_residual-in_err-show_page-in-Rcv.ensures.1 in
    let text = received_text c.args.style.now c.args.answer.now c.args.self.now.given in
    let whole : c.message.new.self ≡ c.make_room.new.self.page ++ text = search rules in
    rw p.1
    (part_whole _ _ _ _ _ _ _ c.in_ok-make_room-in-Rcv.ensures.ok whole c.in_err-show_page-in-Rcv.ensures.err)

pub returns-in_ok-show_page-in-Rcv-clause-ok : goal.returns-in_ok-show_page-in-Rcv-clause-ok
returns-in_ok-show_page-in-Rcv-clause-ok g c =
    let text = received_text c.args.style.now c.args.answer.now c.args.self.now.given in
    let whole : c.message.new.self ≡ c.make_room.new.self.page ++ text = search rules in
    but_whole _ _ _ _ _ _ _ _ c.in_ok-make_room-in-Rcv.ensures.ok whole c.in_ok-show_page-in-Rcv.ensures.page
    c.in_ok-show_page-in-Rcv.ensures.ok
