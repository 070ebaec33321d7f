use Rattle.std.proofs.Common.{rules, ◌≡◌, length, arith, sym, ◌∙◌}
use Rattle.std.proofs.lemmas.Result.{err_from_is_err_and}
use Rattle.sysv_wire.proofs.RequestLemmas.{broken_later, text_length}
use Rattle.sysv_wire.proofs.requests.read_ask.Goals as goal

pub returns-in_err-read_text-clause-fault : goal.returns-in_err-read_text-clause-fault
returns-in_err-read_text-clause-fault g c =
    let p = err_from_is_err_and c.from_residual-in_err-read_text.result c.from_residual-in_err-read_text.ensures.1 in
    let wanted =
    text_length c.args.op c.args.whole (sym c.takes_text.ensures ∙ c.if-takes_text.true) c.requires.wanted in
    let len : length c.fill_all.new.bytes ≡ c.len_of-len.result = search rules in
    rw (p.1, p.2)
    (broken_later _ _ _ _ _ _ _ (omega (arith, wanted, len, c.len_of-len.ensures)) c.in_ok-fill_all.ensures.taken
    c.in_err-read_text.ensures.fault)
