use Rattle.std.proofs.lemmas.Result.{err_from_is_err_and}
use Rattle.sysv_clients.proofs.HoldLemmas.{fails_at, holds_one, not_held, undone}
use Rattle.sysv_clients.proofs.holding.Holder.hold_one.Goals as goal

pub returns-in_err-answer-clause-holds : goal.returns-in_err-answer-clause-holds
returns-in_err-answer-clause-holds g c =
    let p = err_from_is_err_and c.from_residual.result c.from_residual.ensures.1 in
    rw (p.1, p.2)
    (not_held c.args.style.now c.args.ask c.in_err-answer.field-0.0 c.args.self.now.text c.exchange_in.new.given
    _ _ _ _ _ c.requires.text c.in_err-answer.ensures.exchanges)

pub returns-in_err-show-clause-holds : goal.returns-in_err-show-clause-holds
returns-in_err-show-clause-holds g c =
    let p = err_from_is_err_and c.from_residual-in_err-show.result c.from_residual-in_err-show.ensures.1 in
    rw (p.1, p.2)
    (fails_at c.args.style.now c.args.ask c.in_ok-answer.answer c.in_err-show.field-0.0 c.args.self.now.text
    c.exchange_in.new.given _ _ _ _ _ _ c.requires.text c.in_ok-answer.ensures.exchanges c.in_err-show.ensures.err)

pub returns-in-Ok-clause-holds : goal.returns-in-Ok-clause-holds
returns-in-Ok-clause-holds g c =
    holds_one c.args.style.now c.args.ask c.in_ok-answer.answer c.in-Ok.field-0 c.args.self.now.text
    c.exchange_in.new.given c.exchange_in-2.new.given _ _ _ _ _ _ _ _ c.requires.text
    c.in_ok-answer.ensures.exchanges c.in_ok-show.ensures.ok c.in-Ok.ensures.exchanges

pub returns-in-Err-clause-holds : goal.returns-in-Err-clause-holds
returns-in-Err-clause-holds g c =
    undone c.args.style.now c.args.ask c.in_ok-answer.answer c.in-Err.why c.args.self.now.text
    c.exchange_in.new.given c.exchange_in-2.new.given _ _ _ _ _ _ _ _ c.requires.text
    c.in_ok-answer.ensures.exchanges c.in_ok-show.ensures.ok c.in-Err.ensures.exchanges
