use Rattle.std.proofs.Common.{◌∙◌}
use Rattle.std.proofs.lemmas.Result.{err_from_is_err_and}
use Rattle.sysv_clients.proofs.ClearLemmas.{breaks_off, finishes, goes_on, no_hello, opens}
use Rattle.sysv_clients.proofs.clearing.Remover.remove_each.Goals as goal

pub returns-in_err-welcome-clause-clears : goal.returns-in_err-welcome-clause-clears
returns-in_err-welcome-clause-clears g c =
    let p = err_from_is_err_and c.from_residual.result c.from_residual.ensures.1 in
    rw (p.1, p.2)
    (no_hello c.args.cred c.in_err-welcome.field-0.0 c.exchange.new.given c.args.self.now.text _ _ _ _
    c.args.refusals.now.items c.requires c.in_err-welcome.ensures.exchanges)

pub returns-in_err-welcome-clause-same_reader : goal.returns-in_err-welcome-clause-same_reader
returns-in_err-welcome-clause-same_reader g c = c.exchange.ensures.same_reader

pub returns-in_err-welcome-clause-same_writer : goal.returns-in_err-welcome-clause-same_writer
returns-in_err-welcome-clause-same_writer g c = c.exchange.ensures.same_writer

pub loop-ask-init : goal.loop-ask-init
loop-ask-init g c = record {
  clears = rw c.begun-clearing.ensures
      (opens c.args.cred c.in_ok-welcome.welcome c.exchange.new.given c.args.self.now.text _ _ _ _
      c.args.refusals.now.items c.in_ok-welcome.ensures.exchanges);
  text = c.requires;
  same_reader = c.exchange.ensures.same_reader;
  same_writer = c.exchange.ensures.same_writer;
}

pub returns-in_err-answer-clause-clears : goal.returns-in_err-answer-clause-clears
returns-in_err-answer-clause-clears g c =
    let p = err_from_is_err_and c.from_residual-in_err-answer.result c.from_residual-in_err-answer.ensures.1 in
    rw (p.1, p.2)
    (breaks_off c.args.cred c.in-Some.ask c.exchange-outcome.result c.in_err-answer.field-0.0
    c.exchange-outcome.new.given c.loop-ask.self.text _ _ _ _ _ _ c.args.refusals.now.items c.loop-ask.refusals.items
    c.tried.new.refusals.items c.loop-ask.clearing c.loop-ask.invariant.clears c.in-Some.ensures.ask
    c.loop-ask.invariant.text c.exchange-outcome.ensures.exchanges c.in_err-answer.ensures)

pub returns-in_err-answer-clause-same_reader : goal.returns-in_err-answer-clause-same_reader
returns-in_err-answer-clause-same_reader g c =
    c.exchange-outcome.ensures.same_reader ∙ c.loop-ask.invariant.same_reader

pub returns-in_err-answer-clause-same_writer : goal.returns-in_err-answer-clause-same_writer
returns-in_err-answer-clause-same_writer g c =
    c.exchange-outcome.ensures.same_writer ∙ c.loop-ask.invariant.same_writer

pub loop-ask-preserved : goal.loop-ask-preserved
loop-ask-preserved g c = record {
  clears = rw c.moved-clearing.ensures
      (goes_on c.args.cred c.in-Some.ask c.exchange-outcome.result c.in_ok-answer.answer c.exchange-outcome.new.given
      c.loop-ask.self.text _ _ _ _ _ _ c.args.refusals.now.items c.loop-ask.refusals.items c.tried.new.refusals.items
      c.loop-ask.clearing c.loop-ask.invariant.clears c.in-Some.ensures.ask c.exchange-outcome.ensures.exchanges
      c.in_ok-answer.ensures);
  text = c.loop-ask.invariant.text;
  same_reader = c.exchange-outcome.ensures.same_reader ∙ c.loop-ask.invariant.same_reader;
  same_writer = c.exchange-outcome.ensures.same_writer ∙ c.loop-ask.invariant.same_writer;
}

pub returns-clause-clears : goal.returns-clause-clears
returns-clause-clears g c =
    finishes c.args.cred _ _ _ _ _ c.args.refusals.now.items c.loop-ask.refusals.items c.loop-ask.clearing
    c.loop-ask.invariant.clears c.in_default.ensures.ask

pub returns-clause-same_reader : goal.returns-clause-same_reader
returns-clause-same_reader g c = c.loop-ask.invariant.same_reader

pub returns-clause-same_writer : goal.returns-clause-same_writer
returns-clause-same_writer g c = c.loop-ask.invariant.same_writer
