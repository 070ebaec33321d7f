use Rattle.std.proofs.Common.{inl, inr, refl, ◌∙◌}
use Rattle.std.proofs.lemmas.Result.{err_from_is_err_and}
use Rattle.sysv_clients.proofs.SaveLemmas.{breaks_off, fails_at, fails_first, finishes, goes_on, no_hello, opens}
use Rattle.sysv_clients.proofs.SaveLemmas.{first_synced, less_to_do, no_output, short, still_synced}
use Rattle.sysv_clients.proofs.saving.Saver.save_each.Goals as goal

pub returns-in_err-welcome-clause-saves : goal.returns-in_err-welcome-clause-saves
returns-in_err-welcome-clause-saves g c =
    let p = err_from_is_err_and c.from_residual.result c.from_residual.ensures.1 in
    rw (p.1, p.2)
    (no_hello c.args.saving.now c.in_err-welcome.field-0.0 c.exchange_in.new.given c.args.self.now.text _ _ _ _ _
    c.args.refusals.now.items c.requires.text c.in_err-welcome.ensures.exchanges)

pub returns-in_err-welcome-clause-synced : goal.returns-in_err-welcome-clause-synced
returns-in_err-welcome-clause-synced g c = λ on fine. inl refl

pub returns-in_err-show-clause-synced : goal.returns-in_err-show-clause-synced
returns-in_err-show-clause-synced g c =
    let p = err_from_is_err_and c.from_residual-in_err-show.result c.from_residual-in_err-show.ensures.1 in
    rw (p.1, p.2) (no_output c.args.saving.now c.in_err-show.field-0.0 _ _ _)

pub returns-in_err-show-clause-saves : goal.returns-in_err-show-clause-saves
returns-in_err-show-clause-saves g c =
    let p = err_from_is_err_and c.from_residual-in_err-show.result c.from_residual-in_err-show.ensures.1 in
    rw (p.1, p.2)
    (fails_first c.args.saving.now c.in_ok-welcome.welcome c.in_err-show.field-0.0 c.exchange_in.new.given
    c.args.self.now.text _ _ _ _ _ _ c.args.refusals.now.items c.in_ok-welcome.ensures.exchanges
    c.in_err-show.ensures.line c.in_err-show.ensures.err)

pub loop-ask-init : goal.loop-ask-init
loop-ask-init g c = record {
  saves = rw c.begun-stage.ensures
      (opens c.args.saving.now c.in_ok-welcome.welcome c.exchange_in.new.given c.args.self.now.text _ _ _ _ _ _
      c.args.refusals.now.items c.in_ok-welcome.ensures.exchanges c.in_ok-show.ensures.ok);
  synced = first_synced c.args.saving.now c.in_ok-welcome.welcome c.exchange_in.new.given _ _ _ _
      c.args.saving.now.syncs c.in_ok-show.ensures.synced;
  text = c.show.ensures.text ∙ c.requires.text;
  page = c.in_ok-show.ensures.page;
  screen = record { same = c.show.ensures.kept.same; failed = c.in_ok-show.ensures.kept.failed };
  same_writer = c.exchange_in.ensures.same_writer;
}

pub returns-in_err-answer-clause-saves : goal.returns-in_err-answer-clause-saves
returns-in_err-answer-clause-saves g c =
    let p = err_from_is_err_and c.from_residual-in_err-answer.result c.from_residual-in_err-answer.ensures.1 in
    rw (p.1, p.2)
    (breaks_off c.args.saving.now c.in-Some.ask c.exchange_in-outcome.result c.in_err-answer.field-0.0
    c.exchange_in-outcome.new.given c.loop-ask.self.text _ _ _ _ _ _ _ _ c.args.refusals.now.items
    c.loop-ask.refusals.items c.tried.new.refusals.items c.loop-ask.stage c.loop-ask.invariant.saves
    c.in-Some.ensures.ask c.loop-ask.invariant.text c.exchange_in-outcome.ensures.exchanges c.in_err-answer.ensures)

pub returns-in_err-answer-clause-synced : goal.returns-in_err-answer-clause-synced
returns-in_err-answer-clause-synced g c = λ on fine. inr (c.loop-ask.invariant.synced on)

pub returns-in_err-show-2-clause-synced : goal.returns-in_err-show-2-clause-synced
returns-in_err-show-2-clause-synced g c =
    let p = err_from_is_err_and c.from_residual-in_err-show-2.result c.from_residual-in_err-show-2.ensures.1 in
    rw (p.1, p.2) (no_output c.args.saving.now c.in_err-show-2.field-0.0 _ _ _)

pub returns-in_err-show-2-clause-saves : goal.returns-in_err-show-2-clause-saves
returns-in_err-show-2-clause-saves g c =
    let p = err_from_is_err_and c.from_residual-in_err-show-2.result c.from_residual-in_err-show-2.ensures.1 in
    rw (p.1, p.2)
    (fails_at c.args.saving.now c.in-Some.ask c.exchange_in-outcome.result c.in_ok-answer.answer
    c.in_err-show-2.field-0.0
    c.exchange_in-outcome.new.given c.loop-ask.self.text _ _ _ _ _ _ _ _ _ c.args.refusals.now.items
    c.loop-ask.refusals.items c.tried.new.refusals.items c.loop-ask.stage c.loop-ask.invariant.saves
    c.in-Some.ensures.ask c.exchange_in-outcome.ensures.exchanges c.in_ok-answer.ensures c.in_err-show-2.ensures.line
    c.in_err-show-2.ensures.err)

pub loop-ask-preserved : goal.loop-ask-preserved
loop-ask-preserved g c = record {
  saves = rw c.moved-stage.ensures
      (goes_on c.args.saving.now c.in-Some.ask c.exchange_in-outcome.result c.in_ok-answer.answer
      c.exchange_in-outcome.new.given c.loop-ask.self.text _ _ _ _ _ _ _ _ _ c.args.refusals.now.items
      c.loop-ask.refusals.items c.tried.new.refusals.items c.loop-ask.stage c.loop-ask.invariant.saves
      c.in-Some.ensures.ask c.exchange_in-outcome.ensures.exchanges c.in_ok-answer.ensures
      c.in_ok-show-2.ensures.ok);
  synced = still_synced c.args.saving.now.syncs _ _ _ _ _ c.in_ok-show-2.ensures.synced
      c.loop-ask.invariant.synced;
  text = c.show-in-Some.ensures.text ∙ c.loop-ask.invariant.text;
  page = c.in_ok-show-2.ensures.page;
  screen = record {
    same = c.show-in-Some.ensures.kept.same ∙ c.loop-ask.invariant.screen.same;
    failed = c.in_ok-show-2.ensures.kept.failed ∙ c.loop-ask.invariant.screen.failed;
  };
  same_writer = c.exchange_in-outcome.ensures.same_writer ∙ c.loop-ask.invariant.same_writer;
}

pub loop-ask-smaller : goal.loop-ask-smaller
loop-ask-smaller g c =
    less_to_do c.args.saving.now c.loop-ask.stage c.moved-stage.result c.in-Some.ask c.in_ok-answer.answer
    c.in-Some.ensures.ask c.in-Some.ensures.few c.moved-stage.ensures

pub returns-clause-saves : goal.returns-clause-saves
returns-clause-saves g c =
    finishes c.args.saving.now _ _ _ _ _ _ _ c.args.refusals.now.items c.loop-ask.refusals.items c.loop-ask.stage
    c.loop-ask.invariant.saves c.in_default.ensures.ask

pub returns-clause-synced : goal.returns-clause-synced
returns-clause-synced g c = λ on fine. inr (c.loop-ask.invariant.synced on)

pub show-requires-in-Some-clause-given : goal.show-requires-in-Some-clause-given
show-requires-in-Some-clause-given g c =
    short c.in-Some.ask c.exchange_in-outcome.result c.in_ok-answer.answer c.exchange_in-outcome.new.given
    c.loop-ask.self.text _ _ _ _ c.loop-ask.refusals.items c.tried.new.refusals.items
    c.exchange_in-outcome.ensures.exchanges c.in_ok-answer.ensures
