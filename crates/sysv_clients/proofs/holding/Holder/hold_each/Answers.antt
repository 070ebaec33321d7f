use Rattle.std.proofs.Common.{arith, refl, ◌∙◌, ◌-◌}
use Rattle.std.proofs.lemmas.Result.{err_from_is_err_and}
use Rattle.sysv_clients.proofs.HoldLemmas.{all_done, begins, ends_at_next, holds_more, unfound}
use Rattle.sysv_clients.proofs.holding.Holder.hold_each.Goals as goal

pub returns-in_err-ask-clause-holds : goal.returns-in_err-ask-clause-holds
returns-in_err-ask-clause-holds g c =
    let p = err_from_is_err_and c.from_residual.result c.from_residual.ensures.1 in
    rw (p.1, p.2)
    (unfound c.args.receiving.now c.in_err-ask.field-0.0 _ _ _ _ _ c.in_err-ask.ensures.finds)

pub loop-owed-init : goal.loop-owed-init
loop-owed-init g c = record {
  holds = begins c.args.receiving.now c.in_ok-ask.ask _ _ _ _ _ _ c.in_ok-ask.ensures.finds c.messages-owed.ensures;
  text = c.find.ensures.text ∙ c.requires.text;
  page = c.find.ensures.page ∙ c.requires.page;
  screen = record { same = refl; failed = refl };
  same_writer = c.find.ensures.same_writer;
}

pub returns-in_err-hold_one-clause-holds : goal.returns-in_err-hold_one-clause-holds
returns-in_err-hold_one-clause-holds g c =
    let p = err_from_is_err_and c.from_residual-in_err-hold_one.result c.from_residual-in_err-hold_one.ensures.1 in
    rw (p.1, p.2)
    (ends_at_next c.args.receiving.now _ _ c.loop-owed.owed c.in_err-hold_one.field-0.0 _ _ _ _ _ _ _ _ _
    c.of_receipt-style.ensures c.loop-owed.invariant.holds c.loop-owed-test.true c.in_err-hold_one.ensures.holds)

pub loop-owed-preserved : goal.loop-owed-preserved
loop-owed-preserved g c = record {
  holds = holds_more c.args.receiving.now _ _ c.loop-owed.owed (c.loop-owed.owed - 1) _ _ _ _ _ _ _ _ _
      c.of_receipt-style.ensures c.loop-owed.invariant.holds (omega (arith, c.loop-owed-test.true))
      c.in_ok-hold_one.ensures.holds;
  text = c.hold_one.ensures.text ∙ c.loop-owed.invariant.text;
  page = c.in_ok-hold_one.ensures.page;
  screen = record {
    same = c.hold_one.ensures.screen.same ∙ c.loop-owed.invariant.screen.same;
    failed = c.in_ok-hold_one.ensures.screen.failed ∙ c.loop-owed.invariant.screen.failed;
  };
  same_writer = c.hold_one.ensures.same_writer ∙ c.loop-owed.invariant.same_writer;
}

pub returns-clause-holds : goal.returns-clause-holds
returns-clause-holds g c =
    all_done c.args.receiving.now _ c.loop-owed.owed _ _ _ _ _ _ c.loop-owed.invariant.holds
    (omega (arith, c.loop-owed-test.false))
