use Rattle.std.proofs.Common.{arith, refl, ◌∙◌, ◌-◌}
use Rattle.sysv_clients.proofs.StreamLemmas.{as_part, as_shown, asks_more, begins, finishes, loses, stops_at}
use Rattle.sysv_clients.proofs.StreamLemmas.{stops_writing, takes_more, unfound, unshown}
use Rattle.sysv_clients.proofs.stream.Taker.take_each.Goals as goal

pub returns-in-Err-clause-ok : goal.returns-in-Err-clause-ok
returns-in-Err-clause-ok g c =
    unfound _ c.args.receiving.now c.in-Err.why _ _ _ _ _ (c.find.ensures.page ∙ c.requires.page)
    c.in-Err.ensures.finds

pub loop-taking-init : goal.loop-taking-init
loop-taking-init g c = record {
  takes = begins _ c.args.receiving.now c.in-Ok.taking _ _ _ _ _ (c.find.ensures.page ∙ c.requires.page)
      c.in-Ok.ensures.finds;
  text = c.find.ensures.text ∙ c.requires.text;
  screen = record { same = refl; failed = refl };
  same_writer = c.find.ensures.same_writer;
}

pub returns-in-Err-request-clause-ok : goal.returns-in-Err-request-clause-ok
returns-in-Err-request-clause-ok g c =
    let r = c.in-Err-request.ensures.requests in
    c.finish.ensures.ok c.args.receiving.now _ _ _ _ c.of_receipt-style.ensures
    (rw (r.0, c.request.ensures.ask)
    (stops_writing _ c.args.receiving.now _ _ _ _ _ _ _ c.loop-taking.taking r.1 c.loop-taking.invariant.takes r.2
    r.3 r.4 r.5))

pub returns-in-Err-request-clause-err : goal.returns-in-Err-request-clause-err
returns-in-Err-request-clause-err g c =
    let r = c.in-Err-request.ensures.requests in
    c.finish.ensures.err c.args.receiving.now _ _ _ _ c.of_receipt-style.ensures
    (rw (r.0, c.request.ensures.ask)
    (stops_writing _ c.args.receiving.now _ _ _ _ _ _ _ c.loop-taking.taking r.1 c.loop-taking.invariant.takes r.2
    r.3 r.4 r.5))

pub returns-in-Refused-clause-ok : goal.returns-in-Refused-clause-ok
returns-in-Refused-clause-ok g c =
    let r = c.in-Ok-request.ensures.requests in
    let asked = asks_more _ c.args.receiving.now _ _ _ _ _ _ _ c.loop-taking.taking c.request.new.taking r.0
    c.loop-taking.invariant.takes c.request.ensures.ask c.request.ensures.owed r.1 r.3 r.4 r.5 in
    let h = c.in-Refused.ensures.takes in
    c.finish-in-Refused.ensures.ok c.args.receiving.now _ _ _ _ c.of_receipt-style.ensures
    (stops_at _ _ c.args.receiving.now c.in-Refused.error _ _ _ _ _ _ _ _ _ (c.request.new.taking.waiting - 1) asked
    (omega (arith, r.2)) h.1 h.2 h.0)

pub returns-in-Refused-clause-err : goal.returns-in-Refused-clause-err
returns-in-Refused-clause-err g c =
    let r = c.in-Ok-request.ensures.requests in
    let asked = asks_more _ c.args.receiving.now _ _ _ _ _ _ _ c.loop-taking.taking c.request.new.taking r.0
    c.loop-taking.invariant.takes c.request.ensures.ask c.request.ensures.owed r.1 r.3 r.4 r.5 in
    let h = c.in-Refused.ensures.takes in
    c.finish-in-Refused.ensures.err c.args.receiving.now _ _ _ _ c.of_receipt-style.ensures
    (stops_at _ _ c.args.receiving.now c.in-Refused.error _ _ _ _ _ _ _ _ _ (c.request.new.taking.waiting - 1) asked
    (omega (arith, r.2)) h.1 h.2 h.0)

pub returns-in-Lost-clause-ok : goal.returns-in-Lost-clause-ok
returns-in-Lost-clause-ok g c =
    let r = c.in-Ok-request.ensures.requests in
    let asked = asks_more _ c.args.receiving.now _ _ _ _ _ _ _ c.loop-taking.taking c.request.new.taking r.0
    c.loop-taking.invariant.takes c.request.ensures.ask c.request.ensures.owed r.1 r.3 r.4 r.5 in
    let h = c.in-Lost.ensures.takes in
    loses _ _ c.args.receiving.now _ _ _ _ _ _ _ _ _ asked r.2 h.1 h.2 h.0

pub returns-in-Unshown-clause-err : goal.returns-in-Unshown-clause-err
returns-in-Unshown-clause-err g c =
    let r = c.in-Ok-request.ensures.requests in
    let h = c.in-Unshown.ensures.takes in
    let asked = asks_more _ c.args.receiving.now _ _ _ _ _ _ _ c.loop-taking.taking c.request.new.taking r.0
    c.loop-taking.invariant.takes c.request.ensures.ask c.request.ensures.owed r.1 r.3 r.4 r.5 in
    unshown _ c.args.receiving.now h.0 h.1 _ _ _ _ _ _ _ _ _ (c.request.new.taking.waiting - 1) c.in-Unshown.unshown
    asked (omega (arith, r.2)) h.2 h.3 (as_part _ _ _ h.0 h.1 _ _ c.of_receipt-style.ensures h.4)

pub loop-taking-preserved : goal.loop-taking-preserved
loop-taking-preserved g c =
    let r = c.in-Ok-request.ensures.requests in
    let h = c.in-Message.ensures.takes in
    let asked = asks_more _ c.args.receiving.now _ _ _ _ _ _ _ c.loop-taking.taking c.request.new.taking r.0
    c.loop-taking.invariant.takes c.request.ensures.ask c.request.ensures.owed r.1 r.3 r.4 r.5 in
    record {
      takes = takes_more _ _ c.args.receiving.now h.0 h.1 _ _ _ _ _ _ _ _ c.request.new.taking
          (c.request.new.taking.owed - 1) (c.request.new.taking.waiting - 1) asked (omega (arith, r.2))
          (omega (arith, c.loop-taking-test.true, c.request.ensures.owed)) h.2 h.3
          (as_shown _ _ _ _ h.0 h.1 _ _ c.of_receipt-style.ensures h.4) h.5;
      text = c.take.ensures.text ∙ c.loop-taking.invariant.text;
      screen = record {
        same = c.take.ensures.screen.same ∙ c.loop-taking.invariant.screen.same;
        failed = c.in-Message.ensures.screen.failed ∙ c.loop-taking.invariant.screen.failed;
      };
      same_writer = c.request.ensures.same_writer ∙ c.loop-taking.invariant.same_writer;
    }

pub returns-clause-ok : goal.returns-clause-ok
returns-clause-ok g c =
    finishes _ c.args.receiving.now _ _ _ _ _ _ c.loop-taking.taking c.loop-taking.invariant.takes
    (omega (arith, c.loop-taking-test.false))
