use Rattle.std.proofs.Common.{arith, refl, ◌∙◌, ◌-◌}
use Rattle.sysv_clients.proofs.StreamLemmas.{as_part, as_shown, stops_again, stops_all, stops_lost, stops_more}
use Rattle.sysv_clients.proofs.StreamLemmas.{stops_unshown}
use Rattle.sysv_clients.proofs.stream.Taker.finish.Goals as goal
use Rattle.sysv_clients.proofs.stream.Taker.finish.Goals.{in-Message, in-Refused}

pub loop-waiting-init : goal.loop-waiting-init
loop-waiting-init g c = record {
  stops = λ receiving left taken more shown style stops. stops;
  screen = record { same = refl; failed = refl };
}

pub returns-in-Lost-clause-ok : goal.returns-in-Lost-clause-ok
returns-in-Lost-clause-ok g c = λ receiving left taken more shown style stops.
    let h = c.in-Lost.ensures.takes in
    stops_lost _ _ receiving c.loop-waiting.why left _ _ taken more shown _ _ c.args.taking.now.ask
    c.loop-waiting.waiting (c.loop-waiting.invariant.stops receiving left taken more shown style stops)
    (omega (arith, c.loop-waiting-test.true)) h.1 h.2 h.0

pub returns-in-Unshown-clause-err : goal.returns-in-Unshown-clause-err
returns-in-Unshown-clause-err g c = λ receiving left taken more shown style stops.
    let h = c.in-Unshown.ensures.takes in
    stops_unshown _ receiving c.loop-waiting.why h.0 h.1 left _ _ taken more shown _ _ c.args.taking.now.ask
    c.loop-waiting.waiting (c.loop-waiting.waiting - 1) c.in-Unshown.unshown
    (c.loop-waiting.invariant.stops receiving left taken more shown style stops)
    (omega (arith, c.loop-waiting-test.true)) h.2 h.3 (as_part _ _ _ h.0 h.1 _ _ style h.4)

pub loop-waiting-preserved : goal.loop-waiting-preserved
loop-waiting-preserved g c =
    elim c.match-take.branch [
      | in-Message w ↦
          let h = w.in-Message.ensures.takes in
          record {
            stops = λ receiving left taken more shown style stops.
                rw w.why-is
                (stops_more _ _ receiving c.loop-waiting.why h.0 h.1 left _ _ taken more shown _ _
                c.args.taking.now.ask c.loop-waiting.waiting (c.loop-waiting.waiting - 1)
                (c.loop-waiting.invariant.stops receiving left taken more shown style stops)
                (omega (arith, c.loop-waiting-test.true)) h.2 h.3 (as_shown _ _ _ _ h.0 h.1 _ _ style h.4));
            screen = record {
              same = c.take.ensures.screen.same ∙ c.loop-waiting.invariant.screen.same;
              failed = w.in-Message.ensures.screen.failed ∙ c.loop-waiting.invariant.screen.failed;
            };
          }
      | in-Refused w ↦
          let h = w.in-Refused.ensures.takes in
          record {
            stops = λ receiving left taken more shown style stops.
                rw (w.why-is, w.first_of-why.ensures)
                (stops_again _ _ receiving c.loop-waiting.why w.in-Refused.error left _ _ taken more shown _ _
                c.args.taking.now.ask c.loop-waiting.waiting (c.loop-waiting.waiting - 1)
                (c.loop-waiting.invariant.stops receiving left taken more shown style stops)
                (omega (arith, c.loop-waiting-test.true)) h.1 h.2 h.0);
            screen = record {
              same = c.take.ensures.screen.same ∙ c.loop-waiting.invariant.screen.same;
              failed = w.in-Refused.ensures.screen.failed ∙ c.loop-waiting.invariant.screen.failed;
            };
          }
    ]

pub returns-clause-ok : goal.returns-clause-ok
returns-clause-ok g c = λ receiving left taken more shown style stops.
    stops_all _ receiving c.loop-waiting.why left _ taken more shown _ c.args.taking.now.ask c.loop-waiting.waiting
    (c.loop-waiting.invariant.stops receiving left taken more shown style stops)
    (omega (arith, c.loop-waiting-test.false))
