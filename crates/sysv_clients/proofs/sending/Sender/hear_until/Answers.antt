use Rattle.std.proofs.Common.{arith, refl, ◌∙◌, ◌-◌}
use Rattle.sysv_clients.proofs.WindowLemmas.{cut_after, hears_more, hears_none, loses_reply}
use Rattle.sysv_clients.proofs.sending.Sender.hear_until.Goals as goal

pub loop-window-init : goal.loop-window-init
loop-window-init g c = record {
  hears = λ waiting snds waits. hears_none waiting _ c.args.window.now snds waits;
  len = refl;
  chunk = refl;
  same_reader = refl;
}

pub loop-window-preserved : goal.loop-window-preserved
loop-window-preserved g c = record {
  hears = λ waiting snds waits.
      let h = c.in-Done.ensures.hears in
      let window = c.loop-window.window in
      hears_more waiting h.0 h.1 _ _ _ c.args.window.now window (window.waiting - 1)
      (c.loop-window.invariant.hears waiting snds waits) (omega (arith, c.loop-window-test.true)) h.2 h.3;
  len = omega (arith, c.loop-window-test.true, c.loop-window.invariant.len);
  chunk = c.hear_send.ensures.chunk ∙ c.loop-window.invariant.chunk;
  same_reader = c.hear_send.ensures.same_reader ∙ c.loop-window.invariant.same_reader;
}

pub returns-in-Refused-clause-hears : goal.returns-in-Refused-clause-hears
returns-in-Refused-clause-hears g c = λ waiting snds waits.
    let so_far = c.loop-window.invariant.hears waiting snds waits in
    cut_after waiting _ _ _ c.args.window.now c.loop-window.window c.refused.result so_far
    (c.refused.ensures.ends so_far.others _ so_far.snds so_far.waits c.in-Refused.ensures.hears)

pub returns-in-Lost-clause-hears : goal.returns-in-Lost-clause-hears
returns-in-Lost-clause-hears g c = λ waiting snds waits.
    let so_far = c.loop-window.invariant.hears waiting snds waits in
    rw c.lost.ensures
    (cut_after waiting _ _ _ c.args.window.now c.loop-window.window _ so_far
    (loses_reply so_far.others _ _ c.loop-window.window so_far.waits
    (omega (arith, c.loop-window-test.true)) c.in-Lost.ensures.hears))

pub returns-clause-hears : goal.returns-clause-hears
returns-clause-hears g c = λ waiting snds waits. c.loop-window.invariant.hears waiting snds waits
