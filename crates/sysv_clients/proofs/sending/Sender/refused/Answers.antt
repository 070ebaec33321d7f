use Rattle.std.proofs.Common.{ℕ, [], arith, ◌∙◌, ◌-◌, ◌+◌, sym, refl, inl, inr, ap}
use Rattle.sysv_wire.specs.declared.reply.ReplyContent.TheVariants.{Refused}
use Rattle.sysv_clients.proofs.RefusalLemmas.{done_accepts, refuses, refuses_cut, refuses_more}
use Rattle.sysv_clients.proofs.WindowLemmas.{done_so}
use Rattle.sysv_clients.proofs.sending.Sender.refused.Goals as goal
use Rattle.sysv_clients.proofs.sending.Sender.refused.Goals.{in-Done, in-Refused}

pub loop-cut-init : goal.loop-cut-init
loop-cut-init g c = record {
  refusing = λ waiting left snds waits replied.
      refuses c.args.error waiting left _ c.args.window.now (c.args.window.now.waiting - 1) snds waits
      (omega (arith, c.requires)) replied;
  before = refl;
  few = omega (arith, c.requires);
  chunk = refl;
  same_reader = refl;
}

pub loop-cut-preserved : goal.loop-cut-preserved
loop-cut-preserved g c =
    let cut = c.loop-cut.cut in
    elim c.match-hear_send.branch [
      | in-Done w ↦
          let h = w.in-Done.ensures.hears in
          record {
            refusing = λ waiting left snds waits replied.
                rw w.cut-is
                (refuses_more c.args.error h.0 h.1 waiting left _ _ cut (cut.after + 1) (cut.unknown - 1)
                (c.loop-cut.invariant.refusing waiting left snds waits replied)
                (omega (arith, c.loop-cut-test.true))
                (ap (λ (n : ℕ). cut.after + n) (sym (done_accepts h.0 h.3.done))) h.2
                (λ ask text send. inl (done_so ask h.0 h.1 send h.3)));
            before = rw w.cut-is c.loop-cut.invariant.before;
            few = rw w.cut-is (omega (arith, c.loop-cut-test.true, c.loop-cut.invariant.few));
            chunk = c.hear_send.ensures.chunk ∙ c.loop-cut.invariant.chunk;
            same_reader = c.hear_send.ensures.same_reader ∙ c.loop-cut.invariant.same_reader;
          }
      | in-Refused w ↦
          let error = w.in-Refused.field-0 in
          record {
            refusing = λ waiting left snds waits replied.
                rw w.cut-is
                (refuses_more c.args.error (Refused error) [] waiting left _ _ cut cut.after (cut.unknown - 1)
                (c.loop-cut.invariant.refusing waiting left snds waits replied)
                (omega (arith, c.loop-cut-test.true)) (omega arith) w.in-Refused.ensures.hears
                (λ ask text send. inr (error, (refl, refl))));
            before = rw w.cut-is c.loop-cut.invariant.before;
            few = rw w.cut-is (omega (arith, c.loop-cut-test.true, c.loop-cut.invariant.few));
            chunk = c.hear_send.ensures.chunk ∙ c.loop-cut.invariant.chunk;
            same_reader = c.hear_send.ensures.same_reader ∙ c.loop-cut.invariant.same_reader;
          }
    ]

pub returns-in-Lost-clause-ends : goal.returns-in-Lost-clause-ends
returns-in-Lost-clause-ends g c = λ waiting left snds waits replied.
    refuses_cut c.args.error waiting left _ _ c.args.window.now c.loop-cut.cut
    (c.loop-cut.invariant.refusing waiting left snds waits replied) c.loop-cut.invariant.before
    (inr c.in-Lost.ensures.hears)

pub returns-clause-ends : goal.returns-clause-ends
returns-clause-ends g c = λ waiting left snds waits replied.
    refuses_cut c.args.error waiting left _ _ c.args.window.now c.loop-cut.cut
    (c.loop-cut.invariant.refusing waiting left snds waits replied) c.loop-cut.invariant.before (inl refl)
