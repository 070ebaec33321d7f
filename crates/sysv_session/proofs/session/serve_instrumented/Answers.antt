use Rattle.std.proofs.Common.{◌∙◌, arith, refl, subst, sym}
use Rattle.sysv_session.specs.declared.served.Served.{Served}
use Rattle.sysv_session.specs.Parse.{Follows}
use Rattle.sysv_wire.specs.declared.frame.Version.TheVariants.{Two}
use Rattle.sysv_session.proofs.Parses.{follows}
use Rattle.sysv_session.proofs.SessionLemmas.{begins, few_requests, has_room}
use Rattle.sysv_session.proofs.session.serve_instrumented.Goals as goal

pub loop-why-init : goal.loop-why-init
loop-why-init g c = record {
  so_far = begins Two g.K.Handler.meaning c.slots-slots.result c.args.handler.now _ _ c.open-session.result
      c.open-session.ensures.newest c.open-session.ensures.caller
      c.open-session.ensures.tally c.open-session.ensures.count;
  same_reader = refl;
  same_writer = refl;
  reader_failed = refl;
  writer_failed = refl;
}

pub serve_next-requires : goal.serve_next-requires
serve_next-requires g c = record {
  room =
      has_room Two g.K.Handler.meaning c.slots-slots.result c.args.handler.now _ _ c.loop-why.session c.loop-why.handler
      _ _ c.loop-why.invariant.so_far;
}

pub loop-why-preserved : goal.loop-why-preserved
loop-why-preserved g c =
    let on =
    (rw c.in_default.is at c.serve_next.ensures.serves) Two c.args.handler.now _ _ c.loop-why.invariant.so_far in
    record {
      so_far = on.1;
      same_reader = c.serve_next.ensures.reader.same ∙ c.loop-why.invariant.same_reader;
      same_writer = c.serve_next.ensures.writer.same ∙ c.loop-why.invariant.same_writer;
      reader_failed = (rw c.in_default.is at c.serve_next.ensures.reader.failed)
          ∙ c.loop-why.invariant.reader_failed;
      writer_failed = (rw c.in_default.is at c.serve_next.ensures.writer.failed)
          ∙ c.loop-why.invariant.writer_failed;
    }

pub loop-why-smaller : goal.loop-why-smaller
loop-why-smaller g c =
    let on =
    (rw c.in_default.is at c.serve_next.ensures.serves) Two c.args.handler.now _ _ c.loop-why.invariant.so_far in
    omega (
      arith,
      on.0,
      few_requests Two g.K.Handler.meaning c.slots-slots.result c.args.handler.now _ _ c.serve_next.new.session
          c.serve_next.new.handler _ _ on.1,
    )

pub returns-in-Err-clause-only : goal.returns-in-Err-clause-only
returns-in-Err-clause-only g c = λ input parse known takes.
    subst (λ (served : Served). Follows parse served) (sym c.end.ensures)
    (follows Two (c.one_answer_to_requests.ensures Two) c.one_request.ensures g.K.Handler.meaning c.slots-slots.result
    c.in-Err.why c.serve_next.new.session.tally c.serve_next.new.session.requests
    c.args.handler.now c.serve_next.new.handler input _ _ _ _ known
    (c.in-Err.ensures.serves Two c.args.handler.now _ _ c.loop-why.invariant.so_far) parse takes)
