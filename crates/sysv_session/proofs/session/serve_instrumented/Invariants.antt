use Rattle.std.proofs.Common.{◌≡◌, ◌-◌}
use Rattle.sysv_model.specs.Instrumented.{failures_of, stream_name, stream_of}
use Rattle.sysv_session.specs.declared.served.TheConstants.{SESSION_REQUESTS}
use Rattle.sysv_session.specs.HandedOver.{HandedOver}
use Rattle.sysv_wire.specs.declared.frame.Version.TheVariants.{Two}
use Rattle.sysv_session.proofs.session.serve_instrumented.Given as goal

abbrev pub invariant-loop-why : goal.invariant-loop-why
invariant-loop-why g l = record {
  so_far : HandedOver Two g.K.Handler.meaning l.slots l.session l.initial.handler l.handler
      (g.R.Read.remaining (stream_of l.initial.reader)) (g.R.Read.remaining (stream_of l.reader))
      (g.W.Write.contents (stream_of l.initial.writer)) (g.W.Write.contents (stream_of l.writer));
  same_reader : stream_name l.reader ≡ stream_name l.initial.reader;
  same_writer : stream_name l.writer ≡ stream_name l.initial.writer;
  reader_failed : failures_of l.reader ≡ failures_of l.initial.reader;
  writer_failed : failures_of l.writer ≡ failures_of l.initial.writer;
}

abbrev pub decreases-loop-why : goal.decreases-loop-why
decreases-loop-why g l = SESSION_REQUESTS - l.session.requests
