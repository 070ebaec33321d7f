-- The handler's calls are those of the service with its pass.
use Rattle.std.proofs.Common.{Bor}
use Rattle.sysv_keys.specs.declared.identifier.TheConstants.{SLOTS}
use Rattle.sysv_model.specs.Instrumented.{stream_of}
use Rattle.sysv_seats.specs.declared.handler.ServiceHandler.{ServiceHandler}
use Rattle.sysv_wire.specs.declared.frame.Version.TheVariants.{Two}
use Rattle.sysv_seats.proofs.Sessions.{serves}
use Rattle.sysv_seats.proofs.handler.ServiceHandler.serve_instrumented.Goals as goal

pub returns : goal.returns
returns g c =
    let done =
    serves (λ (k : ServiceHandler g.row.C.Denot g.row.R.Denot g.C.Clock). k.service)
    (λ (k : ServiceHandler g.row.C.Denot g.row.R.Denot g.C.Clock). k.clock)
    (λ (k : ServiceHandler g.row.C.Denot g.row.R.Denot g.C.Clock). k.pass)
    (λ (clock : Bor g.row.C.Denot). g.C.Clock.may clock.now)
    ⊥ Two SLOTS c.serve_instrumented.result c.args.self.now c.serve_instrumented.new.handler
    (g.I.Read.remaining (stream_of c.args.reader.now))
    (g.I.Read.remaining (stream_of c.serve_instrumented.new.reader))
    (g.O.Write.contents (stream_of c.args.writer.now)) (g.O.Write.contents (stream_of c.serve_instrumented.new.writer))
    c.serve_instrumented.ensures.serves in
    record {
      serves = done.2;
      only = c.serve_instrumented.ensures.only;
      memory = c.serve_instrumented.ensures.memory;
      reader = c.serve_instrumented.ensures.reader;
      writer = c.serve_instrumented.ensures.writer;
      handles = (done.0, done.1);
    }
