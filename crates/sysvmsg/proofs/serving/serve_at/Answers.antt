-- The server ended like this, whatever was then printed of it.
use Rattle.sysvmsg.proofs.serving.serve_at.Goals as goal

pub returns-in-Ok : goal.returns-in-Ok
returns-in-Ok g c = record {
  outcome = record { ended = c.run_server.result; reason = c.run_server.new.reason };
  ends = c.run_server.ensures.ends;
  setting = c.run_server.ensures.setting;
  meant = c.run_server.ensures.meant;
  failed = c.run_server.ensures.fails;
  reports = rw c.in-Ok.is c.end.ensures;
}

pub returns-in-Err : goal.returns-in-Err
returns-in-Err g c = record {
  outcome = record { ended = c.run_server.result; reason = c.run_server.new.reason };
  ends = c.run_server.ensures.ends;
  setting = c.run_server.ensures.setting;
  meant = c.run_server.ensures.meant;
  failed = c.run_server.ensures.fails;
  reports = λ succeeds. absurd (c.fail.ensures succeeds);
}
