use Rattle.std.proofs.Common.{◌+◌}
use Rattle.sysv_workers.proofs.Feeds.{marked}
use Rattle.sysv_workers.proofs.team.start.Goals as goal

pub returns-in-Err-clause-marked : goal.returns-in-Err-clause-marked
returns-in-Err-clause-marked g c =
    marked c.put_marks-put.result (c.args.started + 1) c.split-theirs.new.seat c.put_marks-put.new.seat
    c.put_marks-put.ensures.marks c.put_marks-put.ensures.worn
