-- What `stop_counting` does, without the number of messages.
use Rattle.sysv_service.proofs.service.Service.stop.Goals as goal

pub returns-clause-stopped : goal.returns-clause-stopped
returns-clause-stopped g c =
    let stopped = c.stop_counting.ensures.stopped in
    (stopped.0, stopped.1, stopped.2.run, stopped.3)
