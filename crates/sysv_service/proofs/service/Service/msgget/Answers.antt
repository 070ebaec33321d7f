use Rattle.std.proofs.lemmas.Int.{to_z-of_z}
use Rattle.sysv_steps.specs.State.{Id}
use Rattle.sysv_steps.specs.Seen.{ending_of}
use Rattle.sysv_service.proofs.ProceedsByStep.{from_start, tells_id}
use Rattle.sysv_service.proofs.service.Service.msgget.Goals as goal

pub returns-clause-ran : goal.returns-clause-ran
returns-clause-ran g c =
    let key = c.ranges.key in
    let ran = from_start (c.begin.ensures 0) c.run.ensures.ran in
    let comes = simp to_z-of_z at ran in
    (ending_of Id c.run.result, comes, tells_id c.run.result)
