use Rattle.std.proofs.lemmas.Int.{to_z-of_z}
use Rattle.sysv_steps.specs.State.{Zero}
use Rattle.sysv_steps.specs.Seen.{ending_of}
use Rattle.sysv_service.proofs.ProceedsByStep.{from_start, tells_zero}
use Rattle.sysv_service.proofs.service.Service.msgctl_set.Goals as goal

pub returns-clause-ran : goal.returns-clause-ran
returns-clause-ran g c =
    let id = c.ranges.id in
    let ran = from_start (c.begin.ensures 0) c.finish.ensures.ran in
    let comes = simp to_z-of_z at ran in
    (ending_of (λ _. Zero) c.finish.result, comes, tells_zero c.finish.result)
