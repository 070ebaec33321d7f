use Rattle.std.proofs.Common.{ap}
use Rattle.sysv_steps.specs.Pending.{pending}
use Rattle.sysv_steps.specs.State.{Goes}
use Rattle.sysv_steps.proofs.pending.Waiting.resume.Goals as goal

pub returns-in-Get-clause-next : goal.returns-in-Get-clause-next
returns-in-Get-clause-next c = λ text.
    rw c.in-Get.is (ap (λ phase. pending (Goes phase)) (c.resume.ensures c.args.value))

pub returns-in-Send-clause-next : goal.returns-in-Send-clause-next
returns-in-Send-clause-next c = λ text.
    rw c.in-Send.is (ap (λ phase. pending (Goes phase)) (c.resume-in-Send.ensures.next text))

pub returns-in-Receive-clause-next : goal.returns-in-Receive-clause-next
returns-in-Receive-clause-next c = λ text.
    rw c.in-Receive.is (ap (λ phase. pending (Goes phase)) (c.resume-in-Receive.ensures c.args.value text))
