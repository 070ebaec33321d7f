use Rattle.std.proofs.Common.{refl, rules, w32}
use Rattle.std.specs.Prelude.{FitsSigned}
use Rattle.std.proofs.lemmas.Int.{to_z-of_z}
use Rattle.sysv_steps.proofs.pending.Waiting.awaits.Goals as goal

pub returns-in-Get-clause-count : goal.returns-in-Get-clause-count
returns-in-Get-clause-count c = λ text. rw c.in-Get.is refl

pub returns-in-Get-clause-above : goal.returns-in-Get-clause-above
returns-in-Get-clause-above c = λ text. rw c.in-Get.is refl

pub returns-in-Send-clause-count : goal.returns-in-Send-clause-count
returns-in-Send-clause-count c = λ text. rw c.in-Send.is (c.awaits.ensures.count text)

pub returns-in-Send-clause-above : goal.returns-in-Send-clause-above
returns-in-Send-clause-above c = λ text. rw c.in-Send.is (c.awaits.ensures.above text)

pub returns-in-Receive-clause-count : goal.returns-in-Receive-clause-count
returns-in-Receive-clause-count c = λ text.
    let id : FitsSigned w32 c.in-Receive.wait.receive.id = search rules in
    rw c.in-Receive.is (simp to_z-of_z refl)

pub returns-in-Receive-clause-above : goal.returns-in-Receive-clause-above
returns-in-Receive-clause-above c = λ text. rw c.in-Receive.is refl
