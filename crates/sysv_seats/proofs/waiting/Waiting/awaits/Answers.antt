-- The count is that of the wait in each case.
use Rattle.std.proofs.Common.{rules, ◌≡◌, ℕ, List, sym, subst}
use Rattle.sysv_steps.specs.Resume.{Count, awaited}
use Rattle.sysv_steps.specs.declared.pending.Waiting.{Waiting}
use Rattle.sysv_seats.specs.Parked.{wait_in}
use Rattle.sysv_seats.proofs.waiting.Waiting.awaits.Goals as goal

counts : (count : Count) (w x : Waiting) → w ≡ x → ((text : List ℕ) → count ≡ awaited (wait_in x text)) →
    (text : List ℕ) → count ≡ awaited (wait_in w text)
counts count w x is = subst (λ y. (text : List ℕ) → count ≡ awaited (wait_in y text)) (sym is)

pub returns-in-Send-Room-clause-count : goal.returns-in-Send-Room-clause-count
returns-in-Send-Room-clause-count c = counts _ _ _ c.in-Send-Room.is (search rules)

pub returns-in-Send-Blocks-clause-count : goal.returns-in-Send-Blocks-clause-count
returns-in-Send-Blocks-clause-count c = counts _ _ _ c.in-Send-Blocks.is (search rules)

pub returns-in-Receive-clause-count : goal.returns-in-Receive-clause-count
returns-in-Receive-clause-count c = counts _ _ _ c.in-Receive.is (search rules)

pub returns-in-Get-clause-count : goal.returns-in-Get-clause-count
returns-in-Get-clause-count c = counts _ _ _ c.in-Get.is (search rules)
