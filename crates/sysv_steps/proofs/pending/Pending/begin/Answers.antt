use Rattle.std.proofs.Common.{sym, rules, w32, w64, None}
use Rattle.std.specs.Prelude.{FitsSigned}
use Rattle.std.proofs.lemmas.Int.{to_z-of_z}
use Rattle.sysv_steps.proofs.pending.Pending.begin.Goals as goal

pub returns-in-Get-clause-comes : goal.returns-in-Get-clause-comes
returns-in-Get-clause-comes c =
    let key : FitsSigned w32 c.in-Get.key = search rules in
    let begun = simp to_z-of_z at (c.begin.ensures c.args.released) in
    rw c.in-Get.is (rw begun (c.of_get.ensures.comes None))

pub returns-in-Send-clause-comes : goal.returns-in-Send-clause-comes
returns-in-Send-clause-comes c =
    let id : FitsSigned w32 c.in-Send.id = search rules in
    let mtype : FitsSigned w64 c.in-Send.mtype = search rules in
    let begun = simp to_z-of_z at (c.begin-begun.ensures.next c.in-Send.body (sym c.len.ensures.value)) in
    rw c.in-Send.is (rw begun (c.of_send.ensures.comes c.in-Send.body))

pub returns-in-Receive-clause-comes : goal.returns-in-Receive-clause-comes
returns-in-Receive-clause-comes c =
    let id : FitsSigned w32 c.in-Receive.id = search rules in
    let mtype : FitsSigned w64 c.in-Receive.mtype = search rules in
    let begun = simp to_z-of_z at (c.begin-begun-in-Receive.ensures c.in-Receive.body c.args.released) in
    rw c.in-Receive.is (rw begun c.of_receive.ensures.comes)

pub returns-in-Stat-clause-comes : goal.returns-in-Stat-clause-comes
returns-in-Stat-clause-comes c =
    let id : FitsSigned w32 c.in-Stat.id = search rules in
    let begun = simp to_z-of_z at (c.begin-in-Stat.ensures c.args.released) in
    rw c.in-Stat.is (rw begun (c.of_stat.ensures.comes None))

pub returns-in-Set-clause-comes : goal.returns-in-Set-clause-comes
returns-in-Set-clause-comes c =
    let id : FitsSigned w32 c.in-Set.id = search rules in
    let begun = simp to_z-of_z at (c.begin-in-Set.ensures c.args.released) in
    rw c.in-Set.is (rw begun (c.of_set.ensures.comes None))

pub returns-in-Remove-clause-comes : goal.returns-in-Remove-clause-comes
returns-in-Remove-clause-comes c =
    let id : FitsSigned w32 c.in-Remove.id = search rules in
    let begun = simp to_z-of_z at (c.begin-in-Remove.ensures c.args.released) in
    rw c.in-Remove.is (rw begun (c.of_remove.ensures.comes None))
