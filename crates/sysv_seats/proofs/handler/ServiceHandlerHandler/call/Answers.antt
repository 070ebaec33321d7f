-- Each request is carried out by the call of its kind.
use Rattle.std.proofs.Common.{rules, FitsSigned, w32, w64}
use Rattle.std.proofs.lemmas.Int.{to_z-of_z}
use Rattle.sysv_seats.proofs.handler.ServiceHandlerHandler.call.Goals as goal

pub returns-in-Get-clause-meaning : goal.returns-in-Get-clause-meaning
returns-in-Get-clause-meaning g c =
    let key : FitsSigned w32 c.in-Get.key = search rules in
    let gets = simp to_z-of_z at c.get.ensures.gets in
    rw c.in-Get.is (c.get.ensures.handles, (gets, c.requires.empty))

pub returns-in-Snd-clause-meaning : goal.returns-in-Snd-clause-meaning
returns-in-Snd-clause-meaning g c =
    let id : FitsSigned w32 c.in-Snd.id = search rules in
    let mtype : FitsSigned w64 c.in-Snd.mtype = search rules in
    let sends = simp to_z-of_z at c.send.ensures.sends in
    rw c.in-Snd.is (c.send.ensures.handles, (sends, c.requires.empty))

pub returns-in-Rcv-clause-meaning : goal.returns-in-Rcv-clause-meaning
returns-in-Rcv-clause-meaning g c =
    let id : FitsSigned w32 c.in-Rcv.id = search rules in
    let mtype : FitsSigned w64 c.in-Rcv.mtype = search rules in
    let receives = simp to_z-of_z at c.receive.ensures.receives in
    rw c.in-Rcv.is (c.receive.ensures.handles, receives)

pub returns-in-Stat-clause-meaning : goal.returns-in-Stat-clause-meaning
returns-in-Stat-clause-meaning g c =
    let id : FitsSigned w32 c.in-Stat.id = search rules in
    let stats = simp to_z-of_z at c.stat.ensures.stats in
    rw c.in-Stat.is (c.stat.ensures.handles, (stats, c.requires.empty))

pub returns-in-Set-clause-meaning : goal.returns-in-Set-clause-meaning
returns-in-Set-clause-meaning g c =
    let id : FitsSigned w32 c.in-Set.id = search rules in
    let sets = simp to_z-of_z at c.set.ensures.sets in
    rw c.in-Set.is (c.set.ensures.handles, (sets, c.requires.empty))

pub returns-in-Rm-clause-meaning : goal.returns-in-Rm-clause-meaning
returns-in-Rm-clause-meaning g c =
    let id : FitsSigned w32 c.in-Rm.id = search rules in
    let removes = simp to_z-of_z at c.remove.ensures.removes in
    rw c.in-Rm.is (c.remove.ensures.handles, (removes, c.requires.empty))
