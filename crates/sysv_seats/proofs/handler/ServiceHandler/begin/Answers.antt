-- A get and a receive are begun whatever the body of the request.
use Rattle.std.proofs.Common.{rules, FitsSigned, w32, w64}
use Rattle.std.proofs.lemmas.Int.{to_z-of_z}
use Rattle.sysv_seats.proofs.handler.ServiceHandler.begin.Goals as goal

pub returns-in-Get-clause-begun : goal.returns-in-Get-clause-begun
returns-in-Get-clause-begun g c =
    let key : FitsSigned w32 c.in-Get.key = search rules in
    let begun = simp to_z-of_z at c.begin_get.ensures.begun in
    rw c.in-Get.is (rw c.requires.empty (begun c.args.text.now))

pub returns-in-Rcv-clause-begun : goal.returns-in-Rcv-clause-begun
returns-in-Rcv-clause-begun g c =
    let id : FitsSigned w32 c.in-Rcv.id = search rules in
    let mtype : FitsSigned w64 c.in-Rcv.mtype = search rules in
    let begun = simp to_z-of_z at c.begin_receive.ensures.begun in
    rw c.in-Rcv.is (begun c.args.text.now)
