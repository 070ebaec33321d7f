-- The call looked at its count once, whatever it had done before.
use Rattle.sysv_seats.proofs.PieceAnswers.{go_answers}
use Rattle.sysv_seats.specs.InPieces.{goes_on}
use Rattle.sysv_seats.proofs.handler.ServiceHandler.go_on.Goals as goal

pub returns-in-Send-clause-looks : goal.returns-in-Send-clause-looks
returns-in-Send-clause-looks g c =
    rw c.in-Send.is (rw c.requires.empty c.send_on.ensures.looks)

pub returns-in-Send-clause-begun : goal.returns-in-Send-clause-begun
returns-in-Send-clause-begun g c = λ start cred parked.
    goes_on _ _ cred _ _ start _ _ _ _ _ parked (returns-in-Send-clause-looks g c)

pub returns-in-Receive-clause-looks : goal.returns-in-Receive-clause-looks
returns-in-Receive-clause-looks g c = rw c.in-Receive.is (c.receive_on.ensures.looks c.args.text.now)

pub returns-in-Receive-clause-begun : goal.returns-in-Receive-clause-begun
returns-in-Receive-clause-begun g c = λ start cred parked.
    goes_on _ _ cred _ _ start _ _ _ _ _ parked (returns-in-Receive-clause-looks g c)

pub returns-in-Get-clause-looks : goal.returns-in-Get-clause-looks
returns-in-Get-clause-looks g c =
    rw c.in-Get.is (rw c.requires.empty (c.get_on.ensures.looks c.args.text.now))

pub returns-in-Get-clause-begun : goal.returns-in-Get-clause-begun
returns-in-Get-clause-begun g c = λ start cred parked.
    goes_on _ _ cred _ _ start _ _ _ _ _ parked (returns-in-Get-clause-looks g c)

pub returns-in-Get-clause-answer : goal.returns-in-Get-clause-answer
returns-in-Get-clause-answer g c =
    go_answers _ _ _ _ _ _ _ _ _ c.requires.kind (returns-in-Get-clause-looks g c)

pub returns-in-Receive-clause-answer : goal.returns-in-Receive-clause-answer
returns-in-Receive-clause-answer g c =
    go_answers _ _ _ _ _ _ _ _ _ c.requires.kind (returns-in-Receive-clause-looks g c)
