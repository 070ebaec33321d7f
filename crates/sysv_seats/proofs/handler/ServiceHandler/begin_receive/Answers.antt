-- A receive that has begun tells what a receive may tell.
use Rattle.sysv_seats.proofs.PieceAnswers.{receive_answers}
use Rattle.sysv_seats.proofs.handler.ServiceHandler.begin_receive.Goals as goal

pub returns-clause-answer : goal.returns-clause-answer
returns-clause-answer g c = rw c.receive_came.ensures
    (receive_answers _ c.args.version c.args.id c.args.size c.args.mtype c.args.flags _ c.args.self.now.pass
    c.msgrcv_begin-came.result c.msgrcv_begin-came.new.out c.msgrcv_begin-came.new.pass
    c.msgrcv_begin-came.ensures.ran)
