-- Each number is where the encoding has it.
use Rattle.sysv_seats.proofs.HelloFrame.{hello_is}
use Rattle.sysv_seats.proofs.hello_frame.hello_cred.Goals as goal

pub returns : goal.returns
returns c = λ version cred later fits is.
    hello_is version cred later c.args.bytes.now _ _ _ fits is c.number_at.ensures c.number_at-2.ensures
    c.number_at-3.ensures
