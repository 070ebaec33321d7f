-- The result is one of its operation in each version.
use Rattle.sysv_wire.proofs.replies.read_rest.Goals as goal

pub returns-in-Rcv-clause-answer : goal.returns-in-Rcv-clause-answer
returns-in-Rcv-clause-answer g c = c.read_message.ensures.answer c.args.version
