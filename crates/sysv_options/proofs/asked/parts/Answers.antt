-- Without thousandths there is no time.
use Rattle.sysv_options.proofs.asked.parts.Goals as goal

pub returns-in-None : goal.returns-in-None
returns-in-None c = λ time h. c.in-None.ensures.number h.thousandths h.is_rest
