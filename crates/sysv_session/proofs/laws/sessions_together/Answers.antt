use Rattle.sysv_session.proofs.TogetherLemmas.{together}
use Rattle.sysv_session.proofs.laws.sessions_together.Goals as goal

pub returns : goal.returns
returns g c = λ newest. together newest g.K.Handler.meaning
