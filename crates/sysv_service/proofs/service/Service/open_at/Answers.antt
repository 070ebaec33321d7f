use Rattle.std.proofs.Common.{sym, subst}
use Rattle.sysv_service.specs.Seats.{AreOf}
use Rattle.sysv_service.proofs.FirstPassFits.{first_fits}
use Rattle.sysv_service.proofs.service.Service.open_at.Goals as goal

pub returns-clause-fits : goal.returns-clause-fits
returns-clause-fits c =
    subst (AreOf c.in_ok-gates.gates) (sym c.in_ok-gates.ensures.open.1) (first_fits c.in_ok-gates.gates)
