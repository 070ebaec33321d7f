use Rattle.sysv_service.proofs.Histories as histories
use Rattle.sysv_service.proofs.seat_laws.seen_histories.Goals as goal

pub returns : goal.returns
returns c = histories.seen_histories
