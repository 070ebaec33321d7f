use Rattle.sysv_service.proofs.Histories as histories
use Rattle.sysv_service.proofs.seat_laws.own_turns_are_last.Goals as goal

pub returns : goal.returns
returns c = histories.own_turns_are_last
