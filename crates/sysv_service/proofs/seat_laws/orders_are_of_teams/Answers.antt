use Rattle.sysv_service.proofs.OrderedHistories as ordered
use Rattle.sysv_service.proofs.seat_laws.orders_are_of_teams.Goals as goal

pub returns : goal.returns
returns c = ordered.orders_are_of_teams
