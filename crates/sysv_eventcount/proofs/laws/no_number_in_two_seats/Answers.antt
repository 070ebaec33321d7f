use Rattle.sysv_eventcount.proofs.LawsFromRule.{one_seat}
use Rattle.sysv_eventcount.proofs.laws.no_number_in_two_seats.Goals as goal

pub returns : goal.returns
returns c = one_seat
