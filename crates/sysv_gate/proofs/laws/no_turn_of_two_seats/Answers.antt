use Rattle.sysv_gate.proofs.LawsFromRule.{no_turn_of_two}
use Rattle.sysv_gate.proofs.laws.no_turn_of_two_seats.Goals as goal

pub returns : goal.returns
returns g c = no_turn_of_two _
