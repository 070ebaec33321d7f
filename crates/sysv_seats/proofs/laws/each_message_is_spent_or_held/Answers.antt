use Rattle.sysv_seats.proofs.Fates.{each_message}
use Rattle.sysv_seats.proofs.laws.each_message_is_spent_or_held.Goals as goal

pub returns : goal.returns
returns c = each_message
