use Rattle.sysv_steps.proofs.EachAsked.{each_holds_asked}
use Rattle.sysv_steps.proofs.laws.each_holds_what_it_was_asked.Goals as goal

pub returns : goal.returns
returns c = each_holds_asked
