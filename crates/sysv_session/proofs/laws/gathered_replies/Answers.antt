use Rattle.sysv_session.proofs.GatheredLemmas.{breaks_off, closes, gathers_message, gathers_none, gathers_on}
use Rattle.sysv_session.proofs.GatheredLemmas.{gathers_reply}
use Rattle.sysv_session.proofs.laws.gathered_replies.Goals as goal

pub returns-clause-none : goal.returns-clause-none
returns-clause-none c = gathers_none

pub returns-clause-reply : goal.returns-clause-reply
returns-clause-reply c = gathers_reply

pub returns-clause-message : goal.returns-clause-message
returns-clause-message c = gathers_message

pub returns-clause-sent : goal.returns-clause-sent
returns-clause-sent c = gathers_on

pub returns-clause-closed : goal.returns-clause-closed
returns-clause-closed c = closes

pub returns-clause-broken_off : goal.returns-clause-broken_off
returns-clause-broken_off c = breaks_off
