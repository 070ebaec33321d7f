use Rattle.std.proofs.Common.{subst}
use Rattle.sysv_steps.specs.Pending.{ComesTo}
use Rattle.sysv_core.proofs.TurnLeads.{leads_over}
use Rattle.sysv_core.proofs.actor_steps.led_by.Goals as goal

pub returns-in-On : goal.returns-in-On
returns-in-On c = λ kind state comes. subst (λ m. ComesTo state m c.args.body) c.in-On.is comes

pub returns-in-Over : goal.returns-in-Over
returns-in-Over c = λ kind state comes.
    leads_over state c.in-Over.ended c.args.body (subst (λ m. ComesTo state m c.args.body) c.in-Over.is comes)
