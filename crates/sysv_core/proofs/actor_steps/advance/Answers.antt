use Rattle.std.proofs.Common.{refl, sym, subst}
use Rattle.sysv_steps.specs.Pending.{pending_state, text_in, CanGoOn}
use Rattle.sysv_core.specs.Led.{StepLeads}
use Rattle.sysv_core.proofs.actor_steps.advance.Goals as goal

pub turn-requires-clause-body : goal.turn-requires-clause-body
turn-requires-clause-body c = subst (λ p. CanGoOn p c.args.doing.body) c.in-At.is c.args.doing.can

pub look-requires : goal.look-requires
look-requires c = subst (λ p. CanGoOn p c.args.doing.body) c.in-Waits.is c.args.doing.can

pub returns-in-At : goal.returns-in-At
returns-in-At c =
    subst (λ p.
    StepLeads c.args.objects.now (pending_state p (text_in c.args.doing.body)) c.args.now c.turn.result
    c.turn.new.objects) (sym c.in-At.is) c.turn.ensures

pub returns-in-Waits : goal.returns-in-Waits
returns-in-Waits c =
    subst (λ p.
    StepLeads c.args.objects.now (pending_state p (text_in c.args.doing.body)) c.args.now c.look.result
    c.args.objects.now) (sym c.in-Waits.is) (c.look.ensures, refl)
