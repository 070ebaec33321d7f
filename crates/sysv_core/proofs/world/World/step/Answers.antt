use Rattle.std.proofs.Common.{rules}
use Rattle.sysv_core.specs.declared.event.Event.TheVariants.{Start, Step}
use Rattle.sysv_core.specs.declared.event.Stepped.TheVariants.{Worn}
use Rattle.sysv_core.proofs.Runs.{stands_step, worn_step}
use Rattle.sysv_core.proofs.world.World.step.Goals as goal

pub returns-then-self-ge-WORN-clause-single : goal.returns-then-self-ge-WORN-clause-single
returns-then-self-ge-WORN-clause-single c = worn_step c.args.self.now c.args.event (search rules)

pub returns-then-self-ge-WORN-clause-stands : goal.returns-then-self-ge-WORN-clause-stands
returns-then-self-ge-WORN-clause-stands c = stands_step c.args.self.now c.args.self.now c.args.event Worn
    (worn_step c.args.self.now c.args.event (search rules))

pub returns-in-Start-clause-stands : goal.returns-in-Start-clause-stands
returns-in-Start-clause-stands c = rw c.in-Start.is
    (stands_step c.args.self.now c.start.new.self (Start c.in-Start.actor c.in-Start.cred c.in-Start.call)
    c.start.result c.start.ensures.single)

pub returns-in-Step-clause-stands : goal.returns-in-Step-clause-stands
returns-in-Step-clause-stands c = rw c.in-Step.is
    (stands_step c.args.self.now c.turn.new.self (Step c.in-Step.actor c.in-Step.now) c.turn.result
    c.turn.ensures.single)

pub returns-in-Start-clause-single : goal.returns-in-Start-clause-single
returns-in-Start-clause-single c = rw c.in-Start.is c.start.ensures.single

pub returns-in-Step-clause-single : goal.returns-in-Step-clause-single
returns-in-Step-clause-single c = rw c.in-Step.is c.turn.ensures.single
