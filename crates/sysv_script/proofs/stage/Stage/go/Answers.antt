use Rattle.std.proofs.Common.{◌+◌, ◌-◌, refl, subst, arith}
use Rattle.sysv_script.specs.ScriptState.{in_world}
use Rattle.sysv_script.proofs.StepsOfCall.{GoingOn, begins, goes_more, ends_over, ends_none}
use Rattle.sysv_script.proofs.stage.Stage.go.Goals as goal

pub loop-init : goal.loop-init
loop-init c =
    let all = c.args.steps in
    subst (λ n. GoingOn c.args.self.now c.args.self.now c.args.actor all c.args.last c.args.last n) (omega arith)
    (begins c.args.self.now c.args.actor all c.args.last)

pub loop-preserved : goal.loop-preserved
loop-preserved c =
    let all = c.args.steps in
    goes_more c.args.self.now c.loop.self _ c.args.actor all c.args.last c.step-given.result (all - c.loop.counter)
    (all - (c.loop.counter + 1))
    (omega arith)
    (subst (λ last. GoingOn c.args.self.now c.loop.self c.args.actor all c.args.last last (all - c.loop.counter))
    c.in-Nothing.is c.loop.invariant)
    (λ s seen.
    let made = c.step-given.ensures.single s.world seen.world in (
      in_world s made.0,
      (made.1, refl),
      record { world = made.2; creds = seen.creds; moment = seen.moment; fresh = seen.fresh },
    ))

pub returns-after-loop : goal.returns-after-loop
returns-after-loop c =
    ends_none c.args.self.now c.loop.self c.args.actor c.args.steps c.args.last c.loop.given
    (c.args.steps - c.loop.counter) (omega arith) c.loop.invariant

pub returns-in_default : goal.returns-in_default
returns-in_default c =
    ends_over c.args.self.now c.loop.self c.args.actor c.args.steps c.args.last c.loop.given
    (c.args.steps - c.loop.counter) c.loop.invariant c.in_default.not-Nothing
