use Rattle.std.proofs.Common.{◌≡◌, None, sym, ap, subst, ◌∙◌, ◌++◌, refl}
use Rattle.sysv_script.specs.SaidBy.{call_asked}
use Rattle.sysv_core.specs.World.{actor_at}
use Rattle.sysv_script.specs.ScriptState.{StartRuns, StartsAs, GoesOn, call_for, most_steps, pending, printed}
use Rattle.sysv_script.specs.Names.{operation_of}
use Rattle.sysv_lists.proofs.Prefixes.{prefix_self}
use Rattle.sysv_script.proofs.Kept.{kept, on_ok, on_err}
use Rattle.sysv_script.proofs.NoneLeft.{none_of}
use Rattle.sysv_script.proofs.stage.Stage.start.Goals as goal

pub returns-in_err-call-clause-err : goal.returns-in_err-call-clause-err
returns-in_err-call-clause-err c = on_err c.from_residual.result (prefix_self c.args.output.now)

pub returns-clause-runs : goal.returns-clause-runs
returns-clause-runs c = on_ok c.tell-2.result c.tell-2.ensures.told (λ told s seen.
    let actor = c.args.actor in
    let goes = c.args.goes in
    let asked = call_asked c.args.call in
    let first = c.begin-first.result in
    let given = c.go-given.result in
    let began =
    c.begin-first.ensures s (kept s c.args.self.now c.with_body.new.self (c.in_ok-call.ensures).kept seen) in
    let starts : StartsAs s actor (call_for asked) first began.0 =
    subst (λ one. StartsAs s actor one first began.0) (c.in_ok-call.ensures).call began.1 in
    let went = c.go-given.ensures began.0 began.2 in
    let steps : GoesOn (most_steps goes) began.0 actor first given went.0 =
    subst (λ n. GoesOn n began.0 actor first given went.0) c.most_steps.ensures went.1 in
    let free : None ≡ pending (actor_at s.world.actors actor) = sym c.in_default.is ∙ c.pending.ensures s seen in
    let out = printed went.0.world actor (operation_of asked) given in
    let line = told went.0 went.2
    ∙ ap (λ operation. c.args.output.now ++ printed went.0.world actor operation given) c.of_call-operation.ensures in (
      went.0,
      out,
      subst (λ o. StartRuns s actor asked goes o out went.0) free (given, (began.0, first, starts, steps), refl),
      kept went.0 c.go-given.new.self c.tell-2.new.self c.tell-2.ensures.kept went.2,
      line,
    ))

pub returns-in-Some-clause-err : goal.returns-in-Some-clause-err
returns-in-Some-clause-err c = none_of c.tell.result c.tell.new.self c.args.output.now c.tell.ensures.err

pub returns-clause-err : goal.returns-clause-err
returns-clause-err c = none_of c.tell-2.result c.tell-2.new.output c.args.output.now c.tell-2.ensures.err
