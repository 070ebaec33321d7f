use Rattle.std.proofs.Common.{◌≡◌, Some, sym, subst, ◌∙◌}
use Rattle.sysv_core.specs.World.{actor_at}
use Rattle.sysv_script.specs.ScriptState.{OneRuns, pending}
use Rattle.sysv_script.proofs.Kept.{on_ok}
use Rattle.sysv_script.proofs.stage.Stage.take_one_on.Goals as goal

pub returns-in-Some-clause-runs : goal.returns-in-Some-clause-runs
returns-in-Some-clause-runs c = on_ok c.go_on.result c.go_on.ensures.runs (λ runs s seen.
    let went = runs s seen in
    let busy : Some c.in-Some.operation ≡ pending (actor_at s.world.actors c.args.actor) =
    sym c.in-Some.is ∙ c.pending.ensures s seen in
    (went.0, went.1, subst (λ o. OneRuns s c.args.actor o went.1 went.0) busy went.2, went.3, went.4))
