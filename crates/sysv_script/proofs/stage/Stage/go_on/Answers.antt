use Rattle.std.proofs.Common.{refl}
use Rattle.sysv_script.specs.ScriptState.{printed}
use Rattle.sysv_script.proofs.Kept.{kept, on_ok}
use Rattle.sysv_script.proofs.stage.Stage.go_on.Goals as goal

pub returns-clause-runs : goal.returns-clause-runs
returns-clause-runs c = on_ok c.tell.result c.tell.ensures.told (λ told s seen.
    let given = c.go-given.result in
    let went = c.go-given.ensures s seen in (
      went.0,
      printed went.0.world c.args.actor c.args.operation given,
      (given, went.1, refl),
      kept went.0 c.go-given.new.self c.tell.new.self c.tell.ensures.kept went.2,
      told went.0 went.2,
    ))
