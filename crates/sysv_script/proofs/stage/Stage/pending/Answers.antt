use Rattle.sysv_core.specs.World.{actor_at}
use Rattle.sysv_script.proofs.PositionSeen.{told_there, told_nowhere, going_way, idle_way}
use Rattle.sysv_script.proofs.stage.Stage.pending.Goals as goal

pub returns : goal.returns
returns c = λ s seen.
    let world = c.args.self.now.world in
    let actor = c.args.actor in
    let doing = c.in_ok-doing.field-0.now in
    going_way (actor_at s.world.actors actor) doing c.of_doing.result
    (told_there s.world world actor doing seen.world c.in_ok-doing.ensures) c.of_doing.ensures

pub returns-in_err-doing : goal.returns-in_err-doing
returns-in_err-doing c = λ s seen.
    let actor = c.args.actor in
    rw c.from_residual.ensures
    (idle_way (actor_at s.world.actors actor)
    (told_nowhere s.world c.args.self.now.world actor seen.world c.in_err-doing.ensures))
