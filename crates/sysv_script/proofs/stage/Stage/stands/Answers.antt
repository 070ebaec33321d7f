use Rattle.sysv_core.specs.World.{actor_at}
use Rattle.sysv_script.proofs.PositionSeen.{told_there, told_nowhere, idle_line, going_line}
use Rattle.sysv_script.proofs.stage.Stage.stands.Goals as goal

pub returns-in-Some : goal.returns-in-Some
returns-in-Some c = λ s seen.
    let world = c.args.self.now.world in
    let actor = c.args.actor in
    going_line actor (actor_at s.world.actors actor) c.in-Some.doing.now c.of_doing.result
    (told_there s.world world actor c.in-Some.doing.now seen.world c.in-Some.ensures) c.of_doing.ensures

pub returns-in-None : goal.returns-in-None
returns-in-None c = λ s seen.
    let actor = c.args.actor in
    idle_line actor (actor_at s.world.actors actor)
    (told_nowhere s.world c.args.self.now.world actor seen.world c.in-None.ensures)
