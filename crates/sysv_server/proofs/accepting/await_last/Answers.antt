-- The steps that the listener made in the rounds before, and that of the last accept.
use Rattle.std.proofs.Common.{[], ◌∷◌, ◌∙◌}
use Rattle.sysv_server.proofs.Came.{came_on, came_once, came_quiet}
use Rattle.sysv_server.proofs.accepting.await_last.Goals as goal

pub returns-in-Ok-clause-came : goal.returns-in-Ok-clause-came
returns-in-Ok-clause-came g c =
    let steps = g.L.Listens.steps in
    came_on steps c.args.listener.now c.loop.listener c.accept.new.self [] (c.in-Ok.stream ∷ []) c.loop.invariant.2
    (came_once steps c.loop.listener c.accept.new.self c.in-Ok.stream c.in-Ok.ensures.step)

pub returns-in-Err-2-clause-came : goal.returns-in-Err-2-clause-came
returns-in-Err-2-clause-came g c =
    let steps = g.L.Listens.steps in
    came_on steps c.args.listener.now c.loop.listener c.accept.new.self [] [] c.loop.invariant.2
    (came_quiet steps c.loop.listener c.accept.new.self c.in-Err.ensures.step)

pub loop-preserved : goal.loop-preserved
loop-preserved g c =
    let steps = g.L.Listens.steps in (
      c.in-Err.ensures.err ∙ c.loop.invariant.0,
      c.in-Err.ensures.same ∙ c.loop.invariant.1,
      came_on steps c.args.listener.now c.loop.listener c.accept.new.self [] [] c.loop.invariant.2
          (came_quiet steps c.loop.listener c.accept.new.self c.in-Err.ensures.step),
    )
