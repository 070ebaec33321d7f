-- The listener was closed before the last session, and after it if there is none.
use Rattle.std.proofs.Common.{[], ◌∷◌, ◌∙◌, ap, arith, refl}
use Rattle.sysv_server.proofs.Came.{came_on, came_quiet}
use Rattle.sysv_server.specs.Listening.{added}
use Rattle.sysv_server.proofs.accepting.Accepting.accept_last.Goals as goal

pub returns-in_default-clause-gives : goal.returns-in_default-clause-gives
returns-in_default-clause-gives g c =
    let steps = g.L.Listens.steps in
    let old = c.args.self.now.listener.now in
    let tried = c.await_last.new.listener in
    let closed = c.close-in_default.new.self in (
      refl,
      refl,
      refl,
      c.close-in_default.ensures.closed,
      c.close-in_default.ensures.same ∙ (c.in_default.ensures.told ∙ c.close.ensures.same),
      refl,
      came_on steps old tried closed [] []
          (came_on steps old c.close.new.self tried [] [] (came_quiet steps old c.close.new.self c.close.ensures.step)
          c.in_default.ensures.came)
          (came_quiet steps tried closed c.close-in_default.ensures.step),
    )

pub returns-clause-gives : goal.returns-clause-gives
returns-clause-gives g c =
    let steps = g.L.Listens.steps in
    let old = c.args.self.now.listener.now in
    let stream = c.in-Some.stream in (
      refl,
      c.is_full.ensures.room c.if-is_full.false,
      (let is = c.saturating_add-self.ensures in omega arith),
      c.in-Some.ensures.opened,
      refl,
      c.if-not-self.false,
      refl,
      c.in-Some.ensures.told ∙ ap (λ o. added o (stream ∷ [])) c.close.ensures.same,
      refl,
      c.in-Some.ensures.limits,
      refl,
      refl,
      came_on steps old c.close.new.self c.await_last.new.listener [] (stream ∷ [])
          (came_quiet steps old c.close.new.self c.close.ensures.step) c.in-Some.ensures.came,
    )
