use Rattle.std.proofs.Common.{[], refl, sym, ap, ◌∙◌, subst}
use Rattle.std.specs.Prelude.{IfSome, IfNone}
use Rattle.sysv_gate.specs.Turns.{Waits, HasDrawn, HasWorn}
use Rattle.sysv_gate.specs.Tables.{me_at}
use Rattle.sysv_gate.proofs.PassUnchanged.{only_self, same_trans, at_after}
use Rattle.sysv_gate.proofs.lock.PlaceLock.acquire_later.Goals as goal

pub loop-init : goal.loop-init
loop-init g c = record { same = (refl, refl, only_self _ _ c.requires.at.3 c.requires.at.4); still = refl }

pub draw_soon-requires-clause-at : goal.draw_soon-requires-clause-at
draw_soon-requires-clause-at g c =
    at_after _ c.args.self.now _ _ c.requires.at c.loop.invariant.same (ap (λ m. m.0.opening) c.loop.invariant.still)

pub draw_soon-requires-clause-idle : goal.draw_soon-requires-clause-idle
draw_soon-requires-clause-idle g c = subst (Waits []) (sym c.loop.invariant.still) c.requires.idle

pub returns-in-Some-clause-same : goal.returns-in-Some-clause-same
returns-in-Some-clause-same g c = same_trans _ _ _ _ c.loop.invariant.same c.draw_soon.ensures.same

pub returns-in-Some-clause-drawn : goal.returns-in-Some-clause-drawn
returns-in-Some-clause-drawn g c =
    let after = me_at c.args.self.now.place c.draw_soon.new.token.me in
    subst (λ m. HasDrawn m c.in-Some.ticket after) c.loop.invariant.still c.in-Some.ensures.drawn

pub loop-preserved : goal.loop-preserved
loop-preserved g c = record {
  same = same_trans _ _ _ _ c.loop.invariant.same c.draw_soon.ensures.same;
  still = c.in_default.ensures.still ∙ c.loop.invariant.still;
}

pub draw-requires-clause-at : goal.draw-requires-clause-at
draw-requires-clause-at g c =
    at_after _ c.args.self.now _ _ c.requires.at c.loop.invariant.same (ap (λ m. m.0.opening) c.loop.invariant.still)

pub draw-requires-clause-idle : goal.draw-requires-clause-idle
draw-requires-clause-idle g c = subst (Waits []) (sym c.loop.invariant.still) c.requires.idle

pub returns-clause-same : goal.returns-clause-same
returns-clause-same g c = same_trans _ _ _ _ c.loop.invariant.same c.draw.ensures.same

pub returns-clause-drawn : goal.returns-clause-drawn
returns-clause-drawn g c =
    let after = me_at c.args.self.now.place c.draw.new.token.me in
    subst (λ m. IfSome c.draw.result (λ t. HasDrawn m t after)) c.loop.invariant.still c.draw.ensures.drawn

pub returns-clause-worn : goal.returns-clause-worn
returns-clause-worn g c =
    let after = me_at c.args.self.now.place c.draw.new.token.me in
    subst (λ m. IfNone c.draw.result (HasWorn m after)) c.loop.invariant.still c.draw.ensures.worn
