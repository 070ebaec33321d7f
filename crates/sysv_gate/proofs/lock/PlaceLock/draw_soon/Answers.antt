use Rattle.std.proofs.Common.{[], refl, sym, ap, ◌∙◌, subst}
use Rattle.sysv_gate.specs.Turns.{Waits, HasDrawn}
use Rattle.sysv_gate.specs.Tables.{me_at}
use Rattle.sysv_gate.proofs.PassUnchanged.{only_self, same_trans, at_after}
use Rattle.sysv_gate.proofs.lock.PlaceLock.draw_soon.Goals as goal

pub loop-init : goal.loop-init
loop-init g c = record { same = (refl, refl, only_self _ _ c.requires.at.3 c.requires.at.4); still = refl }

pub draw_free-requires-clause-at : goal.draw_free-requires-clause-at
draw_free-requires-clause-at g c =
    at_after _ c.args.self.now _ _ c.requires.at c.loop.invariant.same (ap (λ m. m.0.opening) c.loop.invariant.still)

pub draw_free-requires-clause-idle : goal.draw_free-requires-clause-idle
draw_free-requires-clause-idle g c = subst (Waits []) (sym c.loop.invariant.still) c.requires.idle

pub returns-in-Some-clause-same : goal.returns-in-Some-clause-same
returns-in-Some-clause-same g c = same_trans _ _ _ _ c.loop.invariant.same c.draw_free.ensures.same

pub returns-in-Some-clause-drawn : goal.returns-in-Some-clause-drawn
returns-in-Some-clause-drawn g c =
    let after = me_at c.args.self.now.place c.draw_free.new.token.me in
    subst (λ m. HasDrawn m c.in-Some.ticket after) c.loop.invariant.still c.in-Some.ensures.drawn

pub loop-preserved : goal.loop-preserved
loop-preserved g c = record {
  same = same_trans _ _ _ _ c.loop.invariant.same c.draw_free.ensures.same;
  still = c.in_default.ensures.still ∙ c.loop.invariant.still;
}

pub returns-after-loop-clause-same : goal.returns-after-loop-clause-same
returns-after-loop-clause-same g c = c.loop.invariant.same

pub returns-after-loop-clause-still : goal.returns-after-loop-clause-still
returns-after-loop-clause-still g c = c.loop.invariant.still

pub returns-then-next_ticket-ge-LIMIT-clause-same : goal.returns-then-next_ticket-ge-LIMIT-clause-same
returns-then-next_ticket-ge-LIMIT-clause-same g c =
    same_trans _ _ _ _ c.loop.invariant.same c.draw_free.ensures.same

pub returns-then-next_ticket-ge-LIMIT-clause-still : goal.returns-then-next_ticket-ge-LIMIT-clause-still
returns-then-next_ticket-ge-LIMIT-clause-still g c = c.in_default.ensures.still ∙ c.loop.invariant.still
