use Rattle.std.proofs.Common.{ap, ◌∙◌}
use Rattle.sysv_gate.specs.History.{Moves}
use Rattle.sysv_gate.specs.Tables.{me_at}
use Rattle.sysv_gate.proofs.PassUnchanged.{at_after, same_trans}
use Rattle.sysv_gate.proofs.Called.{called, came_drawn, room_for, still_named, order_later}
use Rattle.sysv_gate.proofs.lock.PlaceLock.call.Goals as goal

pub reach-requires-clause-at : goal.reach-requires-clause-at
reach-requires-clause-at g c =
    at_after _ c.args.self.now _ _ c.requires.at c.acquire.ensures.same
    (ap (λ m. m.0.opening) c.in-Some.ensures.drawn.0)

pub reach-requires-clause-waits : goal.reach-requires-clause-waits
reach-requires-clause-waits g c =
    let is = c.in-Some.ensures.drawn.0 in
    (ap (λ m. m.1) is, ap (λ m. m.0.tickets) is, ap (λ m. m.0.in_turn) is ∙ c.requires.idle.no_turn)

pub serve-reply-requires-clause-at : goal.serve-reply-requires-clause-at
serve-reply-requires-clause-at g c =
    let drawn = at_after _ c.args.self.now _ _ c.requires.at c.acquire.ensures.same
    (ap (λ m. m.0.opening) c.in-Some.ensures.drawn.0) in
    at_after _ c.args.self.now _ _ drawn c.reach.ensures.same (ap (λ v. v.opening) c.reach.ensures.turn.view)

pub serve-reply-requires-clause-turn : goal.serve-reply-requires-clause-turn
serve-reply-requires-clause-turn g c = c.reach.ensures.turn.turn

pub serve-reply-requires-clause-ticket : goal.serve-reply-requires-clause-ticket
serve-reply-requires-clause-ticket g c =
    let view = c.reach.ensures.turn.view in
    (c.in-Some.ticket, ap (λ v. v.tickets) view, ap (λ v. v.in_turn) view)

pub serve-reply-requires-clause-named : goal.serve-reply-requires-clause-named
serve-reply-requires-clause-named g c =
    let came = came_drawn _ _ _ (me_at c.args.self.now.place c.args.token.now.me) _
    (me_at c.args.self.now.place c.acquire.new.token.me) _ c.in-Some.ensures.drawn c.reach.ensures.turn in
    still_named _ _ _ _ _ _ came c.requires.idle.named

pub serve-reply-requires-clause-room : goal.serve-reply-requires-clause-room
serve-reply-requires-clause-room g c = room_for _ _ _ _ _ _ c.reach.ensures.turn c.in-Some.ensures.drawn.1

pub wake_after-requires : goal.wake_after-requires
wake_after-requires g c = c.in-Some.ensures.drawn.1

pub returns-clause-same : goal.returns-clause-same
returns-clause-same g c =
    same_trans _ _ _ _ c.acquire.ensures.same (same_trans _ _ _ _ c.reach.ensures.same c.serve-reply.ensures.same)

pub returns-clause-order : goal.returns-clause-order
returns-clause-order g c =
    order_later _ _ _ _ (same_trans _ _ _ _ c.acquire.ensures.same c.reach.ensures.same).2 c.serve-reply.ensures.order

pub returns-clause-ok : goal.returns-clause-ok
returns-clause-ok g c =
    let came = came_drawn _ _ _ (me_at c.args.self.now.place c.args.token.now.me) _
    (me_at c.args.self.now.place c.acquire.new.token.me) _ c.in-Some.ensures.drawn c.reach.ensures.turn in
    called (Moves g.O.Object.meaning g.O.Object.counted) g.O.Object.counted c.args.self.now.opening
    (me_at c.args.self.now.place c.args.token.now.me) _ _ _ _ _ came c.serve-reply.ensures.made
    c.in-Some.ensures.drawn.2
