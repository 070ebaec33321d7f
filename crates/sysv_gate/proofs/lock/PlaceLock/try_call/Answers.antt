use Rattle.std.proofs.Common.{ap}
use Rattle.sysv_gate.specs.History.{Moves}
use Rattle.sysv_gate.specs.Tables.{me_at}
use Rattle.sysv_gate.proofs.PassUnchanged.{at_after, same_trans}
use Rattle.sysv_gate.proofs.Called.{called, room_for, still_named, order_later}
use Rattle.sysv_gate.proofs.lock.PlaceLock.try_call.Goals as goal

pub serve-requires-clause-at : goal.serve-requires-clause-at
serve-requires-clause-at g c = at_after _ c.args.self.now _ _ c.requires.at c.enter.ensures.same
    (ap (λ v. v.opening) c.in-Turn.ensures.entered.1.view)

pub serve-requires-clause-turn : goal.serve-requires-clause-turn
serve-requires-clause-turn g c = c.in-Turn.ensures.entered.1.turn

pub serve-requires-clause-ticket : goal.serve-requires-clause-ticket
serve-requires-clause-ticket g c =
    let view = c.in-Turn.ensures.entered.1.view in
    (c.in-Turn.ensures.entered.0, ap (λ v. v.tickets) view, ap (λ v. v.in_turn) view)

pub serve-requires-clause-named : goal.serve-requires-clause-named
serve-requires-clause-named g c = still_named _ _ _ _ _ _ c.in-Turn.ensures.entered.1 c.requires.idle.named

pub serve-requires-clause-room : goal.serve-requires-clause-room
serve-requires-clause-room g c = room_for _ _ _ _ _ _ c.in-Turn.ensures.entered.1 c.in-Turn.ensures.entered.2

pub returns-in-Turn-clause-same : goal.returns-in-Turn-clause-same
returns-in-Turn-clause-same g c = same_trans _ _ _ _ c.enter.ensures.same c.serve.ensures.same

pub returns-in-Turn-clause-order : goal.returns-in-Turn-clause-order
returns-in-Turn-clause-order g c = order_later _ _ _ _ c.enter.ensures.same.2 c.serve.ensures.order

pub returns-in-Turn-clause-ok : goal.returns-in-Turn-clause-ok
returns-in-Turn-clause-ok g c = called (Moves g.O.Object.meaning g.O.Object.counted) g.O.Object.counted
    c.args.self.now.opening (me_at c.args.self.now.place c.args.token.now.me) _ _ _ _ _ c.in-Turn.ensures.entered.1
    c.serve.ensures.made c.in-Turn.ensures.entered.3
