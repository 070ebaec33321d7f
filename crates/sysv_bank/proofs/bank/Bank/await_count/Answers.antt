use Rattle.std.proofs.Common.{arith}
use Rattle.sysv_gate.specs.History.{Moves}
use Rattle.sysv_gate.specs.Tables.{me_at}
use Rattle.sysv_bank.proofs.Passes.{lock_there, lock_of, is_at, idles, rests_there, gates_after, changes, goes_on}
use Rattle.sysv_bank.proofs.Passes.{rests_after}
use Rattle.sysv_gate.proofs.SeenAfterCall.{bare, await_rests, waited}
use Rattle.sysv_bank.proofs.PassAfterCall.{stays_waited}
use Rattle.sysv_bank.proofs.bank.Bank.await_count.Goals as goal

pub index-requires : goal.index-requires
index-requires g c =
    let there = lock_there _ _ _ _ c.self.invariant c.self.view_is c.requires.place in
    let long = c.self.inside.locks.ok.0 in
    omega arith

pub await_count-requires-clause-lock : goal.await_count-requires-clause-lock
await_count-requires-clause-lock g c = lock_of _ _ _ _ _ _ c.self.invariant c.seat.invariant c.self.view_is
    c.seat.view_is c.requires.seat _ _ c.requires.place c.index.ensures

pub await_count-requires-clause-at : goal.await_count-requires-clause-at
await_count-requires-clause-at g c = is_at _ _ _ _ _ _ c.self.invariant c.seat.invariant c.self.view_is c.seat.view_is
    c.requires.seat _ _ c.requires.place c.index.ensures

pub await_count-requires-clause-idle : goal.await_count-requires-clause-idle
await_count-requires-clause-idle g c = (let i = idles _ _ _ _ _ _ c.self.invariant c.seat.invariant c.self.view_is
    c.seat.view_is c.requires.seat _ _ c.requires.place c.index.ensures in
    (i.no_slot, i.no_ticket, i.no_turn))

pub invariant_of-seat : goal.invariant_of-seat
invariant_of-seat g c =
    let rests = await_rests _ g.O.Object.counted _ _ _ _
    (rests_there _ _ _ _ _ _ c.self.invariant c.seat.invariant c.self.view_is c.seat.view_is c.requires.seat _ _
    c.requires.place c.index.ensures)
    c.seat.inside.token.table_id c.args.count c.args.goal c.await_count.result c.await_count.ensures.waited in
    rests_after _ _ _ _ _ _ c.self.invariant c.seat.invariant c.self.view_is c.seat.view_is c.requires.seat _ _
    c.requires.place c.index.ensures c.await_count.new.token c.await_count.ensures.same
    (bare c.index.result.now.place c.await_count.new.token.me rests.0) rests.1
    (stays_waited (Moves g.O.Object.meaning g.O.Object.counted) g.O.Object.counted c.index.result.now.opening
    (me_at c.index.result.now.place c.seat.inside.token.me) (me_at c.index.result.now.place c.await_count.new.token.me)
    c.args.count c.args.goal c.await_count.result c.await_count.ensures.waited).names

pub returns-clause-gates : goal.returns-clause-gates
returns-clause-gates g c = gates_after _ _ _ _ _ _ c.self.invariant c.seat.invariant c.self.view_is c.seat.view_is
    c.requires.seat _ _ c.requires.place c.index.ensures c.await_count.new.token c.await_count.ensures.same

pub returns-clause-longer : goal.returns-clause-longer
returns-clause-longer g c = goes_on _ _ _ _ _ _ c.self.invariant c.seat.invariant c.self.view_is c.seat.view_is
    c.requires.seat _ _ c.requires.place c.index.ensures c.await_count.new.token c.await_count.ensures.same
    (stays_waited (Moves g.O.Object.meaning g.O.Object.counted) g.O.Object.counted c.index.result.now.opening
    (me_at c.index.result.now.place c.seat.inside.token.me) (me_at c.index.result.now.place c.await_count.new.token.me)
    c.args.count c.args.goal c.await_count.result c.await_count.ensures.waited)

pub returns-clause-waited : goal.returns-clause-waited
returns-clause-waited g c = changes _ _ _ _ _ _ c.self.invariant c.seat.invariant c.self.view_is c.seat.view_is
    c.requires.seat _ _ c.requires.place c.index.ensures c.await_count.new.token c.await_count.ensures.same _
    (waited (Moves g.O.Object.meaning g.O.Object.counted) g.O.Object.counted _ _ _ _ c.await_count.ensures.same.0 _ _
    (rests_there _ _ _ _ _ _ c.self.invariant c.seat.invariant c.self.view_is c.seat.view_is c.requires.seat _ _
    c.requires.place c.index.ensures) c.args.count c.args.goal c.await_count.result c.await_count.ensures.waited)
