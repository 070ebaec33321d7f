use Rattle.std.proofs.Common.{arith}
use Rattle.sysv_gate.specs.History.{Moves}
use Rattle.sysv_gate.specs.Tables.{me_at}
use Rattle.sysv_bank.proofs.Passes.{lock_there, lock_of, is_at, idles, rests_there, gates_after, changes, goes_on}
use Rattle.sysv_bank.proofs.Passes.{rests_after}
use Rattle.sysv_gate.proofs.SeenAfterCall.{bare, count_rests, reads}
use Rattle.sysv_bank.proofs.PassAfterCall.{stays_read}
use Rattle.sysv_bank.proofs.bank.Bank.count.Goals as goal

pub index-requires : goal.index-requires
index-requires g c =
    let there = lock_there _ _ _ _ c.self.invariant c.self.view_is c.requires.place in
    let long = c.self.inside.locks.ok.0 in
    omega arith

pub count-requires-clause-lock : goal.count-requires-clause-lock
count-requires-clause-lock g c = lock_of _ _ _ _ _ _ c.self.invariant c.seat.invariant c.self.view_is c.seat.view_is
    c.requires.seat _ _ c.requires.place c.index.ensures

pub count-requires-clause-at : goal.count-requires-clause-at
count-requires-clause-at g c = is_at _ _ _ _ _ _ c.self.invariant c.seat.invariant c.self.view_is c.seat.view_is
    c.requires.seat _ _ c.requires.place c.index.ensures

pub count-requires-clause-idle : goal.count-requires-clause-idle
count-requires-clause-idle g c = (let i = idles _ _ _ _ _ _ c.self.invariant c.seat.invariant c.self.view_is
    c.seat.view_is c.requires.seat _ _ c.requires.place c.index.ensures in
    (i.no_slot, i.no_ticket, i.no_turn))

pub invariant_of-seat : goal.invariant_of-seat
invariant_of-seat g c =
    let rests = count_rests _ g.O.Object.counted _ _ _ _
    (rests_there _ _ _ _ _ _ c.self.invariant c.seat.invariant c.self.view_is c.seat.view_is c.requires.seat _ _
    c.requires.place c.index.ensures) c.seat.inside.token.table_id c.args.count c.count.result c.count.ensures.read in
    rests_after _ _ _ _ _ _ c.self.invariant c.seat.invariant c.self.view_is c.seat.view_is c.requires.seat _ _
    c.requires.place c.index.ensures c.count.new.token c.count.ensures.same
    (bare c.index.result.now.place c.count.new.token.me rests.0) rests.1
    (stays_read (Moves g.O.Object.meaning g.O.Object.counted) g.O.Object.counted c.index.result.now.opening
    (me_at c.index.result.now.place c.seat.inside.token.me) (me_at c.index.result.now.place c.count.new.token.me)
    c.args.count c.count.result c.count.ensures.read).names

pub returns-clause-gates : goal.returns-clause-gates
returns-clause-gates g c = gates_after _ _ _ _ _ _ c.self.invariant c.seat.invariant c.self.view_is c.seat.view_is
    c.requires.seat _ _ c.requires.place c.index.ensures c.count.new.token c.count.ensures.same

pub returns-clause-longer : goal.returns-clause-longer
returns-clause-longer g c = goes_on _ _ _ _ _ _ c.self.invariant c.seat.invariant c.self.view_is c.seat.view_is
    c.requires.seat _ _ c.requires.place c.index.ensures c.count.new.token c.count.ensures.same
    (stays_read (Moves g.O.Object.meaning g.O.Object.counted) g.O.Object.counted c.index.result.now.opening
    (me_at c.index.result.now.place c.seat.inside.token.me) (me_at c.index.result.now.place c.count.new.token.me)
    c.args.count c.count.result c.count.ensures.read)

pub returns-clause-read : goal.returns-clause-read
returns-clause-read g c = changes _ _ _ _ _ _ c.self.invariant c.seat.invariant c.self.view_is c.seat.view_is
    c.requires.seat _ _ c.requires.place c.index.ensures c.count.new.token c.count.ensures.same _
    (reads (Moves g.O.Object.meaning g.O.Object.counted) g.O.Object.counted _ _ _ _ c.count.ensures.same.0 _ _
    (rests_there _ _ _ _ _ _ c.self.invariant c.seat.invariant c.self.view_is c.seat.view_is c.requires.seat _ _
    c.requires.place c.index.ensures) c.args.count c.count.result c.count.ensures.read)
