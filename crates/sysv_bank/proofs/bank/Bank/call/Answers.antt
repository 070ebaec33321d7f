use Rattle.std.proofs.Common.{arith, ◌≡◌, false}
use Rattle.sysv_gate.specs.History.{Moves}
use Rattle.sysv_gate.specs.Gates.{Answers, marked}
use Rattle.sysv_gate.specs.Tables.{me_at}
use Rattle.sysv_bank.specs.Banks.{ChangesAt}
use Rattle.sysv_bank.specs.Passes.{GoesOn, AddsToOrder, KnowsItsReads}
use Rattle.sysv_bank.specs.Resting.{pass_of}
use Rattle.sysv_bank.proofs.Places.{if_ok, if_err, on_ok, both_ok, on_err}
use Rattle.sysv_bank.proofs.Passes.{lock_there, lock_of, is_at, idles, accepted, rests_there, gates_after, changes}
use Rattle.sysv_bank.proofs.Passes.{goes_on, rests_after, adds_to_order, knows_reads}
use Rattle.sysv_gate.proofs.SeenAfterCall.{bare, call_rests, answers, worn}
use Rattle.sysv_bank.proofs.PassAfterCall.{call_names, adds, stays_worn}
use Rattle.sysv_bank.proofs.bank.Bank.call.Goals as goal

pub index-requires : goal.index-requires
index-requires g c =
    let there = lock_there _ _ _ _ c.self.invariant c.self.view_is c.requires.place in
    let long = c.self.inside.locks.ok.0 in
    omega arith

pub call-requires-clause-lock : goal.call-requires-clause-lock
call-requires-clause-lock g c = lock_of _ _ _ _ _ _ c.self.invariant c.seat.invariant c.self.view_is c.seat.view_is
    c.requires.seat _ _ c.requires.place c.index.ensures

pub call-requires-clause-at : goal.call-requires-clause-at
call-requires-clause-at g c = is_at _ _ _ _ _ _ c.self.invariant c.seat.invariant c.self.view_is c.seat.view_is
    c.requires.seat _ _ c.requires.place c.index.ensures

pub call-requires-clause-idle : goal.call-requires-clause-idle
call-requires-clause-idle g c = idles _ _ _ _ _ _ c.self.invariant c.seat.invariant c.self.view_is c.seat.view_is
    c.requires.seat _ _ c.requires.place c.index.ensures

pub call-requires-clause-fits : goal.call-requires-clause-fits
call-requires-clause-fits g c = accepted _ _ _ _ _ _ c.self.invariant c.seat.invariant c.self.view_is c.seat.view_is
    c.requires.seat _ _ c.requires.place c.index.ensures (Moves g.O.Object.meaning g.O.Object.counted)
    g.O.Object.accepts c.args.call c.requires.fits

pub invariant_of-seat : goal.invariant_of-seat
invariant_of-seat g c =
    let rests = call_rests _ g.O.Object.counted _ _ _ _
    (rests_there _ _ _ _ _ _ c.self.invariant c.seat.invariant c.self.view_is c.seat.view_is c.requires.seat _ _
    c.requires.place c.index.ensures)
    c.seat.inside.token.table_id c.args.call c.call.result c.call.ensures.ok c.call.ensures.worn in
    rests_after _ _ _ _ _ _ c.self.invariant c.seat.invariant c.self.view_is c.seat.view_is c.requires.seat _ _
    c.requires.place c.index.ensures c.call.new.token c.call.ensures.same
    (bare c.index.result.now.place c.call.new.token.me rests.0) rests.1
    (call_names (Moves g.O.Object.meaning g.O.Object.counted) g.O.Object.counted c.index.result.now.opening
    (me_at c.index.result.now.place c.seat.inside.token.me) (me_at c.index.result.now.place c.call.new.token.me)
    c.args.call c.call.result c.call.ensures.ok c.call.ensures.worn)

pub returns-clause-gates : goal.returns-clause-gates
returns-clause-gates g c = gates_after _ _ _ _ _ _ c.self.invariant c.seat.invariant c.self.view_is c.seat.view_is
    c.requires.seat _ _ c.requires.place c.index.ensures c.call.new.token c.call.ensures.same

pub returns-clause-longer : goal.returns-clause-longer
returns-clause-longer g c =
    on_err _ _ (GoesOn c.args.seat.now (pass_of (record { token = c.call.new.token; key = c.seat.inside.key })))
    c.call.ensures.worn (λ e told.
    goes_on _ _ _ _ _ _ c.self.invariant c.seat.invariant c.self.view_is c.seat.view_is c.requires.seat _ _
    c.requires.place c.index.ensures c.call.new.token c.call.ensures.same
    (stays_worn (Moves g.O.Object.meaning g.O.Object.counted) g.O.Object.counted c.index.result.now.opening
    (me_at c.index.result.now.place c.seat.inside.token.me) (me_at c.index.result.now.place c.call.new.token.me)
    told.1))

pub returns-clause-ok : goal.returns-clause-ok
returns-clause-ok g c =
    if_ok _ _ (λ r.
    ChangesAt c.args.place c.args.seat.now.seats
    (pass_of (record { token = c.call.new.token; key = c.seat.inside.key })).seats (λ b a.
    Answers (Moves g.O.Object.meaning g.O.Object.counted) g.O.Object.counted b c.args.call r a × (b.worn ≡ false)))
    c.call.ensures.ok
    (λ r called.
    changes _ _ _ _ _ _ c.self.invariant c.seat.invariant c.self.view_is c.seat.view_is c.requires.seat _ _
    c.requires.place c.index.ensures c.call.new.token c.call.ensures.same (λ b a.
    Answers (Moves g.O.Object.meaning g.O.Object.counted) g.O.Object.counted b c.args.call r a × (b.worn ≡ false))
    (answers _ _ _ _ _ _ c.call.ensures.same.0 (me_at c.index.result.now.place c.seat.inside.token.me)
    (me_at c.index.result.now.place c.call.new.token.me)
    (rests_there _ _ _ _ _ _ c.self.invariant c.seat.invariant c.self.view_is c.seat.view_is c.requires.seat _ _
    c.requires.place c.index.ensures) _ _ called))

pub returns-clause-reads : goal.returns-clause-reads
returns-clause-reads g c =
    on_ok _ _ (KnowsItsReads (Moves g.O.Object.meaning g.O.Object.counted) g.O.Object.counted
    (pass_of (record { token = c.call.new.token; key = c.seat.inside.key }))) c.call.ensures.reads
    (knows_reads (Moves g.O.Object.meaning g.O.Object.counted)
    (record { token = c.call.new.token; key = c.seat.inside.key }) (
    let rests = call_rests _ g.O.Object.counted _ _ _ _
    (rests_there _ _ _ _ _ _ c.self.invariant c.seat.invariant c.self.view_is c.seat.view_is c.requires.seat _ _
    c.requires.place c.index.ensures)
    c.seat.inside.token.table_id c.args.call c.call.result c.call.ensures.ok c.call.ensures.worn in
    rests_after _ _ _ _ _ _ c.self.invariant c.seat.invariant c.self.view_is c.seat.view_is c.requires.seat _ _
    c.requires.place c.index.ensures c.call.new.token c.call.ensures.same
    (bare c.index.result.now.place c.call.new.token.me rests.0) rests.1
    (call_names (Moves g.O.Object.meaning g.O.Object.counted) g.O.Object.counted c.index.result.now.opening
    (me_at c.index.result.now.place c.seat.inside.token.me) (me_at c.index.result.now.place c.call.new.token.me)
    c.args.call c.call.result c.call.ensures.ok c.call.ensures.worn)) g.O.Object.counted)

pub returns-clause-order : goal.returns-clause-order
returns-clause-order g c = both_ok _ _ _
    (AddsToOrder c.args.place c.args.seat.now (pass_of (record { token = c.call.new.token; key = c.seat.inside.key })))
    c.call.ensures.ok c.call.ensures.order (λ r told ends.
    adds_to_order _ _ _ _ _ _ c.self.invariant c.seat.invariant c.self.view_is c.seat.view_is c.requires.seat _ _
    c.requires.place c.index.ensures c.call.new.token c.call.ensures.same ends
    (adds (Moves g.O.Object.meaning g.O.Object.counted) g.O.Object.counted c.index.result.now.opening
    (me_at c.index.result.now.place c.seat.inside.token.me) (me_at c.index.result.now.place c.call.new.token.me)
    c.args.call r told))

pub returns-clause-worn : goal.returns-clause-worn
returns-clause-worn g c =
    if_err _ _ (λ w.
    (w.call ≡ c.args.call)
    × ChangesAt c.args.place c.args.seat.now.seats
    (pass_of (record { token = c.call.new.token; key = c.seat.inside.key })).seats (λ b a. a ≡ marked b))
    c.call.ensures.worn
    (λ w told. (
      told.0,
      changes _ _ _ _ _ _ c.self.invariant c.seat.invariant c.self.view_is c.seat.view_is c.requires.seat _ _
          c.requires.place c.index.ensures c.call.new.token c.call.ensures.same (λ b a. a ≡ marked b)
          (worn (Moves g.O.Object.meaning g.O.Object.counted) g.O.Object.counted _ _ _ _ c.call.ensures.same.0
          (me_at c.index.result.now.place c.seat.inside.token.me) (me_at c.index.result.now.place c.call.new.token.me)
          (rests_there _ _ _ _ _ _ c.self.invariant c.seat.invariant c.self.view_is c.seat.view_is c.requires.seat _ _
          c.requires.place c.index.ensures) told.1),
    ))
