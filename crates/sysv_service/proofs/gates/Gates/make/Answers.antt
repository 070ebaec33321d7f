use Rattle.std.proofs.Common.{IfOk, IfErr, ◌≡◌, refl, sym, subst}
use Rattle.sysv_objects.specs.Turns.{ask_of_call, Takes}
use Rattle.sysv_service.specs.Banked.{AreByKind, seats_seen}
use Rattle.sysv_service.specs.Gated.{Accepts, GatedMoves, gated_counts}
use Rattle.sysv_service.specs.Seats.{MakesTurnAt, FindsWorn}
use Rattle.sysv_gate.specs.History.{Moves}
use Rattle.sysv_gate.specs.Gates.{marked}
use Rattle.sysv_bank.specs.Banks.{AcceptsAt, ChangesAt}
use Rattle.sysv_bank.specs.Passes.{AddsToOrder}
use Rattle.sysv_service.proofs.PlacesShown.{of_bank, are_of, accepts_call}
use Rattle.sysv_service.proofs.ObjectAfterCall.{Called, called, found_worn}
use Rattle.sysv_service.proofs.ReadsInOrder.{know_what_they_read}
use Rattle.sysv_service.proofs.gates.Gates.make.Goals.{in-Ok, in-Err}
use Rattle.sysv_service.proofs.gates.Gates.make.Goals as goal

pub call-requires-clause-seat : goal.call-requires-clause-seat
call-requires-clause-seat g c = of_bank c.self.inside.bank c.seats.inside.seat _ _ c.self.invariant.0 c.seats.invariant
    c.self.view_is c.seats.view_is c.requires.seats

pub call-requires-clause-fits : goal.call-requires-clause-fits
call-requires-clause-fits g c =
    subst (λ p. AcceptsAt (Moves GatedMoves gated_counts) Accepts p c.self.inside.bank c.args.call)
    (sym c.place_of-place.ensures.place) (accepts_call c.self.inside.bank c.args.call c.self.invariant.0)

pub returns-clause-seats : goal.returns-clause-seats
returns-clause-seats g c = are_of c.self.inside.bank c.call.new.seat _ _ c.self.view_is refl c.call.ensures.gates

pub returns-clause-ok : goal.returns-clause-ok
returns-clause-ok g c =
    let before = c.seats.inside.seat in
    let after = c.call.new.seat in
    let call = c.args.call in
    let place = c.place_of-place.ensures.place in
    elim c.match-call.branch [
      | in-Ok w ↦
          subst (λ b. IfOk c.match-call.result (λ r. Takes MakesTurnAt b call r (seats_seen after))) c.seats.view_is
          (subst (λ s. IfOk s (λ r. Takes MakesTurnAt (seats_seen before) call r (seats_seen after))) (sym w.result-is)
          (called c.self.inside.bank before after call w.in-Ok.reply c.seats.invariant
          (of_bank c.self.inside.bank before _ _ c.self.invariant.0 c.seats.invariant c.self.view_is c.seats.view_is
          c.requires.seats) c.call.ensures.gates
          (subst (λ p. AddsToOrder p before after) place w.in-Ok.ensures.order)
          (subst (λ p. ChangesAt p before.seats after.seats (Called call w.in-Ok.reply)) place w.in-Ok.ensures.ok)
          (know_what_they_read after (subst AreByKind (sym c.call.ensures.gates) c.self.invariant.0)
          w.in-Ok.ensures.reads)))
      | in-Err w ↦
          subst (λ s. IfOk s (λ r. Takes MakesTurnAt c.args.seats.now call r (seats_seen after))) (sym w.result-is) tt
    ]

pub returns-clause-worn : goal.returns-clause-worn
returns-clause-worn g c =
    let before = c.seats.inside.seat in
    let after = c.call.new.seat in
    let call = c.args.call in
    let place = c.place_of-place.ensures.place in
    elim c.match-call.branch [
      | in-Ok w ↦
          subst (λ s. IfErr s (λ e. (e ≡ call) × FindsWorn c.args.seats.now (ask_of_call call) (seats_seen after)))
          (sym w.result-is) tt
      | in-Err w ↦
          subst (λ b. IfErr c.match-call.result (λ e. (e ≡ call) × FindsWorn b (ask_of_call call) (seats_seen after)))
          c.seats.view_is
          (subst (λ s. IfErr s (λ e. (e ≡ call) × FindsWorn (seats_seen before) (ask_of_call call) (seats_seen after)))
          (sym w.result-is) (
            w.in-Err.ensures.worn.0,
            found_worn c.self.inside.bank before after call c.seats.invariant
                (of_bank c.self.inside.bank before _ _ c.self.invariant.0 c.seats.invariant c.self.view_is
                c.seats.view_is c.requires.seats) c.call.ensures.gates w.in-Err.ensures.longer
                (subst (λ p. ChangesAt p before.seats after.seats (λ b a. a ≡ marked b)) place w.in-Err.ensures.worn.1),
          ))
    ]
