-- A hold goes on as its receive, a back as its send, and any other request as one of the handler.
use Rattle.std.proofs.Common.{refl, rules, subst, FitsSigned, w32, w64}
use Rattle.std.proofs.lemmas.Int.{to_z-of_z}
use Rattle.sysv_wire.specs.declared.request.Ask.{Ask}
use Rattle.sysv_seats.specs.Held.{IsHoldWaitOf, holder_of}
use Rattle.sysv_seats.proofs.HeldPieces.{answers_beside, looks_beside, on_beside, wait_beside, wait_of_back}
use Rattle.sysv_seats.proofs.keeper.Keeper.go_on.Goals as goal

pub go_on-requires-clause-kind : goal.go_on-requires-clause-kind
go_on-requires-clause-kind g c = wait_beside _ _ c.in_default.not-Hold c.in_default.not-Back c.requires.kind

pub returns-in_default-clause-begun : goal.returns-in_default-clause-begun
returns-in_default-clause-begun g c = λ start parked.
    on_beside _ _ _ c.args.request.now.ask c.args.text.now start c.args.waiting (holder_of c.args.self.now)
    c.go_on.result c.go_on.new.given _ c.in_default.not-Hold c.in_default.not-Back
    (c.go_on.ensures.begun start.at c.args.cred) refl parked

pub returns-in_default-clause-looks : goal.returns-in_default-clause-looks
returns-in_default-clause-looks g c =
    looks_beside _ _ _ _ _ _ _ _ _ _ c.in_default.not-Hold c.in_default.not-Back (c.go_on.ensures.looks, refl)

pub returns-in_default-clause-answer : goal.returns-in_default-clause-answer
returns-in_default-clause-answer g c = answers_beside _ _ _ _ c.in_default.not-Hold c.go_on.ensures.answer

pub back_on-requires-clause-kind : goal.back_on-requires-clause-kind
back_on-requires-clause-kind g c =
    wait_of_back c.args.waiting
    (subst (λ (a : Ask). IsHoldWaitOf a c.args.waiting) c.in-Back.is c.requires.kind)

pub hold_on-requires-clause-kind : goal.hold_on-requires-clause-kind
hold_on-requires-clause-kind g c =
    let id : FitsSigned w32 c.in-Hold.id = search rules in
    let mtype : FitsSigned w64 c.in-Hold.mtype = search rules in
    simp to_z-of_z (rw c.in-Hold.is at c.requires.kind)

pub returns-in-Hold-clause-begun : goal.returns-in-Hold-clause-begun
returns-in-Hold-clause-begun g c =
    let id : FitsSigned w32 c.in-Hold.id = search rules in
    let mtype : FitsSigned w64 c.in-Hold.mtype = search rules in
    rw c.in-Hold.is (simp to_z-of_z at c.hold_on.ensures.begun)

pub returns-in-Hold-clause-looks : goal.returns-in-Hold-clause-looks
returns-in-Hold-clause-looks g c =
    let id : FitsSigned w32 c.in-Hold.id = search rules in
    let mtype : FitsSigned w64 c.in-Hold.mtype = search rules in
    rw c.in-Hold.is (simp to_z-of_z at c.hold_on.ensures.looks)

pub returns-in-Hold-clause-answer : goal.returns-in-Hold-clause-answer
returns-in-Hold-clause-answer g c =
    let id : FitsSigned w32 c.in-Hold.id = search rules in
    let mtype : FitsSigned w64 c.in-Hold.mtype = search rules in
    rw c.in-Hold.is (simp to_z-of_z at c.hold_on.ensures.answer)

pub returns-in-Back-clause-begun : goal.returns-in-Back-clause-begun
returns-in-Back-clause-begun g c = rw c.in-Back.is (λ start parked.
    c.back_on.ensures.begun start c.args.cred c.args.text.now parked)

pub returns-in-Back-clause-looks : goal.returns-in-Back-clause-looks
returns-in-Back-clause-looks g c = rw c.in-Back.is (c.back_on.ensures.looks c.args.cred c.args.text.now)
