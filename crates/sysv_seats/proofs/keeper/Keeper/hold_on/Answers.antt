-- A hold goes on as its receive.
use Rattle.std.proofs.Common.{inr, subst, sym}
use Rattle.std.proofs.lemmas.Int.{to_z-of_z}
use Rattle.sysv_wire.specs.declared.request.Ask.{Ask}
use Rattle.sysv_seats.specs.Held.{holder_of}
use Rattle.sysv_seats.specs.Parked.{IsWaitOf}
use Rattle.sysv_seats.proofs.HeldPieces.{goes_short, hold_answers, hold_on, wait_of_hold}
use Rattle.sysv_seats.proofs.keeper.Keeper.hold_on.Goals as goal

pub go_on-came-requires-clause-kind : goal.go_on-came-requires-clause-kind
go_on-came-requires-clause-kind g c =
    let id = c.ranges.id in
    let mtype = c.ranges.mtype in
    let ask = simp to_z-of_z at c.receive_of-receive.ensures.ask in
    subst (λ (a : Ask). IsWaitOf a c.args.waiting) (sym ask)
    (wait_of_hold c.args.id c.args.size c.args.mtype c.args.flags c.args.seconds c.args.waiting c.requires.kind)

pub keep-requires-clause-short : goal.keep-requires-clause-short
keep-requires-clause-short g c =
    let id = c.ranges.id in
    let mtype = c.ranges.mtype in
    let ask = simp to_z-of_z at c.receive_of-receive.ensures.ask in
    let answer = rw ask at c.go_on-came.ensures.answer in
    goes_short _ _ c.args.id c.args.size c.args.mtype c.args.flags _ _ _ _ _ _
    (wait_of_hold c.args.id c.args.size c.args.mtype c.args.flags c.args.seconds c.args.waiting c.requires.kind)
    c.go_on-came.ensures.looks answer

pub returns-clause-begun : goal.returns-clause-begun
returns-clause-begun g c =
    let id = c.ranges.id in
    let mtype = c.ranges.mtype in
    let held = simp to_z-of_z at c.keep.ensures.message in
    let ask = simp to_z-of_z at c.receive_of-receive.ensures.ask in
    let some = rw ask at c.go_on-came.ensures.begun in
    let on = rw c.receive_of-receive.ensures.version at some in
    rw c.keep.ensures.progress (λ start parked.
    hold_on _ _ c.args.cred c.args.id c.args.size c.args.mtype c.args.flags c.args.seconds c.args.text.now start
    c.args.waiting (holder_of c.args.self.now) c.go_on-came.result c.go_on-came.new.given (holder_of c.keep.new.self)
    (rw c.keep.ensures.handler (λ granted. on granted c.args.cred)) held parked)

pub returns-clause-looks : goal.returns-clause-looks
returns-clause-looks g c =
    let id = c.ranges.id in
    let held = simp to_z-of_z at c.keep.ensures.message in
    let looks = rw c.receive_of-receive.ensures.version at c.go_on-came.ensures.looks in
    inr (c.go_on-came.result, rw c.keep.ensures.handler looks, c.keep.ensures.progress, held)

pub returns-clause-answer : goal.returns-clause-answer
returns-clause-answer g c =
    let id = c.ranges.id in
    let mtype = c.ranges.mtype in
    let ask = simp to_z-of_z at c.receive_of-receive.ensures.ask in
    let some = rw ask at c.go_on-came.ensures.answer in
    let answer = rw c.receive_of-receive.ensures.version at some in
    rw c.keep.ensures.progress
    (hold_answers c.args.version c.args.id c.args.size c.args.mtype c.args.flags c.args.seconds c.go_on-came.result
    c.go_on-came.new.given answer)
