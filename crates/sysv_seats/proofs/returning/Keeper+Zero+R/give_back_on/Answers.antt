-- The send of what is held goes on.
use Rattle.std.proofs.Common.{◌≡◌, Option, ap, refl, subst, sym}
use Rattle.std.specs.Prelude.{is_some}
use Rattle.sysv_service.specs.Ran.{Pass}
use Rattle.sysv_seats.specs.Held.{holder_of}
use Rattle.sysv_seats.specs.Holding.{Message}
use Rattle.sysv_seats.specs.Parked.{HasBegun}
use Rattle.sysv_seats.specs.Sits.{zero_moment}
use Rattle.sysv_seats.proofs.Returns.{goes_back_on}
use Rattle.sysv_seats.proofs.returning.Keeper+Zero+R.give_back_on.Goals as goal

pub returns-clause-goes : goal.returns-clause-goes
returns-clause-goes g c =
    let same : c.settle_return.new.self.handler.pass ≡ c.go_on-progress.new.self.pass =
    rw c.settle_return.ensures.handler refl in
    let held = rw c.in-Some.is at c.message.ensures.message in
    goes_back_on c.in-Some.message.now c.send-request.result c.recall.new.text (holder_of c.args.self.now) c.args.wait
    c.go_on-progress.result c.go_on-progress.new.given c.settle_return.result (holder_of c.settle_return.new.self)
    held c.send-request.ensures c.recall.ensures.text
    (λ start cred parked.
    subst (λ (p : Pass). HasBegun zero_moment c.send-request.result.version cred c.send-request.result.ask
    c.recall.new.text start c.go_on-progress.result c.go_on-progress.new.given p) (sym same)
    (c.go_on-progress.ensures.begun start cred parked))
    c.settle_return.ensures.came c.settle_return.ensures.message

pub settle_return-requires-clause-held : goal.settle_return-requires-clause-held
settle_return-requires-clause-held g c =
    ap (λ (held : Option Message). is_some held) (rw c.in-Some.is at c.message.ensures.message)
