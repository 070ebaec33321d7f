-- The send of what is held is begun.
use Rattle.std.proofs.Common.{◌≡◌, Option, ap, refl, subst, sym}
use Rattle.std.specs.Prelude.{is_some}
use Rattle.sysv_service.specs.Ran.{Pass}
use Rattle.sysv_seats.specs.Held.{holder_of}
use Rattle.sysv_seats.specs.Holding.{Message}
use Rattle.sysv_seats.specs.Parked.{HasBegun}
use Rattle.sysv_seats.specs.Sits.{zero_moment}
use Rattle.sysv_seats.proofs.Returns.{goes_back}
use Rattle.sysv_seats.proofs.returning.Keeper+Zero+R.give_back.Goals as goal

pub returns-clause-goes : goal.returns-clause-goes
returns-clause-goes g c =
    let same : c.settle_return.new.self.handler.pass ≡ c.begin-progress.new.self.pass =
    rw c.settle_return.ensures.handler refl in
    let held = rw c.in-Some.is at c.message.ensures.message in
    goes_back c.in-Some.message.now c.send-request.result c.cred-cred.result c.recall.new.text
    (holder_of c.args.self.now) c.begin-progress.result c.begin-progress.new.given c.settle_return.result
    (holder_of c.settle_return.new.self) held c.cred-cred.ensures c.send-request.ensures c.recall.ensures.text
    (subst (λ (p : Pass). HasBegun zero_moment c.send-request.result.version c.cred-cred.result
    c.send-request.result.ask c.recall.new.text c.args.self.now.handler.pass c.begin-progress.result
    c.begin-progress.new.given p) (sym same) c.begin-progress.ensures.begun)
    c.settle_return.ensures.came c.settle_return.ensures.message

pub settle_return-requires-clause-held : goal.settle_return-requires-clause-held
settle_return-requires-clause-held g c =
    ap (λ (held : Option Message). is_some held) (rw c.in-Some.is at c.message.ensures.message)
