-- A hold is begun whatever the body of the request.
use Rattle.std.proofs.Common.{rules, FitsSigned, refl, w32, w64}
use Rattle.std.proofs.lemmas.Int.{to_z-of_z}
use Rattle.sysv_seats.specs.Held.{holder_of}
use Rattle.sysv_seats.proofs.HeldPieces.{answers_beside, begun_beside}
use Rattle.sysv_seats.proofs.keeper.Keeper.begin.Goals as goal

pub returns-in-Hold-clause-begun : goal.returns-in-Hold-clause-begun
returns-in-Hold-clause-begun g c =
    let id : FitsSigned w32 c.in-Hold.id = search rules in
    let mtype : FitsSigned w64 c.in-Hold.mtype = search rules in
    let begun = simp to_z-of_z at c.begin_hold.ensures.begun in
    rw c.in-Hold.is (begun c.args.text.now)

pub returns-in-Done-clause-begun : goal.returns-in-Done-clause-begun
returns-in-Done-clause-begun g c = rw c.in-Done.is (rw c.requires.empty c.spend.ensures.spends)

pub returns-in-Back-clause-begun : goal.returns-in-Back-clause-begun
returns-in-Back-clause-begun g c = rw c.in-Back.is (c.begin_back.ensures.begun c.args.cred c.args.text.now)

pub returns-in_default-clause-begun : goal.returns-in_default-clause-begun
returns-in_default-clause-begun g c =
    begun_beside _ _ _ c.args.request.now.ask c.args.text.now (holder_of c.args.self.now) c.begin.result
    c.begin.new.given _ c.in_default.not-Hold c.in_default.not-Done c.in_default.not-Back c.begin.ensures.begun refl

pub returns-in_default-clause-answer : goal.returns-in_default-clause-answer
returns-in_default-clause-answer g c = answers_beside _ _ _ _ c.in_default.not-Hold c.begin.ensures.answer
