-- A back has come as far as its send.
use Rattle.std.proofs.Common.{◌≡◌, [], refl, rules, subst, sym, FitsSigned, w32, w64}
use Rattle.std.proofs.lemmas.Int.{to_z-of_z}
use Rattle.sysv_service.specs.Ran.{Pass}
use Rattle.sysv_wire.specs.declared.frame.Version.TheVariants.{Three}
use Rattle.sysv_wire.specs.declared.request.Ask.TheVariants.{Snd}
use Rattle.sysv_seats.specs.Held.{holder_of}
use Rattle.sysv_seats.specs.Parked.{HasBegun}
use Rattle.sysv_seats.proofs.HeldPieces.{back_came}
use Rattle.sysv_seats.proofs.keeper.Keeper.begin_back.Goals as goal

pub returns-clause-begun : goal.returns-clause-begun
returns-clause-begun g c = λ cred text.
    let id : FitsSigned w32 c.id-id.result = search rules in
    let mtype : FitsSigned w64 c.mtype-mtype.result = search rules in
    let came = simp to_z-of_z at c.begin_send-came.ensures.begun in
    let same : c.settle_back.new.self.handler.pass ≡ c.begin_send-came.new.self.pass =
    rw c.settle_back.ensures.handler refl in
    let held = rw c.in-Some.is at c.message.ensures.message in
    back_came (g.C.Clock.may c.args.self.now.handler.clock.now) c.args.version cred text c.in-Some.message.now
    c.cred-cred.result c.id-id.result c.mtype-mtype.result c.from_bits_retain-none.result c.recall.new.text
    (holder_of c.args.self.now) c.begin_send-came.result (holder_of c.settle_back.new.self) c.settle_back.result
    c.clear.new.self held c.cred-cred.ensures c.id-id.ensures c.mtype-mtype.ensures
    (c.from_bits_retain-none.ensures tt) c.recall.ensures.text
    (subst (λ (p : Pass). HasBegun (g.C.Clock.may c.args.self.now.handler.clock.now) Three c.cred-cred.result
    (Snd c.id-id.result c.mtype-mtype.result c.from_bits_retain-none.result) c.recall.new.text
    c.args.self.now.handler.pass c.begin_send-came.result [] p) (sym same) came)
    c.settle_back.ensures.message c.settle_back.ensures.progress c.clear.ensures
