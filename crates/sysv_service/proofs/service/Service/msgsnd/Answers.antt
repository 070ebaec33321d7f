use Rattle.std.proofs.Common.{◌≡◌, ℕ, refl, sym, subst}
use Rattle.std.proofs.lemmas.Int.{to_z-of_z}
use Rattle.sysv_steps.specs.Call.{Msgsnd}
use Rattle.sysv_steps.specs.Begin.{begin as begins}
use Rattle.sysv_steps.specs.Resume.{Released}
use Rattle.sysv_steps.specs.Seen.{ending_of}
use Rattle.sysv_steps.specs.State.{Ending, Over, Zero}
use Rattle.sysv_service.specs.Reading.{Reads}
use Rattle.sysv_service.specs.Ran.{Pass, Comes}
use Rattle.sysv_service.specs.Told.{TellsZero}
use Rattle.sysv_service.proofs.ProceedsByStep.{from_start, tells_zero}
use Rattle.sysv_service.proofs.service.Service.msgsnd.Goals as goal

pub returns-clause-ran : goal.returns-clause-ran
returns-clause-ran g c =
    let mid : Pass = record { seats = c.count-released.new.seats; held = c.pass.inside.held.blocks } in
    let may = g.C.Clock.may c.args.clock.now in
    let id = c.ranges.id in
    let mtype = c.ranges.mtype in
    let ending = ending_of (λ _. Zero) c.run.result in
    let ran =
    from_start (c.begin-begun.ensures.next c.args.text.now (sym c.len.ensures.value)) c.run.ensures.ran in
    let comes = simp to_z-of_z at ran in
    subst (λ (b : Pass).
    (released : ℕ) × (m : Pass) × Reads Released released b.seats m.seats × (m.held ≡ b.held) × (ending : Ending)
    × Comes may (begins c.args.cred (Msgsnd c.args.id c.args.mtype c.args.flags c.args.text.now) released) m
    (Over ending) c.run.new.pass × TellsZero ending c.run.result) c.pass.view_is (
      c.count-released.result,
      mid,
      c.count-released.ensures.read,
      refl,
      ending,
      comes,
      tells_zero c.run.result,
    )
