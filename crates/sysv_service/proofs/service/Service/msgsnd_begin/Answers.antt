use Rattle.std.proofs.Common.{◌≡◌, ℕ, refl, sym, subst}
use Rattle.std.proofs.lemmas.Int.{to_z-of_z}
use Rattle.sysv_steps.specs.Call.{Msgsnd}
use Rattle.sysv_steps.specs.Begin.{begin as begins}
use Rattle.sysv_steps.specs.Resume.{Released}
use Rattle.sysv_service.specs.Reading.{Reads}
use Rattle.sysv_service.specs.Ran.{Pass}
use Rattle.sysv_service.specs.Pending.{SendsOn}
use Rattle.sysv_service.proofs.ProceedsByStep.{sends_on}
use Rattle.sysv_service.proofs.service.Service.msgsnd_begin.Goals as goal

pub returns-clause-ran : goal.returns-clause-ran
returns-clause-ran g c =
    let mid : Pass = record { seats = c.count-released.new.seats; held = c.pass.inside.held.blocks } in
    let may = g.C.Clock.may c.args.clock.now in
    let id = c.ranges.id in
    let mtype = c.ranges.mtype in
    let ran =
    subst (λ s. SendsOn may s mid c.run_on.result c.args.text.now c.run_on.new.pass)
    (sym (c.begin-begun.ensures.next c.args.text.now (sym c.len.ensures.value)))
    (sends_on may _ mid c.run_on.result c.args.text.now c.run_on.new.pass c.run_on.ensures.ran c.run_on.ensures.can) in
    let on = simp to_z-of_z at ran in
    subst (λ (b : Pass).
    (released : ℕ) × (m : Pass) × Reads Released released b.seats m.seats × (m.held ≡ b.held)
    × SendsOn may (begins c.args.cred (Msgsnd c.args.id c.args.mtype c.args.flags c.args.text.now) released) m
    c.run_on.result c.args.text.now c.run_on.new.pass) c.pass.view_is
    (c.count-released.result, mid, c.count-released.ensures.read, refl, on)
