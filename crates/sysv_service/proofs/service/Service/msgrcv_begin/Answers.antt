use Rattle.std.proofs.Common.{sym, subst, w32, w64, to_z, of_z}
use Rattle.std.proofs.lemmas.Int.{to_z-of_z}
use Rattle.sysv_steps.specs.Giving.{GivesNothing}
use Rattle.sysv_service.specs.Pending.{ReceivesOn}
use Rattle.sysv_service.proofs.ReceiveGivesTaken.{begin_gives_nothing}
use Rattle.sysv_service.proofs.service.Service.msgrcv_begin.Goals as goal

pub receive_on-requires-clause-nothing : goal.receive_on-requires-clause-nothing
receive_on-requires-clause-nothing g c =
    subst GivesNothing (c.begin-begun.ensures c.args.out.now 0)
    (begin_gives_nothing c.args.cred (to_z w32 (of_z w32 c.args.id)) c.args.size (to_z w64 (of_z w64 c.args.mtype))
    c.args.flags)

pub returns-clause-ran : goal.returns-clause-ran
returns-clause-ran g c =
    let may = g.C.Clock.may c.args.clock.now in
    let id = c.ranges.id in
    let mtype = c.ranges.mtype in
    let ran =
    subst (λ s. ReceivesOn may s c.args.pass.now c.receive_on.result c.receive_on.new.out c.receive_on.new.pass)
    (sym (c.begin-begun.ensures c.args.out.now 0)) c.receive_on.ensures.ran in
    simp to_z-of_z at ran
