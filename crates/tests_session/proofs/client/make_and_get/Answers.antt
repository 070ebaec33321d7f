-- What the thread that makes the queue borrows may cross to it.
use Rattle.std.proofs.Common.{[], ◌∷◌}
use mir.Syntax.{named as lifetime}
use denote.Exit.{no}
use denote.Param.{param}
use denote.Param.Send.{IsSync, mut_send, param_send, shr_send}
use denote.Ref.{MutRef, NamedLft, ShrRef}
use Rattle.std.specs.contracts.alloc.Global as heap
use Rattle.std.proofs.alloc.Global.TheSendSync as heaps
use Rattle.sysv_gate.proofs.Crossing.{captured_send}
use Rattle.sysv_seats.specs.contracts.handler.ServiceHandler as handler
use Rattle.tests_session.specs.contracts.settling.Stage as stage
use Rattle.tests_session.specs.contracts.settling.StageClock.TheImpl as clock
use Rattle.sysv_service.proofs.Crossing.{crossing}
use Rattle.tests_session.proofs.Crossing.{handler_send}
use Rattle.tests_session.proofs.client.make_and_get.Lts as lts
use Rattle.tests_session.proofs.client.make_and_get.Goals as goal

pub join_mut-requires-send-F : goal.join_mut-requires-send-F
join_mut-requires-send-F g c κs within =
    let shared : IsSync stage.the_row = search crossing depth 30 in
    let l : NamedLft = record { mir = lifetime 12; lft = κs.1.1.1.1.1.1.1.1.1.1.1.1.0 } in
    let all =
    ShrRef (lifetime 8) κs.1.1.1.1.1.1.1.1.0 stage.the_row
    ∷ ShrRef (lifetime 9) κs.1.1.1.1.1.1.1.1.1.0 (param 0 g.row.R)
    ∷ ShrRef (lifetime 10) κs.1.1.1.1.1.1.1.1.1.1.0 heap.the_row
    ∷ MutRef (lifetime 11) κs.1.1.1.1.1.1.1.1.1.1.1.0
    (handler.the_row l stage.the_row (param 0 g.row.R) clock.ghosts)
    ∷ [] in
    let t = captured_send all (
      shr_send _ _ _ shared,
      (
        shr_send _ _ _ c.type_bounds.sync-R,
        (
          shr_send _ _ _ heaps.the_sync,
          (
            mut_send _ _ _ (handler_send l stage.the_row (param 0 g.row.R) clock.ghosts shared c.type_bounds.sync-R),
            tt,
          ),
        ),
      ),
    ) in
    param_send 1 (lts.arg-0-1 g.row.R g.R.laws g.R.Threads-dict g.R.Abort-dict g.R.Wait-dict κs)
    (record { owned = t.owned; leaving = λ k. t.leaving no })
