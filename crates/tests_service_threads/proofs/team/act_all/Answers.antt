use Rattle.std.proofs.Common.{[], ◌∷◌}
use mir.Syntax.{named as lifetime}
use denote.Param.{param}
use denote.Param.Send.{param_sync, shr_sync}
use denote.Ref.{ShrRef}
use Rattle.std.specs.contracts.alloc.Global as heap
use Rattle.std.proofs.alloc.Global.TheSendSync as heaps
use Rattle.sysv_service.specs.contracts.service.Service as service
use Rattle.tests_service_threads.proofs.part.Part.TheSendSync.{the_send as part_send}
use Rattle.sysv_service.proofs.Crossing.{pass_send, service_sync, captured_sync, crossing}
use Rattle.tests_service_threads.proofs.team.act_all.Lts as lts
use Rattle.tests_service_threads.proofs.team.act_all.Goals as goal

pub for_each_mut-requires-send-T : goal.for_each_mut-requires-send-T
for_each_mut-requires-send-T g c κs within = search (crossing, pass_send, part_send) depth 30

pub for_each_mut-requires-sync-F : goal.for_each_mut-requires-sync-F
for_each_mut-requires-sync-F g c κs within =
    let t = captured_sync (ShrRef (lifetime 6) κs.1.1.1.1.1.1.0 (param 0 g.row.R)
    ∷ ShrRef (lifetime 7) κs.1.1.1.1.1.1.1.0 heap.the_row ∷ ShrRef (lifetime 8) κs.1.1.1.1.1.1.1.1.0 service.the_row
    ∷ [])
    (shr_sync _ _ _ c.type_bounds.sync-R, (shr_sync _ _ _ heaps.the_sync, (shr_sync _ _ _ service_sync, tt))) in
    param_sync 2 (lts.arg-1-2 g.row.R g.R.laws g.R.Threads-dict g.R.Abort-dict g.R.Wait-dict g.R.Clock-dict κs)
    (record { shared = t.shared })
