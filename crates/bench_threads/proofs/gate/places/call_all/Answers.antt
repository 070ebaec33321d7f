use Rattle.std.proofs.Common.{[], ◌∷◌}
use mir.Syntax.{named as lifetime}
use denote.Param.{param}
use denote.Param.Send.{IsSync, param_sync, shr_sync}
use denote.Ref.{ShrRef}
use denote.Struct.Field.{u64-field}
use Rattle.sysv_bank.specs.contracts.bank.Bank as bank
use Rattle.bench_threads.specs.contracts.gate.sum.Sum as sum
use Rattle.bench_threads.specs.contracts.gate.sum.Raise as raise
use Rattle.bench_threads.specs.contracts.gate.sum.SumObject.TheImpl as object
use Rattle.bench_threads.proofs.gate.sum.Sum.TheSendSync.{the_send as sum_send, the_sync as sum_sync}
use Rattle.bench_threads.proofs.Crossing.{bank_seat_send, bank_sync, captured_sync, crossing}
use Rattle.bench_threads.proofs.gate.places.call_all.Lts as lts
use Rattle.bench_threads.proofs.gate.places.call_all.Goals as goal

pub for_each_mut-requires-send-T : goal.for_each_mut-requires-send-T
for_each_mut-requires-send-T g c κs within = search (crossing, bank_seat_send, sum_send) depth 30

-- Threads may share each part that the closure captures.
pub for_each_mut-requires-sync-F : goal.for_each_mut-requires-sync-F
for_each_mut-requires-sync-F g c κs within =
    let shared : IsSync (bank.the_row sum.the_row raise.the_row u64-field.row object.ghosts) =
    bank_sync sum.the_row raise.the_row u64-field.row object.ghosts sum_send sum_sync in
    let t = captured_sync (ShrRef (lifetime 6) κs.1.1.1.1.1.1.0 (param 0 g.row.R)
    ∷ ShrRef (lifetime 7) κs.1.1.1.1.1.1.1.0 (bank.the_row sum.the_row raise.the_row u64-field.row object.ghosts) ∷ [])
    (shr_sync _ _ _ c.type_bounds.sync-R, (shr_sync _ _ _ shared, tt)) in
    param_sync 2 (lts.arg-1-2 g.row.R g.R.laws g.R.Threads-dict g.R.Wait-dict κs) (record { shared = t.shared })
