use Rattle.std.proofs.Common.{[], ◌∷◌}
use mir.Syntax.{named as lifetime}
use denote.Exit.{no as kept}
use denote.Param.{param}
use denote.Ref.{ShrRef}
use denote.Struct.Field.{u8-field, u64-field}
use denote.Param.Send.{IsSend, param_send, shr_send}
use Rattle.sysv_gate.specs.contracts.gate.Gate as gate
use Rattle.sysv_gate.specs.contracts.gate.seat.Seat as seat
use Rattle.tests_gates.specs.contracts.gate.threads.Slow as slow
use Rattle.tests_gates.specs.contracts.gate.threads.SlowObject.TheImpl as object
use Rattle.tests_gates.proofs.gate.threads.Slow.TheSendSync.{the_send as slow_send}
use Rattle.sysv_gate.proofs.Crossing.{seat_send, gate_sync, captured_send}
use Rattle.tests_gates.proofs.gate.threads.wait_out_a_try.Lts as lts
use Rattle.tests_gates.proofs.gate.threads.wait_out_a_try.Goals as goal

pub join-requires-send-F : goal.join-requires-send-F
join-requires-send-F g c κs within =
    let own = κs.1.1.1.1.1.1.0 in
    let shared = κs.1.1.1.1.1.1.1.0 in
    let seats : IsSend (seat.the_row slow.the_row u8-field.row u64-field.row object.ghosts) =
    seat_send slow.the_row u8-field.row u64-field.row object.ghosts slow_send in
    let t = captured_send (ShrRef (lifetime 6) own (param 0 g.row.R)
    ∷ ShrRef (lifetime 7) shared (gate.the_row slow.the_row u8-field.row u64-field.row object.ghosts)
    ∷ seat.the_row slow.the_row u8-field.row u64-field.row object.ghosts ∷ []) (
      shr_send (lifetime 6) own (param 0 g.row.R) c.type_bounds.sync-R,
      (
        shr_send (lifetime 7) shared (gate.the_row slow.the_row u8-field.row u64-field.row object.ghosts)
            (gate_sync slow.the_row u8-field.row u64-field.row object.ghosts slow_send),
        (seats, tt),
      ),
    ) in
    param_send _ (lts.arg-0-1 g.row.R g.R.laws g.R.Threads-dict g.R.Wait-dict g.R.Clock-dict κs)
    (record { owned = t.owned; leaving = λ _. t.leaving kept })
