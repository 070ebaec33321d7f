use Rattle.sysv_gate.proofs.Crossing.{seat_send, gate_sync}
use Rattle.tests_gates.proofs.gate.threads.passed_over.Lasting.TheSendSync.{the_send as lasting_send}
use Rattle.tests_gates.proofs.Crossing.{crossing}
use Rattle.tests_gates.proofs.gate.threads.passed_over.act_all.Goals as goal

pub for_each_mut-requires-send-T : goal.for_each_mut-requires-send-T
for_each_mut-requires-send-T g c κs within = search (crossing, seat_send, gate_sync, lasting_send) depth 40
