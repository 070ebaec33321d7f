use Rattle.sysv_gate.proofs.Crossing.{seat_send, gate_sync}
use Rattle.tests_gates.proofs.sum.Sum.TheSendSync.{the_send as sum_send}
use Rattle.tests_gates.proofs.gate.threads.Role.TheSendSync.{the_send as role_send}
use Rattle.tests_gates.proofs.Crossing.{crossing}
use Rattle.tests_gates.proofs.gate.threads.act_all.Goals as goal

pub for_each_mut-requires-send-T : goal.for_each_mut-requires-send-T
for_each_mut-requires-send-T g c κs within = search (crossing, seat_send, gate_sync, sum_send, role_send) depth 40
