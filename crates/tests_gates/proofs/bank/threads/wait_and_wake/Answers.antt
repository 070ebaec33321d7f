use Rattle.tests_gates.proofs.sum.Sum.TheSendSync.{the_send as sum_send, the_sync as sum_sync}
use Rattle.tests_gates.proofs.Crossing.{crossing, bank_seat_send, bank_sync}
use Rattle.tests_gates.proofs.bank.threads.wait_and_wake.Goals as goal

pub join-requires-send-F : goal.join-requires-send-F
join-requires-send-F g c κs within = search (crossing, bank_seat_send, bank_sync, sum_send, sum_sync) depth 40
