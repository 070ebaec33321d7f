use Rattle.tests_gates.proofs.bank.keeper.Keeper.TheSendSync.{the_send as keeper_send, the_sync as keeper_sync}
use Rattle.tests_gates.proofs.bank.held.Role.TheSendSync.{the_send as role_send}
use Rattle.tests_gates.proofs.Crossing.{crossing, bank_seat_send, bank_sync}
use Rattle.tests_gates.proofs.bank.held.act_all.Goals as goal

pub for_each_mut-requires-send-T : goal.for_each_mut-requires-send-T
for_each_mut-requires-send-T g c κs within =
    search (crossing, bank_seat_send, bank_sync, keeper_send, keeper_sync, role_send) depth 40
