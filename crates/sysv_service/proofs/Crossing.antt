-- Passes may move to other threads, and threads may share a service.
use Rattle.std.proofs.Common.{List, [], ◌∷◌}
use denote.RattleType.{RattleType}
use denote.Param.Send.{IsSend, IsSync, AllSync, sendable}
use denote.Struct.Field.{row_field}
use denote.Struct.Tuple.{parts, type_at, TupleAt}
use denote.Param.SendFields.{FieldsHave, declared_send, declared_sync, as_row_send, as_row_sync}
use Rattle.std.proofs.Crossing.{crosses}
use Rattle.std.proofs.option.Option.TheSendSync as options
use Rattle.sysv_queue.proofs.Crossing.{block_send, block_sync, chain_send, queue_send, queue_sync}
use Rattle.sysv_keys.proofs.registry.Registry.TheSendSync as registries
use Rattle.sysv_pool.specs.contracts.loose.Loose as loose
use Rattle.sysv_pool.specs.contracts.size_class.SizeClass as size_class
use Rattle.sysv_pool.specs.contracts.free_list.FreeList as free_list
use Rattle.sysv_pool.specs.contracts.pool.Pool as pool
use Rattle.sysv_service.specs.contracts.kinds.Gated as gated
use Rattle.sysv_service.specs.contracts.object.SharedObject as shared
use Rattle.sysv_service.specs.contracts.seats.Seats as seats
use Rattle.sysv_service.specs.contracts.gates.Gates as gates
use Rattle.sysv_service.specs.contracts.pass.Pass as pass
use Rattle.sysv_service.specs.contracts.service.Service as service
use Rattle.sysv_bank.proofs.Crossing.{bank_seat_send, bank_sync}

pub ruleset crossing = (
  sendable,
  crosses,
  options.the_send,
  options.the_field_send,
  options.the_sync,
  options.the_field_sync,
  declared_send,
  declared_sync,
  as_row_send,
  as_row_sync,
)

loose_send : IsSend loose.the_row
loose_send = search (crossing, block_send) depth 30

loose_sync : IsSync loose.the_row
loose_sync = search (crossing, block_sync) depth 30

size_class_send : IsSend size_class.the_row
size_class_send = search (crossing, block_send) depth 30

size_class_sync : IsSync size_class.the_row
size_class_sync = search (crossing, block_sync) depth 30

free_list_send : IsSend free_list.the_row
free_list_send = search (crossing, loose_send, size_class_send) depth 30

free_list_sync : IsSync free_list.the_row
free_list_sync = search (crossing, loose_sync, size_class_sync) depth 30

pool_send : IsSend pool.the_row
pool_send = search (crossing, free_list_send) depth 30

pool_sync : IsSync pool.the_row
pool_sync = search (crossing, free_list_sync) depth 30

gated_send : IsSend gated.the_row
gated_send = search (crossing, queue_send, registries.the_send, pool_send) depth 30

gated_sync : IsSync gated.the_row
gated_sync = search (crossing, queue_sync, registries.the_sync, pool_sync) depth 30

shared_send : IsSend shared.the_row
shared_send = search (crossing, gated_send) depth 30

shared_sync : IsSync shared.the_row
shared_sync = search (crossing, gated_sync) depth 30

seats_send : IsSend seats.the_row
seats_send = search (crossing, bank_seat_send, shared_send) depth 30

pub pass_send : IsSend pass.the_row
pass_send = search (crossing, seats_send, chain_send) depth 30

gates_sync : IsSync gates.the_row
gates_sync = search (crossing, bank_sync, shared_send, shared_sync, queue_sync) depth 30

pub service_sync : IsSync service.the_row
service_sync = search (crossing, gates_sync) depth 30

-- Threads may share the captures of a closure if they may share each of them.
parts_sync : (Ts : List RattleType) → AllSync Ts → FieldsHave IsSync (parts Ts)
parts_sync [] s = tt
parts_sync (T ∷ Ts) s = (as_row_sync (row_field T) s.0, parts_sync Ts s.1)

pub captured_sync : (Ts : List RattleType) → AllSync Ts → IsSync (TupleAt [] Ts)
captured_sync Ts s = declared_sync (type_at [] Ts) (parts_sync Ts s)
