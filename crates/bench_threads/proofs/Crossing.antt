-- Seats of gates and banks may go to other threads, which may share a gate and a bank.
use Rattle.std.proofs.Common.{List, [], ◌∷◌}
use denote.RattleType.{RattleType}
use denote.Param.Send.{IsSend, IsSync, AllSync, sendable}
use denote.Struct.Field.{row_field}
use denote.Struct.Tuple.{parts, type_at, TupleAt}
use denote.Param.SendFields.{FieldsHave, declared_send, declared_sync, as_row_send, as_row_sync}
use Rattle.std.proofs.Crossing.{crosses}
use Rattle.sysv_gate.proofs.Crossing.{seat_send, gate_sync}
use Rattle.sysv_gate.specs.declared.object.Object.{Ghosts}
pub use Rattle.sysv_bank.proofs.Crossing.{bank_seat_send, bank_sync}

pub ruleset crossing = (sendable, crosses, declared_send, declared_sync, as_row_send, as_row_sync)

-- Threads may share what a closure captures if they may share each part of it.
parts_sync : (Ts : List RattleType) → AllSync Ts → FieldsHave IsSync (parts Ts)
parts_sync [] s = tt
parts_sync (T ∷ Ts) s = (as_row_sync (row_field T) s.0, parts_sync Ts s.1)

pub captured_sync : (Ts : List RattleType) → AllSync Ts → IsSync (TupleAt [] Ts)
captured_sync Ts s = declared_sync (type_at [] Ts) (parts_sync Ts s)
