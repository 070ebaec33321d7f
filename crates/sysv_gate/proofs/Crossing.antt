-- A seat may move to another thread, and threads may share a gate, if its object may cross threads.
use Rattle.std.proofs.Common.{List, [], ◌∷◌}
use denote.RattleType.{RattleType}
use denote.Param.Send.{IsSend, IsSync, AllSend, sendable, view_send, view_sync, part_keyless}
use Rattle.sysv_gate.specs.declared.object.Object.{Ghosts}
use Rattle.sysv_gate.specs.History.{Moves}
use Rattle.sysv_gate.specs.Tables.{InOrder, outset}
use denote.Struct.Field.{row_field, u64-field, usize-field}
use Rattle.std.specs.contracts.option.Option as option
use Rattle.std.proofs.option.Option.TheSendSync as crossing
use denote.Struct.Tuple.{parts, type_at, TupleAt}
use denote.Param.SendFields.{FieldsHave, declared_send, declared_sync, as_row_send, as_row_sync}
use Rattle.std.specs.contracts.snapshot.Snapshot as snapshot
use Rattle.atomic_table.specs.contracts.shared.Seat as token
use Rattle.atomic_table.proofs.shared.Seat.TheSendSync as tokens
use Rattle.atomic_table.proofs.owned.Table.TheSendSync as tables
use Rattle.std.specs.contracts.alloc.Global as heap
use Rattle.std.proofs.alloc.Global.TheSendSync as heaps
use Rattle.std.proofs.Crossing.{frees}
use Rattle.sysv_gate.specs.contracts.table.PlaceTableRule as table_rule
use Rattle.sysv_gate.specs.contracts.table.view.Sight as sight
use Rattle.sysv_gate.specs.contracts.table.place.Done as done
use Rattle.sysv_gate.specs.contracts.table.place.Beside as beside
use Rattle.sysv_gate.specs.contracts.table.place.Beside.TheInside as beside_inside
use Rattle.sysv_gate.specs.contracts.table.place.Place as place
use Rattle.sysv_gate.specs.contracts.gate.seat.Key as key
use Rattle.sysv_gate.specs.contracts.gate.seat.Seat as seat
use Rattle.sysv_gate.specs.contracts.gate.seat.Seat.TheInside as inside
use Rattle.sysv_doorbells.proofs.doorbells.Doorbells.TheSendSync as doorbells
use Rattle.sysv_gate.specs.contracts.gate.Gate as gate
use Rattle.std.specs.contracts.vec.Vec as vec
use Rattle.std.specs.contracts.impls.GlobalAllocator.TheImpl as global
use Rattle.sysv_gate.specs.contracts.table.TableKey as table_key
use Rattle.sysv_gate.specs.contracts.lock.PlaceLock as lock
use Rattle.sysv_gate.specs.contracts.lock.PlaceLock.TheInside as lock_inside
use Rattle.sysv_gate.specs.contracts.gate.Gate.TheInside as within

pub snapshot_send : (T : RattleType) → IsSend (snapshot.the_row T)
snapshot_send T = record { owned = λ d vs. ((λ vss. (tt, ((λ uss. (tt, tt)), tt))), tt); leaving = λ k d w. tt }

pub snapshot_sync : (T : RattleType) → IsSync (snapshot.the_row T)
snapshot_sync T = record { shared = λ d b o κ q. part_keyless (snapshot.the_row T) (snapshot_send T) q d b o }

done_send : (C R : RattleType) → IsSend (done.the_row C R)
done_send C R = declared_send (done.the_type C R)
    (as_row_send (snapshot.the_field C) (snapshot_send C), (as_row_send (snapshot.the_field R) (snapshot_send R), tt))

beside_send : (C R : RattleType) → IsSend (beside.the_row C R)
beside_send C R = view_send (beside_inside.the_row C R) _ _ _ _ (declared_send (beside_inside.the_type C R) (
  as_row_send (option.the_field (done.the_row C R)) (crossing.the_field_send (done.the_row C R) (done_send C R)),
  (search sendable, tt),
))

place_send : (O C R : RattleType) → IsSend O → IsSend (place.the_row O C R)
place_send O C R s = declared_send (place.the_type O C R)
    (as_row_send (row_field O) s, (as_row_send (beside.the_field C R) (beside_send C R), tt))

pub spot_send : (O C R : RattleType) → IsSend O → IsSend (option.the_row (place.the_row O C R))
spot_send O C R s = crossing.the_send (place.the_row O C R) (place_send O C R s)

key_sync : (O : RattleType) → IsSync (key.the_row O)
key_sync O = declared_sync (key.the_type O)
    (as_row_sync (snapshot.the_field O) (snapshot_sync O), (as_row_sync u64-field (search sendable), tt))

inside_send : (O C R : RattleType) (g : Ghosts O.Denot C.Denot R.Denot) → IsSend O → IsSend (inside.the_row O C R g)
inside_send O C R g s = declared_send (inside.the_type O C R g) (
  as_row_send (token.the_field (option.the_row (place.the_row O C R)) (sight.the_row O C R))
      (tokens.the_send (option.the_row (place.the_row O C R)) (sight.the_row O C R) (spot_send O C R s)),
  (as_row_send (snapshot.the_field (key.the_row O)) (snapshot_send (key.the_row O)), tt),
)

pub seat_send : (O C R : RattleType) (g : Ghosts O.Denot C.Denot R.Denot) → IsSend O → IsSend (seat.the_row O C R g)
seat_send O C R g s = view_send (inside.the_row O C R g) _ _ _ _ (inside_send O C R g s)

pub table_key_sync : (O : RattleType) → IsSync (table_key.the_row O)
table_key_sync O = declared_sync (table_key.the_type O) (
  as_row_sync (snapshot.the_field (vec.the_row O heap.the_row global.ghosts))
      (snapshot_sync (vec.the_row O heap.the_row global.ghosts)),
  (as_row_sync u64-field (search sendable), tt),
)

pub lock_sync : (O C R : RattleType) (g : Ghosts O.Denot C.Denot R.Denot) → IsSync (lock.the_row O C R g)
lock_sync O C R g = view_sync (lock_inside.the_row O C R g) _ _ _ _
    (declared_sync (lock_inside.the_type O C R g) (
      as_row_sync usize-field (search sendable),
      (
        as_row_sync usize-field (search sendable),
        (as_row_sync (snapshot.the_field O) (snapshot_sync O), (doorbells.the_sync, tt)),
      ),
    ))

pub gate_sync : (O C R : RattleType) (g : Ghosts O.Denot C.Denot R.Denot) → IsSend O → IsSync (gate.the_row O C R g)
gate_sync O C R g s = view_sync (within.the_row O C R g) _ _ _ _
    (declared_sync (within.the_type O C R g) (
      tables.the_sync (option.the_row (place.the_row O C R)) (sight.the_row O C R) (table_key.the_row O)
          (table_rule.the_row O) heap.the_row
          (record {
            holds = λ k. InOrder (Moves g.meaning g.counted) g.counted k.openings.value.items k.first;
            first = λ k. outset k.openings.value.items k.first;
          }) _ (spot_send O C R s) heaps.the_send heaps.the_sync frees,
      (key_sync O, (as_row_sync (lock.the_field O C R g) (lock_sync O C R g), tt)),
    ))

-- The captures of a closure may move to another thread if each of them may.
parts_send : (Ts : List RattleType) → AllSend Ts → FieldsHave IsSend (parts Ts)
parts_send [] s = tt
parts_send (T ∷ Ts) s = (as_row_send (row_field T) s.0, parts_send Ts s.1)

pub captured_send : (Ts : List RattleType) → AllSend Ts → IsSend (TupleAt [] Ts)
captured_send Ts s = declared_send (type_at [] Ts) (parts_send Ts s)

-- The rules that `search` uses for these facts.
pub ruleset crossing_gates = (seat_send, gate_sync)
