-- A seat of a bank may move to another thread, and threads may share a bank, if its objects may
-- cross threads.
use denote.RattleType.{RattleType}
use denote.Param.Send.{IsSend, IsSync, sendable, view_send, view_sync}
use denote.Param.SendFields.{declared_send, declared_sync, as_row_send, as_row_sync}
use Rattle.std.proofs.Crossing.{crosses, frees}
use Rattle.std.specs.contracts.option.Option as option
use Rattle.std.specs.contracts.snapshot.Snapshot as snapshot
use Rattle.std.specs.contracts.alloc.Global as heap
use Rattle.std.proofs.alloc.Global.TheSendSync as heaps
use Rattle.atomic_table.specs.contracts.shared.Seat as token
use Rattle.atomic_table.proofs.shared.Seat.TheSendSync as tokens
use Rattle.atomic_table.proofs.owned.Table.TheSendSync as tables
use Rattle.sysv_gate.specs.declared.object.Object.{Ghosts}
use Rattle.sysv_gate.specs.History.{Moves}
use Rattle.sysv_gate.specs.Tables.{InOrder, outset}
use Rattle.sysv_gate.specs.contracts.table.place.Place as place
use Rattle.sysv_gate.specs.contracts.table.view.Sight as sight
use Rattle.sysv_gate.specs.contracts.table.TableKey as table_key
use Rattle.sysv_gate.specs.contracts.table.PlaceTableRule as table_rule
use Rattle.sysv_gate.proofs.Crossing.{snapshot_send, spot_send, table_key_sync, lock_sync}
use Rattle.sysv_bank.specs.contracts.seat.BankSeat as seat
use Rattle.sysv_bank.specs.contracts.seat.BankSeat.TheInside as inside
use Rattle.sysv_bank.specs.contracts.bank.Bank as bank
use Rattle.sysv_bank.specs.contracts.bank.Bank.TheInside as within

ruleset fields = (sendable, crosses, declared_sync, as_row_sync, lock_sync)

pub bank_seat_send : (O C R : RattleType) (g : Ghosts O.Denot C.Denot R.Denot) → IsSend O →
    IsSend (seat.the_row O C R g)
bank_seat_send O C R g s = view_send (inside.the_row O C R g) _ _ _ _
    (declared_send (inside.the_type O C R g) (
      as_row_send (token.the_field (option.the_row (place.the_row O C R)) (sight.the_row O C R))
          (tokens.the_send (option.the_row (place.the_row O C R)) (sight.the_row O C R) (spot_send O C R s)),
      (as_row_send (snapshot.the_field (table_key.the_row O)) (snapshot_send (table_key.the_row O)), tt),
    ))

pub bank_sync : (O C R : RattleType) (g : Ghosts O.Denot C.Denot R.Denot) → IsSend O → IsSync O →
    IsSync (bank.the_row O C R g)
bank_sync O C R g s y = view_sync (within.the_row O C R g) _ _ _ _
    (declared_sync (within.the_type O C R g) (
      tables.the_sync (option.the_row (place.the_row O C R)) (sight.the_row O C R) (table_key.the_row O)
          (table_rule.the_row O) heap.the_row
          (record {
            holds = λ k. InOrder (Moves g.meaning g.counted) g.counted k.openings.value.items k.first;
            first = λ k. outset k.openings.value.items k.first;
          }) _ (spot_send O C R s) heaps.the_send heaps.the_sync frees,
      (table_key_sync O, (search fields depth 30, (search fields depth 30, tt))),
    ))
