-- Handlers may move to other threads.
use denote.Hole.{as_row}
use denote.RattleType.{RattleType}
use denote.Ref.{NamedLft, ShrRef}
use denote.Struct.Field.{row_field, shr_ref_field}
use denote.Param.Send.{IsSend, IsSync, shr_send}
use denote.Param.SendFields.{declared_send, as_row_send}
use Rattle.sysv_steps.specs.declared.clock.Clock.{Ghosts}
use Rattle.sysv_service.proofs.Crossing.{crossing, pass_send, service_sync}
use Rattle.sysv_service.specs.contracts.service.Service as service
use Rattle.sysv_seats.specs.contracts.handler.ServiceHandler as handler

pub handler_send : (l : NamedLft) (C R : RattleType) (g : Ghosts C.Denot) → IsSync C → IsSync R →
    IsSend (handler.the_row l C R g)
handler_send l C R g sc sr =
    let served : IsSend (as_row (shr_ref_field l service.the_row tt)) =
    search (crossing, service_sync, shr_send) depth 20 in
    declared_send (handler.the_type l C R g) (
      as_row_send (row_field (ShrRef l.mir l.lft R)) (shr_send l.mir l.lft R sr),
      (served, (as_row_send (row_field (ShrRef l.mir l.lft C)) (shr_send l.mir l.lft C sc), (pass_send, tt))),
    )
