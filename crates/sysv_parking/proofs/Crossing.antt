-- The lines of parked calls, and what is to be done for them, may move to other threads.
use denote.Param.Send.{IsSend, sendable}
use denote.Param.SendFields.{declared_send, as_row_send}
use Rattle.std.proofs.Crossing.{crosses}
use Rattle.std.proofs.alloc.Global.TheSendSync as heaps
use Rattle.std.proofs.option.Option.TheSendSync as options
use Rattle.sysv_parking.specs.contracts.agenda.Agenda as agenda
use Rattle.sysv_parking.specs.contracts.changes.Changes as changes
use Rattle.sysv_parking.specs.contracts.due.Why as why
use Rattle.sysv_parking.specs.contracts.envelope.Envelope as envelope
use Rattle.sysv_parking.specs.contracts.key.Key as key
use Rattle.sysv_parking.specs.contracts.lines.Lines as lines

ruleset crossing =
    (sendable, crosses, options.the_send, options.the_field_send, declared_send, as_row_send, heaps.the_send)

key_send : IsSend key.the_row
key_send = search crossing depth 40

why_send : IsSend why.the_row
why_send = search crossing depth 40

pub lines_send : IsSend lines.the_row
lines_send = search (crossing, key_send, why_send) depth 60

pub envelope_send : IsSend envelope.the_row
envelope_send = search crossing depth 40

changes_send : IsSend changes.the_row
changes_send = search crossing depth 40

pub agenda_send : IsSend agenda.the_row
agenda_send = search (crossing, lines_send, envelope_send, changes_send) depth 60
