use Rattle.sysv_wire.specs.declared.arrived.FrameIn.TheVariants.{Whole, Refused, More}
use Rattle.sysv_wire.proofs.ArrivedLemmas.{ends_within, frame_reads, holds_request}
use Rattle.sysv_wire.proofs.arrived.frame_in_up_to.Goals as goal

pub returns-in-Err-clause-reads : goal.returns-in-Err-clause-reads
returns-in-Err-clause-reads c = frame_reads c.args.newest c.args.bytes.now (Refused c.in-Err.fault) c.in-Err.ensures.err

pub returns-in-Ok-clause-reads : goal.returns-in-Ok-clause-reads
returns-in-Ok-clause-reads c =
    frame_reads c.args.newest c.args.bytes.now (More c.in-Ok.least)
    (ends_within c.args.newest c.in-Ok.least c.args.bytes.now c.in-Ok.ensures.ok c.if-bytes-least.true)

pub returns-in-Ok-2-clause-holds : goal.returns-in-Ok-2-clause-holds
returns-in-Ok-2-clause-holds c =
    holds_request c.args.newest c.in-Ok.least c.args.bytes.now c.in-Ok.ensures.ok c.if-bytes-least.false

pub returns-in-Ok-2-clause-reads : goal.returns-in-Ok-2-clause-reads
returns-in-Ok-2-clause-reads c =
    frame_reads c.args.newest c.args.bytes.now (Whole c.in-Ok.least)
    (holds_request c.args.newest c.in-Ok.least c.args.bytes.now c.in-Ok.ensures.ok c.if-bytes-least.false)
