-- The call is begun, and its outcome is settled.
use Rattle.std.proofs.Common.{inl}
use Rattle.sysv_seats.specs.Held.{holder_of}
use Rattle.sysv_seats.specs.Holding.{timed}
use Rattle.sysv_seats.specs.Sits.{zero_moment}
use Rattle.sysv_seats.proofs.ClientSteps.{begun_replied}
use Rattle.sysv_seats.proofs.client.Client.ask.Goals as goal

pub settle-requires-clause-replied : goal.settle-requires-clause-replied
settle-requires-clause-replied g c =
    begun_replied zero_moment c.args.request.version c.args.cred c.args.request.ask c.args.tools.now.text
    (holder_of c.args.handler.now) c.begin-progress.result c.begin-progress.new.given
    (holder_of c.begin-progress.new.self) c.begin-progress.ensures.begun

pub returns-clause-keeps : goal.returns-clause-keeps
returns-clause-keeps g c = λ late newest start origin asked.
    c.settle.ensures.keeps newest start (timed (holder_of c.args.handler.now) late)
    (holder_of c.begin-progress.new.self) origin c.args.tools.now.text
    asked
    c.begin-progress.ensures.begun

pub returns-clause-said : goal.returns-clause-said
returns-clause-said g c = λ going. c.settle.ensures.said (inl going)
