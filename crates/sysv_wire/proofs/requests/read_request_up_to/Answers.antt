use Rattle.std.proofs.Common.{List, ℕ, Option, subst}
use Rattle.sysv_model.specs.Instrumented.{stream_of}
use Rattle.sysv_wire.specs.Reading.{ReadsRequest}
use Rattle.sysv_wire.proofs.RequestAnswer.{request_only}
use Rattle.sysv_wire.proofs.requests.read_request_up_to.Goals as goal

pub returns-clause-only : goal.returns-clause-only
returns-clause-only g c = λ input answer known fits.
    let new = g.R.Read.remaining (stream_of c.next_request.new.reader) in
    let result = c.next_request.result in
    let text = c.next_request.new.text in
    request_only c.args.newest input new result answer text
    (subst (λ (old : Option (List ℕ)). ReadsRequest c.args.newest old new result text) known
    c.next_request.ensures.reads) fits
