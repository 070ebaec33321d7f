-- A request without fields has no bytes after its operation.
use Rattle.std.proofs.Common.{ap, arith}
use Rattle.std.proofs.lemmas.List.{nil_from_length}
use Rattle.sysv_wire.specs.Requests.{ask_fields, fields_len}
use Rattle.sysv_wire.proofs.requests.ask_of.Goals as goal

pub returns-in-Done-clause-encoded : goal.returns-in-Done-clause-encoded
unfolding ask_fields
returns-in-Done-clause-encoded c =
    nil_from_length c.args.fields.now (omega (arith, c.requires, ap fields_len c.in-Done.is))

pub returns-in-Back-clause-encoded : goal.returns-in-Back-clause-encoded
unfolding ask_fields
returns-in-Back-clause-encoded c =
    nil_from_length c.args.fields.now (omega (arith, c.requires, ap fields_len c.in-Back.is))
