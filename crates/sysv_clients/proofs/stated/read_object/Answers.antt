use Rattle.sysv_clients.proofs.StatedLemmas.{no_object}
use Rattle.sysv_clients.proofs.stated.read_object.Goals as goal

pub returns-in_default-members_in : goal.returns-in_default-members_in
returns-in_default-members_in c =
    no_object c.in-Ok-new.reader c.in-Ok.line.now c.args.line.now c.in-Ok-new.ensures.ok c.in-Ok.ensures.cases.0
    c.in_default-members_in.ensures
