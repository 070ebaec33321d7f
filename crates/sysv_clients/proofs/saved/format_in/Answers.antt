use Rattle.sysv_clients.proofs.SavedLemmas.{no_version}
use Rattle.sysv_clients.proofs.saved.format_in.Goals as goal

pub returns-in_default-number : goal.returns-in_default-number
returns-in_default-number c =
    no_version c.in-Some.format.now c.args.reader.now c.opens.new.reader c.string.new.reader c.if-not-opens.ensures
    c.in-Some.ensures c.in_default-number.ensures
