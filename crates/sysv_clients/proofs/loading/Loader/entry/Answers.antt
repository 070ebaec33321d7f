use Rattle.sysv_clients.proofs.EntryLemmas.{admitted}
use Rattle.sysv_clients.proofs.loading.Loader.entry.Goals as goal

pub returns-in-Ok-clause-reads : goal.returns-in-Ok-clause-reads
returns-in-Ok-clause-reads c =
    admitted c.args.self.now.place.lines c.in-Ok.found c.admit.result c.bytes-line.result.now
    c.args.self.now.sender.line c.read_entry.new.text c.bytes-line.ensures c.in-Ok.ensures c.admit.ensures
