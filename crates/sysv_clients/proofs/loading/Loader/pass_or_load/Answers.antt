use Rattle.sysv_clients.proofs.LoadLemmas.{passes_line}
use Rattle.sysv_clients.proofs.loading.Loader.pass_or_load.Goals as goal

pub returns-then-is_early-clause-takes : goal.returns-then-is_early-clause-takes
returns-then-is_early-clause-takes g c = λ left taken fed unloaded unfed next so_far.
    passes_line c.args.loading.now c.pass.result c.args.self.now.sender.line left _ taken _ fed unloaded unfed
    c.args.self.now.place c.pass.new.self.place c.args.self.now.window c.pass.new.self.window so_far next
    c.if-is_early.ensures c.pass.ensures.passes c.pass.ensures.window c.pass.ensures.same_window

pub returns-else-is_early-clause-takes : goal.returns-else-is_early-clause-takes
returns-else-is_early-clause-takes g c = λ left taken fed unloaded unfed next so_far.
    c.load.ensures.takes left taken fed unloaded unfed c.if-is_early.ensures next so_far
