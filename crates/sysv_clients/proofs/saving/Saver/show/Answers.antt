-- A line was written and synced, or there is none.
use Rattle.std.proofs.Common.{◌∙◌, sym}
use Rattle.sysv_clients.proofs.SaveLemmas.{failed_at_text, quiet, written_synced}
use Rattle.sysv_clients.proofs.saving.Saver.show.Goals as goal

pub returns-then-is_empty-clause-synced : goal.returns-then-is_empty-clause-synced
returns-then-is_empty-clause-synced g c =
    quiet c.args.syncs _ _ _ (sym c.tell.ensures.page ∙ c.is_empty.ensures.none c.if-is_empty.true)

pub returns-clause-synced : goal.returns-clause-synced
returns-clause-synced g c = written_synced c.show_page.result c.args.syncs _ _ _ _ _ c.show_page.ensures.synced

pub returns-clause-line : goal.returns-clause-line
returns-clause-line g c =
    failed_at_text c.show_page.result _ _ c.tell.ensures.page (c.is_empty.ensures.some c.if-is_empty.false)
