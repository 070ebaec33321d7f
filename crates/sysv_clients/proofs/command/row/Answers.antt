use Rattle.std.proofs.Common.{sym}
use Rattle.sysv_clients.proofs.RowLemmas.{row_at, row_past}
use Rattle.sysv_clients.proofs.command.row.Goals as goal

pub returns-then-slot-rows-clause-ask : goal.returns-then-slot-rows-clause-ask
returns-then-slot-rows-clause-ask c =
    sym (row_at c.min-rows.result c.args.slots c.args.slot c.min-rows.ensures c.if-slot-rows.true)

pub returns-else-slot-rows-clause-ask : goal.returns-else-slot-rows-clause-ask
returns-else-slot-rows-clause-ask c =
    sym (row_past c.min-rows.result c.args.slots c.args.slot c.min-rows.ensures c.if-slot-rows.false)
