use Rattle.sysv_thread_laws.proofs.RowsApart as rows
use Rattle.sysv_thread_laws.proofs.laws.no_call_reads_a_row.Goals as goal

pub returns : goal.returns
returns c = rows.no_call_reads_a_row
