use Rattle.std.proofs.Common.{◌≡◌, ◌≤◌, None, replicate, vec_capacity}
use Rattle.sysv_buffer.proofs.board.empty_cells.Given as goal

abbrev pub invariant-loop : goal.invariant-loop
invariant-loop g l = record { items : l.row.items ≡ replicate l.counter None; room : l.cells ≤ vec_capacity l.row }
