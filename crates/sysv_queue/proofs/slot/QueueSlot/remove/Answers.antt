use Rattle.std.proofs.Common.{w32}
use Rattle.std.proofs.lemmas.Int.{to_z-of_z}
use Rattle.std.proofs.lemmas.Result.{err_from_is_err_and}
use Rattle.sysv_queue.proofs.Control.{remove_barred, removes_queue}
use Rattle.sysv_queue.proofs.slot.QueueSlot.remove.Goals as goal

pub returns-in_err-control-clause-turn : goal.returns-in_err-control-clause-turn
returns-in_err-control-clause-turn c =
    let p = err_from_is_err_and c.from_residual.result c.from_residual.ensures.1 in
    let bars = rw (to_z-of_z w32 c.args.id c.ranges.id) at c.in_err-control.ensures.barred in
    rw (p.1, p.2) (remove_barred c.args.self.now c.args.id c.args.cred c.in_err-control.field-0.0 bars)

pub returns-clause-turn : goal.returns-clause-turn
returns-clause-turn c =
    let found = rw (to_z-of_z w32 c.args.id c.ranges.id) at c.in_ok-control.ensures.controls in
    let turn = removes_queue c.args.self.now c.args.id c.args.cred found.1 found.2 in
    rw (c.change_to.ensures, c.take_all-chain.ensures.none, ← c.self.view_is) (rw (← c.self.view_is) at turn)
