use Rattle.std.proofs.Common.{w32, w64}
use Rattle.std.proofs.lemmas.Int.{to_z-of_z}
use Rattle.sysv_script.proofs.CallNames.{send_without_id, send_without_type, send_without_flags, send_without_text}
use Rattle.sysv_script.proofs.CallNames.{says_send}
use Rattle.sysv_script.proofs.call.send_of.Goals as goal

pub returns-in_err-id-clause-says : goal.returns-in_err-id-clause-says
returns-in_err-id-clause-says c = rw c.from_residual.ensures (send_without_id c.args.arguments.now c.in_err-id.ensures)

pub returns-in_err-mtype-clause-says : goal.returns-in_err-mtype-clause-says
returns-in_err-mtype-clause-says c =
    rw c.from_residual-in_err-mtype.ensures
    (send_without_type c.args.arguments.now _ _ c.in_ok-id.ensures c.in_err-mtype.ensures)

pub returns-in_err-flags-clause-says : goal.returns-in_err-flags-clause-says
returns-in_err-flags-clause-says c =
    rw c.from_residual-in_err-flags.ensures
    (send_without_flags c.args.arguments.now _ _ _ _ c.in_ok-id.ensures c.in_ok-mtype.ensures c.in_err-flags.ensures)

pub returns-in_err-body-clause-says : goal.returns-in_err-body-clause-says
returns-in_err-body-clause-says c =
    rw c.from_residual-in_err-body.ensures
    (send_without_text c.args.arguments.now _ _ _ _ _ _ c.in_ok-id.ensures c.in_ok-mtype.ensures c.in_ok-flags.ensures
    c.in_err-body.ensures.says)

pub returns-clause-says : goal.returns-clause-says
returns-clause-says c =
    let id = c.in_ok-id.ensures.2.1 in
    let mtype = c.in_ok-mtype.ensures.2.1 in
    rw (to_z-of_z w32 c.in_ok-id.id id, to_z-of_z w64 c.in_ok-mtype.mtype mtype)
    (says_send c.args.arguments.now _ _ _ _ _ _ _ c.in_ok-id.ensures c.in_ok-mtype.ensures c.in_ok-flags.ensures
    c.in_ok-body.ensures.says)
