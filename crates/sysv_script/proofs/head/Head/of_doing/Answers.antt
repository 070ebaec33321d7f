use Rattle.std.proofs.Common.{◌≡◌, option_map, subst}
use Rattle.sysv_steps.specs.Pending.{text_in, pending_state}
use Rattle.sysv_script.specs.Heads.{step_name}
use Rattle.sysv_script.specs.Names.{step_now}
use Rattle.sysv_script.proofs.PositionSeen.{waits_text}
use Rattle.sysv_script.proofs.head.Head.of_doing.Goals as goal

pub returns-in-None : goal.returns-in-None
returns-in-None c =
    let pending = c.args.doing.now.pending in
    let text = text_in c.args.doing.now.body in
    waits_text pending text c.args.actor c.of_doing-operation.result
    (subst (λ r. option_map step_name r ≡ step_now (pending_state pending text)) c.in-None.is c.of_doing.ensures)
    c.of_doing-operation.ensures
