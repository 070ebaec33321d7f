use Rattle.sysv_steps.proofs.HeldAfterOp.{each_holds, each_step_keeps}
use Rattle.sysv_steps.proofs.laws.each_holds_its_blocks.Goals as goal

pub returns : goal.returns
returns c = record { play = each_holds; step = each_step_keeps }
