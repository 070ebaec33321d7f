use Rattle.sysv_steps.specs.Pending.{text_in}
use Rattle.sysv_core.proofs.actor_steps.chain_in.Goals as goal

pub returns : goal.returns
returns c = c.into_chain.ensures (text_in c.args.doing.body)
