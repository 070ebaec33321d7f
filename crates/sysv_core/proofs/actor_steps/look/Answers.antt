use Rattle.std.proofs.Common.{ap, ◌∙◌, rules, refl}
use Rattle.sysv_steps.specs.Pending.{wait_of, text_in}
use Rattle.sysv_core.specs.World.{value_of}
use Rattle.sysv_core.proofs.TurnLeads.{looks_over, looks_on}
use Rattle.sysv_core.proofs.actor_steps.look.Goals as goal

pub returns-then-value-above : goal.returns-then-value-above
returns-then-value-above c = λ generation turns s.
    let text = text_in c.args.body in
    looks_over (wait_of c.args.wait text) c.count_now-value.result c.awaits-count.result.1 turns
    (c.count_now-value.ensures generation turns s ∙ ap (value_of turns) (c.awaits-count.ensures.count text))
    (c.awaits-count.ensures.above text) _ (search rules) (c.resume.ensures.next text)

pub returns-else-value-above : goal.returns-else-value-above
returns-else-value-above c = λ generation turns s.
    let text = text_in c.args.body in
    looks_on (wait_of c.args.wait text) c.count_now-value.result c.awaits-count.result.1 turns
    (c.count_now-value.ensures generation turns s ∙ ap (value_of turns) (c.awaits-count.ensures.count text))
    (c.awaits-count.ensures.above text) _ (search rules) refl
