use Rattle.std.proofs.Common.{rules, ap, ◌∙◌}
use Rattle.sysv_buffer.proofs.StepKeepsRule.{counts_out, looks}
use Rattle.sysv_buffer.proofs.buffer.OneBuffer.look.Goals as goal

pub load-count-requires : goal.load-count-requires
load-count-requires g c = (search rules, search rules, counts_out _ _ _ c.requires.idle.0)

pub load-put-requires : goal.load-put-requires
load-put-requires g c =
    let still = c.load-count.ensures.2.0 in (
      search rules,
      search rules,
      looks _ _ _ (ap (λ m. m.0.role) still ∙ c.requires.idle.0) (ap (λ m. m.0.holds) still ∙ c.requires.idle.1),
    )
