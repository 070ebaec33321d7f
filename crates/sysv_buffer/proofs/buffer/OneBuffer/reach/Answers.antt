use Rattle.std.proofs.Common.{rules, ap, ◌∙◌, ◌≡◌, length, arith}
use Rattle.sysv_buffer.proofs.StepKeepsRule.{counts_in, reaches}
use Rattle.sysv_buffer.proofs.buffer.OneBuffer.reach.Goals as goal

pub load-count-requires : goal.load-count-requires
load-count-requires g c = (search rules, search rules, counts_in _ _ _ c.requires.idle.0)

pub load-out-requires : goal.load-out-requires
load-out-requires g c =
    let still = c.load-count.ensures.2.0 in
    let long : length c.load-count.new.seat.me.0.put ≡ length c.args.token.now.me.0.put =
    ap (λ m. length m.0.put) still in (
      search rules,
      search rules,
      reaches _ _ _ (ap (λ m. m.0.role) still ∙ c.requires.idle.0) (ap (λ m. m.0.holds) still ∙ c.requires.idle.1)
          (omega (arith, c.load-count.ensures.2.1)),
    )
