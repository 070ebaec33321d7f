use Rattle.std.proofs.Common.{◌≡◌, length, arith, ◌∙◌}
use Rattle.sysv_model.specs.Pool.{blocks_for}
use Rattle.sysv_pool.specs.Blocks.{contents_of}
use Rattle.sysv_pool.proofs.Texts.{rounded_up}
use Rattle.sysv_pool.proofs.Turns.{turn_reserved, turn_too_few}
use Rattle.sysv_pool.proofs.pool.Pool.reserve.Goals as goal

pub returns-then-count-self-clause-turn : goal.returns-then-count-self-clause-turn
returns-then-count-self-clause-turn c =
    let count : c.div_ceil-count.result ≡ blocks_for c.args.size = c.div_ceil-count.ensures ∙ rounded_up c.args.size in
    rw (← c.self.view_is)
    (turn_too_few c.self.inside.size c.self.inside.count c.self.inside.released c.args.size (omega arith))

pub returns-clause-turn : goal.returns-clause-turn
returns-clause-turn c =
    let count : c.div_ceil-count.result ≡ blocks_for c.args.size = c.div_ceil-count.ensures ∙ rounded_up c.args.size in
    let made : length (contents_of c.take-link.result) ≡ c.div_ceil-count.result = c.take-link.ensures.chain in
    rw (← c.self.view_is, made, count)
    (turn_reserved c.self.inside.size c.self.inside.count c.self.inside.released c.args.size (omega arith))
