use Rattle.std.proofs.Common.{◌≡◌, length, arith, ap}
use Rattle.sysv_pool.specs.Blocks.{contents_of}
use Rattle.sysv_pool.specs.Chain.{Chained}
use Rattle.sysv_pool.proofs.Turns.{turn_released, turn_foreign}
use Rattle.sysv_pool.proofs.pool.Pool.release.Goals as goal

pub returns-then-chain-self-clause-turn : goal.returns-then-chain-self-clause-turn
returns-then-chain-self-clause-turn c =
    let blocks : length (contents_of c.chain.inside.link) ≡ c.args.chain.blocks =
    ap (λ (s : Chained). s.blocks) c.chain.view_is in
    rw (← c.self.view_is)
    (turn_foreign c.self.inside.size c.self.inside.count c.self.inside.released c.args.chain.blocks (omega arith))

pub invariant_of-self : goal.invariant_of-self
invariant_of-self c = (
  omega (arith, c.put.ensures, c.self.invariant.0),
  omega (arith, c.self.invariant.1),
  c.self.invariant.2,
)

pub returns-clause-turn : goal.returns-clause-turn
returns-clause-turn c =
    let seen : length (contents_of c.chain.inside.link) ≡ c.args.chain.blocks =
    ap (λ (s : Chained). s.blocks) c.chain.view_is in
    let blocks : c.chain.inside.count ≡ c.args.chain.blocks = omega (arith, c.chain.invariant, c.self.invariant.2) in
    rw (← c.self.view_is, blocks)
    (turn_released c.self.inside.size c.self.inside.count c.self.inside.released c.args.chain.blocks
    (omega (arith, c.self.invariant.1)))
