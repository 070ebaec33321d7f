use Rattle.std.proofs.Common.{rules, arith}
use Rattle.sysv_doorbells.proofs.SleeperKeepsRule.{goes}
use Rattle.sysv_doorbells.proofs.doorbells.Doorbells.go.Goals as goal

pub fetch_sub-requires : goal.fetch_sub-requires
fetch_sub-requires c =
    let many = c.self.invariant.0 in
    (search rules, omega arith, goes _ _ _ _ c.requires.left)
