use Rattle.std.proofs.Common.{rules, arith}
use Rattle.sysv_doorbells.proofs.SleeperKeepsRule.{clears}
use Rattle.sysv_doorbells.proofs.doorbells.Doorbells.clear.Goals as goal

pub store-requires : goal.store-requires
store-requires c =
    let many = c.self.invariant.0 in
    (search rules, omega arith, clears _ _ _ _ c.requires.ready)
