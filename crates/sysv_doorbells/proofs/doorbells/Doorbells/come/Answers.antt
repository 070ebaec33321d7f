use Rattle.std.proofs.Common.{rules, ap, arith}
use Rattle.sysv_doorbells.proofs.SleeperKeepsRule.{begins, comes}
use Rattle.sysv_doorbells.proofs.doorbells.Doorbells.come.Goals as goal

pub load_new_seat-token-requires : goal.load_new_seat-token-requires
load_new_seat-token-requires c = let many = c.self.invariant.0 in (omega arith, begins _ _ _)

pub fetch_add-requires : goal.fetch_add-requires
fetch_add-requires c =
    let many = c.self.invariant.0 in
    (search rules, omega arith, comes _ _ _ _ (ap (λ m. m.0.stage) c.load_new_seat-token.ensures.2))
