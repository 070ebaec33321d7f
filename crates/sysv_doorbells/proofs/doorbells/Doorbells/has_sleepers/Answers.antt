use Rattle.std.proofs.Common.{arith}
use Rattle.sysv_doorbells.proofs.RingerKeepsRule.{passes_all}
use Rattle.sysv_doorbells.proofs.doorbells.Doorbells.has_sleepers.Goals as goal

pub load_new_seat-found-requires : goal.load_new_seat-found-requires
load_new_seat-found-requires c = let many = c.self.invariant.0 in (omega arith, passes_all _ _)
