-- Each legal history obeys the pool law.
use Rattle.std.proofs.Common.{ℕ, arith}
use Rattle.sysv_model.specs.Pool.{PoolHistory}
use Rattle.sysv_pool.specs.LegalReply.{IsLegalHistory}
use Rattle.sysv_pool.specs.PoolLaw.{PoolLaw}
use Rattle.sysv_pool.proofs.Sums.{within}

pub pool_law : (size : ℕ) (h : PoolHistory) → IsLegalHistory size h → PoolLaw size h
pool_law size h legal =
    let w = within size h legal in
    record {
      legal = legal;
      within = omega (arith, w.paid, w.owed);
      owed = w.owed;
      conserved = omega (arith, w.paid, w.owed);
    }
