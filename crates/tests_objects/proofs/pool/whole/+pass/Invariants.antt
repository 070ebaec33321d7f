use Rattle.tests_objects.proofs.pool.whole.+pass.Given as goal

-- Each call of itself has one chain less to reserve.
abbrev pub decreases-pass : goal.decreases-pass
decreases-pass g l = l.chains
