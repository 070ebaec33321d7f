use Rattle.tests_threads.proofs.workers.items_of.Given as goal

-- There is one ticket fewer each time.
abbrev pub decreases-loop-ticket : goal.decreases-loop-ticket
decreases-loop-ticket g l = goal.left-loop-ticket g l
