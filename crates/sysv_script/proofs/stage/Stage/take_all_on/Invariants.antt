use Rattle.sysv_script.proofs.AllOn.{AllSofar}
use Rattle.sysv_script.proofs.stage.Stage.take_all_on.Given as goal

abbrev pub invariant-loop-actor : goal.invariant-loop-actor
invariant-loop-actor l = AllSofar l.fn.self l.self l.fn.output l.output l.actor
