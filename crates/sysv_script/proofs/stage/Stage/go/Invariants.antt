use Rattle.std.proofs.Common.{◌-◌}
use Rattle.sysv_script.proofs.StepsOfCall.{GoingOn}
use Rattle.sysv_script.proofs.stage.Stage.go.Given as goal

abbrev pub invariant-loop : goal.invariant-loop
invariant-loop l = GoingOn l.fn.self l.self l.fn.actor l.fn.steps l.fn.last l.given (l.fn.steps - l.counter)
