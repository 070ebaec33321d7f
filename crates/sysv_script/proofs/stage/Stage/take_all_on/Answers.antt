use Rattle.std.proofs.Common.{◌≡◌, arith}
use Rattle.sysv_script.proofs.AllOn.{none_on, one_on, all_on}
use Rattle.sysv_script.proofs.Kept.{on_err}
use Rattle.sysv_script.proofs.Prefixed.{prefix_none}
use Rattle.sysv_script.proofs.stage.Stage.take_all_on.Goals as goal

pub loop-actor-init : goal.loop-actor-init
loop-actor-init c = none_on c.args.self.now c.args.output.now

pub loop-actor-preserved : goal.loop-actor-preserved
loop-actor-preserved c =
    one_on c.args.self.now c.loop-actor.self c.take_one_on.new.self c.args.output.now c.loop-actor.output
    c.take_one_on.new.output c.loop-actor.actor
    c.loop-actor-test.true c.loop-actor.invariant c.in_ok-take_one_on.ensures.runs

pub returns-clause-runs : goal.returns-clause-runs
returns-clause-runs c =
    let most = c.loop-actor.invariant.most in
    let end : c.loop-actor.actor ≡ 17 = omega (arith, most, c.loop-actor-test.false) in
    all_on c.args.self.now c.loop-actor.self c.args.output.now c.loop-actor.output c.loop-actor.actor end
    c.loop-actor.invariant

pub returns-in_err-take_one_on-clause-err : goal.returns-in_err-take_one_on-clause-err
returns-in_err-take_one_on-clause-err c =
    on_err c.from_residual.result
    (prefix_none c.take_one_on.new.output c.args.output.now c.in_err-take_one_on.ensures.err)
