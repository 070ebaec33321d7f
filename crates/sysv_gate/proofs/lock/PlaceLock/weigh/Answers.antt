use Rattle.std.proofs.Common.{rules, arith}
use Rattle.sysv_gate.specs.Steps.{Weighs}
use Rattle.sysv_gate.proofs.StepKeepsRule.{weighs}
use Rattle.sysv_gate.proofs.StepAtPlace.{lifted_none}
use Rattle.sysv_gate.proofs.PassUnchanged.{stepped_only}
use Rattle.sysv_gate.proofs.lock.PlaceLock.weigh.Goals as goal

pub load-requires : goal.load-requires
load-requires g c = (
  search rules,
  omega (arith, c.word.ensures, c.requires.lock.1),
  lifted_none _ g.O.Object.counted _ _ c.args.self.now.place _ Weighs _ _ _ 32 _ 0 0 (λ n. n) c.word.ensures
      c.requires.lock.0 (omega arith) c.requires.at.1 c.requires.at.3
      (λ log. weighs _ g.O.Object.counted _ _ log _ _ _),
)

pub returns-clause-same : goal.returns-clause-same
returns-clause-same g c = (
  search rules,
  search rules,
  stepped_only _ _ _ _ _ (c.load.ensures.2 c.args.self.now.place 32 c.word.ensures (omega arith)),
)

pub returns-clause-weighed : goal.returns-clause-weighed
returns-clause-weighed g c = (c.load.ensures.2 c.args.self.now.place 32 c.word.ensures (omega arith)).there
