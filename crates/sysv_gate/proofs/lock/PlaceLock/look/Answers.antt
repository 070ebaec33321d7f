use Rattle.std.proofs.Common.{rules, arith}
use Rattle.sysv_gate.specs.History.{Moves}
use Rattle.sysv_gate.specs.Steps.{Turns}
use Rattle.sysv_gate.proofs.StepKeepsRule.{looks}
use Rattle.sysv_gate.proofs.LearnedInCall.{look_tells}
use Rattle.sysv_gate.proofs.StepAtPlace.{lifted_none}
use Rattle.sysv_gate.proofs.PassUnchanged.{stepped_only}
use Rattle.sysv_gate.proofs.lock.PlaceLock.look.Goals as goal

pub load-requires : goal.load-requires
load-requires g c =
    let counted = g.O.Object.counted in (
      search rules,
      omega (arith, c.word.ensures, c.requires.lock.1),
      lifted_none _ counted _ _ c.args.self.now.place _ (Turns (Moves g.O.Object.meaning counted) counted) _ _ _ 16 _ 0
          0 (λ n. n) c.word.ensures c.requires.lock.0 (omega arith) c.requires.at.1 c.requires.at.3
          (λ log. looks _ counted _ _ log _ _ _ c.requires.idle.2 c.requires.idle.0),
    )

pub returns-clause-same : goal.returns-clause-same
returns-clause-same g c = (
  search rules,
  search rules,
  stepped_only _ _ _ _ _ (c.load.ensures.2 c.args.self.now.place 16 c.word.ensures (omega arith)),
)

pub returns-clause-looked : goal.returns-clause-looked
returns-clause-looked g c = look_tells _ g.O.Object.counted _ _ _ _ c.requires.idle.0 c.requires.idle.2
    ((c.load.ensures.2 c.args.self.now.place 16 c.word.ensures (omega arith)).there _ c.requires.at.2)
