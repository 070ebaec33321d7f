use Rattle.std.proofs.Common.{rules, arith, ◌+◌, eqb, refl}
use prog.Atomic.{either}
use Rattle.sysv_gate.specs.Steps.{Draws}
use Rattle.sysv_gate.proofs.StepKeepsRule.{draws}
use Rattle.sysv_gate.proofs.StepAtPlace.{lifted_none}
use Rattle.sysv_gate.proofs.PassUnchanged.{stepped_only}
use Rattle.sysv_gate.proofs.lock.PlaceLock.draw_next.Goals as goal

pub compare_exchange-requires : goal.compare_exchange-requires
compare_exchange-requires g c =
    let idle = c.requires.idle in (
      search rules,
      omega (arith, c.word.ensures, c.requires.lock.1),
      lifted_none _ g.O.Object.counted _ _ c.args.self.now.place _ Draws _ _ _ 32 _ c.args.ticket (c.args.ticket + 1)
          (λ n. either (eqb n c.args.ticket) (c.args.ticket + 1) n) c.word.ensures c.requires.lock.0 (omega arith)
          c.requires.at.1 c.requires.at.3
          (λ log. draws _ g.O.Object.counted _ _ log _ _ _ _ _ refl c.requires.low idle.1 idle.2),
    )

pub returns-clause-same : goal.returns-clause-same
returns-clause-same g c = (
  search rules,
  search rules,
  stepped_only _ _ _ _ _ (c.compare_exchange.ensures.2 c.args.self.now.place 32 c.word.ensures (omega arith)),
)

pub returns-clause-drawn : goal.returns-clause-drawn
returns-clause-drawn g c = (c.compare_exchange.ensures.2 c.args.self.now.place 32 c.word.ensures (omega arith)).there
