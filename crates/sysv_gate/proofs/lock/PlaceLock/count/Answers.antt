use Rattle.std.proofs.Common.{rules, arith, ap, refl, ◌+◌, ◌*◌, ◌∙◌}
use Rattle.sysv_gate.specs.Counts.{word_of}
use Rattle.sysv_gate.specs.Steps.{Reads}
use Rattle.sysv_gate.proofs.CountsStayAnnounced.{below_80}
use Rattle.sysv_gate.proofs.StepKeepsRule.{reads}
use Rattle.sysv_gate.proofs.LearnedInCall.{never_falls, has_read}
use Rattle.sysv_gate.proofs.StepAtPlace.{lifted_none}
use Rattle.sysv_gate.proofs.PassUnchanged.{stepped_only}
use Rattle.sysv_gate.proofs.lock.PlaceLock.count.Goals as goal

pub load-requires : goal.load-requires
load-requires g c =
    let counted = g.O.Object.counted in
    let low = below_80 c.args.count in (
      search rules,
      omega (arith, c.word-2.ensures, c.word.ensures, c.requires.lock.1),
      lifted_none _ counted _ _ c.args.self.now.place _ (Reads counted) _ _ _ (word_of c.args.count) _ 0 0 (λ n. n)
          (c.word-2.ensures ∙ ap (λ n. 80 * c.args.self.now.place + n) c.word.ensures) c.requires.lock.0 low
          c.requires.at.1 c.requires.at.3
          (λ log.
          reads _ counted _ _ log _ _ _ c.args.count (never_falls g.O.Object.meaning counted c.args.count)
          c.requires.idle.2),
    )

pub returns-clause-same : goal.returns-clause-same
returns-clause-same g c = (
  search rules,
  search rules,
  stepped_only _ _ _ _ _
      (c.load.ensures.2 c.args.self.now.place (word_of c.args.count)
      (c.word-2.ensures ∙ ap (λ n. 80 * c.args.self.now.place + n) c.word.ensures) (below_80 c.args.count)),
)

pub returns-clause-read : goal.returns-clause-read
returns-clause-read g c =
    has_read g.O.Object.counted c.args.self.now.opening c.args.count (word_of c.args.count) _ _ _ refl c.requires.at.2
    c.requires.idle.0
    (c.load.ensures.2 c.args.self.now.place (word_of c.args.count)
    (c.word-2.ensures ∙ ap (λ n. 80 * c.args.self.now.place + n) c.word.ensures) (below_80 c.args.count)).there
