use Rattle.std.proofs.Common.{rules, arith, ap, sym, refl, cond, ◌+◌, ◌*◌, ◌%◌, ◌^◌, ◌∙◌}
use Rattle.sysv_gate.specs.Counts.{word_of}
use Rattle.sysv_gate.specs.Steps.{Announces, announced_by}
use Rattle.sysv_gate.specs.Tables.{me_at}
use Rattle.sysv_gate.proofs.CountsStayAnnounced.{below_80}
use Rattle.sysv_gate.proofs.StepKeepsRule.{announces}
use Rattle.sysv_gate.proofs.StepAtPlace.{lifted_none}
use Rattle.sysv_gate.proofs.PassUnchanged.{stepped_only}
use Rattle.sysv_gate.proofs.lock.PlaceLock.announce.Goals as goal

pub fetch_add-requires : goal.fetch_add-requires
fetch_add-requires g c =
    let counted = g.O.Object.counted in
    let low = below_80 c.args.count in (
      search rules,
      omega (arith, c.word-then-rose.ensures, c.word.ensures, c.requires.lock.1),
      lifted_none _ counted _ _ c.args.self.now.place _ Announces _ _ _ (word_of c.args.count) _ 1 0
          (λ n. (n + 1) % 2 ^ 64) (c.word-then-rose.ensures ∙ ap (λ n. 80 * c.args.self.now.place + n) c.word.ensures)
          c.requires.lock.0 low c.requires.at.1 c.requires.at.3
          (λ log.
          announces _ counted _ _ log _ _ _ c.args.count c.args.self.now.opening c.requires.at.2 c.requires.turn
          c.requires.quiet c.requires.low),
    )

pub returns-then-rose-clause-same : goal.returns-then-rose-clause-same
returns-then-rose-clause-same g c = (
  search rules,
  search rules,
  stepped_only _ _ _ _ _
      (c.fetch_add.ensures.2 c.args.self.now.place (word_of c.args.count)
      (c.word-then-rose.ensures ∙ ap (λ n. 80 * c.args.self.now.place + n) c.word.ensures) (below_80 c.args.count)),
)

pub returns-then-rose-clause-announced : goal.returns-then-rose-clause-announced
returns-then-rose-clause-announced g c = (c.fetch_add.ensures.2 c.args.self.now.place (word_of c.args.count)
    (c.word-then-rose.ensures ∙ ap (λ n. 80 * c.args.self.now.place + n) c.word.ensures) (below_80 c.args.count)).there
    c.args.count refl
    ∙ ap (λ b. (
      announced_by c.args.count (cond b 1 0) (me_at c.args.self.now.place c.args.token.now.me).0,
      (me_at c.args.self.now.place c.args.token.now.me).1,
    )) (sym c.if-rose.true)
