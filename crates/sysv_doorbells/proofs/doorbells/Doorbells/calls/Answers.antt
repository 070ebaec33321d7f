use Rattle.std.proofs.Common.{rules, ap, arith, ◌∙◌}
use Rattle.sysv_doorbells.specs.Steps.{Mine, moved, calling}
use Rattle.sysv_doorbells.specs.declared.view.Stage.{Stage}
use Rattle.sysv_doorbells.proofs.RingerKeepsRule.{spares, calls}
use Rattle.sysv_doorbells.proofs.Counts.{spared_none, spared_some, called_by}
use Rattle.sysv_doorbells.proofs.doorbells.Doorbells.calls.Goals as goal

pub load-requires : goal.load-requires
load-requires c =
    let many = c.self.invariant.0 in
    (search rules, omega arith, spares _ _ _ _ c.requires.near.0 c.requires.near.1)

pub swap-requires : goal.swap-requires
swap-requires c =
    let many = c.self.invariant.0 in (
      search rules,
      omega arith,
      calls _ _ _ _ (ap (λ m. m.0.stage) c.load.ensures.2 ∙ (spared_none _ c.if-load-eq0.true).0)
          (ap (λ m. m.0.at) c.load.ensures.2 ∙ c.requires.near.1),
    )

pub returns-then-load-eq0-clause-called : goal.returns-then-load-eq0-clause-called
returns-then-load-eq0-clause-called c =
    let m = c.args.token.now.me in
    c.swap.ensures.2 ∙ ap (λ (k : Mine). (moved (calling c.swap.result) k.0, k.1)) c.load.ensures.2
    ∙ ap (λ (s : Stage). (moved s m.0, m.1)) (called_by c.swap.result)

pub returns-clause-called : goal.returns-clause-called
returns-clause-called c =
    let m = c.args.token.now.me in
    c.load.ensures.2 ∙ ap (λ (s : Stage). (moved s m.0, m.1)) (spared_some c.load.result c.if-load-eq0.false).0
