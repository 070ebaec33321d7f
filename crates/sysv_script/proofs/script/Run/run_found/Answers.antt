use Rattle.std.proofs.Common.{ℕ, List, subst, take}
use Rattle.sysv_script.specs.ScriptSofar.{LineEnds}
use Rattle.sysv_script.proofs.script.Run.run_found.Goals as goal

pub returns-then-not-found-clause-does : goal.returns-then-not-found-clause-does
returns-then-not-found-clause-does c = λ s seen.
    let h = c.in-Ok-true.ensures.runs s seen in
    let read : LineEnds s (take c.args.found.len c.args.self.now.input) c.in-Ok-true.field-0 h.1 h.0 =
    subst (λ (input : List ℕ). LineEnds s (take c.args.found.len input) c.in-Ok-true.field-0 h.1 h.0)
    c.waiting.ensures.bytes h.2 in (
      h.0,
      h.1,
      subst (λ b. LineEnds s (take c.args.found.len c.args.self.now.input) b h.1 h.0) c.in-Ok-true.field-0-test read,
      h.3,
      h.4,
    )

pub returns-else-not-found-clause-does : goal.returns-else-not-found-clause-does
returns-else-not-found-clause-does c = λ s seen.
    let h = c.in-Ok-true.ensures.runs s seen in
    let read : LineEnds s (take c.args.found.len c.args.self.now.input) c.in-Ok-true.field-0 h.1 h.0 =
    subst (λ (input : List ℕ). LineEnds s (take c.args.found.len input) c.in-Ok-true.field-0 h.1 h.0)
    c.waiting.ensures.bytes h.2 in (
      h.0,
      h.1,
      subst (λ b. LineEnds s (take c.args.found.len c.args.self.now.input) b h.1 h.0) c.in-Ok-true.field-0-test read,
      h.3,
      h.4,
    )
