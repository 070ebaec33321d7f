use Rattle.std.proofs.Common.{ap, sym, ◌∙◌, length}
use Rattle.sysv_model.proofs.Boxed.{length_kept}
use Rattle.sysv_model.proofs.body.Body.len.Goals as goal

pub returns-clause-value : goal.returns-clause-value
returns-clause-value c =
    let b = c.self.inside in
    sym (ap length (sym c.self.view_is) ∙ length_kept b.blocks.items b.len c.self.invariant)
