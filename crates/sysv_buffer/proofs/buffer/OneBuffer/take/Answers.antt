use Rattle.std.proofs.Common.{ap, ◌∙◌, ◌++◌, ◌∷◌, []}
use Rattle.sysv_buffer.proofs.ConsumerAfterTake.{took}
use Rattle.sysv_buffer.proofs.buffer.OneBuffer.take.Goals as goal

pub invariant_of-end-2 : goal.invariant_of-end-2
invariant_of-end-2 g c =
    let end = c.end.invariant in
    let t =
    took _ c.end.inside.token.me c.await_item.new.token.me c.empty-item.new.token.me c.in-Some.cell c.empty-item.result
    end.role end.no_cell end.known c.in-Some.ensures.item.0 c.empty-item.ensures.was c.empty-item.ensures.taken in
    record { role = t.role; idle = t.idle; no_cell = t.no_cell; known = t.known }

pub returns-clause-ok : goal.returns-clause-ok
returns-clause-ok g c =
    let end = c.end.invariant in
    let t =
    took _ c.end.inside.token.me c.await_item.new.token.me c.empty-item.new.token.me c.in-Some.cell c.empty-item.result
    end.role end.no_cell end.known c.in-Some.ensures.item.0 c.empty-item.ensures.was c.empty-item.ensures.taken in
    t.longer ∙ ap (λ e. e.taken ++ c.empty-item.result ∷ []) c.end.view_is
