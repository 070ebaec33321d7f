use Rattle.std.proofs.Common.{ap, ◌∙◌, ◌++◌, ◌∷◌, []}
use Rattle.sysv_buffer.proofs.ConsumerAfterTake.{took}
use Rattle.sysv_buffer.proofs.buffer.OneBuffer.try_take.Goals as goal

pub invariant_of-end : goal.invariant_of-end
invariant_of-end g c =
    let end = c.end.invariant in
    let t =
    took _ c.end.inside.token.me c.look.new.token.me c.empty-item.new.token.me c.in-Item.cell c.empty-item.result
    end.role end.no_cell end.known c.in-Item.ensures.looked.0 c.empty-item.ensures.was c.empty-item.ensures.taken in
    record { role = t.role; idle = t.idle; no_cell = t.no_cell; known = t.known }

pub returns-in-Item-clause-ok : goal.returns-in-Item-clause-ok
returns-in-Item-clause-ok g c =
    let end = c.end.invariant in
    let t =
    took _ c.end.inside.token.me c.look.new.token.me c.empty-item.new.token.me c.in-Item.cell c.empty-item.result
    end.role end.no_cell end.known c.in-Item.ensures.looked.0 c.empty-item.ensures.was c.empty-item.ensures.taken in
    t.longer ∙ ap (λ e. e.taken ++ c.empty-item.result ∷ []) c.end.view_is
