use Rattle.std.proofs.Common.{◌≡◌, ℕ, List, ◌<◌, ◌+◌, ◌*◌, ◌/◌, ◌%◌, Some, length, arith, ap, sym, ◌∙◌}
use Rattle.std.proofs.Math.ListN.{get_or}
use Rattle.std.proofs.lemmas.List.{get_or-take}
use Rattle.std.proofs.lemmas.Option.{slice_get-get_or}
use Rattle.sysv_model.specs.Body.{bytes_of}
use Rattle.sysv_model.proofs.Boxed.{byte_at, length_kept}
use Rattle.sysv_model.proofs.body.Body.byte.Goals as goal

pub returns : goal.returns
returns c =
    let b = c.self.inside in
    let blocks = b.blocks.items in
    let i = c.args.i in
    let kept = c.self.invariant in
    let long : length c.args.self.now ≡ b.len = ap length (sym c.self.view_is) ∙ length_kept blocks b.len kept in
    let below : i < b.len = omega (arith, c.requires, long) in
    let within : i / 64 < length blocks = omega (arith, below, kept.room, kept.within) in
    let place : i ≡ i / 64 * 64 + i % 64 = omega arith in
    let block = c.deref-block.ensures ∙ ap (λ block. block.value) c.index.ensures in
    slice_get-get_or c.args.self.now i 0 c.requires
    ∙ ap (λ x. Some x) (
    ap (λ (t : List ℕ). get_or t i 0) (sym c.self.view_is)
    ∙ (get_or-take b.len (bytes_of blocks) i 0 below
    ∙ (ap (λ n. get_or (bytes_of blocks) n 0) place
    ∙ (byte_at (i / 64) (i % 64) blocks c.index.result.now kept.whole within (omega arith)
    ∙ ap (λ (t : List ℕ). get_or t (i % 64) 0) (sym block)))))
