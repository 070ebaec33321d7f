use Rattle.std.proofs.Common.{ℕ, List, ◌<◌, ◌-◌, ◌*◌, min, length, take, drop, arith, ap, ◌∙◌}
use Rattle.sysv_model.proofs.Boxed.{block_kept}
use Rattle.sysv_model.proofs.body.Body.block.Goals as goal

pub returns : goal.returns
returns c =
    let b = c.self.inside in
    let k = c.args.k in
    let kept = c.self.invariant in
    let more : k * 64 < b.len = c.if-start-self.false in
    let within : k < length b.blocks.items = omega (arith, more, kept.room, kept.within) in
    let block = c.deref-block.ensures ∙ ap (λ block. block.value) c.index.ensures in
    ap (λ n. take n c.deref-block.result.now) c.min.ensures
    ∙ (ap (λ (t : List ℕ). take (min 64 (b.len - k * 64)) t) block
    ∙ (block_kept k b.len b.blocks.items c.index.result.now kept.whole within more
    ∙ ap (λ (t : List ℕ). take 64 (drop (k * 64) t)) c.self.view_is))
