use Rattle.std.proofs.Common.{◌+◌, ◌*◌, ◌++◌, length, take, drop, ap, ◌∙◌, append_assoc, arith, length-append}
use Rattle.std.proofs.Common.{length-take}
use Rattle.sysv_wire.proofs.StreamLemmas.{block_more}
use Rattle.sysv_clients.proofs.page.Page.body.Goals as goal

pub put-requires : goal.put-requires
put-requires c =
    let text = c.args.text.now in
    let k = c.loop-k.k in
    let done = ap length c.loop-k.invariant ∙ length-append c.args.self.now (take (k * 64) text) in
    let block = ap length c.block.ensures in
    let both = ap length (block_more k text) in
    let parts = length-append (take (k * 64) text) (take 64 (drop (k * 64) text)) in
    omega (arith, done, block, both, parts, length-take ((k + 1) * 64) text, c.requires)

pub loop-k-preserved : goal.loop-k-preserved
loop-k-preserved c =
    let text = c.args.text.now in
    let k = c.loop-k.k in
    let first = c.args.self.now in
    c.put.ensures.after ∙ ap (λ l. l ++ c.block.result.now) c.loop-k.invariant
    ∙ ap (λ l. (first ++ take (k * 64) text) ++ l) c.block.ensures
    ∙ append_assoc first (take (k * 64) text) (take 64 (drop (k * 64) text)) ∙ ap (λ l. first ++ l) (block_more k text)
