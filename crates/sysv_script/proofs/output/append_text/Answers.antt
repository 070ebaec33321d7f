use Rattle.std.proofs.Common.{◌≡◌, ◌+◌, ◌*◌, ◌++◌, ℕ, List, take, drop, sym, ap, ◌∙◌, append_assoc, arith, rules}
use lib.Seq.{take-add}
use Rattle.sysv_script.proofs.output.append_text.Goals as goal

-- The blocks so far and the next one.
block_more : (k : ℕ) (text : List ℕ) → take (k * 64) text ++ take 64 (drop (k * 64) text) ≡ take ((k + 1) * 64) text
block_more k text =
    let more : k * 64 + 64 ≡ (k + 1) * 64 = omega arith in sym (take-add (k * 64) 64 text) ∙ ap (λ n. take n text) more

pub loop-k-preserved : goal.loop-k-preserved
loop-k-preserved c =
    let text = c.args.text.now in
    let k = c.loop-k.k in
    let first = c.args.bytes.now.items in
    let appended : c.extend_from_slice.new.self.items ≡ c.loop-k.bytes.items ++ c.block.result.now = search rules in
    appended ∙ ap (λ l. l ++ c.block.result.now) c.loop-k.invariant
    ∙ ap (λ l. (first ++ take (k * 64) text) ++ l) c.block.ensures
    ∙ append_assoc first (take (k * 64) text) (take 64 (drop (k * 64) text)) ∙ ap (λ l. first ++ l) (block_more k text)
