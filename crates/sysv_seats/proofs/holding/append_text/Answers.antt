use Rattle.std.proofs.Common.{◌≡◌, ◌≤◌, ◌+◌, ◌*◌, ◌++◌, ◌∙◌, ℕ, List, take, length, sym, ap, arith}
use Rattle.std.proofs.Common.{length-append, length-take, vec_capacity}
use Rattle.std.proofs.Math.Nat.{min-le_right}
use lib.Seq.{take-add}
use Rattle.sysv_model.specs.Blocks.{block_of}
use Rattle.sysv_seats.proofs.holding.append_text.Goals as goal

-- The blocks so far and the next one.
block_more : (k : ℕ) (text : List ℕ) → take (k * 64) text ++ block_of k text ≡ take ((k + 1) * 64) text
block_more k text =
    let more : k * 64 + 64 ≡ (k + 1) * 64 = omega arith in sym (take-add (k * 64) 64 text) ∙ ap (λ n. take n text) more

-- There is room for the next block.
block_fits : (k : ℕ) (text bytes block : List ℕ) (capacity : ℕ) → bytes ≡ take (k * 64) text →
    block ≡ block_of k text → length text ≤ capacity → length bytes + length block ≤ capacity
block_fits k text bytes block capacity so_far next room =
    let whole = min-le_right ((k + 1) * 64) (length text) in
    omega (
      arith,
      room,
      whole,
      ap (length {A = ℕ}) so_far,
      ap (length {A = ℕ}) next,
      ap (length {A = ℕ}) (block_more k text),
      length-append (take (k * 64) text) (block_of k text),
      length-take ((k + 1) * 64) text,
    )

-- Each block fits.
pub unreachable-requires : goal.unreachable-requires
unreachable-requires c =
    let fits =
    block_fits c.loop-k.k c.args.text.now c.loop-k.bytes.items c.block.result.now (vec_capacity c.loop-k.bytes)
    c.loop-k.invariant.so_far c.block.ensures c.loop-k.invariant.room in
    omega (arith, fits, c.loop-k.bytes.ok.0, c.in_default.ensures.full)

pub loop-k-preserved : goal.loop-k-preserved
loop-k-preserved c = record {
  so_far = c.in-Ok.ensures.items
      ∙ (ap (λ (l : List ℕ). l ++ c.block.result.now) c.loop-k.invariant.so_far
      ∙ (ap (λ (l : List ℕ). take (c.loop-k.k * 64) c.args.text.now ++ l) c.block.ensures
      ∙ block_more c.loop-k.k c.args.text.now));
  room = omega (arith, c.loop-k.invariant.room, c.in-Ok.ensures.capacity);
}
