use Rattle.std.proofs.Common.{◌≡◌, ℕ, List, ◌∷◌, ◌++◌, ◌∙◌, ap, arith, length, length-append, length-drop, take, drop}
use Rattle.std.proofs.Math.Seq.{take-append_seam}
use Rattle.std.proofs.lemmas.List.{take_all}
use Rattle.sysv_pool.proofs.blocks.write.Goals as goal

pub returns-in-Some-clause-text : goal.returns-in-Some-clause-text
returns-in-Some-clause-text c =
    let piece = c.args.piece.now in
    let text : List ℕ = c.in-Some.whole.now in
    let chunk = rw c.in-Some.is at c.as_array.ensures.cases in
    let is : text ≡ piece = chunk.same in
    let full : length text ≡ 64 = omega (arith, ap length is, chunk.long) in (
      text,
      ap (λ b. text ∷ drop 1 b) c.block.view_is,
      full,
      ap (λ (t : List ℕ). take (length piece) t) is ∙ take_all (length piece) piece (omega arith),
    )

pub returns-in-None-clause-text : goal.returns-in-None-clause-text
returns-in-None-clause-text c =
    let piece = c.args.piece.now in
    let kept = drop (length piece) c.block.inside.bytes in
    let text : List ℕ = c.copy_from_slice.new.self ++ kept in
    let is : text ≡ piece ++ kept = ap (λ (t : List ℕ). t ++ kept) c.copy_from_slice.ensures.after in
    let full : length text ≡ 64 = omega (
      arith,
      ap length is,
      length-append piece kept,
      length-drop (length piece) c.block.inside.bytes,
      c.block.told,
    ) in (
      text,
      ap (λ b. text ∷ drop 1 b) c.block.view_is,
      full,
      ap (λ (t : List ℕ). take (length piece) t) is ∙ take-append_seam piece kept,
    )
