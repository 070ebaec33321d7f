use Rattle.std.proofs.Common.{rules, ◌≡◌, ◌∷◌, ◌++◌, ◌+◌, ◌-◌, true, length, take, arith, ap, sym, ◌∙◌, length-append}
use Rattle.std.proofs.Common.{append_assoc}
use Rattle.std.proofs.Math.Seq.{take-append-add}
use Rattle.std.specs.List.{concat}
use Rattle.sysv_pool.specs.Blocks.{contents_of}
use Rattle.sysv_pool.proofs.blocks.copy_front.Goals as goal

pub loop-link-preserved : goal.loop-link-preserved
loop-link-preserved c =
    let bytes = c.block.inside.bytes in
    let rest = concat (contents_of c.block.inside.next) in
    let left = c.loop-link.left in
    let at : contents_of c.loop-link.link.now ≡ bytes ∷ contents_of c.block.inside.next = search rules in
    let long : length (concat (contents_of c.loop-link.link.now)) ≡ 64 + length rest =
    ap (λ x. length (concat x)) at ∙ (length-append bytes _ ∙ ap (λ n. n + length rest) c.block.invariant) in
    let fits : c.push_piece-in-Some.result ≡ true =
    c.push_piece-in-Some.ensures.fits (omega (arith, c.loop-link.invariant.room, c.requires.room, c.block.invariant)) in
    let after : c.push_piece-in-Some.new.self ≡ c.loop-link.out ++ bytes =
    rw fits at c.push_piece-in-Some.ensures.after in
    let more : left ≡ length bytes + (left - 64) = omega (arith, c.block.invariant) in
    let cut : take left (bytes ++ rest) ≡ bytes ++ take (left - 64) rest =
    ap (λ n. take n (bytes ++ rest)) more ∙ take-append-add bytes rest (left - 64) in
    record {
      there = omega (arith, c.loop-link.invariant.there);
      room = omega (
        arith,
        c.loop-link.invariant.room,
        ap length after,
        length-append c.loop-link.out bytes,
        c.block.invariant,
      );
      text = rw (after, append_assoc, ← cut)
          (ap (λ x. c.loop-link.out ++ take left (concat x)) (sym at) ∙ c.loop-link.invariant.text);
    }
