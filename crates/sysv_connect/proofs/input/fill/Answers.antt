use Rattle.std.proofs.Common.{◌≡◌, ◌≤◌, ◌+◌, ◌++◌, ℕ, List, length, take, sym, ap, subst, ◌∙◌, arith, length-append}
use borrow.Rule.Slice.PartMut.{put_mid, post_of}
use lib.Seq.{take-append-add}
use Rattle.std.proofs.lemmas.List.{length-take-le, take-append-le}
use Rattle.std.specs.Io.KnownBytes.{Consumes}
use Rattle.std.proofs.KnownBytes.{Consumes-trans}
use Rattle.sysv_connect.proofs.input.fill.Goals as goal

-- The first bytes after `n` more bytes were put in behind `a` bytes.
came : (a n k : ℕ) (xs ys : List ℕ) → a ≤ length xs → n ≤ length ys →
    take (a + n) (put_mid a k xs ys) ≡ take a xs ++ take n ys
came a n k xs ys within fits =
    let len : length (take a xs) ≡ a = length-take-le a xs within in
    ap (λ m. take (m + n) (put_mid a k xs ys)) (sym len) ∙ take-append-add (take a xs) (ys ++ post_of a k xs) n
    ∙ ap (λ l. take a xs ++ l) (take-append-le n ys (post_of a k xs) fits)

length_came : (a n k : ℕ) (xs ys : List ℕ) → a ≤ length xs → n ≤ length ys → a + n ≤ length (put_mid a k xs ys)
length_came a n k xs ys within fits =
    omega (
      arith,
      length-take-le a xs within,
      length-append (take a xs) (ys ++ post_of a k xs),
      length-append ys (post_of a k xs),
    )

pub loop-len-preserved : goal.loop-len-preserved
loop-len-preserved g c =
    let before = c.loop-len.buffer in
    let within = c.loop-len.invariant.within in
    let fits : c.in_ok-count.count ≤ length c.read_some.new.buffer = c.in_ok-count.ensures.bound.0 in
    record {
      within = length_came c.loop-len.len c.in_ok-count.count _ before c.read_some.new.buffer within fits;
      so_far = subst (Consumes _ _)
          (sym (came c.loop-len.len c.in_ok-count.count _ before c.read_some.new.buffer within fits))
          (Consumes-trans _ _ _ _ _ c.loop-len.invariant.so_far c.in_ok-count.ensures.bytes.0);
    }
