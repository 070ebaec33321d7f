-- The pending bytes in the buffer of the input.
use Rattle.std.proofs.Common.{◌≡◌, ℕ, ◌+◌, ◌-◌, ◌≤◌, List, ◌++◌, length, take, drop, slice_range, sym, ap, ◌∙◌, arith}
use Rattle.std.proofs.Common.{length-drop}
use borrow.Rule.Slice.PartMut.{put_mid, post_of}
use lib.Seq.{paste, take-append-add}
use Rattle.std.proofs.lemmas.List.{drop-take, drop-drop, length-take-le, take-append-le}
use Rattle.std.proofs.lemmas.List.Edits.{take-paste}

-- The pending bytes after `count` of them were dropped.
pub passed_over : (xs : List ℕ) (start end count : ℕ) → start + count ≤ end →
    slice_range xs (start + count) end ≡ drop count (slice_range xs start end)
passed_over xs start end count inside =
    let parts : end - start ≡ count + (end - (start + count)) = omega arith in
    sym (ap (λ j. drop count (take j (drop start xs))) parts ∙ drop-take count _ (drop start xs)
    ∙ ap (take (end - (start + count))) (drop-drop count start xs))

-- The pending bytes after they were moved to the front.
pub moved_to_front : (xs : List ℕ) (start end : ℕ) → start ≤ end → end ≤ length xs →
    take (end - start) (paste xs 0 (drop start xs) (end - start)) ≡ slice_range xs start end
moved_to_front xs start end ordered within =
    let same : end - start ≡ 0 + (end - start) = omega arith in
    ap (λ k. take k (paste xs 0 (drop start xs) (end - start))) same
    ∙ take-paste xs 0 (drop start xs) (end - start) (omega arith) (omega (arith, length-drop start xs))

-- The first bytes stayed, and more follow them.
pub came_behind : (held xs ys : List ℕ) (len count k : ℕ) → len ≤ length xs → count ≤ length ys → take len xs ≡ held →
    slice_range (put_mid len k xs ys) 0 (len + count) ≡ held ++ take count ys
came_behind held xs ys len count k within fits kept =
    let whole : len + count - 0 ≡ len + count = omega arith in
    let front : length (take len xs) ≡ len = length-take-le len xs within in
    ap (λ n. take n (put_mid len k xs ys)) whole
    ∙ ap (λ m. take (m + count) (put_mid len k xs ys)) (sym front)
    ∙ take-append-add (take len xs) (ys ++ post_of len k xs) count
    ∙ ap (λ l. take len xs ++ l) (take-append-le count ys (post_of len k xs) fits)
    ∙ ap (λ l. l ++ take count ys) kept
