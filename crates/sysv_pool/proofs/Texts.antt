-- Bodies in blocks of 64 bytes.
use Rattle.std.proofs.Common.{◌≡◌, ℕ, ◌+◌, ◌-◌, ◌*◌, ◌/◌, ◌%◌, inl, inr, min, List, ◌++◌, length, take, drop, sym, ap}
use Rattle.std.proofs.Common.{◌∙◌, arith, length-take, length-drop}
use Rattle.std.proofs.Math.Seq.{take-append-add}
use Rattle.std.proofs.lemmas.List.{take_all, take-append-le, take-append-drop, drop-drop}
use Rattle.sysv_lists.proofs.Orders.{at_most}
use Rattle.sysv_model.specs.Blocks.{block_of}

-- Two ways to round the number of blocks up agree.
pub rounded_up : (n : ℕ) → n / 64 + min 1 (n % 64) ≡ (n + 63) / 64
rounded_up n = omega arith

pub length-block_of : (k : ℕ) (body : List ℕ) → length (block_of k body) ≡ min 64 (length body - k * 64)
length-block_of k body = length-take 64 (drop (k * 64) body) ∙ ap (λ n. min 64 n) (length-drop (k * 64) body)

-- With one more block filled in front, the blocks from there on hold the body.
pub one_more : (text body rest : List ℕ) (k : ℕ) → length text ≡ 64 →
    take (length (block_of k body)) text ≡ block_of k body →
    take (length body - (k + 1) * 64) rest ≡ drop ((k + 1) * 64) body →
    take (length body - k * 64) (text ++ rest) ≡ drop (k * 64) body
one_more text body rest k full written behind = elim (at_most ((k + 1) * 64) (length body)) [
  | inl whole ↦
      let all : length (block_of k body) ≡ 64 = omega (arith, length-block_of k body) in
      let same : text ≡ block_of k body =
      sym (take_all 64 text (omega arith)) ∙ (ap (λ n. take n text) (sym all) ∙ written) in
      let more : length body - k * 64 ≡ length text + (length body - (k + 1) * 64) = omega arith in
      let next : drop ((k + 1) * 64) body ≡ drop 64 (drop (k * 64) body) =
      ap (λ n. drop n body) (omega arith) ∙ sym (drop-drop 64 (k * 64) body) in
      ap (λ n. take n (text ++ rest)) more
      ∙ (take-append-add text rest _
      ∙ (ap (λ t. text ++ t) (behind ∙ next)
      ∙ (ap (λ t. t ++ drop 64 (drop (k * 64) body)) same ∙ take-append-drop 64 (drop (k * 64) body))))
  | inr part ↦
      let rest_of_it : block_of k body ≡ drop (k * 64) body =
      take_all 64 (drop (k * 64) body) (omega (arith, length-drop (k * 64) body)) in
      let all : length (block_of k body) ≡ length body - k * 64 = omega (arith, length-block_of k body) in
      take-append-le (length body - k * 64) text rest (omega arith)
      ∙ (ap (λ n. take n text) (sym all) ∙ (written ∙ rest_of_it))
]
