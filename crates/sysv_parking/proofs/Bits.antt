-- The bits of workers and of changes.
use Rattle.std.proofs.Common.{◌≡◌, ◌≢◌, ◌<◌, ◌-◌, ◌*◌, ◌^◌, ◌∙◌, ℕ, w64, arith, ap, sym, subst, inl, inr, bit_and}
use Rattle.std.proofs.Common.{bit_or, List, length}
use Rattle.std.specs.Prelude.{slice_index, slice_set}
use Rattle.std.specs.Int.{bit_at, bit_not}
use Rattle.std.proofs.lemmas.Bool.{cases_eq}
use Rattle.std.proofs.lemmas.List.{get_or-set_other, get_or-set_same}
use Rattle.std.proofs.lemmas.Nat.{pow_below, pow_pos}
use Rattle.std.proofs.lemmas.Nat.Bits.{and_pow, bit_at-lt, bit_at-pow_other, bit_at-pow_same, bit_at_and, bit_at_not}
use Rattle.std.proofs.lemmas.Nat.Bits.{bit_at_or}

module _ (n k : ℕ) where
  pub clear_other : (i : ℕ) → k < 64 → i < 64 → i ≢ k → bit_at (bit_and n (18446744073709551615 - 2 ^ k)) i ≡ bit_at n i
  clear_other i within low apart = omega (
    arith,
    bit_at_and n (bit_not w64 (2 ^ k)) i,
    bit_at_not w64 (2 ^ k) i (pow_below k 64 within) low,
    bit_at-pow_other k i apart,
    bit_at-lt n i,
  )

  pub not_there : bit_and n (2 ^ k) ≡ 0 → bit_at n k ≡ 0
  not_there none =
      elim (cases_eq (bit_at n k) 0) [
        | inl e ↦ e
        | inr ne ↦
            let one : bit_at n k ≡ 1 = omega (arith, ne, bit_at-lt n k) in
            let set : bit_and n (2 ^ k) ≡ 1 * 2 ^ k = and_pow n k ∙ ap (λ b. b * 2 ^ k) one in
            absurd (omega (arith, set, none, pow_pos k))
      ]

  pub set_same : bit_at (bit_or n (2 ^ k)) k ≡ 1
  set_same = omega (arith, bit_at_or n (2 ^ k) k, bit_at-pow_same k, bit_at-lt n k)

pub or_more : (n m i : ℕ) → bit_at n i ≡ 1 → bit_at (bit_or n m) i ≡ 1
or_more n m i is = omega (arith, bit_at_or n m i, is, bit_at-lt m i)

-- The bit of another worker stays when the one of this worker is taken away.
pub still_left : (rest own k worker : ℕ) → own ≡ 2 ^ k → k < 64 → worker < 64 → worker ≢ k → bit_at rest worker ≡ 1 →
    bit_at (bit_and rest (18446744073709551615 - own)) worker ≡ 1
still_left rest own k worker e within low apart is =
    ap (λ (n : ℕ). bit_at (bit_and rest (18446744073709551615 - n)) worker) e
    ∙ clear_other rest k worker within low apart ∙ is

-- No bit of this worker.
pub none_own : (rest own k : ℕ) → own ≡ 2 ^ k → bit_and rest own ≡ 0 → bit_at rest k ≡ 0
none_own rest own k e none = not_there rest k (sym (ap (bit_and rest) e) ∙ none)

-- ---- words of changes

module _ (words : List ℕ) (at : ℕ) (there : at < length words) (k i : ℕ) (is : bit_at (slice_index words k) i ≡ 1) where
  -- The bits of a word are there after more were added.
  pub set_more : (bits : ℕ) →
      bit_at (slice_index (slice_set words at (bit_or (slice_index words at) bits)) k) i ≡ 1
  set_more bits =
      let more = bit_or (slice_index words at) bits in
      elim (cases_eq k at) [
        | inl e ↦ subst (λ (j : ℕ). bit_at (slice_index (slice_set words at more) j) i ≡ 1) (sym e)
            (ap (λ (w : ℕ). bit_at w i) (get_or-set_same words at more 0 there)
            ∙ or_more (slice_index words at) bits i (subst (λ (j : ℕ). bit_at (slice_index words j) i ≡ 1) e is))
        | inr ne ↦ ap (λ (w : ℕ). bit_at w i) (get_or-set_other words at k more 0 ne) ∙ is
      ]

  -- The other bits are there after one was taken away.
  pub set_less : (bit less : ℕ) → (k ≡ at → i ≢ bit) →
      ((j : ℕ) → j < 64 → j ≢ bit → bit_at less j ≡ bit_at (slice_index words at) j) → i < 64 →
      bit_at (slice_index (slice_set words at less) k) i ≡ 1
  set_less bit less apart same low =
      elim (cases_eq k at) [
        | inl e ↦ subst (λ (j : ℕ). bit_at (slice_index (slice_set words at less) j) i ≡ 1) (sym e)
            (ap (λ (w : ℕ). bit_at w i) (get_or-set_same words at less 0 there)
            ∙ same i low (apart e) ∙ subst (λ (j : ℕ). bit_at (slice_index words j) i ≡ 1) e is)
        | inr ne ↦ ap (λ (w : ℕ). bit_at w i) (get_or-set_other words at k less 0 ne) ∙ is
      ]

pub or_second : (n m i : ℕ) → bit_at m i ≡ 1 → bit_at (bit_or n m) i ≡ 1
or_second n m i is = omega (arith, bit_at_or n m i, is, bit_at-lt n i)
