-- Proves that the rule holds when the words are opened.
use Rattle.std.proofs.Common.{◌≡◌, ◌≢◌, ℕ, zero, suc, ◌+◌, List, [], ◌∷◌, replicate, length, get_or, sym, refl, ap, ◌∙◌}
use Rattle.std.proofs.Common.{arith}
use mathlib.Core.Option.{some, some-ne-none, some-injective}
use lib.ListN.{get_elem?}
use Rattle.atomic_table.specs.Table.{opening}
use Rattle.sysv_bells.specs.declared.view.View.{View}
use Rattle.sysv_bells.specs.Rule.{Kept, start}

zero_at : (n i : ℕ) → get_or (replicate {A = ℕ} n 0) i 0 ≡ 0
zero_at zero i = refl
zero_at (suc n) zero = refl
zero_at (suc n) (suc i) = zero_at n i

length_zeros : (n : ℕ) → length (replicate {A = ℕ} n 0) ≡ n
length_zeros zero = refl
length_zeros (suc n) = ap suc (length_zeros n)

no_other : (about k : ℕ) (v : View) → get_elem? (start about ∷ []) k ≡ some v → k ≢ 0 → ⊥
no_other about zero v at apart = apart refl
no_other about (suc k) v at apart = some-ne-none v (sym at)

no_telling : (about k : ℕ) (v : View) → get_elem? (start about ∷ []) k ≡ some v → v.told ≡ []
no_telling about zero v at = sym (ap (λ (u : View). u.told) (some-injective (start about) v at))
no_telling about (suc k) v at = absurd (some-ne-none v (sym at))

pub opens : (about n : ℕ) (ws : List ℕ) → ws ≡ replicate {A = ℕ} n 0 → n ≡ about + 2 →
    Kept about (opening ws [] (start about))
opens about n ws is many =
    let all_zero : (i : ℕ) → get_or ws i 0 ≡ 0 = λ i. ap (λ l. get_or l i 0) is ∙ zero_at n i in
    let zeroth = all_zero 0 in
    let firsts = all_zero 1 in
    let size : length ws ≡ about + 2 = ap length is ∙ length_zeros n ∙ many in (
      start about,
      record {
        size = size;
        first = refl;
        sleeps = refl;
        tellers = λ k v at apart. absurd (no_other about k v at apart);
        rung_bit = omega arith;
        rung_since = omega arith;
        all_heard = λ _. omega arith;
        seen = omega arith;
        announced = λ i told read some_bit. let z = all_zero i in absurd (omega arith);
        all_read = λ away. omega arith;
        asleep_bit = omega arith;
        awake = λ e. zeroth;
        one_bell = λ away. absurd (away refl);
        answered = λ e. omega arith;
        delivered = λ k v at place t told_at.
            absurd (some-ne-none t (sym (sym (ap (λ l. get_elem? l place) (no_telling about k v at)) ∙ told_at)));
      },
    )
