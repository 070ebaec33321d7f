-- Proves what a take leaves of the consumer's end.
use Rattle.std.proofs.Common.{Option, ◌%◌, ◌≡◌, ℕ, zero, suc, ◌+◌, ◌≤◌, false, List, [], ◌∷◌, ◌++◌, length, take, refl}
use Rattle.std.proofs.Common.{sym, ap, ◌∙◌, arith, add-one, None, Some}
use mathlib.Core.Option.{some, some-injective, some-ne-none}
use lib.ListN.{get_elem?}
use Rattle.std.proofs.lemmas.List.{take-append-le}
use Rattle.sysv_buffer.specs.declared.view.Role.TheVariants.{Consumer}
use Rattle.sysv_buffer.specs.Steps.{Mine, Grabs}
use Rattle.sysv_lists.proofs.Places.{at_below}

module _ {T : Type 0} where
  take_next : (xs : List T) (t : ℕ) (x : T) → get_elem? xs t ≡ some x → take (suc t) xs ≡ take t xs ++ x ∷ []
  take_next [] t x at = absurd (some-ne-none x (sym at))
  take_next (y ∷ xs) zero x at = ap (λ z. z ∷ []) (some-injective y x at)
  take_next (y ∷ xs) (suc t) x at = ap (λ l. y ∷ l) (take_next xs t x at)

  -- The item in the first cell.
  first_item : T → List (ℕ × Option T) → T
  first_item d [] = d
  first_item d ((i, None) ∷ xs) = d
  first_item d ((i, Some a) ∷ xs) = a

  pub same_item : (xs ys : List (ℕ × Option T)) (a b : T) (i k : ℕ) → xs ≡ ys → xs ≡ (i, Some a) ∷ [] →
      ys ≡ (k, Some b) ∷ [] → a ≡ b
  unfolding first_item
  same_item xs ys a b i k e is was = sym (ap (first_item a) is) ∙ (ap (first_item a) e ∙ ap (first_item a) was)

  pub record Took (m m' : Mine T) (item : T) : Type 0 where
    pub role : m'.0.role ≡ Consumer
    pub idle : m'.0.holds ≡ false
    pub no_cell : m'.1 ≡ []
    pub known : m'.0.taken ≤ length m'.0.put
    pub longer : take m'.0.taken m'.0.put ≡ take m.0.taken m.0.put ++ item ∷ []

  pub took : (slots : ℕ) (m n k : Mine T) (cell : ℕ) (item : T) → m.0.role ≡ Consumer → m.1 ≡ []
      → m.0.taken ≤ length m.0.put → Grabs slots m n
      → n.1 ≡ (cell, Some item) ∷ [] → k ≡ (record n.0 { taken = n.0.taken + 1; holds = false }, []) → Took m k item
  took slots m n k cell item role bare known g was is =
      let t = m.0.taken in
      let low = at_below g.put t g.item g.at in
      let taken : k.0.taken ≡ t + 1 = ap (λ (x : Mine T). x.0.taken) is ∙ ap (λ (x : Mine T). x.0.taken + 1) g.is in
      let put : k.0.put ≡ g.put = ap (λ (x : Mine T). x.0.put) is ∙ ap (λ (x : Mine T). x.0.put) g.is in
      let same : item ≡ g.item = same_item n.1 n.1 item g.item cell (t % slots) refl was
      (ap (λ (x : Mine T). x.1) g.is ∙ ap (λ xs. (t % slots, Some g.item) ∷ xs) bare) in
      record {
        role = ap (λ (x : Mine T). x.0.role) is ∙ (ap (λ (x : Mine T). x.0.role) g.is ∙ role);
        idle = ap (λ (x : Mine T). x.0.holds) is;
        no_cell = ap (λ (x : Mine T). x.1) is;
        known = omega (arith, ap length put);
        longer =
            ap (λ n. take n k.0.put) taken ∙ (ap (λ l. take (t + 1) l) put ∙ (rw add-one (take_next g.put t g.item g.at)
            ∙ (ap (λ l. take t l ++ g.item ∷ []) g.longer
            ∙ (ap (λ l. l ++ g.item ∷ []) (take-append-le t m.0.put g.more known)
            ∙ ap (λ x. take t m.0.put ++ x ∷ []) (sym same)))));
      }
