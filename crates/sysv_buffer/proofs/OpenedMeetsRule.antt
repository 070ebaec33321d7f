-- Proves that the rule holds when a buffer is opened and when its two ends are made.
use Rattle.std.proofs.Common.{◌≡◌, ℕ, zero, suc, ◌%◌, ◌<◌, List, [], ◌∷◌, ◌++◌, inl, inr, ⊎_elim, length, set, get_or}
use Rattle.std.proofs.Common.{map, replicate, refl, sym, ap, ◌∙◌, subst, arith, Option, None}
use mathlib.Core.Bool.{true≢false}
use mathlib.Core.Option.{some, some-ne-none}
use lib.ListN.{get_elem?}
use Rattle.std.proofs.Math.Nat.{mod-eq_of_lt}
use Rattle.atomic_table.specs.Table.{opening, Splits}
use Rattle.sysv_buffer.specs.declared.view.View.{View}
use Rattle.sysv_buffer.specs.declared.view.Role.TheVariants.{Both}
use Rattle.sysv_buffer.specs.Ring.{Kept, start}
use Rattle.sysv_buffer.specs.Steps.{first_producer, first_consumer}
use Rattle.sysv_buffer.proofs.StepKeepsRule.{which, alone, both_producer, both_consumer}

pub all_cells : (T : Type 0) (n : ℕ) → length (map some (replicate {A = Option T} n None)) ≡ n
all_cells T zero = refl
all_cells T (suc n) = ap suc (all_cells T n)

module _ {T : Type 0} where
  pub empty_cell : (n i : ℕ) → i < n → get_elem? (map some (replicate {A = Option T} n None)) i ≡ some (some None)
  empty_cell zero i less = absurd (omega arith)
  empty_cell (suc n) zero less = refl
  empty_cell (suc n) (suc i) less = empty_cell n i (omega arith)

  pub starts : (n : ℕ) (ws : List ℕ) (xs : List (Option T)) → 0 < n → length ws ≡ 32 → get_or ws 0 0 ≡ 0 →
      get_or ws 16 0 ≡ 0 → xs ≡ replicate n None → Kept (opening ws xs start)
  starts n ws xs room wide in_word out_word is =
      subst (λ (ys : List (Option T)). Kept (opening ws ys start)) (sym is)
      (inl (record {
        wide = wide;
        in_word = in_word;
        out_word = out_word;
        ends = refl;
        room = omega (arith, all_cells T n);
        cells = λ i less. empty_cell n i (omega (arith, all_cells T n));
      }))

  pub parts : (id : ℕ) (v : View T) → v.role ≡ Both → Splits Kept id v (first_producer v) (first_consumer v)
  parts id v role s held at = ⊎_elim
      (λ fresh.
      let w = alone start v id (ap (λ l. get_elem? l id) (sym fresh.ends) ∙ at) in
      let n : ℕ = length s.homes in inr (record {
        put = [];
        taken = 0;
        p = first_producer v;
        c = first_consumer v;
        wide = fresh.wide;
        in_word = fresh.in_word;
        out_word = fresh.out_word;
        ends = ap (λ i. set s.views i (first_producer v) ++ first_consumer v ∷ []) w.0
            ∙ ap (λ l. set l 0 (first_producer v) ++ first_consumer v ∷ []) fresh.ends;
        runs = record {
          room = fresh.room;
          size = refl;
          order = omega arith;
          within = omega arith;
          limit = omega arith;
          producer = refl;
          puts = refl;
          gone = omega arith;
          may_put = λ h. absurd (true≢false (sym h));
          consumer = refl;
          takes = refl;
          seen = ([], refl);
          known = omega arith;
          may_take = λ h. absurd (true≢false (sym h));
          full = λ i x from at not. absurd (some-ne-none x (sym at));
          free = λ i from to not.
              let low : i < n = omega arith in
              let same : i % n ≡ i = mod-eq_of_lt {n = i} {m = n} low in
              ap (λ j. get_elem? s.homes j) same ∙ fresh.cells i low;
        };
      }))
      (λ g. ⊎_elim
      (λ w. absurd (both_producer v.role role (ap (λ (u : View T). u.role) (sym w.1) ∙ g.runs.producer)))
      (λ w. absurd (both_consumer v.role role (ap (λ (u : View T). u.role) (sym w.1) ∙ g.runs.consumer)))
      (which g.p g.c v id (ap (λ l. get_elem? l id) (sym g.ends) ∙ at)))
      held
