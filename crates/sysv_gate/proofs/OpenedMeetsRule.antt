-- Proves that the rule holds when a gate is opened.
use Rattle.std.proofs.Common.{◌≡◌, ℕ, ◌+◌, ◌^◌, ◌≤◌, List, [], ◌∷◌, ◌++◌, length, get_or, refl, sym, ap, subst, ⊎_elim}
use Rattle.std.proofs.Common.{arith, length-append, ◌∙◌, map}
use Rattle.std.specs.Prelude.{Some, None, sum_by}
use mathlib.Core.Bool.{true≢false}
use mathlib.Core.Option.{some, some-injective, some-ne-none}
use lib.ListN.{get_elem?}
use Rattle.std.proofs.lemmas.Bool.Decides.{nat_tests}
use Rattle.atomic_table.specs.Table.{opening}
use Rattle.atomic_table.proofs.Lists.{at_snoc}
use Rattle.sysv_gate.specs.declared.table.view.View.{View}
use Rattle.sysv_lists.specs.Numbers.{times, once_between}
use Rattle.sysv_gate.specs.Rule.{Spot, put, bearers, Fits, IsKept, IsAnnounced, AreAnnounced, GatedBy, start}
use Rattle.sysv_gate.specs.declared.count.Count.{Count}
use Rattle.sysv_gate.specs.declared.count.Count.TheVariants.{Arrived, Freed}
use Rattle.sysv_gate.specs.Counts.{of_count}
use Rattle.sysv_gate.proofs.CountsStayAnnounced.{none_yet}
use Rattle.sysv_lists.proofs.Counting.{once_between-same, times-one, times-one-le}

-- An element was appended to an empty list.
pub pushed : {A : Type 0} (xs ys : List A) (x y : A) → ys ≡ xs ++ x ∷ [] → xs ≡ [] → x ≡ y → ys ≡ y ∷ []
pushed xs ys x y more empty same = more ∙ ap (λ l. l ++ x ∷ []) empty ∙ ap (λ z. z ∷ []) same

-- An element was removed from a list of one.
pub popped : {A : Type 0} (xs front : List A) (x a : A) → xs ≡ front ++ x ∷ [] → length xs ≡ 1 →
    get_elem? xs 0 ≡ some a → x ≡ a
popped xs [] x a more one at = some-injective x a (ap (λ l. get_elem? l 0) (sym more) ∙ at)
popped xs (y ∷ front) x a more one at =
    let long = ap length more ∙ length-append (y ∷ front) (x ∷ []) in absurd (omega arith)

module _ {O C R : Type 0} (moves : O → C → R → O → Type 0) (counted : O → ℕ × ℕ) where
  fits_start : (o : O) (first : ℕ) → Fits {C = C} {R = R} o first [] first (start o first)
  fits_start o first = record {
    start = λ p is. let shown : Some o ≡ Some p = is in let same : p ≡ o = cc in (same, refl);
    seen = ([], refl);
    also = ([], refl);
    turn = λ turn. absurd (true≢false (sym turn));
    own = λ p. refl;
    worn = λ mark. absurd (true≢false (sym mark));
  }

  nobody_else : (first : ℕ) (o : O) (x : ℕ) → 1 ≤ x → bearers x (start {C = C} {R = R} o first ∷ []) ≡ 0
  nobody_else first o x le = let e = times-one x 0 in grind (arith, nat_tests)

  named_first : (o : O) (first i : ℕ) (v : View O C R) → get_elem? (start o first ∷ []) i ≡ some v → v.numbers ≡ [] → ⊥
  named_first o first i v at empty = ⊎_elim (λ t. some-ne-none v (sym t))
      (λ t. let e : 0 ∷ [] ≡ [] = ap (λ (u : View O C R). u.numbers) t ∙ empty in cc)
      (at_snoc [] (start o first) v i at)

  kept_at_start : (o : O) (first : ℕ) → first ≤ 2 ^ 62 →
      IsKept {C = C} {R = R} moves o first [] first (some (put o None) ∷ []) (start o first ∷ [])
  kept_at_start o first le = record {
    legal = tt;
    tickets = λ x.
        let zero_left = once_between-same first x in
        let same : first + 0 ≡ first = omega arith in
        subst (λ (n : ℕ). sum_by (λ (v : View O C R). times x v.tickets) (start o first ∷ []) ≡ once_between n first x)
        (sym same) (omega arith);
    order = omega arith;
    limit = le;
    apart = λ x. omega (arith, times-one x 0, times-one-le x 0);
    unused = λ x le. nobody_else first o x le;
    nameless = λ i v at p is empty. absurd (named_first o first i v at empty);
    known = λ x none p. refl;
    each = λ i v at.
        ⊎_elim (λ t. absurd (some-ne-none v (sym t))) (λ t. subst (Fits o first [] first) t (fits_start o first))
        (at_snoc [] (start o first) v i at);
    home = λ _. (None, refl);
    alone = λ i v at _. (
      refl,
      ⊎_elim (λ t. absurd (some-ne-none v (sym t))) (λ t. ap (λ (u : View O C R). u.seen) (sym t))
          (at_snoc [] (start o first) v i at),
    );
  }

  told_one : (count : Count) (o : O) (first value : ℕ) → value ≡ of_count count (counted o) →
      IsAnnounced {C = C} {R = R} count (of_count count (counted o)) value (start o first ∷ [])
  told_one count o first value is =
      let none = none_yet count in record {
        value = is ∙ (omega arith);
        few = omega arith;
        quiet = λ i v at _.
            ⊎_elim (λ t. absurd (some-ne-none v (sym t)))
            (λ t. subst (λ (u : View O C R). of_count count u.announced ≡ 0) t none)
            (at_snoc [] (start o first) v i at);
        read = λ i v at.
            ⊎_elim (λ t. absurd (some-ne-none v (sym t)))
            (λ t. subst (λ (u : View O C R). of_count count u.read ≤ value) t (omega arith))
            (at_snoc [] (start o first) v i at);
      }

  told_at_start : (o : O) (first : ℕ) (ws : List ℕ) → get_or ws 48 0 ≡ (counted o).0 → get_or ws 64 0 ≡ (counted o).1 →
      AreAnnounced {C = C} {R = R} counted o ws (start o first ∷ [])
  told_at_start o first ws arrived freed Arrived = told_one Arrived o first (get_or ws 48 0) arrived
  told_at_start o first ws arrived freed Freed = told_one Freed o first (get_or ws 64 0) freed

  -- The table of a new gate keeps the rule.
  pub starts : (o : O) (first : ℕ) (ws : List ℕ) (xs : List (Spot O C R)) → length ws ≡ 80 → get_or ws 16 0 ≡ first
      → get_or ws 32 0 ≡ first → get_or ws 48 0 ≡ (counted o).0 → get_or ws 64 0 ≡ (counted o).1 → xs ≡ put o None ∷ []
      → first ≤ 2 ^ 62
      → GatedBy moves counted o first [] (opening ws xs (start o first))
  starts o first ws xs wide serves draws arrived freed is le = (
    wide,
    ap (λ (ys : List (Spot O C R)). length (map some ys)) is,
    serves ∙ (omega arith),
    subst (λ (ys : List (Spot O C R)). IsKept moves o first [] (get_or ws 32 0) (map some ys) (start o first ∷ []))
        (sym is)
        (subst (λ (n : ℕ). IsKept moves o first [] n (some (put o None) ∷ []) (start o first ∷ [])) (sym draws)
        (kept_at_start o first le)),
    told_at_start o first ws arrived freed,
  )
