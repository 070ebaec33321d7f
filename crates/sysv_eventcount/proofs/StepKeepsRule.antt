-- Proves that each kind of step keeps the rule.
use Rattle.std.proofs.Common.{◌≡◌, ℕ, ◌+◌, ◌%◌, ◌^◌, ◌<◌, ◌≤◌, Bool, true, false, cond, List, [], ◌∷◌, ◌++◌, length}
use Rattle.std.proofs.Common.{set, get_or, sym, refl, ap, ◌∙◌, subst, arith, length-set, length-append, get_or-set_same}
use Rattle.std.specs.Prelude.{sum_by, nat_lt}
use mathlib.Core.Option.{none, some}
use lib.ListN.{get_elem?}
use Rattle.std.proofs.lemmas.List.Sums.{sum_by_push}
use Rattle.std.proofs.lemmas.Bool.Decides.{nat_tests}
use Rattle.atomic_table.specs.Table.{State, step, keeps, stepped, Allows, Splits, Joins}
use Rattle.sysv_eventcount.specs.declared.view.View.{View}
use Rattle.sysv_lists.specs.Numbers.{times, once_between, NoneTwice}
use Rattle.sysv_eventcount.specs.Rule.{cleared_count, Fits, IsKept, OneWord}
use Rattle.sysv_eventcount.specs.Steps.{Mine, Informs, looked, after_clearing, after_adding, Looks, Clears, Adds}
use Rattle.sysv_eventcount.specs.Steps.{Weighs, left_of, given_of, both_of, spent}
use Rattle.sysv_lists.proofs.Places.{set_at, set_else, each_set, each_snoc}
use Rattle.sysv_lists.proofs.Sums.{sum_by-set_at, at-le-sum_by, sum_by-le-each, sum_by-alone}
use Rattle.sysv_lists.proofs.Counting.{times-append, times-snoc, once_between-next, once_between-le}

module _ (first : ℕ) where
  -- A view finds no number twice.
  none_twice : (n id : ℕ) (views : List View) (v : View) → IsKept first n views → get_elem? views id ≡ some v →
      NoneTwice v.own
  none_twice n id views v kept at x =
      let all = kept.once x in
      let mine = at-le-sum_by (λ (u : View). times x u.own) views id v at in
      omega (arith, once_between-le first n x)

  -- A view with an allowance learns what it should from the word.
  pub counts_for : (n id : ℕ) (views : List View) (v : View) → IsKept first n views → get_elem? views id ≡ some v →
      0 < v.allowance → Informs v n
  counts_for n id views v kept at unspent =
      let fits = kept.each id v at in
      let is : v.first ≡ first = fits.start unspent in
      let counted = kept.counted in
      let room = kept.room in
      let some_own = at-le-sum_by (λ (u : View). length u.own) views id v at in
      record {
        since = fits.seen;
        own_additions = omega arith;
        none_twice = none_twice n id views v kept at;
        alone = λ whole.
            let all = kept.allowances in
            let most : sum_by (λ (u : View). u.allowance) views ≤ v.allowance = omega arith in
            let own = sum_by-alone (λ (u : View). u.allowance) (λ (u : View). length u.own) views id v at
            (λ k u there none. ap length ((kept.each k u there).spent none)) most in (
              omega arith,
              λ x.
                  let mine = sum_by-alone (λ (u : View). u.allowance) (λ (u : View). times x u.own) views id v at
                  (λ k u there none. ap (times x) ((kept.each k u there).spent none)) most in
                  let all = kept.once x in
                  subst (λ (f : ℕ). times x v.own ≡ once_between f n x) (sym is) (omega arith),
            );
        within = omega arith;
      }

  grows : (n m : ℕ) → n ≤ m → (v : View) → Fits first n v → Fits first m v
  grows n m le v fits =
      let seen = fits.seen in
      record { start = fits.start; seen = omega arith; cleared = fits.cleared; spent = fits.spent }

  -- One view changes, and the word rises by as many as the view gains additions.
  pub set_keeps : (n m id : ℕ) (views : List View) (v w : View) → IsKept first n views → get_elem? views id ≡ some v
      → n ≤ m
      → n + length w.own ≡ m + length v.own
      → ((x : ℕ) → times x w.own + once_between first n x ≡ times x v.own + once_between first m x)
      → w.allowance ≤ v.allowance
      → m + sum_by cleared_count (set views id w) ≤ 2 ^ 62 + 2 ^ 61
      → Fits first m w
      → IsKept first m (set views id w)
  set_keeps n m id views v w kept at le own once part room fits =
      let counted = kept.counted in
      let allowances = kept.allowances in
      let owns = sum_by-set_at (λ (u : View). length u.own) views id v w at in
      let parts = sum_by-set_at (λ (u : View). u.allowance) views id v w at in
      record {
        counted = omega arith;
        once = λ x.
            let before = kept.once x in
            let here = once x in
            let sums = sum_by-set_at (λ (u : View). times x u.own) views id v w at in
            omega arith;
        allowances = omega arith;
        room = room;
        each = each_set (Fits first n) (Fits first m) views id w kept.each (λ k u away there. grows n m le u) fits;
      }

  -- A load keeps the additions and the allowance of the view.
  pub looking_keeps : (n id : ℕ) (views : List View) (v : View) → IsKept first n views → get_elem? views id ≡ some v →
      IsKept first n (set views id (looked n v))
  looking_keeps n id views v kept at =
      let fits = kept.each id v at in
      let room = kept.room in
      let cleared = sum_by-set_at cleared_count views id v (looked n v) at in
      set_keeps n n id views v (looked n v) kept at (omega arith) refl (λ x. refl) (omega arith) (omega arith)
      (record { start = fits.start; seen = omega arith; cleared = fits.cleared; spent = fits.spent })

  -- The view that a clearing load leaves, if b says whether the word is below 2^62.
  abbrev cleared_to : Bool → ℕ → View → View
  cleared_to b n v = record v { seen = n; cleared = b }

  cleared_fits : (b : Bool) (n : ℕ) (v : View) → Fits first n v → 0 < v.allowance → Fits first n (cleared_to b n v)
  cleared_fits true n v fits some_part =
      record { start = fits.start; seen = omega arith; cleared = omega arith; spent = fits.spent }
  cleared_fits false n v fits some_part =
      record { start = fits.start; seen = omega arith; cleared = omega arith; spent = fits.spent }

  cleared_room : (b : Bool) (n id : ℕ) (views : List View) (v : View) → IsKept first n views
      → get_elem? views id ≡ some v → 0 < v.allowance → nat_lt n (2 ^ 62) ≡ b
      → n + sum_by cleared_count (set views id (cleared_to b n v)) ≤ 2 ^ 62 + 2 ^ 61
  cleared_room true n id views v kept at some_part below =
      let small : n < 2 ^ 62 = grind (arith, nat_tests) in
      let w : View = cleared_to true n v in
      let fits : Fits first n w = cleared_fits true n v (kept.each id v at) some_part in
      let each = each_set (Fits first n) (Fits first n) views id w kept.each (λ k u away there fit. fit) fits in
      let fewer = sum_by-le-each cleared_count (λ (u : View). u.allowance) (set views id w)
      (λ k u there. (each k u there).cleared) in
      let parts = sum_by-set_at (λ (u : View). u.allowance) views id v w at in
      let allowances = kept.allowances in
      omega arith
  cleared_room false n id views v kept at some_part above =
      let sums = sum_by-set_at cleared_count views id v (cleared_to false n v) at in
      let room = kept.room in
      omega arith

  clearing_keeps : (n id : ℕ) (views : List View) (v : View) → IsKept first n views → get_elem? views id ≡ some v →
      0 < v.allowance → IsKept first n (set views id (after_clearing n v))
  clearing_keeps n id views v kept at some_part =
      let b : Bool = nat_lt n (2 ^ 62) in
      set_keeps n n id views v (cleared_to b n v) kept at (omega arith) refl (λ x. refl) (omega arith)
      (cleared_room b n id views v kept at some_part refl)
      (cleared_fits b n v (kept.each id v at) some_part)

  adding_keeps : (n id : ℕ) (views : List View) (v : View) → IsKept first n views → get_elem? views id ≡ some v →
      v.cleared ≡ true → IsKept first (n + 1) (set views id (after_adding n v))
  adding_keeps n id views v kept at ready =
      let w : View = after_adding n v in
      let fits = kept.each id v at in
      let one : cleared_count v ≡ 1 = ap (λ b. cond b 1 0) ready in
      let some_part = fits.cleared in
      let counted = kept.counted in
      let room = kept.room in
      let sums = sum_by-set_at cleared_count views id v w at in
      set_keeps n (n + 1) id views v w kept at (omega arith) (omega (arith, length-append v.own (n ∷ [])))
      (λ x. omega (arith, times-snoc x v.own n, once_between-next first n x (omega arith))) (omega arith) (omega arith)
      (record { start = fits.start; seen = omega arith; cleared = omega arith; spent = λ none. absurd (omega arith) })

  weighing_keeps : (n id : ℕ) (views : List View) (v : View) → IsKept first n views → get_elem? views id ≡ some v →
      IsKept first n (set views id v)
  weighing_keeps n id views v kept at =
      let room = kept.room in
      let sums = sum_by-set_at cleared_count views id v v at in
      set_keeps n n id views v v kept at (omega arith) refl (λ x. refl) (omega arith) (omega arith) (kept.each id v at)

  -- Adds a new view without additions, if the allowances leave enough for its own.
  snoc_keeps : (n : ℕ) (views : List View) (w : View) → IsKept first n views → w.own ≡ [] → w.cleared ≡ false
      → sum_by (λ v. v.allowance) views + w.allowance ≤ 2 ^ 61 → Fits first n w
      → IsKept first n (views ++ w ∷ [])
  snoc_keeps n views w kept empty idle part fits =
      let counted = kept.counted in
      let room = kept.room in
      let none : cleared_count w ≡ 0 = ap (λ b. cond b 1 0) idle in
      let no_own : length w.own ≡ 0 = ap length empty in
      record {
        counted = omega (arith, sum_by_push (λ (u : View). length u.own) views w);
        once = λ x.
            let before = kept.once x in
            let no_times : times x w.own ≡ 0 = ap (times x) empty in
            omega (arith, sum_by_push (λ (u : View). times x u.own) views w);
        allowances = omega (arith, sum_by_push (λ (u : View). u.allowance) views w);
        room = omega (arith, sum_by_push cleared_count views w);
        each = each_snoc (Fits first n) views w kept.each fits;
      }

  splitting_keeps : (n id : ℕ) (views : List View) (v : View) → IsKept first n views → get_elem? views id ≡ some v
      → v.cleared ≡ false → 64 ≤ v.allowance
      → IsKept first n (set views id (left_of v) ++ given_of v ∷ [])
  splitting_keeps n id views v kept at idle enough =
      let fits = kept.each id v at in
      let none : cleared_count v ≡ 0 = ap (λ b. cond b 1 0) idle in
      let room = kept.room in
      let allowances = kept.allowances in
      let seen = fits.seen in
      let sums = sum_by-set_at cleared_count views id v (left_of v) at in
      let parts = sum_by-set_at (λ (u : View). u.allowance) views id v (left_of v) at in
      let left = set_keeps n n id views v (left_of v) kept at (omega arith) refl (λ x. refl) (omega arith) (omega arith)
      (record {
        start = λ some_part. fits.start (omega arith);
        seen = seen;
        cleared = omega arith;
        spent = λ gone. absurd (omega arith);
      }) in
      snoc_keeps n (set views id (left_of v)) (given_of v) left refl idle (omega arith)
      (record {
        start = λ some_part. fits.start (omega arith);
        seen = seen;
        cleared = omega arith;
        spent = λ gone. refl;
      })

  joining_keeps : (n id other : ℕ) (views : List View) (v w : View) → IsKept first n views → get_elem? views id ≡ some v
      → get_elem? views other ≡ some w
      → get_elem? (set views id (both_of v w)) other ≡ some w → v.cleared ≡ false → w.cleared ≡ false → 0 < v.allowance
      → IsKept first n (set (set views id (both_of v w)) other spent)
  joining_keeps n id other views v w kept at there still idle idle' some_part =
      let both : View = both_of v w in
      let middle : List View = set views id both in
      let fits = kept.each id v at in
      let fits' = kept.each other w there in
      let none : cleared_count v ≡ 0 = ap (λ b. cond b 1 0) idle in
      let none' : cleared_count w ≡ 0 = ap (λ b. cond b 1 0) idle' in
      let seen = fits.seen in
      let seen' = fits'.seen in
      let counted = kept.counted in
      let allowances = kept.allowances in
      let room = kept.room in
      let both_fits : Fits first n both = record {
        start = λ part. fits.start some_part;
        seen = omega arith;
        cleared = omega arith;
        spent = λ gone. absurd (omega arith);
      } in
      let spent_fits : Fits first n spent = record {
        start = λ part. absurd (omega arith);
        seen = omega arith;
        cleared = omega arith;
        spent = λ gone. refl;
      } in
      record {
        counted =
            let owns = sum_by-set_at (λ (u : View). length u.own) views id v both at in
            let owns' = sum_by-set_at (λ (u : View). length u.own) middle other w spent still in
            omega (arith, length-append v.own w.own);
        once = λ x.
            let before = kept.once x in
            let sums = sum_by-set_at (λ (u : View). times x u.own) views id v both at in
            let sums' = sum_by-set_at (λ (u : View). times x u.own) middle other w spent still in
            omega (arith, times-append x v.own w.own);
        allowances =
            let parts = sum_by-set_at (λ (u : View). u.allowance) views id v both at in
            let parts' = sum_by-set_at (λ (u : View). u.allowance) middle other w spent still in
            omega arith;
        room =
            let sums = sum_by-set_at cleared_count views id v both at in
            let sums' = sum_by-set_at cleared_count middle other w spent still in
            omega arith;
        each = each_set (Fits first n) (Fits first n) middle other spent
            (each_set (Fits first n) (Fits first n) views id both kept.each (λ k u away there fit. fit) both_fits)
            (λ k u away there fit. fit) spent_fits;
      }

-- A step on a table of one word that changes one view.
placed : (first m id : ℕ) (me : Mine) (w : View) (s : State (Unit {0}) View) → OneWord first s →
    IsKept first m (set s.views id w) → OneWord first (stepped s 0 m id me.1 w keeps)
placed first m id me w s kept h =
    let one = kept.0 in (
      length-set s.words 0 m ∙ one,
      subst (λ (n : ℕ). IsKept first n (set s.views id w)) (sym (get_or-set_same s.words 0 m 0 (omega arith))) h,
    )

pub looks : (first slots id : ℕ) (me : Mine) → 0 < me.0.allowance →
    Allows (OneWord first) slots id me 0 (λ n. n) (Looks (step slots 0 0 0 none) me)
looks first slots id me unspent s kept _ at _ =
    let n : ℕ = get_or s.words 0 0 in (
      looked n me.0,
      keeps,
      tt,
      placed first n id me (looked n me.0) s kept (looking_keeps first n id s.views me.0 kept.1 at),
      (refl, counts_for first n id s.views me.0 kept.1 at unspent),
    )

pub clears : (first slots id : ℕ) (me : Mine) → 0 < me.0.allowance →
    Allows (OneWord first) slots id me 0 (λ n. n) (Clears (step slots 0 0 0 none) me)
clears first slots id me unspent s kept _ at _ =
    let n : ℕ = get_or s.words 0 0 in
    let w : View = after_clearing n me.0 in (
      w,
      keeps,
      tt,
      placed first n id me w s kept (clearing_keeps first n id s.views me.0 kept.1 at unspent),
      (refl, counts_for first n id s.views me.0 kept.1 at unspent),
    )

pub adds : (first slots id : ℕ) (me : Mine) → me.0.cleared ≡ true →
    Allows (OneWord first) slots id me 0 (λ n. (n + 1) % 2 ^ 64) (Adds (step slots 0 1 0 none) me)
adds first slots id me ready s kept _ at _ =
    let n : ℕ = get_or s.words 0 0 in
    let w : View = after_adding n me.0 in
    let after : IsKept first (n + 1) (set s.views id w) = adding_keeps first n id s.views me.0 kept.1 at ready in
    let here = set_at s.views id me.0 w at in
    let fits = kept.1.each id me.0 at in
    let one : cleared_count me.0 ≡ 1 = ap (λ b. cond b 1 0) ready in
    let some_part = fits.cleared in
    let unspent : 0 < me.0.allowance = omega arith in
    let before = counts_for first n id s.views me.0 kept.1 at unspent in
    let within = before.within in
    let small : n + 1 ≡ (n + 1) % 18446744073709551616 = omega arith in (
      w,
      keeps,
      tt,
      subst (λ (m : ℕ). OneWord first (stepped s 0 m id me.1 w keeps)) small
          (placed first (n + 1) id me w s kept after),
      (refl, before, counts_for first (n + 1) id (set s.views id w) w after here unspent),
    )

pub weighs : (first slots id : ℕ) (me : Mine) →
    Allows (OneWord first) slots id me 0 (λ n. n) (Weighs (step slots 0 0 0 none) me)
weighs first slots id me s kept _ at _ =
    let n : ℕ = get_or s.words 0 0 in
    let allowances = kept.1.allowances in
    let part = at-le-sum_by (λ (u : View). u.allowance) s.views id me.0 at in (
      me.0,
      keeps,
      tt,
      placed first n id me me.0 s kept (weighing_keeps first n id s.views me.0 kept.1 at),
      (refl, omega arith, none_twice first n id s.views me.0 kept.1 at),
    )

pub splits : (first id : ℕ) (v : View) → v.cleared ≡ false → 64 ≤ v.allowance →
    Splits (OneWord first) id v (left_of v) (given_of v)
splits first id v idle enough s kept at =
    (kept.0, splitting_keeps first (get_or s.words 0 0) id s.views v kept.1 at idle enough)

pub joins : (first id other : ℕ) (v w : View) → v.cleared ≡ false → w.cleared ≡ false → 0 < v.allowance →
    Joins (OneWord first) id v other w (both_of v w) spent
joins first id other v w idle idle' some_part s kept at apart still = (
  kept.0,
  joining_keeps first (get_or s.words 0 0) id other s.views v w kept.1 at
      (sym (set_else s.views id other (both_of v w) apart) ∙ still) still idle idle' some_part,
)

-- What a view learns from a number after a clearing load, it also learned before that load.
pub before_clearing : (v w : View) (found n : ℕ) → w ≡ after_clearing found v → Informs v found → Informs w n →
    Informs v n
before_clearing v w found n is looked_at later =
    let told : Informs (after_clearing found v) n = subst (λ (u : View). Informs u n) is later in
    let since = told.since in
    let earlier = looked_at.since in
    record {
      since = omega arith;
      own_additions = told.own_additions;
      none_twice = told.none_twice;
      alone = told.alone;
      within = told.within;
    }
