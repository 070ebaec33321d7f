-- What the seats count, before and after one of them changed.
use Rattle.std.proofs.Common.{◌≡◌, ◌≢◌, ◌⊎◌, inl, inr, ⊎_elim, ℕ, zero, suc, ◌+◌, ◌*◌, ◌<◌, ◌≤◌, ◌==◌, Bool, cond, List}
use Rattle.std.proofs.Common.{[], ◌∷◌, ◌++◌}
use Rattle.std.proofs.Common.{length, set, sym, refl, ap, ◌∙◌, arith, eq-eqb, ne_eqb}
use Rattle.std.specs.Prelude.{sum_by}
use mathlib.Core.Logic.{dite}
use mathlib.Core.Option.{some}
use native.Mathlib.Decide.{ℕ_discrete}
use lib.ListN.{get_elem?}
use Rattle.std.proofs.lemmas.List.Sums.{sum_by-cons, sum_by_push}
use Rattle.sysv_lists.proofs.Places.{at_set, at_snoc_place}
use Rattle.sysv_lists.proofs.Sums.{sum_by-set_at}
use Rattle.sysv_doorbells.specs.declared.view.View.{View}
use Rattle.sysv_doorbells.specs.declared.view.Stage.{Stage}
use Rattle.sysv_doorbells.specs.declared.view.Stage.TheVariants.{Away, Come, Entered, Read, Ready, Left}
use Rattle.sysv_doorbells.specs.declared.view.Stage.TheVariants.{PassedAll, Passed, Near, Ringing, Rung}
use Rattle.sysv_doorbells.specs.Rule.{is_inside, is_at, is_near, is_ringing, has_rung, has_looked, has_passed, here}
use Rattle.sysv_doorbells.specs.Rule.{IsBell}
use Rattle.atomic_table.specs.Seated.{TableId}
use Rattle.sysv_doorbells.specs.Seats.{TraceEnd}
use Rattle.sysv_doorbells.specs.Steps.{looking, nearing, sparing, calling}

-- ---- one seat

pub is_here : (f : Stage → ℕ) (at : ℕ) (v : View) → v.at ≡ at → here f at v ≡ f v.stage
is_here f at v e = ap (λ (b : Bool). cond b (f v.stage) 0) (eq-eqb v.at at e)

pub is_else : (f : Stage → ℕ) (at : ℕ) (v : View) → v.at ≢ at → here f at v ≡ 0
is_else f at v ne = ap (λ (b : Bool). cond b (f v.stage) 0) (ne_eqb v.at at ne)

pub none_here : (f : Stage → ℕ) (at : ℕ) (v : View) → f v.stage ≡ 0 → here f at v ≡ 0
none_here f at v none =
    dite (ℕ_discrete v.at at) (λ e. is_here f at v e ∙ none) (λ ne. is_else f at v ne)

pub same_here : (f : Stage → ℕ) (at : ℕ) (v w : View) → v.at ≡ w.at → f v.stage ≡ f w.stage → here f at v ≡ here f at w
same_here f at v w place stage =
    ap (λ (a : ℕ). cond (a == at) (f v.stage) 0) place ∙ ap (λ (n : ℕ). cond (w.at == at) n 0) stage

-- 0 for a seat whose ring has not begun.
abbrev pub busy : Stage → ℕ
busy s = is_near s + (is_ringing s + (has_rung s + (has_looked s + has_passed s)))

-- A number of each stage, by which they differ.
abbrev pub code : Stage → ℕ
code Away = 0
code Come = 1
code Entered = 2
code Read = 3
code Ready = 4
code Left = 5
code PassedAll = 6
code Passed = 7
code Near = 8
code Ringing = 9
code Rung = 10

pub apart : (s t : Stage) → code s ≢ code t → s ≢ t
apart s t differ e = differ (ap code e)

low_inside : (s : Stage) → is_inside s ≤ 1
low_inside Away = omega arith
low_inside Come = omega arith
low_inside Entered = omega arith
low_inside Read = omega arith
low_inside Ready = omega arith
low_inside Left = omega arith
low_inside PassedAll = omega arith
low_inside Passed = omega arith
low_inside Near = omega arith
low_inside Ringing = omega arith
low_inside Rung = omega arith

low_at : (s : Stage) → is_at s ≤ 1
low_at Away = omega arith
low_at Come = omega arith
low_at Entered = omega arith
low_at Read = omega arith
low_at Ready = omega arith
low_at Left = omega arith
low_at PassedAll = omega arith
low_at Passed = omega arith
low_at Near = omega arith
low_at Ringing = omega arith
low_at Rung = omega arith

low_rung : (s : Stage) → has_rung s ≤ 1
low_rung Away = omega arith
low_rung Come = omega arith
low_rung Entered = omega arith
low_rung Read = omega arith
low_rung Ready = omega arith
low_rung Left = omega arith
low_rung PassedAll = omega arith
low_rung Passed = omega arith
low_rung Near = omega arith
low_rung Ringing = omega arith
low_rung Rung = omega arith

low_here : (f : Stage → ℕ) → ((s : Stage) → f s ≤ 1) → (at : ℕ) (v : View) → here f at v ≤ 1
low_here f low at v = dite (ℕ_discrete v.at at)
    (λ e. let is = is_here f at v e in let l = low v.stage in omega arith)
    (λ ne. let is = is_else f at v ne in omega arith)

few : (g : View → ℕ) → ((v : View) → g v ≤ 1) → (views : List View) → sum_by g views ≤ length views
few g low [] = omega arith
few g low (v ∷ views) =
    let r = few g low views in
    let l = low v in
    omega (arith, sum_by-cons g v views)

pub few_inside : (views : List View) → sum_by (λ (v : View). is_inside v.stage) views ≤ length views
few_inside views = few (λ (v : View). is_inside v.stage) (λ v. low_inside v.stage) views

pub few_at : (at : ℕ) (views : List View) → sum_by (here is_at at) views ≤ length views
few_at at views = few (here is_at at) (low_here is_at low_at at) views

pub few_rung : (at : ℕ) (views : List View) → sum_by (here has_rung at) views ≤ length views
few_rung at views = few (here has_rung at) (low_here has_rung low_rung at) views

-- ---- all seats

-- One seat is now `w`. It counted `old` before.
pub record Change (views views' : List View) (old : (View → ℕ) → ℕ) (w : View) : Type 0 where
  pub sums : (f : View → ℕ) → sum_by f views' + old f ≡ sum_by f views + f w
  pub each : (k : ℕ) (u : View) → get_elem? views' k ≡ some u → (w ≡ u) ⊎ (get_elem? views k ≡ some u)

pub replaced : (views : List View) (id : ℕ) (v w : View) → get_elem? views id ≡ some v →
    Change views (set views id w) (λ f. f v) w
replaced views id v w there = record {
  sums = λ f. sum_by-set_at f views id v w there;
  each = λ k u at. ⊎_elim (λ t. inl t.1) (λ t. inr t.1) (at_set views id k w u at);
}

pub joined : (views : List View) (w : View) → Change views (views ++ w ∷ []) (λ f. 0) w
joined views w = record {
  sums = λ f. let p = sum_by_push f views w in omega arith;
  each = λ k u at. ⊎_elim (λ t. inr t) (λ t. inl t.1) (at_snoc_place views w u k at);
}

-- The seat counts for rings what it counted before.
pub record IsQuiet (old : (View → ℕ) → ℕ) (w : View) : Type 0 where
  pub rung : (at : ℕ) → old (here has_rung at) ≡ here has_rung at w
  pub ringing : (at : ℕ) → old (here is_ringing at) ≡ here is_ringing at w
  pub near : (at : ℕ) → old (here is_near at) ≡ here is_near at w
  pub looked : (at : ℕ) → old (here has_looked at) ≡ here has_looked at w
  pub passed : old (λ (u : View). has_passed u.stage) ≡ has_passed w.stage

pub quiet_still : (v w : View) → busy v.stage ≡ 0 → busy w.stage ≡ 0 → IsQuiet (λ f. f v) w
quiet_still v w none none' =
    let n : is_near v.stage + (is_ringing v.stage + (has_rung v.stage + (has_looked v.stage + has_passed v.stage)))
    ≡ 0 =
    none in
    let m : is_near w.stage + (is_ringing w.stage + (has_rung w.stage + (has_looked w.stage + has_passed w.stage)))
    ≡ 0 =
    none' in
    record {
      rung = λ at. none_here has_rung at v (omega arith) ∙ sym (none_here has_rung at w (omega arith));
      ringing = λ at. none_here is_ringing at v (omega arith) ∙ sym (none_here is_ringing at w (omega arith));
      near = λ at. none_here is_near at v (omega arith) ∙ sym (none_here is_near at w (omega arith));
      looked = λ at. none_here has_looked at v (omega arith) ∙ sym (none_here has_looked at w (omega arith));
      passed = omega arith;
    }

pub quiet_new : (w : View) → busy w.stage ≡ 0 → IsQuiet (λ f. 0) w
quiet_new w none =
    let m : is_near w.stage + (is_ringing w.stage + (has_rung w.stage + (has_looked w.stage + has_passed w.stage)))
    ≡ 0 =
    none in
    record {
      rung = λ at. sym (none_here has_rung at w (omega arith));
      ringing = λ at. sym (none_here is_ringing at w (omega arith));
      near = λ at. sym (none_here is_near at w (omega arith));
      looked = λ at. sym (none_here has_looked at w (omega arith));
      passed = omega arith;
    }

-- ---- words

pub not_next : (many at a : ℕ) → IsBell many at → IsBell many a → at + 1 ≢ a
not_next many at a one other e =
    let first = one.2 in
    let second = other.2 in
    omega arith

-- ---- the number of seats

pub one_more : (views : List View) (w : View) → length (views ++ w ∷ []) ≡ length views + 1
one_more [] w = refl
one_more (v ∷ views) w = let r = one_more views w in omega arith

pub one_less : (views : List View) (w : View) → length (views ++ w ∷ []) < 18446744073709551616 →
    length views < 18446744073709551616
one_less views w few = let l = one_more views w in omega arith

-- ---- the stages after a look

pub found_some : (n : ℕ) → n ≢ 0 → looking n ≡ Ringing
found_some zero more = absurd (more refl)
found_some (suc n) more = refl

pub found_near : (n : ℕ) → n ≢ 0 → nearing n ≡ Near
found_near zero more = absurd (more refl)
found_near (suc n) more = refl

pub found_nobody : (n : ℕ) → n ≡ 0 → (looking n ≡ Passed) × (nearing n ≡ Passed)
found_nobody zero is = (refl, refl)
found_nobody (suc n) is = absurd (omega arith)

pub spared_none : (n : ℕ) → n ≡ 0 → (sparing n ≡ Near) × (calling n ≡ Ringing)
spared_none zero is = (refl, refl)
spared_none (suc n) is = absurd (omega arith)

pub spared_some : (n : ℕ) → n ≢ 0 → (sparing n ≡ Passed) × (calling n ≡ Passed)
spared_some zero more = absurd (more refl)
spared_some (suc n) more = (refl, refl)

pub called_by : (n : ℕ) → calling n ≡ cond (n == 0) Ringing Passed
called_by zero = refl
called_by (suc n) =
    ap (λ (b : Bool). cond b Ringing Passed) (sym (ne_eqb (suc n) 0 (λ e. omega arith)))

-- ---- traces

abbrev pub trace : TableId → Stage → ℕ → TraceEnd
trace table stage at = record { table = table; stage = stage; at = at }

pub same_trace : (table table' : TableId) (stage stage' : Stage) (at at' : ℕ) → table ≡ table' → stage ≡ stage'
    → at ≡ at'
    → trace table stage at ≡ trace table' stage' at'
same_trace table table' stage stage' at at' one two three =
    ap (λ (z : TableId). trace z stage at) one ∙ ap (λ (s : Stage). trace table' s at) two
    ∙ ap (λ (n : ℕ). trace table' stage' n) three
