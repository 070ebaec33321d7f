-- Proves that each step of a thread that rings keeps the rule.
use Rattle.std.proofs.Common.{◌≡◌, ◌≢◌, ⊎_elim, ℕ, zero, suc, ◌+◌, ◌*◌, ◌%◌, ◌<◌, ◌≤◌, List, [], ◌∷◌, ◌++◌, length, set}
use Rattle.std.proofs.Common.{get_or, sym, refl, ap, ◌∙◌, subst, arith, length-set, get_or-set_same}
use mathlib.Core.Logic.{dite}
use mathlib.Core.Option.{none, some}
use native.Mathlib.Decide.{ℕ_discrete}
use lib.ListN.{get_elem?}
use Rattle.std.proofs.lemmas.List.{get_or-set_other, set-get_or}
use Rattle.atomic_table.specs.Table.{step, keeps, Allows, Enters}
use Rattle.atomic_table.proofs.Lists.{set_again}
use Rattle.sysv_doorbells.specs.declared.view.View.{View}
use Rattle.sysv_doorbells.specs.declared.view.Stage.{Stage}
use Rattle.sysv_doorbells.specs.declared.view.Stage.TheVariants.{Away, Read, Ready}
use Rattle.sysv_doorbells.specs.declared.view.Stage.TheVariants.{PassedAll, Passed, Near, Ringing, Rung}
use Rattle.sysv_doorbells.specs.Rule.{is_inside, is_at, is_near, is_ringing, has_rung, has_looked, has_passed, here}
use Rattle.sysv_doorbells.specs.Rule.{count_at, count, strokes, rings, IsBell, IsReady, IsKept, Kept, away}
use Rattle.sysv_doorbells.specs.Steps.{Mine, moved, moved_to, passing_all, looking, nearing, sparing, calling}
use Rattle.sysv_doorbells.specs.Steps as steps
use Rattle.sysv_doorbells.proofs.Counts.{Change, replaced, joined, quiet_still, quiet_new, busy, not_next, apart}
use Rattle.sysv_doorbells.proofs.Counts.{is_here, is_else, none_here, same_here, few_rung, one_less}
use Rattle.sysv_doorbells.proofs.SleeperKeepsRule.{quiet_keeps, begins_keeps, counted_at, counted_inside, kept_now}
use Rattle.sysv_doorbells.proofs.SleeperKeepsRule.{more_by_one}

-- ---- a step of a ringer at one doorbell

-- What the ringer counts at the doorbells and among the sleepers: nothing, before and after.
record IsOutside (old : (View → ℕ) → ℕ) (w : View) : Type 0 where
  inside : old (λ (u : View). is_inside u.stage) ≡ is_inside w.stage
  at : (at : ℕ) → old (here is_at at) ≡ here is_at at w
  passed : old (λ (u : View). has_passed u.stage) ≡ has_passed w.stage

outside_still : (v w : View) → is_inside v.stage ≡ 0 → is_inside w.stage ≡ 0 → is_at v.stage ≡ 0 → is_at w.stage ≡ 0
    → has_passed v.stage ≡ 0 → has_passed w.stage ≡ 0 → IsOutside (λ f. f v) w
outside_still v w a b c d e f = record {
  inside = omega arith;
  at = λ at. none_here is_at at v c ∙ sym (none_here is_at at w d);
  passed = omega arith;
}

outside_new : (w : View) → is_inside w.stage ≡ 0 → is_at w.stage ≡ 0 → has_passed w.stage ≡ 0 → IsOutside (λ f. 0) w
outside_new w b d f = record {
  inside = omega arith;
  at = λ at. sym (none_here is_at at w d);
  passed = omega arith;
}

module _ (many : ℕ) (words : List ℕ) (views : List View) (kept : IsKept many words views)
    (views' : List View) (old : (View → ℕ) → ℕ) (w : View) (change : Change views views' old w) (a : ℕ) where
  after_strokes : (at : ℕ) → strokes at views' + old (here has_rung at) ≡ strokes at views + here has_rung at w
  after_strokes at = change.sums (here has_rung at)

  after_ringing : (at : ℕ) → count_at is_ringing at views' + old (here is_ringing at)
      ≡ count_at is_ringing at views + here is_ringing at w
  after_ringing at = change.sums (here is_ringing at)

  after_near : (at : ℕ) → count_at is_near at views' + old (here is_near at)
      ≡ count_at is_near at views + here is_near at w
  after_near at = change.sums (here is_near at)

  after_looked : (at : ℕ) → count_at has_looked at views' + old (here has_looked at)
      ≡ count_at has_looked at views + here has_looked at w
  after_looked at = change.sums (here has_looked at)

  after_passed : count has_passed views' + old (λ (u : View). has_passed u.stage)
      ≡ count has_passed views + has_passed w.stage
  after_passed = change.sums (λ (u : View). has_passed u.stage)

  -- Elsewhere the ringer counts nothing.
  module _ (outside : IsOutside old w)
      (else_old : (f : Stage → ℕ) (at : ℕ) → at ≢ a → f Away ≡ 0 → old (here f at) ≡ 0)
      (at_w : w.at ≡ a) where
    ready_else : (words' : List ℕ) (u : View) → u.at ≢ a → (u.at ≡ 2 → get_or words' 1 0 ≤ get_or words 1 0) →
        IsReady words views u → IsReady words' views' u
    ready_else words' u ne low is =
        let away_w = λ (e : w.at ≡ u.at). ne (sym e ∙ at_w) in
        let read = is.read in
        let since = is.since in
        let s = after_strokes u.at in
        let s0 = else_old has_rung u.at ne refl in
        let s1 = is_else has_rung u.at w away_w in
        let g = after_ringing u.at in
        let g0 = else_old is_ringing u.at ne refl in
        let g1 = is_else is_ringing u.at w away_w in
        let n = after_near u.at in
        let n0 = else_old is_near u.at ne refl in
        let n1 = is_else is_near u.at w away_w in
        let l = after_looked u.at in
        let l0 = else_old has_looked u.at ne refl in
        let l1 = is_else has_looked u.at w away_w in
        let p = after_passed in
        let p0 = outside.passed in
        record {
          read = omega arith;
          since = omega arith;
          heard = λ less zero. let h = is.heard (omega arith) (omega arith) in omega arith;
          called = λ e. let c = is.called e in let k = low e in omega arith;
        }

    ringer_keeps : (words' : List ℕ) → length words' ≡ length words → get_or words' 0 0 ≡ get_or words 0 0
        → get_or words' 1 0 ≤ 1
        → (a ≢ 2 → get_or words' 1 0 ≤ get_or words 1 0)
        → ((at : ℕ) → IsBell many at → get_or words' at 0 ≡ get_or words at 0)
        → ((at : ℕ) → IsBell many at → get_or words' (at + 1) 0 ≡ strokes at views')
        → ((at : ℕ) → old (here has_rung at) ≤ here has_rung at w)
        → w.stage ≢ Read → w.stage ≢ Ready
        → ((k : ℕ) (u : View) → get_elem? views k ≡ some u → u.stage ≡ Ready → u.at ≡ a → IsReady words views u →
        IsReady words' views' u)
        → IsKept many words' views'
    ringer_keeps words' size sleepers called low entered rung more not_read not_ready here_on =
        record {
          size = size ∙ kept.size;
          sleepers =
              let s : count is_inside views' + old (λ (u : View). is_inside u.stage)
              ≡ count is_inside views + is_inside w.stage = change.sums (λ (u : View). is_inside u.stage) in
              let o = outside.inside in
              let k = kept.sleepers in
              omega arith;
          called = called;
          entered = λ at bell.
              let s : count_at is_at at views' + old (here is_at at) ≡ count_at is_at at views + here is_at at w =
              change.sums (here is_at at) in
              let o = outside.at at in
              let k = kept.entered at bell in
              let e = entered at bell in
              omega arith;
          rung = rung;
          read = λ k u at e. ⊎_elim
              (λ t. absurd (not_read (ap (λ (x : View). x.stage) t ∙ e)))
              (λ t.
              let r = kept.read k u t e in
              let s = after_strokes u.at in
              let m = more u.at in
              omega arith)
              (change.each k u at);
          ready = λ k u at e. ⊎_elim
              (λ t. absurd (not_ready (ap (λ (x : View). x.stage) t ∙ e)))
              (λ t.
              let is = kept.ready k u t e in
              dite (ℕ_discrete u.at a)
              (λ here_now. here_on k u t e here_now is)
              (λ ne. ready_else words' u ne (λ two. low (λ f. ne (two ∙ sym f))) is))
              (change.each k u at);
        }

-- ---- each step

module _ (many : ℕ) (words : List ℕ) (views : List View) (kept : IsKept many words views) where
  -- A new seat that rings at a doorbell where nobody is.
  passed_keeps : (a : ℕ) → IsBell many a → get_or words a 0 ≡ 0 →
      IsKept many words (views ++ moved_to a Passed away ∷ [])
  passed_keeps a bell nobody =
      let w : View = moved_to a Passed away in
      let vs : List View = views ++ w ∷ [] in
      let change = joined views w in
      ringer_keeps many words views kept vs (λ f. 0) w change a (outside_new w refl refl refl) (λ f at ne z. refl) refl
      words refl refl kept.called (λ ne. omega arith) (λ at there. refl)
      (λ at there.
      let s = after_strokes many words views kept vs (λ f. 0) w change a at in
      let z = none_here has_rung at w refl in
      let k = kept.rung at there in
      omega arith)
      (λ at. omega arith)
      (apart Passed Read (λ z. omega arith)) (apart Passed Ready (λ z. omega arith))
      (λ k u there e here_now is.
      let least : 1 ≤ count_at is_at u.at views = counted_at many words views kept k u there (ap is_at e) in
      let least' : 1 ≤ count_at is_at a views = subst (λ (z : ℕ). 1 ≤ count_at is_at z views) here_now least in
      let n = kept.entered a bell in
      absurd (omega arith))

  -- A new seat that has found someone, and has still to make a stroke.
  ringing_keeps : (a : ℕ) → IsKept many words (views ++ moved_to a Ringing away ∷ [])
  ringing_keeps a =
      let w : View = moved_to a Ringing away in
      let vs : List View = views ++ w ∷ [] in
      let change = joined views w in
      ringer_keeps many words views kept vs (λ f. 0) w change a (outside_new w refl refl refl) (λ f at ne z. refl) refl
      words refl refl kept.called (λ ne. omega arith) (λ at there. refl)
      (λ at there.
      let s = after_strokes many words views kept vs (λ f. 0) w change a at in
      let z = none_here has_rung at w refl in
      let k = kept.rung at there in
      omega arith)
      (λ at. omega arith)
      (apart Ringing Read (λ z. omega arith)) (apart Ringing Ready (λ z. omega arith))
      (λ k u there e here_now is.
      let read = is.read in
      let since = is.since in
      let s = after_strokes many words views kept vs (λ f. 0) w change a u.at in
      let s1 = none_here has_rung u.at w refl in
      let g = after_ringing many words views kept vs (λ f. 0) w change a u.at in
      let g1 : here is_ringing u.at w ≡ 1 = is_here is_ringing u.at w (sym here_now) in
      let l = after_looked many words views kept vs (λ f. 0) w change a u.at in
      let p = after_passed many words views kept vs (λ f. 0) w change a in
      record {
        read = omega arith;
        since = omega arith;
        heard = λ less zero. absurd (omega arith);
        called = λ two. let c = is.called two in omega arith;
      })

  -- A new seat that has found someone at the entrance, and may have to call one.
  nearing_keeps : (a : ℕ) → IsKept many words (views ++ moved_to a Near away ∷ [])
  nearing_keeps a =
      let w : View = moved_to a Near away in
      let vs : List View = views ++ w ∷ [] in
      let change = joined views w in
      ringer_keeps many words views kept vs (λ f. 0) w change a (outside_new w refl refl refl) (λ f at ne z. refl) refl
      words refl refl kept.called (λ ne. omega arith) (λ at there. refl)
      (λ at there.
      let s = after_strokes many words views kept vs (λ f. 0) w change a at in
      let z = none_here has_rung at w refl in
      let k = kept.rung at there in
      omega arith)
      (λ at. omega arith)
      (apart Near Read (λ z. omega arith)) (apart Near Ready (λ z. omega arith))
      (λ k u there e here_now is.
      let read = is.read in
      let since = is.since in
      let s = after_strokes many words views kept vs (λ f. 0) w change a u.at in
      let s1 = none_here has_rung u.at w refl in
      let g = after_ringing many words views kept vs (λ f. 0) w change a u.at in
      let g1 = none_here is_ringing u.at w refl in
      let n = after_near many words views kept vs (λ f. 0) w change a u.at in
      let n1 : here is_near u.at w ≡ 1 = is_here is_near u.at w (sym here_now) in
      let l = after_looked many words views kept vs (λ f. 0) w change a u.at in
      let l1 : here has_looked u.at w ≡ 1 = is_here has_looked u.at w (sym here_now) in
      let p = after_passed many words views kept vs (λ f. 0) w change a in
      record {
        read = omega arith;
        since = omega arith;
        heard = λ less zero. let h = is.heard (omega arith) (omega arith) in omega arith;
        called = λ two. let c = is.called two in omega arith;
      })

  -- A new seat that has rung each doorbell, since there are no sleepers.
  passed_all_keeps : get_or words 0 0 ≡ 0 → IsKept many words (views ++ moved PassedAll away ∷ [])
  passed_all_keeps nobody =
      let w : View = moved PassedAll away in
      let vs : List View = views ++ w ∷ [] in
      let change = joined views w in
      let none_in : (k : ℕ) (u : View) → get_elem? views k ≡ some u → is_inside u.stage ≡ 1 → ⊥ = λ k u there one.
      let least = counted_inside many words views kept k u there one in
      let n = kept.sleepers in
      omega arith in
      record {
        size = kept.size;
        sleepers =
            let s : count is_inside vs + 0 ≡ count is_inside views + 0 =
            change.sums (λ (u : View). is_inside u.stage) in
            let k = kept.sleepers in
            omega arith;
        called = kept.called;
        entered = λ at bell.
            let s : count_at is_at at vs + 0 ≡ count_at is_at at views + here is_at at w =
            change.sums (here is_at at) in
            let o = none_here is_at at w refl in
            let k = kept.entered at bell in
            omega arith;
        rung = λ at bell.
            let s : strokes at vs + 0 ≡ strokes at views + here has_rung at w = change.sums (here has_rung at) in
            let o = none_here has_rung at w refl in
            let k = kept.rung at bell in
            omega arith;
        read = λ k u at e. ⊎_elim
            (λ t. absurd (apart PassedAll Read (λ z. omega arith) (ap (λ (x : View). x.stage) t ∙ e)))
            (λ t. absurd (none_in k u t (ap is_inside e)))
            (change.each k u at);
        ready = λ k u at e. ⊎_elim
            (λ t. absurd (apart PassedAll Ready (λ z. omega arith) (ap (λ (x : View). x.stage) t ∙ e)))
            (λ t. absurd (none_in k u t (ap is_inside e)))
            (change.each k u at);
      }

  module _ (id : ℕ) (v : View) (there : get_elem? views id ≡ some v) where
    else_of : (f : Stage → ℕ) (at : ℕ) → at ≢ v.at → f Away ≡ 0 → here f at v ≡ 0
    else_of f at ne z = is_else f at v (λ e. ne (sym e))

    -- It has found that one is called already.
    spared_keeps : v.stage ≡ Near → v.at ≡ 2 → get_or words 1 0 ≡ 1 → IsKept many words (set views id (moved Passed v))
    spared_keeps stage two called =
        let w : View = moved Passed v in
        let vs : List View = set views id w in
        let change = replaced views id v w there in
        ringer_keeps many words views kept vs (λ f. f v) w change v.at
        (outside_still v w (ap is_inside stage) refl (ap is_at stage) refl (ap has_passed stage) refl) else_of refl
        words refl refl kept.called (λ ne. omega arith) (λ at bell. refl)
        (λ at bell.
        let s = after_strokes many words views kept vs (λ f. f v) w change v.at at in
        let z = none_here has_rung at v (ap has_rung stage) in
        let z' = none_here has_rung at w refl in
        let k = kept.rung at bell in
        omega arith)
        (λ at. let z = none_here has_rung at v (ap has_rung stage) in omega arith)
        (apart Passed Read (λ z. omega arith)) (apart Passed Ready (λ z. omega arith))
        (λ k u at e here_now is.
        let read = is.read in
        let since = is.since in
        let s = after_strokes many words views kept vs (λ f. f v) w change v.at u.at in
        let s0 = none_here has_rung u.at v (ap has_rung stage) in
        let s1 = none_here has_rung u.at w refl in
        let g = after_ringing many words views kept vs (λ f. f v) w change v.at u.at in
        let g0 = none_here is_ringing u.at v (ap is_ringing stage) in
        let g1 = none_here is_ringing u.at w refl in
        let l = after_looked many words views kept vs (λ f. f v) w change v.at u.at in
        let l1 = same_here has_looked u.at v w refl (ap has_looked stage) in
        let p = after_passed many words views kept vs (λ f. f v) w change v.at in
        let p0 : has_passed v.stage ≡ 0 = ap has_passed stage in
        let c = is.called (here_now ∙ two) in
        record {
          read = omega arith;
          since = omega arith;
          heard = λ less zero. absurd (omega arith);
          called = λ z. omega arith;
        })

    -- It has said that one is called, and has still to make a stroke.
    calling_keeps : v.stage ≡ Near → v.at ≡ 2 → IsKept many (set words 1 1) (set views id (moved Ringing v))
    calling_keeps stage two =
        let w : View = moved Ringing v in
        let vs : List View = set views id w in
        let size = kept.size in
        let change = replaced views id v w there in
        let one_now : get_or (set words 1 1) 1 0 ≡ 1 = get_or-set_same words 1 1 0 (omega arith) in
        ringer_keeps many words views kept vs (λ f. f v) w change v.at
        (outside_still v w (ap is_inside stage) refl (ap is_at stage) refl (ap has_passed stage) refl) else_of refl
        (set words 1 1) (length-set words 1 1) (get_or-set_other words 1 0 1 0 (λ e. omega arith)) (omega arith)
        (λ ne. absurd (ne two))
        (λ at bell. let b = bell.2 in get_or-set_other words 1 at 1 0 (λ e. omega arith))
        (λ at bell.
        let b = bell.2 in
        let o = get_or-set_other words 1 (at + 1) 1 0 (λ e. omega arith) in
        let s = after_strokes many words views kept vs (λ f. f v) w change v.at at in
        let z = none_here has_rung at v (ap has_rung stage) in
        let z' = none_here has_rung at w refl in
        let k = kept.rung at bell in
        omega arith)
        (λ at. let z = none_here has_rung at v (ap has_rung stage) in omega arith)
        (apart Ringing Read (λ z. omega arith)) (apart Ringing Ready (λ z. omega arith))
        (λ k u at e here_now is.
        let read = is.read in
        let since = is.since in
        let s = after_strokes many words views kept vs (λ f. f v) w change v.at u.at in
        let s0 = none_here has_rung u.at v (ap has_rung stage) in
        let s1 = none_here has_rung u.at w refl in
        let g = after_ringing many words views kept vs (λ f. f v) w change v.at u.at in
        let g0 = none_here is_ringing u.at v (ap is_ringing stage) in
        let g1 : here is_ringing u.at w ≡ 1 = is_here is_ringing u.at w (sym here_now) in
        let l = after_looked many words views kept vs (λ f. f v) w change v.at u.at in
        let l1 = same_here has_looked u.at v w refl (ap has_looked stage) in
        let p = after_passed many words views kept vs (λ f. f v) w change v.at in
        let p0 : has_passed v.stage ≡ 0 = ap has_passed stage in
        record {
          read = omega arith;
          since = omega arith;
          heard = λ less zero. absurd (omega arith);
          called = λ z. omega arith;
        })

    -- It makes a stroke.
    stroke_keeps : (k : ℕ) → IsBell many v.at → v.stage ≡ Ringing → k ≡ get_or words (v.at + 1) 0 + 1 →
        IsKept many (set words (v.at + 1) k) (set views id (moved Rung v))
    stroke_keeps k place stage more =
        let w : View = moved Rung v in
        let vs : List View = set views id w in
        let words' : List ℕ = set words (v.at + 1) k in
        let size = kept.size in
        let i = place.2 in
        let low = place.1 in
        let change = replaced views id v w there in
        let here_now : get_or words' (v.at + 1) 0 ≡ k = get_or-set_same words (v.at + 1) k 0 (omega arith) in
        let first : get_or words' 1 0 ≡ get_or words 1 0 = get_or-set_other words (v.at + 1) 1 k 0 (λ e. omega arith) in
        let called = kept.called in
        ringer_keeps many words views kept vs (λ f. f v) w change v.at
        (outside_still v w (ap is_inside stage) refl (ap is_at stage) refl (ap has_passed stage) refl) else_of refl
        words' (length-set words (v.at + 1) k) (get_or-set_other words (v.at + 1) 0 k 0 (λ e. omega arith))
        (omega arith) (λ ne. omega arith)
        (λ at bell. get_or-set_other words (v.at + 1) at k 0 (λ e. not_next many v.at at place bell (sym e)))
        (λ at bell.
        let s = after_strokes many words views kept vs (λ f. f v) w change v.at at in
        let z = none_here has_rung at v (ap has_rung stage) in
        let n = kept.rung at bell in
        dite (ℕ_discrete at v.at)
        (λ e.
        let same : get_or words' (at + 1) 0 ≡ get_or words' (v.at + 1) 0 =
        ap (λ (m : ℕ). get_or words' (m + 1) 0) e in
        let same' : get_or words (at + 1) 0 ≡ get_or words (v.at + 1) 0 =
        ap (λ (m : ℕ). get_or words (m + 1) 0) e in
        let one : here has_rung at w ≡ 1 = is_here has_rung at w (sym e) in
        omega arith)
        (λ ne.
        let o = get_or-set_other words (v.at + 1) (at + 1) k 0 (λ e. ne (omega arith)) in
        let z' = is_else has_rung at w (λ e. ne (sym e)) in
        omega arith))
        (λ at. let z = none_here has_rung at v (ap has_rung stage) in omega arith)
        (apart Rung Read (λ z. omega arith)) (apart Rung Ready (λ z. omega arith))
        (λ j u at e here_u is.
        let read = is.read in
        let since = is.since in
        let s = after_strokes many words views kept vs (λ f. f v) w change v.at u.at in
        let s0 = none_here has_rung u.at v (ap has_rung stage) in
        let s1 : here has_rung u.at w ≡ 1 = is_here has_rung u.at w (sym here_u) in
        let g = after_ringing many words views kept vs (λ f. f v) w change v.at u.at in
        let g0 : here is_ringing u.at v ≡ 1 = is_here is_ringing u.at v (sym here_u) ∙ ap is_ringing stage in
        let g1 = none_here is_ringing u.at w refl in
        let l = after_looked many words views kept vs (λ f. f v) w change v.at u.at in
        let l1 = same_here has_looked u.at v w refl (ap has_looked stage) in
        let p = after_passed many words views kept vs (λ f. f v) w change v.at in
        let p0 : has_passed v.stage ≡ 0 = ap has_passed stage in
        record {
          read = omega arith;
          since = omega arith;
          heard = λ less zero. absurd (omega arith);
          called = λ z. let c = is.called z in omega arith;
        })

  -- ---- by the number that a step finds

  passes_all_after : (n : ℕ) → get_or words 0 0 ≡ n → IsKept many words (views ++ moved (passing_all n) away ∷ [])
  passes_all_after zero is = passed_all_keeps is
  passes_all_after (suc n) is = begins_keeps many words views kept

  looks_after : (a n : ℕ) → IsBell many a → get_or words a 0 ≡ n →
      IsKept many words (views ++ moved_to a (looking n) away ∷ [])
  looks_after a zero bell is = passed_keeps a bell is
  looks_after a (suc n) bell is = ringing_keeps a

  nears_after : (a n : ℕ) → IsBell many a → get_or words a 0 ≡ n →
      IsKept many words (views ++ moved_to a (nearing n) away ∷ [])
  nears_after a zero bell is = passed_keeps a bell is
  nears_after a (suc n) bell is = nearing_keeps a

  module _ (id : ℕ) (v : View) (there : get_elem? views id ≡ some v) (stage : v.stage ≡ Near) (two : v.at ≡ 2) where
    spares_after : (n : ℕ) → get_or words 1 0 ≡ n → IsKept many words (set views id (moved (sparing n) v))
    spares_after zero is =
        let same : moved Near v ≡ v = ap (λ (z : Stage). moved z v) (sym stage) in
        subst (λ (vs : List View). IsKept many words vs)
        (sym (ap (λ (u : View). set views id u) same ∙ set_again views id v there)) kept
    spares_after (suc n) is = let low = kept.called in spared_keeps id v there stage two (omega arith)

    calls_after : (n : ℕ) → get_or words 1 0 ≡ n → IsKept many (set words 1 1) (set views id (moved (calling n) v))
    calls_after zero is = calling_keeps id v there stage two
    calls_after (suc n) is =
        let low = kept.called in
        let one : get_or words 1 0 ≡ 1 = omega arith in
        let same : set words 1 1 ≡ words = ap (λ (m : ℕ). set words 1 m) (sym one) ∙ set-get_or words 1 0 in
        subst (λ (ws : List ℕ). IsKept many ws (set views id (moved Passed v))) (sym same)
        (spared_keeps id v there stage two one)

-- ---- what the table asks of each step

pub passes_all : (many slots : ℕ) →
    Enters (Kept many) slots 0 (λ n w. steps.PassesAll (step slots 0 0 0 none) (away, []) n (w, []))
passes_all many slots s held _ _ =
    let n : ℕ = get_or s.words 0 0 in
    let w : View = moved (passing_all n) away in
    (w, (λ few. passes_all_after many s.words s.views (held (one_less s.views w few)) n refl), refl)

pub looks : (many slots a : ℕ) → IsBell many a →
    Enters (Kept many) slots a (λ n w. steps.Looks (step slots a 0 0 none) (away, []) n (w, []))
looks many slots a bell s held _ _ =
    let n : ℕ = get_or s.words a 0 in
    let w : View = moved_to a (looking n) away in
    (w, (λ few. looks_after many s.words s.views (held (one_less s.views w few)) a n bell refl), refl)

pub nears : (many slots a : ℕ) → IsBell many a →
    Enters (Kept many) slots a (λ n w. steps.Nears (step slots a 0 0 none) (away, []) n (w, []))
nears many slots a bell s held _ _ =
    let n : ℕ = get_or s.words a 0 in
    let w : View = moved_to a (nearing n) away in
    (w, (λ few. nears_after many s.words s.views (held (one_less s.views w few)) a n bell refl), refl)

pub spares : (many slots id : ℕ) (me : Mine) → me.0.stage ≡ Near → me.0.at ≡ 2 →
    Allows (Kept many) slots id me 1 (λ n. n) (steps.Spares (step slots 1 0 0 none) me)
spares many slots id me stage two s held _ there _ =
    let n : ℕ = get_or s.words 1 0 in
    let w : View = moved (sparing n) me.0 in (
      w,
      keeps,
      tt,
      (λ few.
          let kept = kept_now many id s.words s.views w held few in
          subst (λ (ws : List ℕ). IsKept many ws (set s.views id w)) (sym (set-get_or s.words 1 0))
          (spares_after many s.words s.views kept id me.0 there stage two n refl)),
      refl,
    )

pub calls : (many slots id : ℕ) (me : Mine) → me.0.stage ≡ Near → me.0.at ≡ 2 →
    Allows (Kept many) slots id me 1 (λ _. 1) (steps.Calls (step slots 1 1 0 none) me)
calls many slots id me stage two s held _ there _ =
    let n : ℕ = get_or s.words 1 0 in
    let w : View = moved (calling n) me.0 in (
      w,
      keeps,
      tt,
      (λ few.
          calls_after many s.words s.views (kept_now many id s.words s.views w held few) id me.0 there stage two n
          refl),
      refl,
    )

pub rings_out : (many slots id a : ℕ) (me : Mine) → IsBell many a → me.0.stage ≡ Ringing → me.0.at ≡ a →
    Allows (Kept many) slots id me (a + 1) (λ n. (n + 1) % 18446744073709551616)
    (steps.Rings (step slots (a + 1) 1 0 none) me)
rings_out many slots id a me place stage at s held _ there _ =
    let w : View = moved Rung me.0 in
    let n : ℕ = get_or s.words (a + 1) 0 in
    let k : ℕ = (n + 1) % 18446744073709551616 in (
      w,
      keeps,
      tt,
      (λ few.
          let kept = kept_now many id s.words s.views w held few in
          let sum : strokes a (set s.views id w) + here has_rung a me.0 ≡ strokes a s.views + here has_rung a w =
          (replaced s.views id me.0 w there).sums (here has_rung a) in
          let z = none_here has_rung a me.0 (ap has_rung stage) in
          let one : here has_rung a w ≡ 1 = is_here has_rung a w at in
          let most = few_rung a (set s.views id w) in
          let is = kept.rung a place in
          let more : k ≡ n + 1 = more_by_one n (length (set s.views id w)) (omega arith) few in
          let bell : IsBell many me.0.at = subst (λ (z : ℕ). IsBell many z) (sym at) place in
          let after : IsKept many (set s.words (me.0.at + 1) k) (set s.views id w) =
          stroke_keeps many s.words s.views kept id me.0 there k bell stage
          (more ∙ ap (λ (z : ℕ). get_or s.words (z + 1) 0 + 1) (sym at)) in
          subst (λ (z : ℕ). IsKept many (set s.words (z + 1) k) (set s.views id w)) at after),
      refl,
    )
