-- Proves that each step of a thread that sleeps keeps the rule.
use Rattle.std.proofs.Common.{◌≡◌, ◌≢◌, ⊎_elim, ℕ, zero, suc, ◌+◌, ◌*◌, ◌-◌, ◌%◌, ◌^◌, ◌<◌, ◌≤◌, List, [], ◌∷◌, ◌++◌}
use Rattle.std.proofs.Common.{length, set}
use Rattle.std.proofs.Common.{get_or, sym, refl, ap, ◌∙◌, subst, arith, length-set, get_or-set_same}
use mathlib.Core.Logic.{dite}
use mathlib.Core.Option.{none, some}
use native.Mathlib.Decide.{ℕ_discrete}
use lib.ListN.{get_elem?}
use Rattle.std.proofs.Math.Nat.{mod-eq_of_lt}
use Rattle.std.proofs.lemmas.List.{get_or-set_other, set-get_or}
use Rattle.atomic_table.specs.Table.{step, keeps, Allows, Enters}
use Rattle.atomic_table.proofs.Lists.{set_again}
use Rattle.sysv_lists.proofs.Sums.{at-le-sum_by}
use Rattle.sysv_doorbells.specs.declared.view.View.{View}
use Rattle.sysv_doorbells.specs.declared.view.Stage.{Stage}
use Rattle.sysv_doorbells.specs.declared.view.Stage.TheVariants.{Away, Come, Entered, Read, Ready, Left}
use Rattle.sysv_doorbells.specs.Rule.{is_inside, is_at, is_near, is_ringing, has_rung, has_looked, has_passed, here}
use Rattle.sysv_doorbells.specs.Rule.{count_at, count, strokes, rings, IsBell, IsReady, IsKept, Kept, away}
use Rattle.sysv_doorbells.specs.Steps.{Mine, moved, moved_to, noted, opened, made_ready}
use Rattle.sysv_doorbells.specs.Steps as steps
use Rattle.sysv_doorbells.proofs.Counts.{Change, replaced, joined, IsQuiet, quiet_still, quiet_new, busy, not_next}
use Rattle.sysv_doorbells.proofs.Counts.{apart}
use Rattle.sysv_doorbells.proofs.Counts.{is_here, is_else, none_here, same_here, few_inside, few_at, one_less}

-- ---- a step that rings nothing

module _ (many : ℕ) (words : List ℕ) (views : List View) (kept : IsKept many words views)
    (views' : List View) (old : (View → ℕ) → ℕ) (w : View) (change : Change views views' old w)
    (quiet : IsQuiet old w) where
  same_strokes : (at : ℕ) → strokes at views' ≡ strokes at views
  same_strokes at =
      let s : strokes at views' + old (here has_rung at) ≡ strokes at views + here has_rung at w =
      change.sums (here has_rung at) in
      let q = quiet.rung at in
      omega arith

  same_ringing : (at : ℕ) → count_at is_ringing at views' ≡ count_at is_ringing at views
  same_ringing at =
      let s : count_at is_ringing at views' + old (here is_ringing at)
      ≡ count_at is_ringing at views + here is_ringing at w = change.sums (here is_ringing at) in
      let q = quiet.ringing at in
      omega arith

  same_near : (at : ℕ) → count_at is_near at views' ≡ count_at is_near at views
  same_near at =
      let s : count_at is_near at views' + old (here is_near at) ≡ count_at is_near at views + here is_near at w =
      change.sums (here is_near at) in
      let q = quiet.near at in
      omega arith

  same_rings : (at : ℕ) → rings at views' ≡ rings at views
  same_rings at =
      let s : count_at has_looked at views' + old (here has_looked at)
      ≡ count_at has_looked at views + here has_looked at w = change.sums (here has_looked at) in
      let p : count has_passed views' + old (λ (u : View). has_passed u.stage)
      ≡ count has_passed views + has_passed w.stage = change.sums (λ (u : View). has_passed u.stage) in
      let q = quiet.looked at in
      let r = quiet.passed in
      omega arith

  still_ready : (before after : List ℕ) → get_or after 1 0 ≤ get_or before 1 0 → (u : View) → IsReady before views u →
      IsReady after views' u
  still_ready before after low u is =
      let read = is.read in
      let since = is.since in
      let s = same_strokes u.at in
      let r = same_rings u.at in
      let g = same_ringing u.at in
      let n = same_near u.at in
      record {
        read = omega arith;
        since = omega arith;
        heard = λ less none. let h = is.heard (omega arith) (omega arith) in omega arith;
        called = λ e. let c = is.called e in omega arith;
      }

  pub quiet_keeps : (words' : List ℕ) → length words' ≡ length words → get_or words' 0 0 ≡ count is_inside views'
      → get_or words' 1 0 ≤ get_or words 1 0
      → ((at : ℕ) → IsBell many at → get_or words' at 0 ≡ count_at is_at at views')
      → ((at : ℕ) → IsBell many at → get_or words' (at + 1) 0 ≡ get_or words (at + 1) 0)
      → (w.stage ≡ Read → w.strokes ≤ strokes w.at views)
      → (w.stage ≡ Ready → IsReady words' views w)
      → IsKept many words' views'
  quiet_keeps words' size sleepers called entered rung read ready =
      let low = kept.called in
      record {
        size = size ∙ kept.size;
        sleepers = sleepers;
        called = omega arith;
        entered = entered;
        rung = λ at bell. rung at bell ∙ kept.rung at bell ∙ sym (same_strokes at);
        read = λ k u at e. ⊎_elim
            (λ t. subst (λ (x : View). x.stage ≡ Read → x.strokes ≤ strokes x.at views') t
            (λ is. let r = read is in let s = same_strokes w.at in omega arith) e)
            (λ t. let r = kept.read k u t e in let s = same_strokes u.at in omega arith)
            (change.each k u at);
        ready = λ k u at e. ⊎_elim
            (λ t. subst (λ (x : View). x.stage ≡ Ready → IsReady words' views' x) t
            (λ is. still_ready words' words' (omega arith) w (ready is)) e)
            (λ t. still_ready words words' called u (kept.ready k u t e))
            (change.each k u at);
      }

-- ---- each step

module _ (many : ℕ) (words : List ℕ) (views : List View) (kept : IsKept many words views) where
  pub begins_keeps : IsKept many words (views ++ away ∷ [])
  begins_keeps =
      let change = joined views away in
      quiet_keeps many words views kept (views ++ away ∷ []) (λ f. 0) away change (quiet_new away refl) words refl
      (let s : count is_inside (views ++ away ∷ []) + 0 ≡ count is_inside views + 0 =
      change.sums (λ (u : View). is_inside u.stage) in
      let k = kept.sleepers in
      omega arith)
      (omega arith)
      (λ at bell.
      let s : count_at is_at at (views ++ away ∷ []) + 0 ≡ count_at is_at at views + here is_at at away =
      change.sums (here is_at at) in
      let n = none_here is_at at away refl in
      let k = kept.entered at bell in
      omega arith)
      (λ at bell. refl)
      (λ e. absurd (apart Away Read (λ z. omega arith) e))
      (λ e. absurd (apart Away Ready (λ z. omega arith) e))

  module _ (id : ℕ) (v : View) (there : get_elem? views id ≡ some v) where
    pub comes_keeps : (k : ℕ) → v.stage ≡ Away → k ≡ get_or words 0 0 + 1 →
        IsKept many (set words 0 k) (set views id (moved Come v))
    comes_keeps k away_now more =
        let w : View = moved Come v in
        let size = kept.size in
        let change = replaced views id v w there in
        let here_now : get_or (set words 0 k) 0 0 ≡ k = get_or-set_same words 0 k 0 (omega arith) in
        let first : get_or (set words 0 k) 1 0 ≡ get_or words 1 0 = get_or-set_other words 0 1 k 0 (λ e. omega arith) in
        quiet_keeps many words views kept (set views id w) (λ f. f v) w change
        (quiet_still v w (ap busy away_now) refl) (set words 0 k) (length-set words 0 k)
        (let s : count is_inside (set views id w) + is_inside v.stage ≡ count is_inside views + 1 =
        change.sums (λ (u : View). is_inside u.stage) in
        let z : is_inside v.stage ≡ 0 = ap is_inside away_now in
        let n = kept.sleepers in
        omega arith)
        (omega arith)
        (λ at bell.
        let b = bell.2 in
        let o = get_or-set_other words 0 at k 0 (λ e. omega arith) in
        let s : count_at is_at at (set views id w) + here is_at at v ≡ count_at is_at at views + here is_at at w =
        change.sums (here is_at at) in
        let z = none_here is_at at v (ap is_at away_now) in
        let z' = none_here is_at at w refl in
        let n = kept.entered at bell in
        omega arith)
        (λ at bell. get_or-set_other words 0 (at + 1) k 0 (λ e. omega arith))
        (λ e. absurd (apart Come Read (λ z. omega arith) e))
        (λ e. absurd (apart Come Ready (λ z. omega arith) e))

    pub enters_keeps : (a k : ℕ) → IsBell many a → v.stage ≡ Come → k ≡ get_or words a 0 + 1 →
        IsKept many (set words a k) (set views id (moved_to a Entered v))
    enters_keeps a k place come more =
        let w : View = moved_to a Entered v in
        let size = kept.size in
        let i = place.2 in
        let less = place.1 in
        let change = replaced views id v w there in
        let here_now : get_or (set words a k) a 0 ≡ k = get_or-set_same words a k 0 (omega arith) in
        let zeroth : get_or (set words a k) 0 0 ≡ get_or words 0 0 =
        get_or-set_other words a 0 k 0 (λ e. omega arith) in
        let first : get_or (set words a k) 1 0 ≡ get_or words 1 0 = get_or-set_other words a 1 k 0 (λ e. omega arith) in
        quiet_keeps many words views kept (set views id w) (λ f. f v) w change
        (quiet_still v w (ap busy come) refl) (set words a k) (length-set words a k)
        (let s : count is_inside (set views id w) + is_inside v.stage ≡ count is_inside views + 1 =
        change.sums (λ (u : View). is_inside u.stage) in
        let z : is_inside v.stage ≡ 1 = ap is_inside come in
        let n = kept.sleepers in
        omega arith)
        (omega arith)
        (λ at bell.
        let s : count_at is_at at (set views id w) + here is_at at v ≡ count_at is_at at views + here is_at at w =
        change.sums (here is_at at) in
        let z = none_here is_at at v (ap is_at come) in
        let n = kept.entered at bell in
        dite (ℕ_discrete at a)
        (λ e.
        let same : get_or (set words a k) at 0 ≡ get_or (set words a k) a 0 =
        ap (λ (m : ℕ). get_or (set words a k) m 0) e in
        let same' : get_or words at 0 ≡ get_or words a 0 = ap (λ (m : ℕ). get_or words m 0) e in
        let one : here is_at at w ≡ 1 = is_here is_at at w (sym e) in
        omega arith)
        (λ ne.
        let o = get_or-set_other words a at k 0 ne in
        let z' = is_else is_at at w (λ e. ne (sym e)) in
        omega arith))
        (λ at bell. get_or-set_other words a (at + 1) k 0 (not_next many at a bell place))
        (λ e. absurd (apart Entered Read (λ z. omega arith) e))
        (λ e. absurd (apart Entered Ready (λ z. omega arith) e))

    pub reads_keeps : IsBell many v.at → v.at ≢ 2 → v.stage ≡ Entered →
        IsKept many words (set views id (made_ready (get_or words (v.at + 1) 0) (rings v.at views) v))
    reads_keeps place not_entrance stage =
        let w : View = made_ready (get_or words (v.at + 1) 0) (rings v.at views) v in
        let change = replaced views id v w there in
        quiet_keeps many words views kept (set views id w) (λ f. f v) w change
        (quiet_still v w (ap busy stage) refl) words refl
        (let s : count is_inside (set views id w) + is_inside v.stage ≡ count is_inside views + 1 =
        change.sums (λ (u : View). is_inside u.stage) in
        let z : is_inside v.stage ≡ 1 = ap is_inside stage in
        let n = kept.sleepers in
        omega arith)
        (omega arith)
        (λ at bell.
        let s : count_at is_at at (set views id w) + here is_at at v ≡ count_at is_at at views + here is_at at w =
        change.sums (here is_at at) in
        let z = same_here is_at at v w refl (ap is_at stage) in
        let n = kept.entered at bell in
        omega arith)
        (λ at bell. refl)
        (λ e. absurd (apart Ready Read (λ z. omega arith) e))
        (λ e.
        let r = kept.rung v.at place in
        record {
          read = omega arith;
          since = omega arith;
          heard = λ less none. omega arith;
          called = λ is. absurd (not_entrance is);
        })

    pub notes_keeps : IsBell many v.at → v.stage ≡ Entered →
        IsKept many words (set views id (noted (get_or words (v.at + 1) 0) v))
    notes_keeps place stage =
        let w : View = noted (get_or words (v.at + 1) 0) v in
        let change = replaced views id v w there in
        quiet_keeps many words views kept (set views id w) (λ f. f v) w change
        (quiet_still v w (ap busy stage) refl) words refl
        (let s : count is_inside (set views id w) + is_inside v.stage ≡ count is_inside views + 1 =
        change.sums (λ (u : View). is_inside u.stage) in
        let z : is_inside v.stage ≡ 1 = ap is_inside stage in
        let n = kept.sleepers in
        omega arith)
        (omega arith)
        (λ at bell.
        let s : count_at is_at at (set views id w) + here is_at at v ≡ count_at is_at at views + here is_at at w =
        change.sums (here is_at at) in
        let z = same_here is_at at v w refl (ap is_at stage) in
        let n = kept.entered at bell in
        omega arith)
        (λ at bell. refl)
        (λ e. let r = kept.rung v.at place in omega arith)
        (λ e. absurd (apart Read Ready (λ z. omega arith) e))

    pub opens_keeps : v.stage ≡ Read → IsKept many (set words 1 0) (set views id (opened (rings v.at views) v))
    opens_keeps stage =
        let w : View = opened (rings v.at views) v in
        let size = kept.size in
        let change = replaced views id v w there in
        let zero_now : get_or (set words 1 0) 1 0 ≡ 0 = get_or-set_same words 1 0 0 (omega arith) in
        let zeroth : get_or (set words 1 0) 0 0 ≡ get_or words 0 0 =
        get_or-set_other words 1 0 0 0 (λ e. omega arith) in
        quiet_keeps many words views kept (set views id w) (λ f. f v) w change
        (quiet_still v w (ap busy stage) refl) (set words 1 0) (length-set words 1 0)
        (let s : count is_inside (set views id w) + is_inside v.stage ≡ count is_inside views + 1 =
        change.sums (λ (u : View). is_inside u.stage) in
        let z : is_inside v.stage ≡ 1 = ap is_inside stage in
        let n = kept.sleepers in
        omega arith)
        (omega arith)
        (λ at bell.
        let b = bell.2 in
        let o = get_or-set_other words 1 at 0 0 (λ e. omega arith) in
        let s : count_at is_at at (set views id w) + here is_at at v ≡ count_at is_at at views + here is_at at w =
        change.sums (here is_at at) in
        let z = same_here is_at at v w refl (ap is_at stage) in
        let n = kept.entered at bell in
        omega arith)
        (λ at bell. let b = bell.2 in get_or-set_other words 1 (at + 1) 0 0 (λ e. omega arith))
        (λ e. absurd (apart Ready Read (λ z. omega arith) e))
        (λ e.
        let r = kept.read id v there stage in
        record {
          read = omega arith;
          since = omega arith;
          heard = λ less none. omega arith;
          called = λ is. omega arith;
        })

    pub clears_keeps : v.stage ≡ Ready → IsKept many (set words 1 0) (set views id v)
    clears_keeps stage =
        let w : View = v in
        let size = kept.size in
        let change = replaced views id v w there in
        let zero_now : get_or (set words 1 0) 1 0 ≡ 0 = get_or-set_same words 1 0 0 (omega arith) in
        let zeroth : get_or (set words 1 0) 0 0 ≡ get_or words 0 0 =
        get_or-set_other words 1 0 0 0 (λ e. omega arith) in
        quiet_keeps many words views kept (set views id w) (λ f. f v) w change
        (quiet_still v w (ap busy stage) (ap busy stage)) (set words 1 0) (length-set words 1 0)
        (let s : count is_inside (set views id w) + is_inside v.stage ≡ count is_inside views + is_inside v.stage =
        change.sums (λ (u : View). is_inside u.stage) in
        let n = kept.sleepers in
        omega arith)
        (omega arith)
        (λ at bell.
        let b = bell.2 in
        let o = get_or-set_other words 1 at 0 0 (λ e. omega arith) in
        let s : count_at is_at at (set views id w) + here is_at at v ≡ count_at is_at at views + here is_at at v =
        change.sums (here is_at at) in
        let n = kept.entered at bell in
        omega arith)
        (λ at bell. let b = bell.2 in get_or-set_other words 1 (at + 1) 0 0 (λ e. omega arith))
        (λ e. kept.read id v there e)
        (λ e.
        let is = kept.ready id v there e in
        let read = is.read in
        let since = is.since in
        record {
          read = read;
          since = since;
          heard = is.heard;
          called = λ at. let c = is.called at in omega arith;
        })

    -- A thread that is at a doorbell is counted there.
    pub counted_at : is_at v.stage ≡ 1 → 1 ≤ count_at is_at v.at views
    counted_at one =
        let h : here is_at v.at v ≡ is_at v.stage = is_here is_at v.at v refl in
        let l : here is_at v.at v ≤ count_at is_at v.at views = at-le-sum_by (here is_at v.at) views id v there in
        omega arith

    pub counted_inside : is_inside v.stage ≡ 1 → 1 ≤ count is_inside views
    counted_inside one =
        let l : is_inside v.stage ≤ count is_inside views =
        at-le-sum_by (λ (u : View). is_inside u.stage) views id v there in
        omega arith

    pub leaves_keeps : (k : ℕ) → IsBell many v.at → v.stage ≡ Ready → k + 1 ≡ get_or words v.at 0 →
        IsKept many (set words v.at k) (set views id (moved Left v))
    leaves_keeps k place stage less =
        let w : View = moved Left v in
        let size = kept.size in
        let i = place.2 in
        let low = place.1 in
        let change = replaced views id v w there in
        let here_now : get_or (set words v.at k) v.at 0 ≡ k = get_or-set_same words v.at k 0 (omega arith) in
        let zeroth : get_or (set words v.at k) 0 0 ≡ get_or words 0 0 =
        get_or-set_other words v.at 0 k 0 (λ e. omega arith) in
        let first : get_or (set words v.at k) 1 0 ≡ get_or words 1 0 =
        get_or-set_other words v.at 1 k 0 (λ e. omega arith) in
        quiet_keeps many words views kept (set views id w) (λ f. f v) w change
        (quiet_still v w (ap busy stage) refl) (set words v.at k) (length-set words v.at k)
        (let s : count is_inside (set views id w) + is_inside v.stage ≡ count is_inside views + 1 =
        change.sums (λ (u : View). is_inside u.stage) in
        let z : is_inside v.stage ≡ 1 = ap is_inside stage in
        let n = kept.sleepers in
        omega arith)
        (omega arith)
        (λ at bell.
        let s : count_at is_at at (set views id w) + here is_at at v ≡ count_at is_at at views + here is_at at w =
        change.sums (here is_at at) in
        let z = none_here is_at at w refl in
        let n = kept.entered at bell in
        dite (ℕ_discrete at v.at)
        (λ e.
        let same : get_or (set words v.at k) at 0 ≡ get_or (set words v.at k) v.at 0 =
        ap (λ (m : ℕ). get_or (set words v.at k) m 0) e in
        let same' : get_or words at 0 ≡ get_or words v.at 0 = ap (λ (m : ℕ). get_or words m 0) e in
        let one : here is_at at v ≡ 1 = is_here is_at at v (sym e) ∙ ap is_at stage in
        omega arith)
        (λ ne.
        let o = get_or-set_other words v.at at k 0 ne in
        let z' = is_else is_at at v (λ e. ne (sym e)) in
        omega arith))
        (λ at bell. get_or-set_other words v.at (at + 1) k 0 (not_next many at v.at bell place))
        (λ e. absurd (apart Left Read (λ z. omega arith) e))
        (λ e. absurd (apart Left Ready (λ z. omega arith) e))

    pub goes_keeps : (k : ℕ) → v.stage ≡ Left → k + 1 ≡ get_or words 0 0 →
        IsKept many (set words 0 k) (set views id (moved Away v))
    goes_keeps k stage less =
        let w : View = moved Away v in
        let size = kept.size in
        let change = replaced views id v w there in
        let here_now : get_or (set words 0 k) 0 0 ≡ k = get_or-set_same words 0 k 0 (omega arith) in
        let first : get_or (set words 0 k) 1 0 ≡ get_or words 1 0 = get_or-set_other words 0 1 k 0 (λ e. omega arith) in
        quiet_keeps many words views kept (set views id w) (λ f. f v) w change
        (quiet_still v w (ap busy stage) refl) (set words 0 k) (length-set words 0 k)
        (let s : count is_inside (set views id w) + is_inside v.stage ≡ count is_inside views + 0 =
        change.sums (λ (u : View). is_inside u.stage) in
        let z : is_inside v.stage ≡ 1 = ap is_inside stage in
        let n = kept.sleepers in
        omega arith)
        (omega arith)
        (λ at bell.
        let b = bell.2 in
        let o = get_or-set_other words 0 at k 0 (λ e. omega arith) in
        let s : count_at is_at at (set views id w) + here is_at at v ≡ count_at is_at at views + here is_at at w =
        change.sums (here is_at at) in
        let z = none_here is_at at v (ap is_at stage) in
        let z' = none_here is_at at w refl in
        let n = kept.entered at bell in
        omega arith)
        (λ at bell. get_or-set_other words 0 (at + 1) k 0 (λ e. omega arith))
        (λ e. absurd (apart Away Read (λ z. omega arith) e))
        (λ e. absurd (apart Away Ready (λ z. omega arith) e))

-- ---- what the table asks of each step

-- The number of seats stays.
pub kept_now : (many id : ℕ) (words : List ℕ) (views : List View) (w : View)
    → (length views < 18446744073709551616 → IsKept many words views) → length (set views id w) < 18446744073709551616 →
    IsKept many words views
kept_now many id words views w held less = let l = length-set views id w in held (omega arith)

pub more_by_one : (n most : ℕ) → n + 1 ≤ most → most < 18446744073709551616 → (n + 1) % 18446744073709551616 ≡ n + 1
more_by_one n most fits less = mod-eq_of_lt {n = n + 1} {m = 18446744073709551616} (omega arith)

less_by_one : (n : ℕ) → 1 ≤ n → n < 18446744073709551616 →
    (n + 18446744073709551615) % 18446744073709551616 + 1 ≡ n
less_by_one n least fits = omega arith

pub begins : (many slots i : ℕ) →
    Enters (Kept many) slots i (λ n w. steps.Begins (step slots i 0 0 none) (away, []) n (w, []))
begins many slots i s held _ _ = (
  away,
  (λ few. begins_keeps many s.words s.views (held (one_less s.views away few))),
  refl,
)

pub comes : (many slots id : ℕ) (me : Mine) → me.0.stage ≡ Away →
    Allows (Kept many) slots id me 0 (λ n. (n + 1) % 18446744073709551616) (steps.Comes (step slots 0 1 0 none) me)
comes many slots id me stage s held _ there _ =
    let w : View = moved Come me.0 in
    let n : ℕ = get_or s.words 0 0 in (
      w,
      keeps,
      tt,
      (λ few.
          let kept = kept_now many id s.words s.views w held few in
          let sum : count is_inside (set s.views id w) + is_inside me.0.stage ≡ count is_inside s.views + 1 =
          (replaced s.views id me.0 w there).sums (λ (u : View). is_inside u.stage) in
          let z : is_inside me.0.stage ≡ 0 = ap is_inside stage in
          let most = few_inside (set s.views id w) in
          let is = kept.sleepers in
          comes_keeps many s.words s.views kept id me.0 there ((n + 1) % 18446744073709551616) stage
          (more_by_one n (length (set s.views id w)) (omega arith) few)),
      refl,
    )

pub enters : (many slots id a : ℕ) (me : Mine) → IsBell many a → me.0.stage ≡ Come →
    Allows (Kept many) slots id me a (λ n. (n + 1) % 18446744073709551616) (steps.Enters (step slots a 1 0 none) me)
enters many slots id a me place stage s held _ there _ =
    let w : View = moved_to a Entered me.0 in
    let n : ℕ = get_or s.words a 0 in (
      w,
      keeps,
      tt,
      (λ few.
          let kept = kept_now many id s.words s.views w held few in
          let sum : count_at is_at a (set s.views id w) + here is_at a me.0
          ≡ count_at is_at a s.views + here is_at a w =
          (replaced s.views id me.0 w there).sums (here is_at a) in
          let z = none_here is_at a me.0 (ap is_at stage) in
          let one : here is_at a w ≡ 1 = is_here is_at a w refl in
          let most = few_at a (set s.views id w) in
          let is = kept.entered a place in
          enters_keeps many s.words s.views kept id me.0 there a ((n + 1) % 18446744073709551616) place stage
          (more_by_one n (length (set s.views id w)) (omega arith) few)),
      refl,
    )

pub reads : (many slots id a : ℕ) (me : Mine) → IsBell many a → a ≢ 2 → me.0.stage ≡ Entered → me.0.at ≡ a →
    Allows (Kept many) slots id me (a + 1) (λ n. n) (steps.Reads (step slots (a + 1) 0 0 none) me)
reads many slots id a me place apart stage at s held _ there _ =
    let n : ℕ = get_or s.words (a + 1) 0 in
    let since : ℕ = rings me.0.at s.views in
    let w : View = made_ready n since me.0 in (
      w,
      keeps,
      tt,
      (λ few.
          let kept = kept_now many id s.words s.views w held few in
          let bell : IsBell many me.0.at = subst (λ (z : ℕ). IsBell many z) (sym at) place in
          let after = reads_keeps many s.words s.views kept id me.0 there bell (λ e. apart (sym at ∙ e)) stage in
          subst (λ (ws : List ℕ). IsKept many ws (set s.views id w)) (sym (set-get_or s.words (a + 1) 0))
          (subst (λ (z : ℕ). IsKept many s.words (set s.views id (made_ready (get_or s.words (z + 1) 0) since me.0))) at
          after)),
      (since, refl),
    )

pub notes : (many slots id a : ℕ) (me : Mine) → IsBell many a → me.0.stage ≡ Entered → me.0.at ≡ a →
    Allows (Kept many) slots id me (a + 1) (λ n. n) (steps.Notes (step slots (a + 1) 0 0 none) me)
notes many slots id a me place stage at s held _ there _ =
    let n : ℕ = get_or s.words (a + 1) 0 in
    let w : View = noted n me.0 in (
      w,
      keeps,
      tt,
      (λ few.
          let kept = kept_now many id s.words s.views w held few in
          let bell : IsBell many me.0.at = subst (λ (z : ℕ). IsBell many z) (sym at) place in
          let after = notes_keeps many s.words s.views kept id me.0 there bell stage in
          subst (λ (ws : List ℕ). IsKept many ws (set s.views id w)) (sym (set-get_or s.words (a + 1) 0))
          (subst (λ (z : ℕ). IsKept many s.words (set s.views id (noted (get_or s.words (z + 1) 0) me.0))) at after)),
      refl,
    )

pub opens_up : (many slots id : ℕ) (me : Mine) → me.0.stage ≡ Read →
    Allows (Kept many) slots id me 1 (λ _. 0) (λ _. steps.Opens (step slots 1 0 0 none) me 0)
opens_up many slots id me stage s held _ there _ =
    let since : ℕ = rings me.0.at s.views in
    let w : View = opened since me.0 in (
      w,
      keeps,
      tt,
      (λ few. opens_keeps many s.words s.views (kept_now many id s.words s.views w held few) id me.0 there stage),
      (since, refl),
    )

pub clears : (many slots id : ℕ) (me : Mine) → me.0.stage ≡ Ready →
    Allows (Kept many) slots id me 1 (λ _. 0) (λ _. steps.Clears (step slots 1 0 0 none) me 0)
clears many slots id me stage s held _ there _ = (
  me.0,
  keeps,
  tt,
  (λ few. clears_keeps many s.words s.views (kept_now many id s.words s.views me.0 held few) id me.0 there stage),
  refl,
)

pub leaves : (many slots id a : ℕ) (me : Mine) → IsBell many a → me.0.stage ≡ Ready → me.0.at ≡ a →
    Allows (Kept many) slots id me a (λ n. (n + 18446744073709551615) % 18446744073709551616)
    (steps.Leaves (step slots a 1 0 none) me)
leaves many slots id a me place stage at s held _ there low =
    let w : View = moved Left me.0 in
    let n : ℕ = get_or s.words a 0 in
    let k : ℕ = (n + 18446744073709551615) % 18446744073709551616 in (
      w,
      keeps,
      tt,
      (λ few.
          let kept = kept_now many id s.words s.views w held few in
          let least : 1 ≤ count_at is_at me.0.at s.views =
          counted_at many s.words s.views kept id me.0 there (ap is_at stage) in
          let least' : 1 ≤ count_at is_at a s.views = subst (λ (z : ℕ). 1 ≤ count_at is_at z s.views) at least in
          let is = kept.entered a place in
          let one : k + 1 ≡ n = less_by_one n (omega arith) low in
          let bell : IsBell many me.0.at = subst (λ (z : ℕ). IsBell many z) (sym at) place in
          let after : IsKept many (set s.words me.0.at k) (set s.views id w) =
          leaves_keeps many s.words s.views kept id me.0 there k bell stage
          (one ∙ ap (λ (z : ℕ). get_or s.words z 0) (sym at)) in
          subst (λ (z : ℕ). IsKept many (set s.words z k) (set s.views id w)) at after),
      refl,
    )

pub goes : (many slots id : ℕ) (me : Mine) → me.0.stage ≡ Left →
    Allows (Kept many) slots id me 0 (λ n. (n + 18446744073709551615) % 18446744073709551616)
    (steps.Goes (step slots 0 1 0 none) me)
goes many slots id me stage s held _ there low =
    let w : View = moved Away me.0 in
    let n : ℕ = get_or s.words 0 0 in
    let k : ℕ = (n + 18446744073709551615) % 18446744073709551616 in (
      w,
      keeps,
      tt,
      (λ few.
          let kept = kept_now many id s.words s.views w held few in
          let least : 1 ≤ count is_inside s.views =
          counted_inside many s.words s.views kept id me.0 there (ap is_inside stage) in
          let is = kept.sleepers in
          goes_keeps many s.words s.views kept id me.0 there k stage (less_by_one n (omega arith) low)),
      refl,
    )
