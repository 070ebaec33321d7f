-- Proves that each kind of step of the sleeper keeps the rule.
use Rattle.std.proofs.Common.{◌≡◌, ◌≢◌, inl, inr, ⊎_elim, ℕ, zero, suc, ◌+◌, ◌<◌, ◌≤◌, false, List, [], ◌∷◌, ◌++◌}
use Rattle.std.proofs.Common.{length, set, get_or}
use Rattle.std.proofs.Common.{sym, refl, ap, ◌∙◌, subst, arith, length-set, length-append, get_or-set_same}
use Rattle.std.specs.Int.{bit_at}
use mathlib.Core.Logic.{dite}
use mathlib.Core.Bool.{true≢false}
use mathlib.Core.Option.{none, some}
use native.Mathlib.Decide.{ℕ_discrete}
use lib.ListN.{get_elem?}
use Rattle.std.proofs.lemmas.List.{get_or-set_other, set-get_or}
use Rattle.atomic_table.specs.Table.{State, step, keeps, Allows}
use Rattle.atomic_table.proofs.Lists.{at_longer, at_last}
use Rattle.sysv_lists.proofs.Places.{set_at}
use Rattle.sysv_bells.specs.declared.view.View.{View}
use Rattle.sysv_bells.specs.declared.view.Telling.{Telling}
use Rattle.sysv_bells.specs.declared.view.Taking.{Taking}
use Rattle.sysv_bells.specs.declared.view.Stage.{Stage}
use Rattle.sysv_bells.specs.declared.view.Stage.TheVariants.{Idle, Told, Rung, Awake, Announced, Asleep}
use Rattle.sysv_bells.specs.Rule.{is_teller, told_count, rung_count, still_to_ring, all_rings, all_bells, IsDelivered}
use Rattle.sysv_bells.specs.Rule.{IsKept, Kept}
use Rattle.sysv_bells.specs.Steps.{Mine, fallen, announced, checked, from_after, awake, hearing, stayed, passed}
use Rattle.sysv_bells.specs.Steps.{passing, taking}
use Rattle.sysv_bells.specs.Steps.{Announces, Checks, Wakes, Hears, Stays, Passes, Takes}
use Rattle.sysv_bells.proofs.StepKeepsRule.{rings_after, bells_after, to_ring_after, tellers_after}
use Rattle.sysv_bells.proofs.StepKeepsRule.{delivered_after, other_word, untouched, is_first}

-- A number for each stage, by which they differ.
abbrev rank : Stage → ℕ
rank Idle = 0
rank Told = 0
rank Rung = 0
rank Awake = 1
rank Announced = 2
rank Asleep = 3

-- A seat that is no teller's has nothing to ring and nothing to look at.
no_told : (a : Stage) → is_teller a ≡ false → told_count a ≡ 0
no_told Idle e = refl
no_told Told e = absurd (true≢false e)
no_told Rung e = refl
no_told Awake e = refl
no_told Announced e = refl
no_told Asleep e = refl

no_rung : (a : Stage) → is_teller a ≡ false → rung_count a ≡ 0
no_rung Idle e = refl
no_rung Told e = refl
no_rung Rung e = absurd (true≢false e)
no_rung Awake e = refl
no_rung Announced e = refl
no_rung Asleep e = refl

fallen_sleeps : (n : ℕ) → is_teller (fallen n) ≡ false
fallen_sleeps zero = refl
fallen_sleeps (suc n) = refl

fallen_away : (n : ℕ) → fallen n ≢ Awake
fallen_away zero e = let r = ap rank e in omega arith
fallen_away (suc n) e = let r = ap rank e in omega arith

fallen_asleep : (n : ℕ) → fallen n ≡ Asleep → n ≡ 0
fallen_asleep zero e = refl
fallen_asleep (suc n) e = let r = ap rank e in absurd (omega arith)

module _ (about : ℕ) (words : List ℕ) (views : List View) (v : View) (kept : IsKept about words views v) (id : ℕ)
    (first : id ≡ 0) (at : get_elem? views id ≡ some v) where
  here : (w : View) → get_elem? (set views id w) 0 ≡ some w
  here w = ap (λ k. get_elem? (set views id w) k) (sym first) ∙ set_at views id v w at

  no_ring : told_count v.stage ≡ 0
  no_ring = no_told v.stage kept.sleeps

  no_look : rung_count v.stage ≡ 0
  no_look = no_rung v.stage kept.sleeps

  announcing_keeps : length words ≤ v.from →
      IsKept about (set words 0 1) (set views id (announced (all_bells views) v)) (announced (all_bells views) v)
  announcing_keeps all_read =
      let w : View = announced (all_bells views) v in
      let size = kept.size in
      let one : get_or (set words 0 1) 0 0 ≡ 1 = get_or-set_same words 0 1 0 (omega arith) in
      let same : get_or (set words 0 1) 1 0 ≡ get_or words 1 0 = get_or-set_other words 0 1 1 0 (λ e. omega arith) in
      let rings = rings_after views id v w at in
      let bells = bells_after views id v w at in
      let ring = to_ring_after views id v w at in
      let low = kept.rung_bit in
      let since = kept.rung_since in
      let seen = kept.seen in
      let none = no_ring in
      record {
        size = length-set words 0 1 ∙ size;
        first = here w;
        sleeps = refl;
        tellers = tellers_after views id w kept.tellers (λ ne. absurd (ne first));
        rung_bit = omega arith;
        rung_since = omega arith;
        all_heard = λ zero_now. let h = kept.all_heard (sym same ∙ zero_now) in omega arith;
        seen = omega arith;
        announced = λ i told read some_bit.
            let o = other_word words 0 1 (omega arith) i told in
            let a = kept.announced i told read (omega arith) in
            omega arith;
        all_read = λ away. omega (arith, length-set words 0 1);
        asleep_bit = omega arith;
        awake = λ e. let r = ap rank e in absurd (omega arith);
        one_bell = λ away. omega arith;
        answered = λ e. let r = ap rank e in absurd (omega arith);
        delivered = delivered_after words (set words 0 1) v.taken v.taken views id w kept.delivered
            (untouched words v.taken 0 1 (omega arith))
            (λ place t told_at. untouched words v.taken 0 1 (omega arith) t (kept.delivered id v at place t told_at));
      }

  checking_keeps : v.stage ≡ Announced →
      IsKept about words (set views id (checked (get_or words 1 0) (all_rings views) v))
      (checked (get_or words 1 0) (all_rings views) v)
  checking_keeps stage =
      let n : ℕ = get_or words 1 0 in
      let w : View = checked n (all_rings views) v in
      let away : v.stage ≢ Awake = λ e. let r = ap rank (sym stage ∙ e) in omega arith in
      let rings = rings_after views id v w at in
      let bells = bells_after views id v w at in
      let ring = to_ring_after views id v w at in
      let none = no_ring in
      let none' = no_told (fallen n) (fallen_sleeps n) in
      let since = kept.rung_since in
      let low = kept.asleep_bit in
      record {
        size = kept.size;
        first = here w;
        sleeps = fallen_sleeps n;
        tellers = tellers_after views id w kept.tellers (λ ne. absurd (ne first));
        rung_bit = kept.rung_bit;
        rung_since = omega arith;
        all_heard = λ zero_now. let h = kept.all_heard zero_now in omega arith;
        seen = omega arith;
        announced = λ i told read some_bit. let a = kept.announced i told read some_bit in omega arith;
        all_read = λ _. kept.all_read away;
        asleep_bit = low;
        awake = λ e. absurd (fallen_away n e);
        one_bell = λ _. let b = kept.one_bell away in omega arith;
        answered = λ e. let r = fallen_asleep n e in omega arith;
        delivered = delivered_after words words v.taken v.taken views id w kept.delivered (λ t is. is)
            (kept.delivered id v at);
      }

  waking_keeps : IsKept about (set words 0 0) (set views id (awake v)) (awake v)
  waking_keeps =
      let w : View = awake v in
      let size = kept.size in
      let zero_now : get_or (set words 0 0) 0 0 ≡ 0 = get_or-set_same words 0 0 0 (omega arith) in
      let same : get_or (set words 0 0) 1 0 ≡ get_or words 1 0 = get_or-set_other words 0 1 0 0 (λ e. omega arith) in
      let rings = rings_after views id v w at in
      let bells = bells_after views id v w at in
      let ring = to_ring_after views id v w at in
      let low = kept.rung_bit in
      let since = kept.rung_since in
      let seen = kept.seen in
      let none = no_ring in
      record {
        size = length-set words 0 0 ∙ size;
        first = here w;
        sleeps = refl;
        tellers = tellers_after views id w kept.tellers (λ ne. absurd (ne first));
        rung_bit = omega arith;
        rung_since = omega arith;
        all_heard = λ zero_rung. let h = kept.all_heard (sym same ∙ zero_rung) in omega arith;
        seen = omega arith;
        announced = λ i told read some_bit.
            let o = other_word words 0 0 (omega arith) i told in
            let a = kept.announced i told read (omega arith) in
            omega arith;
        all_read = λ away. absurd (away refl);
        asleep_bit = omega arith;
        awake = λ e. zero_now;
        one_bell = λ away. absurd (away refl);
        answered = λ e. let r = ap rank e in absurd (omega arith);
        delivered = delivered_after words (set words 0 0) v.taken v.taken views id w kept.delivered
            (untouched words v.taken 0 0 (omega arith))
            (λ place t told_at. untouched words v.taken 0 0 (omega arith) t (kept.delivered id v at place t told_at));
      }

  -- What the sleeper has read after it took the rings is announced.
  still_announced : (n ringing i : ℕ) → n ≡ get_or words 1 0 → 2 ≤ i → i < from_after n v.from → 0 < get_or words i 0 →
      (0 < get_or words 1 0 + ringing → 0 < ringing) × (i < v.from)
  still_announced zero ringing i is told read some_bit = ((λ h. omega arith), read)
  still_announced (suc n) ringing i is told read some_bit = absurd (omega arith)

  hearing_keeps : v.stage ≡ Awake →
      IsKept about (set words 1 0) (set views id (hearing (get_or words 1 0) (all_rings views) v))
      (hearing (get_or words 1 0) (all_rings views) v)
  hearing_keeps stage =
      let n : ℕ = get_or words 1 0 in
      let w : View = hearing n (all_rings views) v in
      let size = kept.size in
      let zero_now : get_or (set words 1 0) 1 0 ≡ 0 = get_or-set_same words 1 0 0 (omega arith) in
      let same : get_or (set words 1 0) 0 0 ≡ get_or words 0 0 = get_or-set_other words 1 0 0 0 (λ e. omega arith) in
      let rings = rings_after views id v w at in
      let ring = to_ring_after views id v w at in
      let asleep = kept.awake stage in
      record {
        size = length-set words 1 0 ∙ size;
        first = here w;
        sleeps = kept.sleeps;
        tellers = tellers_after views id w kept.tellers (λ ne. absurd (ne first));
        rung_bit = omega arith;
        rung_since = omega arith;
        all_heard = λ _. omega arith;
        seen = omega arith;
        announced = λ i told read some_bit.
            let o = other_word words 1 0 (omega arith) i told in
            let so = still_announced n (still_to_ring views) i refl told read (omega arith) in
            let a = so.0 (kept.announced i told so.1 (omega arith)) in
            omega arith;
        all_read = λ away. absurd (away stage);
        asleep_bit = omega arith;
        awake = λ e. same ∙ asleep;
        one_bell = λ away. absurd (away stage);
        answered = λ e. let r = ap rank (sym stage ∙ e) in absurd (omega arith);
        delivered = delivered_after words (set words 1 0) v.taken v.taken views id w kept.delivered
            (untouched words v.taken 1 0 (omega arith))
            (λ place t told_at. untouched words v.taken 1 0 (omega arith) t (kept.delivered id v at place t told_at));
      }

  staying_keeps : v.stage ≡ Awake → IsKept about (set words 1 1) (set views id (stayed v)) (stayed v)
  staying_keeps stage =
      let w : View = stayed v in
      let size = kept.size in
      let one : get_or (set words 1 1) 1 0 ≡ 1 = get_or-set_same words 1 1 0 (omega arith) in
      let same : get_or (set words 1 1) 0 0 ≡ get_or words 0 0 = get_or-set_other words 1 0 1 0 (λ e. omega arith) in
      let rings = rings_after views id v w at in
      let low = kept.rung_bit in
      let since = kept.rung_since in
      let seen = kept.seen in
      let asleep = kept.awake stage in
      record {
        size = length-set words 1 1 ∙ size;
        first = here w;
        sleeps = kept.sleeps;
        tellers = tellers_after views id w kept.tellers (λ ne. absurd (ne first));
        rung_bit = omega arith;
        rung_since = omega arith;
        all_heard = λ zero_now. absurd (omega arith);
        seen = omega arith;
        announced = λ i told read some_bit. omega arith;
        all_read = λ away. absurd (away stage);
        asleep_bit = omega arith;
        awake = λ e. same ∙ asleep;
        one_bell = λ away. absurd (away stage);
        answered = λ e. let r = ap rank (sym stage ∙ e) in absurd (omega arith);
        delivered = delivered_after words (set words 1 1) v.taken v.taken views id w kept.delivered
            (untouched words v.taken 1 1 (omega arith))
            (λ place t told_at. untouched words v.taken 1 1 (omega arith) t (kept.delivered id v at place t told_at));
      }

  -- A word with something told that comes before the next one to read after a look was read before.
  read_before : (n i : ℕ) → n ≡ get_or words v.from 0 → i < passed n v.from → 0 < get_or words i 0 → i < v.from
  read_before zero i is less some_bit = dite (ℕ_discrete i v.from)
      (λ e. let same = ap (λ (k : ℕ). get_or words k 0) e in absurd (omega arith))
      (λ ne. omega arith)
  read_before (suc n) i is less some_bit = less

  passing_keeps : v.stage ≡ Awake →
      IsKept about words (set views id (passing (get_or words v.from 0) v)) (passing (get_or words v.from 0) v)
  passing_keeps stage =
      let n : ℕ = get_or words v.from 0 in
      let w : View = passing n v in
      let rings = rings_after views id v w at in
      let ring = to_ring_after views id v w at in
      let since = kept.rung_since in
      let seen = kept.seen in
      record {
        size = kept.size;
        first = here w;
        sleeps = kept.sleeps;
        tellers = tellers_after views id w kept.tellers (λ ne. absurd (ne first));
        rung_bit = kept.rung_bit;
        rung_since = omega arith;
        all_heard = λ zero_now. let h = kept.all_heard zero_now in omega arith;
        seen = omega arith;
        announced = λ i told read some_bit.
            let a = kept.announced i told (read_before n i refl read some_bit) some_bit in omega arith;
        all_read = λ away. absurd (away stage);
        asleep_bit = kept.asleep_bit;
        awake = kept.awake;
        one_bell = λ away. absurd (away stage);
        answered = λ e. let r = ap rank (sym stage ∙ e) in absurd (omega arith);
        delivered = delivered_after words words v.taken v.taken views id w kept.delivered (λ t is. is)
            (kept.delivered id v at);
      }

  -- What was told stays delivered as the sleeper takes a word.
  now_taken : (t : Telling) → IsDelivered words v.taken t →
      IsDelivered (set words v.from 0) (v.taken ++ record { word = v.from; bits = get_or words v.from 0 } ∷ []) t
  now_taken t is =
      let i : ℕ = v.from in
      let a : Taking = record { word = i; bits = get_or words i 0 } in
      let since = is.since in
      record {
        is_told = is.is_told;
        since = omega (arith, length-append v.taken (a ∷ []));
        bits = λ bit has. ⊎_elim
            (λ there. dite (ℕ_discrete t.word i)
            (λ e. inr (record {
              place = length v.taken;
              taking = a;
              later = since;
              at = at_last v.taken a (length v.taken) refl;
              word_is = sym e;
              has = sym (ap (λ (k : ℕ). bit_at (get_or words k 0) bit) e) ∙ there;
            }))
            (λ ne. inl (ap (λ m. bit_at m bit) (get_or-set_other words i t.word 0 0 ne) ∙ there)))
            (λ was. inr (record {
              place = was.place;
              taking = was.taking;
              later = was.later;
              at = at_longer v.taken (a ∷ []) was.place was.taking was.at;
              word_is = was.word_is;
              has = was.has;
            }))
            (is.bits bit has);
      }

  taking_keeps : v.stage ≡ Awake → 2 ≤ v.from → v.from < length words →
      IsKept about (set words v.from 0) (set views id (taking v.from (get_or words v.from 0) v))
      (taking v.from (get_or words v.from 0) v)
  taking_keeps stage high within =
      let i : ℕ = v.from in
      let n : ℕ = get_or words i 0 in
      let w : View = taking i n v in
      let zeroth : get_or (set words i 0) 0 0 ≡ get_or words 0 0 = get_or-set_other words i 0 0 0 (λ e. omega arith) in
      let firsts : get_or (set words i 0) 1 0 ≡ get_or words 1 0 = get_or-set_other words i 1 0 0 (λ e. omega arith) in
      let cleared : get_or (set words i 0) i 0 ≡ 0 = get_or-set_same words i 0 0 within in
      let rings = rings_after views id v w at in
      let ring = to_ring_after views id v w at in
      let low = kept.rung_bit in
      let since = kept.rung_since in
      let seen = kept.seen in
      let asleep = kept.awake stage in
      record {
        size = length-set words i 0 ∙ kept.size;
        first = here w;
        sleeps = kept.sleeps;
        tellers = tellers_after views id w kept.tellers (λ ne. absurd (ne first));
        rung_bit = omega arith;
        rung_since = omega arith;
        all_heard = λ zero_now. let h = kept.all_heard (sym firsts ∙ zero_now) in omega arith;
        seen = omega arith;
        announced = λ j told read some_bit. dite (ℕ_discrete j i)
            (λ e. let same = ap (λ (k : ℕ). get_or (set words i 0) k 0) e in absurd (omega arith))
            (λ ne.
            let same = get_or-set_other words i j 0 0 ne in
            let a = kept.announced j told (omega arith) (omega arith) in
            omega arith);
        all_read = λ away. absurd (away stage);
        asleep_bit = omega arith;
        awake = λ e. zeroth ∙ asleep;
        one_bell = λ away. absurd (away stage);
        answered = λ e. let r = ap rank (sym stage ∙ e) in absurd (omega arith);
        delivered = delivered_after words (set words i 0) v.taken w.taken views id w kept.delivered now_taken
            (λ place t told_at. now_taken t (kept.delivered id v at place t told_at));
      }

-- The rule with the view of the seat that steps as the sleeper's.
at_first : (about id : ℕ) (v : View) (s : State (Unit {0}) View) → is_teller v.stage ≡ false → Kept about s →
    get_elem? s.views id ≡ some v → (id ≡ 0) × IsKept about s.words s.views v
at_first about id v s sleeps held at =
    let is = is_first about s.words s.views held.0 held.1 id v at sleeps in
    (is.0, subst (λ (u : View). IsKept about s.words s.views u) is.1 held.1)

pub announces : (about slots id : ℕ) (me : Mine) → me.0.stage ≡ Awake → about + 2 ≤ me.0.from →
    Allows (Kept about) slots id me 0 (λ _. 1) (λ _. Announces (step slots 0 1 0 none) me 1)
announces about slots id me stage read s held _ at _ =
    let is = at_first about id me.0 s (ap is_teller stage) held at in
    let size = is.1.size in
    let w : View = announced (all_bells s.views) me.0 in (
      w,
      keeps,
      tt,
      (w, announcing_keeps about s.words s.views me.0 is.1 id is.0 at (omega arith)),
      (all_bells s.views, refl),
    )

pub checks : (about slots id : ℕ) (me : Mine) → me.0.stage ≡ Announced →
    Allows (Kept about) slots id me 1 (λ n. n) (Checks (step slots 1 0 0 none) me)
checks about slots id me stage s held _ at _ =
    let is = at_first about id me.0 s (ap is_teller stage) held at in
    let w : View = checked (get_or s.words 1 0) (all_rings s.views) me.0 in
    let after = checking_keeps about s.words s.views me.0 is.1 id is.0 at stage in (
      w,
      keeps,
      tt,
      (w, subst (λ (ws : List ℕ). IsKept about ws (set s.views id w) w) (sym (set-get_or s.words 1 0)) after),
      (is.1.rung_bit, (all_rings s.views, refl, is.1.rung_since)),
    )

pub wakes : (about slots id : ℕ) (me : Mine) → is_teller me.0.stage ≡ false →
    Allows (Kept about) slots id me 0 (λ _. 0) (λ _. Wakes (step slots 0 0 0 none) me 0)
wakes about slots id me sleeps s held _ at _ =
    let is = at_first about id me.0 s sleeps held at in
    let w : View = awake me.0 in
    (w, keeps, tt, (w, waking_keeps about s.words s.views me.0 is.1 id is.0 at), refl)

pub hears : (about slots id : ℕ) (me : Mine) → me.0.stage ≡ Awake →
    Allows (Kept about) slots id me 1 (λ _. 0) (Hears (step slots 1 0 0 none) me)
hears about slots id me stage s held _ at _ =
    let is = at_first about id me.0 s (ap is_teller stage) held at in
    let w : View = hearing (get_or s.words 1 0) (all_rings s.views) me.0 in (
      w,
      keeps,
      tt,
      (w, hearing_keeps about s.words s.views me.0 is.1 id is.0 at stage),
      (is.1.rung_bit, (all_rings s.views, refl, is.1.rung_since, is.1.seen, is.1.all_heard)),
    )

pub stays : (about slots id : ℕ) (me : Mine) → me.0.stage ≡ Awake →
    Allows (Kept about) slots id me 1 (λ _. 1) (λ _. Stays (step slots 1 1 0 none) me 1)
stays about slots id me stage s held _ at _ =
    let is = at_first about id me.0 s (ap is_teller stage) held at in
    let w : View = stayed me.0 in
    (w, keeps, tt, (w, staying_keeps about s.words s.views me.0 is.1 id is.0 at stage), refl)

pub passes : (about slots id i : ℕ) (me : Mine) → me.0.stage ≡ Awake → i ≡ me.0.from →
    Allows (Kept about) slots id me i (λ n. n) (Passes (step slots i 0 0 none) me)
passes about slots id i me stage next s held _ at _ =
    let is = at_first about id me.0 s (ap is_teller stage) held at in
    let n : ℕ = get_or s.words i 0 in
    let w : View = passing n me.0 in
    let after = subst (λ (k : ℕ).
    IsKept about s.words (set s.views id (passing (get_or s.words k 0) me.0)) (passing (get_or s.words k 0) me.0))
    (sym next) (passing_keeps about s.words s.views me.0 is.1 id is.0 at stage) in (
      w,
      keeps,
      tt,
      (w, subst (λ (ws : List ℕ). IsKept about ws (set s.views id w) w) (sym (set-get_or s.words i 0)) after),
      refl,
    )

pub takes : (about slots id i : ℕ) (me : Mine) → me.0.stage ≡ Awake → i ≡ me.0.from → 2 ≤ i → i < about + 2 →
    Allows (Kept about) slots id me i (λ _. 0) (Takes (step slots i 0 0 none) me)
takes about slots id i me stage next high within s held _ at _ =
    let is = at_first about id me.0 s (ap is_teller stage) held at in
    let size = is.1.size in
    let w : View = taking i (get_or s.words i 0) me.0 in
    let after = taking_keeps about s.words s.views me.0 is.1 id is.0 at stage (omega arith) (omega arith) in (
      w,
      keeps,
      tt,
      (
        w,
        subst (λ (k : ℕ).
            IsKept about (set s.words k 0) (set s.views id (taking k (get_or s.words k 0) me.0))
            (taking k (get_or s.words k 0) me.0)) (sym next) after,
      ),
      refl,
    )
