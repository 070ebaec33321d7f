-- Proves that each kind of step of a teller keeps the rule, and a split too.
use Rattle.std.proofs.Common.{◌≡◌, ◌≢◌, inl, inr, ⊎_elim, ℕ, ◌+◌, ◌<◌, ◌≤◌, true, false, List, [], ◌∷◌, ◌++◌, length}
use Rattle.std.proofs.Common.{set, get_or}
use Rattle.std.proofs.Common.{bit_or, max, sym, refl, ap, ◌∙◌, subst, arith, length-set, get_or-set_same}
use Rattle.std.specs.Int.{bit_at}
use mathlib.Core.Logic.{dite}
use mathlib.Core.Bool.{true≢false}
use mathlib.Core.Option.{none, some, some-ne-none}
use native.Mathlib.Decide.{ℕ_discrete}
use lib.ListN.{get_elem?}
use Rattle.std.proofs.lemmas.List.{get_or-set_other, set-get_or}
use Rattle.std.proofs.lemmas.List.Sums.{sum_by_push}
use Rattle.std.proofs.lemmas.Nat.Bits.{bit_at_or, bit_at-lt}
use Rattle.atomic_table.specs.Table.{step, keeps, Allows, Splits, Enters, Arrives}
use Rattle.atomic_table.proofs.Lists.{at_longer, at_last, set_again}
use Rattle.sysv_lists.proofs.Places.{set_else, at_set, one_there, each_snoc, at_snoc_place}
use Rattle.sysv_lists.proofs.Sums.{sum_by-set_at}
use Rattle.sysv_bells.specs.declared.view.View.{View}
use Rattle.sysv_bells.specs.declared.view.Telling.{Telling}
use Rattle.sysv_bells.specs.declared.view.Taking.{Taking}
use Rattle.sysv_bells.specs.declared.view.Stage.TheVariants.{Idle, Rung}
use Rattle.sysv_bells.specs.Rule.{is_teller, told_count, rung_count, still_to_ring, still_to_look, all_rings, all_bells}
use Rattle.sysv_bells.specs.Rule.{IsDelivered, AreDelivered, IsKept, Kept}
use Rattle.sysv_bells.specs.Rule.{start}
use Rattle.sysv_bells.specs.Steps.{Meets, Comes}
use Rattle.sysv_bells.specs.Steps.{Mine, knows, told, rang, found, Looks, Tells, Rings, Finds, MayRing, same_view}
use Rattle.sysv_bells.specs.Steps.{newcomer}

-- Facts about the sums after one view changed.
module _ (views : List View) (id : ℕ) (v w : View) (at : get_elem? views id ≡ some v) where
  pub rings_after : all_rings (set views id w) + v.rings ≡ all_rings views + w.rings
  rings_after = sum_by-set_at (λ (u : View). u.rings) views id v w at

  pub bells_after : all_bells (set views id w) + v.bells ≡ all_bells views + w.bells
  bells_after = sum_by-set_at (λ (u : View). u.bells) views id v w at

  pub to_ring_after : still_to_ring (set views id w) + told_count v.stage ≡ still_to_ring views + told_count w.stage
  to_ring_after = sum_by-set_at (λ (u : View). told_count u.stage) views id v w at

  pub to_look_after : still_to_look (set views id w) + rung_count v.stage ≡ still_to_look views + rung_count w.stage
  to_look_after = sum_by-set_at (λ (u : View). rung_count u.stage) views id v w at

-- All seats but the first are still tellers'.
pub tellers_after : (views : List View) (id : ℕ) (w : View)
    → ((k : ℕ) (v : View) → get_elem? views k ≡ some v → k ≢ 0 → is_teller v.stage ≡ true)
    → (id ≢ 0 → is_teller w.stage ≡ true)
    → (k : ℕ) (v : View) → get_elem? (set views id w) k ≡ some v → k ≢ 0 → is_teller v.stage ≡ true
tellers_after views id w all here k v there apart =
    ⊎_elim
    (λ t. subst (λ (u : View). is_teller u.stage ≡ true) t.1 (here (λ e. apart (t.0 ∙ e))))
    (λ t. all k v t.1 apart)
    (at_set views id k w v there)

-- What is told stays delivered.
pub delivered_after : (words words' : List ℕ) (taken taken' : List Taking) (views : List View) (id : ℕ) (w : View)
    → AreDelivered words taken views
    → ((t : Telling) → IsDelivered words taken t → IsDelivered words' taken' t)
    → ((place : ℕ) (t : Telling) → get_elem? w.told place ≡ some t → IsDelivered words' taken' t)
    → AreDelivered words' taken' (set views id w)
delivered_after words words' taken taken' views id w all goes here k v there place t told_at =
    ⊎_elim
    (λ s. here place t (subst (λ (u : View). get_elem? u.told place ≡ some t) (sym s.1) told_at))
    (λ s. goes t (all k v s.1 place t told_at))
    (at_set views id k w v there)

-- A change of the words that clears no told bit.
pub same_bits : (words words' : List ℕ) (taken : List Taking)
    → ((i bit : ℕ) → 2 ≤ i → bit_at (get_or words i 0) bit ≡ 1 → bit_at (get_or words' i 0) bit ≡ 1)
    → (t : Telling) → IsDelivered words taken t → IsDelivered words' taken t
same_bits words words' taken goes t is = record {
  is_told = is.is_told;
  since = is.since;
  bits = λ bit has. ⊎_elim (λ there. inl (goes t.word bit is.is_told there)) inr (is.bits bit has);
}

-- Words 0 and 1 are not told.
pub other_word : (words : List ℕ) (word n : ℕ) → word < 2 → (i : ℕ) → 2 ≤ i →
    get_or (set words word n) i 0 ≡ get_or words i 0
other_word words word n low i high = get_or-set_other words word i n 0 (λ e. omega arith)

pub untouched : (words : List ℕ) (taken : List Taking) (word n : ℕ) → word < 2 → (t : Telling) →
    IsDelivered words taken t → IsDelivered (set words word n) taken t
untouched words taken word n low =
    same_bits words (set words word n) taken
    (λ i bit high has. ap (λ m. bit_at m bit) (other_word words word n low i high) ∙ has)

module _ (about : ℕ) (words : List ℕ) (views : List View) (sleeper : View) (kept : IsKept about words views sleeper)
    (id : ℕ) (v : View) (at : get_elem? views id ≡ some v) where
  -- A seat whose stage is a teller's is not the first.
  pub not_first : is_teller v.stage ≡ true → id ≢ 0
  not_first tells e =
      let same = one_there views 0 id sleeper v e kept.first at in
      true≢false (sym tells ∙ ap (λ (u : View). is_teller u.stage) same ∙ kept.sleeps)

  -- A seat whose stage is not a teller's is the sleeper's.
  pub is_first : is_teller v.stage ≡ false → (id ≡ 0) × (sleeper ≡ v)
  is_first sleeps = dite (ℕ_discrete id 0)
      (λ e. (e, sym (one_there views 0 id sleeper v e kept.first at)))
      (λ ne. absurd (true≢false (sym (kept.tellers id v at ne) ∙ sleeps)))

  module _ (apart : id ≢ 0) where
    first_still : (w : View) → get_elem? (set views id w) 0 ≡ some sleeper
    first_still w = set_else views id 0 w (λ e. apart (sym e)) ∙ kept.first

    ringing_keeps : MayRing v.stage → IsKept about (set words 1 1) (set views id (rang v)) sleeper
    ringing_keeps may =
        let w : View = rang v in
        let size = kept.size in
        let one : get_or (set words 1 1) 1 0 ≡ 1 = get_or-set_same words 1 1 0 (omega arith) in
        let same : get_or (set words 1 1) 0 0 ≡ get_or words 0 0 =
        get_or-set_other words 1 0 1 0 (λ e. omega arith) in
        let none : rung_count v.stage ≡ 0 = ⊎_elim (λ e. ap rung_count e) (λ e. ap rung_count e) may in
        let rings = rings_after views id v w at in
        let bells = bells_after views id v w at in
        let looks = to_look_after views id v w at in
        let low = kept.rung_bit in
        let since = kept.rung_since in
        let seen = kept.seen in
        let asleep = kept.asleep_bit in
        record {
          size = length-set words 1 1 ∙ size;
          first = first_still w;
          sleeps = kept.sleeps;
          tellers = tellers_after views id w kept.tellers (λ _. refl);
          rung_bit = omega arith;
          rung_since = omega arith;
          all_heard = λ zero. absurd (omega arith);
          seen = omega arith;
          announced = λ i told read some_bit. omega arith;
          all_read = λ away. let r = kept.all_read away in omega (arith, length-set words 1 1);
          asleep_bit = omega arith;
          awake = λ e. same ∙ kept.awake e;
          one_bell = λ away. let b = kept.one_bell away in omega arith;
          answered = λ e. omega arith;
          delivered = delivered_after words (set words 1 1) sleeper.taken sleeper.taken views id w kept.delivered
              (untouched words sleeper.taken 1 1 (omega arith))
              (λ place t told_at. untouched words sleeper.taken 1 1 (omega arith) t
              (kept.delivered id v at place t told_at));
        }

    finding_keeps : v.stage ≡ Rung →
        IsKept about (set words 0 0) (set views id (found (get_or words 0 0) v)) sleeper
    finding_keeps rung =
        let n : ℕ = get_or words 0 0 in
        let w : View = found n v in
        let size = kept.size in
        let zero_now : get_or (set words 0 0) 0 0 ≡ 0 = get_or-set_same words 0 0 0 (omega arith) in
        let same : get_or (set words 0 0) 1 0 ≡ get_or words 1 0 =
        get_or-set_other words 0 1 0 0 (λ e. omega arith) in
        let none : told_count v.stage ≡ 0 = ap told_count rung in
        let rings = rings_after views id v w at in
        let bells = bells_after views id v w at in
        let tells = to_ring_after views id v w at in
        let low = kept.rung_bit in
        let since = kept.rung_since in
        let seen = kept.seen in
        record {
          size = length-set words 0 0 ∙ size;
          first = first_still w;
          sleeps = kept.sleeps;
          tellers = tellers_after views id w kept.tellers (λ _. refl);
          rung_bit = omega arith;
          rung_since = omega arith;
          all_heard = λ zero. let h = kept.all_heard (sym same ∙ zero) in omega arith;
          seen = omega arith;
          announced = λ i told read some_bit.
              let o = other_word words 0 0 (omega arith) i told in
              let a = kept.announced i told read (omega arith) in
              omega arith;
          all_read = λ away. let r = kept.all_read away in omega (arith, length-set words 0 0);
          asleep_bit = omega arith;
          awake = λ e. zero_now;
          one_bell = λ away. let b = kept.one_bell away in omega arith;
          answered = λ e. omega arith;
          delivered = delivered_after words (set words 0 0) sleeper.taken sleeper.taken views id w kept.delivered
              (untouched words sleeper.taken 0 0 (omega arith))
              (λ place t told_at. untouched words sleeper.taken 0 0 (omega arith) t
              (kept.delivered id v at place t told_at));
        }

    looking_keeps : (i : ℕ) → 2 ≤ i → is_teller v.stage ≡ true →
        IsKept about words (set views id (knows i (get_or words i 0) (length sleeper.taken) v)) sleeper
    looking_keeps i high tells =
        let n : ℕ = get_or words i 0 in
        let w : View = knows i n (length sleeper.taken) v in
        let rings = rings_after views id v w at in
        let bells = bells_after views id v w at in
        let ring = to_ring_after views id v w at in
        let looks = to_look_after views id v w at in
        let since = kept.rung_since in
        let seen = kept.seen in
        record {
          size = kept.size;
          first = first_still w;
          sleeps = kept.sleeps;
          tellers = tellers_after views id w kept.tellers (λ _. tells);
          rung_bit = kept.rung_bit;
          rung_since = omega arith;
          all_heard = λ zero. let h = kept.all_heard zero in omega arith;
          seen = omega arith;
          announced = λ j told read some_bit. let a = kept.announced j told read some_bit in omega arith;
          all_read = kept.all_read;
          asleep_bit = kept.asleep_bit;
          awake = kept.awake;
          one_bell = λ away. let b = kept.one_bell away in omega arith;
          answered = λ e. let a = kept.answered e in omega arith;
          delivered = delivered_after words words sleeper.taken sleeper.taken views id w kept.delivered (λ t is. is)
              (each_snoc (λ t. IsDelivered words sleeper.taken t) v.told
              (record { word = i; bits = n; since = length sleeper.taken }) (kept.delivered id v at)
              (record { is_told = high; since = omega arith; bits = λ bit has. inl has }));
        }

    -- A bit that is set stays set as others are set.
    stays_set : (i k : ℕ) → i < length words → (j bit : ℕ) → bit_at (get_or words j 0) bit ≡ 1 →
        bit_at (get_or (set words i (bit_or (get_or words i 0) k)) j 0) bit ≡ 1
    stays_set i k within j bit has = dite (ℕ_discrete j i)
        (λ e.
        let n : ℕ = get_or words i 0 in
        let same : get_or (set words i (bit_or n k)) j 0 ≡ bit_or n k =
        ap (λ (m : ℕ). get_or (set words i (bit_or n k)) m 0) e ∙ get_or-set_same words i (bit_or n k) 0 within in
        let had : bit_at n bit ≡ 1 = sym (ap (λ (m : ℕ). bit_at (get_or words m 0) bit) e) ∙ has in
        let most = bit_at-lt k bit in
        let most' : max (bit_at n bit) (bit_at k bit) ≡ 1 = omega arith in
        ap (λ m. bit_at m bit) same ∙ bit_at_or n k bit ∙ most')
        (λ ne. ap (λ m. bit_at m bit) (get_or-set_other words i j (bit_or (get_or words i 0) k) 0 ne) ∙ has)

    telling_keeps : (i k : ℕ) → 2 ≤ i → i < length words → v.stage ≡ Idle →
        IsKept about (set words i (bit_or (get_or words i 0) k)) (set views id (told i k (length sleeper.taken) v))
        sleeper
    telling_keeps i k high within idle =
        let n : ℕ = get_or words i 0 in
        let words' : List ℕ = set words i (bit_or n k) in
        let w : View = told i k (length sleeper.taken) v in
        let zeroth : get_or words' 0 0 ≡ get_or words 0 0 =
        get_or-set_other words i 0 (bit_or n k) 0 (λ e. omega arith) in
        let firsts : get_or words' 1 0 ≡ get_or words 1 0 =
        get_or-set_other words i 1 (bit_or n k) 0 (λ e. omega arith) in
        let here : get_or words' i 0 ≡ bit_or n k = get_or-set_same words i (bit_or n k) 0 within in
        let none : told_count v.stage ≡ 0 = ap told_count idle in
        let none' : rung_count v.stage ≡ 0 = ap rung_count idle in
        let rings = rings_after views id v w at in
        let bells = bells_after views id v w at in
        let ring = to_ring_after views id v w at in
        let looks = to_look_after views id v w at in
        let low = kept.rung_bit in
        let since = kept.rung_since in
        let seen = kept.seen in
        let asleep = kept.asleep_bit in
        let same = same_bits words words' sleeper.taken (λ j bit _ has. stays_set i k within j bit has) in
        record {
          size = length-set words i (bit_or n k) ∙ kept.size;
          first = first_still w;
          sleeps = kept.sleeps;
          tellers = tellers_after views id w kept.tellers (λ _. refl);
          rung_bit = omega arith;
          rung_since = omega arith;
          all_heard = λ zero. let h = kept.all_heard (sym firsts ∙ zero) in omega arith;
          seen = omega arith;
          announced = λ j told read some_bit. omega arith;
          all_read = λ away. let r = kept.all_read away in omega (arith, length-set words i (bit_or n k));
          asleep_bit = omega arith;
          awake = λ e. zeroth ∙ kept.awake e;
          one_bell = λ away. let b = kept.one_bell away in omega arith;
          answered = λ e. let a = kept.answered e in omega arith;
          delivered = delivered_after words words' sleeper.taken sleeper.taken views id w kept.delivered same
              (each_snoc (λ t. IsDelivered words' sleeper.taken t) v.told
              (record { word = i; bits = k; since = length sleeper.taken })
              (λ place t told_at. same t (kept.delivered id v at place t told_at))
              (record {
                is_told = high;
                since = omega arith;
                bits = λ bit has.
                    let most = bit_at-lt n bit in
                    let set_now : max (bit_at n bit) (bit_at k bit) ≡ 1 = omega arith in
                    inl (ap (λ m. bit_at m bit) here ∙ bit_at_or n k bit ∙ set_now);
              }));
        }

  -- A new teller has told nothing.
  splitting_keeps : IsKept about words (views ++ newcomer v ∷ []) sleeper
  splitting_keeps =
      let w : View = newcomer v in
      let rings : all_rings (views ++ w ∷ []) ≡ all_rings views + 0 = sum_by_push (λ (u : View). u.rings) views w in
      let bells : all_bells (views ++ w ∷ []) ≡ all_bells views + 0 = sum_by_push (λ (u : View). u.bells) views w in
      let ring : still_to_ring (views ++ w ∷ []) ≡ still_to_ring views + 0 =
      sum_by_push (λ (u : View). told_count u.stage) views w in
      let looks : still_to_look (views ++ w ∷ []) ≡ still_to_look views + 0 =
      sum_by_push (λ (u : View). rung_count u.stage) views w in
      let since = kept.rung_since in
      let seen = kept.seen in
      record {
        size = kept.size;
        first = at_longer views (w ∷ []) 0 sleeper kept.first;
        sleeps = kept.sleeps;
        tellers = λ k u there apart. ⊎_elim
            (λ t. kept.tellers k u t apart)
            (λ t. subst (λ (x : View). is_teller x.stage ≡ true) t.1 refl)
            (at_snoc_place views w u k there);
        rung_bit = kept.rung_bit;
        rung_since = omega arith;
        all_heard = λ zero. let h = kept.all_heard zero in omega arith;
        seen = omega arith;
        announced = λ j told read some_bit. let a = kept.announced j told read some_bit in omega arith;
        all_read = kept.all_read;
        asleep_bit = kept.asleep_bit;
        awake = kept.awake;
        one_bell = λ away. let b = kept.one_bell away in omega arith;
        answered = λ e. let a = kept.answered e in omega arith;
        delivered = each_snoc
            (λ (u : View).
            (place : ℕ) (t : Telling) → get_elem? u.told place ≡ some t → IsDelivered words sleeper.taken t)
            views w kept.delivered (λ place t none. absurd (some-ne-none t (sym none)));
      }

pub looks : (about slots id i : ℕ) (me : Mine) → is_teller me.0.stage ≡ true → 2 ≤ i →
    Allows (Kept about) slots id me i (λ n. n) (Looks (step slots i 0 0 none) me)
looks about slots id i me tells high s held _ at _ =
    let n : ℕ = get_or s.words i 0 in
    let since : ℕ = length held.0.taken in
    let w : View = knows i n since me.0 in
    let apart = not_first about s.words s.views held.0 held.1 id me.0 at tells in
    let after = looking_keeps about s.words s.views held.0 held.1 id me.0 at apart i high tells in (
      w,
      keeps,
      tt,
      (
        held.0,
        subst (λ (ws : List ℕ). IsKept about ws (set s.views id w) held.0) (sym (set-get_or s.words i 0)) after,
      ),
      (since, refl),
    )

pub tells : (about slots id i k : ℕ) (me : Mine) → me.0.stage ≡ Idle → 2 ≤ i → i < about + 2 →
    Allows (Kept about) slots id me i (λ n. bit_or n k) (Tells (step slots i k 0 none) me)
tells about slots id i k me idle high within s held _ at _ =
    let since : ℕ = length held.0.taken in
    let apart = not_first about s.words s.views held.0 held.1 id me.0 at (ap is_teller idle) in
    let size = held.1.size in (
      told i k since me.0,
      keeps,
      tt,
      (
        held.0,
        telling_keeps about s.words s.views held.0 held.1 id me.0 at apart i k high (omega arith) idle,
      ),
      (since, refl),
    )

pub rings : (about slots id : ℕ) (me : Mine) → MayRing me.0.stage →
    Allows (Kept about) slots id me 1 (λ _. 1) (λ _. Rings (step slots 1 1 0 none) me 1)
rings about slots id me may s held _ at _ =
    let tells = ⊎_elim (λ e. ap is_teller e) (λ e. ap is_teller e) may in
    let apart = not_first about s.words s.views held.0 held.1 id me.0 at tells in (
      rang me.0,
      keeps,
      tt,
      (held.0, ringing_keeps about s.words s.views held.0 held.1 id me.0 at apart may),
      refl,
    )

pub finds : (about slots id : ℕ) (me : Mine) → me.0.stage ≡ Rung →
    Allows (Kept about) slots id me 0 (λ _. 0) (Finds (step slots 0 0 0 none) me)
finds about slots id me rung s held _ at _ =
    let apart = not_first about s.words s.views held.0 held.1 id me.0 at (ap is_teller rung) in (
      found (get_or s.words 0 0) me.0,
      keeps,
      tt,
      (held.0, finding_keeps about s.words s.views held.0 held.1 id me.0 at apart rung),
      (held.1.asleep_bit, refl),
    )

pub splits : (about id : ℕ) (v : View) → Splits (Kept about) id v (same_view v) (newcomer v)
splits about id v s held at =
    let after = splitting_keeps about s.words s.views held.0 held.1 id v at in (
      held.0,
      subst (λ (vs : List View). IsKept about s.words (vs ++ newcomer v ∷ []) held.0) (sym (set_again s.views id v at))
          after,
    )

set_last : (views : List View) (v w : View) → set (views ++ v ∷ []) (length views) w ≡ views ++ w ∷ []
set_last [] v w = refl
set_last (x ∷ xs) v w = ap (λ (l : List View). x ∷ l) (set_last xs v w)

pub meets : (about slots i : ℕ) → 2 ≤ i →
    Enters (Kept about) slots i (λ n w. Meets (step slots i 0 0 none) (start about, []) n (w, []))
meets about slots i high s held _ _ =
    let v : View = newcomer held.0 in
    let vs : List View = s.views ++ v ∷ [] in
    let n : ℕ = get_or s.words i 0 in
    let since : ℕ = length held.0.taken in
    let w : View = knows i n since v in
    let there = at_last s.views v (length s.views) refl in
    let come = splitting_keeps about s.words s.views held.0 held.1 0 held.0 held.1.first in
    let apart = not_first about s.words vs held.0 come (length s.views) v there refl in
    let after = looking_keeps about s.words vs held.0 come (length s.views) v there apart i high refl in (
      w,
      (held.0, subst (λ (us : List View). IsKept about s.words us held.0) (set_last s.views v w) after),
      (since, refl),
    )

pub comes : (about slots : ℕ) →
    Arrives (Kept about) slots 1 (λ _. 1) (Comes (step slots 1 1 0 none) (start about, []))
comes about slots s held _ _ =
    let v : View = newcomer held.0 in
    let vs : List View = s.views ++ v ∷ [] in
    let w : View = rang v in
    let there = at_last s.views v (length s.views) refl in
    let come = splitting_keeps about s.words s.views held.0 held.1 0 held.0 held.1.first in
    let apart = not_first about s.words vs held.0 come (length s.views) v there refl in
    let after = ringing_keeps about s.words vs held.0 come (length s.views) v there apart (inl refl) in (
      w,
      keeps,
      tt,
      (held.0, subst (λ (us : List View). IsKept about (set s.words 1 1) us held.0) (set_last s.views v w) after),
      refl,
    )
