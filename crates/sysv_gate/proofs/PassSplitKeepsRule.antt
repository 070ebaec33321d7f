-- Proves that splits and joins of passes keep the rule of a table.
use Rattle.std.proofs.Common.{◌≡◌, inl, inr, ⊎_elim, ℕ, zero, suc, ◌+◌, ◌<◌, ◌≤◌, false, List, [], ◌∷◌, ◌++◌, map}
use Rattle.std.proofs.Common.{length, set, get_or, sym, refl, ap, ◌∙◌, subst, arith}
use Rattle.std.specs.Prelude.{Some}
use mathlib.Core.Option.{none, some}
use mathlib.Core.Option as maybe
use lib.ListN.{get_elem?}
use Rattle.std.proofs.lemmas.List.{map-set, map-append, length-map, set-get_or, get_or-map}
use Rattle.atomic_table.specs.Table.{State, step, keeps, Allows, Splits, Joins}
use Rattle.atomic_table.proofs.Lists.{at_map, at_set, at_snoc}
use Rattle.sysv_gate.specs.declared.table.view.View.{View}
use Rattle.sysv_gate.specs.declared.table.view.Turn.{Turn}
use Rattle.sysv_gate.specs.declared.table.view.Placed.{Placed}
use Rattle.sysv_gate.specs.declared.table.view.Sight.{Sight}
use Rattle.sysv_lists.specs.Numbers.{times}
use Rattle.sysv_lists.specs.Prefix.{IsPrefixOf}
use Rattle.sysv_lists.proofs.Prefixes.{prefix_self}
use Rattle.sysv_lists.proofs.Places.{at_below, there, set_else}
use Rattle.sysv_gate.specs.History.{made_at}
use Rattle.sysv_gate.specs.Rule.{Spot, GatedBy}
use Rattle.sysv_gate.specs.Steps as gate
use Rattle.sysv_gate.specs.Steps.{parted, named, merged, Gathers}
use Rattle.sysv_gate.specs.Orders.{turns_at, AreBelow}
use Rattle.sysv_gate.specs.Tables.{block, view_at, state_at, IsFull, AreTheWhole, Kept, InOrder, Passing, me_at}
use Rattle.sysv_gate.specs.Plays.{at_each, halved, newcomer, both_views, both_of, spent, merged_from, Names, Merges}
use Rattle.sysv_gate.specs.Locks.{IsNewcomer}
use Rattle.sysv_gate.proofs.Histories.{made_at-front}
use Rattle.sysv_gate.proofs.OrderByPlace.{turns_longer}
use Rattle.sysv_gate.proofs.TableShares.{half_none, front_none, still_whole, split_whole, joined_whole}
use Rattle.sysv_gate.proofs.SeatSplitKeepsRule.{splits, joins, names_here, merges_here}

module _ {O C R : Type 0} where
  view_each : (change : View O C R → View O C R) (sight : Sight O C R) (place : ℕ) → place < length sight.views →
      view_at place (at_each change sight) ≡ change (view_at place sight)
  view_each change sight place less = get_or-map change sight.views place gate.spent gate.spent less

  pub both_there : (vs ws : List (View O C R)) (place : ℕ) → place < length vs → length ws ≡ length vs →
      get_or (both_views vs ws) place gate.spent
      ≡ gate.both_of (get_or vs place gate.spent) (get_or ws place gate.spent)
  both_there [] ws place less same = absurd (omega arith)
  both_there (v ∷ vs) [] place less same = absurd (omega arith)
  both_there (v ∷ vs) (w ∷ ws) zero less same = refl
  both_there (v ∷ vs) (w ∷ ws) (suc place) less same = both_there vs ws place (omega arith) (omega arith)

  pub both_length : (vs ws : List (View O C R)) → length ws ≡ length vs → length (both_views vs ws) ≡ length vs
  both_length [] ws same = refl
  both_length (v ∷ vs) [] same = absurd (omega arith)
  both_length (v ∷ vs) (w ∷ ws) same = ap suc (both_length vs ws (omega arith))

  pub merged_there : (order : List (Placed O C R)) (vs : List (View O C R)) (from place : ℕ) → place < length vs →
      get_or (merged_from from order vs) place gate.spent
      ≡ merged (turns_at (from + place) order) (get_or vs place gate.spent)
  merged_there order [] from place less = absurd (omega arith)
  merged_there order (v ∷ vs) from zero less =
      let same : from ≡ from + 0 = omega arith in ap (λ (k : ℕ). merged (turns_at k order) v) same
  merged_there order (v ∷ vs) from (suc place) less =
      let same : suc from + place ≡ from + suc place = omega arith in
      merged_there order vs (suc from) place (omega arith)
      ∙ ap (λ (k : ℕ). merged (turns_at k order) (get_or vs place gate.spent)) same

  pub merged_length : (order : List (Placed O C R)) (vs : List (View O C R)) (from : ℕ) →
      length (merged_from from order vs) ≡ length vs
  merged_length order [] from = refl
  merged_length order (v ∷ vs) from = ap suc (merged_length order vs (suc from))

module _ {O C R : Type 0} (moves : O → C → R → O → Type 0) (counted : O → ℕ × ℕ) (openings : List O) (first : ℕ) where
  abbrev St : Type 0
  St = State (Spot O C R) (Sight O C R)

  abbrev Holds : St → Type 0
  Holds = InOrder {C = C} {R = R} moves counted openings first

  abbrev Full : Sight O C R → Type 0
  Full v = IsFull openings v

  -- The rule holds if the words, the slots and the order stay, and the views of each place change
  -- to these.
  changed : (order : List (Placed O C R)) (s : St) (views : List (Sight O C R)) (there : ℕ → List (View O C R))
      → Kept moves counted openings first order s
      → ((place : ℕ) (o : O) → get_elem? openings place ≡ some o → map (view_at place) views ≡ there place)
      → ((place : ℕ) (o : O) → get_elem? openings place ≡ some o → GatedBy moves counted o first (turns_at place order)
      record { words = block place s.words; homes = (state_at place s).homes; views = there place })
      → ((id : ℕ) (v : Sight O C R) → get_elem? views id ≡ some v → IsPrefixOf v.seen order × IsPrefixOf v.also order)
      → ((id : ℕ) (v : Sight O C R) → get_elem? views id ≡ some v → Full v)
      → AreTheWhole views
      → Kept moves counted openings first order record { words = s.words; homes = s.homes; views = views }
  changed order s views there kept same each seen full shared = record {
    words = kept.words;
    homes = kept.homes;
    below = kept.below;
    each = λ place o opens.
        subst (λ (vs : List (View O C R)). GatedBy moves counted o first (turns_at place order)
        record { words = block place s.words; homes = (state_at place s).homes; views = vs })
        (sym (same place o opens)) (each place o opens);
    seen = seen;
    full = full;
    shared = shared;
  }

  pub splits_all : (id : ℕ) (v : Sight O C R) → length v.views ≡ length openings →
      Splits Holds id v (halved v) (newcomer v)
  splits_all id v long s held at =
      let order : List (Placed O C R) = held.0 in
      let kept = held.1 in
      let old = kept.seen id v at in
      let left : Sight O C R = halved v in
      let right : Sight O C R = newcomer v in (
        order,
        changed order s (set s.views id left ++ right ∷ []) (λ place.
            set (map (view_at place) s.views) id (parted (view_at place v)) ++ gate.newcomer (view_at place v) ∷ [])
            kept
            (λ place o opens.
            let less : place < length v.views = (let few = at_below openings place o opens in omega arith) in
            map-append (view_at place) (set s.views id left) (right ∷ [])
            ∙ (λ i.
            (map-set (view_at place) s.views id left
            ∙ ap (set (map (view_at place) s.views) id) (get_or-map parted v.views place gate.spent gate.spent less)) i
            ++ get_or-map gate.newcomer v.views place gate.spent gate.spent less i ∷ []))
            (λ place o opens.
            splits moves counted o first (turns_at place order) id (view_at place v) (state_at place s)
            (kept.each place o opens) (at_map (view_at place) s.views id v at))
            (λ k u there.
            ⊎_elim
            (λ t.
            ⊎_elim (λ r. subst (λ (x : Sight O C R). IsPrefixOf x.seen order × IsPrefixOf x.also order) r.1 old)
            (λ r. kept.seen k u r.1) (at_set s.views id k left u t))
            (λ t.
            subst (λ (x : Sight O C R). IsPrefixOf x.seen order × IsPrefixOf x.also order) t (old.0, (order, refl)))
            (at_snoc (set s.views id left) right u k there))
            (λ k u there.
            ⊎_elim
            (λ t.
            ⊎_elim (λ r.
            subst Full r.1 (record {
              views = inr (length-map v.views parted ∙ long);
              shareless = λ none. ap (map parted) ((kept.full id v at).shareless (half_none v.shares none));
            })) (λ r. kept.full k u r.1) (at_set s.views id k left u t))
            (λ t.
            subst Full t (record {
              views = inr (length-map v.views gate.newcomer ∙ long);
              shareless = λ none. ap (map gate.newcomer) ((kept.full id v at).shareless (half_none v.shares none));
            })) (at_snoc (set s.views id left) right u k there))
            (split_whole s.views id v left right at refl refl kept.shared),
      )

  pub names_all : (slots id : ℕ) (m : Passing O C R) → length m.0.views ≡ length openings
      → ((place : ℕ) (o : O) → get_elem? openings place ≡ some o
      → ((view_at place m.0).opening ≡ Some o) × ((view_at place m.0).numbers ≡ [])
      × ((view_at place m.0).in_turn ≡ false))
      → Allows Holds slots id m 16 (λ n. n) (Names (step slots 16 0 0 none) m)
  names_all slots id m long bare s held one at low =
      let order : List (Placed O C R) = held.0 in
      let kept = held.1 in
      let v : Sight O C R = m.0 in
      let now : Sight O C R = at_each (named id) v in
      let still : set s.words 16 (get_or s.words 16 0) ≡ s.words = set-get_or s.words 16 0 in
      let here = (λ (place : ℕ) (o : O) (opens : get_elem? openings place ≡ some o).
      let b = bare place o opens in
      names_here moves counted o first (turns_at place order) id (view_at place v) o (state_at place s)
      (kept.each place o opens) (at_map (view_at place) s.views id v at) b.0 b.1 b.2) in (
        now,
        keeps,
        tt,
        subst (λ (ws : List ℕ). Holds record { words = ws; homes = s.homes; views = set s.views id now }) (sym still) (
          order,
          changed order s (set s.views id now)
              (λ place. set (map (view_at place) s.views) id (named id (view_at place v))) kept
              (λ place o opens.
              let less : place < length v.views = (let few = at_below openings place o opens in omega arith) in
              map-set (view_at place) s.views id now
              ∙ ap (set (map (view_at place) s.views) id) (view_each (named id) v place less))
              (λ place o opens. (here place o opens).0)
              (λ k u there.
              ⊎_elim (λ r.
              subst (λ (x : Sight O C R). IsPrefixOf x.seen order × IsPrefixOf x.also order) r.1 (kept.seen id v at))
              (λ r. kept.seen k u r.1) (at_set s.views id k now u there))
              (λ k u there.
              ⊎_elim (λ r.
              subst Full r.1 (record {
                views = inr (length-map v.views (named id) ∙ long);
                shareless = λ none. ap (map (named id)) ((kept.full id v at).shareless none);
              })) (λ r. kept.full k u r.1) (at_set s.views id k now u there))
              (still_whole s.views id v now at refl kept.shared),
        ),
        (
          id,
          refl,
          λ place k less. let o = there openings place (omega arith) in (here place o.0 o.1).1 k,
          λ place k less.
              let o = there openings place (omega arith) in
              let b = bare place o.0 o.1 in
              let old = (kept.each place o.0 o.1).3 in
              let mine : get_elem? (map (view_at place) s.views) id ≡ some (view_at place v) =
              at_map (view_at place) s.views id v at in
              let longer = turns_longer place v.seen order (kept.seen id v at).0 in
              made_at-front (id ∷ []) (turns_at place v.seen) longer.0
              (λ p.
              subst (λ (l : List (Turn O C R)). made_at (id ∷ []) l p ≡ 0) longer.1
              (old.known id (old.nameless id (view_at place v) mine o.0 b.0 b.1) p)) k,
        ),
      )

  pub joins_all : (id other : ℕ) (v w : Sight O C R) → length v.views ≡ length openings
      → length w.views ≡ length openings
      → ((place : ℕ) (o : O) → get_elem? openings place ≡ some o
      → (1 ≤ times (view_at place v).number (view_at place v).numbers) × ((view_at place v).in_turn ≡ false)
      × ((view_at place w).tickets ≡ []) × ((view_at place w).in_turn ≡ false))
      → Joins Holds id v other w (both_of v w) spent
  joins_all id other v w long long' rest s held at apart there =
      let order : List (Placed O C R) = held.0 in
      let kept = held.1 in
      let both : Sight O C R = both_of v w in
      let middle : List (Sight O C R) = set s.views id both in
      let other_there : get_elem? s.views other ≡ some w = sym (set_else s.views id other both apart) ∙ there in
      let sees : (place : ℕ) (o : O) → get_elem? openings place ≡ some o →
      map (view_at place) middle
      ≡ set (map (view_at place) s.views) id (gate.both_of (view_at place v) (view_at place w)) = (λ place o opens.
      let less : place < length v.views = (let few = at_below openings place o opens in omega arith) in
      map-set (view_at place) s.views id both
      ∙ ap (set (map (view_at place) s.views) id) (both_there v.views w.views place less (omega arith))) in (
        order,
        changed order s (set middle other spent) (λ place.
            set (set (map (view_at place) s.views) id (gate.both_of (view_at place v) (view_at place w))) other
            gate.spent) kept
            (λ place o opens.
            map-set (view_at place) middle other spent
            ∙ ap (λ (l : List (View O C R)). set l other gate.spent) (sees place o opens))
            (λ place o opens.
            let r = rest place o opens in
            joins moves counted o first (turns_at place order) id other (view_at place v) (view_at place w) r.0 r.1 r.2
            r.3 (state_at place s) (kept.each place o opens) (at_map (view_at place) s.views id v at) apart
            (sym (ap (λ (l : List (View O C R)). get_elem? l other) (sees place o opens))
            ∙ at_map (view_at place) middle other w there))
            (λ k u here.
            ⊎_elim (λ t. subst (λ (x : Sight O C R). IsPrefixOf x.seen order × IsPrefixOf x.also order) t.1
            ((order, refl), (order, refl)))
            (λ t.
            ⊎_elim (λ r. subst (λ (x : Sight O C R). IsPrefixOf x.seen order × IsPrefixOf x.also order) r.1
            ((kept.seen id v at).0, (kept.seen other w other_there).0))
            (λ r. kept.seen k u r.1) (at_set s.views id k both u t.1))
            (at_set middle other k spent u here))
            (λ k u here.
            ⊎_elim (λ t. subst Full t.1 (record { views = inl refl; shareless = λ _. refl }))
            (λ t.
            ⊎_elim (λ r.
            subst Full r.1 (record {
              views = inr (both_length v.views w.views (long' ∙ sym long) ∙ long);
              shareless = λ none.
                  ap (λ (vs : List (View O C R)). both_views vs w.views)
                  ((kept.full id v at).shareless (front_none v.shares w.shares none));
            })) (λ r. kept.full k u r.1) (at_set s.views id k both u t.1))
            (at_set middle other k spent u here))
            (joined_whole s.views id other v w both spent apart at there refl refl kept.shared),
      )

  pub merges_all : (slots id : ℕ) (m : Passing O C R) → length m.0.views ≡ length openings
      → ((place : ℕ) (o : O) → get_elem? openings place ≡ some o → (view_at place m.0).in_turn ≡ false)
      → Allows Holds slots id m 16 (λ n. n) (λ n m'. Merges moves m m')
  merges_all slots id m long idle s held one at low =
      let order : List (Placed O C R) = held.0 in
      let kept = held.1 in
      let v : Sight O C R = m.0 in
      let old = kept.seen id v at in
      let now : Sight O C R = record v { views = merged_from 0 order v.views; seen = order; also = [] } in
      let still : set s.words 16 (get_or s.words 16 0) ≡ s.words = set-get_or s.words 16 0 in
      let here = (λ (place : ℕ) (o : O) (opens : get_elem? openings place ≡ some o).
      merges_here moves counted o first (turns_at place order) id (view_at place v) (state_at place s)
      (kept.each place o opens) (at_map (view_at place) s.views id v at) (idle place o opens)) in (
        now,
        keeps,
        tt,
        subst (λ (ws : List ℕ). Holds record { words = ws; homes = s.homes; views = set s.views id now }) (sym still) (
          order,
          changed order s (set s.views id now)
              (λ place. set (map (view_at place) s.views) id (merged (turns_at place order) (view_at place v))) kept
              (λ place o opens.
              let less : place < length v.views = (let few = at_below openings place o opens in omega arith) in
              map-set (view_at place) s.views id now
              ∙ ap (set (map (view_at place) s.views) id)
              (merged_there order v.views 0 place less
              ∙ (let same : 0 + place ≡ place = omega arith in
              ap (λ (k : ℕ). merged (turns_at k order) (view_at place v)) same)))
              (λ place o opens. (here place o opens).0)
              (λ k u there.
              ⊎_elim (λ r. subst (λ (x : Sight O C R). IsPrefixOf x.seen order × IsPrefixOf x.also order) r.1
              (prefix_self order, (order, refl))) (λ r. kept.seen k u r.1) (at_set s.views id k now u there))
              (λ k u there.
              ⊎_elim (λ r.
              subst Full r.1 (record {
                views = inr (merged_length order v.views 0 ∙ long);
                shareless = λ none. ap (merged_from 0 order) ((kept.full id v at).shareless none);
              })) (λ r. kept.full k u r.1) (at_set s.views id k now u there))
              (still_whole s.views id v now at refl kept.shared),
        ),
        record {
          order = order;
          one = old.0;
          two = old.1;
          is = refl;
          there = λ place less o is.
              let p = there openings place (omega arith) in (here place p.0 p.1).1 (me_at place m).1 o is;
          owns = record {
            below = subst (λ (c : ℕ). AreBelow c order) (sym (merged_length order v.views 0 ∙ long)) kept.below;
            own = λ place p less.
                let many = merged_length order v.views 0 in
                let o = there openings place (omega arith) in
                let mine : get_elem? (map (view_at place) s.views) id ≡ some (view_at place v) =
                at_map (view_at place) s.views id v at in
                let zero_more : 0 + place ≡ place = omega arith in
                let view : view_at place now ≡ merged (turns_at place order) (view_at place v) = merged_there order
                v.views 0 place (omega arith) ∙ ap (λ (k : ℕ). merged (turns_at k order) (view_at place v)) zero_more in
                subst (λ (x : View O C R). times p x.own ≡ made_at x.numbers (turns_at place order) p) (sym view)
                (((kept.each place o.0 o.1).3.each id (view_at place v) mine).own p);
          };
        },
      )

module _ {O C R : Type 0} where
  -- A pass that was split off has no number yet, and knows what its origin knows.
  pub newcomer_at : (sight : Sight O C R) (m : Passing O C R) (o : O) (place : ℕ) → m ≡ (newcomer sight, [])
      → place < length sight.views → (view_at place sight).opening ≡ Some o
      → ((view_at place m.0).opening ≡ Some o) × ((view_at place m.0).numbers ≡ [])
      × ((view_at place m.0).in_turn ≡ false)
  newcomer_at sight m o place is less knows =
      let view : view_at place m.0 ≡ gate.newcomer (view_at place sight) = ap (λ (n : Passing O C R). view_at place n.0)
      is ∙ get_or-map gate.newcomer sight.views place gate.spent gate.spent less in (
        ap (λ (v : View O C R). v.opening) view ∙ knows,
        ap (λ (v : View O C R). v.numbers) view,
        ap (λ (v : View O C R). v.in_turn) view,
      )

  -- The pass that was split off, after it has received its number.
  pub newcomer_named : (sight : Sight O C R) (m m' : Passing O C R) → m ≡ (newcomer sight, []) →
      Names (step 0 16 0 0 maybe.none) m 0 m' → IsNewcomer sight m'
  newcomer_named sight m m' is told = (
    told.0,
    told.1 ∙ ap (λ (n : Passing O C R). (at_each (named told.0) n.0, n.1)) is,
    λ place k less.
        let seen : (view_at place m.0).seen ≡ (view_at place sight).seen =
        ap (λ (n : Passing O C R). (view_at place n.0).seen) is
        ∙ ap (λ (v : View O C R). v.seen) (get_or-map gate.newcomer sight.views place gate.spent gate.spent less) in
        let many : length m.0.views ≡ length sight.views =
        ap (λ (n : Passing O C R). length n.0.views) is ∙ length-map sight.views gate.newcomer in
        ap (λ (l : List (Turn O C R)). made_at (told.0 ∷ []) l k) (sym seen) ∙ told.2 place k (omega arith),
    λ place k less.
        let seen : m.0.seen ≡ sight.seen = ap (λ (n : Passing O C R). n.0.seen) is in
        let many : length m.0.views ≡ length sight.views =
        ap (λ (n : Passing O C R). length n.0.views) is ∙ length-map sight.views gate.newcomer in
        ap (λ (l : List (Placed O C R)). made_at (told.0 ∷ []) (turns_at place l) k) (sym seen)
        ∙ told.3 place k (omega arith),
  )

  -- After a join, the view of a place has no turn.
  pub both_idle : (one two : Sight O C R) (m : Passing O C R) {c : List (ℕ × Spot O C R)} (place : ℕ) →
      m ≡ (both_of one two, c) → place < length one.views → length two.views ≡ length one.views →
      (view_at place one).in_turn ≡ false → (view_at place m.0).in_turn ≡ false
  both_idle one two m place is less same idle =
      ap (λ (n : Passing O C R). (view_at place n.0).in_turn) is
      ∙ ap (λ (v : View O C R). v.in_turn) (both_there one.views two.views place less same) ∙ idle
