-- Proves that a step of a gate is a step at a place of a table with several places.
use Rattle.std.proofs.Common.{◌≡◌, ◌≢◌, inr, ⊎_elim, ℕ, zero, suc, ◌+◌, ◌*◌, ◌<◌, ◌≤◌, List, [], ◌∷◌, ◌++◌, map}
use Rattle.std.proofs.Common.{length, set, get_or, sym, refl, ap, ◌∙◌, subst, arith, length-set, get_or-set_same}
use Rattle.std.proofs.Common.{get_or-set_other}
use mathlib.Core.Logic.{dite}
use native.Mathlib.Decide.{ℕ_discrete}
use mathlib.Core.Option.{none, some}
use mathlib.Core.Option as maybe
use lib.ListN.{get_elem?}
use Rattle.std.proofs.lemmas.List.{append-nil, map-set}
use Rattle.atomic_table.specs.Table.{State, step, Valid, stepped, homes_after, carried_after, Allows}
use Rattle.atomic_table.proofs.Lists.{at_map, at_set, set_again}
use Rattle.sysv_gate.specs.declared.table.view.View.{View}
use Rattle.sysv_gate.specs.declared.table.view.Turn.{Turn}
use Rattle.sysv_gate.specs.declared.table.view.Placed.{Placed}
use Rattle.sysv_gate.specs.declared.table.view.Sight.{Sight}
use Rattle.sysv_lists.specs.Prefix.{IsPrefixOf}
use Rattle.sysv_lists.proofs.Prefixes.{prefix_longer}
use Rattle.sysv_lists.proofs.Places.{at_below, set_at, there}
use Rattle.sysv_gate.specs.History.{after_all, IsLegal}
use Rattle.sysv_gate.specs.Counts.{of_count}
use Rattle.sysv_gate.specs.Rule.{Spot, GatedBy}
use Rattle.sysv_gate.specs.Steps.{Mine, At, spent}
use Rattle.sysv_gate.specs.Orders.{turns_at, placed, AreBelow}
use Rattle.sysv_gate.specs.Tables.{block, view_at, state_at, ReadsInOrder, IsFull, InOrder, Passing, me_at, Carries}
use Rattle.sysv_gate.specs.Plays.{StepsAt, AtAPlace}
use Rattle.sysv_gate.proofs.Blocks.{block_read, block_set, block_else}
use Rattle.sysv_gate.proofs.OrderByPlace.{turns_append, turns_here, turns_else, below_more, below_placed}
use Rattle.sysv_gate.proofs.TableShares.{still_whole}
use Rattle.sysv_gate.proofs.OneSlotStep.{Touch, leaves, takes, gives, act_at, AllowsTo}

-- The element at an index within the list.
pub read_there : {A : Type 0} (xs : List A) (i : ℕ) (d a : A) → i < length xs → get_or xs i d ≡ a →
    get_elem? xs i ≡ some a
read_there [] i d a less is = absurd (omega arith)
read_there (x ∷ xs) zero d a less is = ap some is
read_there (x ∷ xs) (suc i) d a less is = read_there xs i d a (omega arith) is

module _ {S : Type 0} (place : ℕ) where
  abbrev There : List (ℕ × S) → List (ℕ × S)
  There c = map (λ (x : ℕ × S). (place, x.1)) c

  abbrev Here : List (ℕ × S) → List (ℕ × S)
  Here c = map (λ (x : ℕ × S). (0, x.1)) c

  touch_valid : (a : Touch S) (homes : List (maybe.Option S)) (c : List (ℕ × S)) → place < length homes →
      Valid (get_or homes place none ∷ []) (Here c) (act_at 0 a) → Valid homes c (act_at place a)
  touch_valid leaves homes c less ok = tt
  touch_valid (takes y) homes c less ok = read_there homes place none (some y) less (maybe.some-injective _ _ ok)
  touch_valid gives homes c less ok = tt

  touch_homes : (a : Touch S) (homes : List (maybe.Option S)) (c : List (ℕ × S)) → place < length homes → c ≡ There c →
      get_or (homes_after homes c (act_at place a)) place none ∷ []
      ≡ homes_after (get_or homes place none ∷ []) (Here c) (act_at 0 a)
  touch_homes leaves homes c less all = refl
  touch_homes (takes y) homes c less all = ap (λ h. h ∷ []) (get_or-set_same homes place none none less)
  touch_homes gives homes [] less all = refl
  touch_homes gives homes (x ∷ xs) less all =
      let first : x ≡ (place, x.1) = cc in
      ap (λ h. h ∷ [])
      (ap (λ (k : ℕ). get_or (set homes k (some x.1)) place none) (ap (λ (y : ℕ × S). y.0) first)
      ∙ get_or-set_same homes place (some x.1) none less)

  touch_else : (a : Touch S) (homes : List (maybe.Option S)) (c : List (ℕ × S)) (other : ℕ) → other ≢ place →
      c ≡ There c → get_or (homes_after homes c (act_at place a)) other none ≡ get_or homes other none
  touch_else leaves homes c other apart all = refl
  touch_else (takes y) homes c other apart all = get_or-set_other homes place other none none apart
  touch_else gives homes [] other apart all = refl
  touch_else gives homes (x ∷ xs) other apart all =
      let first : x ≡ (place, x.1) = cc in
      ap (λ (k : ℕ). get_or (set homes k (some x.1)) other none) (ap (λ (y : ℕ × S). y.0) first)
      ∙ get_or-set_other homes place other (some x.1) none apart

  touch_length : (a : Touch S) (homes : List (maybe.Option S)) (c : List (ℕ × S)) →
      length (homes_after homes c (act_at place a)) ≡ length homes
  touch_length leaves homes c = refl
  touch_length (takes y) homes c = length-set homes place none
  touch_length gives homes [] = refl
  touch_length gives homes (x ∷ xs) = length-set homes x.0 (some x.1)

  touch_carried : (a : Touch S) (c : List (ℕ × S)) →
      Here (carried_after c (act_at place a)) ≡ carried_after (Here c) (act_at 0 a)
  touch_carried leaves c = refl
  touch_carried (takes y) c = refl
  touch_carried gives [] = refl
  touch_carried gives (x ∷ xs) = refl

  touch_all : (a : Touch S) (c : List (ℕ × S)) → c ≡ There c →
      carried_after c (act_at place a) ≡ There (carried_after c (act_at place a))
  touch_all leaves c all = all
  touch_all (takes y) c all = ap (λ l. (place, y) ∷ l) all
  touch_all gives [] all = refl
  touch_all gives (x ∷ xs) all = cc

module _ {O C R : Type 0} (moves : O → C → R → O → Type 0) (counted : O → ℕ × ℕ) (openings : List O) (first : ℕ) where
  abbrev Log : Type 0
  Log = List (Turn O C R)

  abbrev St : Type 0
  St = State (Spot O C R) (Sight O C R)

  abbrev By : O → Log → State (Spot O C R) (View O C R) → Type 0
  By o log = GatedBy moves counted o first log

  -- A step that adds no turn.
  pub adds_none : (o : O) (id : ℕ) (me : Mine O C R) (i : ℕ) (f : ℕ → ℕ) (then : ℕ → Mine O C R → Type 0) →
      ((log : Log) → AllowsTo (By o log) (By o log) 1 id me i f then) → (log : Log) →
      AllowsTo (By o log) (By o (log ++ [])) 1 id me i f then
  adds_none o id me i f then each log =
      subst (λ (l : Log). AllowsTo (By o log) (By o l) 1 id me i f then) (sym (append-nil log)) (each log)

  -- After any step at a place the whole order is seen, so what the pass has read is bounded by it.
  lift : (place : ℕ) (o : O) (added : Log) (slots id : ℕ) (m : Passing O C R) (i : ℕ) (f : ℕ → ℕ)
      (then : ℕ → Mine O C R → Type 0)
      → get_elem? openings place ≡ some o → i < 80 → place < length m.0.views → Carries place m
      → ((log : Log) → AllowsTo (By o log) (By o (log ++ added)) 1 id (me_at place m) i f then)
      → Allows (InOrder moves counted openings first) slots id m (80 * place + i) f
      (λ n m'. StepsAt place added (then n) m m' × ReadsInOrder moves counted m'.0)
  lift place o added slots id m i f then opens inside known all each s held one at low =
      let order : List (Placed O C R) = held.0 in
      let kept = held.1 in
      let log : Log = turns_at place order in
      let here = kept.each place o opens in
      let few : place < length openings = at_below openings place o opens in
      let many : length s.homes ≡ length openings = kept.homes in
      let read : get_or (block place s.words) i 0 ≡ get_or s.words (80 * place + i) 0 =
      block_read place i 0 s.words inside in
      let went = each log (state_at place s) here refl (at_map (view_at place) s.views id m.0 at)
      (subst (λ (n : ℕ). n < 18446744073709551616) (sym read) low) in
      let w : View O C R = went.0 in
      let a : Touch (Spot O C R) = went.1 in
      let next : List (Placed O C R) = order ++ placed place added in
      let sight : Sight O C R =
      record { views = set m.0.views place w; seen = next; also = m.0.also; shares = m.0.shares } in
      let n : ℕ = f (get_or s.words (80 * place + i) 0) in
      let s' : St = stepped s (80 * place + i) n id m.1 sight (act_at place a) in
      let sees : view_at place sight ≡ w = get_or-set_same m.0.views place w spent known in
      let turns : turns_at place next ≡ log ++ added =
      turns_append place order (placed place added) ∙ ap (λ (l : Log). log ++ l) (turns_here place added) in
      let step_there : state_at place s'
      ≡ stepped (state_at place s) i (f (get_or (block place s.words) i 0)) id (me_at place m).1 w (act_at 0 a) =
      (λ j. record {
        words = (block_set place i n s.words inside ∙ ap (λ (k : ℕ). set (block place s.words) i (f k)) (sym read)) j;
        homes = touch_homes place a s.homes m.1 (omega arith) all j;
        views = (map-set (view_at place) s.views id sight ∙ ap (set (map (view_at place) s.views) id) sees) j;
      }) in
      let now : By o (turns_at place next) (state_at place s') =
      subst (λ (l : Log). By o l (state_at place s')) (sym turns)
      (subst (By o (log ++ added)) (sym step_there) went.3) in
      let mine : get_elem? (map (view_at place) (set s.views id sight)) id ≡ some (view_at place sight) =
      at_map (view_at place) (set s.views id sight) id sight (set_at s.views id m.0 sight at) in
      let longer : IsPrefixOf m.0.seen order = (kept.seen id m.0 at).0 in
      let wide : length m.0.views ≡ length openings = ⊎_elim (λ t.
      let none : length m.0.views ≡ 0 = ap length t in absurd (omega arith)) (λ t. t) (kept.full id m.0 at).views in
      let long : length sight.views ≡ length openings = length-set m.0.views place w ∙ wide in
      let below : AreBelow (length openings) next = below_more (length openings) order (placed place added) kept.below
      (below_placed (length openings) place added few) in
      let each : (other : ℕ) (p : O) → get_elem? openings other ≡ some p →
      By p (turns_at other next) (state_at other s') = (λ other p opens'.
      dite (ℕ_discrete other place)
      (λ e.
      let at_place : get_elem? openings place ≡ some p = subst (λ (k : ℕ). get_elem? openings k ≡ some p) e opens' in
      let same : o ≡ p = maybe.some-injective o p (sym opens ∙ at_place) in
      subst (λ (k : ℕ). By p (turns_at k next) (state_at k s')) (sym e)
      (subst (λ (q : O). By q (turns_at place next) (state_at place s')) same now))
      (λ ne.
      let old = kept.each other p opens' in
      let unchanged : view_at other sight ≡ view_at other m.0 = get_or-set_other m.0.views place other w spent ne in
      let still : state_at other s ≡ state_at other s' =
      (λ j. record {
        words = sym (block_else place other i n s.words inside ne) j;
        homes = sym (touch_else place a s.homes m.1 other ne all) j ∷ [];
        views = sym (map-set (view_at other) s.views id sight ∙ ap (set (map (view_at other) s.views) id) unchanged
            ∙ set_again (map (view_at other) s.views) id (view_at other m.0) (at_map (view_at other) s.views id m.0 at))
            j;
      }) in
      let none_new : turns_at other order ≡ turns_at other next = sym (turns_append other order (placed place added)
      ∙ ap (λ (l : Log). turns_at other order ++ l) (turns_else place other ne added)
      ∙ append-nil (turns_at other order)) in
      subst (λ (l : Log). By p l (state_at other s')) none_new (subst (By p (turns_at other order)) still old))) in (
        sight,
        act_at place a,
        touch_valid place a s.homes m.1 (omega arith) went.2,
        (
          next,
          record {
            words = length-set s.words (80 * place + i) n ∙ kept.words;
            homes = touch_length place a s.homes m.1 ∙ kept.homes;
            below = below;
            each = each;
            seen = λ k v there'.
                ⊎_elim
                (λ t. subst (λ (x : Sight O C R). IsPrefixOf x.seen next × IsPrefixOf x.also next) t.1 (
                  ([], sym (append-nil next)),
                  prefix_longer m.0.also order (placed place added) (kept.seen id m.0 at).1,
                ))
                (λ t.
                let old = kept.seen k v t.1 in (
                  prefix_longer v.seen order (placed place added) old.0,
                  prefix_longer v.also order (placed place added) old.1,
                )) (at_set s.views id k sight v there');
            full = λ k v there'.
                ⊎_elim
                (λ t.
                subst (IsFull openings) t.1 (record {
                  views = inr long;
                  shareless = λ none.
                      ap (λ (vs : List (View O C R)). set vs place w) ((kept.full id m.0 at).shareless none);
                }))
                (λ t. kept.full k v t.1) (at_set s.views id k sight v there');
            shared = still_whole s.views id m.0 sight at refl kept.shared;
          },
        ),
        (
          record {
            order = order;
            longer = longer;
            seen = refl;
            also = refl;
            shares = refl;
            views = ap (set m.0.views place) (sym sees);
            within = (now.3.each id (view_at place sight) mine).seen;
            turn = λ turn.
                ((here.3.each id (view_at place m.0) (at_map (view_at place) s.views id m.0 at)).turn turn).1;
            owns = record {
              below = subst (λ (c : ℕ). AreBelow c next) (sym long) below;
              own = λ other p less.
                  let there' = there openings other (omega arith) in
                  let seen' : get_elem? (map (view_at other) (set s.views id sight)) id ≡ some (view_at other sight) =
                  at_map (view_at other) (set s.views id sight) id sight (set_at s.views id m.0 sight at) in
                  ((each other there'.0 there'.1).3.each id (view_at other sight) seen').own p;
            };
            carries = touch_all place a m.1 all;
            there = subst (λ (k : ℕ). then k (me_at place (sight, carried_after m.1 (act_at place a)))) read
                (subst (λ (x : Mine O C R). then (get_or (block place s.words) i 0) x)
                (λ j. (sym sees j, sym (touch_carried place a m.1) j)) went.4);
          },
          record {
            legal = λ other p less knows.
                let there' = there openings other (omega arith) in
                let seen' : get_elem? (map (view_at other) (set s.views id sight)) id ≡ some (view_at other sight) =
                at_map (view_at other) (set s.views id sight) id sight (set_at s.views id m.0 sight at) in
                let by = each other there'.0 there'.1 in
                let same : p ≡ there'.0 = ((by.3.each id (view_at other sight) seen').start p knows).0 in
                subst (λ (q : O). IsLegal moves q (turns_at other next)) (sym same) by.3.legal;
            reads = λ other p less knows count.
                let there' = there openings other (omega arith) in
                let seen' : get_elem? (map (view_at other) (set s.views id sight)) id ≡ some (view_at other sight) =
                at_map (view_at other) (set s.views id sight) id sight (set_at s.views id m.0 sight at) in
                let by = each other there'.0 there'.1 in
                let told = by.4 count in
                let read = told.read id (view_at other sight) seen' in
                let few = told.few in
                let same : p ≡ there'.0 = ((by.3.each id (view_at other sight) seen').start p knows).0 in
                subst (λ (q : O).
                of_count count (view_at other sight).read
                ≤ of_count count (counted (after_all q (turns_at other next))) + 1) (sym same) (omega arith);
          },
        ),
      )

  -- The place is the one whose word it is.
  pub at_its_place : (added : Mine O C R → Log) (play : At O C R → Mine O C R → ℕ → Mine O C R → Type 0) (st : At O C R)
      (m : Passing O C R) (n : ℕ) (m' : Passing O C R) (place i : ℕ) → st.word ≡ 80 * place + i → i < 80
      → StepsAt place (added (me_at place m)) (play (step 1 i st.first st.second none) (me_at place m) n) m m'
      → AtAPlace added play st m n m'
  at_its_place added play st m n m' place i is less told place' i' is' less' =
      let same : place ≡ place' = omega arith in
      let word : i ≡ i' = omega arith in
      subst (λ (p : ℕ). StepsAt p (added (me_at p m)) (play (step 1 i' st.first st.second none) (me_at p m) n) m m')
      same
      (subst (λ (w : ℕ).
      StepsAt place (added (me_at place m)) (play (step 1 w st.first st.second none) (me_at place m) n) m m') word told)

  -- A step on a word whose number is known by an equation.
  pub lifted_told : (place : ℕ) (o : O) (added : Mine O C R → Log)
      (play : At O C R → Mine O C R → ℕ → Mine O C R → Type 0) (slots id : ℕ) (m : Passing O C R) (i word a b : ℕ)
      (f : ℕ → ℕ)
      → word ≡ 80 * place + i → get_elem? openings place ≡ some o → i < 80 → place < length m.0.views → Carries place m
      → ((log : Log)
      → AllowsTo (By o log) (By o (log ++ added (me_at place m))) 1 id (me_at place m) i f
      (play (step 1 i a b none) (me_at place m)))
      → Allows (InOrder moves counted openings first) slots id m word f
      (λ n m'. AtAPlace added play (step slots word a b none) m n m' × ReadsInOrder moves counted m'.0)
  lifted_told place o added play slots id m i word a b f is opens inside known all each =
      subst (λ (k : ℕ).
      Allows (InOrder moves counted openings first) slots id m k f
      (λ n m'. AtAPlace added play (step slots k a b none) m n m' × ReadsInOrder moves counted m'.0)) (sym is)
      (λ s held one at low.
      let went = lift place o (added (me_at place m)) slots id m i f (play (step 1 i a b none) (me_at place m)) opens
      inside known all each s held one at low in (
        went.0,
        went.1,
        went.2,
        went.3,
        (at_its_place added play (step slots (80 * place + i) a b none) m _ _ place i refl inside went.4.0, went.4.1),
      ))

  -- The same, without what the pass learns of its reads.
  pub lifted : (place : ℕ) (o : O) (added : Mine O C R → Log) (play : At O C R → Mine O C R → ℕ → Mine O C R → Type 0)
      (slots id : ℕ) (m : Passing O C R) (i word a b : ℕ) (f : ℕ → ℕ)
      → word ≡ 80 * place + i → get_elem? openings place ≡ some o → i < 80 → place < length m.0.views → Carries place m
      → ((log : Log)
      → AllowsTo (By o log) (By o (log ++ added (me_at place m))) 1 id (me_at place m) i f
      (play (step 1 i a b none) (me_at place m)))
      → Allows (InOrder moves counted openings first) slots id m word f
      (AtAPlace added play (step slots word a b none) m)
  lifted place o added play slots id m i word a b f is opens inside known all each s held one at low =
      let went = lifted_told place o added play slots id m i word a b f is opens inside known all each s held one at low
      in (went.0, went.1, went.2, went.3, went.4.0)

  -- The same for a step that adds no turn.
  pub lifted_none : (place : ℕ) (o : O) (play : At O C R → Mine O C R → ℕ → Mine O C R → Type 0) (slots id : ℕ)
      (m : Passing O C R) (i word a b : ℕ) (f : ℕ → ℕ)
      → word ≡ 80 * place + i → get_elem? openings place ≡ some o → i < 80 → place < length m.0.views → Carries place m
      → ((log : Log)
      → AllowsTo (By o log) (By o log) 1 id (me_at place m) i f (play (step 1 i a b none) (me_at place m)))
      → Allows (InOrder moves counted openings first) slots id m word f
      (AtAPlace (λ x. []) play (step slots word a b none) m)
  lifted_none place o play slots id m i word a b f is opens inside known all each =
      lifted place o (λ x. []) play slots id m i word a b f is opens inside known all
      (adds_none o id (me_at place m) i f (play (step 1 i a b none) (me_at place m)) each)
