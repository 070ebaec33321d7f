-- Proves that splits and joins of seats keep the rule of a gate.
use Rattle.std.proofs.Common.{◌≡◌, ◌≢◌, ℕ, ◌+◌, ◌^◌, ◌≤◌, ◌||◌, Bool, true, false, List, [], ◌∷◌, ◌++◌, ⊎_elim, length}
use Rattle.std.proofs.Common.{set, get_or, refl, sym, ap, ◌∙◌, subst, arith, length-set, length-append, Some, None}
use mathlib.Core.Bool.{true≢false}
use mathlib.Core.Logic.{dite}
use native.Mathlib.Decide.{ℕ_discrete}
use mathlib.Core.Option.{some}
use lib.ListN.{get_elem?}
use Rattle.std.proofs.lemmas.List.Sums.{sum_by_push}
use Rattle.atomic_table.specs.Table.{State, Splits, Joins}
use Rattle.atomic_table.proofs.Lists.{at_set, at_longer, at_snoc, set_else}
use Rattle.sysv_gate.specs.declared.table.view.View.{View}
use Rattle.sysv_gate.specs.declared.table.view.Turn.{Turn}
use Rattle.sysv_lists.specs.Numbers.{times}
use Rattle.sysv_gate.specs.History.{IsLegal, after_all, made_at}
use Rattle.sysv_gate.specs.Counts.{word_of, of_count}
use Rattle.sysv_gate.specs.Rule.{Homes, Spot, bearers, Fits, IsKept, AreAnnounced, GatedBy}
use Rattle.sysv_gate.specs.Steps.{Mine, parted, newcomer, named, both_of, spent, merged, Gathers}
use Rattle.sysv_lists.proofs.Places.{at_snoc_place, set_at, at_below, each_set, each_before}
use Rattle.sysv_lists.proofs.Sums.{sum_by-set_at}
use Rattle.sysv_lists.proofs.Counting.{times-one, times-append, times-one-le}
use Rattle.sysv_gate.proofs.MarksAndCounts.{another}
use Rattle.sysv_lists.proofs.Prefixes.{prefix_self}
use Rattle.sysv_gate.proofs.Histories.{made_at-nobody, made_at-front, made_at-append}
use Rattle.sysv_gate.proofs.OneViewKeepsRule.{own_turns, stays, still_alone, not_alone}
use Rattle.sysv_gate.proofs.CountsStayAnnounced.{none_yet, larger_up_to, counts_on, counts_more}
use Rattle.sysv_gate.proofs.StepKeepsRule.{told_on}

module _ {O C R : Type 0} (moves : O → C → R → O → Type 0) (counted : O → ℕ × ℕ) (opening : O) (first : ℕ) where
  abbrev V : Type 0
  V = View O C R

  abbrev Log : Type 0
  Log = List (Turn O C R)

  abbrev St : Type 0
  St = State (Spot O C R) V

  abbrev M : Type 0
  M = Mine O C R

  abbrev Holds : Log → St → Type 0
  Holds log = GatedBy moves counted opening first log

  abbrev Told : Log → List ℕ → List V → Type 0
  Told log words views = AreAnnounced counted (after_all opening log) words views

  -- A number that no seat has becomes that of the seat.
  naming_keeps : (log : Log) (drawn id : ℕ) (homes : Homes O C R) (views : List V) (v : V) (o : O)
      → IsKept moves opening first log drawn homes views → get_elem? views id ≡ some v → v.opening ≡ Some o
      → v.numbers ≡ [] → v.in_turn ≡ false
      → IsKept moves opening first log drawn homes (set views id (named id v))
  naming_keeps log drawn id homes views v o kept at knows empty idle =
      let w : V = named id v in
      let fits = kept.each id v at in
      let nobody : bearers id views ≡ 0 = kept.nameless id v at o knows empty in
      let more : (x : ℕ) → bearers x (set views id w) ≡ bearers x views + times x (id ∷ []) = λ x.
      let sums = sum_by-set_at (λ (u : V). times x u.numbers) views id v w at in
      let bare : times x v.numbers ≡ 0 = ap (times x) empty in
      omega arith in
      let apart_from : (x : ℕ) → id ≢ x → times x (id ∷ []) ≡ 0 = λ x ne. another id x (times-one x id) ne in
      let below = at_below views id v at in
      record {
        legal = kept.legal;
        tickets = λ x.
            let before = kept.tickets x in
            let sums = sum_by-set_at (λ (u : V). times x u.tickets) views id v w at in
            omega arith;
        order = kept.order;
        limit = kept.limit;
        apart = λ x.
            let now = more x in
            let before = kept.apart x in
            dite (ℕ_discrete id x) (λ e.
            let free : bearers x views ≡ 0 = subst (λ (n : ℕ). bearers n views ≡ 0) e nobody in
            omega (arith, times-one x id, times-one-le x id))
            (λ ne. let other = apart_from x ne in omega arith);
        unused = λ x le.
            let long : length (set views id w) ≡ length views = length-set views id w in
            let now = more x in
            let before = kept.unused x (omega arith) in
            let other = apart_from x (λ e. omega arith) in
            omega arith;
        nameless = λ i u there p is bare.
            ⊎_elim
            (λ t. let clash : id ∷ [] ≡ [] = ap (λ (a : V). a.numbers) t.1 ∙ bare in absurd (cc))
            (λ t.
            let ne = t.0 in
            let now = more i in
            let before = kept.nameless i u t.1 p is bare in
            let other = apart_from i (λ e. ne (sym e)) in
            omega arith) (at_set views id i w u there);
        known = λ x free p. let now = more x in let before : bearers x views ≡ 0 = omega arith in kept.known x before p;
        each = each_set (Fits opening first log drawn) (Fits opening first log drawn) views id w kept.each
            (λ k u _ _ fit. fit)
            (record {
              start = fits.start;
              seen = fits.seen;
              also = fits.also;
              turn = λ turn. absurd (true≢false (sym turn ∙ idle));
              own = λ p.
                  fits.own p ∙ ap (λ (l : List ℕ). made_at l log p) empty ∙ made_at-nobody log p
                  ∙ sym (kept.known id nobody p);
              worn = fits.worn;
            });
        home = λ turns. kept.home (each_before (λ (u : V). u.in_turn ≡ false) views id v w at turns idle);
        alone = still_alone moves opening first log views id w kept.alone (kept.alone id v at);
      }

  pub names_here : (log : Log) (id : ℕ) (v : V) (o : O) (s : St) → Holds log s → get_elem? s.views id ≡ some v
      → v.opening ≡ Some o → v.numbers ≡ [] → v.in_turn ≡ false
      → Holds log record { words = s.words; homes = s.homes; views = set s.views id (named id v) }
      × ((p : ℕ) → made_at (id ∷ []) v.seen p ≡ 0)
  names_here log id v o s held at knows empty idle =
      let kept = held.3 in
      let fits = kept.each id v at in (
        (
          held.0,
          held.1,
          held.2,
          naming_keeps log (get_or s.words 32 0) id s.homes s.views v o kept at knows empty idle,
          told_on moves counted opening first s log id v (named id v) held.4 at refl (λ _. idle) refl,
        ),
        made_at-front (id ∷ []) v.seen fits.seen.0 (λ p.
            subst (λ (l : Log). made_at (id ∷ []) l p ≡ 0) fits.seen.1
            (kept.known id (kept.nameless id v at o knows empty) p)),
      )

  -- A new seat is added that has seen what another seat has.
  acquire_keeps : (log : Log) (drawn id : ℕ) (homes : Homes O C R) (views : List V) (v : V)
      → IsKept moves opening first log drawn homes views → get_elem? views id ≡ some v
      → ((k : ℕ) (u : V) → get_elem? views k ≡ some u → u.alone ≡ false)
      → IsKept moves opening first log drawn homes (views ++ newcomer v ∷ [])
  acquire_keeps log drawn id homes views v kept at beside =
      let w : V = newcomer v in
      let fits = kept.each id v at in
      let same : (x : ℕ) → bearers x (views ++ w ∷ []) ≡ bearers x views = λ x.
      let sums = sum_by_push (λ (u : V). times x u.numbers) views w in omega arith in
      record {
        legal = kept.legal;
        tickets = λ x.
            let before = kept.tickets x in let sums = sum_by_push (λ (u : V). times x u.tickets) views w in omega arith;
        order = kept.order;
        limit = kept.limit;
        apart = λ x. let before = kept.apart x in let now = same x in omega arith;
        unused = λ x le.
            let long : length (views ++ w ∷ []) ≡ length views + 1 = length-append views (w ∷ []) in
            same x ∙ kept.unused x (omega arith);
        nameless = λ i u there o is bare.
            same i
            ∙ ⊎_elim (λ t. kept.nameless i u t o is bare) (λ t. kept.unused i (let e = t.0 in omega arith))
            (at_snoc_place views w u i there);
        known = λ x free p. kept.known x (sym (same x) ∙ free) p;
        each = λ k u there.
            ⊎_elim (λ t. kept.each k u t)
            (λ t.
            subst (Fits opening first log drawn) t
            (record {
              start = fits.start;
              seen = fits.seen;
              also = (log, refl);
              turn = λ turn. absurd (true≢false (sym turn));
              own = λ p. sym (made_at-nobody log p);
              worn = fits.worn;
            })) (at_snoc views w u k there);
        home = λ turns. kept.home (λ k u there. turns k u (at_longer views (w ∷ []) k u there));
        alone = λ k u there mark.
            absurd (⊎_elim (λ t. true≢false (sym mark ∙ beside k u t))
            (λ t. true≢false (sym mark ∙ ap (λ (x : V). x.alone) (sym t))) (at_snoc views w u k there));
      }

  -- A seat is no longer alone.
  parting_keeps : (log : Log) (drawn id : ℕ) (homes : Homes O C R) (views : List V) (v : V) →
      IsKept moves opening first log drawn homes views → get_elem? views id ≡ some v →
      IsKept moves opening first log drawn homes (set views id (parted v))
  parting_keeps log drawn id homes views v kept at =
      let fits = kept.each id v at in
      stays moves opening first log drawn drawn id homes homes views v (parted v) kept at (omega arith) kept.limit refl
      refl (λ x. refl) (λ idle. (idle, refl))
      (record {
        start = fits.start;
        seen = fits.seen;
        also = fits.also;
        turn = fits.turn;
        own = fits.own;
        worn = fits.worn;
      }) (λ mark. absurd (true≢false (sym mark)))

  none_alone : (log : Log) (views : List V) (id : ℕ) (v : V)
      → ((k : ℕ) (u : V) → get_elem? views k ≡ some u → u.alone ≡ true → (length views ≡ 1) × (u.seen ≡ log))
      → get_elem? views id ≡ some v
      → (k : ℕ) (u : V) → get_elem? (set views id (parted v)) k ≡ some u → u.alone ≡ false
  none_alone log views id v before at k u there =
      ⊎_elim (λ t. ap (λ (x : V). x.alone) (sym t.1))
      (λ t. not_alone moves opening first log views id k v u before at t.0 t.1) (at_set views id k (parted v) u there)

  pub splits : (log : Log) (id : ℕ) (v : V) → Splits (Holds log) id v (parted v) (newcomer v)
  splits log id v s held at =
      let drawn : ℕ = get_or s.words 32 0 in
      let p : V = parted v in
      let here = set_at s.views id v p at in
      let kept = parting_keeps log drawn id s.homes s.views v held.3 at in
      let told = told_on moves counted opening first s log id v p held.4 at refl (λ idle. idle) refl in (
        held.0,
        held.1,
        held.2,
        acquire_keeps log drawn id s.homes (set s.views id p) p kept here (none_alone log s.views id v held.3.alone at),
        counts_more counted (after_all opening log) s.words id (set s.views id p) p (newcomer v) told here none_yet
            refl,
      )

  -- One seat is joined into another.
  joining_keeps : (log : Log) (drawn id other : ℕ) (homes : Homes O C R) (views : List V) (v w : V)
      → IsKept moves opening first log drawn homes views → get_elem? views id ≡ some v → other ≢ id
      → get_elem? (set views id (both_of v w)) other ≡ some w → 1 ≤ times v.number v.numbers → v.in_turn ≡ false
      → w.tickets ≡ [] → w.in_turn ≡ false
      → IsKept moves opening first log drawn homes (set (set views id (both_of v w)) other spent)
  joining_keeps log drawn id other homes views v w kept at apart still named idle empty idle' =
      let b : V = both_of v w in
      let middle : List V = set views id b in
      let there : get_elem? views other ≡ some w = sym (set_else views id other b apart) ∙ still in
      let fits = kept.each id v at in
      let fits' = kept.each other w there in
      let same : (x : ℕ) → bearers x (set middle other spent) ≡ bearers x views = λ x.
      let sums = sum_by-set_at (λ (u : V). times x u.numbers) views id v b at in
      let sums' = sum_by-set_at (λ (u : V). times x u.numbers) middle other w spent still in
      omega (arith, times-append x v.numbers w.numbers) in
      let both_fits : Fits opening first log drawn b = record {
        start = fits.start;
        seen = fits.seen;
        also = fits'.seen;
        turn = λ turn. absurd (true≢false (sym turn ∙ idle));
        own = λ p.
            let mine = fits.own p in
            let theirs = fits'.own p in
            omega (arith, times-append p v.own w.own, made_at-append v.numbers w.numbers log p);
        worn = either_worn v.worn w.worn drawn fits.worn fits'.worn;
      } in
      record {
        legal = kept.legal;
        tickets = λ x.
            let before = kept.tickets x in
            let bare : times x w.tickets ≡ 0 = ap (times x) empty in
            let sums = sum_by-set_at (λ (u : V). times x u.tickets) views id v b at in
            let sums' = sum_by-set_at (λ (u : V). times x u.tickets) middle other w spent still in
            omega arith;
        order = kept.order;
        limit = kept.limit;
        apart = λ x. let before = kept.apart x in let now = same x in omega arith;
        unused = λ x le.
            same x
            ∙ kept.unused x (subst (λ (n : ℕ). n ≤ x) (length-set middle other spent ∙ length-set views id b) le);
        nameless = λ i u here o is bare.
            same i
            ∙ ⊎_elim (λ t. let clash : None ≡ Some o = ap (λ (a : V). a.opening) t.1 ∙ is in absurd (cc))
            (λ t.
            ⊎_elim
            (λ r.
            let none_left : times v.number (v.numbers ++ w.numbers) ≡ 0 =
            ap (times v.number) (ap (λ (a : V). a.numbers) r.1 ∙ bare) in
            absurd (omega (arith, times-append v.number v.numbers w.numbers)))
            (λ r. kept.nameless i u r.1 o is bare) (at_set views id i b u t.1)) (at_set middle other i spent u here);
        known = λ x free p. kept.known x (sym (same x) ∙ free) p;
        each = each_set (Fits opening first log drawn) (Fits opening first log drawn) middle other spent
            (each_set (Fits opening first log drawn) (Fits opening first log drawn) views id b kept.each
            (λ k u _ _ fit. fit) both_fits) (λ k u _ _ fit. fit)
            (record {
              start = λ o is. absurd (cc);
              seen = (log, refl);
              also = (log, refl);
              turn = λ turn. absurd (true≢false (sym turn));
              own = λ p. sym (made_at-nobody log p);
              worn = λ mark. absurd (true≢false (sym mark));
            });
        home = λ turns.
            kept.home (each_before (λ (u : V). u.in_turn ≡ false) views id v b at
            (each_before (λ (u : V). u.in_turn ≡ false) middle other w spent still turns idle') idle);
        alone = still_alone moves opening first log middle other spent
            (still_alone moves opening first log views id b kept.alone (λ mark. absurd (true≢false (sym mark))))
            (λ mark. absurd (true≢false (sym mark)));
      }
    where
      either_worn : (a b : Bool) (d : ℕ) → (a ≡ true → 2 ^ 62 ≤ d) → (b ≡ true → 2 ^ 62 ≤ d) → (a || b) ≡ true →
          2 ^ 62 ≤ d
      either_worn true b d one two mark = one refl
      either_worn false b d one two mark = two mark

  pub joins : (log : Log) (id other : ℕ) (v w : V) → 1 ≤ times v.number v.numbers → v.in_turn ≡ false → w.tickets ≡ [] →
      w.in_turn ≡ false → Joins (Holds log) id v other w (both_of v w) spent
  joins log id other v w named idle empty idle' s held at apart still =
      let b : V = both_of v w in
      let there : get_elem? s.views other ≡ some w = sym (set_else s.views id other b apart) ∙ still in
      let told : Told log s.words (set (set s.views id b) other spent) = λ count.
      let known : ℕ = of_count count (counted (after_all opening log)) in
      let value : ℕ = get_or s.words (word_of count) 0 in
      let before = held.4 count in
      let quiet = before.quiet id v at idle in
      let quiet' = before.quiet other w there idle' in
      let read = before.read id v at in
      let read' = before.read other w there in
      let none = none_yet count in
      counts_on count known known value value other (set s.views id b) w spent
      (counts_on count known known value value id s.views v b before at (omega arith) (omega arith) (λ _. quiet)
      (larger_up_to count v.read w.read value read read') before.few)
      still (omega arith) (omega arith) (λ _. none) (omega arith) before.few in (
        held.0,
        held.1,
        held.2,
        joining_keeps log (get_or s.words 32 0) id other s.homes s.views v w held.3 at apart still named idle empty
            idle',
        told,
      )

  pub merges_here : (log : Log) (id : ℕ) (v : V) (s : St) → Holds log s → get_elem? s.views id ≡ some v
      → v.in_turn ≡ false
      → Holds log record { words = s.words; homes = s.homes; views = set s.views id (merged log v) }
      × ((c : List (ℕ × Spot O C R)) (o : O) → v.opening ≡ Some o → Gathers moves o (v, c) (merged log v, c))
  merges_here log id v s held at idle =
      let kept = held.3 in
      let fits = kept.each id v at in
      let drawn : ℕ = get_or s.words 32 0 in
      let w : V = merged log v in (
        (
          held.0,
          held.1,
          held.2,
          stays moves opening first log drawn drawn id s.homes s.homes s.views v w kept at (omega arith) kept.limit refl
              refl (λ x. refl) (λ _. (idle, refl))
              (record {
                start = fits.start;
                seen = prefix_self log;
                also = (log, refl);
                turn = λ turn. absurd (true≢false (sym turn ∙ idle));
                own = fits.own;
                worn = fits.worn;
              }) (λ mark. ((kept.alone id v at mark).0, refl)),
          told_on moves counted opening first s log id v w held.4 at refl (λ _. idle) refl,
        ),
        λ c o is.
            let same : opening ≡ o = sym (fits.start o is).0 in
            record {
              log = log;
              one = fits.seen;
              two = fits.also;
              is = refl;
              legal = subst (λ (p : O). IsLegal moves p log) same kept.legal;
              own = own_turns moves opening first log drawn id s.homes s.views v kept at;
            },
      )

module _ {O C R : Type 0} where
  pub still_named : (v w : View O C R) (m : Mine O C R) (slots : List (ℕ × Spot O C R)) (log : List (Turn O C R)) →
      m ≡ (merged log (both_of v w), slots) → 1 ≤ times v.number v.numbers → 1 ≤ times m.0.number m.0.numbers
  still_named v w m slots log is named =
      let more : 1 ≤ times v.number (v.numbers ++ w.numbers) =
      omega (arith, times-append v.number v.numbers w.numbers) in
      subst (λ (x : Mine O C R). 1 ≤ times x.0.number x.0.numbers) (sym is) more
