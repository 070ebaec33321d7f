-- Proves that each kind of step keeps the rule of a `ManyBuffer`.
use Rattle.std.proofs.Common.{◌≡◌, ℕ, ◌+◌, ◌%◌, ◌^◌, ◌<◌, ◌≤◌, eqb, cond, Bool, true, false, List, [], ◌∷◌, ◌++◌, inl}
use Rattle.std.proofs.Common.{inr, ⊎_elim, length, set, get_or, refl, sym, ap, ◌∙◌, subst, arith, length-set}
use Rattle.std.proofs.Common.{length-append, get_or-set_same, get_or-set_other, Option, Some, None}
use mathlib.Core.Bool.{true≢false}
use mathlib.Core.Logic.{dite}
use native.Mathlib.Decide.{ℕ_discrete, dec_le}
use mathlib.Core.Option.{none, some}
use lib.ListN.{get_elem?}
use prog.Atomic.{either}
use Rattle.std.proofs.Math.Nat.{mod-eq_of_lt}
use Rattle.std.proofs.lemmas.List.{append-nil}
use Rattle.atomic_table.specs.Table.{State, step, keeps, takes, gives, Act, Valid, stepped, carried_after, Allows}
use Rattle.atomic_table.proofs.Lists.{set_again, exchanged}
use Rattle.sysv_buffer.specs.declared.view.View.{View}
use Rattle.sysv_buffer.specs.declared.many_view.Sight.{Sight}
use Rattle.sysv_buffer.specs.Ring.{Homes, Runs}
use Rattle.sysv_buffer.specs.Steps.{holding}
use Rattle.sysv_lists.specs.Numbers.{times}
use Rattle.sysv_buffer.specs.ManyRing.{put_at, taken_at, filling, emptying, Seated, Crowded}
use Rattle.sysv_buffer.specs.ManySteps.{Own, DrawsPut, DrawsTake, CountsPut, CountsTaken, ReachesRoom, ReachesItem}
use Rattle.sysv_buffer.specs.ManySteps.{Places, Removes}
use Rattle.sysv_lists.proofs.Orders.{at_most}
use Rattle.sysv_buffer.proofs.CellsOutAndBack.{reached, put_in, grabbed, emptied}
use Rattle.sysv_lists.proofs.Places.{one_there}
use Rattle.sysv_lists.proofs.Counting.{times-append, times-one-le, the-one, has, only, none_of}
use Rattle.sysv_lists.proofs.Sums.{at-le-sum_by, some_part}
use Rattle.sysv_buffer.proofs.ManySeats.{no_news, stays, other_put, other_taken, drawn_put, drawn_taken}
use Rattle.sysv_lists.specs.Prefix.{IsPrefixOf}
use Rattle.sysv_lists.proofs.Prefixes.{prefix_self, prefix_snoc, prefix_whole}

true_of : (b : Bool) → 1 ≤ cond b 1 0 → b ≡ true
true_of true h = refl
true_of false h = absurd (omega arith)

not_true : (b : Bool) → ¬ (b ≡ true) → b ≡ false
not_true true h = absurd (h refl)
not_true false h = refl

module _ {T : Type 0} where
  -- What a step must keep at one state.
  abbrev Goes : State (Option T) (Sight T) → ℕ → ℕ → Own T → (ℕ → Own T → Type 0) → ℕ → Type 0
  Goes s i id me then m = (w : Sight T) × (a : Act (Option T)) × Valid s.homes me.1 a
      × Crowded (stepped s i m id me.1 w a) × then (get_or s.words i 0) (w, carried_after me.1 a)

  -- Steps on the four words.
  on_in : (s : State (Option T) (Sight T)) (g : Crowded s) (m : ℕ) (put : List T) (homes : Homes T) (p c : View T)
      (views : List (Sight T)) → m ≡ length put → Runs (length s.homes) put g.taken homes p c
      → Seated put g.taken p c (get_or s.words 32 0) (get_or s.words 48 0) views
      → Crowded record { words = set s.words 0 m; homes = homes; views = views }
  on_in s g m put homes p c views is r seats = record {
    put = put;
    taken = g.taken;
    p = p;
    c = c;
    wide = length-set s.words 0 m ∙ g.wide;
    in_word = get_or-set_same s.words 0 m 0 (omega (arith, g.wide)) ∙ is;
    out_word = get_or-set_other s.words 0 16 m 0 (λ e. omega arith) ∙ g.out_word;
    runs = subst (λ n. Runs n put g.taken homes p c) (sym r.size) r;
    seats = subst (λ n. Seated put g.taken p c n (get_or (set s.words 0 m) 48 0) views)
        (sym (get_or-set_other s.words 0 32 m 0 (λ e. omega arith)))
        (subst (λ n. Seated put g.taken p c (get_or s.words 32 0) n views)
        (sym (get_or-set_other s.words 0 48 m 0 (λ e. omega arith))) seats);
  }

  on_out : (s : State (Option T) (Sight T)) (g : Crowded s) (m : ℕ) (taken : ℕ) (homes : Homes T) (p c : View T)
      (views : List (Sight T)) → m ≡ taken → Runs (length s.homes) g.put taken homes p c
      → Seated g.put taken p c (get_or s.words 32 0) (get_or s.words 48 0) views
      → Crowded record { words = set s.words 16 m; homes = homes; views = views }
  on_out s g m taken homes p c views is r seats = record {
    put = g.put;
    taken = taken;
    p = p;
    c = c;
    wide = length-set s.words 16 m ∙ g.wide;
    in_word = get_or-set_other s.words 16 0 m 0 (λ e. omega arith) ∙ g.in_word;
    out_word = get_or-set_same s.words 16 m 0 (omega (arith, g.wide)) ∙ is;
    runs = subst (λ n. Runs n g.put taken homes p c) (sym r.size) r;
    seats = subst (λ n. Seated g.put taken p c n (get_or (set s.words 16 m) 48 0) views)
        (sym (get_or-set_other s.words 16 32 m 0 (λ e. omega arith)))
        (subst (λ n. Seated g.put taken p c (get_or s.words 32 0) n views)
        (sym (get_or-set_other s.words 16 48 m 0 (λ e. omega arith))) seats);
  }

  on_put : (s : State (Option T) (Sight T)) (g : Crowded s) (m : ℕ) (views : List (Sight T)) →
      Seated g.put g.taken g.p g.c m (get_or s.words 48 0) views →
      Crowded record { words = set s.words 32 m; homes = s.homes; views = views }
  on_put s g m views seats = record {
    put = g.put;
    taken = g.taken;
    p = g.p;
    c = g.c;
    wide = length-set s.words 32 m ∙ g.wide;
    in_word = get_or-set_other s.words 32 0 m 0 (λ e. omega arith) ∙ g.in_word;
    out_word = get_or-set_other s.words 32 16 m 0 (λ e. omega arith) ∙ g.out_word;
    runs = g.runs;
    seats = subst (λ n. Seated g.put g.taken g.p g.c n (get_or (set s.words 32 m) 48 0) views)
        (sym (get_or-set_same s.words 32 m 0 (omega (arith, g.wide))))
        (subst (λ n. Seated g.put g.taken g.p g.c m n views)
        (sym (get_or-set_other s.words 32 48 m 0 (λ e. omega arith))) seats);
  }

  on_take : (s : State (Option T) (Sight T)) (g : Crowded s) (m : ℕ) (views : List (Sight T)) →
      Seated g.put g.taken g.p g.c (get_or s.words 32 0) m views →
      Crowded record { words = set s.words 48 m; homes = s.homes; views = views }
  on_take s g m views seats = record {
    put = g.put;
    taken = g.taken;
    p = g.p;
    c = g.c;
    wide = length-set s.words 48 m ∙ g.wide;
    in_word = get_or-set_other s.words 48 0 m 0 (λ e. omega arith) ∙ g.in_word;
    out_word = get_or-set_other s.words 48 16 m 0 (λ e. omega arith) ∙ g.out_word;
    runs = g.runs;
    seats = subst (λ n. Seated g.put g.taken g.p g.c (get_or (set s.words 48 m) 32 0) n views)
        (sym (get_or-set_same s.words 48 m 0 (omega (arith, g.wide))))
        (subst (λ n. Seated g.put g.taken g.p g.c n m views)
        (sym (get_or-set_other s.words 48 32 m 0 (λ e. omega arith))) seats);
  }

  -- The seats after a step that leaves the seat's knowledge unchanged.
  same_seats : (put : List T) (taken : ℕ) (p c : View T) (np nt id : ℕ) (views : List (Sight T)) (v : Sight T) →
      get_elem? views id ≡ some v → Seated put taken p c np nt views → Seated put taken p c np nt (set views id v)
  same_seats put taken p c np nt id views v at seats =
      subst (λ vs. Seated put taken p c np nt vs) (sym (set_again views id v at)) seats

  pub draws_put : (slots id : ℕ) (me : Own T) (ticket next : ℕ) → next ≡ ticket + 1 → ticket < 2 ^ 62
      → me.0.put_ticket ≡ [] → me.0.fills ≡ false
      → Allows Crowded slots id me 32 (λ n. either (eqb n ticket) next n) (DrawsPut (step slots 32 ticket next none) me)
  draws_put slots id me ticket next up low bare idle s g size at small =
      let n : ℕ = get_or s.words 32 0 in
      let nt : ℕ = get_or s.words 48 0 in
      let v : Sight T = me.0 in
      let w : Sight T = record v { put_ticket = ticket ∷ [] } in
      let then = DrawsPut (step slots 32 ticket next none) me in
      let know = g.seats.each id v at in
      let order = g.seats.put_order in
      exchanged n ticket next (Goes s 32 id me then)
      (λ hit. (
        w,
        keeps,
        tt,
        on_put s g next (set s.views id w)
            (stays g.put g.taken g.p g.c g.put g.taken g.p g.c n nt next nt id s.views v w g.seats (record {
              at = at;
              others = λ k u _ _ fit. fit;
              here = record {
                seen = know.seen;
                told = know.told;
                gone = know.gone;
                own_put = know.own_put;
                own_taken = know.own_taken;
                waits_to_put = λ k h. let e = the-one k ticket h in omega arith;
                waits_to_take = know.waits_to_take;
                fills = λ h. absurd (true≢false (sym h ∙ idle));
                empties = know.empties;
              };
              put_order = omega arith;
              put_grows = omega arith;
              put_limit = omega arith;
              taken_order = g.seats.taken_order;
              taken_grows = omega arith;
              new_put = λ k. times k (ticket ∷ []);
              news_put = λ k. (times-one-le k ticket, λ h. let e = the-one k ticket h in (omega arith, omega arith));
              is_put = λ k. let zero_before = none_of k v.put_ticket bare in omega arith;
              new_taken = λ _. 0;
              news_taken = no_news nt;
              is_taken = λ k. omega arith;
              fills = λ h. inr (h, omega arith);
              empties = λ h. inr (h, omega arith);
            })),
        ((λ _. refl), λ ne. absurd (ne hit)),
      ))
      (λ ne. (
        v,
        keeps,
        tt,
        on_put s g n (set s.views id v) (same_seats g.put g.taken g.p g.c n nt id s.views v at g.seats),
        ((λ e. absurd (ne e)), λ _. refl),
      ))

  pub draws_take : (slots id : ℕ) (me : Own T) (ticket next : ℕ) → next ≡ ticket + 1 → ticket < 2 ^ 62
      → me.0.take_ticket ≡ [] → me.0.empties ≡ false
      → Allows Crowded slots id me 48 (λ n. either (eqb n ticket) next n)
      (DrawsTake (step slots 48 ticket next none) me)
  draws_take slots id me ticket next up low bare idle s g size at small =
      let np : ℕ = get_or s.words 32 0 in
      let n : ℕ = get_or s.words 48 0 in
      let v : Sight T = me.0 in
      let w : Sight T = record v { take_ticket = ticket ∷ [] } in
      let then = DrawsTake (step slots 48 ticket next none) me in
      let know = g.seats.each id v at in
      let order = g.seats.taken_order in
      exchanged n ticket next (Goes s 48 id me then)
      (λ hit. (
        w,
        keeps,
        tt,
        on_take s g next (set s.views id w)
            (stays g.put g.taken g.p g.c g.put g.taken g.p g.c np n np next id s.views v w g.seats (record {
              at = at;
              others = λ k u _ _ fit. fit;
              here = record {
                seen = know.seen;
                told = know.told;
                gone = know.gone;
                own_put = know.own_put;
                own_taken = know.own_taken;
                waits_to_put = know.waits_to_put;
                waits_to_take = λ k h. let e = the-one k ticket h in omega arith;
                fills = know.fills;
                empties = λ h. absurd (true≢false (sym h ∙ idle));
              };
              put_order = g.seats.put_order;
              put_grows = omega arith;
              put_limit = g.seats.put_limit;
              taken_order = omega arith;
              taken_grows = omega arith;
              new_put = λ _. 0;
              news_put = no_news np;
              is_put = λ k. omega arith;
              new_taken = λ k. times k (ticket ∷ []);
              news_taken = λ k. (times-one-le k ticket, λ h. let e = the-one k ticket h in (omega arith, omega arith));
              is_taken = λ k. let zero_before = none_of k v.take_ticket bare in omega arith;
              fills = λ h. inr (h, omega arith);
              empties = λ h. inr (h, omega arith);
            })),
        ((λ _. refl), λ ne. absurd (ne hit)),
      ))
      (λ ne. (
        v,
        keeps,
        tt,
        on_take s g n (set s.views id v) (same_seats g.put g.taken g.p g.c np n id s.views v at g.seats),
        ((λ e. absurd (ne e)), λ _. refl),
      ))

  -- A seat that holds no cell sees more.
  looked : (put : List T) (taken : ℕ) (p c : View T) (np nt id : ℕ) (views : List (Sight T)) (v w : Sight T)
      → Seated put taken p c np nt views → get_elem? views id ≡ some v
      → IsPrefixOf w.seen put → IsPrefixOf w.told put → w.gone ≤ taken → w.puts ≡ v.puts → w.takes ≡ v.takes
      → w.put_ticket ≡ v.put_ticket → w.take_ticket ≡ v.take_ticket
      → v.fills ≡ false → v.empties ≡ false → w.fills ≡ false → w.empties ≡ false
      → Seated put taken p c np nt (set views id w)
  looked put taken p c np nt id views v w s at seen told gone same_puts same_takes same_put same_take idle idle' still
      still' =
      let know = s.each id v at in
      stays put taken p c put taken p c np nt np nt id views v w s (record {
        at = at;
        others = λ k u _ _ fit. fit;
        here = record {
          seen = seen;
          told = told;
          gone = gone;
          own_put = λ k h. know.own_put k (let e = ap (times k) same_puts in omega arith);
          own_taken = λ k h. know.own_taken k (let e = ap (times k) same_takes in omega arith);
          waits_to_put = λ k h. know.waits_to_put k (let e = ap (times k) same_put in omega arith);
          waits_to_take = λ k h. know.waits_to_take k (let e = ap (times k) same_take in omega arith);
          fills = λ h. absurd (true≢false (sym h ∙ still));
          empties = λ h. absurd (true≢false (sym h ∙ still'));
        };
        put_order = s.put_order;
        put_grows = omega arith;
        put_limit = s.put_limit;
        taken_order = s.taken_order;
        taken_grows = omega arith;
        new_put = λ _. 0;
        news_put = no_news np;
        is_put = λ k. let e = ap (times k) same_puts in let e' = ap (times k) same_put in omega arith;
        new_taken = λ _. 0;
        news_taken = no_news nt;
        is_taken = λ k. let e = ap (times k) same_takes in let e' = ap (times k) same_take in omega arith;
        fills = λ h. inr (h, let e : filling v ≡ 0 = ap (λ (b : Bool). cond b 1 0) idle in omega arith);
        empties = λ h. inr (h, let e : emptying v ≡ 0 = ap (λ (b : Bool). cond b 1 0) idle' in omega arith);
      })

  pub counts_put : (slots id : ℕ) (me : Own T) → me.0.fills ≡ false → me.0.empties ≡ false →
      Allows Crowded slots id me 0 (λ n. n) (CountsPut (step slots 0 0 0 none) me)
  counts_put slots id me idle idle' s g size at small =
      let v : Sight T = me.0 in
      let w : Sight T = record v { seen = g.put } in
      let know = g.seats.each id v at in (
        w,
        keeps,
        tt,
        on_in s g (get_or s.words 0 0) g.put s.homes g.p g.c (set s.views id w) g.in_word g.runs
            (looked g.put g.taken g.p g.c (get_or s.words 32 0) (get_or s.words 48 0) id s.views v w g.seats at
            (prefix_self g.put) know.told know.gone refl refl refl refl idle idle' idle idle'),
        record {
          put = g.put;
          more = know.seen.0;
          longer = know.seen.1;
          told = know.told;
          puts = record {
            once = λ k.
                let part = at-le-sum_by (put_at k) s.views id v at in let most = g.seats.put_once k in omega arith;
            within = know.own_put;
          };
          takes = record {
            once = λ k.
                let part = at-le-sum_by (taken_at k) s.views id v at in let most = g.seats.taken_once k in omega arith;
            within = λ k h. let below = know.own_taken k h in let order = g.runs.order in omega arith;
          };
          gone = let low = know.gone in let order = g.runs.order in omega arith;
          count = g.in_word;
          is = refl;
        },
      )

  pub counts_taken : (slots id : ℕ) (me : Own T) → me.0.fills ≡ false → me.0.empties ≡ false →
      Allows Crowded slots id me 16 (λ n. n) (CountsTaken (step slots 16 0 0 none) me)
  counts_taken slots id me idle idle' s g size at small =
      let n : ℕ = get_or s.words 16 0 in
      let v : Sight T = me.0 in
      let w : Sight T = record v { gone = n } in
      let know = g.seats.each id v at in (
        w,
        keeps,
        tt,
        on_out s g n g.taken s.homes g.p g.c (set s.views id w) g.out_word g.runs
            (looked g.put g.taken g.p g.c (get_or s.words 32 0) (get_or s.words 48 0) id s.views v w g.seats at
            know.seen know.told (omega (arith, g.out_word)) refl refl refl refl idle idle' idle idle'),
        (refl, omega (arith, g.out_word, g.runs.order, g.runs.limit)),
      )

  -- If a seat has the next ticket and holds no cell, no cell is out of the table for a put.
  none_fills : (put : List T) (taken : ℕ) (p c : View T) (np nt id : ℕ) (views : List (Sight T)) (v : Sight T) →
      Seated put taken p c np nt views → get_elem? views id ≡ some v → v.put_ticket ≡ length put ∷ [] →
      v.fills ≡ false → p.holds ≡ false
  none_fills put taken p c np nt id views v s at next idle = not_true p.holds (λ h.
      let one = some_part filling views (s.filler h) in
      let fit = (s.each one.0 one.1 one.2).fills (true_of one.1.fills one.3) in
      dite (ℕ_discrete one.0 id)
      (λ e.
      let same : one.1 ≡ v = one_there views id one.0 v one.1 e at one.2 in
      true≢false (sym (true_of one.1.fills one.3) ∙ (ap (λ (u : Sight T). u.fills) same ∙ idle)))
      (λ ne.
      other_put put taken p c np nt views s id one.0 (length put) v one.1 at ne one.2
      (has (length put) v.put_ticket next) (has (length put) one.1.put_ticket fit.0)))

  none_empties : (put : List T) (taken : ℕ) (p c : View T) (np nt id : ℕ) (views : List (Sight T)) (v : Sight T) →
      Seated put taken p c np nt views → get_elem? views id ≡ some v → v.take_ticket ≡ taken ∷ [] → v.empties ≡ false →
      c.holds ≡ false
  none_empties put taken p c np nt id views v s at next idle = not_true c.holds (λ h.
      let one = some_part emptying views (s.emptier h) in
      let fit = (s.each one.0 one.1 one.2).empties (true_of one.1.empties one.3) in
      dite (ℕ_discrete one.0 id)
      (λ e.
      let same : one.1 ≡ v = one_there views id one.0 v one.1 e at one.2 in
      true≢false (sym (true_of one.1.empties one.3) ∙ (ap (λ (u : Sight T). u.empties) same ∙ idle)))
      (λ ne.
      other_taken put taken p c np nt views s id one.0 taken v one.1 at ne one.2 (has taken v.take_ticket next)
      (has taken one.1.take_ticket fit.0)))

  pub reaches_room : (slots id : ℕ) (me : Own T) → me.0.put_ticket ≡ length me.0.seen ∷ [] → me.0.fills ≡ false →
      Allows Crowded slots id me 16 (λ n. n) (ReachesRoom (step slots 16 0 0 none) me)
  reaches_room slots id me ticket idle s g size at small =
      let n : ℕ = get_or s.words 16 0 in
      let np : ℕ = get_or s.words 32 0 in
      let nt : ℕ = get_or s.words 48 0 in
      let v : Sight T = me.0 in
      let know = g.seats.each id v at in
      let far : length g.put ≤ length v.seen =
      know.waits_to_put (length v.seen) (has (length v.seen) v.put_ticket ticket) in
      let all : v.seen ≡ g.put = prefix_whole v.seen g.put know.seen far in
      let count : length v.seen ≡ length g.put = ap length all in
      let next : v.put_ticket ≡ length g.put ∷ [] = ticket ∙ ap (λ (k : ℕ). k ∷ []) count in
      let below = drawn_put g.put g.taken g.p g.c np nt s.views g.seats id (length v.seen) v at
      (has (length v.seen) v.put_ticket ticket) in
      let limit = g.seats.put_limit in
      let free = none_fills g.put g.taken g.p g.c np nt id s.views v g.seats at next idle in
      let gone = know.gone in
      let known : v.gone ≤ n = omega (arith, g.out_word) in
      let most : n ≤ length v.seen = omega (arith, g.out_word, g.runs.order) in
      ⊎_elim
      (λ full. (
        v,
        keeps,
        tt,
        on_out s g n g.taken s.homes g.p g.c (set s.views id v) g.out_word g.runs
            (same_seats g.put g.taken g.p g.c np nt id s.views v at g.seats),
        (known, most, (λ room. absurd (omega arith)), λ _. refl),
      ))
      (λ room.
      let k : ℕ = length v.seen % slots in
      let same : (length g.put % length s.homes) ≡ k =
      ap (λ m. m % length s.homes) (sym count) ∙ ap (λ m. length v.seen % m) size in
      let go =
      reached (length s.homes) g.put g.taken s.homes g.p g.c g.runs free (omega (arith, g.out_word)) (omega arith) in
      let w : Sight T = record v { fills = true } in (
        w,
        takes k None,
        subst (λ j. get_elem? s.homes j ≡ some (some None)) same go.0,
        on_out s g n g.taken (set s.homes k none) (holding g.p) g.c (set s.views id w) g.out_word
            (subst (λ j. Runs (length s.homes) g.put g.taken (set s.homes j none) (holding g.p) g.c) same go.1)
            (stays g.put g.taken g.p g.c g.put g.taken (holding g.p) g.c np nt np nt id s.views v w g.seats (record {
              at = at;
              others = λ i u _ _ fit. record {
                seen = fit.seen;
                told = fit.told;
                gone = fit.gone;
                own_put = fit.own_put;
                own_taken = fit.own_taken;
                waits_to_put = fit.waits_to_put;
                waits_to_take = fit.waits_to_take;
                fills = λ h. let f = fit.fills h in (f.0, f.1, refl);
                empties = fit.empties;
              };
              here = record {
                seen = know.seen;
                told = know.told;
                gone = know.gone;
                own_put = know.own_put;
                own_taken = know.own_taken;
                waits_to_put = know.waits_to_put;
                waits_to_take = know.waits_to_take;
                fills = λ _. (next, all, refl);
                empties = know.empties;
              };
              put_order = g.seats.put_order;
              put_grows = omega arith;
              put_limit = g.seats.put_limit;
              taken_order = g.seats.taken_order;
              taken_grows = omega arith;
              new_put = λ _. 0;
              news_put = no_news np;
              is_put = λ j. omega arith;
              new_taken = λ _. 0;
              news_taken = no_news nt;
              is_taken = λ j. omega arith;
              fills = λ _. inl (omega arith);
              empties = λ h. inr (h, omega arith);
            })),
        (known, most, (λ _. refl), λ full. absurd (omega arith)),
      ))
      (at_most (n + slots) (length v.seen))

  pub reaches_item : (slots id : ℕ) (me : Own T) → me.0.take_ticket ≡ me.0.gone ∷ [] → me.0.empties ≡ false →
      me.0.fills ≡ false → Allows Crowded slots id me 0 (λ n. n) (ReachesItem (step slots 0 0 0 none) me)
  reaches_item slots id me ticket idle idle' s g size at small =
      let n : ℕ = get_or s.words 0 0 in
      let np : ℕ = get_or s.words 32 0 in
      let nt : ℕ = get_or s.words 48 0 in
      let v : Sight T = me.0 in
      let know = g.seats.each id v at in
      let far : g.taken ≤ v.gone = know.waits_to_take v.gone (has v.gone v.take_ticket ticket) in
      let near = know.gone in
      let count : v.gone ≡ g.taken = omega arith in
      let next : v.take_ticket ≡ g.taken ∷ [] = ticket ∙ ap (λ (k : ℕ). k ∷ []) count in
      let free = none_empties g.put g.taken g.p g.c np nt id s.views v g.seats at next idle in
      let long : length g.put ≡ length v.seen + length know.seen.0 =
      ap length know.seen.1 ∙ length-append v.seen know.seen.0 in
      let known : length v.seen ≤ n = omega (arith, g.in_word) in
      ⊎_elim
      (λ bare. (
        v,
        keeps,
        tt,
        on_in s g n g.put s.homes g.p g.c (set s.views id v) g.in_word g.runs
            (same_seats g.put g.taken g.p g.c np nt id s.views v at g.seats),
        (known, (λ waits. absurd (omega arith)), λ _. refl),
      ))
      (λ waits.
      let k : ℕ = v.gone % slots in
      let same : (g.taken % length s.homes) ≡ k =
      ap (λ m. m % length s.homes) (sym count) ∙ ap (λ m. v.gone % m) size in
      let more : g.taken < length g.put = omega (arith, g.in_word) in
      let go = grabbed (length s.homes) g.put g.taken s.homes g.p g.c g.runs free more in
      let x = go.0 in
      let c' : View T = record g.c { put = g.put; holds = true } in
      let w : Sight T = record v { seen = g.put; empties = true } in (
        w,
        takes k (Some x),
        subst (λ j. get_elem? s.homes j ≡ some (some (Some x))) same go.2,
        on_in s g n g.put (set s.homes k none) g.p c' (set s.views id w) g.in_word
            (subst (λ j. Runs (length s.homes) g.put g.taken (set s.homes j none) g.p c') same go.3)
            (stays g.put g.taken g.p g.c g.put g.taken g.p c' np nt np nt id s.views v w g.seats (record {
              at = at;
              others = λ i u _ _ fit. record {
                seen = fit.seen;
                told = fit.told;
                gone = fit.gone;
                own_put = fit.own_put;
                own_taken = fit.own_taken;
                waits_to_put = fit.waits_to_put;
                waits_to_take = fit.waits_to_take;
                fills = fit.fills;
                empties = λ h. let f = fit.empties h in (f.0, refl, f.2);
              };
              here = record {
                seen = prefix_self g.put;
                told = know.told;
                gone = know.gone;
                own_put = know.own_put;
                own_taken = know.own_taken;
                waits_to_put = know.waits_to_put;
                waits_to_take = know.waits_to_take;
                fills = λ h. absurd (true≢false (sym h ∙ idle'));
                empties = λ _. (next, refl, more);
              };
              put_order = g.seats.put_order;
              put_grows = omega arith;
              put_limit = g.seats.put_limit;
              taken_order = g.seats.taken_order;
              taken_grows = omega arith;
              new_put = λ _. 0;
              news_put = no_news np;
              is_put = λ j. omega arith;
              new_taken = λ _. 0;
              news_taken = no_news nt;
              is_taken = λ j. omega arith;
              fills = λ h. inr (h, omega arith);
              empties = λ _. inl (omega arith);
            })),
        (
          known,
          (λ _. record {
            put = g.put;
            more = know.seen.0;
            longer = know.seen.1;
            item = x;
            at = ap (λ j. get_elem? g.put j) count ∙ go.1;
            is = refl;
          }),
          λ bare. absurd (omega arith),
        ),
      ))
      (at_most n v.gone)

  places_at : (slots id : ℕ) (v : Sight T) (k : ℕ) (x : T) → v.fills ≡ true → k ≡ length v.seen % slots
      → Allows Crowded slots id (v, (k, Some x) ∷ []) 0 (λ n. (n + 1) % 18446744073709551616)
      (Places (step slots 0 1 0 none) (v, (k, Some x) ∷ []))
  places_at slots id v k x busy cell s g size at small =
      let n : ℕ = get_or s.words 0 0 in
      let np : ℕ = get_or s.words 32 0 in
      let nt : ℕ = get_or s.words 48 0 in
      let know = g.seats.each id v at in
      let out = know.fills busy in
      let l : ℕ = length g.put in
      let holds = has l v.put_ticket out.0 in
      let count : length v.seen ≡ l = ap length out.1 in
      let same : (l % length s.homes) ≡ k =
      ap (λ m. m % length s.homes) (sym count) ∙ ap (λ m. length v.seen % m) size ∙ sym cell in
      let low = (g.runs.may_put out.2).1 in
      let next : (n + 1) % 18446744073709551616 ≡ n + 1 =
      mod-eq_of_lt {n = n + 1} {m = 18446744073709551616} (omega (arith, g.in_word)) in
      let put' : List T = g.put ++ x ∷ [] in
      let long : length put' ≡ l + 1 = length-append g.put (x ∷ []) in
      let p' : View T = record g.p { put = g.p.put ++ x ∷ []; holds = false } in
      let w : Sight T =
      record v { seen = v.seen ++ x ∷ []; puts = v.puts ++ length v.seen ∷ []; put_ticket = []; fills = false } in
      let drawn = drawn_put g.put g.taken g.p g.c np nt s.views g.seats id l v at holds in
      let own : (j : ℕ) → times j (v.puts ++ length v.seen ∷ []) ≡ times j v.puts + times j (l ∷ []) = λ j.
      times-append j v.puts (length v.seen ∷ []) ∙ ap (λ m. times j v.puts + times j (m ∷ [])) count in
      let order = g.runs.order in (
        w,
        gives,
        tt,
        on_in s g ((n + 1) % 18446744073709551616) put' (set s.homes k (some (Some x))) p' g.c (set s.views id w)
            (next ∙ (omega (arith, g.in_word)))
            (subst (λ j. Runs (length s.homes) put' g.taken (set s.homes j (some (Some x))) p' g.c) same
            (put_in (length s.homes) g.put g.taken s.homes g.p g.c g.runs x out.2))
            (stays g.put g.taken g.p g.c put' g.taken p' g.c np nt np nt id s.views v w g.seats (record {
              at = at;
              others = λ i u apart there fit.
                  let alone : 1 ≤ times l u.put_ticket → ⊥ = λ h.
                  other_put g.put g.taken g.p g.c np nt s.views g.seats id i l v u at apart there holds h in
                  record {
                    seen = prefix_snoc u.seen g.put x fit.seen;
                    told = prefix_snoc u.told g.put x fit.told;
                    gone = fit.gone;
                    own_put = λ j h. let below = fit.own_put j h in omega arith;
                    own_taken = fit.own_taken;
                    waits_to_put = λ j h.
                        let from = fit.waits_to_put j h in
                        dite (ℕ_discrete j l) (λ e. absurd (alone (subst (λ m. 1 ≤ times m u.put_ticket) e h)))
                        (λ ne. omega (arith, ne));
                    waits_to_take = fit.waits_to_take;
                    fills = λ h. absurd (alone (has l u.put_ticket (fit.fills h).0));
                    empties = fit.empties;
                  };
              here = record {
                seen = ([], ap (λ m. m ++ x ∷ []) (sym out.1) ∙ sym (append-nil (v.seen ++ x ∷ [])));
                told = prefix_snoc v.told g.put x know.told;
                gone = know.gone;
                own_put = λ j h.
                    let is = own j in
                    dite (dec_le 1 (times j v.puts)) (λ d. let below = know.own_put j d in omega arith)
                    (λ nd. let e = the-one j l (omega (arith, nd)) in omega arith);
                own_taken = know.own_taken;
                waits_to_put = λ j h. absurd (omega arith);
                waits_to_take = know.waits_to_take;
                fills = λ h. absurd (true≢false (sym h));
                empties = λ h. let f = know.empties h in (f.0, f.1, omega (arith, f.2, length-append v.seen (x ∷ [])));
              };
              put_order = omega arith;
              put_grows = omega arith;
              put_limit = g.seats.put_limit;
              taken_order = g.seats.taken_order;
              taken_grows = omega arith;
              new_put = λ _. 0;
              news_put = no_news np;
              is_put = λ j.
                  let is = own j in let e : times j v.put_ticket ≡ times j (l ∷ []) = ap (times j) out.0 in omega arith;
              new_taken = λ _. 0;
              news_taken = no_news nt;
              is_taken = λ j. omega arith;
              fills = λ h. absurd (true≢false (sym h));
              empties = λ h. inr (h, omega arith);
            })),
        refl,
      )

  pub places : (slots id : ℕ) (m : Own T) (v : Sight T) (k : ℕ) (x : T) → m ≡ (v, (k, Some x) ∷ []) → v.fills ≡ true
      → k ≡ length v.seen % slots
      → Allows Crowded slots id m 0 (λ n. (n + 1) % 18446744073709551616) (Places (step slots 0 1 0 none) m)
  places slots id m v k x is busy cell =
      subst (λ (y : Own T).
      Allows Crowded slots id y 0 (λ n. (n + 1) % 18446744073709551616) (Places (step slots 0 1 0 none) y))
      (sym is) (places_at slots id v k x busy cell)

  removes_at : (slots id : ℕ) (v : Sight T) (k t : ℕ) → v.empties ≡ true → v.take_ticket ≡ t ∷ [] → k ≡ t % slots
      → Allows Crowded slots id (v, (k, None) ∷ []) 16 (λ n. (n + 1) % 18446744073709551616)
      (Removes (step slots 16 1 0 none) (v, (k, None) ∷ []))
  removes_at slots id v k t busy ticket cell s g size at small =
      let n : ℕ = get_or s.words 16 0 in
      let np : ℕ = get_or s.words 32 0 in
      let nt : ℕ = get_or s.words 48 0 in
      let know = g.seats.each id v at in
      let out = know.empties busy in
      let l : ℕ = g.taken in
      let holds = has l v.take_ticket out.0 in
      let count : t ≡ l = only l t v.take_ticket ticket holds in
      let same : (l % length s.homes) ≡ k =
      ap (λ m. m % length s.homes) (sym count) ∙ ap (λ m. t % m) size ∙ sym cell in
      let next : (n + 1) % 18446744073709551616 ≡ n + 1 =
      mod-eq_of_lt {n = n + 1} {m = 18446744073709551616} (omega (arith, g.out_word, g.runs.order, g.runs.limit)) in
      let c' : View T = record g.c { taken = g.c.taken + 1; holds = false } in
      let w : Sight T = record v { takes = v.takes ++ v.take_ticket; take_ticket = []; empties = false } in
      let drawn = drawn_taken g.put g.taken g.p g.c np nt s.views g.seats id l v at holds in
      let own : (j : ℕ) → times j (v.takes ++ v.take_ticket) ≡ times j v.takes + times j v.take_ticket = λ j.
      times-append j v.takes v.take_ticket in (
        w,
        gives,
        tt,
        on_out s g ((n + 1) % 18446744073709551616) (l + 1) (set s.homes k (some None)) g.p c' (set s.views id w)
            (next ∙ (omega (arith, g.out_word)))
            (subst (λ j. Runs (length s.homes) g.put (l + 1) (set s.homes j (some None)) g.p c') same
            (emptied (length s.homes) g.put l s.homes g.p g.c g.runs out.1))
            (stays g.put l g.p g.c g.put (l + 1) g.p c' np nt np nt id s.views v w g.seats (record {
              at = at;
              others = λ i u apart there fit.
                  let alone : 1 ≤ times l u.take_ticket → ⊥ = λ h.
                  other_taken g.put g.taken g.p g.c np nt s.views g.seats id i l v u at apart there holds h in
                  record {
                    seen = fit.seen;
                    told = fit.told;
                    gone = let e = fit.gone in omega arith;
                    own_put = fit.own_put;
                    own_taken = λ j h. let below = fit.own_taken j h in omega arith;
                    waits_to_put = fit.waits_to_put;
                    waits_to_take = λ j h.
                        let from = fit.waits_to_take j h in
                        dite (ℕ_discrete j l) (λ e. absurd (alone (subst (λ m. 1 ≤ times m u.take_ticket) e h)))
                        (λ ne. omega (arith, ne));
                    fills = fit.fills;
                    empties = λ h. absurd (alone (has l u.take_ticket (fit.empties h).0));
                  };
              here = record {
                seen = know.seen;
                told = know.told;
                gone = let e = know.gone in omega arith;
                own_put = know.own_put;
                own_taken = λ j h.
                    let is = own j in
                    dite (dec_le 1 (times j v.takes)) (λ d. let below = know.own_taken j d in omega arith)
                    (λ nd. let e = only j l v.take_ticket out.0 (omega (arith, nd)) in omega arith);
                waits_to_put = know.waits_to_put;
                waits_to_take = λ j h. absurd (omega arith);
                fills = know.fills;
                empties = λ h. absurd (true≢false (sym h));
              };
              put_order = g.seats.put_order;
              put_grows = omega arith;
              put_limit = g.seats.put_limit;
              taken_order = omega arith;
              taken_grows = omega arith;
              new_put = λ _. 0;
              news_put = no_news np;
              is_put = λ j. omega arith;
              new_taken = λ _. 0;
              news_taken = no_news nt;
              is_taken = λ j. let is = own j in omega arith;
              fills = λ h. inr (h, omega arith);
              empties = λ h. absurd (true≢false (sym h));
            })),
        (refl, λ j i h h'. let below = know.own_taken j h in let from = know.waits_to_take i h' in omega arith),
      )

  pub removes : (slots id : ℕ) (m : Own T) (v : Sight T) (k t : ℕ) → m ≡ (v, (k, None) ∷ []) → v.empties ≡ true
      → v.take_ticket ≡ t ∷ [] → k ≡ t % slots
      → Allows Crowded slots id m 16 (λ n. (n + 1) % 18446744073709551616) (Removes (step slots 16 1 0 none) m)
  removes slots id m v k t is busy ticket cell =
      subst (λ (y : Own T).
      Allows Crowded slots id y 16 (λ n. (n + 1) % 18446744073709551616) (Removes (step slots 16 1 0 none) y))
      (sym is) (removes_at slots id v k t busy ticket cell)
