-- Proves that splits and joins of seats keep the rule of a `ManyBuffer`.
use Rattle.std.proofs.Common.{◌≡◌, ℕ, ◌%◌, ◌<◌, false, List, [], ◌∷◌, ◌++◌, ⊎_elim, length, set, get_or, map, replicate}
use Rattle.std.proofs.Common.{refl, sym, ap, ◌∙◌, subst, arith, Option, None}
use Rattle.std.specs.Prelude.{sum_by, cond}
use mathlib.Core.Bool.{true≢false}
use mathlib.Core.Logic.{dite}
use native.Mathlib.Decide.{dec_le}
use mathlib.Core.Option.{some, some-ne-none}
use lib.ListN.{get_elem?}
use Rattle.std.proofs.Math.Nat.{mod-eq_of_lt}
use Rattle.std.proofs.lemmas.List.Sums.{sum_by_push}
use Rattle.atomic_table.specs.Table.{opening, Splits, Joins}
use Rattle.atomic_table.proofs.Lists.{at_snoc, set_again, set_else}
use Rattle.sysv_buffer.specs.declared.view.View.{View}
use Rattle.sysv_buffer.specs.declared.view.Role.TheVariants.{Producer, Consumer}
use Rattle.sysv_buffer.specs.declared.many_view.Sight.{Sight}
use Rattle.sysv_lists.specs.Numbers.{times}
use Rattle.sysv_buffer.specs.ManyRing.{put_at, taken_at, filling, emptying, Knows, Seated, Crowded, first_sight}
use Rattle.sysv_buffer.specs.ManySteps.{beside, both_of}
use Rattle.sysv_buffer.proofs.OpenedMeetsRule.{all_cells, empty_cell}
use Rattle.sysv_lists.proofs.Places.{each_set}
use Rattle.sysv_lists.proofs.Counting.{times-append, none_of}
use Rattle.sysv_lists.proofs.Sums.{sum_by-set_at}

module _ {T : Type 0} where
  -- A seat that knows nothing knows only what is true.
  nothing_known : (put : List T) (taken : ℕ) (p c : View T) → Knows put taken p c first_sight
  nothing_known put taken p c = record {
    seen = (put, refl);
    told = (put, refl);
    gone = omega arith;
    own_put = λ k h. absurd (omega arith);
    own_taken = λ k h. absurd (omega arith);
    waits_to_put = λ k h. absurd (omega arith);
    waits_to_take = λ k h. absurd (omega arith);
    fills = λ h. absurd (true≢false (sym h));
    empties = λ h. absurd (true≢false (sym h));
  }

  pub many_starts : (n : ℕ) (ws : List ℕ) (xs : List (Option T)) → 0 < n → length ws ≡ 64 → get_or ws 0 0 ≡ 0 →
      get_or ws 16 0 ≡ 0 → get_or ws 32 0 ≡ 0 → get_or ws 48 0 ≡ 0 → xs ≡ replicate n None →
      Crowded (opening ws xs first_sight)
  many_starts n ws xs room wide in_word out_word puts takes is =
      let p : View T = record { role = Producer; put = []; taken = 0; holds = false } in
      let c : View T = record { role = Consumer; put = []; taken = 0; holds = false } in
      let long = all_cells T n in
      let seats : Seated [] 0 p c 0 0 (first_sight ∷ []) = record {
        each = λ i v at.
            ⊎_elim (λ t. absurd (some-ne-none v (sym t))) (λ t. subst (Knows [] 0 p c) t (nothing_known [] 0 p c))
            (at_snoc [] first_sight v i at);
        put_once = λ k. omega arith;
        put_later = λ k far. refl;
        put_order = omega arith;
        put_limit = omega arith;
        taken_once = λ k. omega arith;
        taken_later = λ k far. refl;
        taken_order = omega arith;
        filler = λ h. absurd (true≢false (sym h));
        emptier = λ h. absurd (true≢false (sym h));
      } in
      subst (λ (ys : List (Option T)). Crowded (opening ws ys first_sight)) (sym is)
      (record {
        put = [];
        taken = 0;
        p = p;
        c = c;
        wide = wide;
        in_word = in_word;
        out_word = out_word;
        runs = record {
          room = omega arith;
          size = refl;
          order = omega arith;
          within = omega arith;
          limit = omega arith;
          producer = refl;
          puts = refl;
          gone = omega arith;
          may_put = λ h. absurd (true≢false (sym h));
          consumer = refl;
          takes = refl;
          seen = ([], refl);
          known = omega arith;
          may_take = λ h. absurd (true≢false (sym h));
          full = λ i x from at not. absurd (some-ne-none x (sym at));
          free = λ i from to not.
              let cells : List _ = map some (replicate {A = Option T} n None) in
              let same : i % length cells ≡ i = mod-eq_of_lt {n = i} {m = length cells} (omega arith) in
              ap (λ j. get_elem? cells j) same ∙ empty_cell n i (omega arith);
        };
        seats = subst (λ m. Seated [] 0 p c m (get_or ws 48 0) (first_sight ∷ [])) (sym puts)
            (subst (λ m. Seated [] 0 p c 0 m (first_sight ∷ [])) (sym takes) seats);
      })

  pub many_splits : (id : ℕ) (v : Sight T) → Splits Crowded id v v (beside v)
  many_splits id v s g at =
      let np : ℕ = get_or s.words 32 0 in
      let nt : ℕ = get_or s.words 48 0 in
      let know = g.seats.each id v at in
      let old = g.seats in
      let pushed = s.views ++ beside v ∷ [] in
      let seats : Seated g.put g.taken g.p g.c np nt pushed = record {
        each = λ i u there. ⊎_elim (λ t. old.each i u t) (λ t. subst (Knows g.put g.taken g.p g.c) t (record {
          seen = know.seen;
          told = know.told;
          gone = know.gone;
          own_put = λ k h. absurd (omega arith);
          own_taken = λ k h. absurd (omega arith);
          waits_to_put = λ k h. absurd (omega arith);
          waits_to_take = λ k h. absurd (omega arith);
          fills = λ h. absurd (true≢false (sym h));
          empties = λ h. absurd (true≢false (sym h));
        })) (at_snoc s.views (beside v) u i there);
        put_once = λ k. let one = old.put_once k in let sum = sum_by_push (put_at k) s.views (beside v) in omega arith;
        put_later = λ k far.
            let one = old.put_later k far in let sum = sum_by_push (put_at k) s.views (beside v) in omega arith;
        put_order = old.put_order;
        put_limit = old.put_limit;
        taken_once = λ k.
            let one = old.taken_once k in let sum = sum_by_push (taken_at k) s.views (beside v) in omega arith;
        taken_later = λ k far.
            let one = old.taken_later k far in let sum = sum_by_push (taken_at k) s.views (beside v) in omega arith;
        taken_order = old.taken_order;
        filler = λ h. let one = old.filler h in let sum = sum_by_push filling s.views (beside v) in omega arith;
        emptier = λ h. let one = old.emptier h in let sum = sum_by_push emptying s.views (beside v) in omega arith;
      } in
      record {
        put = g.put;
        taken = g.taken;
        p = g.p;
        c = g.c;
        wide = g.wide;
        in_word = g.in_word;
        out_word = g.out_word;
        runs = g.runs;
        seats = subst (λ vs. Seated g.put g.taken g.p g.c np nt (vs ++ beside v ∷ [])) (sym (set_again s.views id v at))
            seats;
      }

  -- A join of two seats.
  pub many_joins : (id other : ℕ) (v w : Sight T) → v.fills ≡ false → v.empties ≡ false → w.fills ≡ false →
      w.empties ≡ false → w.put_ticket ≡ [] → w.take_ticket ≡ [] → Joins Crowded id v other w (both_of v w) first_sight
  many_joins id other v w idle idle' quiet quiet' bare bare' s g at apart still =
      let np : ℕ = get_or s.words 32 0 in
      let nt : ℕ = get_or s.words 48 0 in
      let b : Sight T = both_of v w in
      let middle : List (Sight T) = set s.views id b in
      let there : get_elem? s.views other ≡ some w = sym (set_else s.views id other b apart) ∙ still in
      let old = g.seats in
      let know = old.each id v at in
      let know' = old.each other w there in
      let K : Sight T → Type 0 = Knows g.put g.taken g.p g.c in
      let same_put : (k : ℕ) → sum_by (put_at k) (set middle other first_sight) ≡ sum_by (put_at k) s.views = λ k.
      let one = sum_by-set_at (put_at k) s.views id v b at in
      let two = sum_by-set_at (put_at k) middle other w first_sight still in
      omega (arith, times-append k v.puts w.puts, none_of k w.put_ticket bare) in
      let same_taken : (k : ℕ) → sum_by (taken_at k) (set middle other first_sight) ≡ sum_by (taken_at k) s.views = λ k.
      let one = sum_by-set_at (taken_at k) s.views id v b at in
      let two = sum_by-set_at (taken_at k) middle other w first_sight still in
      omega (arith, times-append k v.takes w.takes, none_of k w.take_ticket bare') in
      let both : K b = record {
        seen = know.seen;
        told = know'.seen;
        gone = let a = know.gone in let b = know'.gone in omega arith;
        own_put = λ k h.
            dite (dec_le 1 (times k v.puts)) (λ d. know.own_put k d)
            (λ nd. know'.own_put k (omega (arith, nd, times-append k v.puts w.puts)));
        own_taken = λ k h.
            dite (dec_le 1 (times k v.takes)) (λ d. know.own_taken k d)
            (λ nd. know'.own_taken k (omega (arith, nd, times-append k v.takes w.takes)));
        waits_to_put = know.waits_to_put;
        waits_to_take = know.waits_to_take;
        fills = λ h. absurd (true≢false (sym h ∙ idle));
        empties = λ h. absurd (true≢false (sym h ∙ idle'));
      } in
      record {
        put = g.put;
        taken = g.taken;
        p = g.p;
        c = g.c;
        wide = g.wide;
        in_word = g.in_word;
        out_word = g.out_word;
        runs = g.runs;
        seats = record {
          each = each_set K K middle other first_sight (each_set K K s.views id b old.each (λ _ _ _ _ fit. fit) both)
              (λ _ _ _ _ fit. fit) (nothing_known g.put g.taken g.p g.c);
          put_once = λ k. let is = same_put k in let one = old.put_once k in omega arith;
          put_later = λ k far. same_put k ∙ old.put_later k far;
          put_order = old.put_order;
          put_limit = old.put_limit;
          taken_once = λ k. let is = same_taken k in let one = old.taken_once k in omega arith;
          taken_later = λ k far. same_taken k ∙ old.taken_later k far;
          taken_order = old.taken_order;
          filler = λ h.
              let some_one = old.filler h in
              let one = sum_by-set_at filling s.views id v b at in
              let two = sum_by-set_at filling middle other w first_sight still in
              let e : filling w ≡ 0 = ap (λ t. cond t 1 0) quiet in omega arith;
          emptier = λ h.
              let some_one = old.emptier h in
              let one = sum_by-set_at emptying s.views id v b at in
              let two = sum_by-set_at emptying middle other w first_sight still in
              let e : emptying w ≡ 0 = ap (λ t. cond t 1 0) quiet' in omega arith;
        };
      }
