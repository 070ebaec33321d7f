-- Proves how cells leave the table and return to it while the rule holds.
use Rattle.std.proofs.Common.{◌≡◌, ◌≢◌, ℕ, ◌+◌, ◌%◌, ◌^◌, ◌<◌, ◌≤◌, true, false, List, [], ◌∷◌, ◌++◌, ⊎_elim, length}
use Rattle.std.proofs.Common.{set, refl, sym, ap, ◌∙◌, arith, length-set, length-append, Some, None}
use mathlib.Core.Bool.{true≢false}
use mathlib.Core.Logic.{dite}
use native.Mathlib.Decide.{ℕ_discrete}
use mathlib.Core.Option.{none, some}
use lib.ListN.{get_elem?}
use Rattle.std.proofs.Math.Nat.{mod-lt, add-mod_right}
use Rattle.atomic_table.proofs.Lists.{set_here, set_else, one_turn}
use Rattle.sysv_buffer.specs.declared.view.View.{View}
use Rattle.sysv_buffer.specs.Ring.{Homes, Runs}
use Rattle.sysv_buffer.specs.Steps.{holding, seeing}
use Rattle.sysv_lists.proofs.Places.{at_below, there, at_snoc_place}
use Rattle.sysv_lists.proofs.Prefixes.{prefix_self, prefix_snoc}

-- Two places of one window have different cells.
other_cell : (i k n : ℕ) → i < k → k < i + n → (i % n) ≢ (k % n)
other_cell i k n less near same = let e = one_turn i k n (omega arith) near same in omega arith

module _ {T : Type 0} (n : ℕ) (put : List T) (taken : ℕ) (homes : Homes T) (p c : View T)
    (r : Runs n put taken homes p c) where
  cell : (i : ℕ) → (i % n) < length homes
  cell i = let low = mod-lt i {m = n} r.room in let size = r.size in omega arith

  -- The producer has seen that n items were taken.
  pub saw : (m : ℕ) → m ≤ taken → Runs n put taken homes (seeing m p) c
  saw m low = record {
    room = r.room;
    size = r.size;
    order = r.order;
    within = r.within;
    limit = r.limit;
    producer = r.producer;
    puts = r.puts;
    gone = low;
    may_put = r.may_put;
    consumer = r.consumer;
    takes = r.takes;
    seen = r.seen;
    known = r.known;
    may_take = r.may_take;
    full = r.full;
    free = r.free;
  }

  -- A cell is empty, and the producer takes the next cell out of the table.
  pub reached : p.holds ≡ false → length put < taken + n → length put < 2 ^ 62
      → (get_elem? homes (length put % n) ≡ some (some None))
      × Runs n put taken (set homes (length put % n) none) (holding p) c
  reached idle more less =
      let k : ℕ = length put in (
        r.free k (omega arith) more (λ h. absurd (true≢false (sym h ∙ idle))),
        record {
          room = r.room;
          size = length-set homes (k % n) none ∙ r.size;
          order = r.order;
          within = r.within;
          limit = r.limit;
          producer = r.producer;
          puts = r.puts;
          gone = r.gone;
          may_put = λ _. (more, less);
          consumer = r.consumer;
          takes = r.takes;
          seen = r.seen;
          known = r.known;
          may_take = r.may_take;
          full = λ i x from at not.
              let below = at_below put i x at in
              set_else homes (k % n) (i % n) none (λ e. other_cell i k n below (omega arith) e)
              ∙ r.full i x from at not;
          free = λ i from to not.
              let ne : i ≢ k = not refl in
              set_else homes (k % n) (i % n) none
              (λ e. other_cell k i n (omega (arith, ne)) (omega (arith, r.order)) (sym e))
              ∙ r.free i from to (λ h. absurd (true≢false (sym h ∙ idle)));
        },
      )

  -- The producer returns the cell to the table with an item.
  pub put_in : (x : T) → p.holds ≡ true →
      Runs n (put ++ x ∷ []) taken (set homes (length put % n) (some (Some x)))
      (record p { put = p.put ++ x ∷ []; holds = false }) c
  put_in x busy =
      let k : ℕ = length put in
      let may = r.may_put busy in
      let long : length (put ++ x ∷ []) ≡ k + 1 = length-append put (x ∷ []) in
      record {
        room = r.room;
        size = length-set homes (k % n) (some (Some x)) ∙ r.size;
        order = omega (arith, r.order);
        within = omega (arith, may.0);
        limit = omega (arith, may.1);
        producer = r.producer;
        puts = ap (λ l. l ++ x ∷ []) r.puts;
        gone = r.gone;
        may_put = λ h. absurd (true≢false (sym h));
        consumer = r.consumer;
        takes = r.takes;
        seen = prefix_snoc c.put put x r.seen;
        known = r.known;
        may_take = λ h. let t = r.may_take h in omega arith;
        full = λ i y from at not. ⊎_elim
            (λ old.
            let below = at_below put i y old in
            set_else homes (k % n) (i % n) (some (Some x)) (λ e. other_cell i k n below (omega (arith, may.0)) e)
            ∙ r.full i y from old not)
            (λ new. let same : i ≡ k = new.0 in let is : x ≡ y = new.1 in
            ap (λ j. get_elem? (set homes (k % n) (some (Some x))) (j % n)) same
            ∙ (set_here homes (k % n) (some (Some x)) (cell k) ∙ ap (λ z. some (some (Some z))) is))
            (at_snoc_place put x y i at);
        free = λ i from to _.
            set_else homes (k % n) (i % n) (some (Some x))
            (λ e. other_cell k i n (omega arith) (omega (arith, r.order)) (sym e))
            ∙ r.free i (omega arith) to (λ _. λ e. omega arith);
      }

  -- There is an item, and the consumer takes its cell out of the table.
  pub grabbed : c.holds ≡ false → taken < length put
      → (x : T) × (get_elem? put taken ≡ some x) × (get_elem? homes (taken % n) ≡ some (some (Some x)))
      × Runs n put taken (set homes (taken % n) none) p (record c { put = put; holds = true })
  grabbed idle waits =
      let item = there put taken waits in
      let x = item.0 in (
        x,
        item.1,
        r.full taken x (omega arith) item.1 (λ h. absurd (true≢false (sym h ∙ idle))),
        record {
          room = r.room;
          size = length-set homes (taken % n) none ∙ r.size;
          order = r.order;
          within = r.within;
          limit = r.limit;
          producer = r.producer;
          puts = r.puts;
          gone = r.gone;
          may_put = r.may_put;
          consumer = r.consumer;
          takes = r.takes;
          seen = prefix_self put;
          known = r.order;
          may_take = λ _. waits;
          full = λ i y from at not.
              let ne : i ≢ taken = not refl in
              let below = at_below put i y at in
              set_else homes (taken % n) (i % n) none
              (λ e. other_cell taken i n (omega (arith, ne)) (omega (arith, r.within)) (sym e))
              ∙ r.full i y from at (λ _. ne);
          free = λ i from to not.
              set_else homes (taken % n) (i % n) none (λ e. other_cell taken i n (omega arith) to (sym e))
              ∙ r.free i from to not;
        },
      )

  -- The consumer returns the empty cell to the table.
  pub emptied : c.holds ≡ true →
      Runs n put (taken + 1) (set homes (taken % n) (some None)) p (record c { taken = c.taken + 1; holds = false })
  emptied busy =
      let known = r.may_take busy in
      let long : length put ≡ length c.put + length r.seen.0 = ap length r.seen.1 ∙ length-append c.put r.seen.0 in
      let waits : taken < length put = omega arith in
      record {
        room = r.room;
        size = length-set homes (taken % n) (some None) ∙ r.size;
        order = omega arith;
        within = omega (arith, r.within);
        limit = r.limit;
        producer = r.producer;
        puts = r.puts;
        gone = let e = r.gone in omega arith;
        may_put = λ h. let m = r.may_put h in (omega (arith, m.0), m.1);
        consumer = r.consumer;
        takes = ap (λ t. t + 1) r.takes;
        seen = r.seen;
        known = omega arith;
        may_take = λ h. absurd (true≢false (sym h));
        full = λ i y from at _.
            let below = at_below put i y at in
            set_else homes (taken % n) (i % n) (some None)
            (λ e. other_cell taken i n (omega arith) (omega (arith, r.within)) (sym e))
            ∙ r.full i y (omega arith) at (λ _. λ e. omega arith);
        free = λ i from to not. dite (ℕ_discrete i (taken + n))
            (λ last. let same : (i % n) ≡ (taken % n) = ap (λ j. j % n) last ∙ add-mod_right taken n in
            ap (λ j. get_elem? (set homes (taken % n) (some None)) j) same
            ∙ set_here homes (taken % n) (some None) (cell taken))
            (λ ne.
            set_else homes (taken % n) (i % n) (some None)
            (λ e. other_cell taken i n (omega arith) (omega (arith, ne)) (sym e))
            ∙ r.free i from (omega (arith, ne)) not);
      }
