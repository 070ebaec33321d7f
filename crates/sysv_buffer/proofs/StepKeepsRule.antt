-- Proves that each kind of step keeps the rule of a `OneBuffer`.
use Rattle.std.proofs.Common.{◌≡◌, ℕ, zero, suc, ◌+◌, ◌%◌, ◌^◌, ◌<◌, ◌≤◌, true, false, List, [], ◌∷◌, ◌++◌, ◌⊎◌, inl}
use Rattle.std.proofs.Common.{inr, ⊎_elim, length, set, get_or, refl, sym, ap, ◌∙◌, subst, arith, length-set}
use Rattle.std.proofs.Common.{length-append, get_or-set_same, get_or-set_other, Option, Some, None}
use mathlib.Core.Option.{none, some, some-injective, some-ne-none}
use lib.ListN.{get_elem?}
use Rattle.std.proofs.Math.Nat.{mod-eq_of_lt}
use Rattle.atomic_table.specs.Table.{State, step, keeps, takes, gives, Allows}
use Rattle.sysv_buffer.specs.declared.view.View.{View}
use Rattle.sysv_buffer.specs.declared.view.Role.{Role}
use Rattle.sysv_buffer.specs.declared.view.Role.TheVariants.{Both, Producer, Consumer}
use Rattle.sysv_buffer.specs.Ring.{Homes, Runs, Going, Kept, start}
use Rattle.sysv_buffer.specs.Steps.{Mine, holding, seeing, CountsIn, Reaches, Puts, CountsOut, Looks, Takes}
use Rattle.sysv_lists.proofs.Orders.{at_most}
use Rattle.sysv_buffer.proofs.CellsOutAndBack.{saw, reached, put_in, grabbed, emptied}

unlike : (a b : Role) → a ≡ b → a ≡ Consumer → b ≡ Producer → ⊥
unlike a b same x y = cc

pub both_consumer : (a : Role) → a ≡ Both → a ≡ Consumer → ⊥
both_consumer a x y = cc

pub both_producer : (a : Role) → a ≡ Both → a ≡ Producer → ⊥
both_producer a x y = cc

module _ {T : Type 0} where
  -- The end that a view belongs to.
  pub which : (p c v : View T) (id : ℕ) → get_elem? (p ∷ c ∷ []) id ≡ some v →
      ((id ≡ 0) × (p ≡ v)) ⊎ ((id ≡ 1) × (c ≡ v))
  which p c v zero at = inl (refl, some-injective p v at)
  which p c v (suc zero) at = inr (refl, some-injective c v at)
  which p c v (suc (suc id)) at = absurd (some-ne-none v (sym at))

  pub alone : (u v : View T) (id : ℕ) → get_elem? (u ∷ []) id ≡ some v → (id ≡ 0) × (u ≡ v)
  alone u v zero at = (refl, some-injective u v at)
  alone u v (suc id) at = absurd (some-ne-none v (sym at))

  pub at_producer : (s : State (Option T) (View T)) (id : ℕ) (v : View T) → Kept s → get_elem? s.views id ≡ some v →
      v.role ≡ Producer → (g : Going s) × (id ≡ 0) × (g.p ≡ v)
  at_producer s id v held at role = ⊎_elim
      (λ fresh.
      let w = alone start v id (ap (λ l. get_elem? l id) (sym fresh.ends) ∙ at) in
      absurd (both_producer v.role (ap (λ (u : View T). u.role) (sym w.1)) role))
      (λ g.
      ⊎_elim (λ w. (g, w.0, w.1))
      (λ w. absurd (unlike g.c.role v.role (ap (λ (u : View T). u.role) w.1) g.runs.consumer role))
      (which g.p g.c v id (ap (λ l. get_elem? l id) (sym g.ends) ∙ at)))
      held

  pub at_consumer : (s : State (Option T) (View T)) (id : ℕ) (v : View T) → Kept s → get_elem? s.views id ≡ some v →
      v.role ≡ Consumer → (g : Going s) × (id ≡ 1) × (g.c ≡ v)
  at_consumer s id v held at role = ⊎_elim
      (λ fresh.
      let w = alone start v id (ap (λ l. get_elem? l id) (sym fresh.ends) ∙ at) in
      absurd (both_consumer v.role (ap (λ (u : View T). u.role) (sym w.1)) role))
      (λ g.
      ⊎_elim (λ w. absurd (unlike v.role g.p.role (ap (λ (u : View T). u.role) (sym w.1)) role g.runs.producer))
      (λ w. (g, w.0, w.1))
      (which g.p g.c v id (ap (λ l. get_elem? l id) (sym g.ends) ∙ at)))
      held

  -- A step on IN, and a step on OUT.
  on_in : (s : State (Option T) (View T)) (g : Going s) (m : ℕ) (put : List T) (homes : Homes T) (views : List (View T))
      (p c : View T) → m ≡ length put → views ≡ p ∷ c ∷ []
      → Runs (length s.homes) put g.taken homes p c
      → Kept record { words = set s.words 0 m; homes = homes; views = views }
  on_in s g m put homes views p c counts ends r = inr (record {
    put = put;
    taken = g.taken;
    p = p;
    c = c;
    wide = length-set s.words 0 m ∙ g.wide;
    in_word = get_or-set_same s.words 0 m 0 (omega (arith, g.wide)) ∙ counts;
    out_word = get_or-set_other s.words 0 16 m 0 (λ e. omega arith) ∙ g.out_word;
    ends = ends;
    runs = subst (λ n. Runs n put g.taken homes p c) (sym r.size) r;
  })

  on_out : (s : State (Option T) (View T)) (g : Going s) (m : ℕ) (taken : ℕ) (homes : Homes T) (views : List (View T))
      (p c : View T) → m ≡ taken → views ≡ p ∷ c ∷ []
      → Runs (length s.homes) g.put taken homes p c
      → Kept record { words = set s.words 16 m; homes = homes; views = views }
  on_out s g m taken homes views p c counts ends r = inr (record {
    put = g.put;
    taken = taken;
    p = p;
    c = c;
    wide = length-set s.words 16 m ∙ g.wide;
    in_word = get_or-set_other s.words 16 0 m 0 (λ e. omega arith) ∙ g.in_word;
    out_word = get_or-set_same s.words 16 m 0 (omega (arith, g.wide)) ∙ counts;
    ends = ends;
    runs = subst (λ n. Runs n g.put taken homes p c) (sym r.size) r;
  })

  first_view : (s : State (Option T) (View T)) (g : Going s) (id : ℕ) (w : View T) → id ≡ 0 →
      set s.views id w ≡ w ∷ g.c ∷ []
  first_view s g id w is = ap (λ i. set s.views i w) is ∙ ap (λ l. set l 0 w) g.ends

  second_view : (s : State (Option T) (View T)) (g : Going s) (id : ℕ) (w : View T) → id ≡ 1 →
      set s.views id w ≡ g.p ∷ w ∷ []
  second_view s g id w is = ap (λ i. set s.views i w) is ∙ ap (λ l. set l 1 w) g.ends

  pub counts_in : (slots id : ℕ) (me : Mine T) → me.0.role ≡ Producer →
      Allows Kept slots id me 0 (λ n. n) (CountsIn (step slots 0 0 0 none) me)
  counts_in slots id me role s held size at small =
      let w = at_producer s id me.0 held at role in
      let g = w.0 in
      let r : Runs (length s.homes) g.put g.taken s.homes me.0 g.c =
      subst (λ q. Runs (length s.homes) g.put g.taken s.homes q g.c) w.2 g.runs in (
        me.0,
        keeps,
        tt,
        on_in s g (get_or s.words 0 0) g.put s.homes (set s.views id me.0) me.0 g.c g.in_word
            (first_view s g id me.0 w.1) r,
        (refl, g.in_word ∙ ap length (sym r.puts)),
      )

  pub counts_out : (slots id : ℕ) (me : Mine T) → me.0.role ≡ Consumer →
      Allows Kept slots id me 16 (λ n. n) (CountsOut (step slots 16 0 0 none) me)
  counts_out slots id me role s held size at small =
      let w = at_consumer s id me.0 held at role in
      let g = w.0 in
      let r : Runs (length s.homes) g.put g.taken s.homes g.p me.0 =
      subst (λ q. Runs (length s.homes) g.put g.taken s.homes g.p q) w.2 g.runs in (
        me.0,
        keeps,
        tt,
        on_out s g (get_or s.words 16 0) g.taken s.homes (set s.views id me.0) g.p me.0 g.out_word
            (second_view s g id me.0 w.1) r,
        (refl, g.out_word ∙ sym r.takes),
      )

  pub reaches : (slots id : ℕ) (me : Mine T) → me.0.role ≡ Producer → me.0.holds ≡ false → length me.0.put < 2 ^ 62 →
      Allows Kept slots id me 16 (λ n. n) (Reaches (step slots 16 0 0 none) me)
  reaches slots id me role idle less s held size at small =
      let w = at_producer s id me.0 held at role in
      let g = w.0 in
      let n : ℕ = get_or s.words 16 0 in
      let r : Runs (length s.homes) g.put g.taken s.homes me.0 g.c =
      subst (λ q. Runs (length s.homes) g.put g.taken s.homes q g.c) w.2 g.runs in
      let long : length me.0.put ≡ length g.put = ap length r.puts in
      let below : n ≤ length me.0.put = omega (arith, g.out_word, r.order) in
      let v : View T = seeing n me.0 in
      let r' : Runs (length s.homes) g.put g.taken s.homes v g.c =
      saw (length s.homes) g.put g.taken s.homes me.0 g.c r n (omega (arith, g.out_word)) in
      ⊎_elim
      (λ full. (
        v,
        keeps,
        tt,
        on_out s g n g.taken s.homes (set s.views id v) v g.c g.out_word (first_view s g id v w.1) r',
        (below, (λ room. absurd (omega arith)), λ _. refl),
      ))
      (λ room.
      let k : ℕ = length me.0.put % slots in
      let same : (length g.put % length s.homes) ≡ k =
      ap (λ m. m % length s.homes) (sym long) ∙ ap (λ m. length me.0.put % m) size in
      let more : length g.put < g.taken + length s.homes = omega (arith, g.out_word) in
      let go = reached (length s.homes) g.put g.taken s.homes v g.c r' idle more (omega arith) in (
        holding v,
        takes k None,
        subst (λ j. get_elem? s.homes j ≡ some (some None)) same go.0,
        on_out s g n g.taken (set s.homes k none) (set s.views id (holding v)) (holding v) g.c g.out_word
            (first_view s g id (holding v) w.1)
            (subst (λ j. Runs (length s.homes) g.put g.taken (set s.homes j none) (holding v) g.c) same go.1),
        (below, (λ _. refl), λ full. absurd (omega arith)),
      ))
      (at_most (n + slots) (length me.0.put))

  puts_at : (slots id : ℕ) (v : View T) (k : ℕ) (x : T) → v.role ≡ Producer → v.holds ≡ true → k ≡ length v.put % slots
      → Allows Kept slots id (v, (k, Some x) ∷ []) 0 (λ n. (n + 1) % 18446744073709551616)
      (Puts (step slots 0 1 0 none) (v, (k, Some x) ∷ []))
  puts_at slots id v k x role busy cell s held size at small =
      let w = at_producer s id v held at role in
      let g = w.0 in
      let n : ℕ = get_or s.words 0 0 in
      let r : Runs (length s.homes) g.put g.taken s.homes v g.c =
      subst (λ q. Runs (length s.homes) g.put g.taken s.homes q g.c) w.2 g.runs in
      let long : length v.put ≡ length g.put = ap length r.puts in
      let low = (r.may_put busy).1 in
      let same : (length g.put % length s.homes) ≡ k =
      ap (λ m. m % length s.homes) (sym long) ∙ ap (λ m. length v.put % m) size ∙ sym cell in
      let next : (n + 1) % 18446744073709551616 ≡ n + 1 =
      mod-eq_of_lt {n = n + 1} {m = 18446744073709551616} (omega (arith, g.in_word)) in
      let u : View T = record v { put = v.put ++ x ∷ []; holds = false } in (
        u,
        gives,
        tt,
        on_in s g ((n + 1) % 18446744073709551616) (g.put ++ x ∷ []) (set s.homes k (some (Some x))) (set s.views id u)
            u g.c
            (next ∙ (omega (arith, g.in_word, length-append g.put (x ∷ [])))) (first_view s g id u w.1)
            (subst (λ j. Runs (length s.homes) (g.put ++ x ∷ []) g.taken (set s.homes j (some (Some x))) u g.c) same
            (put_in (length s.homes) g.put g.taken s.homes v g.c r x busy)),
        refl,
      )

  pub puts : (slots id : ℕ) (m : Mine T) (v : View T) (k : ℕ) (x : T) → m ≡ (v, (k, Some x) ∷ []) → v.role ≡ Producer
      → v.holds ≡ true → k ≡ length v.put % slots
      → Allows Kept slots id m 0 (λ n. (n + 1) % 18446744073709551616) (Puts (step slots 0 1 0 none) m)
  puts slots id m v k x is role busy cell =
      subst (λ (y : Mine T).
      Allows Kept slots id y 0 (λ n. (n + 1) % 18446744073709551616) (Puts (step slots 0 1 0 none) y))
      (sym is) (puts_at slots id v k x role busy cell)

  pub looks : (slots id : ℕ) (me : Mine T) → me.0.role ≡ Consumer → me.0.holds ≡ false →
      Allows Kept slots id me 0 (λ n. n) (Looks (step slots 0 0 0 none) me)
  looks slots id me role idle s held size at small =
      let w = at_consumer s id me.0 held at role in
      let g = w.0 in
      let n : ℕ = get_or s.words 0 0 in
      let r : Runs (length s.homes) g.put g.taken s.homes g.p me.0 =
      subst (λ q. Runs (length s.homes) g.put g.taken s.homes g.p q) w.2 g.runs in
      ⊎_elim
      (λ none_left. (
        me.0,
        keeps,
        tt,
        on_in s g n g.put s.homes (set s.views id me.0) g.p me.0 g.in_word (second_view s g id me.0 w.1) r,
        (
          (λ waits. absurd (omega arith)),
          λ _. (
            refl,
            omega (arith, g.in_word, r.order, r.takes),
            let long = ap length r.seen.1 ∙ length-append me.0.put r.seen.0 in omega (arith, g.in_word),
          ),
        ),
      ))
      (λ waits.
      let k : ℕ = me.0.taken % slots in
      let same : (g.taken % length s.homes) ≡ k =
      ap (λ m. m % length s.homes) (sym r.takes) ∙ ap (λ m. me.0.taken % m) size in
      let go = grabbed (length s.homes) g.put g.taken s.homes g.p me.0 r idle (omega (arith, g.in_word, r.takes)) in
      let x = go.0 in
      let u : View T = record me.0 { put = g.put; holds = true } in (
        u,
        takes k (Some x),
        subst (λ j. get_elem? s.homes j ≡ some (some (Some x))) same go.2,
        on_in s g n g.put (set s.homes k none) (set s.views id u) g.p u g.in_word (second_view s g id u w.1)
            (subst (λ j. Runs (length s.homes) g.put g.taken (set s.homes j none) g.p u) same go.3),
        (
          (λ _. record {
            put = g.put;
            more = r.seen.0;
            longer = r.seen.1;
            item = x;
            at = ap (λ j. get_elem? g.put j) r.takes ∙ go.1;
            is = refl;
          }),
          λ none_left. absurd (omega arith),
        ),
      ))
      (at_most n me.0.taken)

  takes_at : (slots id : ℕ) (v : View T) (k : ℕ) → v.role ≡ Consumer → v.holds ≡ true → k ≡ v.taken % slots
      → Allows Kept slots id (v, (k, None) ∷ []) 16 (λ n. (n + 1) % 18446744073709551616)
      (Takes (step slots 16 1 0 none) (v, (k, None) ∷ []))
  takes_at slots id v k role busy cell s held size at small =
      let w = at_consumer s id v held at role in
      let g = w.0 in
      let n : ℕ = get_or s.words 16 0 in
      let r : Runs (length s.homes) g.put g.taken s.homes g.p v =
      subst (λ q. Runs (length s.homes) g.put g.taken s.homes g.p q) w.2 g.runs in
      let same : (g.taken % length s.homes) ≡ k =
      ap (λ m. m % length s.homes) (sym r.takes) ∙ ap (λ m. v.taken % m) size ∙ sym cell in
      let next : (n + 1) % 18446744073709551616 ≡ n + 1 =
      mod-eq_of_lt {n = n + 1} {m = 18446744073709551616} (omega (arith, g.out_word, r.order, r.limit)) in
      let u : View T = record v { taken = v.taken + 1; holds = false } in (
        u,
        gives,
        tt,
        on_out s g ((n + 1) % 18446744073709551616) (g.taken + 1) (set s.homes k (some None)) (set s.views id u) g.p u
            (next ∙ (omega (arith, g.out_word))) (second_view s g id u w.1)
            (subst (λ j. Runs (length s.homes) g.put (g.taken + 1) (set s.homes j (some None)) g.p u) same
            (emptied (length s.homes) g.put g.taken s.homes g.p v r busy)),
        refl,
      )

  pub takes' : (slots id : ℕ) (m : Mine T) (v : View T) (k : ℕ) → m ≡ (v, (k, None) ∷ []) → v.role ≡ Consumer
      → v.holds ≡ true → k ≡ v.taken % slots
      → Allows Kept slots id m 16 (λ n. (n + 1) % 18446744073709551616) (Takes (step slots 16 1 0 none) m)
  takes' slots id m v k is role busy cell =
      subst (λ (y : Mine T).
      Allows Kept slots id y 16 (λ n. (n + 1) % 18446744073709551616) (Takes (step slots 16 1 0 none) y))
      (sym is) (takes_at slots id v k role busy cell)
