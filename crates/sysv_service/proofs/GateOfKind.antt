-- What holds of a gate whose objects stay of one kind also holds of it as a gate of that kind.
use Rattle.std.proofs.Common.{◌≡◌, ℕ, zero, suc, ◌+◌, ◌^◌, ◌≤◌, Option, Some, None, IfSome, IfNone, List, [], ◌∷◌, ◌++◌}
use Rattle.std.proofs.Common.{map, length, sum_by, ap, sym, subst, refl, ◌∙◌, arith}
use Rattle.std.specs.Prelude.{option_map}
use Rattle.std.proofs.lemmas.List.{map-append, length-map}
use Rattle.std.proofs.lemmas.List.Sums.{sum_by-cons}
use mathlib.Core.Option.{some, some-injective, some-ne-none}
use lib.ListN.{get_elem?}
use Rattle.atomic_table.proofs.Lists.{at_map}
use Rattle.sysv_lists.specs.Numbers.{times, once_between}
use Rattle.sysv_lists.specs.Prefix.{IsPrefixOf}
use Rattle.sysv_gate.specs.declared.table.view.Turn.{Turn}
use Rattle.sysv_gate.specs.declared.table.view.View.{View}
use Rattle.sysv_gate.specs.declared.gate.closing.Closing.{Closing}
use Rattle.sysv_gate.specs.declared.count.Count.{Count}
use Rattle.sysv_gate.specs.History.{IsLegal, after_all, made_at, HasItsOwn}
use Rattle.sysv_gate.specs.Counts.{of_count}
use Rattle.sysv_gate.specs.Rule.{Homes, put, Fits, bearers, IsKept}
use Rattle.sysv_gate.specs.Gates.{Gateway, Holding, Learns, saw, made, Answers, KnowsItsOwn, IsSplit, Joins}
use Rattle.sysv_gate.specs.Closings.{ATurnIsDue, Closes}
use Rattle.sysv_service.specs.ObjectKinds.{Kind, turn_as, gate_as, seat_as, IsClosingAs}

pub prefix_as : {A B : Type 0} (f : A → B) (xs ys : List A) → IsPrefixOf xs ys → IsPrefixOf (map f xs) (map f ys)
prefix_as f xs ys p = (map f p.0, ap (map f) p.1 ∙ map-append f xs p.0)

sum_as : {A B : Type 0} (f : A → B) (g : B → ℕ) (xs : List A) → sum_by g (map f xs) ≡ sum_by (λ x. g (f x)) xs
sum_as f g [] = refl
sum_as f g (x ∷ xs) =
    sum_by-cons g (f x) (map f xs) ∙ ap (λ n. g (f x) + n) (sum_as f g xs) ∙ sym (sum_by-cons (λ y. g (f y)) x xs)

-- An element of the list that was mapped.
pub back_as : {A B : Type 0} (f : A → B) (xs : List A) (i : ℕ) (b : B) → get_elem? (map f xs) i ≡ some b →
    (a : A) × (get_elem? xs i ≡ some a) × (b ≡ f a)
back_as f [] i b at = absurd (some-ne-none b (sym at))
back_as f (x ∷ xs) zero b at = (x, refl, sym (some-injective (f x) b at))
back_as f (x ∷ xs) (suc i) b at = back_as f xs i b at

-- The object that was mapped.
from_some : {A B : Type 0} (f : A → B) (o : Option A) (b : B) → option_map f o ≡ Some b →
    (a : A) × (o ≡ Some a) × (b ≡ f a)
from_some f (Some a) b is = (a, refl, ap (λ x. elim x [ Some y ↦ y | None ↦ b ]) (sym is))
from_some f None b is = cc

from_none : {A B : Type 0} (f : A → B) (o : Option A) → option_map f o ≡ None → o ≡ None
from_none f (Some a) is = cc
from_none f None is = refl

pub some_then : {A : Type 0} (o : Option A) (P : A → Type 0) → ((a : A) → o ≡ Some a → P a) → IfSome o P
some_then (Some a) P goes = goes a refl
some_then None P goes = tt

pub some_of : {A : Type 0} (o : Option A) (P : A → Type 0) (a : A) → o ≡ Some a → IfSome o P → P a
some_of o P a is has = subst (λ p. IfSome p P) is has

none_then : {A : Type 0} (o : Option A) (P : Type 0) → (o ≡ None → P) → IfNone o P
none_then (Some a) P goes = tt
none_then None P goes = goes refl

none_of : {A : Type 0} (o : Option A) (P : Type 0) → o ≡ None → IfNone o P → P
none_of o P is has = subst (λ p. IfNone p P) is has

module _ {O C R O' C' R' : Type 0} (kind : Kind O C R O' C' R') where
  pub after_as : (o : O) (log : List (Turn O C R)) →
      kind.object (after_all o log) ≡ after_all (kind.object o) (map (turn_as kind) log)
  after_as o [] = refl
  after_as o (t ∷ ts) = after_as t.after ts

  pub made_at_as : (numbers : List ℕ) (log : List (Turn O C R)) (p : ℕ) →
      made_at numbers (map (turn_as kind) log) p ≡ made_at numbers log p
  made_at_as numbers [] p = refl
  made_at_as numbers (t ∷ ts) zero = refl
  made_at_as numbers (t ∷ ts) (suc p) = made_at_as numbers ts p

  pub own_as : (numbers own : List ℕ) (log : List (Turn O C R)) → HasItsOwn numbers own log →
      HasItsOwn numbers own (map (turn_as kind) log)
  own_as numbers own log has = (λ p. has.0 p ∙ sym (made_at_as numbers log p), has.1)

  pub split_as : (h other : Holding O C R) → IsSplit h other → IsSplit (seat_as kind h) (seat_as kind other)
  split_as h other split = (split.0, ap (seat_as kind) split.1, own_as other.numbers other.own other.seen split.2)

  -- A turn of the seat's own, after turns of others.
  pub made_as : (h : Holding O C R) (others : List (Turn O C R)) (call : C) (reply : R) (after : O) →
      seat_as kind (made call reply after (saw others h))
      ≡ made (kind.call call) (kind.reply reply) (kind.object after) (saw (map (turn_as kind) others) (seat_as kind h))
  made_as h others call reply after =
      let t : Turn O C R = record { by = h.number; call = call; reply = reply; after = after } in
      let both = map-append (turn_as kind) h.seen others in
      let seen = map-append (turn_as kind) (h.seen ++ others) (t ∷ []) ∙ ap (λ xs. xs ++ turn_as kind t ∷ []) both in
      let many = sym (length-map (h.seen ++ others) (turn_as kind)) ∙ ap length both in
      let start : Holding O' C' R' = seat_as kind h in
      ap (λ xs. record start { seen = xs; own = h.own ++ length (h.seen ++ others) ∷ [] }) seen
      ∙ ap (λ n. record start {
        seen = (map (turn_as kind) h.seen ++ map (turn_as kind) others) ++ turn_as kind t ∷ [];
        own = h.own ++ n ∷ [];
      }) many

-- ---- legal turns

-- Objects of the kind stay so in legal turns. These turns are legal as turns of the kind, and the
-- objects have the counts of their kind.
pub record Keeps {O C R O' C' R' : Type 0} (kind : Kind O C R O' C' R') (Is : O → Type 0)
    (moves : O → C → R → O → Type 0) (counted : O → ℕ × ℕ) (moves' : O' → C' → R' → O' → Type 0)
    (counted' : O' → ℕ × ℕ) : Type 0 where
  pub goes : (o : O) (call : C) (reply : R) (after : O) → Is o → moves o call reply after →
      moves' (kind.object o) (kind.call call) (kind.reply reply) (kind.object after) × Is after
  pub counts : (o : O) → Is o → counted o ≡ counted' (kind.object o)

module _ {O C R O' C' R' : Type 0} (kind : Kind O C R O' C' R') (Is : O → Type 0) (moves : O → C → R → O → Type 0)
    (counted : O → ℕ × ℕ) (moves' : O' → C' → R' → O' → Type 0) (counted' : O' → ℕ × ℕ)
    (keeps : Keeps kind Is moves counted moves' counted') where
  pub is_after : (o : O) (log : List (Turn O C R)) → Is o → IsLegal moves o log → Is (after_all o log)
  is_after o [] is legal = is
  is_after o (t ∷ ts) is legal = is_after t.after ts (keeps.goes o t.call t.reply t.after is legal.0).1 legal.1

  pub legal_as : (o : O) (log : List (Turn O C R)) → Is o → IsLegal moves o log →
      IsLegal moves' (kind.object o) (map (turn_as kind) log)
  legal_as o [] is legal = tt
  legal_as o (t ∷ ts) is legal =
      let went = keeps.goes o t.call t.reply t.after is legal.0 in (went.0, legal_as t.after ts went.1 legal.1)

  legal_front : (o : O) (xs ys : List (Turn O C R)) → IsLegal moves o (xs ++ ys) → IsLegal moves o xs
  legal_front o [] ys legal = tt
  legal_front o (x ∷ xs) ys legal = (legal.0, legal_front x.after xs ys legal.1)

  -- The counts after legal turns.
  pub counted_as : (o : O) (log : List (Turn O C R)) → Is o → IsLegal moves o log →
      counted (after_all o log) ≡ counted' (after_all (kind.object o) (map (turn_as kind) log))
  counted_as o log is legal =
      keeps.counts (after_all o log) (is_after o log is legal) ∙ ap counted' (after_as kind o log)

  pub knows_as : (h : Holding O C R) → Is h.gate.opening → KnowsItsOwn moves h → KnowsItsOwn moves' (seat_as kind h)
  knows_as h is knows = record {
    legal = legal_as h.gate.opening h.seen is knows.legal;
    own = own_as kind h.numbers h.own h.seen knows.own;
  }

  pub learns_as : (count : Count) (h : Holding O C R) (n : ℕ) → Is h.gate.opening →
      IsLegal moves h.gate.opening h.seen → Learns counted count h n → Learns counted' count (seat_as kind h) n
  learns_as count h n is legal learns =
      (learns.0, subst (λ k. of_count count k ≤ n) (counted_as h.gate.opening h.seen is legal) learns.1)

  pub answers_as : (before : Holding O C R) (call : C) (reply : R) (after : Holding O C R) → Is before.gate.opening
      → Answers moves counted before call reply after
      → Answers moves' counted' (seat_as kind before) (kind.call call) (kind.reply reply) (seat_as kind after)
  answers_as before call reply after is a =
      let gate = ap (λ (h : Holding O C R). h.gate.opening) a.made in
      let seen = ap (λ (h : Holding O C R). h.seen) a.made in
      let o = before.gate.opening in
      let legal = subst (λ xs. IsLegal moves o xs) seen (subst (λ p. IsLegal moves p after.seen) gate a.legal) in
      let front = legal_front o (before.seen ++ a.others) _ legal in
      let counts = counted_as o (before.seen ++ a.others) is front
      ∙ ap (λ xs. counted' (after_all (kind.object o) xs)) (map-append (turn_as kind) before.seen a.others) in
      record {
        others = map (turn_as kind) a.others;
        object = kind.object a.object;
        made = ap (seat_as kind) a.made ∙ made_as kind before a.others call reply a.object;
        legal = legal_as after.gate.opening after.seen (subst Is (sym gate) is) a.legal;
        own = own_as kind after.numbers after.own after.seen a.own;
        counts = λ count. subst (λ k. of_count count before.read ≤ of_count count k) counts (a.counts count);
      }

  -- The same with the earlier turns of others.
  pub others_as : (before : Holding O C R) (call : C) (reply : R) (after : Holding O C R) (is : Is before.gate.opening)
      (a : Answers moves counted before call reply after) →
      (answers_as before call reply after is a).others ≡ map (turn_as kind) a.others
  unfolding answers_as
  others_as before call reply after is a = refl

  pub joins_as : (one two after : Holding O C R) → Is one.gate.opening → Joins moves one two after →
      Joins moves' (seat_as kind one) (seat_as kind two) (seat_as kind after)
  joins_as one two after is j = record {
    seen = map (turn_as kind) j.seen;
    begins_one = prefix_as (turn_as kind) one.seen j.seen j.begins_one;
    begins_two = prefix_as (turn_as kind) two.seen j.seen j.begins_two;
    joined = ap (seat_as kind) j.joined;
    legal = legal_as one.gate.opening j.seen is j.legal;
    own = own_as kind after.numbers after.own j.seen j.own;
  }

  -- ---- a closed gate

  abbrev view_as : View O C R → View O' C' R'
  view_as v = record {
    opening = option_map kind.object v.opening;
    first = v.first;
    number = v.number;
    numbers = v.numbers;
    seen = map (turn_as kind) v.seen;
    also = map (turn_as kind) v.also;
    own = v.own;
    tickets = v.tickets;
    in_turn = v.in_turn;
    worn = v.worn;
    read = v.read;
    announced = v.announced;
    alone = v.alone;
  }

  fits_as : (opening : O) (first : ℕ) (log : List (Turn O C R)) (drawn : ℕ) (v : View O C R) →
      Fits opening first log drawn v → Fits (kind.object opening) first (map (turn_as kind) log) drawn (view_as v)
  fits_as opening first log drawn v fit = record {
    start = λ o is.
        let of = from_some kind.object v.opening o is in
        let s = fit.start of.0 of.1 in
        (of.2 ∙ ap kind.object s.0, s.1);
    seen = prefix_as (turn_as kind) v.seen log fit.seen;
    also = prefix_as (turn_as kind) v.also log fit.also;
    turn = λ yes.
        let t = fit.turn yes in (
          subst (λ n. 1 ≤ times (first + n) v.tickets) (sym (length-map log (turn_as kind))) t.0,
          ap (map (turn_as kind)) t.1,
        );
    own = λ p. fit.own p ∙ sym (made_at_as kind v.numbers log p);
    worn = fit.worn;
  }

  kept_as : (opening : O) (first : ℕ) (log : List (Turn O C R)) (drawn : ℕ) (homes : Homes O C R)
      (views : List (View O C R)) → Is opening → IsKept moves opening first log drawn homes views →
      IsKept moves' (kind.object opening) first (map (turn_as kind) log) drawn
      (some (put (after_all (kind.object opening) (map (turn_as kind) log)) None) ∷ []) (map view_as views)
  kept_as opening first log drawn homes views is k =
      let many = sym (length-map log (turn_as kind)) in
      let borne : (x : ℕ) → bearers x (map view_as views) ≡ bearers x views = λ x.
      sum_as view_as (λ (w : View O' C' R'). times x w.numbers) views in
      record {
        legal = legal_as opening log is k.legal;
        tickets = λ x.
            sum_as view_as (λ (w : View O' C' R'). times x w.tickets) views ∙ k.tickets x
            ∙ ap (λ n. once_between (first + n) drawn x) many;
        order = subst (λ n. first + n ≤ drawn) many k.order;
        limit = k.limit;
        apart = λ x. subst (λ n. n ≤ 1) (sym (borne x)) (k.apart x);
        unused = λ x least. borne x ∙ k.unused x (subst (λ n. n ≤ x) (length-map views view_as) least);
        nameless = λ i w at o known none.
            let v = back_as view_as views i w at in
            let of = from_some kind.object v.0.opening o (ap (λ (u : View O' C' R'). u.opening) (sym v.2) ∙ known) in
            borne i ∙ k.nameless i v.0 v.1 of.0 of.1 (ap (λ (u : View O' C' R'). u.numbers) (sym v.2) ∙ none);
        known = λ x none p. made_at_as kind (x ∷ []) log p ∙ k.known x (sym (borne x) ∙ none) p;
        each = λ i w at.
            let v = back_as view_as views i w at in
            subst (Fits (kind.object opening) first (map (turn_as kind) log) drawn) (sym v.2)
            (fits_as opening first log drawn v.0 (k.each i v.0 v.1));
        home = λ quiet. (None, refl);
        alone = λ i w at yes.
            let v = back_as view_as views i w at in
            let a = k.alone i v.0 v.1 (ap (λ (u : View O' C' R'). u.alone) (sym v.2) ∙ yes) in
            (length-map views view_as ∙ a.0, ap (λ (u : View O' C' R'). u.seen) v.2 ∙ ap (map (turn_as kind)) a.1);
      }

  due_as : (gate : Gateway O) (log : List (Turn O C R)) → Is gate.opening → ATurnIsDue moves gate log →
      ATurnIsDue moves' (gate_as kind gate) (map (turn_as kind) log)
  due_as gate log is due =
      let there = due.4 in
      let views = due.2 in (
        due.0,
        some (put (after_all (kind.object gate.opening) (map (turn_as kind) log)) None) ∷ [],
        map view_as views,
        kept_as gate.opening gate.first log due.0 due.1 views is due.3,
        (
          there.0,
          view_as there.1,
          at_map view_as views there.0 there.1 there.2,
          subst (λ n. 1 ≤ times (gate.first + n) there.1.tickets) (sym (length-map log (turn_as kind))) there.3,
        ),
      )

  pub object_kept : (seat : Holding O C R) (c : Closing O) → Is seat.gate.opening → Closes moves seat c →
      IfSome c.object Is
  object_kept seat c is k = some_then c.object Is
      (λ o there. subst Is (sym (some_of c.object _ o there k.object).0) (is_after seat.gate.opening k.log is k.legal))

  pub closes_as : (seat : Holding O C R) (c : Closing O) (c' : Closing O') → Is seat.gate.opening →
      IsClosingAs kind c c' → Closes moves seat c → Closes moves' (seat_as kind seat) c'
  closes_as seat c c' is same k = record {
    log = map (turn_as kind) k.log;
    legal = legal_as seat.gate.opening k.log is k.legal;
    longer = prefix_as (turn_as kind) seat.seen k.log k.longer;
    own = own_as kind seat.numbers seat.own k.log k.own;
    turns = same.turns ∙ k.turns ∙ sym (length-map k.log (turn_as kind));
    few = subst (λ n. seat.gate.first + n ≤ 2 ^ 62) (sym (length-map k.log (turn_as kind))) k.few;
    object = some_then c'.object _ (λ o there.
        let of = from_some kind.object c.object o (sym same.object ∙ there) in
        let was = some_of c.object _ of.0 of.1 k.object in
        (of.2 ∙ ap kind.object was.0 ∙ after_as kind seat.gate.opening k.log, same.rest was.1));
    due = none_then c'.object _ (λ none.
        due_as seat.gate k.log is (none_of c.object _ (from_none kind.object c.object (sym same.object ∙ none)) k.due));
    drawn =
        let long = length-map k.log (turn_as kind) in
        let ticket = same.next_ticket in
        let from = k.drawn.0 in
        let to = k.drawn.1 in
        (omega arith, omega arith);
    back = (
      (λ back.
          let of = from_some kind.object c.object back.0 (sym same.object ∙ back.1) in
          let long = length-map k.log (turn_as kind) in
          let ticket = same.next_ticket in
          let all = k.back.0 (of.0, of.1) in
          omega arith),
      (λ all.
          let long = length-map k.log (turn_as kind) in
          let ticket = same.next_ticket in
          let was = k.back.1 (omega arith) in
          (kind.object was.0, same.object ∙ ap (option_map kind.object) was.1)),
    );
    worn = λ mark. same.next_ticket ∙ k.worn mark;
    alone = λ yes.
        let a = k.alone yes in (
          ap (map (turn_as kind)) a.0,
          same.object ∙ ap (option_map kind.object) a.1 ∙ ap (λ o. Some o) (after_as kind seat.gate.opening seat.seen),
        );
  }

  -- The same with the turns as those of the kind.
  pub log_as : (seat : Holding O C R) (c : Closing O) (c' : Closing O') (is : Is seat.gate.opening)
      (same : IsClosingAs kind c c') (k : Closes moves seat c) →
      (closes_as seat c c' is same k).log ≡ map (turn_as kind) k.log
  unfolding closes_as
  log_as seat c c' is same k = refl
