-- The shares that passes have of one table.
use Rattle.std.proofs.Common.{◌≡◌, ◌≢◌, ℕ, zero, suc, ◌+◌, ◌*◌, ◌-◌, ◌^◌, ◌<◌, ◌≤◌, List, [], ◌∷◌, ◌++◌, map, length}
use Rattle.std.proofs.Common.{set, get_or, refl, sym, ap, ◌∙◌, subst, arith, lt_of_not-le}
use Rattle.std.specs.Prelude.{sum_by}
use Rattle.std.proofs.Math.Nat.{pow-suc}
use Rattle.std.proofs.lemmas.List.Sums.{sum_by-cons, sum_by-append, sum_by_push}
use mathlib.Core.Logic.{dite}
use native.Mathlib.Decide.{ℕ_discrete, dec_le}
use mathlib.Core.Option.{some, some-injective, some-ne-none}
use lib.ListN.{get_elem?}
use Rattle.atomic_table.specs.Table.{State}
use Rattle.atomic_table.proofs.Lists.{at_longer}
use Rattle.sysv_lists.specs.Numbers.{times}
use Rattle.sysv_lists.proofs.Counting.{times-same}
use Rattle.sysv_lists.proofs.Places.{set_at, set_else, one_there, each_before}
use Rattle.sysv_lists.proofs.Sums.{sum_by-set_at, two-le-sum_by, some_part}
use Rattle.sysv_gate.specs.declared.table.view.View.{View}
use Rattle.sysv_gate.specs.declared.table.view.Turn.{Turn}
use Rattle.sysv_gate.specs.declared.table.view.Placed.{Placed}
use Rattle.sysv_gate.specs.declared.table.view.Sight.{Sight}
use Rattle.sysv_gate.specs.History.{made_at}
use Rattle.sysv_gate.specs.Orders.{turns_at}
use Rattle.sysv_gate.specs.Shares.{AreWithin, parts, IsWhole, half}
use Rattle.sysv_gate.specs.Rule.{Spot, bearers}
use Rattle.sysv_gate.specs.Steps as gate
use Rattle.sysv_gate.specs.Tables.{view_at, state_at, AreTheWhole, Kept}

-- An element of a mapped list.
map_at : {A B : Type 0} (f : A → B) (xs : List A) (i : ℕ) (b : B) → get_elem? (map f xs) i ≡ some b →
    (a : A) × (get_elem? xs i ≡ some a) × (f a ≡ b)
map_at f [] i b at = absurd (some-ne-none b (sym at))
map_at f (x ∷ xs) zero b at = (x, refl, some-injective (f x) b at)
map_at f (x ∷ xs) (suc i) b at = map_at f xs i b at

-- ---- one share

some_power : (n : ℕ) → 1 ≤ 2 ^ n
some_power zero = omega arith
some_power (suc n) = let r = some_power n in let twice = pow-suc 2 n in omega arith

within_front : (depth : ℕ) (xs ys : List ℕ) → AreWithin depth (xs ++ ys) → AreWithin depth xs
within_front depth [] ys all = tt
within_front depth (x ∷ xs) ys all = (all.0, within_front depth xs ys all.1)

within_back : (depth : ℕ) (xs ys : List ℕ) → AreWithin depth (xs ++ ys) → AreWithin depth ys
within_back depth [] ys all = all
within_back depth (x ∷ xs) ys all = within_back depth xs ys all.1

within_half : (depth : ℕ) (xs : List ℕ) → AreWithin depth (half xs) → AreWithin depth xs
within_half depth [] all = tt
within_half depth (x ∷ xs) all = let first = all.0 in (omega arith, within_half depth xs all.1)

parts_half : (depth : ℕ) (xs : List ℕ) → AreWithin depth (half xs) →
    parts depth (half xs) + parts depth (half xs) ≡ parts depth xs
parts_half depth [] all = refl
parts_half depth (x ∷ xs) all =
    let less = all.0 in
    let next : depth - x ≡ suc (depth - suc x) = omega arith in
    let twice : 2 ^ (depth - x) ≡ 2 ^ (depth - suc x) * 2 = ap (λ (n : ℕ). 2 ^ n) next ∙ pow-suc 2 (depth - suc x) in
    let rest = parts_half depth xs all.1 in
    let one = sum_by-cons (λ (d : ℕ). 2 ^ (depth - d)) (suc x) (half xs) in
    let two = sum_by-cons (λ (d : ℕ). 2 ^ (depth - d)) x xs in
    omega arith

-- A share without parts is empty.
no_parts : (depth : ℕ) (xs : List ℕ) → parts depth xs ≡ 0 → xs ≡ []
no_parts depth [] none = refl
no_parts depth (x ∷ xs) none =
    let some_left = some_power (depth - x) in
    let all = sum_by-cons (λ (d : ℕ). 2 ^ (depth - d)) x xs in
    absurd (omega arith)

pub half_none : (xs : List ℕ) → half xs ≡ [] → xs ≡ []
half_none [] none = refl
half_none (x ∷ xs) none = absurd (cc)

pub front_none : (xs ys : List ℕ) → xs ++ ys ≡ [] → xs ≡ []
front_none [] ys none = refl
front_none (x ∷ xs) ys none = absurd (cc)

-- The first pass has the whole.
pub whole_first : IsWhole (0 ∷ [])
whole_first depth within =
    let only = sum_by-cons (λ (d : ℕ). 2 ^ (depth - d)) 0 [] in
    let low : depth - 0 ≡ depth = omega arith in
    let all = ap (λ (n : ℕ). 2 ^ n) low in
    omega arith

-- There is a depth that is at least every depth of the share.
deepest : (xs : List ℕ) → (depth : ℕ) × ((k : ℕ) → depth ≤ k → AreWithin k xs)
deepest [] = (0, λ k le. tt)
deepest (x ∷ xs) = let r = deepest xs in let d : ℕ = r.0 in (x + d, λ k le. (omega arith, r.1 k (omega arith)))

-- ---- the shares of all passes

module _ {O C R : Type 0} where
  -- The shares of the first pass alone are the whole.
  pub first_whole : (v : Sight O C R) (depth : ℕ) → v.shares ≡ 0 ∷ [] →
      sum_by (λ (u : Sight O C R). parts depth u.shares) (v ∷ []) ≡ 2 ^ depth
  first_whole v depth is =
      let one = sum_by-cons (λ (u : Sight O C R). parts depth u.shares) v [] in
      let here = ap (parts depth) is in
      let all = whole_first depth (omega arith, tt) in
      omega arith

  -- A pass changes and keeps its share.
  pub still_whole : (sights : List (Sight O C R)) (id : ℕ) (v w : Sight O C R) → get_elem? sights id ≡ some v →
      w.shares ≡ v.shares → AreTheWhole sights → AreTheWhole (set sights id w)
  still_whole sights id v w at same all depth within =
      let sums = sum_by-set_at (λ (u : Sight O C R). parts depth u.shares) sights id v w at in
      let here = ap (parts depth) same in
      let old = all depth
      (each_before (λ (u : Sight O C R). AreWithin depth u.shares) sights id v w at within
      (subst (AreWithin depth) same (within id w (set_at sights id v w at)))) in
      omega arith

  -- A pass gives half of its share to a new pass.
  pub split_whole : (sights : List (Sight O C R)) (id : ℕ) (v left right : Sight O C R) → get_elem? sights id ≡ some v →
      left.shares ≡ half v.shares → right.shares ≡ half v.shares → AreTheWhole sights →
      AreTheWhole (set sights id left ++ right ∷ [])
  split_whole sights id v left right at same same' all depth within =
      let middle : List (Sight O C R) = set sights id left in
      let inside : (k : ℕ) (u : Sight O C R) → get_elem? middle k ≡ some u → AreWithin depth u.shares =
      (λ k u there. within k u (at_longer middle (right ∷ []) k u there)) in
      let low : AreWithin depth (half v.shares) =
      subst (AreWithin depth) same (inside id left (set_at sights id v left at)) in
      let old = all depth
      (each_before (λ (u : Sight O C R). AreWithin depth u.shares) sights id v left at inside
      (within_half depth v.shares low)) in
      let sums = sum_by-set_at (λ (u : Sight O C R). parts depth u.shares) sights id v left at in
      let last = sum_by_push (λ (u : Sight O C R). parts depth u.shares) middle right in
      let one = ap (parts depth) same in
      let two = ap (parts depth) same' in
      let halves = parts_half depth v.shares low in
      omega arith

  -- A pass is joined into another, with its share.
  pub joined_whole : (sights : List (Sight O C R)) (id other : ℕ) (v w both none : Sight O C R) → other ≢ id
      → get_elem? sights id ≡ some v → get_elem? (set sights id both) other ≡ some w
      → both.shares ≡ v.shares ++ w.shares → none.shares ≡ [] → AreTheWhole sights
      → AreTheWhole (set (set sights id both) other none)
  joined_whole sights id other v w both none apart at there same bare all depth within =
      let middle : List (Sight O C R) = set sights id both in
      let mine : get_elem? (set middle other none) id ≡ some both =
      set_else middle other id none (λ e. apart (sym e)) ∙ set_at sights id v both at in
      let low : AreWithin depth (v.shares ++ w.shares) = subst (AreWithin depth) same (within id both mine) in
      let inside = each_before (λ (u : Sight O C R). AreWithin depth u.shares) middle other w none there within
      (within_back depth v.shares w.shares low) in
      let old = all depth
      (each_before (λ (u : Sight O C R). AreWithin depth u.shares) sights id v both at inside
      (within_front depth v.shares w.shares low)) in
      let sums = sum_by-set_at (λ (u : Sight O C R). parts depth u.shares) sights id v both at in
      let sums' = sum_by-set_at (λ (u : Sight O C R). parts depth u.shares) middle other w none there in
      let one = ap (parts depth) same in
      let two : parts depth none.shares ≡ 0 = ap (parts depth) bare in
      let sum = sum_by-append (λ (d : ℕ). 2 ^ (depth - d)) v.shares w.shares in
      omega arith

  -- There is a depth that is at least every depth of any pass.
  deepest_of : (sights : List (Sight O C R)) →
      (depth : ℕ)
      × ((k : ℕ) → depth ≤ k → (id : ℕ) (v : Sight O C R) → get_elem? sights id ≡ some v → AreWithin k v.shares)
  deepest_of [] = (0, λ k le id v at. absurd (some-ne-none v (sym at)))
  deepest_of (x ∷ xs) =
      let one = deepest x.shares in
      let rest = deepest_of xs in
      let a : ℕ = one.0 in
      let b : ℕ = rest.0 in
      (a + b, λ k le id v at. each k (one.1 k (omega arith)) (rest.1 k (omega arith)) id v at)
    where
      each : (k : ℕ) → AreWithin k x.shares →
          ((id : ℕ) (v : Sight O C R) → get_elem? xs id ≡ some v → AreWithin k v.shares) → (id : ℕ) (v : Sight O C R) →
          get_elem? (x ∷ xs) id ≡ some v → AreWithin k v.shares
      each k here there zero v at = subst (λ (u : Sight O C R). AreWithin k u.shares) (some-injective x v at) here
      each k here there (suc id) v at = there id v at

  -- ---- all passes have been joined

  -- If one pass has the whole, no other pass has a share.
  pub others_shareless : (sights : List (Sight O C R)) (id k : ℕ) (v w : Sight O C R) → AreTheWhole sights →
      IsWhole v.shares → k ≢ id → get_elem? sights id ≡ some v → get_elem? sights k ≡ some w → w.shares ≡ []
  others_shareless sights id k v w all whole apart at there =
      let deep = deepest_of sights in
      let depth : ℕ = deep.0 in
      let within = deep.1 depth (omega arith) in
      let sum = all depth within in
      let mine = whole depth (within id v at) in
      let two = two-le-sum_by (λ (u : Sight O C R). parts depth u.shares) sights id k v w apart at there in
      no_parts depth w.shares (omega arith)

  -- The maker of a turn.
  maker : (log : List (Turn O C R)) (j : ℕ) → j < length log →
      (x : ℕ) × ((numbers : List ℕ) → made_at numbers log j ≡ times x numbers)
  maker [] j less = absurd (omega arith)
  maker (t ∷ ts) zero less = (t.by, λ numbers. refl)
  maker (t ∷ ts) (suc j) less = maker ts j (omega arith)

  -- If a pass has the whole, each turn was made under one of its numbers.
  pub all_mine : (moves : O → C → R → O → Type 0) (counted : O → ℕ × ℕ) (openings : List O) (first : ℕ)
      (order : List (Placed O C R)) (s : State (Spot O C R) (Sight O C R)) (id : ℕ) (v : Sight O C R)
      → Kept moves counted openings first order s
      → get_elem? s.views id ≡ some v → IsWhole v.shares → (place : ℕ) (o : O) → get_elem? openings place ≡ some o
      → (j : ℕ) → j < length (turns_at place order) → 1 ≤ made_at (view_at place v).numbers (turns_at place order) j
  all_mine moves counted openings first order s id v kept at whole place o opens j less =
      let log : List (Turn O C R) = turns_at place order in
      let made = maker log j less in
      let x : ℕ = made.0 in
      let there = (kept.each place o opens).3 in
      let views : List (View O C R) = (state_at place s).views in
      dite (dec_le 1 (bearers x views))
      (λ some_bearer.
      let holder = some_part (λ (u : View O C R). times x u.numbers) views some_bearer in
      let from = map_at (view_at place) s.views holder.0 holder.1 holder.2 in
      let holds : 1 ≤ times x (view_at place from.0).numbers =
      subst (λ (u : View O C R). 1 ≤ times x u.numbers) (sym from.2) holder.3 in
      let mine : 1 ≤ times x (view_at place v).numbers =
      dite (ℕ_discrete holder.0 id)
      (λ e.
      subst (λ (u : Sight O C R). 1 ≤ times x (view_at place u).numbers)
      (one_there s.views id holder.0 v from.0 e at from.1) holds)
      (λ ne.
      let bare : from.0.views ≡ [] = (kept.full holder.0 from.0 from.1).shareless
      (others_shareless s.views id holder.0 v from.0 kept.shared whole ne at from.1) in
      let none : times x (view_at place from.0).numbers ≡ 0 = nobody x place from.0 bare in
      absurd (omega arith)) in
      let is = made.1 (view_at place v).numbers in
      omega arith)
      (λ nd.
      let fewer : bearers x views < 1 = lt_of_not-le nd in
      let none = there.known x (omega arith) j in
      let is = made.1 (x ∷ []) in
      let same = times-same x in
      absurd (omega arith))
    where
      nobody : (x place : ℕ) (u : Sight O C R) → u.views ≡ [] → times x (view_at place u).numbers ≡ 0
      nobody x place u bare = ap (λ (vs : List (View O C R)). times x (get_or vs place gate.spent).numbers) bare

  -- If a pass has the whole and holds no ticket at the place, no pass does.
  pub none_out : (moves : O → C → R → O → Type 0) (counted : O → ℕ × ℕ) (openings : List O) (first : ℕ)
      (order : List (Placed O C R)) (s : State (Spot O C R) (Sight O C R)) (id : ℕ) (v : Sight O C R)
      → Kept moves counted openings first order s
      → get_elem? s.views id ≡ some v → IsWhole v.shares → (place : ℕ) → (view_at place v).tickets ≡ []
      → (i : ℕ) (u : View O C R) → get_elem? (state_at place s).views i ≡ some u → u.tickets ≡ []
  none_out moves counted openings first order s id v kept at whole place empty i u there =
      let from = map_at (view_at place) s.views i u there in
      let same : u.tickets ≡ (view_at place from.0).tickets = ap (λ (w : View O C R). w.tickets) (sym from.2) in
      same
      ∙ dite (ℕ_discrete i id)
      (λ e. ap (λ (x : Sight O C R). (view_at place x).tickets) (one_there s.views id i v from.0 e at from.1) ∙ empty)
      (λ ne.
      let bare : from.0.views ≡ [] =
      (kept.full i from.0 from.1).shareless (others_shareless s.views id i v from.0 kept.shared whole ne at from.1) in
      ap (λ (vs : List (View O C R)). (get_or vs place gate.spent).tickets) bare)
