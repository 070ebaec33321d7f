-- Proves how a step of one seat of a `ManyBuffer` affects all seats together.
use Rattle.std.proofs.Common.{◌≡◌, ◌≢◌, ℕ, ◌+◌, ◌^◌, ◌<◌, ◌≤◌, true, List, ◌⊎◌, inl, inr, ⊎_elim, length, set, arith}
use Rattle.std.proofs.Common.{lt_of_not-le}
use Rattle.std.specs.Prelude.{sum_by}
use mathlib.Core.Logic.{dite}
use native.Mathlib.Decide.{dec_le}
use mathlib.Core.Option.{some}
use lib.ListN.{get_elem?}
use Rattle.sysv_buffer.specs.declared.view.View.{View}
use Rattle.sysv_buffer.specs.declared.many_view.Sight.{Sight}
use Rattle.sysv_lists.specs.Numbers.{times}
use Rattle.sysv_buffer.specs.ManyRing.{put_at, taken_at, filling, emptying, Knows, Seated}
use Rattle.sysv_lists.proofs.Places.{each_set}
use Rattle.sysv_lists.proofs.Sums.{sum_by-set_at, at-le-sum_by, two-le-sum_by}

-- The places from one number on and below another, each at most once.
abbrev pub News : ℕ → ℕ → (ℕ → ℕ) → Type 0
News from to e = (k : ℕ) → (e k ≤ 1) × (1 ≤ e k → (from ≤ k) × (k < to))

pub no_news : (n : ℕ) → News n n (λ _. 0)
no_news n k = (omega arith, λ h. absurd (omega arith))

module _ {T : Type 0} where
  once : (f : Sight T → ℕ) (views : List (Sight T)) (id : ℕ) (v w : Sight T) (e from to : ℕ) (k : ℕ)
      → get_elem? views id ≡ some v → sum_by f views ≤ 1 → (from ≤ k → sum_by f views ≡ 0)
      → f w ≡ f v + e → e ≤ 1 → (1 ≤ e → (from ≤ k) × (k < to)) → sum_by f (set views id w) ≤ 1
  once f views id v w e from to k at one later is small new =
      let sums = sum_by-set_at f views id v w at in
      dite (dec_le 1 e) (λ d. let zero_before = later (new d).0 in omega arith)
      (λ nd. let less = lt_of_not-le nd in omega arith)

  later : (f : Sight T → ℕ) (views : List (Sight T)) (id : ℕ) (v w : Sight T) (e from to : ℕ) (k : ℕ)
      → get_elem? views id ≡ some v → sum_by f views ≡ 0
      → f w ≡ f v + e → (1 ≤ e → (from ≤ k) × (k < to)) → to ≤ k → sum_by f (set views id w) ≡ 0
  later f views id v w e from to k at none is new far =
      let sums = sum_by-set_at f views id v w at in
      dite (dec_le 1 e) (λ d. let low = (new d).1 in absurd (omega arith))
      (λ nd. let less = lt_of_not-le nd in omega arith)

  holder : (f : Sight T → ℕ) (views : List (Sight T)) (id : ℕ) (v w : Sight T) → get_elem? views id ≡ some v →
      (1 ≤ f w) ⊎ ((1 ≤ sum_by f views) × (f v ≤ f w)) → 1 ≤ sum_by f (set views id w)
  holder f views id v w at way =
      let sums = sum_by-set_at f views id v w at in
      let part = at-le-sum_by f views id v at in
      ⊎_elim (λ one. omega arith) (λ t. let some = t.0 in let le = t.1 in omega arith) way

  -- The knowledge of one seat changes by a step.
  pub record Turned (put : List T) (taken : ℕ) (p c : View T) (put' : List T) (taken' : ℕ) (p' c' : View T)
      (np nt np' nt' : ℕ) (id : ℕ) (views : List (Sight T)) (v w : Sight T) : Type 0 where
    pub at : get_elem? views id ≡ some v
    pub others : (k : ℕ) (u : Sight T) → k ≢ id → get_elem? views k ≡ some u → Knows put taken p c u →
        Knows put' taken' p' c' u
    pub here : Knows put' taken' p' c' w
    pub put_order : length put' ≤ np'
    pub put_grows : np ≤ np'
    pub put_limit : np' ≤ 2 ^ 62
    pub taken_order : taken' ≤ nt'
    pub taken_grows : nt ≤ nt'
    pub new_put : ℕ → ℕ
    pub news_put : News np np' new_put
    pub is_put : (k : ℕ) → put_at k w ≡ put_at k v + new_put k
    pub new_taken : ℕ → ℕ
    pub news_taken : News nt nt' new_taken
    pub is_taken : (k : ℕ) → taken_at k w ≡ taken_at k v + new_taken k
    pub fills : p'.holds ≡ true → (1 ≤ filling w) ⊎ ((p.holds ≡ true) × (filling v ≤ filling w))
    pub empties : c'.holds ≡ true → (1 ≤ emptying w) ⊎ ((c.holds ≡ true) × (emptying v ≤ emptying w))

  pub stays : (put : List T) (taken : ℕ) (p c : View T) (put' : List T) (taken' : ℕ) (p' c' : View T)
      (np nt np' nt' : ℕ) (id : ℕ) (views : List (Sight T)) (v w : Sight T)
      → Seated put taken p c np nt views → Turned put taken p c put' taken' p' c' np nt np' nt' id views v w
      → Seated put' taken' p' c' np' nt' (set views id w)
  stays put taken p c put' taken' p' c' np nt np' nt' id views v w s t = record {
    each = each_set (Knows put taken p c) (Knows put' taken' p' c') views id w s.each t.others t.here;
    put_once = λ k.
        once (put_at k) views id v w (t.new_put k) np np' k t.at (s.put_once k) (s.put_later k) (t.is_put k)
        (t.news_put k).0 (t.news_put k).1;
    put_later = λ k far.
        later (put_at k) views id v w (t.new_put k) np np' k t.at (s.put_later k (let g = t.put_grows in omega arith))
        (t.is_put k) (t.news_put k).1 far;
    put_order = t.put_order;
    put_limit = t.put_limit;
    taken_once = λ k.
        once (taken_at k) views id v w (t.new_taken k) nt nt' k t.at (s.taken_once k) (s.taken_later k) (t.is_taken k)
        (t.news_taken k).0 (t.news_taken k).1;
    taken_later = λ k far.
        later (taken_at k) views id v w (t.new_taken k) nt nt' k t.at
        (s.taken_later k (let g = t.taken_grows in omega arith)) (t.is_taken k) (t.news_taken k).1 far;
    taken_order = t.taken_order;
    filler = λ h. holder filling views id v w t.at (⊎_elim inl (λ o. inr (s.filler o.0, o.1)) (t.fills h));
    emptier = λ h. holder emptying views id v w t.at (⊎_elim inl (λ o. inr (s.emptier o.0, o.1)) (t.empties h));
  }

  module _ (put : List T) (taken : ℕ) (p c : View T) (np nt : ℕ) (views : List (Sight T))
      (s : Seated put taken p c np nt views) where
    -- A ticket is held by at most one seat.
    pub other_put : (id i k : ℕ) (v u : Sight T) → get_elem? views id ≡ some v → i ≢ id → get_elem? views i ≡ some u →
        1 ≤ times k v.put_ticket → 1 ≤ times k u.put_ticket → ⊥
    other_put id i k v u at apart there one two =
        let sum = two-le-sum_by (put_at k) views id i v u apart at there in let most = s.put_once k in omega arith

    pub other_taken : (id i k : ℕ) (v u : Sight T) → get_elem? views id ≡ some v → i ≢ id → get_elem? views i ≡ some u →
        1 ≤ times k v.take_ticket → 1 ≤ times k u.take_ticket → ⊥
    other_taken id i k v u at apart there one two =
        let sum = two-le-sum_by (taken_at k) views id i v u apart at there in let most = s.taken_once k in omega arith

    -- Every ticket that a seat holds was drawn.
    pub drawn_put : (id k : ℕ) (v : Sight T) → get_elem? views id ≡ some v → 1 ≤ times k v.put_ticket → k < np
    drawn_put id k v at one = dite (dec_le np k)
        (λ far. let sum = at-le-sum_by (put_at k) views id v at in let none = s.put_later k far in absurd (omega arith))
        (λ near. lt_of_not-le near)

    pub drawn_taken : (id k : ℕ) (v : Sight T) → get_elem? views id ≡ some v → 1 ≤ times k v.take_ticket → k < nt
    drawn_taken id k v at one = dite (dec_le nt k) (λ far.
        let sum = at-le-sum_by (taken_at k) views id v at in let none = s.taken_later k far in absurd (omega arith))
        (λ near. lt_of_not-le near)
