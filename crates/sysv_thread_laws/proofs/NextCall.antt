-- The pending calls, with what each still has to do, and which of them makes the next turn of its
-- pass: the first one that has a turn left.
use Rattle.std.proofs.Common.{◌≡◌, ◌≢◌, inl, inr, ℕ, zero, suc, ◌==◌, cond, List, [], ◌∷◌, ◌++◌, Option, Some, refl}
use Rattle.std.proofs.Common.{sym, ap, ◌∙◌, map, slice_get, slice_set}
use Rattle.std.specs.List.{flat_map}
use Rattle.std.proofs.lemmas.Bool.Decides.{eqb_tells}
use Rattle.sysv_model.specs.History.{Who}
use Rattle.sysv_model.specs.Turn.{Op, Turn}
use Rattle.sysv_steps.specs.Call.{kind_of}
use Rattle.sysv_steps.specs.State.{State}
use Rattle.sysv_core.specs.World.{Invocation, Doing, doing_in}
use Rattle.sysv_thread_laws.specs.OrderIsRun.{turn_as, name_at}
use Rattle.sysv_thread_laws.proofs.Places.{number_same, number_other}
use Rattle.sysv_thread_laws.proofs.PlayedCallGoesOn.{PlaysOn, IsSettled}

-- A call of a pass in the world: its state, the turns that it still has to make, and the state that
-- it then reaches.
pub record PendingCall : Type 0 where
  pub by : ℕ
  pub call : Invocation
  pub state : State (kind_of call.asked)
  pub rest : List Op
  pub to : State (kind_of call.asked)

abbrev pub doing_of : PendingCall → Option Doing
doing_of u = doing_in u.call u.state

abbrev pub done_of : PendingCall → Option Doing
done_of u = doing_in u.call u.to

pub record IsRight (place : ℕ) (u : PendingCall) : Type 0 where
  pub name : u.call.who ≡ name_at place
  pub plays : PlaysOn u.to u.state u.rest
  pub settled : IsSettled u.to u.state u.rest

-- The turns that the pass still has to make in this call.
abbrev pub left_of : ℕ → PendingCall → List Turn
left_of number u = cond (u.by == number) (map (turn_as u.call.who) u.rest) []

abbrev pub left_in : ℕ → List PendingCall → List Turn
left_in number us = flat_map (left_of number) us

abbrev pub ops : List Turn → List Op
ops turns = map (λ (t : Turn). t.op) turns

-- The call at a place makes the next turn of its pass.
pub record Picked (number : ℕ) (op : Op) (us : List PendingCall) : Type 0 where
  pub place : ℕ
  pub u : PendingCall
  pub rest : List Op
  pub there : slice_get us place ≡ Some u
  pub by : u.by ≡ number
  pub first : u.rest ≡ op ∷ rest
  pub next : (v : PendingCall) → v.by ≡ number → v.call ≡ u.call → v.rest ≡ rest →
      left_in number us ≡ turn_as u.call.who op ∷ left_in number (slice_set us place v)
  pub others : (v : PendingCall) → v.by ≡ number → (other : ℕ) → other ≢ number →
      left_in other (slice_set us place v) ≡ left_in other us

module _ (number : ℕ) (op : Op) where
  -- What is left of one call.
  of_its_pass : (u : PendingCall) → u.by ≡ number → left_of number u ≡ map (turn_as u.call.who) u.rest
  of_its_pass u by =
      ap (λ b. cond b (map (turn_as u.call.who) u.rest) []) (ap (λ n. n == number) by ∙ number_same number)

  of_another : (u : PendingCall) (other : ℕ) → u.by ≢ other → left_of other u ≡ []
  of_another u other apart = ap (λ b. cond b (map (turn_as u.call.who) u.rest) []) (number_other u.by other apart)

  here : (u : PendingCall) (us : List PendingCall) (rest : List Op) → u.by ≡ number → u.rest ≡ op ∷ rest →
      Picked number op (u ∷ us)
  here u us rest by first = record {
    place = zero;
    u = u;
    rest = rest;
    there = refl;
    by = by;
    first = first;
    next = λ v its call remains.
        let now : left_of number u ≡ turn_as u.call.who op ∷ map (turn_as u.call.who) rest =
        of_its_pass u by ∙ ap (map (turn_as u.call.who)) first in
        let then_left : left_of number v ≡ map (turn_as u.call.who) rest =
        of_its_pass v its
        ∙ (ap (λ (c : Invocation). map (turn_as c.who) v.rest) call ∙ ap (map (turn_as u.call.who)) remains) in
        ap (λ ts. ts ++ left_in number us) now
        ∙ ap (λ ts. turn_as u.call.who op ∷ (ts ++ left_in number us)) (sym then_left);
    others = λ v its other apart.
        ap (λ ts. ts ++ left_in other us)
        (of_another v other (λ e. apart (sym e ∙ its)) ∙ sym (of_another u other (λ e. apart (sym e ∙ by))));
  }

  later : (u : PendingCall) (us : List PendingCall) → left_of number u ≡ [] → Picked number op us →
      Picked number op (u ∷ us)
  later u us none p = record {
    place = suc p.place;
    u = p.u;
    rest = p.rest;
    there = p.there;
    by = p.by;
    first = p.first;
    next = λ v its call remains.
        ap (λ ts. ts ++ left_in number us) none
        ∙ (p.next v its call remains
        ∙ ap (λ ts. turn_as p.u.call.who op ∷ (ts ++ left_in number (slice_set us p.place v))) (sym none));
    others = λ v its other apart. ap (λ ts. left_of other u ++ ts) (p.others v its other apart);
  }

  -- The two cases of what is left of the first call.
  by_rest : (u : PendingCall) (us : List PendingCall) (ds : List Op) (remains : List Op) → u.by ≡ number →
      u.rest ≡ remains → ops (left_in number (u ∷ us)) ≡ op ∷ ds →
      (ops (left_in number us) ≡ op ∷ ds → Picked number op us) → Picked number op (u ∷ us)
  by_rest u us ds [] by none more again =
      let nothing : left_of number u ≡ [] = of_its_pass u by ∙ ap (map (turn_as u.call.who)) none in
      later u us nothing (again (ap (λ ts. ops (ts ++ left_in number us)) (sym nothing) ∙ more))
  by_rest u us ds (d ∷ remains) by some more again =
      let its : left_of number u ≡ turn_as u.call.who d ∷ map (turn_as u.call.who) remains =
      of_its_pass u by ∙ ap (map (turn_as u.call.who)) some in
      let whole : d ∷ ops (map (turn_as u.call.who) remains ++ left_in number us) ≡ op ∷ ds =
      ap (λ ts. ops (ts ++ left_in number us)) (sym its) ∙ more in
      let same : d ≡ op = cc in
      here u us remains by (some ∙ ap (λ x. x ∷ remains) same)

  pub pick : (us : List PendingCall) (ds : List Op) → ops (left_in number us) ≡ op ∷ ds → Picked number op us
  pick [] ds more = absurd cc
  pick (u ∷ us) ds more = elim (eqb_tells u.by number) [
    | inl same ↦ by_rest u us ds u.rest same.1 refl more (pick us ds)
    | inr other ↦
        let nothing : left_of number u ≡ [] = of_another u number other.1 in
        later u us nothing (pick us ds (ap (λ ts. ops (ts ++ left_in number us)) (sym nothing) ∙ more))
  ]

-- ---- nothing is left

none_of_both : (xs ys : List Turn) → ops (xs ++ ys) ≡ [] → (xs ≡ []) × (ops ys ≡ [])
none_of_both [] ys none = (refl, none)
none_of_both (x ∷ xs) ys none = absurd cc

nothing_mapped : (who : Who) (ds : List Op) → map (turn_as who) ds ≡ [] → ds ≡ []
nothing_mapped who [] none = refl
nothing_mapped who (d ∷ ds) none = absurd cc

-- If no pass has a turn left to make in calls, no call has one.
pub none_left : (us : List PendingCall) → ((number : ℕ) → ops (left_in number us) ≡ []) →
    (place : ℕ) (u : PendingCall) →
    slice_get us place ≡ Some u → u.rest ≡ []
none_left [] none place u there = absurd cc
none_left (v ∷ us) none zero u there =
    let same : v ≡ u = cc in
    let first : left_of v.by v ≡ [] = (none_of_both (left_of v.by v) (left_in v.by us) (none v.by)).0 in
    ap (λ (x : PendingCall). x.rest) (sym same)
    ∙ nothing_mapped v.call.who v.rest
    (sym (ap (λ b. cond b (map (turn_as v.call.who) v.rest) []) (number_same v.by)) ∙ first)
none_left (v ∷ us) none (suc place) u there =
    none_left us (λ number. (none_of_both (left_of number v) (left_in number us) (none number)).1) place u there
