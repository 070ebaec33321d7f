-- Proves that a mark stays. If a pass is unmarked, it was unmarked before, and none of its calls
-- found a gate worn out.
use Rattle.std.specs.List.{AllByRecursion}
use Rattle.std.proofs.Common.{◌≡◌, ℕ, ℤ, zero, suc, ◌||◌, inl, inr, Bool, true, false, List, [], ◌∷◌, slice_set, Option}
use Rattle.std.proofs.Common.{Result, Ok, Err, refl, sym, ap, ◌∙◌, subst}
use mathlib.Core.Option.{some, some-injective, some-ne-none}
use lib.ListN.{get_elem?}
use Rattle.sysv_model.specs.declared.attributes.Row.{Row}
use Rattle.sysv_model.specs.declared.errno.Errno.{Errno}
use Rattle.sysv_model.specs.History.{ReadRow, Shown}
use Rattle.sysv_model.specs.Registry.{Forget, Changed}
use Rattle.sysv_model.specs.Turn.{Ask, OfSlot, OfRegistry, OfPool, Op, AtSlot, AtRegistry, AtPool}
use Rattle.sysv_steps.specs.Call.{Kind}
use Rattle.sysv_steps.specs.State.{Phase, AtInstall, State, Goes, Waits}
use Rattle.sysv_steps.specs.Asks.{asks}
use Rattle.sysv_steps.specs.Resume.{Count, ArrivedOf, FreedOf, Settled, Released, awaited}
use Rattle.sysv_gate.specs.Gates.{Holding, Joins}
use Rattle.sysv_bank.specs.Banks.{ChangesAt, Each3}
use Rattle.sysv_service.specs.Seats.{SlotSeat, RegistrySeat, PoolSeat, Seats, MakesTurnAt, FindsWorn}
use Rattle.sysv_service.specs.Reading.{Reads, GivesUp}
use Rattle.sysv_service.specs.Sharing.{AreJoined}
use Rattle.sysv_service.specs.Marks.{IsUnmarked}
use Rattle.sysv_service.specs.Ran.{Pass, Forgets, TurnsBack, Ran, FindsTurns, begins, steps, turns_back, reads, resumes}
use Rattle.sysv_service.specs.Ran.{gives_up}
use Rattle.sysv_service.specs.Told.{TellsRow}

-- ---- lists

module _ {A : Type 0} (P : A → Type 0) where
  -- A fact of all elements after one was changed held of all before, if it held of that one.
  all_before : (xs : List A) (i : ℕ) (a b : A) → get_elem? xs i ≡ some a → (P b → P a) →
      AllByRecursion P (slice_set xs i b) → AllByRecursion P xs
  all_before [] i a b at back all = tt
  all_before (x ∷ xs) zero a b at back all = (subst P (some-injective a x (sym at)) (back all.0), all.1)
  all_before (x ∷ xs) (suc i) a b at back all = (all.0, all_before xs i a b at back all.1)

  -- The fact holds of the new element.
  of_the_new : (xs : List A) (i : ℕ) (a b : A) → get_elem? xs i ≡ some a → AllByRecursion P (slice_set xs i b) → P b
  of_the_new [] i a b at all = absurd (some-ne-none a (sym at))
  of_the_new (x ∷ xs) zero a b at all = all.0
  of_the_new (x ∷ xs) (suc i) a b at all = of_the_new xs i a b at all.1

-- ---- one seat

neither : (a b : Bool) → (a || b) ≡ false → (a ≡ false) × (b ≡ false)
neither false b none = (refl, none)
neither true b none = absurd cc

module _ {O C R : Type 0} where
  abbrev is_fresh : Holding O C R → Type 0
  is_fresh h = h.worn ≡ false

  abbrev worn_of : Holding O C R → Bool
  worn_of h = h.worn

  -- The change of one seat leaves all other seats unchanged.
  fresh_before : (place : ℕ) (before after : List (Holding O C R)) (how : Holding O C R → Holding O C R → Type 0) →
      ((was is : Holding O C R) → how was is → is_fresh is → is_fresh was) →
      ChangesAt place before after how → AllByRecursion is_fresh after → AllByRecursion is_fresh before
  fresh_before place before after how back c all =
      all_before is_fresh before place c.was c.is c.at (back c.was c.is c.change)
      (subst (AllByRecursion is_fresh) c.others all)

  fresh_there : (place : ℕ) (before after : List (Holding O C R)) (how : Holding O C R → Holding O C R → Type 0) →
      (c : ChangesAt place before after how) → AllByRecursion is_fresh after → is_fresh c.is
  fresh_there place before after how c all =
      of_the_new is_fresh before place c.was c.is c.at (subst (AllByRecursion is_fresh) c.others all)

  module _ (moves : O → C → R → O → Type 0) where
    joined_before : (one two after : Holding O C R) → Joins moves one two after → is_fresh after →
        is_fresh one × is_fresh two
    joined_before one two after j fresh = neither one.worn two.worn (sym (ap worn_of j.joined) ∙ fresh)

    all_joined : (ones twos afters : List (Holding O C R)) → Each3 (Joins moves) ones twos afters →
        AllByRecursion is_fresh afters → AllByRecursion is_fresh ones × AllByRecursion is_fresh twos
    all_joined [] [] [] each all = (tt, tt)
    all_joined [] [] (z ∷ zs) each all = absurd each
    all_joined [] (y ∷ ys) zs each all = absurd each
    all_joined (x ∷ xs) [] zs each all = absurd each
    all_joined (x ∷ xs) (y ∷ ys) [] each all = absurd each
    all_joined (x ∷ xs) (y ∷ ys) (z ∷ zs) each all =
        let here = joined_before x y z each.0 all.0 in
        let rest = all_joined xs ys zs each.1 all.1 in
        ((here.0, rest.0), (here.1, rest.1))

-- ---- one action at an object

pub never : {P : Type 0} → true ≡ false → P
never e = absurd cc

module _ (before after : Seats) (none : IsUnmarked after) where
  pub no_mark_by_turn : (op : Op) → MakesTurnAt before op after → IsUnmarked before
  no_mark_by_turn (AtSlot slot call reply) makes = record {
    slots = fresh_before slot before.slots after.slots _ (λ was is took fresh. took.fresh) makes.0 none.slots;
    registry = subst (λ (r : RegistrySeat). r.worn ≡ false) makes.1 none.registry;
    pool = subst (λ (p : PoolSeat). p.worn ≡ false) makes.2 none.pool;
  }
  no_mark_by_turn (AtRegistry call reply) makes = record {
    slots = subst (AllByRecursion (λ (s : SlotSeat). s.worn ≡ false)) makes.1 none.slots;
    registry = makes.0.fresh;
    pool = subst (λ (p : PoolSeat). p.worn ≡ false) makes.2 none.pool;
  }
  no_mark_by_turn (AtPool call reply) makes = record {
    slots = subst (AllByRecursion (λ (s : SlotSeat). s.worn ≡ false)) makes.1 none.slots;
    registry = subst (λ (r : RegistrySeat). r.worn ≡ false) makes.2 none.registry;
    pool = makes.0.fresh;
  }

  pub no_mark_by_read : (count : Count) (value : ℕ) → Reads count value before after → IsUnmarked before
  no_mark_by_read (ArrivedOf slot) value r = record {
    slots = fresh_before slot before.slots after.slots _
        (λ was is found fresh. sym (ap (λ (s : SlotSeat). s.worn) found.0) ∙ fresh) r.0 none.slots;
    registry = subst (λ (r : RegistrySeat). r.worn ≡ false) r.1 none.registry;
    pool = subst (λ (p : PoolSeat). p.worn ≡ false) r.2 none.pool;
  }
  no_mark_by_read (FreedOf slot) value r = record {
    slots = fresh_before slot before.slots after.slots _
        (λ was is found fresh. sym (ap (λ (s : SlotSeat). s.worn) found.0) ∙ fresh) r.0 none.slots;
    registry = subst (λ (r : RegistrySeat). r.worn ≡ false) r.1 none.registry;
    pool = subst (λ (p : PoolSeat). p.worn ≡ false) r.2 none.pool;
  }
  no_mark_by_read Settled value r = record {
    slots = subst (AllByRecursion (λ (s : SlotSeat). s.worn ≡ false)) r.1 none.slots;
    registry = sym (ap (λ (s : RegistrySeat). s.worn) r.0.0) ∙ none.registry;
    pool = subst (λ (p : PoolSeat). p.worn ≡ false) r.2 none.pool;
  }
  no_mark_by_read Released value r = record {
    slots = subst (AllByRecursion (λ (s : SlotSeat). s.worn ≡ false)) r.1 none.slots;
    registry = subst (λ (r : RegistrySeat). r.worn ≡ false) r.2 none.registry;
    pool = sym (ap (λ (s : PoolSeat). s.worn) r.0.0) ∙ none.pool;
  }

  -- A gate that is found worn out leaves a mark.
  pub not_worn : (ask : Ask) → FindsWorn before ask after → ⊥
  not_worn (OfSlot slot call) finds =
      never (sym (ap (λ (s : SlotSeat). s.worn) finds.0.change)
      ∙ fresh_there slot before.slots after.slots _ finds.0 none.slots)
  not_worn (OfRegistry call) finds = never (sym (ap (λ (s : RegistrySeat). s.worn) finds.0) ∙ none.registry)
  not_worn (OfPool call) finds = never (sym (ap (λ (s : PoolSeat). s.worn) finds.0) ∙ none.pool)

  pub not_given_up : (count : Count) (value : ℕ) → GivesUp count value before after → ⊥
  not_given_up (ArrivedOf slot) value r =
      never (sym (ap (λ (s : SlotSeat). s.worn) r.0.change.1)
      ∙ fresh_there slot before.slots after.slots _ r.0 none.slots)
  not_given_up (FreedOf slot) value r =
      never (sym (ap (λ (s : SlotSeat). s.worn) r.0.change.1)
      ∙ fresh_there slot before.slots after.slots _ r.0 none.slots)
  not_given_up Settled value r = never (sym (ap (λ (s : RegistrySeat). s.worn) r.0.1) ∙ none.registry)
  not_given_up Released value r = never (sym (ap (λ (s : PoolSeat). s.worn) r.0.1) ∙ none.pool)

  pub no_mark_by_join : (other : Seats) → AreJoined before other after → IsUnmarked before × IsUnmarked other
  no_mark_by_join other joined =
      let slots = all_joined _ before.slots other.slots after.slots joined.slots none.slots in
      let registry = joined_before _ before.registry other.registry after.registry joined.registry none.registry in
      let pool = joined_before _ before.pool other.pool after.pool joined.pool none.pool in (
        record { slots = slots.0; registry = registry.0; pool = pool.0 },
        record { slots = slots.1; registry = registry.1; pool = pool.1 },
      )

-- ---- a call

not_forgotten : (id : ℤ) (before : Pass) (ops : List Op) (after : Pass) → IsUnmarked after.seats →
    Forgets id before ops after → IsUnmarked before.seats
not_forgotten id before ops after none (inl f) =
    no_mark_by_turn before.seats after.seats none (AtRegistry (Forget id) (Changed f.0)) f.2.turn
not_forgotten id before ops after none (inr f) =
    absurd (not_worn before.seats after.seats none (OfRegistry (Forget id)) f.1)

not_back : {kind : Kind} (phase : Phase kind) (before : Pass) (ops : List Op) (state : State kind) (after : Pass) →
    IsUnmarked after.seats → TurnsBack phase before ops state after → IsUnmarked before.seats
not_back (AtInstall get id) before ops state after none back = not_forgotten id before ops after none back.1
not_back phase before ops state after none back = subst IsUnmarked back.2 none

pub no_mark_by_row : (slot : ℕ) (before : Pass) (result : Result (Option Row) Errno) (after : Pass) →
    IsUnmarked after.seats → TellsRow slot before result after → IsUnmarked before.seats
no_mark_by_row slot before (Ok row) after none told =
    no_mark_by_turn before.seats after.seats none (AtSlot slot ReadRow (Shown row)) told.1.turn
no_mark_by_row slot before (Err why) after none (inl told) = subst (λ (p : Pass). IsUnmarked p.seats) told.2 none
no_mark_by_row slot before (Err why) after none (inr told) =
    absurd (not_worn before.seats after.seats none (OfSlot slot ReadRow) told.2)

module _ {kind : Kind} (may : ℕ → Type 0) (from : State kind) (old : Pass) where
  -- A call that left its pass unmarked found no gate worn out.
  pub finds_turns : (ops : List Op) (state : State kind) (new : Pass) (ran : Ran may from old ops state new) →
      IsUnmarked new.seats → FindsTurns ran × IsUnmarked old.seats
  finds_turns _ _ _ begins none = (tt, none)
  finds_turns _ _ _ (steps {ops} {phase} {mid} state new ran step) none =
      finds_turns ops (Goes phase) mid ran (no_mark_by_turn mid.seats new.seats none step.op step.makes.turn)
  finds_turns _ _ _ (turns_back {ops} {phase} {mid} state new ran step) none =
      absurd (not_worn mid.seats step.there
      (not_back phase (record mid { seats = step.there }) step.ops state new none step.back) (asks phase step.now)
      step.worn)
  finds_turns _ _ _ (reads {ops} {state} {mid} count value new ran r same) none =
      finds_turns ops state mid ran (no_mark_by_read mid.seats new.seats none count value r)
  finds_turns _ _ _ (resumes {ops} {wait} {mid} value new ran reached r same) none =
      finds_turns ops (Waits wait) mid ran (no_mark_by_read mid.seats new.seats none (awaited wait) value r)
  finds_turns _ _ _ (gives_up {ops} {wait} {mid} value new ran below r same) none =
      absurd (not_given_up mid.seats new.seats none (awaited wait) value r)
