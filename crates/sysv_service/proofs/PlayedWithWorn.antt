-- Proves that a call is played along its turns, with the steps and waits whose gate it found worn
-- out.
use Rattle.std.proofs.Common.{◌≡◌, ℕ, ℤ, zero, suc, inl, inr, true, slice_set, List, [], ◌∷◌, ◌++◌, refl, sym, ap, ◌∙◌}
use Rattle.std.proofs.Common.{subst}
use Rattle.std.proofs.lemmas.List.{append-nil, append_assoc}
use mathlib.Core.Option.{some, some-injective, some-ne-none}
use lib.ListN.{get_elem?}
use Rattle.sysv_model.specs.declared.errno.Errno.TheVariants.{EOVERFLOW}
use Rattle.sysv_model.specs.Registry.{Forget, Changed}
use Rattle.sysv_model.specs.Turn.{Ask, OfSlot, OfRegistry, OfPool, Op, AtSlot, AtRegistry, AtPool, asked_by}
use Rattle.sysv_steps.specs.Call.{Kind, Gets}
use Rattle.sysv_steps.specs.State.{Getting, Phase, AtInstall, Refused, State, Goes, Waits, Over}
use Rattle.sysv_steps.specs.Asks.{asks}
use Rattle.sysv_steps.specs.Resume.{Count, ArrivedOf, FreedOf, Settled, Released, awaited}
use Rattle.sysv_bank.specs.Banks.{ChangesAt}
use Rattle.sysv_service.specs.Seats.{SlotSeat, RegistrySeat, PoolSeat, Seats, MakesTurnAt, FindsWorn}
use Rattle.sysv_service.specs.Reading.{Reads, GivesUp}
use Rattle.sysv_service.specs.PlayedWorn as worn
use Rattle.sysv_service.specs.PlayedWorn.{Place, AtTheSlot, AtTheRegistry, AtThePool, place_of, place_of_count}
use Rattle.sysv_service.specs.PlayedWorn.{AreElsewhere, IsMarkedAt, IsWornAt, TurnsBackOn, PlaysWorn}
use Rattle.sysv_service.specs.Ran.{Pass, Forgets, TurnsBack, Ran, begins, steps, turns_back, reads, resumes, gives_up}
use Rattle.sysv_service.proofs.RetryAtGoal.{is_there}
use Rattle.sysv_service.proofs.MarkStays.{never}

-- ---- a mark stays

abbrev is_marked_slot : ℕ → List SlotSeat → Type 0
is_marked_slot slot seats = (seat : SlotSeat) × (get_elem? seats slot ≡ some seat) × (seat.worn ≡ true)

-- One seat is changed and keeps its mark.
mark_kept : (xs : List SlotSeat) (i k : ℕ) (a b : SlotSeat) → get_elem? xs i ≡ some a →
    (a.worn ≡ true → b.worn ≡ true) → is_marked_slot k xs → is_marked_slot k (slice_set xs i b)
mark_kept [] i k a b at keeps is = absurd (some-ne-none a (sym at))
mark_kept (x ∷ xs) zero zero a b at keeps is =
    (b, refl, keeps (ap (λ (s : SlotSeat). s.worn) (some-injective a x (sym at) ∙ some-injective x is.0 is.1) ∙ is.2))
mark_kept (x ∷ xs) zero (suc k) a b at keeps is = is
mark_kept (x ∷ xs) (suc i) zero a b at keeps is = is
mark_kept (x ∷ xs) (suc i) (suc k) a b at keeps is = mark_kept xs i k a b at keeps is

mark_stays : {how : SlotSeat → SlotSeat → Type 0} (slot k : ℕ) (before after : List SlotSeat) →
    ((was is : SlotSeat) → how was is → was.worn ≡ true → is.worn ≡ true) →
    ChangesAt slot before after how → is_marked_slot k before → is_marked_slot k after
mark_stays slot k before after keeps c is =
    subst (is_marked_slot k) (sym c.others) (mark_kept before slot k c.was c.is c.at (keeps c.was c.is c.change) is)

module _ (before after : Seats) where
  -- The seats keep the marks that they have.
  abbrev pub KeepsMarks : Type 0
  KeepsMarks = (place : Place) → IsMarkedAt place before → IsMarkedAt place after

  at_a_slot : {how : SlotSeat → SlotSeat → Type 0} (slot : ℕ) →
      ((was is : SlotSeat) → how was is → was.worn ≡ true → is.worn ≡ true) →
      ChangesAt slot before.slots after.slots how → after.registry ≡ before.registry → after.pool ≡ before.pool →
      KeepsMarks
  at_a_slot slot keeps c registry pool (AtTheSlot k) is = mark_stays slot k before.slots after.slots keeps c is
  at_a_slot slot keeps c registry pool AtTheRegistry is = ap (λ (s : RegistrySeat). s.worn) registry ∙ is
  at_a_slot slot keeps c registry pool AtThePool is = ap (λ (s : PoolSeat). s.worn) pool ∙ is

  at_the_registry : (before.registry.worn ≡ true → after.registry.worn ≡ true) → after.slots ≡ before.slots →
      after.pool ≡ before.pool → KeepsMarks
  at_the_registry keeps slots pool (AtTheSlot k) is = subst (is_marked_slot k) (sym slots) is
  at_the_registry keeps slots pool AtTheRegistry is = keeps is
  at_the_registry keeps slots pool AtThePool is = ap (λ (s : PoolSeat). s.worn) pool ∙ is

  at_the_pool : (before.pool.worn ≡ true → after.pool.worn ≡ true) → after.slots ≡ before.slots →
      after.registry ≡ before.registry → KeepsMarks
  at_the_pool keeps slots registry (AtTheSlot k) is = subst (is_marked_slot k) (sym slots) is
  at_the_pool keeps slots registry AtTheRegistry is = ap (λ (s : RegistrySeat). s.worn) registry ∙ is
  at_the_pool keeps slots registry AtThePool is = keeps is

  pub turn_keeps : (op : Op) → MakesTurnAt before op after → KeepsMarks
  turn_keeps (AtSlot slot call reply) makes =
      at_a_slot slot (λ was is took marked. never (sym marked ∙ took.fresh)) makes.0 makes.1 makes.2
  turn_keeps (AtRegistry call reply) makes =
      at_the_registry (λ marked. never (sym marked ∙ makes.0.fresh)) makes.1 makes.2
  turn_keeps (AtPool call reply) makes = at_the_pool (λ marked. never (sym marked ∙ makes.0.fresh)) makes.1 makes.2

  pub worn_keeps : (ask : Ask) → FindsWorn before ask after → KeepsMarks
  worn_keeps (OfSlot slot call) finds =
      at_a_slot slot (λ was is found marked. ap (λ (s : SlotSeat). s.worn) found) finds.0 finds.1 finds.2
  worn_keeps (OfRegistry call) finds =
      at_the_registry (λ marked. ap (λ (s : RegistrySeat). s.worn) finds.0) finds.1 finds.2
  worn_keeps (OfPool call) finds = at_the_pool (λ marked. ap (λ (s : PoolSeat). s.worn) finds.0) finds.1 finds.2

  pub read_keeps : (count : Count) (value : ℕ) → Reads count value before after → KeepsMarks
  read_keeps (ArrivedOf slot) value r =
      at_a_slot slot (λ was is found marked. ap (λ (s : SlotSeat). s.worn) found.0 ∙ marked) r.0 r.1 r.2
  read_keeps (FreedOf slot) value r =
      at_a_slot slot (λ was is found marked. ap (λ (s : SlotSeat). s.worn) found.0 ∙ marked) r.0 r.1 r.2
  read_keeps Settled value r = at_the_registry (λ marked. ap (λ (s : RegistrySeat). s.worn) r.0.0 ∙ marked) r.1 r.2
  read_keeps Released value r = at_the_pool (λ marked. ap (λ (s : PoolSeat). s.worn) r.0.0 ∙ marked) r.1 r.2

  pub end_keeps : (count : Count) (value : ℕ) → GivesUp count value before after → KeepsMarks
  end_keeps (ArrivedOf slot) value r =
      at_a_slot slot (λ was is found marked. ap (λ (s : SlotSeat). s.worn) found.1) r.0 r.1 r.2
  end_keeps (FreedOf slot) value r =
      at_a_slot slot (λ was is found marked. ap (λ (s : SlotSeat). s.worn) found.1) r.0 r.1 r.2
  end_keeps Settled value r = at_the_registry (λ marked. ap (λ (s : RegistrySeat). s.worn) r.0.1) r.1 r.2
  end_keeps Released value r = at_the_pool (λ marked. ap (λ (s : PoolSeat). s.worn) r.0.1) r.1 r.2

  -- ---- a mark is made

  -- A gate that is found worn out leaves a mark.
  pub is_marked : (ask : Ask) → FindsWorn before ask after → IsMarkedAt (place_of ask) after
  is_marked (OfSlot slot call) finds =
      (finds.0.is, is_there slot before.slots after.slots finds.0, ap (λ (s : SlotSeat). s.worn) finds.0.change)
  is_marked (OfRegistry call) finds = ap (λ (s : RegistrySeat). s.worn) finds.0
  is_marked (OfPool call) finds = ap (λ (s : PoolSeat). s.worn) finds.0

  pub is_marked_by_wait : (count : Count) (value : ℕ) → GivesUp count value before after →
      IsMarkedAt (place_of_count count) after
  is_marked_by_wait (ArrivedOf slot) value r =
      (r.0.is, is_there slot before.slots after.slots r.0, ap (λ (s : SlotSeat). s.worn) r.0.change.1)
  is_marked_by_wait (FreedOf slot) value r =
      (r.0.is, is_there slot before.slots after.slots r.0, ap (λ (s : SlotSeat). s.worn) r.0.change.1)
  is_marked_by_wait Settled value r = ap (λ (s : RegistrySeat). s.worn) r.0.1
  is_marked_by_wait Released value r = ap (λ (s : PoolSeat). s.worn) r.0.1

  -- No turn is made at a gate whose seat is marked.
  not_there : (op : Op) → MakesTurnAt before op after → IsMarkedAt (place_of (asked_by op)) before → ⊥
  not_there (AtSlot slot call reply) makes is =
      let one : is.0 ≡ makes.0.was = some-injective is.0 makes.0.was (sym is.1 ∙ makes.0.at) in
      never (sym is.2 ∙ ap (λ (s : SlotSeat). s.worn) one ∙ makes.0.change.fresh)
  not_there (AtRegistry call reply) makes is = never (sym is ∙ makes.0.fresh)
  not_there (AtPool call reply) makes is = never (sym is ∙ makes.0.fresh)

-- ---- what is still to come

-- At the gates that these seats found worn out no turn follows, and the marks stay.
record Later (end mid : Seats) (more : List Op) : Type 0 where
  elsewhere : (place : Place) → IsMarkedAt place mid → AreElsewhere place more
  marks : (place : Place) → IsMarkedAt place mid → IsMarkedAt place end

-- The same before an action that makes no turn.
earlier : (end mid new : Seats) (more : List Op) → KeepsMarks mid new → Later end new more → Later end mid more
earlier end mid new more keeps later = record {
  elsewhere = λ place is. later.elsewhere place (keeps place is);
  marks = λ place is. later.marks place (keeps place is);
}

-- The same before a turn.
earlier_turn : (end mid new : Seats) (op : Op) (more : List Op) → MakesTurnAt mid op new → Later end new more →
    Later end mid (op ∷ more)
earlier_turn end mid new op more makes later = record {
  elsewhere = λ place is. (
    λ there. not_there mid new op makes (subst (λ p. IsMarkedAt p mid) (sym there) is),
    later.elsewhere place (turn_keeps mid new op makes place is),
  );
  marks = λ place is. later.marks place (turn_keeps mid new op makes place is);
}

worn_there : (end mid : Seats) (more : List Op) (place : Place) → Later end mid more → IsMarkedAt place mid →
    IsWornAt place more end
worn_there end mid more place later is = (later.elsewhere place is, later.marks place is)

-- ---- a step whose gate was worn out

module _ (end : Seats) (before after : Pass) (more : List Op) (later : Later end after.seats more) where
  -- The turns that are left after the step, and what follows at the gates before it.
  record Back {kind : Kind} (phase : Phase kind) (ops : List Op) (state : State kind) : Type 0 where
    turns : TurnsBackOn end phase (ops ++ more) state more
    sooner : Later end before.seats (ops ++ more)

  forgotten : (get : Getting) (id : ℤ) (ops : List Op) (state : State Gets) → (state ≡ Over (Refused EOVERFLOW)) →
      Forgets id before ops after → Back (AtInstall get id) ops state
  forgotten get id ops state is (inl f) =
      let op : Op = AtRegistry (Forget id) (Changed f.0) in
      let given : Back (AtInstall get id) (op ∷ []) state = record {
        turns = (is, inl (f.0, refl));
        sooner = earlier_turn end before.seats after.seats op more f.2.turn later;
      } in
      subst (λ ds. Back (AtInstall get id) ds state) (sym f.1) given
  forgotten get id ops state is (inr f) =
      let sooner : Later end before.seats more = earlier end before.seats after.seats more
      (worn_keeps before.seats after.seats (OfRegistry (Forget id)) f.1) later in
      let marked : IsMarkedAt AtTheRegistry after.seats =
      is_marked before.seats after.seats (OfRegistry (Forget id)) f.1 in
      let given : Back (AtInstall get id) [] state = record {
        turns = (is, inr (refl, worn_there end after.seats more AtTheRegistry later marked));
        sooner = sooner;
      } in
      subst (λ ds. Back (AtInstall get id) ds state) (sym f.0) given

  nothing_sooner : (ops : List Op) → ops ≡ [] → after.seats ≡ before.seats →
      Later end before.seats (ops ++ more)
  nothing_sooner ops none same =
      subst (λ ds. Later end before.seats (ds ++ more)) (sym none) (subst (λ s. Later end s more) same later)

  back : {kind : Kind} (phase : Phase kind) (ops : List Op) (state : State kind) →
      TurnsBack phase before ops state after → Back phase ops state
  back (AtInstall get id) ops state b = forgotten get id ops state b.0 b.1
  back phase ops state b =
      record { turns = (b.0, ap (λ ds. ds ++ more) (sym b.1)); sooner = nothing_sooner ops b.1 b.2 }

-- ---- a call

module _ {kind : Kind} (may : ℕ → Type 0) (from : State kind) (old : Pass) (to : State kind) (end : Seats) where
  abbrev Played : State kind → List Op → Type 0
  Played state ops = PlaysWorn end to state ops

  -- The call up to this state, followed by its play from this state on.
  joined : (ops : List Op) (state : State kind) (mid : Pass) (more : List Op) → Ran may from old ops state mid →
      Later end mid.seats more → Played state more → Played from (ops ++ more)
  joined _ _ _ more begins later rest = rest
  joined _ _ _ more (steps {ops} {phase} {mid} state new ran step) later rest =
      subst (Played from) (sym (append_assoc ops (step.op ∷ []) more))
      (joined ops (Goes phase) mid (step.op ∷ more) ran
      (earlier_turn end mid.seats new.seats step.op more step.makes.turn later)
      (worn.takes_next step.op step.now state more step.asked step.goes rest))
  joined _ _ _ more (turns_back {ops} {phase} {mid} state new ran step) later rest =
      let b = back end (record mid { seats = step.there }) new more later phase step.ops state step.back in
      let marked = is_marked mid.seats step.there (asks phase step.now) step.worn in
      subst (Played from) (sym (append_assoc ops step.ops more))
      (joined ops (Goes phase) mid (step.ops ++ more) ran
      (earlier end mid.seats step.there (step.ops ++ more)
      (worn_keeps mid.seats step.there (asks phase step.now) step.worn) b.sooner)
      (worn.finds_worn step.now state (step.ops ++ more) more
      (worn_there end step.there (step.ops ++ more) (place_of (asks phase step.now)) b.sooner marked) b.turns rest))
  joined _ _ _ more (reads {ops} {state} {mid} count value new ran r same) later rest =
      joined ops state mid more ran
      (earlier end mid.seats new.seats more (read_keeps mid.seats new.seats count value r) later) rest
  joined _ _ _ more (resumes {ops} {wait} {mid} value new ran reached r same) later rest =
      joined ops (Waits wait) mid more ran
      (earlier end mid.seats new.seats more (read_keeps mid.seats new.seats (awaited wait) value r) later)
      (worn.waits_enough value more reached rest)
  joined _ _ _ more (gives_up {ops} {wait} {mid} value new ran below r same) later rest =
      let marked = is_marked_by_wait mid.seats new.seats (awaited wait) value r in
      joined ops (Waits wait) mid more ran
      (earlier end mid.seats new.seats more (end_keeps mid.seats new.seats (awaited wait) value r) later)
      (worn.gives_up more (worn_there end new.seats more (place_of_count (awaited wait)) later marked) rest)

-- After the call.
no_turns_later : (end : Seats) → Later end end []
no_turns_later end = record { elsewhere = λ place is. tt; marks = λ place is. is }

-- The whole call is played.
pub comes : {kind : Kind} (may : ℕ → Type 0) (from : State kind) (old : Pass) (ops : List Op) (state : State kind)
    (new : Pass) → Ran may from old ops state new → PlaysWorn new.seats state from ops
comes may from old ops state new ran =
    subst (PlaysWorn new.seats state from) (append-nil ops)
    (joined may from old state new.seats ops state new [] ran (no_turns_later new.seats) worn.stands)
