-- Proves that a call whose wait ended finds the count at its goal in its next turn, also if it has
-- read counts in between.
use Rattle.std.proofs.Common.{◌≡◌, ℕ, zero, suc, slice_set, ◌≤◌, List, [], ◌∷◌, ◌++◌, Option, Some, None, refl, sym, ap}
use Rattle.std.proofs.Common.{◌∙◌, subst, arith}
use mathlib.Core.Option.{some, some-injective, some-ne-none}
use lib.ListN.{get_elem?}
use Rattle.sysv_model.specs.History.{Call}
use Rattle.sysv_model.specs.Registry.{RegistryCall}
use Rattle.sysv_model.specs.Turn.{OfSlot, OfRegistry, Op, AtSlot, AtRegistry, asked_by}
use Rattle.sysv_keys.specs.Identifier.{slot_of_id}
use Rattle.sysv_steps.specs.Call.{Kind}
use Rattle.sysv_steps.specs.Asks.{asks}
use Rattle.sysv_steps.specs.Resume.{Count, ArrivedOf, FreedOf, Settled, Released, awaited, goal_of, resume}
use Rattle.sysv_steps.specs.State.{State, Phase, Goes, Wait, OnSettled, OnFreed, OnReleased, OnArrived}
use Rattle.sysv_gate.specs.declared.count.Count.{Count as OfObject}
use Rattle.sysv_gate.specs.declared.count.Count.TheVariants.{Arrived, Freed}
use Rattle.sysv_gate.specs.Counts.{of_count, with_count}
use Rattle.sysv_gate.specs.History.{after_all}
use Rattle.sysv_gate.specs.Gates.{Holding}
use Rattle.sysv_bank.specs.Banks.{ChangesAt}
use Rattle.sysv_service.specs.Counts.{slot_counts}
use Rattle.sysv_service.specs.Counts.{registry_counts}
use Rattle.sysv_service.specs.Seats.{SlotSeat, RegistrySeat, Seats, TakesTurn, MakesTurnAt}
use Rattle.sysv_service.specs.Reading.{Finds, Reads}
use Rattle.sysv_service.specs.Ran.{Pass, Ran, begins, steps, turns_back, reads, resumes, gives_up}
use Rattle.sysv_service.specs.Retried.{count_found, IsFoundAt, resumed, EachRunRetriesAtItsGoal}
use Rattle.sysv_service.proofs.RetryAtGoal.{is_there, all_but, just_read, slot_asked}

module _ {O C R E : Type 0} (moves : O → C → R → O → Type 0) (counted : O → ℕ × ℕ) (entry : O → _ → E) where
  -- The seat has read the count at the goal or above, and takes its next turn.
  found_from : (count : OfObject) (goal : ℕ) (e : E) (before after : Holding O C R) →
      goal ≤ of_count count before.read → TakesTurn moves counted entry e before after →
      goal ≤ count_found counted count after
  found_from count goal e before after known took =
      let a = took.answers in
      let least = a.counts count in
      let same : count_found counted count after
      ≡ of_count count (counted (after_all before.gate.opening (before.seen ++ a.others))) =
      ap (λ (h : Holding O C R). count_found counted count h) a.made
      ∙ ap (λ ts. of_count count (counted (after_all before.gate.opening ts))) (all_but (before.seen ++ a.others) _) in
      omega (arith, known, least, same)

-- ---- reads between the end of a wait and the next turn

-- The seat at the object that has the count has read it at the goal or above.
abbrev HasReadTo : Count → ℕ → Seats → Type 0
HasReadTo (ArrivedOf slot) goal seats =
    (seat : SlotSeat) → get_elem? seats.slots slot ≡ some seat → goal ≤ of_count Arrived seat.read
HasReadTo (FreedOf slot) goal seats =
    (seat : SlotSeat) → get_elem? seats.slots slot ≡ some seat → goal ≤ of_count Freed seat.read
HasReadTo Settled goal seats = goal ≤ of_count Arrived seats.registry.read
HasReadTo Released goal seats = Unit {0}

kept_there : (P : SlotSeat → Type 0) (xs : List SlotSeat) (i k : ℕ) (a b : SlotSeat) → get_elem? xs i ≡ some a →
    (P a → P b) →
    ((seat : SlotSeat) → get_elem? xs k ≡ some seat → P seat) → (seat : SlotSeat) →
    get_elem? (slice_set xs i b) k ≡ some seat → P seat
kept_there P [] i k a b at keeps all seat there = absurd (some-ne-none a (sym at))
kept_there P (x ∷ xs) zero zero a b at keeps all seat there = subst P (some-injective b seat there) (keeps (all a at))
kept_there P (x ∷ xs) zero (suc k) a b at keeps all seat there = all seat there
kept_there P (x ∷ xs) (suc i) zero a b at keeps all seat there = all seat there
kept_there P (x ∷ xs) (suc i) (suc k) a b at keeps all seat there = kept_there P xs i k a b at keeps all seat there

-- A read lowers no count that the seat has read.
rises : (read target : OfObject) (value goal : ℕ) (pair : ℕ × ℕ) → of_count read pair ≤ value →
    goal ≤ of_count target pair → goal ≤ of_count target (with_count read value pair)
rises Arrived Arrived value goal pair least known = omega (arith, least, known)
rises Arrived Freed value goal pair least known = known
rises Freed Arrived value goal pair least known = known
rises Freed Freed value goal pair least known = omega (arith, least, known)

module _ {O C R : Type 0} (counted : O → ℕ × ℕ) where
  still_read : (read target : OfObject) (value goal : ℕ) (before after : Holding O C R) →
      Finds counted read value before after → goal ≤ of_count target before.read → goal ≤ of_count target after.read
  still_read read target value goal before after finds known =
      subst (λ (h : Holding O C R). goal ≤ of_count target h.read) (sym finds.0)
      (rises read target value goal before.read finds.1.0 known)

  just_reached : (read : OfObject) (value goal : ℕ) (before after : Holding O C R) →
      Finds counted read value before after → goal ≤ value → goal ≤ of_count read after.read
  just_reached read value goal before after finds reached =
      let same : of_count read after.read ≡ value =
      ap (λ (h : Holding O C R). of_count read h.read) finds.0 ∙ just_read read value before.read in
      omega (arith, reached, same)

module _ (before after : Seats) where
  -- A read at a slot, and what was known of the count of a slot.
  read_at_slot : (read target : OfObject) (slot at value goal : ℕ) →
      ChangesAt slot before.slots after.slots (Finds slot_counts read value) →
      ((seat : SlotSeat) → get_elem? before.slots at ≡ some seat → goal ≤ of_count target seat.read) →
      (seat : SlotSeat) → get_elem? after.slots at ≡ some seat → goal ≤ of_count target seat.read
  read_at_slot read target slot at value goal r known seat there =
      kept_there (λ (s : SlotSeat). goal ≤ of_count target s.read) before.slots slot at r.was r.is r.at
      (still_read slot_counts read target value goal r.was r.is r.change) known seat
      (subst (λ xs. get_elem? xs at ≡ some seat) r.others there)

  read_elsewhere : (target : OfObject) (at goal : ℕ) → after.slots ≡ before.slots →
      ((seat : SlotSeat) → get_elem? before.slots at ≡ some seat → goal ≤ of_count target seat.read) →
      (seat : SlotSeat) → get_elem? after.slots at ≡ some seat → goal ≤ of_count target seat.read
  read_elsewhere target at goal same known seat there =
      known seat (subst (λ xs. get_elem? xs at ≡ some seat) same there)

  -- The seats know no less of a count after a read of any count.
  still : (target read : Count) (value goal : ℕ) → Reads read value before after → HasReadTo target goal before →
      HasReadTo target goal after
  still (ArrivedOf at) (ArrivedOf slot) value goal r known = read_at_slot Arrived Arrived slot at value goal r.0 known
  still (ArrivedOf at) (FreedOf slot) value goal r known = read_at_slot Freed Arrived slot at value goal r.0 known
  still (ArrivedOf at) Settled value goal r known = read_elsewhere Arrived at goal r.1 known
  still (ArrivedOf at) Released value goal r known = read_elsewhere Arrived at goal r.1 known
  still (FreedOf at) (ArrivedOf slot) value goal r known = read_at_slot Arrived Freed slot at value goal r.0 known
  still (FreedOf at) (FreedOf slot) value goal r known = read_at_slot Freed Freed slot at value goal r.0 known
  still (FreedOf at) Settled value goal r known = read_elsewhere Freed at goal r.1 known
  still (FreedOf at) Released value goal r known = read_elsewhere Freed at goal r.1 known
  still Settled (ArrivedOf slot) value goal r known =
      subst (λ (s : RegistrySeat). goal ≤ of_count Arrived s.read) (sym r.1) known
  still Settled (FreedOf slot) value goal r known =
      subst (λ (s : RegistrySeat). goal ≤ of_count Arrived s.read) (sym r.1) known
  still Settled Settled value goal r known =
      still_read registry_counts Arrived Arrived value goal before.registry after.registry r.0 known
  still Settled Released value goal r known =
      subst (λ (s : RegistrySeat). goal ≤ of_count Arrived s.read) (sym r.2) known
  still Released read value goal r known = tt

  reached_at : (read : OfObject) (slot value goal : ℕ) →
      ChangesAt slot before.slots after.slots (Finds slot_counts read value) → goal ≤ value →
      (seat : SlotSeat) → get_elem? after.slots slot ≡ some seat → goal ≤ of_count read seat.read
  reached_at read slot value goal r reached seat there =
      let same : r.is ≡ seat = some-injective r.is seat (sym (is_there slot before.slots after.slots r) ∙ there) in
      subst (λ (s : SlotSeat). goal ≤ of_count read s.read) same
      (just_reached slot_counts read value goal r.was r.is r.change reached)

  at_its_goal : (target : Count) (value goal : ℕ) → Reads target value before after → goal ≤ value →
      HasReadTo target goal after
  at_its_goal (ArrivedOf slot) value goal r reached = reached_at Arrived slot value goal r.0 reached
  at_its_goal (FreedOf slot) value goal r reached = reached_at Freed slot value goal r.0 reached
  at_its_goal Settled value goal r reached =
      just_reached registry_counts Arrived value goal before.registry after.registry r.0 reached
  at_its_goal Released value goal r reached = tt

  -- ---- the next turn

  turn_at_slot : (count : OfObject) (slot goal : ℕ) (call : Call) (op : Op) → asked_by op ≡ OfSlot slot call →
      ((seat : SlotSeat) → get_elem? before.slots slot ≡ some seat → goal ≤ of_count count seat.read) →
      MakesTurnAt before op after →
      (seat : SlotSeat) → get_elem? after.slots slot ≡ some seat → goal ≤ count_found slot_counts count seat
  turn_at_slot count slot goal call (AtSlot at made reply) asked known makes seat there =
      let here : at ≡ slot = ap slot_asked asked in
      let turn = makes.0 in
      let found : get_elem? before.slots slot ≡ some turn.was =
      subst (λ n. get_elem? before.slots n ≡ some turn.was) here turn.at in
      let left : get_elem? after.slots slot ≡ some turn.is =
      subst (λ n. get_elem? after.slots n ≡ some turn.is) here (is_there at before.slots after.slots turn) in
      let last : turn.is ≡ seat = some-injective turn.is seat (sym left ∙ there) in
      subst (λ (h : SlotSeat). goal ≤ count_found slot_counts count h) last
      (found_from _ slot_counts _ count goal _ turn.was turn.is (known turn.was found) turn.change)
  turn_at_slot count slot goal call op asked known makes seat there = absurd cc

  turn_at_registry : (goal : ℕ) (call : RegistryCall) (op : Op) → asked_by op ≡ OfRegistry call →
      goal ≤ of_count Arrived before.registry.read → MakesTurnAt before op after →
      goal ≤ count_found registry_counts Arrived after.registry
  turn_at_registry goal call (AtRegistry made reply) asked known makes =
      found_from _ registry_counts _ Arrived goal _ before.registry after.registry known makes.0
  turn_at_registry goal call op asked known makes = absurd cc

-- A call whose wait ended, and which has only read counts since, is at the step with which it goes
-- on, and has read the count at the goal or above.
record Resumed {kind : Kind} (wait : Wait kind) (state : State kind) (seats : Seats) : Type 0 where
  value : ℕ
  on : state ≡ Goes (resume wait value)
  known : HasReadTo (awaited wait) (goal_of wait) seats

abbrev IsResumed : {kind : Kind} → Option (Wait kind) → State kind → Seats → Type 0
IsResumed None state seats = Unit {0}
IsResumed (Some wait) state seats = Resumed wait state seats

read_on : {kind : Kind} (o : Option (Wait kind)) (state : State kind) (before after : Seats) (count : Count)
    (value : ℕ) → Reads count value before after → IsResumed o state before → IsResumed o state after
read_on None state before after count value r is = tt
read_on (Some wait) state before after count value r is =
    record {
      value = is.value;
      on = is.on;
      known = still before after (awaited wait) count value (goal_of wait) r is.known;
    }

module _ {kind : Kind} (may : ℕ → Type 0) (from : State kind) (old : Pass) where
  is_resumed : (ops : List Op) (state : State kind) (new : Pass) (ran : Ran may from old ops state new) →
      IsResumed (resumed ran) state new.seats
  is_resumed _ _ _ begins = tt
  is_resumed _ _ _ (steps {ops} {phase} {mid} state new ran step) = tt
  is_resumed _ _ _ (turns_back {ops} {phase} {mid} state new ran step) = tt
  is_resumed _ _ _ (reads {ops} {state} {mid} count value new ran r same) =
      read_on (resumed ran) state mid.seats new.seats count value r (is_resumed ops state mid ran)
  is_resumed _ _ _ (resumes {ops} {wait} {mid} value new ran reached r same) =
      record {
        value = value;
        on = refl;
        known = at_its_goal mid.seats new.seats (awaited wait) value (goal_of wait) r reached;
      }
  is_resumed _ _ _ (gives_up {ops} {wait} {mid} value new ran below r same) = tt

next_turn : {kind : Kind} (wait : Wait kind) (value now : ℕ) (before after : Seats) (op : Op) →
    asked_by op ≡ asks (resume wait value) now → HasReadTo (awaited wait) (goal_of wait) before →
    MakesTurnAt before op after →
    IsFoundAt (awaited wait) (goal_of wait) after
next_turn (OnSettled goal get) value now before after op asked known makes =
    turn_at_registry before after goal _ op asked known makes
next_turn (OnFreed goal send) value now before after op asked known makes =
    turn_at_slot before after Freed (slot_of_id send.id) goal _ op asked known makes
next_turn (OnReleased goal send) value now before after op asked known makes = tt
next_turn (OnArrived goal receive) value now before after op asked known makes =
    turn_at_slot before after Arrived (slot_of_id receive.id) goal _ op asked known makes

-- The step before which the call is.
abbrev phase_or : {kind : Kind} → Phase kind → State kind → Phase kind
phase_or other (Goes phase) = phase
phase_or other state = other

pub each_run_retries : (may : ℕ → Type 0) → EachRunRetriesAtItsGoal may
each_run_retries may kind from old ops phase mid state new ran step wait is =
    let so : Resumed wait (Goes phase) mid.seats =
    subst (λ o. IsResumed o (Goes phase) mid.seats) is (is_resumed may from old ops (Goes phase) mid ran) in
    let there : phase ≡ resume wait so.value = ap (phase_or phase) so.on in
    next_turn wait so.value step.now mid.seats new.seats step.op
    (subst (λ p. asked_by step.op ≡ asks p step.now) there step.asked) so.known step.makes.turn
