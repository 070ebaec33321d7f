-- Proves that a retry finds the count at its goal.
use Rattle.std.proofs.Common.{◌≡◌, ℕ, zero, suc, slice_set, ◌≤◌, List, [], ◌∷◌, ◌++◌, refl, sym, ap, ◌∙◌, subst, arith}
use mathlib.Core.Option.{some, some-injective, some-ne-none}
use lib.ListN.{get_elem?}
use Rattle.sysv_model.specs.History.{Call}
use Rattle.sysv_model.specs.Registry.{RegistryCall}
use Rattle.sysv_model.specs.Turn.{Ask, OfSlot, OfRegistry, Op, AtSlot, AtRegistry, asked_by}
use Rattle.sysv_keys.specs.Identifier.{slot_of_id}
use Rattle.sysv_steps.specs.State.{OnSettled, OnFreed, OnReleased, OnArrived}
use Rattle.sysv_gate.specs.declared.count.Count.{Count as OfObject}
use Rattle.sysv_gate.specs.declared.count.Count.TheVariants.{Arrived, Freed}
use Rattle.sysv_gate.specs.Counts.{of_count, with_count}
use Rattle.sysv_gate.specs.History.{after_all}
use Rattle.sysv_gate.specs.Gates.{Holding, read_to}
use Rattle.sysv_bank.specs.Banks.{ChangesAt}
use Rattle.sysv_service.specs.Counts.{slot_counts}
use Rattle.sysv_service.specs.Counts.{registry_counts}
use Rattle.sysv_service.specs.Seats.{SlotSeat, Seats, TakesTurn, MakesTurnAt}
use Rattle.sysv_service.specs.Reading.{Finds}
use Rattle.sysv_service.specs.Retried.{all_but_last, count_found, EachRetryIsAtItsGoal}

set_there : {A : Type 0} (xs : List A) (i : ℕ) (a b : A) → get_elem? xs i ≡ some a →
    get_elem? (slice_set xs i b) i ≡ some b
set_there [] i a b at = absurd (some-ne-none a (sym at))
set_there (x ∷ xs) zero a b at = refl
set_there (x ∷ xs) (suc i) a b at = set_there xs i a b at

pub is_there : {how : SlotSeat → SlotSeat → Type 0} (place : ℕ) (before after : List SlotSeat)
    (changes : ChangesAt place before after how) → get_elem? after place ≡ some changes.is
is_there place before after changes = subst (λ xs. get_elem? xs place ≡ some changes.is) (sym changes.others)
    (set_there before place changes.was changes.is changes.at)

pub all_but : {A : Type 0} (xs : List A) (y : A) → all_but_last (xs ++ y ∷ []) ≡ xs
all_but [] y = refl
all_but (x ∷ []) y = refl
all_but (x ∷ z ∷ zs) y = ap (λ rest. x ∷ rest) (all_but (z ∷ zs) y)

pub just_read : (count : OfObject) (value : ℕ) (pair : ℕ × ℕ) → of_count count (with_count count value pair) ≡ value
just_read Arrived value pair = refl
just_read Freed value pair = refl

module _ {O C R E : Type 0} (moves : O → C → R → O → Type 0) (counted : O → ℕ × ℕ) (entry : O → _ → E) where
  found_at : (count : OfObject) (goal value : ℕ) (e : E) (before read after : Holding O C R) → goal ≤ value →
      read ≡ read_to count value before → TakesTurn moves counted entry e read after →
      goal ≤ count_found counted count after
  found_at count goal value e before read after reached is took =
      let a = took.answers in
      let known : value ≤ of_count count (counted (after_all read.gate.opening (read.seen ++ a.others))) =
      subst (λ n. n ≤ of_count count (counted (after_all read.gate.opening (read.seen ++ a.others))))
      (ap (λ (h : Holding O C R). of_count count h.read) is ∙ just_read count value before.read) (a.counts count) in
      let same : count_found counted count after
      ≡ of_count count (counted (after_all read.gate.opening (read.seen ++ a.others))) =
      ap (λ (h : Holding O C R). count_found counted count h) a.made
      ∙ ap (λ ts. of_count count (counted (after_all read.gate.opening ts))) (all_but (read.seen ++ a.others) _) in
      omega (arith, reached, known, same)

-- ---- the slot of the request

abbrev pub slot_asked : Ask → ℕ
slot_asked (OfSlot slot call) = slot
slot_asked ask = 0

-- A turn at the slot whose count was read.
at_slot : (count : OfObject) (slot goal value : ℕ) (call : Call) (waited read after : Seats) (op : Op) →
    asked_by op ≡ OfSlot slot call → goal ≤ value →
    ChangesAt slot waited.slots read.slots (Finds slot_counts count value) → MakesTurnAt read op after →
    (seat : SlotSeat) → get_elem? after.slots slot ≡ some seat → goal ≤ count_found slot_counts count seat
at_slot count slot goal value call waited read after (AtSlot at made reply) asked reached reads makes seat there =
    let here : at ≡ slot = ap slot_asked asked in
    let turn = makes.0 in
    let found : get_elem? read.slots slot ≡ some turn.was =
    subst (λ n. get_elem? read.slots n ≡ some turn.was) here turn.at in
    let same : reads.is ≡ turn.was =
    some-injective reads.is turn.was (sym (is_there slot waited.slots read.slots reads) ∙ found) in
    let left : get_elem? after.slots slot ≡ some turn.is =
    subst (λ n. get_elem? after.slots n ≡ some turn.is) here (is_there at read.slots after.slots turn) in
    let last : turn.is ≡ seat = some-injective turn.is seat (sym left ∙ there) in
    subst (λ (h : SlotSeat). goal ≤ count_found slot_counts count h) last
    (found_at _ slot_counts _ count goal value _ reads.was turn.was turn.is reached (sym same ∙ reads.change.0)
    turn.change)
at_slot count slot goal value call waited read after op asked reached reads makes seat there = absurd cc

at_registry : (goal value : ℕ) (call : RegistryCall) (waited read after : Seats) (op : Op) →
    asked_by op ≡ OfRegistry call → goal ≤ value →
    Finds registry_counts Arrived value waited.registry read.registry → MakesTurnAt read op after →
    goal ≤ count_found registry_counts Arrived after.registry
at_registry goal value call waited read after (AtRegistry made reply) asked reached reads makes =
    found_at _ registry_counts _ Arrived goal value _ waited.registry read.registry after.registry reached reads.0
    makes.0
at_registry goal value call waited read after op asked reached reads makes = absurd cc

pub each_retry : (may : ℕ → Type 0) → EachRetryIsAtItsGoal may
each_retry may _ (OnSettled goal get) value waited read state after reached reads step =
    at_registry goal value _ waited.seats read.seats after.seats step.op step.asked reached reads.0 step.makes.turn
each_retry may _ (OnFreed goal send) value waited read state after reached reads step =
    at_slot Freed (slot_of_id send.id) goal value _ waited.seats read.seats after.seats step.op step.asked reached
    reads.0 step.makes.turn
each_retry may _ (OnReleased goal send) value waited read state after reached reads step = tt
each_retry may _ (OnArrived goal receive) value waited read state after reached reads step =
    at_slot Arrived (slot_of_id receive.id) goal value _ waited.seats read.seats after.seats step.op step.asked
    reached reads.0 step.makes.turn
