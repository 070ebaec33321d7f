-- Proves that the chains of a closed service return to its pool, which is then whole.
use Rattle.std.proofs.Common.{◌≡◌, ℕ, zero, suc, ◌+◌, ◌^◌, ◌<◌, ◌≤◌, ◌&&◌, nat_le, nat_lt, Bool, true, false, List, []}
use Rattle.std.proofs.Common.{◌∷◌, ◌++◌, map, length, Option, Some, None, IfSome, if◌then◌else◌, refl, sym, ap, subst}
use Rattle.std.proofs.Common.{◌∙◌, arith}
use Rattle.std.specs.List.{All, AllByRecursion, sum_by, range_with_len}
use Rattle.std.proofs.lemmas.Bool.Decides.{nat_tests}
use Rattle.std.proofs.lemmas.List.{length-map}
use Rattle.std.proofs.lemmas.List.Elements.{All-head, All-tail}
use Rattle.std.proofs.lemmas.List.Sums.{sum_by-cons, count_by-le-length}
use mathlib.Core.Option.{some, some-injective, some-ne-none}
use lib.ListN.{get_elem?}
use Rattle.sysv_lists.proofs.Places.{at_below, there}
use Rattle.sysv_model.specs.History.{History}
use Rattle.sysv_model.specs.Pool.{PoolEntry, PoolHistory, frees, released}
use Rattle.sysv_model.specs.Turn.{Turn, slot_history, pool_history}
use Rattle.sysv_model.specs.Waiting.{held as waiting_on}
use Rattle.sysv_model.specs.Turns.{turns_of}
use Rattle.sysv_keys.specs.declared.identifier.TheConstants.{SLOTS}
use Rattle.sysv_pool.specs.State.{State, state_of}
use Rattle.sysv_pool.specs.Represents.{Represents as PoolRepresents}
use Rattle.sysv_queue.specs.Slot.{Slot}
use Rattle.sysv_queue.specs.Blocks.{blocks_of}
use Rattle.sysv_queue.specs.Represents.{Represents as SlotRepresents}
use Rattle.sysv_core.specs.Conserved.{blocks_waiting}
use Rattle.sysv_thread_laws.specs.Team.{EveryServiceIsARun, EveryLastPassIsWhole}
use Rattle.sysv_gate.specs.declared.gate.closing.Closing.{Closing}
use Rattle.sysv_gate.specs.History.{Moves, after_all}
use Rattle.sysv_gate.specs.Gates.{Gateway}
use Rattle.sysv_gate.specs.Closings.{IsBack, Closes}
use Rattle.sysv_bank.specs.Banks.{gates_of}
use Rattle.sysv_objects.specs.SlotTurns.{SlotMoves}
use Rattle.sysv_service.specs.Counts.{slot_counts}
use Rattle.sysv_objects.specs.PoolTurns.{PoolMoves}
use Rattle.sysv_service.specs.Counts.{pool_counts}
use Rattle.sysv_service.specs.SeenHistories.{SeenHistories}
use Rattle.sysv_service.specs.Seats.{SlotSeat, PoolSeat, entries, slot_entry, pool_entry}
use Rattle.sysv_service.proofs.ClosedPlaces.{as_long}
use Rattle.sysv_service.proofs.Histories.{pool_sized}
use Rattle.sysv_service.specs.Closing.{is_held, all_held, takes_back, with_chain, with_slot, with_slots, free_in}
use Rattle.sysv_thread_laws.specs.PoolWhole.{NoHiringLeavesAGateHeld, EveryPoolIsWhole, EveryHiringLeavesThePoolWhole}
use Rattle.sysv_thread_laws.specs.Hiring.{all_of}
use Rattle.sysv_service.proofs.UnwornAtTheEnd.{many_entries, unmarked_at_the_end}
use Rattle.sysv_thread_laws.proofs.WorkersOfLifetime.{hired}
use Rattle.sysv_thread_laws.proofs.PassesAreTeam.{team_of, opened_so, every_service}
use Rattle.sysv_thread_laws.proofs.NoneKept.{none_kept}
use Rattle.sysv_thread_laws.proofs.Whole.{last_is_whole}

-- ---- chains are returned

-- The blocks of the messages queued in the slot; none if its gate is held.
abbrev blocks_in : Option Slot → ℕ
blocks_in None = 0
blocks_in (Some slot) = blocks_of slot.messages

abbrev all_blocks : List (Closing Slot) → ℕ
all_blocks [] = 0
all_blocks (c ∷ cs) = blocks_in c.object + all_blocks cs

-- The pool after it took this number of blocks back.
abbrev then_free : State → ℕ → State
then_free pool blocks = record pool { free = pool.free + blocks; released = pool.released + 1 }

fits_back : (pool : State) (blocks : ℕ) → pool.free + blocks ≤ pool.size → pool.released < 2 ^ 63 →
    takes_back pool blocks ≡ then_free pool blocks
fits_back pool blocks room few =
    let has_room : nat_le (pool.free + blocks) pool.size ≡ true = grind (arith, nat_tests, room) in
    let is_few : nat_lt pool.released (2 ^ 63) ≡ true = grind (arith, nat_tests, few) in
    ap (λ b. if b && nat_lt pool.released (2 ^ 63) then then_free pool blocks else pool) has_room
    ∙ ap (λ b. if b then then_free pool blocks else pool) is_few

slot_back : (pool : State) (o : Option Slot) → is_held o ≡ 0 → pool.free + blocks_in o ≤ pool.size →
    pool.released < 2 ^ 63 → with_slot (Some pool) o ≡ Some (then_free pool (blocks_in o))
slot_back pool None gone room few = absurd (omega (arith, gone))
slot_back pool (Some slot) gone room few =
    ap (λ (p : State). Some p) (fits_back pool (blocks_of slot.messages) room few)

slots_back : (pool : State) (cs : List (Closing Slot)) → all_held cs ≡ 0 → pool.free + all_blocks cs ≤ pool.size →
    pool.released + length cs ≤ 2 ^ 63 →
    (after : State) × (with_slots (Some pool) cs ≡ Some after) × (after.free ≡ pool.free + all_blocks cs)
slots_back pool [] none room few = (pool, refl, omega arith)
slots_back pool (c ∷ cs) none room few =
    let next : State = then_free pool (blocks_in c.object) in
    let here = slot_back pool c.object (omega (arith, none)) (omega (arith, room)) (omega (arith, few)) in
    let rest = slots_back next cs (omega (arith, none)) (omega (arith, room)) (omega (arith, few)) in
    (rest.0, ap (λ o. with_slots o cs) here ∙ rest.1, omega (arith, rest.2))

-- No chain was kept.
free_if : (pool : State) (b : Bool) → (if b then then_free pool 0 else pool).free ≡ pool.free
free_if pool true = omega arith
free_if pool false = refl

no_chain : (pool : State) → free_in (with_chain (Some pool) 0) ≡ pool.free
no_chain pool = free_if pool (nat_le (pool.free + 0) pool.size && nat_lt pool.released (2 ^ 63))

-- All chains were returned, and the pool is whole.
whole_again : (o : Option State) (pool : State) (cs : List (Closing Slot)) (kept blocks : ℕ) → o ≡ Some pool →
    kept ≡ 0 → all_held cs ≡ 0 → pool.free + all_blocks cs ≡ blocks → pool.size ≡ blocks →
    pool.released + length cs ≤ 2 ^ 63 → free_in (with_chain (with_slots o cs) kept) ≡ blocks
whole_again o pool cs kept blocks is no_kept none whole sized few =
    let back = slots_back pool cs none (omega (arith, whole, sized)) few in
    ap (λ n. free_in (with_chain (with_slots o cs) n)) no_kept
    ∙ (ap (λ x. free_in (with_chain (with_slots x cs) 0)) is
    ∙ (ap (λ x. free_in (with_chain x 0)) back.1 ∙ (no_chain back.0 ∙ back.2) ∙ whole))

-- ---- what the gates return

none_held : (cs : List (Closing Slot)) (k : ℕ) (c : Closing Slot) → all_held cs ≡ 0 → get_elem? cs k ≡ some c →
    is_held c.object ≡ 0
none_held [] k c none at = absurd (some-ne-none c (sym at))
none_held (x ∷ cs) zero c none at =
    subst (λ (y : Closing Slot). is_held y.object ≡ 0) (some-injective x c at) (omega (arith, none))
none_held (x ∷ cs) (suc k) c none at = none_held cs k c (omega (arith, none)) at

-- A gate that has returned its object is not held.
not_held : {O : Type 0} (c : Closing O) → IsBack c → is_held c.object ≡ 0
not_held c back = ap is_held back.1

all_there : (cs : List (Closing Slot)) → AllByRecursion IsBack cs → all_held cs ≡ 0
all_there [] back = refl
all_there (c ∷ cs) back = omega (arith, not_held c back.0, all_there cs back.1)

-- If a gate is not held, its object is this one.
is_there : {O : Type 0} (o : Option O) (x : O) (Q : Type 0) → IfSome o (λ y. (y ≡ x) × Q) → is_held o ≡ 0 → o ≡ Some x
is_there None x Q is gone = absurd (omega (arith, gone))
is_there (Some y) x Q is gone = ap (λ z. Some z) is.0

module _ (histories : SeenHistories) where
  slot_blocks : (seat : SlotSeat) (c : Closing Slot) (h : History) → SlotRepresents [] seat.gate.opening →
      (closes : Closes (Moves SlotMoves slot_counts) seat c) →
      entries slot_entry seat.gate.opening closes.log ≡ h → is_held c.object ≡ 0 →
      blocks_in c.object ≡ blocks_of (waiting_on h)
  slot_blocks seat c h vacant closes part gone =
      let stands = histories.slots (record seat { seen = closes.log }) vacant closes.legal in
      ap blocks_in (is_there c.object (after_all seat.gate.opening closes.log) (c.rest ≡ None) closes.object gone)
      ∙ (ap (λ (s : Slot). blocks_of s.messages) (sym stands.seen) ∙ ap (λ x. blocks_of (waiting_on x)) part)

  pool_there : (seat : PoolSeat) (c : Closing State) (h : PoolHistory) (blocks : ℕ) →
      PoolRepresents [] seat.gate.opening → seat.gate.opening.size ≡ blocks →
      (closes : Closes (Moves PoolMoves pool_counts) seat c) → entries pool_entry seat.gate.opening closes.log ≡ h →
      is_held c.object ≡ 0 → c.object ≡ Some (state_of blocks h)
  pool_there seat c h blocks fresh many closes part gone =
      let stands = histories.pool (record seat { seen = closes.log }) fresh closes.legal in
      let sized : (after_all seat.gate.opening closes.log).size ≡ blocks =
      pool_sized seat.gate.opening closes.log closes.legal ∙ many in
      is_there c.object (after_all seat.gate.opening closes.log) (c.rest ≡ None) closes.object gone
      ∙ ap (λ (p : State). Some p)
      (sym stands.seen
      ∙ (ap (λ n. state_of n (entries pool_entry seat.gate.opening closes.log)) sized ∙ ap (state_of blocks) part))

-- ---- all slots

in_slots : (f : ℕ → ℕ) (cs : List (Closing Slot)) (from : ℕ) →
    ((k : ℕ) (c : Closing Slot) → get_elem? cs k ≡ some c → blocks_in c.object ≡ f (from + k)) →
    all_blocks cs ≡ sum_by f (range_with_len from (length cs))
in_slots f [] from each = refl
in_slots f (c ∷ cs) from each =
    let here : blocks_in c.object ≡ f from = each 0 c refl ∙ ap f (omega arith) in
    let rest = in_slots f cs (from + 1) (λ k x at. each (suc k) x at ∙ ap f (omega arith)) in
    omega (arith, here, sum_by-cons f from (range_with_len (from + 1) (length cs)), rest)

abbrev waiting_at : List Turn → ℕ → ℕ
waiting_at turns slot = blocks_of (waiting_on (slot_history slot turns))

is_sum : (turns : List Turn) → blocks_waiting turns ≡ sum_by (waiting_at turns) (range_with_len 0 SLOTS)
unfolding blocks_waiting
is_sum turns = refl

pub vacant_seat : (seats : List SlotSeat) (k : ℕ) (seat : SlotSeat) →
    All (SlotRepresents []) (map (λ (g : Gateway Slot). g.opening) (gates_of seats)) → get_elem? seats k ≡ some seat →
    SlotRepresents [] seat.gate.opening
vacant_seat [] k seat vacant at = absurd (some-ne-none seat (sym at))
vacant_seat (s ∷ ss) zero seat vacant at =
    subst (λ (x : SlotSeat). SlotRepresents [] x.gate.opening) (some-injective s seat at)
    (All-head (SlotRepresents []) s.gate.opening (map (λ (g : Gateway Slot). g.opening) (gates_of ss)) vacant)
vacant_seat (s ∷ ss) (suc k) seat vacant at =
    vacant_seat ss k seat
    (All-tail (SlotRepresents []) s.gate.opening (map (λ (g : Gateway Slot). g.opening) (gates_of ss)) vacant) at

-- ---- the laws

pub none_held_at_all : NoHiringLeavesAGateHeld
none_held_at_all gates theirs left home last each calls closed hires works more end =
    let back = end.all.home (last_is_whole gates theirs left home last each calls hires works more) in
    let count = end.held in
    omega (
      arith,
      count,
      all_there end.parts.slots.items back.0,
      not_held end.parts.registry back.1,
      not_held end.parts.pool back.2,
    )

pub every_pool : SeenHistories → EveryServiceIsARun → EveryLastPassIsWhole → EveryPoolIsWhole
every_pool histories law home generation blocks first gates last calls closed lives fits end rest =
    let parts = end.all.parts in
    let seats = last.seats in
    let turns = turns_of end.all.order in
    let items = end.parts.slots.items in
    let h = pool_history turns in
    let served = every_service law generation blocks first gates last calls closed lives fits end in
    let whole = (served.at_rest rest).whole in
    let kept = none_kept generation blocks first gates last calls end.all.order lives served in
    let fresh = opened_so generation blocks first gates (last ∷ []) calls lives in
    let back =
    end.all.home (home last.seats.member calls (team_of generation blocks first gates (last ∷ []) calls lives)) in
    let none : all_held items ≡ 0 = all_there items back.0 in
    let there_registry : is_held end.parts.registry.object ≡ 0 = not_held end.parts.registry back.1 in
    let there_pool : is_held end.parts.pool.object ≡ 0 = not_held end.parts.pool back.2 in
    let count = end.held in
    let log = parts.pool.0.log in
    let long : length h ≡ length log =
    ap length (sym parts.pool.1) ∙ many_entries pool_entry seats.pool.gate.opening log in
    let below = parts.pool.0.few in
    let few : released h + SLOTS ≤ 2 ^ 63 =
    omega (arith, count_by-le-length (λ (e : PoolEntry). frees e.reply) h, long, below) in
    let vacant : All (SlotRepresents []) (map (λ (g : Gateway Slot). g.opening) (gates_of seats.slots)) =
    subst (λ (gs : List (Gateway Slot)). All (SlotRepresents []) (map (λ (g : Gateway Slot). g.opening) gs))
    (sym fits.slots) fresh.slots.1 in
    let same_long : length seats.slots ≡ length items =
    as_long (Closes (Moves SlotMoves slot_counts)) seats.slots items end.all.slots in
    let many : length items ≡ SLOTS = sym same_long
    ∙ (sym (length-map seats.slots (λ (s : SlotSeat). s.gate)) ∙ (ap length fits.slots ∙ fresh.slots.0)) in
    let each : (k : ℕ) (c : Closing Slot) → get_elem? items k ≡ some c → blocks_in c.object ≡ waiting_at turns (0 + k) =
    λ k c at.
    let less = at_below items k c at in
    let s = there seats.slots k (omega (arith, less, same_long)) in
    let part = parts.slots k s.0 c s.1 at in
    slot_blocks histories s.0 c (slot_history k turns) (vacant_seat seats.slots k s.0 vacant s.1) part.0 part.1
    (none_held items k c none at) ∙ ap (waiting_at turns) (omega arith) in
    let lying : all_blocks items ≡ blocks_waiting turns = in_slots (waiting_at turns) items 0 each
    ∙ (ap (λ n. sum_by (waiting_at turns) (range_with_len 0 n)) many ∙ sym (is_sum turns)) in
    let start : State = state_of blocks h in
    let pool_is : end.parts.pool.object ≡ Some start =
    pool_there histories seats.pool end.parts.pool h blocks
    (subst (λ (g : Gateway State). PoolRepresents [] g.opening) (sym fits.pool) fresh.pool.0)
    (ap (λ (g : Gateway State). g.opening.size) fits.pool ∙ fresh.pool.1) parts.pool.0 parts.pool.1 there_pool in
    record {
      held = omega (arith, count, none, there_registry, there_pool);
      free = end.free
          ∙ whole_again end.parts.pool.object start items last.held blocks pool_is kept none
          (omega (arith, lying, whole)) refl (omega (arith, few, many));
    }

pub every_hired_pool : EveryPoolIsWhole → EveryHiringLeavesThePoolWhole
every_hired_pool law generation blocks first gates theirs left home last each calls closed opened hires works removes
    fits end turns_left rest =
    let whole = last_is_whole gates theirs left home last each calls hires works removes in
    let none = unmarked_at_the_end generation blocks first gates last.seats end.parts opened fits end.all whole
    turns_left in
    law generation blocks first gates last (all_of each ++ calls) closed
    (hired generation blocks first gates theirs left home last each calls opened hires works removes none) fits end rest
