-- What a closed service returns. A gate is held if a turn at it did not end: then its object is not
-- returned. This project's profile.
use Rattle.std.specs.Prelude.{◌≡◌, ℕ, ◌+◌, ◌^◌, ◌&&◌, nat_lt, nat_le, List, [], ◌∷◌, length, Option, Some, None}
use Rattle.std.specs.Prelude.{if◌then◌else◌}
use Rattle.sysv_gate.specs.declared.gate.closing.Closing.{Closing}
use Rattle.sysv_service.specs.declared.opening.GatesClosed.{GatesClosed}
use Rattle.sysv_service.specs.Seats.{Seats}
use Rattle.sysv_service.specs.Sharing.{AllClose}
use Rattle.sysv_pool.specs.State.{State}
use Rattle.sysv_queue.specs.Blocks.{blocks_of}
use Rattle.sysv_queue.specs.Slot.{Slot}
use Rattle.sysv_service.specs.declared.closing.Closed.{Closed}

-- The number of messages queued in the slot; 0 if its gate is held.
abbrev pub waiting_in : Option Slot → ℕ
waiting_in None = 0
waiting_in (Some slot) = length slot.messages

-- 1 if a gate is held, else 0.
abbrev pub is_held : {O : Type 0} → Option O → ℕ
is_held None = 1
is_held (Some object) = 0

-- The number of messages queued in all slots.
abbrev pub all_waiting : List (Closing Slot) → ℕ
all_waiting [] = 0
all_waiting (c ∷ cs) = waiting_in c.object + all_waiting cs

-- The number of held gates among those of the slots.
abbrev pub all_held : List (Closing Slot) → ℕ
all_held [] = 0
all_held (c ∷ cs) = is_held c.object + all_held cs

-- The pool takes a chain back if its free blocks and the chain's are together at most its size, and
-- its released count is below 2^63. Otherwise the pool is unchanged.
abbrev pub takes_back : State → ℕ → State
takes_back pool blocks =
    if nat_le (pool.free + blocks) pool.size
    && nat_lt pool.released (2 ^ 63) then record pool { free = pool.free + blocks; released = pool.released + 1 } else
    pool

-- The pool, if it is there, after the chain was returned to it.
abbrev pub with_chain : Option State → ℕ → Option State
with_chain None blocks = None
with_chain (Some pool) blocks = Some (takes_back pool blocks)

-- The pool after the chain of the slot was returned to it, if the slot is there.
abbrev pub with_slot : Option State → Option Slot → Option State
with_slot pool None = pool
with_slot pool (Some slot) = with_chain pool (blocks_of slot.messages)

-- The pool after the chains of the slots were returned to it, slot by slot.
abbrev pub with_slots : Option State → List (Closing Slot) → Option State
with_slots pool [] = pool
with_slots pool (c ∷ cs) = with_slots (with_slot pool c.object) cs

-- The free blocks of the pool; 0 if it is not there.
abbrev pub free_in : Option State → ℕ
free_in None = 0
free_in (Some pool) = pool.free

-- The counts of what the gates returned: the queued messages, the held gates, and the free blocks
-- after the chains of the slots, and then those that the pass kept, were returned to the pool.
pub record IsCounted (seats : Seats) (kept : ℕ) (closed : Closed) : Type 0 where
  pub parts : GatesClosed
  pub all : AllClose seats parts
  pub waiting : closed.waiting ≡ all_waiting parts.slots.items
  pub held : closed.held ≡ all_held parts.slots.items + (is_held parts.registry.object + is_held parts.pool.object)
  pub free : closed.free ≡ free_in (with_chain (with_slots parts.pool.object parts.slots.items) kept)
