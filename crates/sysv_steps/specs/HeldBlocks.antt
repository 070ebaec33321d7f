-- The blocks that a call holds (this project's profile). A call neither makes nor loses a block:
-- each block that it received, from the pool, with a message that it took or with messages that it
-- removed, is on a queue, is back at the pool, or is still held. A send before its place holds the
-- number of blocks that its body needs.
use Rattle.std.specs.Prelude.{◌≡◌, ℕ, ◌+◌, List, [], ◌∷◌, Some, length, sum_by, Contains}
use Rattle.sysv_model.specs.declared.cred.Cred.{Cred}
use Rattle.sysv_model.specs.History.{Call, Place, Accepted, Taken, Discarded}
use Rattle.sysv_model.specs.Pool.{blocks_for, PoolCall, Reserve, Release, Reserved, Released, Foreign}
use Rattle.sysv_model.specs.Turn.{Op, AtSlot, AtPool, asked_by}
use Rattle.sysv_queue.specs.Blocks.{blocks_of}
use Rattle.sysv_steps.specs.Call.{Kind, kind_of}
use Rattle.sysv_steps.specs.Call.{SystemCall}
use Rattle.sysv_steps.specs.State.{Phase, AtPlace, AtSendGiveback, AtReceiveGiveback, AtForget, AtRemoveGiveback, State}
use Rattle.sysv_steps.specs.State.{Goes}
use Rattle.sysv_steps.specs.Begin.{begin}
use Rattle.sysv_steps.specs.Asks.{asks}
use Rattle.sysv_steps.specs.Next.{next}
use Rattle.sysv_steps.specs.Played.{Plays}

-- The number of blocks that a call holds in this state.
abbrev pub held : {kind : Kind} → State kind → ℕ
held (Goes (AtPlace send blocks)) = blocks
held (Goes (AtSendGiveback blocks afterwards)) = blocks
held (Goes (AtReceiveGiveback blocks mtype text)) = blocks
held (Goes (AtForget id blocks)) = blocks
held (Goes (AtRemoveGiveback blocks)) = blocks
held state = 0

-- The number of blocks that the call received by this operation.
abbrev pub given_by : Op → ℕ
given_by (AtPool call (Reserved blocks)) = blocks
given_by (AtSlot slot call (Taken message)) = blocks_for (length message.bytes)
given_by (AtSlot slot call (Discarded messages)) = blocks_of messages
given_by op = 0

-- The number of blocks of the body that the request places.
abbrev pub placed_by : Call → ℕ
placed_by (Place id cred mtype text now) = blocks_for (length text)
placed_by call = 0

-- The number of blocks of the chain that the request releases.
abbrev pub released_by : PoolCall → ℕ
released_by (Release blocks) = blocks
released_by (Reserve size) = 0

-- The number of blocks that left the call by this operation.
abbrev pub left_by : Op → ℕ
left_by (AtSlot slot call (Accepted number)) = placed_by call
left_by (AtPool call Released) = released_by call
left_by (AtPool call Foreign) = released_by call
left_by op = 0

-- A send before its place holds the number of blocks that its body needs.
abbrev pub HasItsBlocks : {kind : Kind} → State kind → Type 0
HasItsBlocks (Goes (AtPlace send blocks)) = blocks ≡ blocks_for (length send.text)
HasItsBlocks state = Unit {0}

-- Each reservation that the pool grants has the number of blocks that a body of the requested size
-- needs.
abbrev pub GivesWhatIsAsked : List Op → Type 0
GivesWhatIsAsked ops =
    (size blocks : ℕ) → Contains ops (AtPool (Reserve size) (Reserved blocks)) → blocks ≡ blocks_for size

-- What the call holds and what left it are what it received, and a send before its place has its
-- blocks.
pub record HoldsItsBlocks {kind : Kind} (ops : List Op) (state : State kind) : Type 0 where
  pub balance : held state + sum_by left_by ops ≡ sum_by given_by ops
  pub at_place : HasItsBlocks state

-- This holds in each state to which a call plays, if the pool grants what is requested.
abbrev pub EachHoldsItsBlocks : Type 0
EachHoldsItsBlocks = (cred : Cred) (asked : SystemCall) (released : ℕ) (ops : List Op) (state : State (kind_of asked)) →
    Plays (begin cred asked released) ops state → GivesWhatIsAsked ops → HoldsItsBlocks ops state

-- It also holds at each step: what the call held before and received is what left it and what it
-- holds afterwards, and a send before its place has its blocks.
abbrev pub EachStepKeepsItsBlocks : Type 0
EachStepKeepsItsBlocks =
    (kind : Kind) (phase : Phase kind) (op : Op) (now : ℕ) (after : State kind) → HasItsBlocks (Goes phase) →
    GivesWhatIsAsked (op ∷ []) → asked_by op ≡ asks phase now → next phase op ≡ Some after →
    (held after + left_by op ≡ held (Goes phase) + given_by op) × HasItsBlocks after
