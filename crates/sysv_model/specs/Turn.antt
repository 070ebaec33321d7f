-- A turn: one call at one object, with its reply and who made it (this profile's). The objects are
-- the slots, by their numbers, the registry and the pool. A run is one list of turns, in the order
-- in which they were made. The history of an object and the operations of a call are parts of this
-- list.
use Rattle.std.specs.Prelude.{ℕ, ◌==◌, ◌&&◌, Bool, false, List, [], ◌∷◌, if◌then◌else◌, filter, map}
use Rattle.std.specs.List.{flat_map}
use Rattle.sysv_model.specs.History.{Who, Actor, Seat, Call, Reply, Entry, History}
use Rattle.sysv_model.specs.Registry.{RegistryCall, RegistryReply, RegistryEntry, RegistryHistory}
use Rattle.sysv_model.specs.Pool.{PoolCall, PoolReply, PoolEntry, PoolHistory}

-- A request, and the object that it goes to.
pub data Ask : Type 0 where
  OfSlot : (slot : ℕ) (call : Call) → Ask
  OfRegistry : (call : RegistryCall) → Ask
  OfPool : (call : PoolCall) → Ask

-- A turn without its caller: the request to an object, and the reply.
pub data Op : Type 0 where
  AtSlot : (slot : ℕ) (call : Call) (reply : Reply) → Op
  AtRegistry : (call : RegistryCall) (reply : RegistryReply) → Op
  AtPool : (call : PoolCall) (reply : PoolReply) → Op

-- The request of an operation.
abbrev pub asked_by : Op → Ask
asked_by (AtSlot slot call reply) = OfSlot slot call
asked_by (AtRegistry call reply) = OfRegistry call
asked_by (AtPool call reply) = OfPool call

-- One turn: who made it, and its operation.
pub record Turn : Type 0 where
  pub who : Who
  pub op : Op

-- What a turn adds to the history of a slot: its entry if it is a turn at this slot, otherwise
-- nothing.
abbrev pub slot_entry : ℕ → Who → Op → List Entry
slot_entry slot who (AtSlot at call reply) =
    if at == slot then record { who = who; call = call; reply = reply } ∷ [] else []
slot_entry slot who (AtRegistry call reply) = []
slot_entry slot who (AtPool call reply) = []

-- What a turn adds to the history of the registry.
abbrev pub registry_entry : Who → Op → List RegistryEntry
registry_entry who (AtSlot slot call reply) = []
registry_entry who (AtRegistry call reply) = record { who = who; call = call; reply = reply } ∷ []
registry_entry who (AtPool call reply) = []

-- What a turn adds to the history of the pool.
abbrev pub pool_entry : Who → Op → List PoolEntry
pool_entry who (AtSlot slot call reply) = []
pool_entry who (AtRegistry call reply) = []
pool_entry who (AtPool call reply) = record { who = who; call = call; reply = reply } ∷ []

-- The history of a slot.
abbrev pub slot_history : ℕ → List Turn → History
slot_history slot turns = flat_map (λ (t : Turn). slot_entry slot t.who t.op) turns

-- The history of the registry.
abbrev pub registry_history : List Turn → RegistryHistory
registry_history turns = flat_map (λ (t : Turn). registry_entry t.who t.op) turns

-- The history of the pool.
abbrev pub pool_history : List Turn → PoolHistory
pool_history turns = flat_map (λ (t : Turn). pool_entry t.who t.op) turns

-- Both are the same call: the same actor, with the same start. A seat is never the same call as
-- anything, since one seat makes the turns of many calls.
abbrev pub is_same : Who → Who → Bool
is_same (Actor actor start) (Actor other when) = (actor == other) && (start == when)
is_same (Actor actor start) (Seat number) = false
is_same (Seat number) who = false

-- The operations of one call, in order, at all objects.
abbrev pub ops_of : Who → List Turn → List Op
ops_of who turns = map (λ (t : Turn). t.op) (filter (λ (t : Turn). is_same who t.who) turns)
