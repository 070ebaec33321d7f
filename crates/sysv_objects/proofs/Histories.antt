-- One more turn, in the histories of the objects.
use Rattle.std.proofs.Common.{◌≡◌, ◌≢◌, ℕ, ◌+◌, ◌≤◌, Bool, true, false, cond, List, [], ◌∷◌, ◌++◌, refl, ap, ◌∙◌, arith}
use Rattle.std.proofs.Math.Dec.{eqb}
use Rattle.std.proofs.lemmas.Grind.{flat_map-append}
use Rattle.std.proofs.lemmas.List.{append-nil}
use Rattle.std.proofs.lemmas.List.Sums.{sum_by-append}
use Rattle.std.proofs.lemmas.Bool.Decides.{nat_tests}
use Rattle.sysv_objects.specs.Objects.{raises}
use Rattle.sysv_model.specs.History.{Who, Call, Install, Probe, Look, Place, Take, ReadStat, Set, Remove, ReadRow}
use Rattle.sysv_model.specs.History.{Reply, Entry, History, announces_arrival, announces_room, arrived, freed}
use Rattle.sysv_model.specs.History.{then_turn}
use Rattle.sysv_model.specs.Registry.{RegistryCall, RegistryReply}
use Rattle.sysv_model.specs.Pool.{PoolCall, PoolReply}
use Rattle.sysv_model.specs.Turn.{Op, AtSlot, AtRegistry, AtPool, Turn, slot_entry, registry_entry, pool_entry}
use Rattle.sysv_model.specs.Turn.{slot_history, registry_history, pool_history}

abbrev pub turn_of : Who → Op → Turn
turn_of who op = record { who = who; op = op }

pub slot_more : (slot : ℕ) (turns : List Turn) (t : Turn) →
    slot_history slot (turns ++ t ∷ []) ≡ slot_history slot turns ++ slot_entry slot t.who t.op
slot_more slot turns t =
    flat_map-append (λ (x : Turn). slot_entry slot x.who x.op) turns (t ∷ [])
    ∙ ap (λ es. slot_history slot turns ++ es) (append-nil (slot_entry slot t.who t.op))

pub registry_more : (turns : List Turn) (t : Turn) →
    registry_history (turns ++ t ∷ []) ≡ registry_history turns ++ registry_entry t.who t.op
registry_more turns t =
    flat_map-append (λ (x : Turn). registry_entry x.who x.op) turns (t ∷ [])
    ∙ ap (λ es. registry_history turns ++ es) (append-nil (registry_entry t.who t.op))

pub pool_more : (turns : List Turn) (t : Turn) →
    pool_history (turns ++ t ∷ []) ≡ pool_history turns ++ pool_entry t.who t.op
pool_more turns t =
    flat_map-append (λ (x : Turn). pool_entry x.who x.op) turns (t ∷ [])
    ∙ ap (λ es. pool_history turns ++ es) (append-nil (pool_entry t.who t.op))

itself : (n : ℕ) → eqb n n ≡ true
itself n = grind (arith, nat_tests)

another : (n m : ℕ) (b : Bool) → eqb n m ≡ b → n ≢ m → b ≡ false
another n m true e f = absurd (f (grind (arith, nat_tests)))
another n m false e f = refl

-- A turn at a slot is added to the history of this slot, and to that of no other slot.
pub at_its_slot : (slot : ℕ) (turns : List Turn) (who : Who) (call : Call) (reply : Reply) →
    slot_history slot (turns ++ turn_of who (AtSlot slot call reply) ∷ [])
    ≡ then_turn (slot_history slot turns) who call reply
at_its_slot slot turns who call reply =
    let e : Entry = record { who = who; call = call; reply = reply } in
    slot_more slot turns (turn_of who (AtSlot slot call reply))
    ∙ ap (λ b. slot_history slot turns ++ cond b (e ∷ []) []) (itself slot)

pub at_another : (slot at : ℕ) (turns : List Turn) (who : Who) (call : Call) (reply : Reply) → at ≢ slot →
    slot_history slot (turns ++ turn_of who (AtSlot at call reply) ∷ []) ≡ slot_history slot turns
at_another slot at turns who call reply apart =
    let e : Entry = record { who = who; call = call; reply = reply } in
    slot_more slot turns (turn_of who (AtSlot at call reply))
    ∙ (ap (λ b. slot_history slot turns ++ cond b (e ∷ []) []) (another at slot (eqb at slot) refl apart)
    ∙ append-nil (slot_history slot turns))

pub not_at_registry : (turns : List Turn) (who : Who) (slot : ℕ) (call : Call) (reply : Reply) →
    registry_history (turns ++ turn_of who (AtSlot slot call reply) ∷ []) ≡ registry_history turns
not_at_registry turns who slot call reply =
    registry_more turns (turn_of who (AtSlot slot call reply)) ∙ append-nil (registry_history turns)

pub not_at_slot : (slot : ℕ) (turns : List Turn) (who : Who) (call : RegistryCall) (reply : RegistryReply) →
    slot_history slot (turns ++ turn_of who (AtRegistry call reply) ∷ []) ≡ slot_history slot turns
not_at_slot slot turns who call reply =
    slot_more slot turns (turn_of who (AtRegistry call reply)) ∙ append-nil (slot_history slot turns)

pub slot_not_at_pool : (turns : List Turn) (who : Who) (slot : ℕ) (call : Call) (reply : Reply) →
    pool_history (turns ++ turn_of who (AtSlot slot call reply) ∷ []) ≡ pool_history turns
slot_not_at_pool turns who slot call reply =
    pool_more turns (turn_of who (AtSlot slot call reply)) ∙ append-nil (pool_history turns)

pub registry_not_at_pool : (turns : List Turn) (who : Who) (call : RegistryCall) (reply : RegistryReply) →
    pool_history (turns ++ turn_of who (AtRegistry call reply) ∷ []) ≡ pool_history turns
registry_not_at_pool turns who call reply =
    pool_more turns (turn_of who (AtRegistry call reply)) ∙ append-nil (pool_history turns)

pub pool_not_at_slot : (slot : ℕ) (turns : List Turn) (who : Who) (call : PoolCall) (reply : PoolReply) →
    slot_history slot (turns ++ turn_of who (AtPool call reply) ∷ []) ≡ slot_history slot turns
pool_not_at_slot slot turns who call reply =
    slot_more slot turns (turn_of who (AtPool call reply)) ∙ append-nil (slot_history slot turns)

pub pool_not_at_registry : (turns : List Turn) (who : Who) (call : PoolCall) (reply : PoolReply) →
    registry_history (turns ++ turn_of who (AtPool call reply) ∷ []) ≡ registry_history turns
pool_not_at_registry turns who call reply =
    registry_more turns (turn_of who (AtPool call reply)) ∙ append-nil (registry_history turns)

-- ---- the counts

at_most_one : (b : Bool) → cond b 1 0 ≤ 1
at_most_one true = omega arith
at_most_one false = omega arith

arrives_by : (call : Call) (reply : Reply) → cond (announces_arrival call reply) 1 0 ≤ raises call
arrives_by (Install id key cred mode now) reply = omega arith
arrives_by (Probe id cred flags) reply = omega arith
arrives_by (Look id cred size) reply = omega arith
arrives_by (Place id cred mtype bytes now) reply = at_most_one (announces_arrival (Place id cred mtype bytes now) reply)
arrives_by (Take id cred selector size noerror now) reply =
    at_most_one (announces_arrival (Take id cred selector size noerror now) reply)
arrives_by (ReadStat id cred) reply = omega arith
arrives_by (Set id cred to now) reply = at_most_one (announces_arrival (Set id cred to now) reply)
arrives_by (Remove id cred) reply = at_most_one (announces_arrival (Remove id cred) reply)
arrives_by ReadRow reply = omega arith

frees_by : (call : Call) (reply : Reply) → cond (announces_room call reply) 1 0 ≤ raises call
frees_by (Install id key cred mode now) reply = omega arith
frees_by (Probe id cred flags) reply = omega arith
frees_by (Look id cred size) reply = omega arith
frees_by (Place id cred mtype bytes now) reply = at_most_one (announces_room (Place id cred mtype bytes now) reply)
frees_by (Take id cred selector size noerror now) reply =
    at_most_one (announces_room (Take id cred selector size noerror now) reply)
frees_by (ReadStat id cred) reply = omega arith
frees_by (Set id cred to now) reply = at_most_one (announces_room (Set id cred to now) reply)
frees_by (Remove id cred) reply = at_most_one (announces_room (Remove id cred) reply)
frees_by ReadRow reply = omega arith

pub arrives : (h : History) (e : Entry) → arrived (h ++ e ∷ []) ≤ arrived h + raises e.call
arrives h e = omega (
  arith,
  sum_by-append (λ (t : Entry). cond (announces_arrival t.call t.reply) 1 0) h (e ∷ []),
  arrives_by e.call e.reply,
)

pub frees : (h : History) (e : Entry) → freed (h ++ e ∷ []) ≤ freed h + raises e.call
frees h e = omega (
  arith,
  sum_by-append (λ (t : Entry). cond (announces_room t.call t.reply) 1 0) h (e ∷ []),
  frees_by e.call e.reply,
)
