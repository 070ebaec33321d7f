-- Proves that a turn raises the counts of its object by at most one, and that the object then
-- represents some history.
use Rattle.std.proofs.Common.{◌≡◌, ◌+◌, ◌≤◌, Bool, true, false, cond, [], ◌∷◌, ◌++◌, ap, arith}
use Rattle.std.proofs.lemmas.List.Sums.{sum_by-append}
use Rattle.sysv_model.specs.History.{Actor, Call, Reply, Entry, announces_arrival, announces_room, arrived, freed}
use Rattle.sysv_model.specs.History.{then_turn}
use Rattle.sysv_model.specs.Registry.{RegistryCall, RegistryReply, RegistryEntry, changes_row, settled}
use Rattle.sysv_model.specs.Pool.{PoolCall, PoolReply, PoolEntry, frees, released}
use Rattle.sysv_queue.specs.Slot.{Slot}
use Rattle.sysv_queue.specs.Represents.{MakesTurn as SlotMakesTurn}
use Rattle.sysv_keys.specs.State.{Registry, State as RegistryState}
use Rattle.sysv_keys.specs.Represents.{MakesTurn as RegistryMakesTurn}
use Rattle.sysv_pool.specs.State.{State}
use Rattle.sysv_pool.specs.Represents.{MakesTurn as PoolMakesTurn}
use Rattle.sysv_gate.specs.History.{RiseByOneAtMost}
use Rattle.sysv_service.specs.Counts.{SlotStands, slot_counts}
use Rattle.sysv_service.specs.Counts.{RegistryStands, registry_counts}
use Rattle.sysv_service.specs.Counts.{PoolStands, pool_counts}

at_most_one : (b : Bool) → cond b 1 0 ≤ 1
at_most_one true = omega arith
at_most_one false = omega arith

-- ---- a slot

module _ (before after : Slot) (call : Call) (reply : Reply) (stands : SlotStands before)
    (turn : SlotMakesTurn before call reply after) where
  abbrev pub slot_stands : SlotStands after
  slot_stands = (then_turn stands.0 (Actor 0 0) call reply, turn.stands stands.0 (Actor 0 0) stands.1)

  abbrev slot_entry : Entry
  slot_entry = record { who = Actor 0 0; call = call; reply = reply }

  arrives : (before.arrived ≤ after.arrived) × (after.arrived ≤ before.arrived + 1)
  arrives =
      let was : arrived stands.0 ≡ before.arrived = ap (λ (s : Slot). s.arrived) stands.1.seen in
      let is : arrived (stands.0 ++ slot_entry ∷ []) ≡ after.arrived =
      ap (λ (s : Slot). s.arrived) slot_stands.1.seen in
      let more =
      sum_by-append (λ (t : Entry). cond (announces_arrival t.call t.reply) 1 0) stands.0 (slot_entry ∷ []) in
      let one = at_most_one (announces_arrival call reply) in
      (omega (arith, was, is, more), omega (arith, was, is, more, one))

  frees_room : (before.freed ≤ after.freed) × (after.freed ≤ before.freed + 1)
  frees_room =
      let was : freed stands.0 ≡ before.freed = ap (λ (s : Slot). s.freed) stands.1.seen in
      let is : freed (stands.0 ++ slot_entry ∷ []) ≡ after.freed = ap (λ (s : Slot). s.freed) slot_stands.1.seen in
      let more = sum_by-append (λ (t : Entry). cond (announces_room t.call t.reply) 1 0) stands.0 (slot_entry ∷ []) in
      let one = at_most_one (announces_room call reply) in
      (omega (arith, was, is, more), omega (arith, was, is, more, one))

  pub slot_rises : RiseByOneAtMost (slot_counts before) (slot_counts after)
  slot_rises = (arrives.0, arrives.1, frees_room.0, frees_room.1)

-- ---- the registry

module _ (before after : Registry) (call : RegistryCall) (reply : RegistryReply) (stands : RegistryStands before)
    (turn : RegistryMakesTurn before call reply after) where
  abbrev pub registry_stands : RegistryStands after
  registry_stands = (
    stands.0,
    stands.1 ++ record { who = Actor 0 0; call = call; reply = reply } ∷ [],
    turn.stands stands.0 stands.1 (Actor 0 0) stands.2,
  )

  settles : (before.settled ≤ after.settled) × (after.settled ≤ before.settled + 1)
  settles =
      let e : RegistryEntry = record { who = Actor 0 0; call = call; reply = reply } in
      let was : settled stands.1 ≡ before.settled = ap (λ (s : RegistryState). s.settled) stands.2.seen in
      let is : settled (stands.1 ++ e ∷ []) ≡ after.settled =
      ap (λ (s : RegistryState). s.settled) registry_stands.2.seen in
      let more = sum_by-append (λ (t : RegistryEntry). cond (changes_row t.reply) 1 0) stands.1 (e ∷ []) in
      let one = at_most_one (changes_row reply) in
      (omega (arith, was, is, more), omega (arith, was, is, more, one))

  pub registry_rises : RiseByOneAtMost (registry_counts before) (registry_counts after)
  registry_rises = (settles.0, settles.1, omega arith, omega arith)

-- ---- the pool

module _ (before after : State) (call : PoolCall) (reply : PoolReply) (stands : PoolStands before)
    (turn : PoolMakesTurn before call reply after) where
  abbrev pub pool_stands : PoolStands after
  pool_stands = (
    stands.0 ++ record { who = Actor 0 0; call = call; reply = reply } ∷ [],
    turn.stands stands.0 (Actor 0 0) stands.1,
  )

  releases : (before.released ≤ after.released) × (after.released ≤ before.released + 1)
  releases =
      let e : PoolEntry = record { who = Actor 0 0; call = call; reply = reply } in
      let was : released stands.0 ≡ before.released = ap (λ (s : State). s.released) stands.1.seen in
      let is : released (stands.0 ++ e ∷ []) ≡ after.released = ap (λ (s : State). s.released) pool_stands.1.seen in
      let more = sum_by-append (λ (t : PoolEntry). cond (frees t.reply) 1 0) stands.0 (e ∷ []) in
      let one = at_most_one (frees reply) in
      (omega (arith, was, is, more), omega (arith, was, is, more, one))

  pub pool_rises : RiseByOneAtMost (pool_counts before) (pool_counts after)
  pool_rises = (releases.0, releases.1, omega arith, omega arith)
