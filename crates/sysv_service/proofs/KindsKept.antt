-- Proves that the objects of a bank stay of their kinds.
use Rattle.std.proofs.Common.{◌≡◌, ℕ, refl, subst}
use Rattle.sysv_gate.specs.History.{Moves, RiseByOneAtMost}
use Rattle.sysv_service.specs.declared.kinds.Gated.{Gated}
use Rattle.sysv_service.specs.declared.kinds.Gated.TheVariants as gated
use Rattle.sysv_objects.specs.declared.object.ObjectCall.{ObjectCall}
use Rattle.sysv_objects.specs.declared.object.ObjectCall.TheVariants as asked
use Rattle.sysv_objects.specs.declared.object.ObjectReply.{ObjectReply}
use Rattle.sysv_objects.specs.declared.object.ObjectReply.TheVariants as told
use Rattle.sysv_objects.specs.SlotTurns.{SlotMoves}
use Rattle.sysv_service.specs.Counts.{slot_counts}
use Rattle.sysv_objects.specs.RegistryTurns.{RegistryMoves}
use Rattle.sysv_service.specs.Counts.{registry_counts}
use Rattle.sysv_objects.specs.PoolTurns.{PoolMoves}
use Rattle.sysv_service.specs.Counts.{pool_counts}
use Rattle.sysv_service.specs.Gated.{IsSlot, IsRegistry, IsPool, slot_in, slot_call_in, slot_reply_in, registry_in}
use Rattle.sysv_service.specs.Gated.{registry_call_in, registry_reply_in, pool_in, pool_call_in, pool_reply_in, as_slot}
use Rattle.sysv_service.specs.Gated.{as_registry, as_pool, GatedMoves, gated_counts}
use Rattle.sysv_service.proofs.GateOfKind.{Keeps}

-- An object is of one kind only.
slot_no_registry : (o : Gated) → IsSlot o → IsRegistry o → ⊥
slot_no_registry (gated.Slot x) s r = r
slot_no_registry (gated.Registry x) s r = s
slot_no_registry (gated.Pool x) s r = s

slot_no_pool : (o : Gated) → IsSlot o → IsPool o → ⊥
slot_no_pool (gated.Slot x) s p = p
slot_no_pool (gated.Registry x) s p = s
slot_no_pool (gated.Pool x) s p = s

registry_no_pool : (o : Gated) → IsRegistry o → IsPool o → ⊥
registry_no_pool (gated.Slot x) r p = r
registry_no_pool (gated.Registry x) r p = p
registry_no_pool (gated.Pool x) r p = r

-- A turn at an object of a kind is one of that kind.
slot_goes : (o : Gated) (c : ObjectCall) (r : ObjectReply) (o' : Gated) → IsSlot o → GatedMoves o c r o' →
    SlotMoves (slot_in o) (slot_call_in c) (slot_reply_in r) (slot_in o') × IsSlot o'
slot_goes o (asked.Slot c) (told.Slot r) o' is m = (m.2, m.1)
slot_goes o (asked.Slot c) (told.Registry r) o' is m = absurd m
slot_goes o (asked.Slot c) (told.Pool r) o' is m = absurd m
slot_goes o (asked.Registry c) (told.Slot r) o' is m = absurd m
slot_goes o (asked.Registry c) (told.Registry r) o' is m = absurd (slot_no_registry o is m.0)
slot_goes o (asked.Registry c) (told.Pool r) o' is m = absurd m
slot_goes o (asked.Pool c) (told.Slot r) o' is m = absurd m
slot_goes o (asked.Pool c) (told.Registry r) o' is m = absurd m
slot_goes o (asked.Pool c) (told.Pool r) o' is m = absurd (slot_no_pool o is m.0)

registry_goes : (o : Gated) (c : ObjectCall) (r : ObjectReply) (o' : Gated) → IsRegistry o → GatedMoves o c r o' →
    RegistryMoves (registry_in o) (registry_call_in c) (registry_reply_in r) (registry_in o') × IsRegistry o'
registry_goes o (asked.Slot c) (told.Slot r) o' is m = absurd (slot_no_registry o m.0 is)
registry_goes o (asked.Slot c) (told.Registry r) o' is m = absurd m
registry_goes o (asked.Slot c) (told.Pool r) o' is m = absurd m
registry_goes o (asked.Registry c) (told.Slot r) o' is m = absurd m
registry_goes o (asked.Registry c) (told.Registry r) o' is m = (m.2, m.1)
registry_goes o (asked.Registry c) (told.Pool r) o' is m = absurd m
registry_goes o (asked.Pool c) (told.Slot r) o' is m = absurd m
registry_goes o (asked.Pool c) (told.Registry r) o' is m = absurd m
registry_goes o (asked.Pool c) (told.Pool r) o' is m = absurd (registry_no_pool o is m.0)

pool_goes : (o : Gated) (c : ObjectCall) (r : ObjectReply) (o' : Gated) → IsPool o → GatedMoves o c r o' →
    PoolMoves (pool_in o) (pool_call_in c) (pool_reply_in r) (pool_in o') × IsPool o'
pool_goes o (asked.Slot c) (told.Slot r) o' is m = absurd (slot_no_pool o m.0 is)
pool_goes o (asked.Slot c) (told.Registry r) o' is m = absurd m
pool_goes o (asked.Slot c) (told.Pool r) o' is m = absurd m
pool_goes o (asked.Registry c) (told.Slot r) o' is m = absurd m
pool_goes o (asked.Registry c) (told.Registry r) o' is m = absurd (registry_no_pool o m.0 is)
pool_goes o (asked.Registry c) (told.Pool r) o' is m = absurd m
pool_goes o (asked.Pool c) (told.Slot r) o' is m = absurd m
pool_goes o (asked.Pool c) (told.Registry r) o' is m = absurd m
pool_goes o (asked.Pool c) (told.Pool r) o' is m = (m.2, m.1)

-- The counts of an object are those of its kind.
slot_counted : (o : Gated) → IsSlot o → gated_counts o ≡ slot_counts (slot_in o)
slot_counted (gated.Slot x) is = refl
slot_counted (gated.Registry x) is = absurd is
slot_counted (gated.Pool x) is = absurd is

registry_counted : (o : Gated) → IsRegistry o → gated_counts o ≡ registry_counts (registry_in o)
registry_counted (gated.Slot x) is = absurd is
registry_counted (gated.Registry x) is = refl
registry_counted (gated.Pool x) is = absurd is

pool_counted : (o : Gated) → IsPool o → gated_counts o ≡ pool_counts (pool_in o)
pool_counted (gated.Slot x) is = absurd is
pool_counted (gated.Registry x) is = absurd is
pool_counted (gated.Pool x) is = refl

rises_as : {a b a' b' : ℕ × ℕ} → a ≡ a' → b ≡ b' → RiseByOneAtMost a b → RiseByOneAtMost a' b'
rises_as {a} {b} {a'} {b'} p q rises = subst (λ x. RiseByOneAtMost x b') p (subst (λ y. RiseByOneAtMost a y) q rises)

pub keeps_slot : Keeps as_slot IsSlot (Moves GatedMoves gated_counts) gated_counts (Moves SlotMoves slot_counts)
    slot_counts
keeps_slot = record {
  goes = λ o c r o' is m.
      let went = slot_goes o c r o' is m.0 in
      ((went.0, rises_as (slot_counted o is) (slot_counted o' went.1) m.1), went.1);
  counts = slot_counted;
}

pub keeps_registry : Keeps as_registry IsRegistry (Moves GatedMoves gated_counts) gated_counts
    (Moves RegistryMoves registry_counts) registry_counts
keeps_registry = record {
  goes = λ o c r o' is m.
      let went = registry_goes o c r o' is m.0 in
      ((went.0, rises_as (registry_counted o is) (registry_counted o' went.1) m.1), went.1);
  counts = registry_counted;
}

pub keeps_pool : Keeps as_pool IsPool (Moves GatedMoves gated_counts) gated_counts (Moves PoolMoves pool_counts)
    pool_counts
keeps_pool = record {
  goes = λ o c r o' is m.
      let went = pool_goes o c r o' is m.0 in
      ((went.0, rises_as (pool_counted o is) (pool_counted o' went.1) m.1), went.1);
  counts = pool_counted;
}
