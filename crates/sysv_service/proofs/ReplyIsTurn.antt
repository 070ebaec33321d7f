-- Proves that a reply of a gate is a turn of the object.
use Rattle.std.proofs.Common.{◌≡◌, ℕ, List, [], ◌∷◌, ◌++◌, false, Result, Ok, Err, IfOk, refl, sym, subst}
use Rattle.sysv_model.specs.Turn.{AtSlot, AtRegistry, AtPool}
use Rattle.sysv_model.specs.Members.{MakesTurn}
use Rattle.sysv_queue.specs.Slot.{Slot}
use Rattle.sysv_gate.specs.declared.table.view.Turn.{Turn}
use Rattle.sysv_gate.specs.History.{Moves, IsLegal, after_all}
use Rattle.sysv_gate.specs.Gates.{Holding, Answers, made, saw}
use Rattle.sysv_bank.specs.Banks.{ChangesAt}
use Rattle.sysv_objects.specs.declared.slot.SlotCall.{SlotCall}
use Rattle.sysv_objects.specs.declared.slot.SlotReply.{SlotReply}
use Rattle.sysv_objects.specs.declared.registry.RegistryCall.{RegistryCall}
use Rattle.sysv_objects.specs.declared.registry.RegistryReply.{RegistryReply}
use Rattle.sysv_objects.specs.declared.pool.PoolCall.{PoolCall}
use Rattle.sysv_objects.specs.declared.pool.PoolReply.{PoolReply}
use Rattle.sysv_objects.specs.SlotTurns.{slot_asked, slot_call, slot_reply, SlotMoves}
use Rattle.sysv_objects.specs.RegistryTurns.{registry_call, registry_reply, RegistryMoves}
use Rattle.sysv_objects.specs.PoolTurns.{pool_call, pool_reply, PoolMoves}
use Rattle.sysv_service.specs.Counts.{slot_counts, registry_counts, pool_counts}
use Rattle.sysv_objects.specs.declared.object.ObjectCall.TheVariants as asked
use Rattle.sysv_objects.specs.declared.object.ObjectReply.TheVariants as told
use Rattle.sysv_objects.specs.Turns.{Takes}
use Rattle.sysv_service.specs.Seats.{Seats, KnowWhatTheyRead, MakesTurnAt}

-- The last turn of a legal history is allowed by the meaning of the object after the turns before
-- it.
pub last_legal : {O C R : Type 0} (moves : O → C → R → O → Type 0) (opening : O) (ts : List (Turn O C R))
    (t : Turn O C R) → IsLegal moves opening (ts ++ t ∷ []) → moves (after_all opening ts) t.call t.reply t.after
last_legal moves opening [] t legal = legal.0
last_legal moves opening (x ∷ ts) t legal = last_legal moves x.after ts t legal.1

module _ {O C R : Type 0} (meaning : O → C → R → O → Type 0) (counted : O → ℕ × ℕ) (before : Holding O C R) (call : C)
    (reply : R) (after : Holding O C R) (a : Answers (Moves meaning counted) counted before call reply after) where
  -- The object just before the turn.
  abbrev pub object_before : O
  object_before = after_all before.gate.opening (before.seen ++ a.others)

  pub turn_meant : meaning object_before call reply a.object
  turn_meant =
      let is : after ≡ made call reply a.object (saw a.others before) = a.made in
      let legal : IsLegal (Moves meaning counted) (made call reply a.object (saw a.others before)).gate.opening
      (made call reply a.object (saw a.others before)).seen =
      subst (λ (h : Holding O C R). IsLegal (Moves meaning counted) h.gate.opening h.seen) is a.legal in
      (last_legal (Moves meaning counted) before.gate.opening (before.seen ++ a.others)
      (record { by = before.number; call = call; reply = reply; after = a.object }) legal).0

pub if_ok : {T E : Type 0} (r : Result T E) (P Q : T → Type 0) → IfOk r P → ((x : T) → P x → Q x) → IfOk r Q
if_ok (Ok x) P Q is goes = goes x is
if_ok (Err e) P Q is goes = tt

-- ---- with the object just before the turn seen in another way

pub slot_answers : (before : Seats) (call : SlotCall) (reply : SlotReply) (after : Seats) (slot : Slot) →
    ChangesAt (slot_asked call) before.slots after.slots
    (λ b a.
    (answered : Answers (Moves SlotMoves slot_counts) slot_counts b call reply a × (b.worn ≡ false))
    × (object_before SlotMoves slot_counts b call reply a answered.0 ≡ slot)) →
    after.registry ≡ before.registry → after.pool ≡ before.pool →
    MakesTurn before.member (AtSlot (slot_asked call) (slot_call call) (slot_reply slot reply)) after.member →
    KnowWhatTheyRead after →
    Takes MakesTurnAt before (asked.Slot call) (told.Slot reply) after
slot_answers before call reply after slot c registry pool made reads =
    let b = c.was in
    let answered = c.change.0 in
    let meant = turn_meant SlotMoves slot_counts b call reply c.is answered.0 in (
      object_before SlotMoves slot_counts b call reply c.is answered.0,
      (
        record {
          was = c.was;
          is = c.is;
          at = c.at;
          others = c.others;
          change = record { call = call; reply = reply; answers = answered.0; fresh = answered.1; entered = refl };
        },
        registry,
        pool,
        subst (λ s.
            MakesTurn before.member (AtSlot (slot_asked call) (slot_call call) (slot_reply s reply)) after.member)
            (sym c.change.1) made,
        reads,
      ),
      meant.fits,
    )

pub registry_answers : (before : Seats) (call : RegistryCall) (reply : RegistryReply) (after : Seats) →
    Answers (Moves RegistryMoves registry_counts) registry_counts before.registry call reply after.registry →
    before.registry.worn ≡ false → after.slots ≡ before.slots → after.pool ≡ before.pool →
    MakesTurn before.member (AtRegistry (registry_call call) (registry_reply reply)) after.member →
    KnowWhatTheyRead after →
    Takes MakesTurnAt before (asked.Registry call) (told.Registry reply) after
registry_answers before call reply after a fresh slots pool made reads = (
  (record { call = call; reply = reply; answers = a; fresh = fresh; entered = refl }, slots, pool, made, reads),
  (turn_meant RegistryMoves registry_counts before.registry call reply after.registry a).fits,
)

pub pool_answers : (before : Seats) (call : PoolCall) (reply : PoolReply) (after : Seats) →
    Answers (Moves PoolMoves pool_counts) pool_counts before.pool call reply after.pool → before.pool.worn ≡ false →
    after.slots ≡ before.slots → after.registry ≡ before.registry →
    MakesTurn before.member (AtPool (pool_call call) (pool_reply reply)) after.member →
    KnowWhatTheyRead after →
    Takes MakesTurnAt before (asked.Pool call) (told.Pool reply) after
pool_answers before call reply after a fresh slots registry made reads = (
  (record { call = call; reply = reply; answers = a; fresh = fresh; entered = refl }, slots, registry, made, reads),
  (turn_meant PoolMoves pool_counts before.pool call reply after.pool a).fits,
)
