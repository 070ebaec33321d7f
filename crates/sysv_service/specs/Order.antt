-- The order of the turns at all places of a bank, as turns of the world, and what the passes of the
-- bank are in these terms. The registry is at place 0, the pool at place 1, and slot k at place k +
-- 2. This project's profile.
use Rattle.std.specs.Prelude.{ℕ, zero, suc, List, [], ◌∷◌, ◌++◌}
use Rattle.sysv_model.specs.Turn.{Op, AtSlot, AtRegistry, AtPool}
use Rattle.sysv_model.specs.Turns.{Numbered}
use Rattle.sysv_model.specs.Members.{Member}
use Rattle.sysv_gate.specs.declared.table.view.Turn.{Turn}
use Rattle.sysv_gate.specs.declared.table.view.Placed.{Placed}
use Rattle.sysv_gate.specs.History.{after_all}
use Rattle.sysv_gate.specs.Gates.{Gateway}
use Rattle.sysv_gate.specs.Orders.{turns_at}
use Rattle.sysv_bank.specs.Passes.{Pass}
use Rattle.sysv_service.specs.declared.kinds.Gated.{Gated}
use Rattle.sysv_service.specs.declared.kinds.Gated.TheVariants as gated
use Rattle.sysv_objects.specs.declared.object.ObjectCall.{ObjectCall}
use Rattle.sysv_objects.specs.declared.object.ObjectReply.{ObjectReply}
use Rattle.sysv_objects.specs.SlotTurns.{slot_call, slot_reply}
use Rattle.sysv_objects.specs.RegistryTurns.{registry_call, registry_reply}
use Rattle.sysv_objects.specs.PoolTurns.{pool_call, pool_reply}
use Rattle.sysv_service.specs.Gated.{slot_in, slot_call_in, slot_reply_in, registry_call_in, registry_reply_in}
use Rattle.sysv_service.specs.Gated.{pool_call_in, pool_reply_in}

-- A turn at an object of the bank.
abbrev pub GatedTurn : Type 0
GatedTurn = Turn Gated ObjectCall ObjectReply

-- A turn at a place of the bank.
abbrev pub GatedPlaced : Type 0
GatedPlaced = Placed Gated ObjectCall ObjectReply

-- A pass of the bank.
abbrev pub GatedPass : Type 0
GatedPass = Pass Gated ObjectCall ObjectReply

-- ---- the order

-- The object that the gate at the place was opened with. Nothing is stated of a place without a
-- gate.
abbrev pub opening_at : List (Gateway Gated) → ℕ → Gated
opening_at [] place = gated.Pool (record { size = 0; free = 0; released = 0 })
opening_at (g ∷ gs) zero = g.opening
opening_at (g ∷ gs) (suc place) = opening_at gs place

-- The object at the place after these turns.
abbrev pub object_at : List (Gateway Gated) → ℕ → List GatedPlaced → Gated
object_at gates place order = after_all (opening_at gates place) (turns_at place order)

-- The operation that a turn at the place is in the world, if the object before it was `before`.
abbrev pub op_at : ℕ → Gated → GatedTurn → Op
op_at zero before t =
    AtRegistry (registry_call (registry_call_in t.call)) (registry_reply (registry_reply_in t.reply))
op_at (suc zero) before t = AtPool (pool_call (pool_call_in t.call)) (pool_reply (pool_reply_in t.reply))
op_at (suc (suc slot)) before t =
    AtSlot slot (slot_call (slot_call_in t.call)) (slot_reply (slot_in before) (slot_reply_in t.reply))

-- The operations of the turns that come after the earlier ones.
abbrev pub ops_after : List (Gateway Gated) → List GatedPlaced → List GatedPlaced → List Numbered
ops_after gates earlier [] = []
ops_after gates earlier (t ∷ ts) =
    record { by = t.turn.by; op = op_at t.place (object_at gates t.place earlier) t.turn }
    ∷ ops_after gates (earlier ++ t ∷ []) ts

-- The operations of all turns of the order, each with the number under which it was made.
abbrev pub ops_of : List (Gateway Gated) → List GatedPlaced → List Numbered
ops_of gates order = ops_after gates [] order

-- ---- passes

-- A pass of the bank, as a member of a team.
abbrev pub member_of : List (Gateway Gated) → GatedPass → Member
member_of gates pass =
    record { number = pass.number; numbers = pass.numbers; shares = pass.shares; order = ops_of gates pass.order }
