-- How far the counts of objects have come.
use Rattle.std.proofs.Common.{◌≡◌, ℕ, ◌+◌, ◌≤◌, Some, slice_get, arith}
use Rattle.sysv_model.specs.History.{Call, Install, Probe, Look, Place, Take, ReadStat, Set, Remove, ReadRow}
use Rattle.sysv_model.specs.Pool.{PoolCall, Reserve, Release}
use Rattle.sysv_model.specs.Turn.{Op}
use Rattle.sysv_queue.specs.Slot.{Slot}
use Rattle.sysv_objects.specs.declared.object.ObjectCall.{ObjectCall}
use Rattle.sysv_objects.specs.declared.object.ObjectCall.TheVariants as asked
use Rattle.sysv_objects.specs.declared.object.ObjectReply.{ObjectReply}
use Rattle.sysv_objects.specs.declared.object.ObjectReply.TheVariants as told
use Rattle.sysv_objects.specs.SlotTurns.{slot_call}
use Rattle.sysv_objects.specs.PoolTurns.{pool_call}
use Rattle.sysv_objects.specs.Turns.{Takes}
use Rattle.sysv_objects.specs.Objects.{Objects, CountsUpTo, raises, pool_raises, raises_by}
use Rattle.sysv_objects.specs.Represents.{MakesTurn}

-- Counts within a bound are within a higher bound.
pub weaker : (m n : ℕ) (o : Objects) → m ≤ n → CountsUpTo m o → CountsUpTo n o
weaker m n o up low =
    (λ number slot at. let l = low.0 number slot at in (omega (arith, l.0), omega (arith, l.1)), omega (arith, low.1))

raises_one : (call : Call) → raises call ≤ 1
raises_one (Install id key cred mode now) = omega arith
raises_one (Probe id cred flags) = omega arith
raises_one (Look id cred size) = omega arith
raises_one (Place id cred mtype bytes now) = omega arith
raises_one (Take id cred selector size noerror now) = omega arith
raises_one (ReadStat id cred) = omega arith
raises_one (Set id cred to now) = omega arith
raises_one (Remove id cred) = omega arith
raises_one ReadRow = omega arith

releases_one : (call : PoolCall) → pool_raises call ≤ 1
releases_one (Reserve size) = omega arith
releases_one (Release blocks) = omega arith

rise : (n : ℕ) (old new : Objects) (op : Op) → MakesTurn old op new → CountsUpTo n old → raises_by op ≤ 1 →
    CountsUpTo (n + 1) new
rise n old new op turn low one = weaker (n + raises_by op) (n + 1) new (omega (arith, one)) (turn.counts n low)

-- No turn raises a count by more than one.
pub rises : (n : ℕ) (old new : Objects) (call : ObjectCall) (reply : ObjectReply) → Takes MakesTurn old call reply new →
    CountsUpTo n old → CountsUpTo (n + 1) new
rises n old new (asked.Slot call) (told.Slot reply) taken low =
    rise n old new _ taken.1 low (raises_one (slot_call call))
rises n old new (asked.Registry call) (told.Registry reply) taken low = rise n old new _ taken.0 low (omega arith)
rises n old new (asked.Pool call) (told.Pool reply) taken low =
    rise n old new _ taken.0 low (releases_one (pool_call call))
rises n old new call reply taken low = absurd taken
