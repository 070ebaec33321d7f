-- The operation of a call has the request of its step.
use Rattle.std.proofs.Common.{◌≡◌}
use Rattle.sysv_model.specs.Pool.{Release, Reserved}
use Rattle.sysv_model.specs.Turn.{Ask, OfSlot, OfRegistry, OfPool, Op, AtSlot, AtRegistry, AtPool, asked_by}

-- The reply of the operation, to this request.
abbrev pub told : Ask → Op → Op
told (OfSlot slot call) (AtSlot at c reply) = AtSlot slot call reply
told (OfRegistry call) (AtRegistry c reply) = AtRegistry call reply
told (OfPool call) (AtPool c reply) = AtPool call reply
told ask op = AtPool (Release 0) (Reserved 0)

pub told_is : (ask : Ask) (op : Op) → asked_by op ≡ ask → told ask op ≡ op
told_is (OfSlot slot call) (AtSlot at c reply) e = cc
told_is (OfRegistry call) (AtRegistry c reply) e = cc
told_is (OfPool call) (AtPool c reply) e = cc
told_is ask op e = absurd cc
