-- The counts of the objects behind gates: which count is meant, and where it is. This project's
-- profile.
use Rattle.std.specs.Prelude.{ℕ, ◌+◌}
use Rattle.sysv_keys.specs.Identifier.{slot_of_id}
use Rattle.sysv_steps.specs.Resume.{Count, ArrivedOf, FreedOf, Settled, Released}
use Rattle.sysv_gate.specs.declared.count.Count.{Count as OfObject}
use Rattle.sysv_gate.specs.declared.count.Count.TheVariants as each
use Rattle.sysv_service.specs.declared.shared_count.SharedCount.{SharedCount}
use Rattle.sysv_service.specs.declared.shared_count.SharedCount.TheVariants as shared

-- The count that is meant.
abbrev pub count_of : SharedCount → Count
count_of shared.Settled = Settled
count_of shared.Released = Released
count_of (shared.Arrived id) = ArrivedOf (slot_of_id id)
count_of (shared.Freed id) = FreedOf (slot_of_id id)

-- The place in the bank of the object that has the count.
abbrev pub place_with : SharedCount → ℕ
place_with shared.Settled = 0
place_with shared.Released = 1
place_with (shared.Arrived id) = slot_of_id id + 2
place_with (shared.Freed id) = slot_of_id id + 2

-- Which of the two counts of that object it is.
abbrev pub count_there : SharedCount → OfObject
count_there shared.Settled = each.Arrived
count_there shared.Released = each.Arrived
count_there (shared.Arrived id) = each.Arrived
count_there (shared.Freed id) = each.Freed
