-- What looks at calls that still wait show of other calls (this project's profile).
use Rattle.std.specs.Prelude.{◌≡◌, ◌≤◌, ℕ, ℤ, true, Option, None, Some, min, if◌then◌else◌}
use Rattle.std.specs.Ordering.{int_eq}
use Rattle.sysv_parking.specs.declared.barriers.Barriers.{Barriers}
use Rattle.sysv_parking.specs.declared.barriers.Shortage.{Shortage}
use Rattle.sysv_parking.specs.declared.due.Why.{Why}
use Rattle.sysv_parking.specs.declared.key.Key.{Key}
use Rattle.sysv_parking.specs.declared.key.Key.TheVariants.{Message, Room, Blocks, Settled}

-- The shorter of this length and of one for which there is no room on the same queue.
abbrev pub least_room : Option Shortage → ℤ → ℕ → ℕ
least_room None id length = length
least_room (Some shortage) id length = if int_eq shortage.id id then min shortage.least length else length

-- The shorter of this length and of one for which there are too few blocks.
abbrev pub least_blocks : Option ℕ → ℕ → ℕ
least_blocks None length = length
least_blocks (Some least) length = min least length

-- What is known after a call that waits for this was looked at, and still waits.
abbrev pub learned : Key → Barriers → Barriers
learned (Message caller selector) known = record known { reads = Some caller }
learned (Room caller length) known = record known {
  writes = Some caller;
  room = Some (record { id = caller.id; least = least_room known.room caller.id length });
}
learned (Blocks caller length) known = record known {
  writes = Some caller;
  blocks = Some (least_blocks known.blocks length);
}
learned Settled known = known

-- The call is of a caller whose calls of the same kind find their queue, and are granted.
abbrev pub IsGranted : Barriers → Key → Type 0
IsGranted known (Message caller selector) = known.reads ≡ Some caller
IsGranted known (Room caller length) = known.writes ≡ Some caller
IsGranted known (Blocks caller length) = known.writes ≡ Some caller
IsGranted known Settled = ⊥

-- A call that needs no more than this one did not get it.
abbrev pub IsLacking : Barriers → Key → Type 0
IsLacking known (Room caller length) = (shortage : Shortage)
    × (known.room ≡ Some shortage) × (shortage.id ≡ caller.id) × (shortage.least ≤ length)
IsLacking known (Blocks caller length) = (least : ℕ) × (known.blocks ≡ Some least) × (least ≤ length)
IsLacking known key = ⊥

-- A call that is due for these reasons would still wait.
abbrev pub IsStopped : Barriers → Why → Key → Type 0
IsStopped known why key = (why.changed ≡ true → IsGranted known key) × (why.raised ≡ true → IsLacking known key)
