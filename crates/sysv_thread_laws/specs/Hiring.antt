-- A service whose first pass gives a pass to each of its workers, and takes all of them back before
-- the service is closed with it. This project's profile.
use Rattle.std.specs.Prelude.{◌≡◌, ◌+◌, ℕ, ℤ, Bool, List, ◌++◌, reverse}
use Rattle.std.specs.List.{AllByRecursion, FoldsTo, flat_map, sum_by}
use Rattle.sysv_steps.specs.Call.{MsgctlRmid, Kind}
use Rattle.sysv_steps.specs.State.{Ending, State, Over}
use Rattle.sysv_thread_laws.specs.Order.{Called}
use Rattle.sysv_thread_laws.specs.Team.{IsServed}
use Rattle.sysv_bank.specs.Banks.{Each3}
use Rattle.sysv_service.specs.Opened.{AreOpen, all_opened}
use Rattle.sysv_service.specs.Seats.{Gates, AreOf}
use Rattle.sysv_service.specs.Sharing.{AreSplit, AreJoined}
use Rattle.sysv_service.specs.declared.closing.Closed.{Closed}
use Rattle.sysv_service.specs.Closing.{IsCounted}
use Rattle.sysv_service.specs.Ran.{Pass}
use Rattle.sysv_service.specs.Stopped.{Stops, removed_by, superuser}
use Rattle.sysv_service.specs.TurnsLeft.{EachGateHasTurnsLeft}
use Rattle.sysv_thread_laws.specs.Working.{Works}

-- The pass with which a service is opened.
abbrev pub first_pass : Gates → Pass
first_pass gates = record { seats = all_opened gates; held = 0 }

-- A pass is split off, and `after` is what is left of the first.
abbrev pub Gives : Pass → Pass → Pass → Type 0
Gives own theirs after = AreSplit own.seats after.seats theirs.seats × (after.held ≡ own.held) × (theirs.held ≡ 0)

-- A pass is joined into another.
abbrev pub TakesIn : Pass → Pass → Pass → Type 0
TakesIn own theirs after = AreJoined own.seats theirs.seats after.seats × (after.held ≡ own.held + theirs.held)

-- The workers were given the passes `theirs`, one after the other, and left the passes `left`. The
-- first pass was `own`, and became `home` after it had taken all of them back, the last one first.
pub record Hires (own : Pass) (theirs left : List Pass) (home : Pass) : Type 0 where
  pub kept : Pass
  pub gives : FoldsTo Gives own theirs kept
  pub takes : FoldsTo TakesIn kept (reverse left) home

-- ---- the laws

-- The calls of all workers, those of the first worker first.
abbrev pub all_of : List (List Called) → List Called
all_of each = flat_map (λ calls. calls) each

-- The calls of the workers, and those that the first pass made after them, are all that made the
-- order that was found at the close, and the order is a run of a world with them, which obeys the
-- headline of threads. This holds if each gate has turns left after that order, since then no pass
-- found a gate worn out.
abbrev pub EveryHiringObeys : Type 0
EveryHiringObeys = (generation blocks first : ℕ) (gates : Gates) (theirs left : List Pass) (home last : Pass)
    (each : List (List Called)) (calls : List Called) (closed : Closed) →
    AreOpen generation blocks first gates → Hires (first_pass gates) theirs left home → Each3 Works theirs each left →
    Works home calls last →
    AreOf gates last.seats → (end : IsCounted last.seats last.held closed) →
    EachGateHasTurnsLeft first end.all.order →
    IsServed generation blocks end.all.order (all_of each ++ calls)

-- A removal of a queue by the superuser, which is over.
abbrev pub IsRemoval : Called → Type 0
IsRemoval call = (call.cred ≡ superuser) × ((id : ℤ) × (call.asked ≡ MsgctlRmid id))
    × ((ending : Ending) × (call.state ≡ Over ending))

-- The number of queues that a call removed which is in this state: one or none.
abbrev pub removed_at : {kind : Kind} → State kind → ℕ
removed_at (Over ending) = removed_by ending
removed_at state = 0

-- A stop makes removals, and no other call, and they removed as many queues as the stop has
-- counted.
abbrev pub EveryStopRemoves : Type 0
EveryStopRemoves = (slots removed : ℕ) (worn : Bool) (old new : Pass) → Stops old slots removed worn new →
    (calls : List Called) × Works old calls new × AllByRecursion IsRemoval calls
    × (sum_by (λ (call : Called). removed_at call.state) calls ≡ removed)
