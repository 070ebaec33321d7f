-- A call that waited for room, for a message or for a settled key makes its next turn only at an
-- object whose count is at least the goal of the wait (POSIX.1-2017, msgsnd and msgrcv: the calling
-- thread waits until ..; the goals are this project's profile). The goal of a wait for blocks is
-- compared with a count that was read, and not at a turn of the pool.
use Rattle.std.specs.Prelude.{◌≡◌, ℕ, ◌≤◌, List, [], ◌∷◌, Option, Some, None}
use mathlib.Core.Option.{some}
use lib.ListN.{get_elem?}
use Rattle.sysv_model.specs.Turn.{Op}
use Rattle.sysv_steps.specs.Call.{Kind}
use Rattle.sysv_steps.specs.State.{State, Phase, Wait, Goes}
use Rattle.sysv_steps.specs.Resume.{Count, ArrivedOf, FreedOf, Settled, Released, awaited, goal_of, resume}
use Rattle.sysv_gate.specs.declared.count.Count.{Count as OfObject}
use Rattle.sysv_gate.specs.declared.count.Count.TheVariants.{Arrived, Freed}
use Rattle.sysv_gate.specs.Counts.{of_count}
use Rattle.sysv_gate.specs.History.{after_all}
use Rattle.sysv_gate.specs.Gates.{Holding}
use Rattle.sysv_service.specs.Counts.{slot_counts}
use Rattle.sysv_service.specs.Counts.{registry_counts}
use Rattle.sysv_service.specs.Seats.{SlotSeat, Seats}
use Rattle.sysv_service.specs.Reading.{Reads}
use Rattle.sysv_service.specs.Ran.{Pass, Steps, Ran, begins, steps, turns_back, reads, resumes, gives_up}

-- The list without its last element.
abbrev pub all_but_last : {A : Type 0} → List A → List A
all_but_last [] = []
all_but_last (x ∷ []) = []
all_but_last (x ∷ y ∷ ys) = x ∷ all_but_last (y ∷ ys)

-- The count of the object that the last turn seen by the seat found.
abbrev pub count_found : {O C R : Type 0} → (O → ℕ × ℕ) → OfObject → Holding O C R → ℕ
count_found counted count seat = of_count count (counted (after_all seat.gate.opening (all_but_last seat.seen)))

-- The last turn at the object that has the count found the count at the goal or above. Of a wait
-- for blocks nothing is stated.
abbrev pub IsFoundAt : Count → ℕ → Seats → Type 0
IsFoundAt (ArrivedOf slot) goal seats =
    (seat : SlotSeat) → get_elem? seats.slots slot ≡ some seat → goal ≤ count_found slot_counts Arrived seat
IsFoundAt (FreedOf slot) goal seats =
    (seat : SlotSeat) → get_elem? seats.slots slot ≡ some seat → goal ≤ count_found slot_counts Freed seat
IsFoundAt Settled goal seats = goal ≤ count_found registry_counts Arrived seats.registry
IsFoundAt Released goal seats = Unit {0}

-- A wait ended with a value of at least its goal, and the call made its next turn.
abbrev pub EachRetryIsAtItsGoal : (ℕ → Type 0) → Type 0
EachRetryIsAtItsGoal may =
    (kind : Kind) (wait : Wait kind) (value : ℕ) (waited read : Pass) (state : State kind) (after : Pass) →
    goal_of wait ≤ value → Reads (awaited wait) value waited.seats read.seats →
    Steps may (resume wait value) read state after →
    IsFoundAt (awaited wait) (goal_of wait) after.seats

-- The wait of the call that ended last, if the call has only read counts since.
abbrev pub resumed : {kind : Kind} {may : ℕ → Type 0} {from : State kind} {old : Pass} {ops : List Op}
    {state : State kind} {new : Pass} → Ran may from old ops state new → Option (Wait kind)
resumed begins = None
resumed (steps state new ran step) = None
resumed (turns_back state new ran step) = None
resumed (reads count value new ran read same) = resumed ran
resumed (resumes {wait} value new ran reached read same) = Some wait
resumed (gives_up value new ran below read same) = None

-- A call whose wait ended, and which has only read counts since, made its next turn.
abbrev pub EachRunRetriesAtItsGoal : (ℕ → Type 0) → Type 0
EachRunRetriesAtItsGoal may =
    (kind : Kind) (from : State kind) (old : Pass) (ops : List Op) (phase : Phase kind) (mid : Pass)
    (state : State kind) (new : Pass) (ran : Ran may from old ops (Goes phase) mid) → Steps may phase mid state new →
    (wait : Wait kind) → resumed ran ≡ Some wait → IsFoundAt (awaited wait) (goal_of wait) new.seats
