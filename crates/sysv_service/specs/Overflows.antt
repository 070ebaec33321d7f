-- A call that fails with EOVERFLOW has found a gate worn out, and its pass is marked there. A stop
-- fails with EOVERFLOW if and only if it found the gate of a slot worn out. This project's profile.
use Rattle.std.specs.Prelude.{◌≡◌, ℕ, ◌⊎◌, ◌↔◌, ⊤, Bool, true, List}
use Rattle.sysv_model.specs.declared.cred.Cred.{Cred}
use Rattle.sysv_model.specs.declared.errno.Errno.TheVariants.{EOVERFLOW}
use Rattle.sysv_model.specs.Turn.{Op}
use Rattle.sysv_keys.specs.Identifier.{slot_of_id}
use Rattle.sysv_steps.specs.Asks.{asks}
use Rattle.sysv_steps.specs.Begin.{begin}
use Rattle.sysv_steps.specs.Call.{SystemCall, Msgget, Kind}
use Rattle.sysv_steps.specs.Resume.{awaited}
use Rattle.sysv_steps.specs.State.{State, Over, Refused}
use Rattle.sysv_service.specs.Opened.{AreOpen}
use Rattle.sysv_service.specs.Seats.{Gates, Seats, AreOf}
use Rattle.sysv_service.specs.PlayedWorn.{Place, AtTheSlot, place_of, place_of_count, IsMarkedAt}
use Rattle.sysv_service.specs.Ran.{Pass, Ran, FindsTurns, begins, steps, turns_back, reads, resumes, gives_up}
use Rattle.sysv_service.specs.Stopped.{StopsAt, is_vacant, is_worn, tries, Stops, goes_on}
use Rattle.sysv_service.specs.Stopped as stopped

-- ---- a call

-- The call found the gate of this object worn out, at a step or in a wait.
abbrev pub FindsWornAt : {kind : Kind} {may : ℕ → Type 0} {from : State kind} {old : Pass} {ops : List Op}
    {state : State kind} {new : Pass} → Place → Ran may from old ops state new → Type 0
FindsWornAt place begins = ⊥
FindsWornAt place (steps state new ran step) = FindsWornAt place ran
FindsWornAt place (turns_back {phase} state new ran step) =
    (place ≡ place_of (asks phase step.now)) ⊎ FindsWornAt place ran
FindsWornAt place (reads count value new ran read same) = FindsWornAt place ran
FindsWornAt place (resumes value new ran reached read same) = FindsWornAt place ran
FindsWornAt place (gives_up {wait} value new ran below read same) =
    (place ≡ place_of_count (awaited wait)) ⊎ FindsWornAt place ran

-- A get is made with a pass of a service at whose objects nothing had happened when it was opened:
-- only then are the replies of the registry known to be legal. Of other calls nothing is needed.
abbrev pub IsOpenFor : SystemCall → Seats → Type 0
IsOpenFor (Msgget key flags) seats = (generation : ℕ) × (blocks : ℕ) × (first : ℕ) × (gates : Gates)
    × AreOpen generation blocks first gates × AreOf gates seats
IsOpenFor asked seats = ⊤

-- A call that fails with EOVERFLOW has found the gate of an object worn out, and the pass's seat
-- there is marked.
abbrev pub EachOverflowIsAtAWornGate : (ℕ → Type 0) → Type 0
EachOverflowIsAtAWornGate may = (cred : Cred) (asked : SystemCall) (released : ℕ) (old : Pass) (ops : List Op)
    (new : Pass) → IsOpenFor asked old.seats →
    (ran : Ran may (begin cred asked released) old ops (Over (Refused EOVERFLOW)) new) →
    (FindsTurns ran → ⊥) × ((place : Place) × FindsWornAt place ran × IsMarkedAt place new.seats)

-- ---- a stop

-- The stop found the gate of this slot worn out when it read the row, or its removal found it so.
abbrev pub FindsItWorn : {slot : ℕ} {before : Pass} {here : ℕ} {found : Bool} {after : Pass} →
    StopsAt slot before here found after → Type 0
FindsItWorn (is_vacant after tells) = ⊥
FindsItWorn (is_worn after tells) = ⊤
FindsItWorn (tries row mid ending after tells came) = FindsWornAt (AtTheSlot (slot_of_id row.id)) came.1

-- The stop found the gate of a slot worn out.
abbrev pub FindsASlotWorn : {old : Pass} {slots removed : ℕ} {worn : Bool} {new : Pass} →
    Stops old slots removed worn new → Type 0
FindsASlotWorn stopped.begins = ⊥
FindsASlotWorn (goes_on here found new run at) = FindsASlotWorn run ⊎ FindsItWorn at

-- The seat at some slot is marked.
abbrev pub IsMarkedAtASlot : Seats → Type 0
IsMarkedAtASlot seats = (slot : ℕ) × IsMarkedAt (AtTheSlot slot) seats

-- A stop fails with EOVERFLOW if and only if it found the gate of a slot worn out. The pass's seat
-- there is marked then.
abbrev pub EachStopOverflowsAtAWornGate : Type 0
EachStopOverflowsAtAWornGate =
    (slots removed : ℕ) (worn : Bool) (old new : Pass) (run : Stops old slots removed worn new) →
    ((worn ≡ true) ↔ FindsASlotWorn run) × (worn ≡ true → IsMarkedAtASlot new.seats)
