-- How a call whose gates may be worn out is played along the turns that it made. A step finds its
-- gate worn out, or a wait is given up at a worn gate, only if the call has no turn left at that
-- object and the pass's seat there is marked. This project's profile.
use Rattle.std.specs.Prelude.{◌≡◌, ◌≢◌, ℕ, ◌≤◌, ◌⊎◌, Bool, true, List, [], ◌∷◌, Some}
use Rattle.std.specs.List.{AllByRecursion}
use mathlib.Core.Option.{some}
use lib.ListN.{get_elem?}
use Rattle.sysv_model.specs.declared.errno.Errno.TheVariants.{EOVERFLOW}
use Rattle.sysv_model.specs.Registry.{Forget, Changed}
use Rattle.sysv_model.specs.Turn.{Ask, OfSlot, OfRegistry, OfPool, Op, AtRegistry, asked_by}
use Rattle.sysv_steps.specs.Call.{Kind}
use Rattle.sysv_steps.specs.State.{Phase, AtInstall, Refused, Wait, State, Goes, Waits, Over}
use Rattle.sysv_steps.specs.Asks.{asks}
use Rattle.sysv_steps.specs.Next.{next}
use Rattle.sysv_steps.specs.Resume.{Count, ArrivedOf, FreedOf, Settled, Released, awaited, goal_of, resume}
use Rattle.sysv_steps.specs.Stepping.{when_worn}
use Rattle.sysv_service.specs.Seats.{SlotSeat, Seats}

-- An object.
pub data Place : Type 0 where
  AtTheSlot : (slot : ℕ) → Place
  AtTheRegistry : Place
  AtThePool : Place

-- The object that the request is for.
abbrev pub place_of : Ask → Place
place_of (OfSlot slot call) = AtTheSlot slot
place_of (OfRegistry call) = AtTheRegistry
place_of (OfPool call) = AtThePool

-- The object that has the count.
abbrev pub place_of_count : Count → Place
place_of_count (ArrivedOf slot) = AtTheSlot slot
place_of_count (FreedOf slot) = AtTheSlot slot
place_of_count Settled = AtTheRegistry
place_of_count Released = AtThePool

-- ---- a worn gate

-- None of the turns is at the object.
abbrev pub AreElsewhere : Place → List Op → Type 0
AreElsewhere place ops = AllByRecursion (λ (op : Op). place_of (asked_by op) ≢ place) ops

-- The seat at the object is marked.
abbrev pub IsMarkedAt : Place → Seats → Type 0
IsMarkedAt (AtTheSlot slot) seats = (seat : SlotSeat) × (get_elem? seats.slots slot ≡ some seat) × (seat.worn ≡ true)
IsMarkedAt AtTheRegistry seats = seats.registry.worn ≡ true
IsMarkedAt AtThePool seats = seats.pool.worn ≡ true

-- The gate of the object is worn out for the call: none of the turns that it has still to make is
-- at the object, and the seat there is marked.
abbrev pub IsWornAt : Place → List Op → Seats → Type 0
IsWornAt place ops seats = AreElsewhere place ops × IsMarkedAt place seats

-- The state of a call after a step whose gate was worn out, and the turns that it has left then.
-- The identifier of a queue that could not be installed is forgotten, if the registry's gate is not
-- worn out too.
abbrev pub TurnsBackOn : {kind : Kind} → Seats → Phase kind → List Op → State kind → List Op → Type 0
TurnsBackOn seats (AtInstall get id) ops after rest = (after ≡ Over (Refused EOVERFLOW))
    × (((done : Bool) × (ops ≡ AtRegistry (Forget id) (Changed done) ∷ rest))
    ⊎ ((rest ≡ ops) × IsWornAt AtTheRegistry ops seats))
TurnsBackOn seats phase ops after rest = (after ≡ when_worn phase) × (rest ≡ ops)

-- ---- the play

-- From this state the step table leads along these turns, all of them, to the state `to`. The seats
-- are those of the pass afterwards.
pub data PlaysWorn {kind : Kind} (seats : Seats) (to : State kind) : State kind → List Op → Type 0 where
  -- The call is in the state `to`, and has no turn left.
  stands : PlaysWorn seats to to []
  -- The call makes the next turn.
  takes_next : {phase : Phase kind} (op : Op) (now : ℕ) (after : State kind) (rest : List Op) →
      asked_by op ≡ asks phase now → next phase op ≡ Some after →
      PlaysWorn seats to after rest → PlaysWorn seats to (Goes phase) (op ∷ rest)
  -- The wait of the call ends.
  waits_enough : {wait : Wait kind} (value : ℕ) (ops : List Op) → goal_of wait ≤ value →
      PlaysWorn seats to (Goes (resume wait value)) ops → PlaysWorn seats to (Waits wait) ops
  -- The call finds the gate of the object of its next step worn out.
  finds_worn : {phase : Phase kind} (now : ℕ) (after : State kind) (ops rest : List Op) →
      IsWornAt (place_of (asks phase now)) ops seats →
      TurnsBackOn seats phase ops after rest → PlaysWorn seats to after rest → PlaysWorn seats to (Goes phase) ops
  -- The call gives its wait up at a worn gate.
  gives_up : {wait : Wait kind} (ops : List Op) → IsWornAt (place_of_count (awaited wait)) ops seats →
      PlaysWorn seats to (Over (Refused EOVERFLOW)) ops → PlaysWorn seats to (Waits wait) ops
