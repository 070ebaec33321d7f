-- What a gate returns when it is closed. This project's profile.
use Rattle.std.specs.Prelude.{◌≡◌, ℕ, ◌+◌, ◌^◌, ◌≤◌, ◌↔◌, true, List, length, Option, Some, None, IfSome, IfNone}
use mathlib.Core.Option.{some}
use lib.ListN.{get_elem?}
use Rattle.sysv_gate.specs.declared.gate.closing.Closing.{Closing}
use Rattle.sysv_gate.specs.declared.table.view.View.{View}
use Rattle.sysv_gate.specs.declared.table.view.Turn.{Turn}
use Rattle.sysv_lists.specs.Numbers.{times}
use Rattle.sysv_lists.specs.Prefix.{IsPrefixOf}
use Rattle.sysv_gate.specs.History.{IsLegal, after_all, HasItsOwn}
use Rattle.sysv_gate.specs.Rule.{Spot, Homes, IsKept}
use Rattle.sysv_gate.specs.Gates.{Gateway, Holding}

-- The object in the slot, if there is one.
abbrev pub held_object : {O C R : Type 0} → Spot O C R → Option O
held_object None = None
held_object (Some place) = Some place.object

-- The gate returned its object.
abbrev pub IsBack : {O : Type 0} → Closing O → Type 0
IsBack {O} c = (o : O) × (c.object ≡ Some o)

module _ {O C R : Type 0} where
  -- The rule has a state with these turns in which some seat holds the ticket that comes next.
  abbrev pub ATurnIsDue : (O → C → R → O → Type 0) → Gateway O → List (Turn O C R) → Type 0
  ATurnIsDue moves gate log =
      (drawn : ℕ) × (homes : Homes O C R) × (views : List (View O C R))
      × IsKept moves gate.opening gate.first log drawn homes views
      × ((i : ℕ) × (v : View O C R) × (get_elem? views i ≡ some v) × (1 ≤ times (gate.first + length log) v.tickets))

  -- There is one legal history of all turns. It begins with all that the seat had seen, and of the
  -- seat's own turns it has exactly those that the seat knows of. The number of its turns is
  -- returned, and the object after them, unless a turn is still due. The tickets of these turns are
  -- all below 2^62. The object is returned if and only if the ticket that is drawn next is that of
  -- the turn after the last one, so that every drawn ticket was served. If the seat has found the
  -- tickets worn out, the ticket that is drawn next is 2^62: if the object is returned then, the
  -- gate has had all its turns. If the seat is alone, the history is what the seat has seen, and
  -- the object is returned.
  pub record Closes (moves : O → C → R → O → Type 0) (seat : Holding O C R) (c : Closing O) : Type 0 where
    pub log : List (Turn O C R)
    pub legal : IsLegal moves seat.gate.opening log
    pub longer : IsPrefixOf seat.seen log
    pub own : HasItsOwn seat.numbers seat.own log
    pub turns : c.turns ≡ length log
    pub few : seat.gate.first + length log ≤ 2 ^ 62
    pub object : IfSome c.object (λ o. (o ≡ after_all seat.gate.opening log) × (c.rest ≡ None))
    pub due : IfNone c.object (ATurnIsDue moves seat.gate log)
    pub drawn : (seat.gate.first + length log ≤ c.next_ticket) × (c.next_ticket ≤ 2 ^ 62)
    pub back : IsBack c ↔ (c.next_ticket ≡ seat.gate.first + length log)
    pub worn : seat.worn ≡ true → c.next_ticket ≡ 2 ^ 62
    pub alone : seat.alone ≡ true → (log ≡ seat.seen) × (c.object ≡ Some (after_all seat.gate.opening seat.seen))
