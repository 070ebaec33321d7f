-- What the parts of a call require of a seat, and what they leave. This project's profile.
use Rattle.std.specs.Prelude.{◌≡◌, ℕ, ◌+◌, ◌<◌, ◌≤◌, ◌^◌, cond, true, false, List, [], ◌∷◌, length, Some}
use Rattle.sysv_gate.specs.declared.table.view.View.{View}
use Rattle.sysv_gate.specs.declared.table.view.Turn as view
use Rattle.sysv_gate.specs.declared.lock.turns.Entry.{Entry}
use Rattle.sysv_gate.specs.declared.lock.turns.Rose.{Rose}
use Rattle.sysv_gate.specs.declared.awaited.Awaited.{Awaited}
use Rattle.sysv_gate.specs.declared.awaited.Awaited.TheVariants.{Reached}
use Rattle.sysv_gate.specs.declared.awaited.Awaited.TheVariants as awaited
use Rattle.sysv_gate.specs.declared.table.place.Place.{Place}
use Rattle.sysv_gate.specs.declared.table.place.Done.{Done}
use Rattle.sysv_gate.specs.declared.count.Count.{Count}
use Rattle.sysv_gate.specs.declared.count.Count.TheVariants.{Arrived, Freed}
use Rattle.sysv_gate.specs.declared.lock.turns.Entry.TheVariants.{Turn, Busy, Worn}
use Rattle.sysv_lists.specs.Numbers.{times}
use Rattle.sysv_lists.specs.Prefix.{IsPrefixOf}
use Rattle.sysv_gate.specs.History.{IsLegal, after_all, HasItsOwn}
use Rattle.sysv_gate.specs.Counts.{of_count}
use Rattle.sysv_gate.specs.Steps.{Mine, drew, read_to, ended, HasTurn}

module _ {O C R : Type 0} where
  -- The seat holds no slot, and has these tickets and no turn.
  abbrev pub Waits : List ℕ → Mine O C R → Type 0
  Waits tickets m = (m.1 ≡ []) × (m.0.tickets ≡ tickets) × (m.0.in_turn ≡ false)

  -- The seat has drawn the ticket.
  abbrev pub HasDrawn : Mine O C R → ℕ → Mine O C R → Type 0
  HasDrawn m ticket m' = (m' ≡ (drew ticket m.0, [])) × (ticket < 2 ^ 62) × (m.0.worn ≡ false)

  -- The seat has found that the tickets have reached 2^62.
  abbrev pub HasWorn : Mine O C R → Mine O C R → Type 0
  HasWorn m m' = m' ≡ (record m.0 { worn = true }, [])

  -- The seat has seen more, and waits as before.
  pub record SawMore (v : View O C R) (m : Mine O C R) : Type 0 where
    pub log : List (view.Turn O C R)
    pub longer : IsPrefixOf v.seen log
    pub is : m ≡ (record v { seen = log }, [])

  -- The seat's turn has begun.
  pub record TurnCame (moves : O → C → R → O → Type 0) (counted : O → ℕ × ℕ) (opening : O) (v : View O C R) (ticket : ℕ)
      (m : Mine O C R) : Type 0 where
    pub log : List (view.Turn O C R)
    pub longer : IsPrefixOf v.seen log
    pub count : ticket ≡ v.first + length log
    pub view : m.0 ≡ record v { seen = log; tickets = ticket ∷ []; in_turn = true }
    pub turn : HasTurn moves counted opening m

  -- The seat has looked which ticket is served, and it is n. If that is the seat's own ticket, its
  -- turn has begun. If the seat does not hold it, it waits as before.
  pub record Looked (moves : O → C → R → O → Type 0) (counted : O → ℕ × ℕ) (opening : O) (m : Mine O C R) (n : ℕ)
      (m' : Mine O C R) : Type 0 where
    pub log : List (view.Turn O C R)
    pub longer : IsPrefixOf m.0.seen log
    pub count : n ≡ m.0.first + length log
    pub legal : IsLegal moves opening log
    pub own : HasItsOwn m.0.numbers m.0.own log
    pub mine : m.0.tickets ≡ n ∷ [] → TurnCame moves counted opening m.0 n m'
    pub other : times n m.0.tickets ≡ 0 → m' ≡ (record m.0 { seen = log }, [])

  -- The result of a try. The turn has begun, or the seat has seen more, or it has found that the
  -- tickets have reached 2^62. In the first two cases it was not marked before.
  abbrev pub Entered : (O → C → R → O → Type 0) → (O → ℕ × ℕ) → O → Mine O C R → Entry → Mine O C R → Type 0
  Entered moves counted opening m Turn m' =
      (ticket : ℕ) × TurnCame moves counted opening m.0 ticket m' × (ticket < 2 ^ 62) × (m.0.worn ≡ false)
  Entered moves counted opening m Busy m' =
      SawMore m.0 m' × IsLegal moves opening m'.0.seen × HasItsOwn m'.0.numbers m'.0.own m'.0.seen × (m.0.worn ≡ false)
  Entered moves counted opening m Worn m' = HasWorn m m'

  -- The turn was made.
  pub record HasMade (moves : O → C → R → O → Type 0) (opening : O) (v : View O C R) (call : C) (reply : R)
      (m : Mine O C R) : Type 0 where
    pub object : O
    pub is : m ≡ (ended v call reply object, [])
    pub legal : IsLegal moves opening m.0.seen
    pub own : HasItsOwn m.0.numbers m.0.own m.0.seen

-- What a rise adds to the count.
abbrev pub rise : Count → Rose → ℕ
rise Arrived rose = cond rose.arrived 1 0
rise Freed rose = cond rose.freed 1 0

module _ {O C R : Type 0} where
  -- The object was called, and is stored beside the call that it served. The result shows which
  -- counts rose.
  pub record Applied (moves : O → C → R → O → Type 0) (counted : O → ℕ × ℕ) (object : O) (call : C)
      (place : Place O C R) (reply : R) (rose : Rose) : Type 0 where
    pub move : moves object call reply place.object
    pub last : Done C R
    pub beside : place.last ≡ Some last
    pub asked : last.call.value ≡ call
    pub answered : last.reply.value ≡ reply
    pub rises : (count : Count) →
        of_count count (counted place.object) ≡ of_count count (counted object) + rise count rose

  -- The seat has read the count.
  pub record HasRead (counted : O → ℕ × ℕ) (opening : O) (count : Count) (m : Mine O C R) (n : ℕ)
      (m' : Mine O C R) : Type 0 where
    pub is : m' ≡ (read_to count n m.0, [])
    pub before : of_count count m.0.read ≤ n
    pub known : of_count count (counted (after_all opening m.0.seen)) ≤ n

  -- The seat may have read the count.
  pub record ReadMore (count : Count) (m m' : Mine O C R) : Type 0 where
    pub value : ℕ
    pub is : m' ≡ (read_to count value m.0, [])
    pub before : of_count count m.0.read ≤ value

  -- The seat has read the count, and it was below the goal.
  abbrev pub HasReadBelow : (O → ℕ × ℕ) → O → Count → ℕ → Mine O C R → Mine O C R → Type 0
  HasReadBelow counted opening count goal m m' = (n : ℕ) × (n < goal) × HasRead counted opening count m n m'

  -- The wait is over. Either the count is at least the goal, or it is below the goal and the seat
  -- has found that the tickets have reached 2^62.
  abbrev pub HasWaited : (O → ℕ × ℕ) → O → Count → ℕ → Mine O C R → Awaited → Mine O C R → Type 0
  HasWaited counted opening count goal m (Reached n) m' = (goal ≤ n) × HasRead counted opening count m n m'
  HasWaited counted opening count goal m awaited.Worn m' =
      (n : ℕ) × (mid : Mine O C R) × (n < goal) × HasRead counted opening count m n mid × HasWorn mid m'
