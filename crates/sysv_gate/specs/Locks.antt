-- A place of a table, and what the parts of a call there require of a pass and leave of it. This
-- project's profile.
use Rattle.std.specs.Prelude.{◌≡◌, ℕ, ◌+◌, ◌*◌, ◌<◌, ◌≤◌, List, [], ◌∷◌, ◌++◌, false, length, slice_set, Some}
use mathlib.Core.Option.{some}
use lib.ListN.{get_elem?}
use Rattle.atomic_table.specs.Seated.{TableId}
use Rattle.atomic_table.specs.declared.shared.Seat.{Seat}
use Rattle.atomic_table.specs.declared.shared.Shared.{Shared}
use Rattle.sysv_gate.specs.declared.table.TableKey.{TableKey}
use Rattle.sysv_gate.specs.declared.table.PlaceTableRule.{PlaceTableRule}
use Rattle.sysv_gate.specs.declared.table.view.Turn.{Turn}
use Rattle.sysv_gate.specs.declared.table.view.Placed.{Placed}
use Rattle.sysv_gate.specs.declared.table.view.Sight.{Sight}
use Rattle.sysv_lists.specs.Prefix.{IsPrefixOf}
use Rattle.sysv_lists.specs.Numbers.{times}
use Rattle.sysv_gate.specs.declared.count.Count.{Count}
use Rattle.sysv_gate.specs.declared.refusals.TryRefused.{TryRefused}
use Rattle.sysv_gate.specs.declared.refusals.TryRefused.TheVariants.{Busy, Worn}
use Rattle.sysv_gate.specs.History.{IsLegal, after_all, HasItsOwn, made_at}
use Rattle.sysv_gate.specs.Counts.{of_count}
use Rattle.sysv_gate.specs.Steps.{Mine, turn_of, named}
use Rattle.sysv_gate.specs.Plays.{at_each, newcomer}
use Rattle.sysv_gate.specs.declared.table.view.View.{View}
use Rattle.sysv_gate.specs.Turns.{SawMore, HasWorn}
use Rattle.sysv_gate.specs.Orders.{turns_at}
use Rattle.sysv_gate.specs.Rule.{Spot}
use Rattle.sysv_gate.specs.Tables.{view_at, OwnsInOrder, Passing, me_at, Carries}

-- A place: its number, and the object that was there when the table was laid.
pub record LockView (O : Type 0) : Type 0 where
  pub place : ℕ
  pub opening : O

-- The lock is a place of the table, and has the object that was there first.
abbrev pub IsLockOf : {O : Type 0} → TableId → List O → LockView O → Type 0
IsLockOf table openings lock =
    (get_elem? openings lock.place ≡ some lock.opening) × (80 * lock.place + 80 ≤ table.words)

-- What contracts see of a table.
abbrev pub TableSeen : Type 0 → Type 0 → Type 0 → Type 0
TableSeen O C R = Shared (Spot O C R) (Sight O C R) (TableKey O) (PlaceTableRule O)

module _ {O C R : Type 0} where
  -- The pass is one of the table, and knows the object that was first at the place. It holds no
  -- slot except that of the place, and the order that it has seen contains all turns that it has
  -- seen at the place.
  abbrev pub IsAt : TableId → LockView O → Seat (Spot O C R) (Sight O C R) → Type 0
  IsAt table lock token =
      (token.table_id ≡ table) × (lock.place < length token.me.0.views)
      × ((me_at lock.place token.me).0.opening ≡ Some lock.opening)
      × Carries lock.place token.me
      × IsPrefixOf (view_at lock.place token.me.0).seen (turns_at lock.place token.me.0.seen)

  -- The table has at least one place.
  abbrev pub HasPlaces : TableSeen O C R → Type 0
  HasPlaces table = 80 ≤ table.table_id.words

  -- The lock is a place of this table.
  abbrev pub IsLockIn : TableSeen O C R → LockView O → Type 0
  IsLockIn table lock = IsLockOf table.table_id table.key.openings.value.items lock

  -- The pass is one of this table, and knows the place, as in `IsAt`.
  abbrev pub IsPassAt : TableSeen O C R → LockView O → Seat (Spot O C R) (Sight O C R) → Type 0
  IsPassAt table lock token = IsAt table.table_id lock token

  -- The pass is one of the table.
  abbrev pub IsPassOf : TableSeen O C R → Seat (Spot O C R) (Sight O C R) → Type 0
  IsPassOf table token = token.table_id ≡ table.table_id

  -- Only what the pass has at the place has changed, and the pass has seen no less of the order. If
  -- it knew exactly its own turns in what it had seen, it still does.
  pub record Only (place : ℕ) (m m' : Passing O C R) : Type 0 where
    pub many : length m'.0.views ≡ length m.0.views
    pub order : IsPrefixOf m.0.seen m'.0.seen
    pub also : m'.0.also ≡ m.0.also
    pub shares : m'.0.shares ≡ m.0.shares
    pub others : m'.0.views ≡ slice_set m.0.views place (view_at place m'.0)
    pub carries : Carries place m'
    pub within : IsPrefixOf (view_at place m'.0).seen (turns_at place m'.0.seen)
    pub owns : OwnsInOrder m.0 → OwnsInOrder m'.0

  -- It is the same pass after steps at the place.
  abbrev pub IsSame : ℕ → Seat (Spot O C R) (Sight O C R) → Seat (Spot O C R) (Sight O C R) → Type 0
  IsSame place before after =
      (after.table_id ≡ before.table_id) × (after.id ≡ before.id) × Only place before.me after.me

  -- The order that the pass has seen has grown, and ends with a turn at the place, made under the
  -- pass's number. The turns there that are in it are exactly those that the pass has seen there.
  pub record EndsOrder (place : ℕ) (m m' : Passing O C R) : Type 0 where
    pub front : List (Placed O C R)
    pub turn : Turn O C R
    pub longer : IsPrefixOf m.0.seen front
    pub order : m'.0.seen ≡ front ++ record { place = place; turn = turn } ∷ []
    pub seen : (view_at place m'.0).seen ≡ turns_at place m'.0.seen
    pub by : turn.by ≡ (view_at place m'.0).number

  -- A view that holds no ticket and has no turn, and whose number is one of its numbers.
  abbrev pub Idling : View O C R → Type 0
  Idling v = (v.tickets ≡ []) × (v.in_turn ≡ false) × (1 ≤ times v.number v.numbers)

  -- What the pass has at the place is at rest: it holds no slot, no ticket and no turn, and its
  -- number is one of its numbers.
  pub record Idles (m : Mine O C R) : Type 0 where
    pub no_slot : m.1 ≡ []
    pub no_ticket : m.0.tickets ≡ []
    pub no_turn : m.0.in_turn ≡ false
    pub named : 1 ≤ times m.0.number m.0.numbers

  -- A call was made in a turn of the pass's own: the pass has seen turns of others, and then this
  -- turn.
  pub record HasCalled (moves : O → C → R → O → Type 0) (counted : O → ℕ × ℕ) (opening : O) (m : Mine O C R) (call : C)
      (reply : R) (m' : Mine O C R) : Type 0 where
    pub others : List (Turn O C R)
    pub object : O
    pub is : m' ≡ (
      record m.0 {
        seen = (m.0.seen ++ others) ++ turn_of m.0 call reply object ∷ [];
        own = m.0.own ++ length (m.0.seen ++ others) ∷ [];
        tickets = [];
        in_turn = false;
        announced = (0, 0);
      },
      [],
    )
    pub legal : IsLegal moves opening m'.0.seen
    pub own : HasItsOwn m'.0.numbers m'.0.own m'.0.seen
    pub counts : (count : Count) →
        of_count count m.0.read ≤ of_count count (counted (after_all opening (m.0.seen ++ others)))
    pub fresh : m.0.worn ≡ false

  -- A try was refused, and the call is handed back. Either the pass was not marked before and has
  -- seen more, or it has found the tickets worn out.
  abbrev pub HasTried : (O → C → R → O → Type 0) → O → Mine O C R → C → TryRefused C → Mine O C R → Type 0
  HasTried moves opening m call (Busy c) m' = (c ≡ call) × SawMore m.0 m' × IsLegal moves opening m'.0.seen
      × HasItsOwn m'.0.numbers m'.0.own m'.0.seen × (m.0.worn ≡ false)
  HasTried moves opening m call (Worn c) m' = (c ≡ call) × HasWorn m m'

  -- What a pass has that was split off: what its origin has seen, a number of its own, and no turn.
  abbrev pub IsNewcomer : Sight O C R → Passing O C R → Type 0
  IsNewcomer sight m =
      (number : ℕ) × (m ≡ (at_each (named number) (newcomer sight), []))
      × ((place k : ℕ) → place < length sight.views → made_at (number ∷ []) (view_at place sight).seen k ≡ 0)
      × ((place k : ℕ) → place < length sight.views → made_at (number ∷ []) (turns_at place sight.seen) k ≡ 0)

  -- At each place the pass knows the object that was there first, and is at rest.
  abbrev pub KnowsAll : List O → Sight O C R → Type 0
  KnowsAll openings sight = (length sight.views ≡ length openings)
      × ((place : ℕ) (o : O) → get_elem? openings place ≡ some o →
      ((view_at place sight).opening ≡ Some o) × Idling (view_at place sight))

  -- The pass knows the object that was first at each place of the table, and is at rest there.
  abbrev pub RestsIn : TableSeen O C R → Seat (Spot O C R) (Sight O C R) → Type 0
  RestsIn table token = KnowsAll table.key.openings.value.items token.me.0
