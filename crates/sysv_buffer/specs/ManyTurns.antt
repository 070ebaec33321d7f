-- What the parts of a call require of a seat of a `ManyBuffer`, and what they leave. This project's
-- profile.
use Rattle.std.specs.Prelude.{◌≡◌, ◌⊎◌, ℕ, ◌+◌, ◌%◌, ◌<◌, ◌≤◌, ◌^◌, true, false, List, [], ◌∷◌, ◌++◌, length, Option}
use Rattle.std.specs.Prelude.{None, Some}
use mathlib.Core.Option.{some}
use lib.ListN.{get_elem?}
use Rattle.atomic_table.specs.declared.shared.Seat.{Seat}
use Rattle.sysv_buffer.specs.declared.many_view.Sight.{Sight}
use Rattle.sysv_buffer.specs.declared.many_turns.Room.{Room}
use Rattle.sysv_buffer.specs.declared.many_turns.Room.TheVariants as room
use Rattle.sysv_buffer.specs.declared.many_turns.Next.{Next}
use Rattle.sysv_buffer.specs.declared.many_turns.Next.TheVariants as next
use Rattle.sysv_buffer.specs.Ends.{Buffered}
use Rattle.sysv_buffer.specs.ManySteps.{Own}
use Rattle.sysv_lists.specs.Numbers.{times}

module _ {T : Type 0} where
  -- The token belongs to this buffer.
  abbrev pub IsOf : Buffered → Seat (Option T) (Sight T) → Type 0
  IsOf b token = (token.table_id ≡ b.table) × (b.table.slots ≡ b.room)

  -- It is the same token after a step.
  abbrev pub IsSame : Seat (Option T) (Sight T) → Seat (Option T) (Sight T) → Type 0
  IsSame before after = (after.table_id ≡ before.table_id) × (after.id ≡ before.id)

  -- The seat holds no cell, and holds these tickets.
  pub record Waits (puts takes : List ℕ) (m : Own T) : Type 0 where
    pub no_cell : m.1 ≡ []
    pub fills : m.0.fills ≡ false
    pub empties : m.0.empties ≡ false
    pub put_ticket : m.0.put_ticket ≡ puts
    pub take_ticket : m.0.take_ticket ≡ takes

  -- The seat has put and taken nothing since, and may have seen more.
  pub record Keeps (v w : Sight T) : Type 0 where
    pub more : List T
    pub seen : w.seen ≡ v.seen ++ more
    pub puts : w.puts ≡ v.puts
    pub takes : w.takes ≡ v.takes

  -- The seat holds the empty cell of the next place.
  pub record HasRoom (slots cell : ℕ) (m : Own T) : Type 0 where
    pub out : m.1 ≡ (cell, None) ∷ []
    pub place : cell ≡ length m.0.seen % slots
    pub fills : m.0.fills ≡ true
    pub empties : m.0.empties ≡ false
    pub take_ticket : m.0.take_ticket ≡ []

  -- The seat holds the cell of the item at its place.
  pub record HasItem (slots cell : ℕ) (m : Own T) : Type 0 where
    pub item : T
    pub place : ℕ
    pub out : m.1 ≡ (cell, Some item) ∷ []
    pub is : cell ≡ place % slots
    pub at : get_elem? m.0.seen place ≡ some item
    pub take_ticket : m.0.take_ticket ≡ place ∷ []
    pub fills : m.0.fills ≡ false
    pub empties : m.0.empties ≡ true
    pub put_ticket : m.0.put_ticket ≡ []

  -- What a try for an empty cell finds: the seat holds the cell of the next place; or, by the counts
  -- that were loaded, every cell has an item; or a cell is empty and another seat has the turn; or
  -- the buffer is worn out. `Full` holds the number of items taken, and `Busy` that of items put.
  abbrev pub FindsRoom : ℕ → Own T → Room → Own T → Type 0
  FindsRoom slots m (room.Cell cell) m' = HasRoom slots cell m' × Keeps m.0 m'.0
  FindsRoom slots m (room.Full out) m' = Waits [] [] m' × Keeps m.0 m'.0 × (out ≡ m'.0.gone)
      × (m'.0.gone + slots ≤ length m'.0.seen) × (length m'.0.seen < 2 ^ 62)
  FindsRoom slots m (room.Busy count) m' = Waits [] [] m' × Keeps m.0 m'.0 × (count ≡ length m'.0.seen)
      × (length m'.0.seen < m'.0.gone + slots) × (length m'.0.seen < 2 ^ 62)
  FindsRoom slots m room.Worn m' = Waits [] [] m' × Keeps m.0 m'.0 × (2 ^ 62 ≤ length m'.0.seen)

  -- What a try for an item finds: the seat holds the cell of the item at its place; or, by the
  -- counts that were loaded, no item is left; or an item is left and another seat has the turn; or
  -- the buffer is worn out. `Empty` holds the number of items put, and `Busy` that of items taken.
  abbrev pub FindsItem : ℕ → Own T → Next → Own T → Type 0
  FindsItem slots m (next.Cell cell) m' = HasItem slots cell m' × Keeps m.0 m'.0
  FindsItem slots m (next.Empty count) m' = Waits [] [] m' × Keeps m.0 m'.0 × (count ≡ length m'.0.seen)
      × (length m'.0.seen ≤ m'.0.gone) × (m'.0.gone < 2 ^ 62)
  FindsItem slots m (next.Busy count) m' =
      Waits [] [] m' × Keeps m.0 m'.0 × (count ≡ m'.0.gone) × (m'.0.gone < length m'.0.seen) × (m'.0.gone < 2 ^ 62)
  FindsItem slots m next.Worn m' = Waits [] [] m' × Keeps m.0 m'.0 × (2 ^ 62 ≤ m'.0.gone)

  -- The number that was found is the value of the word that the seat saw last. The word is OUT if
  -- the number is one of items taken, and IN if it is one of items put.
  abbrev pub SawLast : ℕ → ℕ → Own T → Type 0
  SawLast word found m = ((word ≡ 16) × (found ≡ m.0.gone)) ⊎ ((word ≡ 0) × (found ≡ length m.0.seen))

  -- The item is in the list of items put, and its cell is back in the table.
  pub record HasPut (item : T) (v : Sight T) (m : Own T) : Type 0 where
    pub waits : Waits [] [] m
    pub seen : m.0.seen ≡ v.seen ++ item ∷ []
    pub puts : m.0.puts ≡ v.puts ++ length v.seen ∷ []
    pub takes : m.0.takes ≡ v.takes

  -- The item was taken, and its cell is back in the table. The ticket was for a place after all
  -- those that the seat took from before.
  pub record HasTaken (item : T) (v : Sight T) (m : Own T) : Type 0 where
    pub waits : Waits [] [] m
    pub seen : m.0.seen ≡ v.seen
    pub puts : m.0.puts ≡ v.puts
    pub takes : m.0.takes ≡ v.takes ++ v.take_ticket
    pub later : (k j : ℕ) → 1 ≤ times k v.takes → 1 ≤ times j v.take_ticket → k < j
