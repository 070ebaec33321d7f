-- What the parts of a call require of an end of a `OneBuffer`, and what they leave. This project's
-- profile.
use Rattle.std.specs.Prelude.{Option, ◌≡◌, ◌⊎◌, ℕ, ◌+◌, ◌%◌, ◌<◌, ◌≤◌, ◌^◌, true, false, List, [], ◌∷◌, length, None}
use Rattle.atomic_table.specs.declared.shared.Seat.{Seat}
use Rattle.sysv_buffer.specs.declared.view.View.{View}
use Rattle.sysv_buffer.specs.declared.view.Role.TheVariants.{Producer, Consumer}
use Rattle.sysv_buffer.specs.declared.turns.Reach.{Reach}
use Rattle.sysv_buffer.specs.declared.turns.Reach.TheVariants.{Room, Full, WornOut}
use Rattle.sysv_buffer.specs.declared.turns.Found.{Found}
use Rattle.sysv_buffer.specs.declared.turns.Found.TheVariants.{Item, Empty, Spent}
use Rattle.sysv_buffer.specs.Ends.{Buffered}
use Rattle.sysv_buffer.specs.Steps.{Mine, Grabs}

module _ {T : Type 0} where
  -- The token belongs to this buffer.
  abbrev pub IsOf : Buffered → Seat (Option T) (View T) → Type 0
  IsOf b token = (token.table_id ≡ b.table) × (b.table.slots ≡ b.room)

  -- It is the same token after a step.
  abbrev pub IsSame : Seat (Option T) (View T) → Seat (Option T) (View T) → Type 0
  IsSame before after = (after.table_id ≡ before.table_id) × (after.id ≡ before.id)

  -- A producer's end that holds no cell.
  abbrev pub IsIdleProducer : Mine T → Type 0
  IsIdleProducer m = (m.0.role ≡ Producer) × (m.0.holds ≡ false) × (m.1 ≡ [])

  -- A consumer's end that holds no cell.
  abbrev pub IsIdleConsumer : Mine T → Type 0
  IsIdleConsumer m = (m.0.role ≡ Consumer) × (m.0.holds ≡ false) × (m.1 ≡ [])

  -- The producer holds no cell, and these items were put.
  pub record HasPut (items : List T) (m : Mine T) : Type 0 where
    pub idle : IsIdleProducer m
    pub put : m.0.put ≡ items

  -- The producer holds the empty cell of the next item, and these items were put.
  pub record HasRoom (slots cell : ℕ) (items : List T) (m : Mine T) : Type 0 where
    pub role : m.0.role ≡ Producer
    pub busy : m.0.holds ≡ true
    pub out : m.1 ≡ (cell, None) ∷ []
    pub place : cell ≡ length m.0.put % slots
    pub put : m.0.put ≡ items

  -- What the producer found: it holds the next cell; or every cell has an item, as far as it has
  -- seen items taken, and the number found is the number of those; or the buffer is worn out.
  abbrev pub Reached : ℕ → List T → Reach → Mine T → Type 0
  Reached slots put (Room cell) m = HasRoom slots cell put m
  Reached slots put (Full out) m =
      HasPut put m × (out ≡ m.0.taken) × (m.0.taken + slots ≤ length put) × (length put < 2 ^ 62)
  Reached slots put WornOut m = HasPut put m × (2 ^ 62 ≤ length put)

  -- What the consumer found: it holds the cell of the next item; or it has taken all items put, and
  -- the number found is the number of those; or the buffer is worn out.
  abbrev pub Looked : ℕ → Mine T → Found → Mine T → Type 0
  Looked slots m (Item cell) m' = Grabs slots m m' × (cell ≡ m.0.taken % slots)
  Looked slots m (Empty count) m' = (m' ≡ m) × (count ≡ m.0.taken) × (length m.0.put ≤ m.0.taken) × (m.0.taken < 2 ^ 62)
  Looked slots m Spent m' = (m' ≡ m) × (2 ^ 62 ≤ m.0.taken)

  -- The end cannot go on while the word has the value that was found. A producer found the value in
  -- OUT: every cell has an item while no more items are taken. A consumer found it in IN: it has
  -- taken all items while no more are put.
  abbrev pub IsStuck : ℕ → ℕ → ℕ → Mine T → Type 0
  IsStuck slots word found m =
      (found ≡ m.0.taken)
      × (((word ≡ 16) × (m.0.role ≡ Producer) × (m.0.taken + slots ≤ length m.0.put))
      ⊎ ((word ≡ 0) × (m.0.role ≡ Consumer)))
