-- What an end of a `OneBuffer` learns from each kind of step that it makes. This project's profile.
use Rattle.std.specs.Prelude.{◌≡◌, ℕ, ◌+◌, ◌%◌, ◌<◌, ◌≤◌, true, false, List, [], ◌∷◌, ◌++◌, length, Option, Some, None}
use mathlib.Core.Option.{some}
use lib.ListN.{get_elem?}
use Rattle.atomic_table.specs.Table.{Me, Step, rest}
use Rattle.sysv_buffer.specs.declared.view.View.{View}
use Rattle.sysv_buffer.specs.declared.view.Role.TheVariants.{Producer, Consumer}

module _ (T : Type 0) where
  -- What an end knows, together with the cells that it holds.
  abbrev pub Mine : Type 0
  Mine = Me (Option T) (View T)

  -- A step on the table of a buffer.
  abbrev pub At : Type 0
  At = Step (Option T)

module _ {T : Type 0} where
  -- The producer's end that the split of the first seat makes.
  abbrev pub first_producer : View T → View T
  first_producer v = record { role = Producer; put = []; taken = 0; holds = false }

  -- The consumer's end that the split of the first seat makes.
  abbrev pub first_consumer : View T → View T
  first_consumer v = record { role = Consumer; put = []; taken = 0; holds = false }

  -- The end after it took a cell out of the table.
  abbrev pub holding : View T → View T
  holding v = record v { holds = true }

  -- The end after it has seen that n items were taken.
  abbrev pub seeing : ℕ → View T → View T
  seeing n v = record v { taken = n }

  -- The producer's load of IN.
  abbrev pub CountsIn : At T → Mine T → ℕ → Mine T → Type 0
  CountsIn st m n m' = (m' ≡ m) × (n ≡ length m.0.put)

  -- The producer's load of OUT, which takes the next cell out of the table if a cell is empty. The
  -- producer has then seen that n items were taken.
  abbrev pub Reaches : At T → Mine T → ℕ → Mine T → Type 0
  Reaches st m n m' =
      (n ≤ length m.0.put)
      × (length m.0.put < n + st.slots → m' ≡ (holding (seeing n m.0), (length m.0.put % st.slots, None) ∷ m.1))
      × (n + st.slots ≤ length m.0.put → m' ≡ (seeing n m.0, m.1))

  -- The producer's end after the item in the cell that it holds was added to the items put.
  abbrev pub filled : View T → List (ℕ × Option T) → View T
  filled v [] = v
  filled v ((k, None) ∷ xs) = v
  filled v ((k, Some x) ∷ xs) = record v { put = v.put ++ x ∷ []; holds = false }

  -- The producer's addition to IN, which returns the cell to the table.
  abbrev pub Puts : At T → Mine T → ℕ → Mine T → Type 0
  Puts st m n m' = m' ≡ (filled m.0 m.1, rest m.1)

  -- The consumer's load of OUT.
  abbrev pub CountsOut : At T → Mine T → ℕ → Mine T → Type 0
  CountsOut st m n m' = (m' ≡ m) × (n ≡ m.0.taken)

  -- What the consumer learns if there is an item: it holds the cell of the next item.
  pub record Grabs (slots : ℕ) (m m' : Mine T) : Type 0 where
    pub put : List T
    pub more : List T
    pub longer : put ≡ m.0.put ++ more
    pub item : T
    pub at : get_elem? put m.0.taken ≡ some item
    pub is : m' ≡ (record m.0 { put = put; holds = true }, (m.0.taken % slots, Some item) ∷ m.1)

  -- The consumer's load of IN, which takes the cell of the next item out of the table if there is
  -- an item. If there is none, the number of items put is the number that the consumer has taken,
  -- and it has seen no more items than that.
  abbrev pub Looks : At T → Mine T → ℕ → Mine T → Type 0
  Looks st m n m' = (m.0.taken < n → Grabs st.slots m m')
      × (n ≤ m.0.taken → (m' ≡ m) × (n ≡ m.0.taken) × (length m.0.put ≤ m.0.taken))

  -- The consumer's addition to OUT, which returns the empty cell to the table.
  abbrev pub Takes : At T → Mine T → ℕ → Mine T → Type 0
  Takes st m n m' = m' ≡ (record m.0 { taken = m.0.taken + 1; holds = false }, rest m.1)
