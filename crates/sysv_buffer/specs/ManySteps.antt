-- What a seat of a `ManyBuffer` learns from each kind of step that it makes. This project's
-- profile.
use Rattle.std.specs.Prelude.{◌≡◌, ℕ, ◌+◌, ◌%◌, ◌^◌, ◌<◌, ◌≤◌, true, false, List, [], ◌∷◌, ◌++◌, length, max, Option}
use Rattle.std.specs.Prelude.{Some, None}
use mathlib.Core.Option.{some}
use lib.ListN.{get_elem?}
use Rattle.atomic_table.specs.Table.{Me, Step, rest}
use Rattle.sysv_buffer.specs.declared.many_view.Sight.{Sight}
use Rattle.sysv_lists.specs.Numbers.{times}
use Rattle.sysv_lists.specs.Prefix.{IsPrefixOf}

module _ (T : Type 0) where
  -- What a seat knows, together with the cells that it holds.
  abbrev pub Own : Type 0
  Own = Me (Option T) (Sight T)

  -- A step on the table of a buffer.
  abbrev pub At : Type 0
  At = Step (Option T)

module _ {T : Type 0} where
  -- The compare-exchange that draws a ticket for a put. If it does not find the expected ticket,
  -- nothing changes.
  abbrev pub DrawsPut : At T → Own T → ℕ → Own T → Type 0
  DrawsPut st m n m' =
      (n ≡ st.first → m' ≡ (record m.0 { put_ticket = st.first ∷ [] }, m.1)) × (¬ (n ≡ st.first) → m' ≡ m)

  -- The compare-exchange that draws a ticket for a take. If it does not find the expected ticket,
  -- nothing changes.
  abbrev pub DrawsTake : At T → Own T → ℕ → Own T → Type 0
  DrawsTake st m n m' =
      (n ≡ st.first → m' ≡ (record m.0 { take_ticket = st.first ∷ [] }, m.1)) × (¬ (n ≡ st.first) → m' ≡ m)

  -- No place is in the list twice, and each place is one of an item put.
  pub record AreOnce (put : List T) (places : List ℕ) : Type 0 where
    pub once : (k : ℕ) → times k places ≤ 1
    pub within : (k : ℕ) → 1 ≤ times k places → k < length put

  -- A load of IN, which shows all items put. What the seat that was joined in last had seen is a
  -- prefix of them too, and they are at least as many as the seat has seen taken.
  pub record Counts (m : Own T) (n : ℕ) (m' : Own T) : Type 0 where
    pub put : List T
    pub more : List T
    pub longer : put ≡ m.0.seen ++ more
    pub told : IsPrefixOf m.0.told put
    pub puts : AreOnce put m.0.puts
    pub takes : AreOnce put m.0.takes
    pub gone : m.0.gone ≤ length put
    pub count : n ≡ length put
    pub is : m' ≡ (record m.0 { seen = put }, m.1)

  -- The load of IN as a kind of step.
  abbrev pub CountsPut : At T → Own T → ℕ → Own T → Type 0
  CountsPut st m n m' = Counts m n m'

  -- A load of OUT.
  abbrev pub CountsTaken : At T → Own T → ℕ → Own T → Type 0
  CountsTaken st m n m' = (m' ≡ (record m.0 { gone = n }, m.1)) × (n ≤ 2 ^ 62)

  -- The next producer's load of OUT, which takes the next cell out of the table if a cell is empty.
  abbrev pub ReachesRoom : At T → Own T → ℕ → Own T → Type 0
  ReachesRoom st m n m' =
      (m.0.gone ≤ n) × (n ≤ length m.0.seen)
      × (length m.0.seen < n + st.slots → m' ≡ (record m.0 { fills = true }, (length m.0.seen % st.slots, None) ∷ m.1))
      × (n + st.slots ≤ length m.0.seen → m' ≡ m)

  -- The next consumer holds the cell of the next item.
  pub record Finds (slots : ℕ) (m m' : Own T) : Type 0 where
    pub put : List T
    pub more : List T
    pub longer : put ≡ m.0.seen ++ more
    pub item : T
    pub at : get_elem? put m.0.gone ≡ some item
    pub is : m' ≡ (record m.0 { seen = put; empties = true }, (m.0.gone % slots, Some item) ∷ m.1)

  -- The next consumer's load of IN, which takes the cell of the next item out of the table if there
  -- is an item.
  abbrev pub ReachesItem : At T → Own T → ℕ → Own T → Type 0
  ReachesItem st m n m' = (length m.0.seen ≤ n) × (m.0.gone < n → Finds st.slots m m') × (n ≤ m.0.gone → m' ≡ m)

  -- The seat after the item in the cell that it holds was added to the items put.
  abbrev pub placed : Sight T → List (ℕ × Option T) → Sight T
  placed v [] = v
  placed v ((k, None) ∷ xs) = v
  placed v ((k, Some x) ∷ xs) =
      record v { seen = v.seen ++ x ∷ []; puts = v.puts ++ length v.seen ∷ []; put_ticket = []; fills = false }

  -- The addition to IN, which returns the cell to the table.
  abbrev pub Places : At T → Own T → ℕ → Own T → Type 0
  Places st m n m' = m' ≡ (placed m.0 m.1, rest m.1)

  -- The addition to OUT, which returns the empty cell to the table. The ticket was for a place
  -- after all those that the seat took from before.
  abbrev pub Removes : At T → Own T → ℕ → Own T → Type 0
  Removes st m n m' =
      (m' ≡ (record m.0 { takes = m.0.takes ++ m.0.take_ticket; take_ticket = []; empties = false }, rest m.1))
      × ((k j : ℕ) → 1 ≤ times k m.0.takes → 1 ≤ times j m.0.take_ticket → k < j)

  -- What a split makes: a seat that has seen the same, and has put and taken nothing.
  abbrev pub beside : Sight T → Sight T
  beside v = record v { puts = []; takes = []; put_ticket = []; take_ticket = []; fills = false; empties = false }

  -- What a seat knows after another was joined into it: it is told what the other had seen, and has
  -- seen taken what either had.
  abbrev pub both_of : Sight T → Sight T → Sight T
  both_of v w =
      record v { told = w.seen; gone = max v.gone w.gone; puts = v.puts ++ w.puts; takes = v.takes ++ w.takes }
