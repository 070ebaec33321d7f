-- What is in the buffer that feeds the workers: the items of the source, and then one end mark per
-- worker. This project's profile.
use Rattle.std.specs.Prelude.{◌≡◌, ℕ, ◌+◌, ◌-◌, ◌^◌, ◌<◌, ◌≤◌, ◌⊎◌, ⊤, min, Bool, true, false, List, []}
use Rattle.std.specs.Prelude.{◌∷◌, ◌++◌, length, map, replicate}
use mathlib.Core.Option.{some}
use lib.ListN.{get_elem?}
use Rattle.sysv_buffer.specs.ManyEnds.{Holding}
use Rattle.sysv_lists.specs.Numbers.{times}
use Rattle.sysv_workers.specs.declared.feed.Feed.{Feed}
use Rattle.sysv_workers.specs.declared.feed.Feed.TheVariants.{Item, End}

-- A count that stays at its greatest value, 2^64 - 1, once it reaches it.
abbrev pub counted : ℕ → ℕ
counted n = min n (2 ^ 64 - 1)

module _ {A : Type 0} where
  -- The values at these places of the list, in the order of the places.
  abbrev pub Reads : List A → List ℕ → List A → Type 0
  Reads list [] [] = Unit {0}
  Reads list [] (x ∷ xs) = ⊥
  Reads list (k ∷ ks) [] = ⊥
  Reads list (k ∷ ks) (x ∷ xs) = (get_elem? list k ≡ some x) × Reads list ks xs

-- Each place is before those after it.
abbrev pub Rises : List ℕ → Type 0
Rises [] = ⊤
Rises (k ∷ ks) = ((j : ℕ) → 1 ≤ times j ks → k < j) × Rises ks

module _ {T : Type 0} where
  -- The items, without the end marks.
  abbrev pub items_in : List (Feed T) → List T
  items_in [] = []
  items_in (Item x ∷ fs) = x ∷ items_in fs
  items_in (End ∷ fs) = items_in fs

  -- One end mark, or none.
  abbrev pub mark : Bool → List (Feed T)
  mark true = End ∷ []
  mark false = []

  -- These items, followed by this number of end marks.
  abbrev pub fed : List T → ℕ → List (Feed T)
  fed items marks = map Item items ++ replicate marks End

  -- The seat has seen at least as many puts as there are items and end marks. If it has seen no
  -- more, it has seen exactly these items and end marks.
  pub record HasFed (items : List T) (marks : ℕ) (seat : Holding (Feed T)) : Type 0 where
    pub most : length items + marks ≤ length seat.seen
    pub all : length seat.seen ≡ length items + marks → seat.seen ≡ fed items marks

  -- At least this number of puts were made, and all of them were end marks if no more were made; or
  -- the buffer is worn out.
  abbrev pub IsMarked : ℕ → Holding (Feed T) → Type 0
  IsMarked marks seat = HasFed [] marks seat ⊎ (2 ^ 62 ≤ length seat.seen)
