-- What one worker does, and what is known after some workers have ended. This project's profile.
use Rattle.std.specs.Prelude.{◌≡◌, ℕ, ◌+◌, ◌^◌, ◌≤◌, Bool, true, false, List, ◌++◌, length, map}
use Rattle.std.specs.List.{All, FoldsTo, flat_map}
use Rattle.sysv_buffer.specs.Ends.{Buffered}
use Rattle.sysv_buffer.specs.ManyEnds.{Holding}
use Rattle.sysv_workers.specs.declared.feed.Feed.{Feed}
use Rattle.sysv_workers.specs.declared.feed.Feed.TheVariants.{Item}
use Rattle.sysv_workers.specs.Feeding.{counted, Reads, Rises, items_in, mark}
use Rattle.sysv_workers.specs.Parts.{Part, IsSubsequenceOf, AreInOrder}

module _ {W T : Type 0} where
  -- With its seat a worker has taken these items so far, from later and later places. The job's
  -- runs over them led from the first state to the second.
  pub record Doing (runs : W → T → W → Type 0) (fits : W → Type 0) (buffer : Buffered) (before after : W)
      (seat : Holding (Feed T)) (ran : ℕ) : Type 0 where
    pub items : List T
    pub folds : FoldsTo runs before items after
    pub still : fits after
    pub place : seat.buffer ≡ buffer
    pub reads : Reads seat.seen seat.takes (map Item items)
    pub rises : Rises seat.takes
    pub count : ran ≡ counted (length items)

  -- With its seat a worker took these items, in the order in which they were put, and then an end
  -- mark if it has ended. If it has not ended, it has seen that the buffer is worn out. The job's
  -- runs over the items led from the first state to the second.
  pub record Did (runs : W → T → W → Type 0) (fits : W → Type 0) (buffer : Buffered) (before : W) (ended : Bool)
      (after : W) (seat : Holding (Feed T)) (ran : ℕ) : Type 0 where
    pub items : List T
    pub folds : FoldsTo runs before items after
    pub still : fits after
    pub place : seat.buffer ≡ buffer
    pub reads : Reads seat.seen seat.takes (map Item items ++ mark ended)
    pub ordered : IsSubsequenceOf items (items_in seat.seen)
    pub count : ran ≡ counted (length items)
    pub worn : ended ≡ false → 2 ^ 62 ≤ seat.gone

  -- The workers with these parts have ended. Their seats are joined into the seat, and their states
  -- follow the other states.
  pub record Gathered (runs : W → T → W → Type 0) (fits : W → Type 0) (others : List W) (parts : List (Part W T))
      (seat : Holding (Feed T)) (states : List W) (ran : ℕ) (ended : Bool) : Type 0 where
    pub left : states ≡ others ++ map (λ p. p.after) parts
    pub folds : All (λ p. FoldsTo runs p.before p.items p.after) parts
    pub still : All fits states
    pub feeds : List (Feed T)
    pub reads : Reads seat.seen seat.takes feeds
    pub items : items_in feeds ≡ flat_map (λ p. p.items) parts
    pub ordered : AreInOrder (items_in seat.seen) parts
    pub count : ended ≡ true → length feeds ≡ length (flat_map (λ p. p.items) parts) + length parts
    pub worn : ended ≡ false → 2 ^ 62 ≤ length seat.seen
    pub total : ran ≡ counted (length (flat_map (λ p. p.items) parts))
