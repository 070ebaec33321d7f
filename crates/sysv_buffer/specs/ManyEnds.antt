-- What contracts see of a seat of a `ManyBuffer`, and what the calls do to it. This project's
-- profile.
use Rattle.std.specs.Prelude.{◌≡◌, ℕ, ◌+◌, ◌<◌, ◌≤◌, ◌^◌, List, [], ◌∷◌, ◌++◌, length}
use mathlib.Core.Option.{some}
use lib.ListN.{get_elem?}
use Rattle.sysv_buffer.specs.Ends.{Buffered}
use Rattle.sysv_buffer.specs.ManySteps.{AreOnce}
use Rattle.sysv_buffer.specs.declared.refusals.ManyPutRefused.{ManyPutRefused}
use Rattle.sysv_buffer.specs.declared.refusals.ManyPutRefused.TheVariants as refused
use Rattle.sysv_buffer.specs.declared.refusals.ManyTakeRefused.{ManyTakeRefused}
use Rattle.sysv_buffer.specs.declared.refusals.ManyTakeRefused.TheVariants as missed
use Rattle.sysv_lists.specs.Numbers.{times}
use Rattle.sysv_lists.specs.Prefix.{IsPrefixOf}

-- A seat: its buffer, the items put, as far as it has seen them, the number of items that it has
-- seen taken, and the places of its own items and of those that it took, in the list of items put.
pub record Holding (T : Type 0) : Type 0 where
  pub buffer : Buffered
  pub seen : List T
  pub gone : ℕ
  pub puts : List ℕ
  pub takes : List ℕ

module _ {T : Type 0} where
  -- The first seat, which has seen nothing yet.
  abbrev pub opened : Buffered → Holding T
  opened b = record { buffer = b; seen = []; gone = 0; puts = []; takes = [] }

  -- The seat that was split off. It has seen the same as its origin, and has put and taken nothing.
  abbrev pub split_off : Holding T → Holding T
  split_off h = record h { puts = []; takes = [] }

  -- No place occurs twice among those of the seat's own items, or among those that it took from,
  -- and the seat has seen the item at each of these places.
  abbrev pub HasItsOwn : Holding T → Type 0
  HasItsOwn h = AreOnce h.seen h.puts × AreOnce h.seen h.takes

  -- One seat was joined into another. The items that the seat has then seen begin with what either
  -- seat had seen, and are at least as many as either had seen taken. The seat has the places of
  -- both.
  pub record Joins (one two after : Holding T) : Type 0 where
    pub begins_one : IsPrefixOf one.seen after.seen
    pub begins_two : IsPrefixOf two.seen after.seen
    pub gone_one : one.gone ≤ length after.seen
    pub gone_two : two.gone ≤ length after.seen
    pub puts : after.puts ≡ one.puts ++ two.puts
    pub takes : after.takes ≡ one.takes ++ two.takes
    pub own : HasItsOwn after

  -- The seat may have seen more, and has put and taken nothing.
  pub record Looks (before after : Holding T) : Type 0 where
    pub more : List T
    pub seen : after.seen ≡ before.seen ++ more
    pub puts : after.puts ≡ before.puts
    pub takes : after.takes ≡ before.takes

  -- The item is the last one put that the seat has now seen, and its place is the last of the
  -- seat's own.
  pub record Puts (item : T) (before after : Holding T) : Type 0 where
    pub others : List T
    pub seen : after.seen ≡ (before.seen ++ others) ++ item ∷ []
    pub puts : after.puts ≡ before.puts ++ length (before.seen ++ others) ∷ []
    pub takes : after.takes ≡ before.takes

  -- The item is at a place in the list of items put. That place is the last that the seat took from,
  -- and it is later than each that the seat took from before.
  pub record Takes (item : T) (before after : Holding T) : Type 0 where
    pub more : List T
    pub seen : after.seen ≡ before.seen ++ more
    pub puts : after.puts ≡ before.puts
    pub place : ℕ
    pub takes : after.takes ≡ before.takes ++ place ∷ []
    pub later : (k : ℕ) → 1 ≤ times k before.takes → k < place
    pub at : get_elem? after.seen place ≡ some item

  -- The refusal holds the item. It describes the buffer by the counts that were loaded. It is
  -- `Full` only if every cell had an item, and `Busy` only if a cell was empty; in both cases fewer
  -- than 2^62 items were put. It is `Worn` only if 2^62 items were put.
  abbrev pub GivesBack : T → Holding T → ManyPutRefused T → Type 0
  GivesBack item after (refused.Full back) =
      (back ≡ item) × (after.gone + after.buffer.room ≤ length after.seen) × (length after.seen < 2 ^ 62)
  GivesBack item after (refused.Busy back) =
      (back ≡ item) × (length after.seen < after.gone + after.buffer.room) × (length after.seen < 2 ^ 62)
  GivesBack item after (refused.Worn back) = (back ≡ item) × (2 ^ 62 ≤ length after.seen)

  -- The refusal describes the buffer by the counts that were loaded. It is `Empty` only if all
  -- items put were taken, and `Busy` only if an item was left; in both cases fewer than 2^62 were
  -- taken. It is `Worn` only if 2^62 were taken.
  abbrev pub Misses : Holding T → ManyTakeRefused → Type 0
  Misses after missed.Empty = (length after.seen ≤ after.gone) × (after.gone < 2 ^ 62)
  Misses after missed.Busy = (after.gone < length after.seen) × (after.gone < 2 ^ 62)
  Misses after missed.Worn = 2 ^ 62 ≤ after.gone
