-- What contracts see of a gate and of its seats, and what the calls do to a seat. Gates are this
-- project's profile, and no part of POSIX.1-2017.
use Rattle.std.specs.Prelude.{◌≡◌, ℕ, ◌≤◌, ◌||◌, Bool, true, false, List, [], ◌∷◌, ◌++◌, length}
use Rattle.atomic_table.specs.Seated.{TableId}
use Rattle.sysv_gate.specs.declared.table.view.Turn.{Turn}
use Rattle.sysv_gate.specs.declared.count.Count.{Count}
use Rattle.sysv_lists.specs.Prefix.{IsPrefixOf}
use Rattle.sysv_gate.specs.History.{IsLegal, after_all, HasItsOwn}
use Rattle.sysv_gate.specs.Counts.{of_count, with_count, larger}

-- A gate: its identity, the object that it was opened with, and its first ticket.
pub record Gateway (O : Type 0) : Type 0 where
  pub table : TableId
  pub opening : O
  pub first : ℕ

-- A seat: its gate, its number, that number with those of the seats that were joined into it, the
-- history that it has seen, the places of its own turns in that history, whether it has found the
-- tickets worn out, the greatest values of the two counts that it has read, and whether it is
-- alone, that is, no other seat was ever split off.
pub record Holding (O C R : Type 0) : Type 0 where
  pub gate : Gateway O
  pub number : ℕ
  pub numbers : List ℕ
  pub seen : List (Turn O C R)
  pub own : List ℕ
  pub worn : Bool
  pub read : ℕ × ℕ
  pub alone : Bool

module _ {O C R : Type 0} where
  -- The first seat, which has seen nothing yet.
  abbrev pub opened : Gateway O → Holding O C R
  opened gate = record {
    gate = gate;
    number = 0;
    numbers = 0 ∷ [];
    seen = [];
    own = [];
    worn = false;
    read = (0, 0);
    alone = true;
  }

  -- The seat after it found that the tickets have reached 2^62.
  abbrev pub marked : Holding O C R → Holding O C R
  marked h = record h { worn = true }

  -- The seat after it has read a count.
  abbrev pub read_to : Count → ℕ → Holding O C R → Holding O C R
  read_to count n h = record h { read = with_count count n h.read }

  -- What the seat learns from the value of a count: it is at least what the seat has read of that
  -- count before, and at least the count of the object after all turns that the seat has seen.
  abbrev pub Learns : (O → ℕ × ℕ) → Count → Holding O C R → ℕ → Type 0
  Learns counted count h n =
      (of_count count h.read ≤ n) × (of_count count (counted (after_all h.gate.opening h.seen)) ≤ n)

  -- The seat after it has seen more turns of others.
  abbrev pub saw : List (Turn O C R) → Holding O C R → Holding O C R
  saw more h = record h { seen = h.seen ++ more }

  -- The seat after a turn of its own, which is the last of the history that it has seen.
  abbrev pub made : C → R → O → Holding O C R → Holding O C R
  made call reply after h = record h {
    seen = h.seen ++ record { by = h.number; call = call; reply = reply; after = after } ∷ [];
    own = h.own ++ length h.seen ∷ [];
  }

  -- The call was made in a turn of the seat's own. The history that the seat has seen is legal. It
  -- begins with all that the seat had seen, goes on with turns of others, and ends with this call
  -- and this reply. Of the seat's own turns it has exactly those that the seat knows of, each once,
  -- and the new turn is the last. The counts of the object before the call are at least what the
  -- seat had read of them.
  pub record Answers (moves : O → C → R → O → Type 0) (counted : O → ℕ × ℕ) (before : Holding O C R) (call : C)
      (reply : R) (after : Holding O C R) : Type 0 where
    pub others : List (Turn O C R)
    pub object : O
    pub made : after ≡ made call reply object (saw others before)
    pub legal : IsLegal moves after.gate.opening after.seen
    pub own : HasItsOwn after.numbers after.own after.seen
    pub counts : (count : Count) →
        of_count count before.read ≤ of_count count (counted (after_all before.gate.opening (before.seen ++ others)))

  -- What is true of every seat: the history that it has seen is legal, and of the seat's own turns
  -- it has exactly those that the seat knows of, each once.
  pub record KnowsItsOwn (moves : O → C → R → O → Type 0) (h : Holding O C R) : Type 0 where
    pub legal : IsLegal moves h.gate.opening h.seen
    pub own : HasItsOwn h.numbers h.own h.seen

  -- A seat is not alone after another was split off.
  abbrev pub parted : Holding O C R → Holding O C R
  parted h = record h { alone = false }

  -- The seat that was split off. It has a number of its own, has seen and read what its origin has,
  -- and has made no turn.
  abbrev pub split_off : ℕ → Holding O C R → Holding O C R
  split_off number h = record h { number = number; numbers = number ∷ []; own = []; alone = false }

  -- A seat was split off, and none of the turns that it has seen was made under its number.
  abbrev pub IsSplit : Holding O C R → Holding O C R → Type 0
  IsSplit h other = (number : ℕ) × (other ≡ split_off number h) × HasItsOwn other.numbers other.own other.seen

  -- One seat was joined into another. The seat has seen a legal history that begins with what
  -- either had seen, and has the turns and the numbers of both, and the greater of what both had
  -- read of each count.
  pub record Joins (moves : O → C → R → O → Type 0) (one two after : Holding O C R) : Type 0 where
    pub seen : List (Turn O C R)
    pub begins_one : IsPrefixOf one.seen seen
    pub begins_two : IsPrefixOf two.seen seen
    pub joined : after ≡ record one {
      seen = seen;
      own = one.own ++ two.own;
      numbers = one.numbers ++ two.numbers;
      worn = one.worn || two.worn;
      read = larger one.read two.read;
      alone = false;
    }
    pub legal : IsLegal moves one.gate.opening seen
    pub own : HasItsOwn after.numbers after.own seen

  -- The seat has seen more, and is otherwise unchanged. The history is legal and has no more of the
  -- seat's own turns.
  pub record SeesMore (moves : O → C → R → O → Type 0) (before after : Holding O C R) : Type 0 where
    pub others : List (Turn O C R)
    pub seen : after ≡ saw others before
    pub legal : IsLegal moves after.gate.opening after.seen
    pub own : HasItsOwn after.numbers after.own after.seen
