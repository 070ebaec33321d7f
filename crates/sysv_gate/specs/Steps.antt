-- What the steps on the words do to a view, and what the seat learns from them. This project's
-- profile.
use Rattle.std.specs.Prelude.{◌≡◌, ℕ, ◌+◌, ◌^◌, ◌≤◌, ◌||◌, true, false, List, [], ◌∷◌, ◌++◌, length, nat_le, nat_lt}
use Rattle.std.specs.Prelude.{Option, Some, None}
use Rattle.atomic_table.specs.Table.{Me, Step, rest}
use Rattle.sysv_gate.specs.declared.table.view.View.{View}
use Rattle.sysv_gate.specs.declared.table.view.Turn.{Turn}
use Rattle.sysv_gate.specs.declared.table.place.Done.{Done}
use Rattle.sysv_gate.specs.declared.count.Count.{Count}
use Rattle.sysv_lists.specs.Numbers.{times}
use Rattle.sysv_gate.specs.Counts.{word_of, of_count, with_count, larger}
use Rattle.sysv_lists.specs.Prefix.{IsPrefixOf}
use Rattle.sysv_gate.specs.History.{after_all, IsLegal, HasItsOwn}
use Rattle.sysv_gate.specs.Rule.{Spot, put}

module _ {O C R : Type 0} where
  -- The view after a load of the ticket that is drawn next. The load marks the view if it finds at
  -- least 2^62.
  abbrev pub weighed : ℕ → View O C R → View O C R
  weighed n v = record v { worn = v.worn || nat_le (2 ^ 62) n }

  -- The view after a compare-exchange that succeeds and draws the ticket.
  abbrev pub drew : ℕ → View O C R → View O C R
  drew ticket v = record v { tickets = ticket ∷ [] }

  -- The view after a load of the ticket that is served. The load shows the log, and begins the turn
  -- if the view holds that ticket.
  abbrev pub looked : ℕ → List (Turn O C R) → View O C R → View O C R
  looked n log v = record v { seen = log; in_turn = nat_lt 0 (times n v.tickets) }

  -- The view after a compare-exchange that draws the served ticket. It begins the turn at once.
  abbrev pub entered : ℕ → View O C R → View O C R
  entered ticket v = record v { tickets = ticket ∷ []; in_turn = true }

  -- The turn that the view makes.
  abbrev pub turn_of : View O C R → C → R → O → Turn O C R
  turn_of v call reply after = record { by = v.number; call = call; reply = reply; after = after }

  -- The view after an addition to the word of a count, which announces the count.
  abbrev pub announced_by : Count → ℕ → View O C R → View O C R
  announced_by count n v = record v { announced = with_count count n v.announced }

  -- The view after a load of that word, which shows what the count has reached.
  abbrev pub read_to : Count → ℕ → View O C R → View O C R
  read_to count n v = record v { read = with_count count n v.read }

  -- The view after the addition that ends the turn.
  abbrev pub ended : View O C R → C → R → O → View O C R
  ended v call reply after = record v {
    seen = v.seen ++ turn_of v call reply after ∷ [];
    own = v.own ++ length v.seen ∷ [];
    tickets = [];
    in_turn = false;
    announced = (0, 0);
  }

  -- What a split leaves: the seat is no longer alone.
  abbrev pub parted : View O C R → View O C R
  parted v = record v { alone = false }

  -- What a split makes: a seat that has seen and read the same, without turns of its own, and
  -- without a number yet.
  abbrev pub newcomer : View O C R → View O C R
  newcomer v = record v {
    number = 0;
    numbers = [];
    also = [];
    own = [];
    tickets = [];
    in_turn = false;
    announced = (0, 0);
    alone = false;
  }

  -- The view after a load that assigns the seat its number.
  abbrev pub named : ℕ → View O C R → View O C R
  named number v = record v { number = number; numbers = number ∷ [] }

  -- The view after another was joined into it.
  abbrev pub both_of : View O C R → View O C R → View O C R
  both_of v w = record v {
    also = w.seen;
    own = v.own ++ w.own;
    numbers = v.numbers ++ w.numbers;
    worn = v.worn || w.worn;
    read = larger v.read w.read;
    alone = false;
  }

  -- What is left of a view that was joined into another.
  abbrev pub spent : View O C R
  spent = record {
    opening = None;
    first = 0;
    number = 0;
    numbers = [];
    seen = [];
    also = [];
    own = [];
    tickets = [];
    in_turn = false;
    worn = false;
    read = (0, 0);
    announced = (0, 0);
    alone = false;
  }

  -- The view after the look that follows a join. The look shows a log that begins with what either
  -- had seen.
  abbrev pub merged : List (Turn O C R) → View O C R → View O C R
  merged log v = record v { seen = log; also = [] }

module _ (O C R : Type 0) where
  -- What a seat knows, together with the slots that it holds.
  abbrev pub Mine : Type 0
  Mine = Me (Spot O C R) (View O C R)

  -- A step on the table of a gate.
  abbrev pub At : Type 0
  At = Step (Spot O C R)

module _ {O C R : Type 0} where
  -- A load of the ticket that is drawn next.
  abbrev pub Weighs : At O C R → Mine O C R → ℕ → Mine O C R → Type 0
  Weighs st m n m' = (m' ≡ (weighed n m.0, m.1)) × (m.0.worn ≡ true → 2 ^ 62 ≤ n)

  -- The compare-exchange that draws a ticket. If it does not find the expected ticket, nothing
  -- changes.
  abbrev pub Draws : At O C R → Mine O C R → ℕ → Mine O C R → Type 0
  Draws st m n m' = (n ≡ st.first → (m' ≡ (drew n m.0, m.1)) × (m.0.worn ≡ false)) × (¬ (n ≡ st.first) → m' ≡ m)

  -- What a seat knows in its turn, when it holds the object after all that it has seen. It has read
  -- no more of the counts than the object has then, and has announced nothing yet.
  pub record HasTurn (moves : O → C → R → O → Type 0) (counted : O → ℕ × ℕ) (opening : O)
      (m : Mine O C R) : Type 0 where
    pub legal : IsLegal moves opening m.0.seen
    pub read : (count : Count) → of_count count m.0.read ≤ of_count count (counted (after_all opening m.0.seen))
    pub quiet : (count : Count) → of_count count m.0.announced ≡ 0
    pub out : (last : Option (Done C R)) × (m.1 ≡ (0, put (after_all opening m.0.seen) last) ∷ [])

  -- What a look at the served ticket shows of the log.
  pub record Looks (m : Mine O C R) (n : ℕ) (m' : Mine O C R) : Type 0 where
    pub log : List (Turn O C R)
    pub longer : IsPrefixOf m.0.seen log
    pub count : n ≡ m.0.first + length log
    pub view : m'.0 ≡ looked n log m.0
    pub own : HasItsOwn m.0.numbers m.0.own log

  module _ (moves : O → C → R → O → Type 0) (counted : O → ℕ × ℕ) where
    -- A look at the served ticket. If it begins the turn, the seat has the object.
    abbrev pub Turns : At O C R → Mine O C R → ℕ → Mine O C R → Type 0
    Turns st m n m' = (opening : O) → m.0.opening ≡ Some opening
        → Looks m n m' × IsLegal moves opening m'.0.seen × (m'.0.in_turn ≡ true → HasTurn moves counted opening m')
        × (m'.0.in_turn ≡ false → m'.1 ≡ m.1)

    -- The compare-exchange that draws the served ticket and begins its turn. If it does not find
    -- the expected ticket, nothing changes.
    abbrev pub Enters : At O C R → Mine O C R → ℕ → Mine O C R → Type 0
    Enters st m n m' = (opening : O) → m.0.opening ≡ Some opening
        → (n ≡ st.first → (m'.0 ≡ entered n m.0) × HasTurn moves counted opening m' × (m.0.worn ≡ false))
        × (¬ (n ≡ st.first) → m' ≡ m)

  -- The addition that announces a count.
  abbrev pub Announces : At O C R → Mine O C R → ℕ → Mine O C R → Type 0
  Announces st m n m' = (count : Count) → st.word ≡ word_of count → m' ≡ (announced_by count 1 m.0, m.1)

  -- A load of a count's word. It shows at least what the seat has read before, and at least the
  -- count after all that the seat has seen.
  abbrev pub Reads : (O → ℕ × ℕ) → At O C R → Mine O C R → ℕ → Mine O C R → Type 0
  Reads counted st m n m' = (count : Count) → st.word ≡ word_of count → (opening : O) → m.0.opening ≡ Some opening
      → (m' ≡ (read_to count n m.0, m.1)) × (of_count count m.0.read ≤ n)
      × (of_count count (counted (after_all opening m.0.seen)) ≤ n)

  -- What a seat learns from a look after a join.
  pub record Gathers (moves : O → C → R → O → Type 0) (opening : O) (m m' : Mine O C R) : Type 0 where
    pub log : List (Turn O C R)
    pub one : IsPrefixOf m.0.seen log
    pub two : IsPrefixOf m.0.also log
    pub is : m' ≡ (merged log m.0, m.1)
    pub legal : IsLegal moves opening log
    pub own : HasItsOwn m.0.numbers m.0.own log

  -- The view after the turn that the slot records.
  abbrev pub told : View O C R → O → Option (Done C R) → View O C R
  told v o None = v
  told v o (Some done) = ended v done.call.value done.reply.value o

  -- The view after the turn that the slot held by the seat records.
  abbrev pub after_turn : View O C R → List (ℕ × Spot O C R) → View O C R
  after_turn v [] = v
  after_turn v ((k, None) ∷ xs) = v
  after_turn v ((k, Some place) ∷ xs) = told v place.object place.last

  -- The addition that ends the turn.
  abbrev pub Ends : At O C R → Mine O C R → ℕ → Mine O C R → Type 0
  Ends st m n m' = (m' ≡ (after_turn m.0 m.1, rest m.1)) × HasItsOwn m'.0.numbers m'.0.own m'.0.seen
