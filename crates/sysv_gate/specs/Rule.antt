-- The rule of a gate, that is, of one place of a table. A gate has one place, a bank has one or
-- more. Word 16 of the place is the ticket that is served, and word 32 is the ticket that is drawn
-- next. Words 48 and 64 announce the object's two counts, and the slot of the place has the object.
-- The words are 128 bytes apart, so that no two share a cache line. The log is the history of all
-- turns there. This project's profile.
use Rattle.std.specs.Prelude.{◌≡◌, ℕ, ◌+◌, ◌^◌, ◌≤◌, true, false, List, [], ◌∷◌, length, slice_index, sum_by, Option}
use Rattle.std.specs.Prelude.{Some}
use mathlib.Core.Option.{some}
use mathlib.Core.Option as maybe
use lib.ListN.{get_elem?}
use Rattle.atomic_table.specs.Table.{State}
use Rattle.sysv_gate.specs.declared.table.view.View.{View}
use Rattle.sysv_gate.specs.declared.table.view.Turn.{Turn}
use Rattle.sysv_gate.specs.declared.table.place.Place.{Place}
use Rattle.sysv_gate.specs.declared.table.place.Done.{Done}
use Rattle.sysv_gate.specs.declared.count.Count.{Count}
use Rattle.sysv_lists.specs.Numbers.{times, once_between}
use Rattle.sysv_gate.specs.Counts.{word_of, of_count}
use Rattle.sysv_lists.specs.Prefix.{IsPrefixOf}
use Rattle.sysv_gate.specs.History.{after_all, IsLegal, made_at}

-- What the slot can have.
abbrev pub Spot : Type 0 → Type 0 → Type 0 → Type 0
Spot O C R = Option (Place O C R)

-- The slots in the table. A slot that a seat holds is not among them.
abbrev pub Homes : Type 0 → Type 0 → Type 0 → Type 0
Homes O C R = List (maybe.Option (Spot O C R))

module _ {O C R : Type 0} where
  -- The slot with the object and the call that it served last.
  abbrev pub put : O → Option (Done C R) → Spot O C R
  put o last = Some (record { object = o; last = last })

  -- The slot is in the table and has this object.
  abbrev pub IsHome : O → Homes O C R → Type 0
  IsHome o homes = (last : Option (Done C R)) × (get_elem? homes 0 ≡ some (some (put o last)))

  -- One view fits the log. If it is not spent, it knows the object that the gate was opened with
  -- and the first ticket. It has seen a prefix of the log. If it is in its turn, it has the ticket
  -- that is served, and has seen the whole log. Its own turns in the log are those made under its
  -- numbers. It is marked as worn only if the tickets have reached 2^62.
  pub record Fits (opening : O) (first : ℕ) (log : List (Turn O C R)) (drawn : ℕ) (v : View O C R) : Type 0 where
    pub start : (o : O) → v.opening ≡ Some o → (o ≡ opening) × (v.first ≡ first)
    pub seen : IsPrefixOf v.seen log
    pub also : IsPrefixOf v.also log
    pub turn : v.in_turn ≡ true → (1 ≤ times (first + length log) v.tickets) × (v.seen ≡ log)
    pub own : (p : ℕ) → times p v.own ≡ made_at v.numbers log p
    pub worn : v.worn ≡ true → 2 ^ 62 ≤ drawn

  -- The number of views that have the number x.
  abbrev pub bearers : ℕ → List (View O C R) → ℕ
  bearers x views = sum_by (λ v. times x v.numbers) views

  -- The log is legal. Each ticket from the served one to below the one that is drawn next is held
  -- by exactly one view, and no other ticket by any. At most 2^62 tickets are drawn. No number
  -- belongs to two views, or to a view that does not exist yet; an unspent view without a number
  -- may take that of its own place in the list; and each turn was made under a number of some view.
  -- If no view is in its turn, the object after the log is in the table. A view that is alone is
  -- the only one, and has seen the whole log.
  pub record IsKept (moves : O → C → R → O → Type 0) (opening : O) (first : ℕ) (log : List (Turn O C R)) (drawn : ℕ)
      (homes : Homes O C R) (views : List (View O C R)) : Type 0 where
    pub legal : IsLegal moves opening log
    pub tickets : (x : ℕ) → sum_by (λ v. times x v.tickets) views ≡ once_between (first + length log) drawn x
    pub order : first + length log ≤ drawn
    pub limit : drawn ≤ 2 ^ 62
    pub apart : (x : ℕ) → bearers x views ≤ 1
    pub unused : (x : ℕ) → length views ≤ x → bearers x views ≡ 0
    pub nameless : (i : ℕ) (v : View O C R) → get_elem? views i ≡ some v → (o : O) → v.opening ≡ Some o →
        v.numbers ≡ [] → bearers i views ≡ 0
    pub known : (x : ℕ) → bearers x views ≡ 0 → (p : ℕ) → made_at (x ∷ []) log p ≡ 0
    pub each : (i : ℕ) (v : View O C R) → get_elem? views i ≡ some v → Fits opening first log drawn v
    pub home : ((i : ℕ) (v : View O C R) → get_elem? views i ≡ some v → v.in_turn ≡ false) →
        IsHome (after_all opening log) homes
    pub alone : (i : ℕ) (v : View O C R) → get_elem? views i ≡ some v → v.alone ≡ true →
        (length views ≡ 1) × (v.seen ≡ log)

  -- One count is announced: its word has the count after the log, plus what the seat in its turn
  -- has already added, and that is at most one. A seat that is not in its turn has added nothing,
  -- and no seat has read more than the word has.
  pub record IsAnnounced (count : Count) (after_log word : ℕ) (views : List (View O C R)) : Type 0 where
    pub value : word ≡ after_log + sum_by (λ v. of_count count v.announced) views
    pub few : word ≤ after_log + 1
    pub quiet : (i : ℕ) (v : View O C R) → get_elem? views i ≡ some v → v.in_turn ≡ false →
        of_count count v.announced ≡ 0
    pub read : (i : ℕ) (v : View O C R) → get_elem? views i ≡ some v → of_count count v.read ≤ word

  -- Both counts are announced.
  abbrev pub AreAnnounced : (O → ℕ × ℕ) → O → List ℕ → List (View O C R) → Type 0
  AreAnnounced counted object words views =
      (count : Count) → IsAnnounced count (of_count count (counted object)) (slice_index words (word_of count)) views

  -- The words, the slot and the views fit the log. The served ticket is the first ticket plus the
  -- number of turns.
  abbrev pub GatedBy : (O → C → R → O → Type 0) → (O → ℕ × ℕ) → O → ℕ → List (Turn O C R) →
      State (Spot O C R) (View O C R) → Type 0
  GatedBy moves counted opening first log s =
      (length s.words ≡ 80) × (length s.homes ≡ 1)
      × (slice_index s.words 16 ≡ first + length log)
      × IsKept moves opening first log (slice_index s.words 32) s.homes s.views
      × AreAnnounced counted (after_all opening log) s.words s.views

  -- There is a log that the words, the slot and the views fit.
  abbrev pub Gated : (O → C → R → O → Type 0) → (O → ℕ × ℕ) → O → ℕ → State (Spot O C R) (View O C R) → Type 0
  Gated moves counted opening first s = (log : List (Turn O C R)) × GatedBy moves counted opening first log s

  -- The view of the first seat.
  abbrev pub start : O → ℕ → View O C R
  start opening first = record {
    opening = Some opening;
    first = first;
    number = 0;
    numbers = 0 ∷ [];
    seen = [];
    also = [];
    own = [];
    tickets = [];
    in_turn = false;
    worn = false;
    read = (0, 0);
    announced = (0, 0);
    alone = true;
  }
