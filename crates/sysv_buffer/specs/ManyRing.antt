-- The rule of a buffer of many producers and consumers, after Reed and Kanodia ("Synchronization
-- with Eventcounts and Sequencers", Communications of the ACM, 1979). Words 0 and 16 are IN and
-- OUT, as in a `OneBuffer`. Word 32 is the sequencer of the puts, and word 48 is the sequencer of
-- the takes. Each is the next ticket, and a ticket is the place of one item. The cells keep the
-- rule of a `OneBuffer` whose one producer and one consumer make all puts and takes.
use Rattle.std.specs.Prelude.{◌≡◌, ℕ, ◌+◌, ◌^◌, ◌<◌, ◌≤◌, true, false, cond, List, [], ◌∷◌, length, slice_index, sum_by}
use Rattle.std.specs.Prelude.{Option}
use mathlib.Core.Option.{some}
use lib.ListN.{get_elem?}
use Rattle.atomic_table.specs.Table.{State}
use Rattle.sysv_buffer.specs.declared.view.View.{View}
use Rattle.sysv_buffer.specs.declared.many_view.Sight.{Sight}
use Rattle.sysv_buffer.specs.Ring.{Runs}
use Rattle.sysv_lists.specs.Prefix.{IsPrefixOf}
use Rattle.sysv_lists.specs.Numbers.{times}

module _ {T : Type 0} where
  -- The number of times that a seat has the place k among its puts or as its ticket for a put.
  abbrev pub put_at : ℕ → Sight T → ℕ
  put_at k v = times k v.puts + times k v.put_ticket

  -- The same among its takes and as its ticket for a take.
  abbrev pub taken_at : ℕ → Sight T → ℕ
  taken_at k v = times k v.takes + times k v.take_ticket

  -- 1 if the seat holds an empty cell to fill, else 0.
  abbrev pub filling : Sight T → ℕ
  filling v = cond v.fills 1 0

  -- 1 if the seat holds the cell of an item, else 0.
  abbrev pub emptying : Sight T → ℕ
  emptying v = cond v.empties 1 0

  -- What one seat knows is true. A ticket is for a place that was not reached yet, and the seat
  -- holds a cell only if it holds the next ticket.
  pub record Knows (put : List T) (taken : ℕ) (p c : View T) (v : Sight T) : Type 0 where
    pub seen : IsPrefixOf v.seen put
    pub told : IsPrefixOf v.told put
    pub gone : v.gone ≤ taken
    pub own_put : (k : ℕ) → 1 ≤ times k v.puts → k < length put
    pub own_taken : (k : ℕ) → 1 ≤ times k v.takes → k < taken
    pub waits_to_put : (k : ℕ) → 1 ≤ times k v.put_ticket → length put ≤ k
    pub waits_to_take : (k : ℕ) → 1 ≤ times k v.take_ticket → taken ≤ k
    pub fills : v.fills ≡ true → (v.put_ticket ≡ length put ∷ []) × (v.seen ≡ put) × (p.holds ≡ true)
    pub empties : v.empties ≡ true → (v.take_ticket ≡ taken ∷ []) × (c.holds ≡ true) × (taken < length v.seen)

  -- All seats together. No place is used twice, and none before its ticket is drawn.
  pub record Seated (put : List T) (taken : ℕ) (p c : View T) (next_put next_take : ℕ)
      (views : List (Sight T)) : Type 0 where
    pub each : (i : ℕ) (v : Sight T) → get_elem? views i ≡ some v → Knows put taken p c v
    pub put_once : (k : ℕ) → sum_by (put_at k) views ≤ 1
    pub put_later : (k : ℕ) → next_put ≤ k → sum_by (put_at k) views ≡ 0
    pub put_order : length put ≤ next_put
    pub put_limit : next_put ≤ 2 ^ 62
    pub taken_once : (k : ℕ) → sum_by (taken_at k) views ≤ 1
    pub taken_later : (k : ℕ) → next_take ≤ k → sum_by (taken_at k) views ≡ 0
    pub taken_order : taken ≤ next_take
    pub filler : p.holds ≡ true → 1 ≤ sum_by filling views
    pub emptier : c.holds ≡ true → 1 ≤ sum_by emptying views

  -- The words, the cells and the seats fit the items put and the number of them that were taken.
  pub record Crowded (s : State (Option T) (Sight T)) : Type 0 where
    pub put : List T
    pub taken : ℕ
    pub p : View T
    pub c : View T
    pub wide : length s.words ≡ 64
    pub in_word : slice_index s.words 0 ≡ length put
    pub out_word : slice_index s.words 16 ≡ taken
    pub runs : Runs (length s.homes) put taken s.homes p c
    pub seats : Seated put taken p c (slice_index s.words 32) (slice_index s.words 48) s.views

  -- What the first seat knows.
  abbrev pub first_sight : Sight T
  first_sight = record {
    seen = [];
    told = [];
    gone = 0;
    puts = [];
    takes = [];
    put_ticket = [];
    take_ticket = [];
    fills = false;
    empties = false;
  }
