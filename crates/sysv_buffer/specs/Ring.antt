-- The rule of a buffer of one producer and one consumer, after Reed and Kanodia ("Synchronization
-- with Eventcounts and Sequencers", Communications of the ACM, 1979). Word 0 is IN, the number of
-- items put, and word 16 is OUT, the number of items taken. They are 128 bytes apart, so that they
-- share no cache line. Item i is in cell i mod n.
use Rattle.std.specs.Prelude.{◌≡◌, ◌≢◌, ◌⊎◌, ℕ, ◌+◌, ◌%◌, ◌^◌, ◌<◌, ◌≤◌, true, false, List, [], ◌∷◌, length}
use Rattle.std.specs.Prelude.{slice_index, Option, Some, None}
use mathlib.Core.Option.{some}
use mathlib.Core.Option as maybe
use lib.ListN.{get_elem?}
use Rattle.atomic_table.specs.Table.{State}
use Rattle.sysv_buffer.specs.declared.view.View.{View}
use Rattle.sysv_buffer.specs.declared.view.Role.TheVariants.{Both, Producer, Consumer}
use Rattle.sysv_lists.specs.Prefix.{IsPrefixOf}

-- The cells in the table. A cell that an end holds is not among them.
abbrev pub Homes : Type 0 → Type 0
Homes T = List (maybe.Option (Option T))

module _ {T : Type 0} where
  -- The items put, the number of them that were taken, the cells and both ends fit each other.
  pub record Runs (n : ℕ) (put : List T) (taken : ℕ) (homes : Homes T) (p c : View T) : Type 0 where
    pub room : 0 < n
    pub size : length homes ≡ n
    -- The items taken are a prefix of the items put, shorter by at most n.
    pub order : taken ≤ length put
    pub within : length put ≤ taken + n
    pub limit : length put ≤ 2 ^ 62
    -- The producer knows all items put, and a lower bound of the number of items taken.
    pub producer : p.role ≡ Producer
    pub puts : p.put ≡ put
    pub gone : p.taken ≤ taken
    pub may_put : p.holds ≡ true → (length put < taken + n) × (length put < 2 ^ 62)
    -- The consumer knows the number of items taken, and a prefix of the items put.
    pub consumer : c.role ≡ Consumer
    pub takes : c.taken ≡ taken
    pub seen : IsPrefixOf c.put put
    pub known : taken ≤ length c.put
    pub may_take : c.holds ≡ true → taken < length c.put
    -- A queued item is in its cell, except one whose cell the consumer holds.
    pub full : (i : ℕ) (x : T) → taken ≤ i → get_elem? put i ≡ some x → (c.holds ≡ true → i ≢ taken) →
        get_elem? homes (i % n) ≡ some (some (Some x))
    -- Every other cell is empty, except one that the producer holds.
    pub free : (i : ℕ) → length put ≤ i → i < taken + n → (p.holds ≡ true → i ≢ length put) →
        get_elem? homes (i % n) ≡ some (some None)

  -- The words are the numbers of items put and taken, and the views are those of the two ends.
  pub record Going (s : State (Option T) (View T)) : Type 0 where
    pub put : List T
    pub taken : ℕ
    pub p : View T
    pub c : View T
    pub wide : length s.words ≡ 32
    pub in_word : slice_index s.words 0 ≡ length put
    pub out_word : slice_index s.words 16 ≡ taken
    pub ends : s.views ≡ p ∷ c ∷ []
    pub runs : Runs (length s.homes) put taken s.homes p c

  -- The view of the first seat.
  abbrev pub start : View T
  start = record { role = Both; put = []; taken = 0; holds = false }

  -- Nothing was put yet, and the first seat has not been split into the two ends.
  pub record Fresh (s : State (Option T) (View T)) : Type 0 where
    pub wide : length s.words ≡ 32
    pub in_word : slice_index s.words 0 ≡ 0
    pub out_word : slice_index s.words 16 ≡ 0
    pub ends : s.views ≡ start ∷ []
    pub room : 0 < length s.homes
    pub cells : (i : ℕ) → i < length s.homes → get_elem? s.homes i ≡ some (some None)

  -- The rule: the buffer is fresh or going.
  abbrev pub Kept : State (Option T) (View T) → Type 0
  Kept s = Fresh s ⊎ Going s
