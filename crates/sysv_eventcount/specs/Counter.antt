-- What contracts see of an eventcount or a sequencer, and of its seats, after Reed and Kanodia. The
-- value of an eventcount is its first value plus the number of advances. A ticket is the first
-- value plus the number of tickets drawn before it. Allowances are part of this project's profile:
-- they bound the number of seats.
use Rattle.std.specs.Prelude.{◌≡◌, ℕ, ◌+◌, ◌-◌, ◌/◌, ◌^◌, ◌≤◌, max, List, [], ◌∷◌, ◌++◌, length}
use Rattle.atomic_table.specs.Seated.{TableId}
use Rattle.sysv_lists.specs.Numbers.{NoneTwice, AreBetween}

-- An eventcount or a sequencer: its identity and its first value.
pub record Counter : Type 0 where
  pub table : TableId
  pub first : ℕ

-- A seat: the object that it belongs to, the greatest value that it has seen, the numbers that its
-- own additions found (together with those of the seats that were joined into it), and its
-- allowance.
pub record Holding : Type 0 where
  pub counter : Counter
  pub seen : ℕ
  pub own : List ℕ
  pub allowance : ℕ

-- The first seat, which has the whole allowance.
abbrev pub opened : Counter → Holding
opened c = record { counter = c; seen = c.first; own = []; allowance = 2 ^ 61 }

-- The seat after it has seen the value n.
abbrev pub saw : ℕ → Holding → Holding
saw n h = record h { seen = n }

-- The seat after an addition of its own that found n and made it n + 1.
abbrev pub added : ℕ → Holding → Holding
added n h = record h { seen = n + 1; own = h.own ++ n ∷ [] }

-- The seat after a split: a 64th of its allowance is gone.
abbrev pub after_split : Holding → Holding
after_split h = record h { allowance = h.allowance - h.allowance / 64 }

-- The seat that was split off. It has seen what its origin has seen, and has added nothing.
abbrev pub split_off : Holding → Holding
split_off h = record h { own = []; allowance = h.allowance / 64 }

-- The seat after another seat was joined into it.
abbrev pub after_join : Holding → Holding → Holding
after_join h other =
    record h { seen = max h.seen other.seen; own = h.own ++ other.own; allowance = h.allowance + other.allowance }

-- What a seat learns from the value n. The value is at least what the seat has seen, and at least
-- the first value plus the number of its own additions. No two of these additions found the same
-- number. If the seat has the whole allowance, there are no other additions. The value is at most
-- 2^62 + 2^61.
pub record Teaches (first seen allowance : ℕ) (own : List ℕ) (n : ℕ) : Type 0 where
  pub since : seen ≤ n
  pub own_additions : first + length own ≤ n
  pub none_twice : NoneTwice own
  pub alone : allowance ≡ 2 ^ 61 → (n ≡ first + length own) × AreBetween first n own
  pub within : n ≤ 2 ^ 62 + 2 ^ 61

-- What the seat h learns from the value n.
abbrev pub Learns : Holding → ℕ → Type 0
Learns h n = Teaches h.counter.first h.seen h.allowance h.own n

-- The seat has seen that the word has reached 2^62, and has added nothing.
abbrev pub MeetsWear : Holding → Holding → Type 0
MeetsWear before after = (2 ^ 62 ≤ after.seen) × (after ≡ saw after.seen before) × Learns before after.seen
