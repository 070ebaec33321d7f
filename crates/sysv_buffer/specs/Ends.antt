-- What contracts see of a buffer and of its ends. Buffers are this project's profile, and no part
-- of POSIX.1-2017.
use Rattle.std.specs.Prelude.{ℕ, List}
use Rattle.atomic_table.specs.Seated.{TableId}

-- A buffer: its identity and its number of cells.
pub record Buffered : Type 0 where
  pub table : TableId
  pub room : ℕ

-- The producer's end: its buffer, all items put, in order, and the number of items that it has seen
-- taken.
pub record Putting (T : Type 0) : Type 0 where
  pub buffer : Buffered
  pub put : List T
  pub gone : ℕ

-- The consumer's end: its buffer, all items taken, in order, and the items put, as far as it has
-- seen them.
pub record Taking (T : Type 0) : Type 0 where
  pub buffer : Buffered
  pub taken : List T
  pub seen : List T
