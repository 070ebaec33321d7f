-- What contracts see of the seats. This project's profile.
use Rattle.std.specs.Prelude.{◌≡◌, ℕ, Bool, cond}
use Rattle.atomic_table.specs.Seated.{TableId}
use Rattle.sysv_doorbells.specs.declared.view.Stage.{Stage}
use Rattle.sysv_doorbells.specs.declared.view.Stage.TheVariants.{Passed, Rung, Away, PassedAll}

-- A thread that is ready to sleep: the words, the first word of its doorbell, the number of strokes
-- that it has read, and the number of rings before.
pub record SleeperEnd : Type 0 where
  pub table : TableId
  pub at : ℕ
  pub strokes : ℕ
  pub since : ℕ

-- A thread that has made its call: the words, where it is, and the first word of the doorbell.
pub record TraceEnd : Type 0 where
  pub table : TableId
  pub stage : Stage
  pub at : ℕ

-- The thread has rung: it has made a stroke, or need not.
abbrev pub rung_at : TableId → ℕ → Bool → TraceEnd
rung_at table at made = record { table = table; stage = cond made Rung Passed; at = at }

-- The thread has looked for sleepers. If there were none, it has rung each doorbell.
abbrev pub looked_in : TableId → Bool → TraceEnd
looked_in table some_one = record { table = table; stage = cond some_one Away PassedAll; at = 0 }
