-- The rows that an ipcs requests together (this project's programs): it writes the requests for the
-- next slots, and then reads the replies.
use Rattle.std.specs.Prelude.{◌≡◌, ◌+◌, ◌-◌, ◌<◌, ◌≤◌, ℕ, zero, suc, List, [], ◌∷◌, Option, Result, Ok, Err}
use Rattle.std.specs.Io.KnownBytes.{Appends}
use Rattle.sysv_clients.specs.declared.command.TheConstants.{ROW_WINDOW}
use Rattle.sysv_clients.specs.Dialogue.{asks_encoding}
use Rattle.sysv_model.specs.declared.instrumented.WriteFault.{WriteFault}
use Rattle.sysv_model.specs.Writing.{AppendsPrefix}
use Rattle.sysv_wire.specs.declared.request.Ask.{Ask}
use Rattle.sysv_wire.specs.declared.request.Ask.TheVariants.{Row}

-- The requests for the rows of this number of slots, from this slot on.
abbrev pub rows_from : ℕ → ℕ → List Ask
rows_from zero slot = []
rows_from (suc count) slot = Row slot ∷ rows_from count (slot + 1)

-- The frames of the requests for the rows from one slot to before another. Their body is empty.
abbrev pub rows_encoding : ℕ → ℕ → List ℕ → List ℕ
rows_encoding from to text = asks_encoding (rows_from (to - from) from) text

-- The requests for the rows from `slot` to before `sent` were on their way. Now those to before the
-- result are, which are some and at most a window. Or the writer failed: none was on its way, and
-- the writer took a prefix of those to before some slot.
abbrev pub RequestsAhead : List ℕ → (slot sent rows : ℕ) → Result ℕ WriteFault → (taken more : Option (List ℕ)) → Type 0
RequestsAhead text slot sent rows (Ok now) taken more =
    (slot < now) × (now ≤ rows) × (now ≤ slot + ROW_WINDOW)
    × ((before : Option (List ℕ)) → Appends before taken (rows_encoding slot sent text)
    → Appends before more (rows_encoding slot now text))
RequestsAhead text slot sent rows (Err fault) taken more =
    (sent ≡ slot) × (now : ℕ) × (slot < now) × (now ≤ rows) × (now ≤ slot + ROW_WINDOW)
    × AppendsPrefix taken more (rows_encoding slot now text)
