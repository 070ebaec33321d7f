-- Replies that a connection has not taken yet (this project's profile): their bytes, and the
-- deliveries of the messages in them. The connection takes bytes from the front. A delivery is spent
-- as written once the connection has taken a byte after its frame. The others are spent at the end: as
-- written if the connection has taken their frames whole, and else as lost. A reset shows that the
-- client has not read the last byte that the connection took, so after a reset all of them are lost.
use Rattle.std.specs.Prelude.{◌+◌, ◌-◌, ℕ, Bool, true, false, not, nat_le, List, [], ◌∷◌, ◌++◌, length, drop}
use Rattle.std.specs.Prelude.{map, filter}
use Rattle.sysv_queue.specs.Delivery.{Given}
use Rattle.sysv_queue.specs.Tally.{Tallied}

-- A delivery, and where its frame ends: after this number of the bytes that were not taken.
pub record Mark : Type 0 where
  pub ends : ℕ
  pub given : Given

-- What the contracts see of an outbox: the bytes that were not taken, and the deliveries whose
-- frames end in them, in order. A frame that ends at 0 was taken whole, and no byte after it.
pub record Unsent : Type 0 where
  pub bytes : List ℕ
  pub marks : List Mark

-- The outbox with one more frame, which carries no message.
abbrev pub with_frame : List ℕ → Unsent → Unsent
with_frame frame box = record { bytes = box.bytes ++ frame; marks = box.marks }

-- The mark of a message whose frame ends here.
abbrev pub mark_at : ℕ → Given → Mark
mark_at place given = record { ends = place; given = given }

-- The outbox with one more frame, which carries this message.
abbrev pub with_message : List ℕ → Given → Unsent → Unsent
with_message frame given box =
    record { bytes = box.bytes ++ frame; marks = box.marks ++ mark_at (length (box.bytes ++ frame)) given ∷ [] }

-- The frame of the mark lies wholly in the first n bytes.
abbrev pub is_within : ℕ → Mark → Bool
is_within n mark = nat_le mark.ends n

-- The number of marks whose frames lie wholly in the first n bytes.
abbrev pub within : ℕ → List Mark → ℕ
within n marks = length (filter (is_within n) marks)

-- The frame of the mark ends before the last of the first n bytes.
abbrev pub is_passed : ℕ → Mark → Bool
is_passed n mark = nat_le (1 + mark.ends) n

-- The number of marks whose frames end before the last of the first n bytes.
abbrev pub passed : ℕ → List Mark → ℕ
passed n marks = length (filter (is_passed n) marks)

-- The mark, n bytes nearer to its end.
abbrev pub nearer : ℕ → Mark → Mark
nearer n mark = record { ends = mark.ends - n; given = mark.given }

-- The other marks, once the first n bytes were taken.
abbrev pub beyond : ℕ → List Mark → List Mark
beyond n marks = map (nearer n) (filter (λ (mark : Mark). not (is_passed n mark)) marks)

-- The outbox, once the first n bytes were taken.
abbrev pub without : ℕ → Unsent → Unsent
without n box = record { bytes = drop n box.bytes; marks = beyond n box.marks }

-- The tally with this many more messages written.
abbrev pub more_written : ℕ → Tallied → Tallied
more_written count tally = record { written = tally.written + count; lost = tally.lost }

-- The tally with this many more messages lost.
abbrev pub more_lost : ℕ → Tallied → Tallied
more_lost count tally = record { written = tally.written; lost = tally.lost + count }

-- The tally once the outbox has ended that has these marks, after a reset or not.
abbrev pub at_end : Bool → List Mark → Tallied → Tallied
at_end true marks tally = more_lost (length marks) tally
at_end false marks tally = more_lost (length marks - within 0 marks) (more_written (within 0 marks) tally)
