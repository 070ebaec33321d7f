-- The known bytes of a client's connection, through its buffers (this project's programs).
use Rattle.std.specs.Prelude.{ℕ, List, Option, option_and_then}
use Rattle.std.specs.Io.Buffered.{reader_remaining, writer_contents}
use Rattle.sysv_connect.specs.declared.link.Link.{Link}

-- What the reader has left, if that is known.
abbrev pub left_by : {R W : Type 0} → (R → Option (List ℕ)) → Link R W → Option (List ℕ)
left_by remaining link = reader_remaining (λ leaver. option_and_then remaining leaver.reader) link.reader

-- What the writer has taken, if that is known.
abbrev pub taken_by : {R W : Type 0} → (W → Option (List ℕ)) → Link R W → Option (List ℕ)
taken_by contents link = writer_contents (λ outgoing. option_and_then contents outgoing.writer) link.writer
