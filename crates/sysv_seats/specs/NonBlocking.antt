-- Reads and writes that never wait (this project's profile).
use Rattle.std.specs.Prelude.{◌≡◌, ◌≤◌, ℕ, ⊤, List, Option, Some, length, take}
use Rattle.std.specs.Io.KnownBytes.{Appends, Consumes, IsAtEnd, Keeps}
use Rattle.sysv_seats.specs.declared.non_blocking.Drained.{Drained}
use Rattle.sysv_seats.specs.declared.non_blocking.Drained.TheVariants as drained
use Rattle.sysv_seats.specs.declared.non_blocking.Filled.{Filled}
use Rattle.sysv_seats.specs.declared.non_blocking.Filled.TheVariants as filled
use Rattle.sysv_seats.specs.declared.non_blocking.Over.{Over}
use Rattle.sysv_seats.specs.declared.non_blocking.Over.TheVariants as over

-- The bytes have a prefix of this length.
abbrev pub IsPrefixLength : ℕ → List ℕ → Type 0
IsPrefixLength count bytes = (count ≤ length bytes) × (count ≡ length (take count bytes))

-- Reading is over, with these bytes still to be read if they are known. At the end there are none.
abbrev pub LeavesNoneAtEnd : Over → Option (List ℕ) → Type 0
LeavesNoneAtEnd over.End unread = IsAtEnd unread
LeavesNoneAtEnd over.Reset unread = ⊤
LeavesNoneAtEnd over.Failed unread = ⊤

-- A read that returned this took the bytes that it put at the front of the buffer from the front of
-- those that could be read, and at least one of them. Any other read took none.
abbrev pub FillConsumes : (before after : Option (List ℕ)) → Filled → List ℕ → Type 0
FillConsumes before after (filled.Bytes count) buffer =
    (1 ≤ count) × IsPrefixLength count buffer × Consumes before after (take count buffer)
FillConsumes before after filled.NothingNow buffer = Keeps before after
FillConsumes before after (filled.Over why) buffer = Keeps before after × LeavesNoneAtEnd why after

-- Why nothing more can be read, if a read has said so: what the reads have said after one that returned
-- this, and what they had said before it.
abbrev pub said_after : Filled → (before : Option Over) → Option Over
said_after (filled.Bytes count) before = before
said_after filled.NothingNow before = before
said_after (filled.Over why) before = Some why

-- A write that returned this added as many bytes to those that were written before, from the front
-- of the bytes that it was given, and at least one of them. Any other write added none.
abbrev pub DrainAppends : (before after : Option (List ℕ)) → Drained → List ℕ → Type 0
DrainAppends before after (drained.Took count) bytes =
    (1 ≤ count) × IsPrefixLength count bytes × Appends before after (take count bytes)
DrainAppends before after drained.NothingNow bytes = Keeps before after
DrainAppends before after drained.Failed bytes = Keeps before after
