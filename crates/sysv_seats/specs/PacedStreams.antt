-- Streams in memory, and the steps that pace them (this project's profile).
use Rattle.std.specs.Prelude.{◌≡◌, ◌-◌, ◌^◌, ◌==◌, ◌&&◌, ◌||◌, ◌++◌, ℕ, Bool, true, false, ⊤, not, List, [], ◌∷◌}
use Rattle.std.specs.Prelude.{length, min, take, drop}
use Rattle.std.specs.Prelude.{Option, None, Some, if◌then◌else◌}
use Rattle.sysv_seats.specs.declared.callers.Callers.{Callers}
use Rattle.sysv_seats.specs.declared.memory_stream.Step.{Step}
use Rattle.sysv_seats.specs.declared.memory_stream.Step.TheVariants as step
use Rattle.sysv_seats.specs.declared.non_blocking.Drained.{Drained}
use Rattle.sysv_seats.specs.declared.non_blocking.Drained.TheVariants as drained
use Rattle.sysv_seats.specs.declared.non_blocking.Filled.{Filled}
use Rattle.sysv_seats.specs.declared.non_blocking.Filled.TheVariants as filled
use Rattle.sysv_seats.specs.declared.non_blocking.Over.{Over}
use Rattle.sysv_seats.specs.declared.non_blocking.Over.TheVariants as over
use Rattle.sysv_seats.specs.Breaking.{Breaks}

-- What the contracts see of a stream in memory: the bytes still to be read, those that were
-- written, the number of bytes that can still be written, the steps of its next reads and writes, why
-- nothing more can be read, if a read has said so, whether its client may leave or be cut off, and the callers that
-- it lets in.
pub record PacedStream : Type 0 where
  pub unread : List ℕ
  pub written : List ℕ
  pub room : ℕ
  pub reads : List Step
  pub writes : List Step
  pub said : Option Over
  pub cut : Bool
  pub callers : Callers

-- The step of the next read or write. After the last step there is no limit.
abbrev pub next_step : List Step → Step
next_step [] = step.AtMost (2 ^ 64 - 1)
next_step (next ∷ later) = next

-- The steps after that one.
abbrev pub later_steps : List Step → List Step
later_steps [] = []
later_steps (next ∷ later) = later

-- The number of bytes that a step lets through.
abbrev pub limit_of : Step → ℕ
limit_of (step.AtMost most) = most
limit_of step.Reset = 0
limit_of step.Fail = 0

-- ---- reading

-- Why nothing more can be read, by the next step and the bytes still to be read. Before a step that
-- lets nothing through, the end is not seen yet.
abbrev pub over_at : Step → List ℕ → Option Over
over_at (step.AtMost most) unread = if not (most == 0) && (length unread == 0) then Some over.End else None
over_at step.Reset unread = Some over.Reset
over_at step.Fail unread = Some over.Failed

abbrev pub over_of : PacedStream → Option Over
over_of stream = over_at (next_step stream.reads) stream.unread

-- The number of bytes that a read moves to a buffer of this length.
abbrev pub readable : PacedStream → ℕ → ℕ
readable stream room = min (min (limit_of (next_step stream.reads)) (length stream.unread)) room

-- The result of a read that moved this number of bytes.
abbrev pub filled_with : ℕ → Filled
filled_with count = if count == 0 then filled.NothingNow else filled.Bytes count

-- The stream after such a read, whose step is over.
abbrev pub after_read : PacedStream → ℕ → PacedStream
after_read stream count = record stream { unread = drop count stream.unread; reads = later_steps stream.reads }

-- Such a read had this result, and left this in its buffer.
abbrev pub Reads : PacedStream → ℕ → Filled → List ℕ → PacedStream → Type 0
Reads before count result buffer after =
    (result ≡ filled_with count) × (take count buffer ≡ take count before.unread) × (after ≡ after_read before count)

-- A read. Once reading is over, its step stays the next one, and the read has said so.
abbrev pub FillsAs : Option Over → PacedStream → Filled → List ℕ → PacedStream → Type 0
FillsAs None before result buffer after = Reads before (readable before (length buffer)) result buffer after
FillsAs (Some why) before result buffer after =
    (result ≡ filled.Over why) × (after ≡ record before { said = Some why })

-- ---- writing

-- Each write fails from now on.
abbrev pub FailsAt : Step → Type 0
FailsAt (step.AtMost most) = ⊥
FailsAt step.Reset = ⊤
FailsAt step.Fail = ⊤

-- The number of bytes that a write moves if it is given this many.
abbrev pub writable : PacedStream → ℕ → ℕ
writable stream count = min (min (limit_of (next_step stream.writes)) count) stream.room

-- The result of a write that moved this number of bytes.
abbrev pub drained_with : ℕ → Drained
drained_with count = if count == 0 then drained.NothingNow else drained.Took count

-- The stream after such a write, whose step is over.
abbrev pub after_write : PacedStream → List ℕ → ℕ → PacedStream
after_write stream bytes count =
    record stream {
      written = stream.written ++ take count bytes;
      room = stream.room - count;
      writes = later_steps stream.writes;
    }

-- A write. Once one has failed, its step stays the next one.
abbrev pub DrainsAt : Step → PacedStream → List ℕ → Drained → PacedStream → Type 0
DrainsAt (step.AtMost most) before bytes result after =
    (result ≡ drained_with (writable before (length bytes)))
    × (after ≡ after_write before bytes (writable before (length bytes)))
DrainsAt step.Reset before bytes result after = (result ≡ drained.Failed) × (after ≡ before)
DrainsAt step.Fail before bytes result after = (result ≡ drained.Failed) × (after ≡ before)

-- ---- what may happen

-- The step fails.
abbrev pub is_failing : Step → Bool
is_failing (step.AtMost most) = false
is_failing step.Reset = true
is_failing step.Fail = true

-- A read fails at the step, or finds that the client has reset the connection.
abbrev pub is_failed_read : Step → Bool
is_failed_read (step.AtMost most) = false
is_failed_read step.Reset = false
is_failed_read step.Fail = true

abbrev pub is_reset : Step → Bool
is_reset (step.AtMost most) = false
is_reset step.Reset = true
is_reset step.Fail = false

-- One of the steps fails.
abbrev pub has_failing : List Step → Bool
has_failing [] = false
has_failing (next ∷ later) = is_failing next || has_failing later

-- A read fails at one of the steps, or finds a reset.
abbrev pub has_failed_read : List Step → Bool
has_failed_read [] = false
has_failed_read (next ∷ later) = is_failed_read next || has_failed_read later

abbrev pub has_reset : List Step → Bool
has_reset [] = false
has_reset (next ∷ later) = is_reset next || has_reset later

-- A read or a write may fail only at a step that does, or if the client is cut off. A read may find a
-- reset only at such a step.
abbrev pub breaks_of : PacedStream → Breaks
breaks_of stream = record {
  reading = has_failed_read stream.reads || stream.cut;
  resetting = has_reset stream.reads;
  writing = has_failing stream.writes || stream.cut;
  leaving = stream.cut;
  limits = record { idle = stream.cut; stall = stream.cut; drain = stream.cut };
  callers = stream.callers;
}
