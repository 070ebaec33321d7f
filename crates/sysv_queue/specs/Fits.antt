-- When a message fits on a queue (this profile's): the queued bytes and its own are together at
-- most qbytes, and fewer than 256 messages are queued. In POSIX.1-2017, msgsnd, a send waits as
-- soon as the queued bytes reach qbytes; here an empty message still fits then.
use Rattle.std.specs.Prelude.{ℕ, ◌+◌, ◌<◌, ◌≤◌, List, length, sum_by}
use Rattle.sysv_model.specs.declared.limits.TheConstants.{QUEUE_MESSAGES}
use Rattle.sysv_model.specs.Message.{Message}

-- The total number of bytes of these messages.
abbrev pub bytes_of : List Message → ℕ
bytes_of messages = sum_by (λ (m : Message). length m.bytes) messages

-- A message of this size fits on a queue with this limit and these queued messages.
abbrev pub Fits : ℕ → List Message → ℕ → Type 0
Fits qbytes messages size = (bytes_of messages + size ≤ qbytes) × (length messages < QUEUE_MESSAGES)
