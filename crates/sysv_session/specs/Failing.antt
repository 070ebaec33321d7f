-- Which stream of a session failed, or whether the client reset the connection, by the session's end
-- (this project's profile).
use Rattle.std.specs.Prelude.{Bool, true, false, Result, Ok, Err}
use Rattle.sysv_session.specs.declared.served.End.{End}
use Rattle.sysv_session.specs.declared.served.End.TheVariants.{Ended, NoMemory, NoHello, Fault, Write, Bound, Left}
use Rattle.sysv_session.specs.declared.served.End.TheVariants.{Reset}
use Rattle.sysv_wire.specs.Faults.{is_read}

-- The end is that the reader failed.
abbrev pub is_failed_read : End → Bool
is_failed_read Ended = false
is_failed_read NoMemory = false
is_failed_read NoHello = false
is_failed_read (Fault fault) = is_read fault
is_failed_read Write = false
is_failed_read Bound = false
is_failed_read Left = false
is_failed_read Reset = false

-- The end is that the writer failed.
abbrev pub is_failed_write : End → Bool
is_failed_write Ended = false
is_failed_write NoMemory = false
is_failed_write NoHello = false
is_failed_write (Fault fault) = false
is_failed_write Write = true
is_failed_write Bound = false
is_failed_write Left = false
is_failed_write Reset = false

-- The end is that the client reset the connection.
abbrev pub is_reset : End → Bool
is_reset Ended = false
is_reset NoMemory = false
is_reset NoHello = false
is_reset (Fault fault) = false
is_reset Write = false
is_reset Bound = false
is_reset Left = false
is_reset Reset = true

-- A part of a session ended it because the reader failed.
abbrev pub ends_by_read : {T : Type 0} → Result T End → Bool
ends_by_read (Ok value) = false
ends_by_read (Err why) = is_failed_read why

-- A part of a session ended it because the writer failed.
abbrev pub ends_by_write : {T : Type 0} → Result T End → Bool
ends_by_write (Ok value) = false
ends_by_write (Err why) = is_failed_write why
