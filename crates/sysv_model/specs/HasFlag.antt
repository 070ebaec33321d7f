-- Flags (POSIX.1-2017, sys/ipc.h and sys/msg.h; the numbers are this profile's).
use Rattle.std.specs.Prelude.{◌==◌, Bool}
use Rattle.std.specs.Int.RustNames.{bit_and}
use Rattle.sysv_model.specs.declared.flags.Flags.{Flags}

-- A flag is set if and only if each of its bits is set.
abbrev pub has_flag : Flags → Flags → Bool
has_flag flag flags = bit_and flags.0 flag.0 == flag.0
