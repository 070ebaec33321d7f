-- What the reads and the writes of a socket mean (this project's profile).
use Rattle.std.specs.Prelude.{ℕ, Result, Ok, Err, ◌==◌, if◌then◌else◌}
use Rattle.std.specs.IoError.{error_kind}
use Rattle.std.specs.declared.io.Error.{Error}
use Rattle.std.specs.declared.io.ErrorKind.{ErrorKind}
use Rattle.std.specs.declared.io.ErrorKind.TheVariants.{ConnectionReset, WouldBlock}
use Rattle.sysv_seats.specs.declared.non_blocking.Drained.{Drained}
use Rattle.sysv_seats.specs.declared.non_blocking.Drained.TheVariants as drained
use Rattle.sysv_seats.specs.declared.non_blocking.Filled.{Filled}
use Rattle.sysv_seats.specs.declared.non_blocking.Filled.TheVariants as filled
use Rattle.sysv_seats.specs.declared.non_blocking.Over.TheVariants as over

-- A read that failed so. Only a connection that its client has reset is told as one.
abbrev pub failed_by : ErrorKind → Filled
failed_by WouldBlock = filled.NothingNow
failed_by ConnectionReset = filled.Over over.Reset
failed_by kind = filled.Over over.Failed

-- A read into a buffer with room, which returned this.
abbrev pub filled_of : Result ℕ Error → Filled
filled_of (Ok count) = if count == 0 then filled.Over over.End else filled.Bytes count
filled_of (Err why) = failed_by (error_kind why)

-- A write that failed so. A socket that is full takes nothing now, and has not failed.
abbrev pub untaken_by : ErrorKind → Drained
untaken_by WouldBlock = drained.NothingNow
untaken_by kind = drained.Failed

-- A write of some bytes, which returned this.
abbrev pub drained_of : Result ℕ Error → Drained
drained_of (Ok count) = if count == 0 then drained.Failed else drained.Took count
drained_of (Err why) = untaken_by (error_kind why)
