-- What the reply to one reservation shows of another one.
use Rattle.std.proofs.Common.{◌+◌, ◌/◌, ◌<◌, ◌≤◌, ℕ, arith}
use Rattle.sysv_pool.specs.Alike.{LongerFindsTooFew}
use Rattle.sysv_pool.specs.State.{state_of}

-- A longer body needs no fewer blocks of 64 bytes.
few_for_more : (free size longer : ℕ) → size ≤ longer → free < (size + 63) / 64 → free < (longer + 63) / 64
few_for_more free size longer less few = omega (arith, less, few)

pub longer_finds_too_few : LongerFindsTooFew
longer_finds_too_few pool h size longer less few = few_for_more (state_of pool h).free size longer less few
