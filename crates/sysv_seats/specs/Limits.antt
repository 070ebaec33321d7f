-- The limits under which a server cuts clients off (this project's profile).
use Rattle.std.specs.Prelude.{ℕ, Bool, not, ◌==◌}
use Rattle.sysv_seats.specs.declared.limits.Limit.{Limit}
use Rattle.sysv_seats.specs.declared.limits.Limit.TheVariants.{Idle, Stall, Drain}
use Rattle.sysv_seats.specs.declared.limits.Limits.{Limits}

-- There is this limit.
abbrev pub has_limit : Limits → Limit → Bool
has_limit limits Idle = limits.idle
has_limit limits Stall = limits.stall
has_limit limits Drain = limits.drain

-- The limits of a server with these numbers of seconds, each 0 for no limit.
abbrev pub limits_for : (idle stall drain : ℕ) → Limits
limits_for idle stall drain = record { idle = not (idle == 0); stall = not (stall == 0); drain = not (drain == 0) }
