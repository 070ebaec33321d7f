-- How many clients a server serves at once, by the limit of open files (this project's programs).
use Rattle.std.specs.Prelude.{◌+◌, ◌-◌, ◌*◌, ℕ, Bool, true, false, min, max, Option, Some, None}
use Rattle.sysvmsg.specs.declared.room.TheConstants.{OWN, OF_STATS, OF_WORKER}

-- The number of descriptors that a server uses to show its state, if it does.
abbrev pub for_stats : Bool → ℕ
for_stats true = OF_STATS
for_stats false = 0

-- The number of places of a server with this number of workers and of sockets that is to have this number of places
-- at most, under this limit of open files: just that number, unless there are fewer descriptors beside those of
-- the server, its workers and its sockets and those with which it shows its state, and at least 1. If the limit is
-- not known, it is just that number.
abbrev pub places_within : Option ℕ → (has_stats : Bool) → (workers sockets most : ℕ) → ℕ
places_within None has_stats workers sockets most = most
places_within (Some limit) has_stats workers sockets most =
    min (max (limit - (OWN + for_stats has_stats + (sockets - 1) + OF_WORKER * workers)) 1) most
