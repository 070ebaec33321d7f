-- The callers that a connection lets in (this project's profile).
use Rattle.std.specs.Prelude.{Bool, true, ◌==◌, ◌&&◌}
use Rattle.sysv_model.specs.declared.cred.Cred.{Cred}
use Rattle.sysv_seats.specs.declared.callers.Callers.{Callers}
use Rattle.sysv_seats.specs.declared.callers.Callers.TheVariants.{Anyone, Only}

-- The caller with these credentials is one of them: anyone, or who has this user and this group. The process
-- is whatever the caller states.
abbrev pub includes : Callers → Cred → Bool
includes Anyone cred = true
includes (Only uid gid) cred = (cred.uid == uid) && (cred.gid == gid)
