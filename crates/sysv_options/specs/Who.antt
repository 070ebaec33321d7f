-- Who a client is and how its faults are told, by its words and by where it runs (this project's programs).
use Rattle.std.specs.Prelude.{not, ◌||◌, unwrap_or, if◌then◌else◌}
use Rattle.sysv_connect.specs.declared.how.Telling.{Telling}
use Rattle.sysv_connect.specs.declared.how.Telling.TheVariants.{Line, Both, Sentence}
use Rattle.sysv_connect.specs.Telling.{has_line}
use Rattle.sysv_model.specs.declared.cred.Cred.{Cred}
use Rattle.sysv_options.specs.declared.who.TheConstants.{USUAL}
use Rattle.sysv_options.specs.declared.who.Surroundings.{Surroundings}
use Rattle.sysv_options.specs.declared.who.Who.{Who}

-- Those that its words state, and for the others the usual ones.
abbrev pub cred_by : Who → Cred → Cred
cred_by who usual = record {
  uid = unwrap_or who.uid usual.uid;
  gid = unwrap_or who.gid usual.gid;
  pid = unwrap_or who.pid usual.pid;
}

-- Those that its words state, and for the others its own, if the words or the environment want them,
-- or the usual ones.
abbrev pub stated_by : Who → Surroundings → Cred
stated_by who around = cred_by who (if who.me || around.wants_me then around.own else USUAL)

-- By sentences alone if the words or the environment want that; else by lines on a terminal, and by both
-- elsewhere.
abbrev pub told_by : Telling → Surroundings → Telling
told_by asked around =
    if not (has_line asked) || around.wants_stderr then Sentence else (if around.is_terminal then Line else Both)
