-- How seats are stored between two calls. This project's profile.
use Rattle.std.specs.Prelude.{◌≡◌, false, []}
use Rattle.sysv_bells.specs.declared.seats.Teller.TheInside.{Inside}
use Rattle.sysv_bells.specs.declared.seats.Sleeper.TheInside as sleeping
use Rattle.sysv_bells.specs.declared.view.Stage.TheVariants.{Idle}
use Rattle.sysv_bells.specs.Rule.{is_teller}
use Rattle.sysv_bells.specs.Seats.{TellerEnd, SleeperEnd}

-- What contracts see of a stored teller, and of the sleeper.
abbrev pub teller_of : Inside → TellerEnd
teller_of s = record {
  table = s.token.table_id;
  rings = s.token.me.0.rings;
  bells = s.token.me.0.bells;
  told = s.token.me.0.told;
}

abbrev pub sleeper_of : sleeping.Inside → SleeperEnd
sleeper_of s = record {
  table = s.token.table_id;
  stage = s.token.me.0.stage;
  rings = s.token.me.0.rings;
  from = s.token.me.0.from;
  heard = s.token.me.0.heard;
  seen = s.token.me.0.seen;
  since = s.token.me.0.since;
  taken = s.token.me.0.taken;
}

-- Between two calls a teller is idle. Neither seat holds a slot.
pub record IsTellerAtRest (s : Inside) : Type 0 where
  pub no_slot : s.token.me.1 ≡ []
  pub idle : s.token.me.0.stage ≡ Idle

pub record IsSleeper (s : sleeping.Inside) : Type 0 where
  pub no_slot : s.token.me.1 ≡ []
  pub sleeps : is_teller s.token.me.0.stage ≡ false
