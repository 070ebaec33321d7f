-- How a seat is stored between two calls: it holds no slot of the table, it is cleared for no
-- addition, and the number stored in it is its allowance, which is positive and at most the whole.
-- This project's profile.
use Rattle.std.specs.Prelude.{◌≡◌, ◌^◌, ◌<◌, ◌≤◌, false, []}
use Rattle.sysv_eventcount.specs.declared.seat.Seat.TheInside.{Inside}
use Rattle.sysv_eventcount.specs.Counter.{Holding}

-- What contracts see of a stored seat.
abbrev pub held : Inside → Holding
held s = record {
  counter = record { table = s.token.table_id; first = s.token.me.0.first };
  seen = s.token.me.0.seen;
  own = s.token.me.0.own;
  allowance = s.token.me.0.allowance;
}

-- The condition of a seat between two calls.
pub record IsAtRest (s : Inside) : Type 0 where
  pub no_slot : s.token.me.1 ≡ []
  pub not_cleared : s.token.me.0.cleared ≡ false
  pub carried : s.allowance ≡ s.token.me.0.allowance
  pub unspent : 0 < s.token.me.0.allowance
  pub within : s.token.me.0.allowance ≤ 2 ^ 61
