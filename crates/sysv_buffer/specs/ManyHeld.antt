-- How a seat of a `ManyBuffer` is stored between two calls: it holds no ticket and no cell. This
-- project's profile.
use Rattle.std.specs.Prelude.{◌≡◌, [], Option}
use Rattle.atomic_table.specs.declared.shared.Seat.{Seat}
use Rattle.sysv_buffer.specs.declared.many_view.Sight.{Sight}
use Rattle.sysv_buffer.specs.declared.seat.Seat.TheInside.{Inside}
use Rattle.sysv_buffer.specs.ManyEnds.{Holding}
use Rattle.sysv_buffer.specs.ManyTurns.{Waits}

module _ {T : Type 0} where
  -- What contracts see of a stored seat.
  abbrev pub held : Inside T → Holding T
  held s = record {
    buffer = record { table = s.token.table_id; room = s.token.table_id.slots };
    seen = s.token.me.0.seen;
    gone = s.token.me.0.gone;
    puts = s.token.me.0.puts;
    takes = s.token.me.0.takes;
  }

  -- The condition of a seat between two calls.
  abbrev pub IsAtRest : Inside T → Type 0
  IsAtRest s = Waits [] [] s.token.me

  -- The token of the seat h between two calls.
  pub record Rests (h : Holding T) (token : Seat (Option T) (Sight T)) : Type 0 where
    pub table : token.table_id ≡ h.buffer.table
    pub seen : token.me.0.seen ≡ h.seen
    pub gone : token.me.0.gone ≡ h.gone
    pub puts : token.me.0.puts ≡ h.puts
    pub takes : token.me.0.takes ≡ h.takes
    pub waits : Waits [] [] token.me
