-- How an end is stored between two calls: it holds no cell. This project's profile.
use Rattle.std.specs.Prelude.{◌≡◌, ◌≤◌, false, [], take, length}
use Rattle.sysv_buffer.specs.declared.ends.Producer.TheInside.{Inside as InProducer}
use Rattle.sysv_buffer.specs.declared.ends.Consumer.TheInside.{Inside as InConsumer}
use Rattle.sysv_buffer.specs.declared.view.Role.TheVariants.{Producer, Consumer}
use Rattle.sysv_buffer.specs.Ends.{Putting, Taking}

module _ {T : Type 0} where
  -- What contracts see of a stored producer's end.
  abbrev pub putting : InProducer T → Putting T
  putting e = record {
    buffer = record { table = e.token.table_id; room = e.token.table_id.slots };
    put = e.token.me.0.put;
    gone = e.token.me.0.taken;
  }

  -- The condition of a producer's end between two calls.
  pub record IsProducer (e : InProducer T) : Type 0 where
    pub role : e.token.me.0.role ≡ Producer
    pub idle : e.token.me.0.holds ≡ false
    pub no_cell : e.token.me.1 ≡ []

  -- What contracts see of a stored consumer's end.
  abbrev pub taking : InConsumer T → Taking T
  taking e = record {
    buffer = record { table = e.token.table_id; room = e.token.table_id.slots };
    taken = take e.token.me.0.taken e.token.me.0.put;
    seen = e.token.me.0.put;
  }

  -- The condition of a consumer's end between two calls.
  pub record IsConsumer (e : InConsumer T) : Type 0 where
    pub role : e.token.me.0.role ≡ Consumer
    pub idle : e.token.me.0.holds ≡ false
    pub no_cell : e.token.me.1 ≡ []
    pub known : e.token.me.0.taken ≤ length e.token.me.0.put
