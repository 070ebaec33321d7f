-- How long a client waits for a reply (this project's programs).
use Rattle.std.specs.Prelude.{ℕ, Bool, true, false, not, Option, None, Some, if◌then◌else◌}
use Rattle.sysv_clients.specs.declared.command.Task.{Task}
use Rattle.sysv_clients.specs.declared.command.Task.TheVariants.{List as Table, Show, Remove, Make, Send, Receive}
use Rattle.sysv_connect.specs.declared.patience.TheConstants.{REPLY_MILLIS}

-- The task has a call that may wait: for a message, or for room.
abbrev pub may_wait : Task → Bool
may_wait (Table format) = false
may_wait (Show id) = false
may_wait (Remove target) = false
may_wait (Make making) = false
may_wait (Send key text mtype nowait) = not nowait
may_wait (Receive receipt) = not receipt.nowait

-- The number of milliseconds that each reply is waited for at most, by the time of `--wait`.
abbrev pub limit_of : Task → Option ℕ → Option ℕ
limit_of task (Some time) = Some time
limit_of task None = if may_wait task then None else Some REPLY_MILLIS
