-- The body of a `snd` (this project's programs).
use Rattle.std.specs.Prelude.{ℕ, List}
use Rattle.std.specs.Borrow.{Bor}
use Rattle.sysv_clients.specs.declared.command.Task.{Task}
use Rattle.sysv_clients.specs.declared.command.Task.TheVariants.{List as Table, Show, Remove, Make, Send, Receive}

-- The task with another body, if it is a `snd`.
abbrev pub with_text : Task → Bor (List ℕ) → Task
with_text (Send key text mtype nowait) body = Send key body mtype nowait
with_text (Table format) body = Table format
with_text (Show id) body = Show id
with_text (Remove target) body = Remove target
with_text (Make making) body = Make making
with_text (Receive receipt) body = Receive receipt
