-- How a command shows the results of its requests (this project's programs).
use Rattle.std.specs.Prelude.{Bool, true, false, None, Some}
use Rattle.sysv_clients.specs.declared.command.Form.TheVariants.{Line}
use Rattle.sysv_clients.specs.declared.command.Format.TheVariants.{Table as AsTable, Json}
use Rattle.sysv_clients.specs.declared.command.Receipt.{Receipt}
use Rattle.sysv_clients.specs.declared.command.Task.{Task}
use Rattle.sysv_clients.specs.declared.command.Task.TheVariants.{List as Table, Show, Remove, Make, Send, Receive}
use Rattle.sysv_clients.specs.declared.style.Style.{Style}
use Rattle.sysv_wire.specs.declared.reply.ReplyContent.{ReplyContent}
use Rattle.sysv_wire.specs.declared.reply.ReplyContent.TheVariants as content

-- The style of the table.
abbrev pub plain : Style
plain = record { json = false; shows_id = false; shows_type = false; form = Line; size = 0 }

-- The style of a rcv.
abbrev pub style_of_receipt : Receipt → Style
style_of_receipt receipt = record {
  json = false;
  shows_id = false;
  shows_type = receipt.show_type;
  form = receipt.form;
  size = receipt.size;
}

-- The style of a task: ipcs may show JSON, ipcmk shows an identifier.
abbrev pub style_of : Task → Style
style_of (Table AsTable) = plain
style_of (Table Json) = record { json = true; shows_id = false; shows_type = false; form = Line; size = 0 }
style_of (Show id) = plain
style_of (Remove target) = plain
style_of (Make making) = record { json = false; shows_id = true; shows_type = false; form = Line; size = 0 }
style_of (Send key text mtype nowait) = plain
style_of (Receive receipt) = style_of_receipt receipt

-- What is shown of this result takes memory as it comes: a queue, its attributes, or its
-- identifier if that is shown.
abbrev pub grows : Style → ReplyContent → Bool
grows style (content.Row (Some row)) = true
grows style (content.Stat stat) = true
grows style (content.Get id) = style.shows_id
grows style (content.Row None) = false
grows style (content.Rcv mtype) = false
grows style (content.Refused error) = false
grows style content.Hello = false
grows style (content.HelloSlots slots) = false
grows style content.Snd = false
grows style content.Set = false
grows style content.Rm = false
grows style content.Done = false
grows style content.Back = false
grows style (content.Hold mtype) = false
