-- What an input makes of a command, considered alone (this project's programs): the replies in it,
-- and how a dialogue that reads them ends. A stream may fail with any input; that is not considered
-- here.
use Rattle.std.specs.Prelude.{◌≡◌, ◌⊎◌, ⊤, ℕ, ℤ, pos, List, ◌++◌, Option, None, Some, Result, Ok, Err}
use Rattle.sysv_clients.specs.declared.command.Command.{Command}
use Rattle.sysv_clients.specs.declared.fault.ClientFault.{ClientFault}
use Rattle.sysv_clients.specs.declared.fault.ClientFault.TheVariants as fault
use Rattle.sysv_clients.specs.Faults.{fault_line}
use Rattle.sysv_clients.specs.Run.{Shows, shown_text, status_of}
use Rattle.sysv_clients.specs.Dialogue.{Exchange, IsOther, Conversed, answered_encoding, next_ask, reply_to}
use Rattle.sysv_wire.specs.declared.fault.Fault.{Fault}
use Rattle.sysv_wire.specs.declared.frame.Version.TheVariants.{Two}
use Rattle.sysv_wire.specs.declared.reply.ReplyContent.TheVariants.{Refused}
use Rattle.sysv_wire.specs.declared.reply.Reply.{Reply}
use Rattle.sysv_wire.specs.declared.request.Ask.{Ask}
use Rattle.sysv_wire.specs.OneAnswer.{ReplyAt}
use Rattle.sysv_model.specs.Writing.{AppendsPrefix}

-- What a reader returns is no reply to the request: none, none that can be read, or another reply.
abbrev pub IsNoReplyTo : Ask → Result (Option Reply) Fault → Type 0
IsNoReplyTo ask (Ok None) = ⊤
IsNoReplyTo ask (Ok (Some reply)) = IsOther ask reply
IsNoReplyTo ask (Err why) = ⊤

-- How the dialogue ends if this is read next.
abbrev pub EndsOn : Command → List Exchange → Result ⊤ ClientFault → List ℕ → Type 0
EndsOn command exchanges (Ok done) rest = next_ask command exchanges ≡ None
EndsOn command exchanges (Err (fault.Refused error)) rest =
    (ask : Ask) × (next_ask command exchanges ≡ Some ask) × ReplyAt Two rest (Ok (Some (reply_to ask (Refused error))))
EndsOn command exchanges (Err fault.NoReply) rest =
    (ask : Ask) × (answer : Result (Option Reply) Fault) × (next_ask command exchanges ≡ Some ask)
    × IsNoReplyTo ask answer × ReplyAt Two rest answer
EndsOn command exchanges (Err fault.NoMemory) rest = ⊥

-- The input is the replies to these exchanges, and then what ends the dialogue.
pub record Makes (command : Command) (input : List ℕ) (exchanges : List Exchange)
    (ended : Result ⊤ ClientFault) : Type 0 where
  pub conversed : Conversed command exchanges
  pub rest : List ℕ
  pub replies : input ≡ answered_encoding exchanges ++ rest
  pub ends : EndsOn command exchanges ended rest

-- The line of this fault was shown, or a prefix of it, and the status is 1.
abbrev pub ShowsFault : ClientFault → ℤ → (shown after : Option (List ℕ)) → Type 0
ShowsFault why status shown after = (status ≡ pos 1) × AppendsPrefix shown after (fault_line why)

-- What the input makes of the command was shown; or a stream failed or memory was refused, and the
-- line of that fault was shown.
abbrev pub ShowsParse : Command → List Exchange → Result ⊤ ClientFault → ℤ → (shown after : Option (List ℕ)) → Type 0
ShowsParse command exchanges ended status shown after =
    Shows status (status_of ended) (shown_text command.task exchanges ended) shown after
    ⊎ (ShowsFault fault.NoReply status shown after ⊎ ShowsFault fault.NoMemory status shown after)
