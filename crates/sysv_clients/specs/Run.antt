-- What a client does (this project's programs): it talks with a server, and then shows the result.
use Rattle.std.specs.Prelude.{◌≡◌, ◌≤◌, ◌⊎◌, ⊤, ℕ, ℤ, pos, List, length, Option, Result, Ok, Err, OnOk}
use Rattle.std.specs.Io.KnownBytes.{Appends}
use Rattle.sysv_clients.specs.declared.command.Command.{Command}
use Rattle.sysv_clients.specs.declared.command.Task.{Task}
use Rattle.sysv_clients.specs.declared.fault.ClientFault.{ClientFault}
use Rattle.sysv_clients.specs.Asks.{text_of}
use Rattle.sysv_clients.specs.Faults.{fault_line}
use Rattle.sysv_clients.specs.Page.{page_text}
use Rattle.sysv_clients.specs.Dialogue.{Exchange, Converses}
use Rattle.sysv_model.specs.declared.limits.TheConstants.{BODY_ROOM}
use Rattle.sysv_model.specs.Writing.{AppendsPrefix}

-- What is shown of a dialogue that ended this way. After a fault it is only the line of the fault.
abbrev pub shown_text : Task → List Exchange → Result ⊤ ClientFault → List ℕ
shown_text task exchanges (Ok done) = page_text task exchanges
shown_text task exchanges (Err why) = fault_line why

-- The status of a dialogue that ended this way: 0, or 1 after a fault.
abbrev pub status_of : Result ⊤ ClientFault → ℤ
status_of (Ok done) = pos 0
status_of (Err why) = pos 1

-- A text is shown whole, with the status that is due; or the screen failed, a prefix of the text is
-- shown, which may be all of it, and the status is 1.
abbrev pub Shows : ℤ → ℤ → List ℕ → (shown after : Option (List ℕ)) → Type 0
Shows status due text shown after =
    ((status ≡ due) × Appends shown after text) ⊎ ((status ≡ pos 1) × AppendsPrefix shown after text)

-- The body is one that a request can carry.
abbrev pub HasShortText : Task → Type 0
HasShortText task = length (text_of task) ≤ BODY_ROOM

-- A dialogue, and what was collected of it.
abbrev pub ConversesThrough : Command → Result ⊤ ClientFault → List ℕ → (left rest taken more : Option (List ℕ)) →
    Type 0
ConversesThrough command ended page left rest taken more =
    (exchanges : List Exchange) × Converses command exchanges ended left rest taken more
    × OnOk ended (page ≡ page_text command.task exchanges)

-- What a client that ended with this status did to its reader, its writer and its screen.
pub record Runs (command : Command) (status : ℤ) (left rest taken more shown after : Option (List ℕ)) : Type 0 where
  pub exchanges : List Exchange
  pub ended : Result ⊤ ClientFault
  pub converses : Converses command exchanges ended left rest taken more
  pub shows : Shows status (status_of ended) (shown_text command.task exchanges ended) shown after
