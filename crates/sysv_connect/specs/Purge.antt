-- A rcv that empties a queue (this project's programs): it takes messages until there is none, shows none,
-- and shows how many it took.
use Rattle.std.specs.Prelude.{◌≡◌, ◌⊎◌, ⊤, ℕ, ◌-◌, ◌+◌, ◌^◌, true, false, List, [], ◌∷◌, ◌++◌, length, Option, Some}
use Rattle.std.specs.Prelude.{Result, Ok, Err}
use Rattle.std.specs.Fmt.{decimal}
use Rattle.std.specs.Io.KnownBytes.{Appends}
use Rattle.std.specs.declared.process.ExitCode.{ExitCode}
use Rattle.sysv_clients.specs.declared.command.Form.TheVariants.{Line}
use Rattle.sysv_clients.specs.declared.command.Receipt.{Receipt}
use Rattle.sysv_clients.specs.declared.fault.ClientFault.TheVariants.{NoMemory, Refused}
use Rattle.sysv_clients.specs.declared.stream.Receiving.{Receiving}
use Rattle.sysv_clients.specs.declared.stream.Stop.{Stop}
use Rattle.sysv_clients.specs.declared.stream.Stop.TheVariants.{Fault, Screen}
use Rattle.sysv_clients.specs.Faults.{fault_line}
use Rattle.sysv_clients.specs.Stream.{TakesAll}
use Rattle.sysv_model.specs.declared.cred.Cred.{Cred}
use Rattle.sysv_model.specs.declared.errno.Errno.TheVariants.{ENOMSG}
use Rattle.sysv_model.specs.Writing.{AppendsPrefix}
use Rattle.sysv_connect.specs.declared.how.Telling.{Telling}
use Rattle.sysv_connect.specs.Ends.{Fails, Succeeds}
use Rattle.sysv_connect.specs.Telling.{Tells}

-- The receives that empty the queue of a receipt. None waits, and none gets a byte of a body: what a session
-- would show of each message is an LF.
abbrev pub purging_of : Cred → Receipt → Receiving
purging_of cred receipt =
    record {
      cred = cred;
      receipt = record receipt { size = 0; nowait = true; noerror = true; show_type = false; form = Line };
      count = 2 ^ 64 - 1;
      ahead = 1;
    }

-- A session ended because the queue had no more such message, or after all receives that one may make.
abbrev pub IsEmptied : Result ⊤ Stop → Type 0
IsEmptied ended = (ended ≡ Ok tt) ⊎ (ended ≡ Err (Fault (Refused ENOMSG)))

-- The line that shows a number.
abbrev pub count_line : ℕ → List ℕ
count_line count = decimal count ++ 10 ∷ []

-- A number was shown and the program succeeds; or the program fails, and a prefix of its line was shown, which
-- may be nothing, or memory was refused for it and that was told.
abbrev pub ShowsCount : Telling → ExitCode → ℕ → (shown after : Option (List ℕ)) → Type 0
ShowsCount telling exit count shown after =
    (Succeeds exit × Appends shown after (count_line count))
    ⊎ (Fails exit × AppendsPrefix shown after (count_line count))
    ⊎ (Fails exit × Tells telling (fault_line NoMemory) shown after)

-- The line of the fault that ended a session. A session lacks memory if it cannot keep the LFs.
abbrev pub stop_line : Stop → List ℕ
stop_line (Fault why) = fault_line why
stop_line (Screen unshown) = fault_line NoMemory

-- How the program ends after a session that took this number of messages: with their number if the queue was
-- emptied, and else it fails and tells the fault.
abbrev pub EndsPurge : Telling → ExitCode → Result ⊤ Stop → ℕ → (shown after : Option (List ℕ)) → Type 0
EndsPurge telling exit ended count shown after =
    (IsEmptied ended × ShowsCount telling exit count shown after)
    ⊎ (Fails exit × (stop : Stop) × (ended ≡ Err stop) × Tells telling (stop_line stop) shown after)

-- A client emptied a queue, and the program ended like this. There is an LF for each message that it took.
abbrev pub Purges : Receiving → Telling → ExitCode → (left rest taken more shown after : Option (List ℕ)) → Type 0
Purges receiving telling exit left rest taken more shown after =
    (ended : Result ⊤ Stop) × (marks : List ℕ) × TakesAll receiving ended left rest taken more (Some []) (Some marks)
    × EndsPurge telling exit ended (length marks) shown after
