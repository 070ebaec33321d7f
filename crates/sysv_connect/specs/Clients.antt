-- What a client did over a connection (this project's programs), however it ended. The reader of the
-- connection had `left` before and has `rest` now, and the writer had `taken` and has `more`; the input
-- had `fed` and has `unfed`; the screen had `shown` and has `after`.
use Rattle.std.specs.Prelude.{◌≡◌, ◌≤◌, ◌<◌, ◌⊎◌, ⊤, ℕ, ℤ, pos, Bool, true, false, List, [], ◌∷◌, length, Option}
use Rattle.std.specs.Prelude.{Result}
use Rattle.std.specs.Prelude.{Ok, Err}
use Rattle.std.specs.Borrow.{Bor}
use Rattle.std.specs.Io.KnownBytes.{Appends, Consumes, IsAtEnd}
use Rattle.std.specs.declared.process.ExitCode.{ExitCode}
use Rattle.sysv_clients.specs.declared.clearing.Refusal.{Refusal}
use Rattle.sysv_clients.specs.declared.command.Command.{Command}
use Rattle.sysv_clients.specs.declared.command.Task.{Task}
use Rattle.sysv_clients.specs.declared.command.Task.TheVariants.{List as Table, Show, Remove, Make, Send, Receive}
use Rattle.sysv_clients.specs.declared.fault.ClientFault.{ClientFault}
use Rattle.sysv_clients.specs.declared.fault.ClientFault.TheVariants as fault
use Rattle.sysv_clients.specs.declared.holding.Unheld.{Unheld}
use Rattle.sysv_clients.specs.declared.sending.Sending.{Sending}
use Rattle.sysv_clients.specs.declared.sending.Unsent.{Unsent}
use Rattle.sysv_clients.specs.declared.stream.Receiving.{Receiving}
use Rattle.sysv_clients.specs.declared.stream.Stop.{Stop}
use Rattle.sysv_clients.specs.Asks.{no_flags}
use Rattle.sysv_clients.specs.Clearing.{ClearsAll}
use Rattle.sysv_clients.specs.Dialogue.{Converses, Exchange, asks_encoding}
use Rattle.sysv_clients.specs.Faults.{fault_line}
use Rattle.sysv_clients.specs.Holding.{HoldsAll}
use Rattle.sysv_clients.specs.Page.{page_text}
use Rattle.sysv_clients.specs.Sending.{SendsAhead, unsent_line}
use Rattle.sysv_clients.specs.Stream.{TakesAll}
use Rattle.sysv_model.specs.declared.cred.Cred.{Cred}
use Rattle.sysv_model.specs.declared.errno.Errno.TheVariants.{EAGAIN}
use Rattle.sysv_model.specs.declared.limits.TheConstants.{BODY_ROOM}
use Rattle.sysv_model.specs.Writing.{AppendsPrefix}
use Rattle.sysv_wire.specs.declared.request.Ask.TheVariants.{Get, Stat}
use Rattle.sysv_connect.specs.declared.how.How.{How}
use Rattle.sysv_connect.specs.declared.how.Telling.{Telling}
use Rattle.sysv_connect.specs.Bodies.{with_text}
use Rattle.sysv_connect.specs.Ends.{Fails, Succeeds, SucceedsIf}
use Rattle.sysv_connect.specs.declared.batches.Way.{Way}
use Rattle.sysv_connect.specs.declared.batches.Way.TheVariants.{Stream, Purge, Hold, Lines, Clear, Once}
use Rattle.sysv_connect.specs.Purge.{Purges}
use Rattle.sysv_connect.specs.Telling.{Tells, TellsUnmade}

-- A client received messages, and the program succeeds exactly if that had no fault.
abbrev pub Receives : Receiving → ExitCode → (left rest taken more shown after : Option (List ℕ)) → Type 0
Receives receiving exit left rest taken more shown after =
    (ended : Result ⊤ Stop) × TakesAll receiving ended left rest taken more shown after
    × SucceedsIf (ended ≡ Ok tt) exit

-- A client held messages until they were shown, and the program succeeds exactly if that had no fault.
abbrev pub Holds : Receiving → ExitCode → (left rest taken more shown after : Option (List ℕ)) → Type 0
Holds receiving exit left rest taken more shown after =
    (ended : Result ⊤ Unheld) × HoldsAll receiving ended left rest taken more shown after
    × SucceedsIf (ended ≡ Ok tt) exit

-- The line of the fault that ended sends: its own, or that of EAGAIN if there was no reply in time.
abbrev pub IsToldAs : Unsent → List ℕ → Type 0
IsToldAs why line =
    (line ≡ unsent_line why)
    ⊎ ((unsent_line why ≡ fault_line fault.NoReply) × (line ≡ fault_line (fault.Refused EAGAIN)))

-- What the screen took of sends that ended like this: nothing, or the line of their fault.
abbrev pub TellsSends : Telling → Result ⊤ Unsent → (shown after : Option (List ℕ)) → Type 0
TellsSends telling (Ok done) shown after = after ≡ shown
TellsSends telling (Err why) shown after =
    (line : List ℕ) × IsToldAs why line × Tells telling line shown after

-- A client sent the messages that the lines of its input state, and the program succeeds exactly if that
-- had no fault.
abbrev pub SendsLines : Sending → Telling → ExitCode → (left rest taken more fed unfed shown after : Option (List ℕ)) →
    Type 0
SendsLines sending telling exit left rest taken more fed unfed shown after =
    (ended : Result ⊤ Unsent) × SendsAhead sending ended left rest taken more fed unfed
    × SucceedsIf (ended ≡ Ok tt) exit × TellsSends telling ended shown after

-- What the screen took of removals that ended like this: nothing, or the line of their fault.
abbrev pub TellsRemovals : Telling → Result ⊤ ClientFault → (shown after : Option (List ℕ)) → Type 0
TellsRemovals telling (Ok done) shown after = after ≡ shown
TellsRemovals telling (Err why) shown after = Tells telling (fault_line why) shown after

-- A client removed all queues, and the program succeeds exactly if that had no fault and no removal was
-- refused.
abbrev pub Clears : Cred → Telling → ExitCode → (left rest taken more shown after : Option (List ℕ)) → Type 0
Clears cred telling exit left rest taken more shown after =
    (ended : Result ⊤ ClientFault) × (refusals : List Refusal) × ClearsAll cred ended left rest taken more [] refusals
    × SucceedsIf ((ended ≡ Ok tt) × (refusals ≡ [])) exit × TellsRemovals telling ended shown after

-- The requests by which a client looks at the queue of a key: a msgget that makes no queue, and a msgctl
-- with IPC_STAT of an identifier.
abbrev pub look_text : (key found : ℤ) → List ℕ
look_text key found = asks_encoding (Get key no_flags ∷ Stat found ∷ []) []

-- After its dialogue a `snd` looked at its queue: all of these requests were written, or a prefix of them.
-- No other task does.
abbrev pub LooksBack : Task → (taken more : Option (List ℕ)) → Type 0
LooksBack (Send key text mtype nowait) taken more = (found : ℤ) × AppendsPrefix taken more (look_text key found)
LooksBack (Table format) taken more = ⊥
LooksBack (Show id) taken more = ⊥
LooksBack (Remove target) taken more = ⊥
LooksBack (Make making) taken more = ⊥
LooksBack (Receive receipt) taken more = ⊥

-- Nothing was requested or read after a dialogue; or the task was a `snd` that looked at its queue.
abbrev pub IsLeft : Task → (left rest taken more : Option (List ℕ)) → Type 0
IsLeft task left rest taken more = ((rest ≡ left) × (more ≡ taken)) ⊎ LooksBack task taken more

-- What a failed client shows: the line of a fault or the page, or a prefix of it, which may be nothing.
abbrev pub ShowsPart : List ℕ → (shown after : Option (List ℕ)) → Type 0
ShowsPart page shown after =
    AppendsPrefix shown after page ⊎ ((why : ClientFault) × AppendsPrefix shown after (fault_line why))

-- How the program ends after a dialogue that had this end: it succeeds if the dialogue had no fault and
-- the page was shown whole, and else it fails.
abbrev pub EndsRun : ExitCode → Task → Result ⊤ ClientFault → List ℕ →
    (left rest taken more shown after : Option (List ℕ)) → Type 0
EndsRun exit task ended page left rest taken more shown after =
    (Succeeds exit × (ended ≡ Ok tt) × (rest ≡ left) × (more ≡ taken) × Appends shown after page)
    ⊎ (Fails exit × IsLeft task left rest taken more × ShowsPart page shown after)

-- How the program ends after a client's page and its status: it succeeds if the status is 0 and the page
-- was shown whole, and else it fails.
abbrev pub EndsPage : ExitCode → Task → ℤ → List ℕ → (left rest taken more shown after : Option (List ℕ)) → Type 0
EndsPage exit task status page left rest taken more shown after =
    (Succeeds exit × (status ≡ pos 0) × (rest ≡ left) × (more ≡ taken) × Appends shown after page)
    ⊎ (Fails exit × IsLeft task left rest taken more × ShowsPart page shown after)

-- A client ran this command, and the program ended like this.
pub record HasRun (command : Command) (exit : ExitCode) (left rest taken more shown after : Option (List ℕ)) :
    Type 0 where
  pub exchanges : List Exchange
  pub ended : Result ⊤ ClientFault
  pub unread : Option (List ℕ)  -- what the reader had left after the dialogue
  pub written : Option (List ℕ)  -- what the writer had taken
  pub converses : Converses command exchanges ended left unread taken written
  pub ends : EndsRun exit command.task ended (page_text command.task exchanges) unread rest written more shown after

-- The body is all bytes that an input has left, or the first of them that it may have.
abbrev pub IsBodyOf : List ℕ → (fed unfed : Option (List ℕ)) → Type 0
IsBodyOf body fed unfed =
    Consumes fed unfed body × (length body ≤ BODY_ROOM) × (length body < BODY_ROOM → IsAtEnd unfed)

-- A client ran the task with a body from its input, if it is a `snd`.
abbrev pub HasRunFrom : Cred → Task → ExitCode → (left rest taken more fed unfed shown after : Option (List ℕ)) → Type 0
HasRunFrom cred task exit left rest taken more fed unfed shown after =
    (body : Bor (List ℕ)) × IsBodyOf body.now fed unfed
    × HasRun (record { cred = cred; task = with_text task body }) exit left rest taken more shown after

-- The first if the flag is on, and otherwise the second.
abbrev pub ByFlag : Bool → Type 0 → Type 0 → Type 0
ByFlag true First Second = First
ByFlag false First Second = Second

-- A client ran the task, with a body from its input if it is to have that.
abbrev pub IsRun : Cred → Task → How → ExitCode → (left rest taken more fed unfed shown after : Option (List ℕ)) →
    Type 0
IsRun cred task how exit left rest taken more fed unfed shown after = ByFlag how.from_input
    (HasRunFrom cred task exit left rest taken more fed unfed shown after)
    ((unfed ≡ fed) × HasRun (record { cred = cred; task = task }) exit left rest taken more shown after)

-- A command was done in this way, and the program ended like this.
abbrev pub IsDone : Way → Cred → Task → How → ExitCode →
    (left rest taken more fed unfed shown after : Option (List ℕ)) → Type 0
IsDone (Stream receiving) cred task how exit left rest taken more fed unfed shown after =
    Receives receiving exit left rest taken more shown after × (unfed ≡ fed)
IsDone (Purge receiving) cred task how exit left rest taken more fed unfed shown after =
    Purges receiving how.telling exit left rest taken more shown after × (unfed ≡ fed)
IsDone (Hold receiving) cred task how exit left rest taken more fed unfed shown after =
    Holds receiving exit left rest taken more shown after × (unfed ≡ fed)
IsDone (Lines sending) cred task how exit left rest taken more fed unfed shown after =
    SendsLines sending how.telling exit left rest taken more fed unfed shown after
IsDone Clear cred task how exit left rest taken more fed unfed shown after =
    Clears cred how.telling exit left rest taken more shown after × (unfed ≡ fed)
IsDone Once cred task how exit left rest taken more fed unfed shown after =
    IsRun cred task how exit left rest taken more fed unfed shown after

-- What the screen took if there was no connection: nothing if it takes messages, and else the line of a fault.
abbrev pub ShowsUnmade : Way → Telling → (refused : Bool) → (shown after : Option (List ℕ)) → Type 0
ShowsUnmade (Stream receiving) telling refused shown after = after ≡ shown
ShowsUnmade (Hold receiving) telling refused shown after = after ≡ shown
ShowsUnmade (Purge receiving) telling refused shown after = TellsUnmade telling refused shown after
ShowsUnmade (Lines sending) telling refused shown after = TellsUnmade telling refused shown after
ShowsUnmade Clear telling refused shown after = TellsUnmade telling refused shown after
ShowsUnmade Once telling refused shown after = TellsUnmade telling refused shown after

-- There was no connection, and the program failed. It has shown only that, and has read its input only for
-- the body of a `snd`.
abbrev pub IsUnmade : Way → How → ExitCode → (refused : Bool) → (fed unfed shown after : Option (List ℕ)) → Type 0
IsUnmade way how exit refused fed unfed shown after =
    Fails exit × ShowsUnmade way how.telling refused shown after × ByFlag how.from_input ⊤ (unfed ≡ fed)
