-- A save (this project's programs): it requests the identifier of a key, or the row of each slot; then the attributes
-- of each queue that it finds there, and its messages, each by a hold. Its requests are of version 3. A message is done
-- only after its line was written whole; otherwise the server sends it to its queue again.
use Rattle.std.specs.Prelude.{◌≡◌, ◌≢◌, ◌⊎◌, ⊤, ℕ, zero, suc, ℤ, ◌+◌, ◌-◌, ◌^◌, Bool, true, false, List, [], ◌∷◌}
use Rattle.std.specs.Prelude.{◌++◌, Option, None, Some, Result, Ok, Err, flat_map, fold, slice_get}
use Rattle.std.specs.Io.KnownBytes.{Appends}
use Rattle.sysv_clients.specs.declared.clearing.Refusal.{Refusal}
use Rattle.sysv_clients.specs.declared.fault.ClientFault.{ClientFault}
use Rattle.sysv_clients.specs.declared.fault.ClientFault.TheVariants as fault
use Rattle.sysv_clients.specs.declared.holding.Unheld.{Unheld}
use Rattle.sysv_clients.specs.declared.holding.Unheld.TheVariants.{Fault, Screen, Undone}
use Rattle.sysv_clients.specs.declared.saving.Saving.{Saving}
use Rattle.sysv_clients.specs.declared.saving.Stage.{Stage}
use Rattle.sysv_clients.specs.declared.saving.Step.{Step}
use Rattle.sysv_clients.specs.declared.saving.Step.TheVariants as step
use Rattle.sysv_clients.specs.Asks.{flags_to_receive, no_flags, row_asks}
use Rattle.sysv_clients.specs.Calls.{BreaksPlanIn, Call, IsCallDoneIn, MadeIn, Plan}
use Rattle.sysv_clients.specs.Clearing.{id_of_row, refusal_by}
use Rattle.sysv_clients.specs.Dialogue.{slots_after}
use Rattle.sysv_clients.specs.Holding.{is_of_output}
use Rattle.sysv_clients.specs.Object.{object_line}
use Rattle.sysv_clients.specs.Saved.{format_line, queue_text}
use Rattle.sysv_model.specs.declared.errno.Errno.{Errno}
use Rattle.sysv_model.specs.declared.errno.Errno.TheVariants as error
use Rattle.sysv_model.specs.declared.flags.Flags.{Flags}
use Rattle.sysv_model.specs.declared.limits.TheConstants.{MESSAGE_BYTES}
use Rattle.sysv_model.specs.Writing.{AppendsPrefix}
use Rattle.sysv_wire.specs.declared.frame.Version.TheVariants.{Three}
use Rattle.sysv_wire.specs.declared.reply.ReplyContent.{ReplyContent}
use Rattle.sysv_wire.specs.declared.reply.ReplyContent.TheVariants as content
use Rattle.sysv_wire.specs.declared.request.Ask.{Ask}
use Rattle.sysv_wire.specs.declared.request.Ask.TheVariants.{Hello, Get, Snd, Rcv, Stat, Set, Rm, Row, Hold, Done, Back}

-- The request that finds the queue of a key.
abbrev pub key_ask : ℤ → Ask
key_ask key = Get key no_flags

-- The request that holds the first of the messages of the queue with this identifier, if it has one.
abbrev pub first_ask : Saving → ℤ → Ask
first_ask saving id = Hold id MESSAGE_BYTES saving.mtype (flags_to_receive true false saving.except) 0

-- The save before the first row of this number of slots, at this step.
abbrev pub stage_at : ℕ → Step → Stage
stage_at slots step = record { slots = slots; slot = 0; step = step; owed = 2 ^ 64 - 1 }

-- The save after the reply to the hello, which states the number of slots. With a key it requests no row.
abbrev pub begin : (key : Option ℤ) → (slots : ℕ) → Stage
begin (Some key) slots = stage_at 0 (step.Find key)
begin None slots = stage_at slots step.Row

abbrev pub begun : Saving → ReplyContent → Stage
begun saving answer = begin saving.key (slots_after 0 answer)

-- What is requested after the search for a queue: its attributes, if it was found.
abbrev pub after_find : ReplyContent → Step
after_find (content.Get id) = step.Stat id
after_find (content.Refused why) = step.Row
after_find (content.Row row) = step.Row
after_find content.Hello = step.Row
after_find (content.HelloSlots slots) = step.Row
after_find content.Snd = step.Row
after_find (content.Rcv mtype) = step.Row
after_find (content.Stat stat) = step.Row
after_find content.Set = step.Row
after_find content.Rm = step.Row
after_find content.Done = step.Row
after_find content.Back = step.Row
after_find (content.Hold mtype) = step.Row

-- What is requested of a queue after its attributes: its messages, if they are the reply.
abbrev pub after_stat : ℤ → ReplyContent → Step
after_stat id (content.Stat stat) = step.Hold id
after_stat id (content.Refused why) = step.Row
after_stat id (content.Row row) = step.Row
after_stat id content.Hello = step.Row
after_stat id (content.HelloSlots slots) = step.Row
after_stat id (content.Get got) = step.Row
after_stat id content.Snd = step.Row
after_stat id (content.Rcv mtype) = step.Row
after_stat id content.Set = step.Row
after_stat id content.Rm = step.Row
after_stat id content.Done = step.Row
after_stat id content.Back = step.Row
after_stat id (content.Hold mtype) = step.Row

-- What is requested after a hold: its done, if it holds a message.
abbrev pub after_hold : ℤ → ReplyContent → Step
after_hold id (content.Hold mtype) = step.Done id
after_hold id (content.Refused why) = step.Row
after_hold id (content.Row row) = step.Row
after_hold id content.Hello = step.Row
after_hold id (content.HelloSlots slots) = step.Row
after_hold id (content.Get got) = step.Row
after_hold id content.Snd = step.Row
after_hold id (content.Rcv mtype) = step.Row
after_hold id (content.Stat stat) = step.Row
after_hold id content.Set = step.Row
after_hold id content.Rm = step.Row
after_hold id content.Done = step.Row
after_hold id content.Back = step.Row

-- What is requested after a row: the attributes of its queue, if it has one.
abbrev pub after_row : Option ℤ → Step
after_row (Some id) = step.Stat id
after_row None = step.Row

-- The save after one more reply.
abbrev pub move : (slots slot owed : ℕ) → Step → ReplyContent → Stage
move slots slot owed (step.Find key) answer =
    record { slots = slots; slot = slot; step = after_find answer; owed = owed }
move slots slot owed step.Row answer =
    record { slots = slots; slot = slot + 1; step = after_row (id_of_row answer); owed = owed }
move slots slot owed (step.Stat id) answer =
    record { slots = slots; slot = slot; step = after_stat id answer; owed = owed }
move slots slot owed (step.Hold id) answer =
    record { slots = slots; slot = slot; step = after_hold id answer; owed = owed - 1 }
move slots slot owed (step.Done id) answer = record { slots = slots; slot = slot; step = step.Hold id; owed = owed }

abbrev pub moved : Stage → ReplyContent → Stage
moved stage answer = move stage.slots stage.slot stage.owed stage.step answer

-- What is requested next. Nothing after all slots, or after 2^64 - 1 holds.
abbrev pub ask_next : Saving → (slots slot owed : ℕ) → Step → Option Ask
ask_next saving slots slot owed (step.Find key) = Some (key_ask key)
ask_next saving slots slot owed step.Row = slice_get (row_asks slots) slot
ask_next saving slots slot owed (step.Stat id) = Some (Stat id)
ask_next saving slots slot zero (step.Hold id) = None
ask_next saving slots slot (suc owed) (step.Hold id) = Some (first_ask saving id)
ask_next saving slots slot owed (step.Done id) = Some Done

abbrev pub saving_ask : Saving → Stage → Option Ask
saving_ask saving stage = ask_next saving stage.slots stage.slot stage.owed stage.step

-- What is requested after these calls.
abbrev pub saving_plan : Saving → Plan
saving_plan saving [] = Some (Hello saving.cred)
saving_plan saving (first ∷ more) =
    saving_ask saving (fold (λ stage call. moved stage call.answer) (begun saving first.answer) more)

-- The request is for the attributes of the queue with this identifier, or for a message of it.
abbrev pub IsOfQueue : ℤ → Ask → Type 0
IsOfQueue id ask =
    (ask ≡ Stat id)
    ⊎ ((size : ℕ) × (mtype : ℤ) × (flags : Flags) × (seconds : ℕ) × (ask ≡ Hold id size mtype flags seconds))

-- The request of a call was done, or it is one of a queue that the server refused.
abbrev pub IsTried : Call → Type 0
IsTried call = IsCallDoneIn Three call
    ⊎ ((id : ℤ) × (why : Errno) × IsOfQueue id call.ask × (call.answer ≡ content.Refused why) × (call.given ≡ []))

-- What is written of a call: the format after the hello, the line of a queue, or that of a message.
abbrev pub text_of_call : Ask → ReplyContent → List ℕ → List ℕ
text_of_call (Hello cred) answer given = format_line
text_of_call (Stat id) answer given = stat_text answer
  where
    stat_text : ReplyContent → List ℕ
    stat_text (content.Stat stat) = queue_text id stat
    stat_text (content.Refused why) = []
    stat_text (content.Row row) = []
    stat_text content.Hello = []
    stat_text (content.HelloSlots slots) = []
    stat_text (content.Get got) = []
    stat_text content.Snd = []
    stat_text (content.Rcv mtype) = []
    stat_text content.Set = []
    stat_text content.Rm = []
    stat_text content.Done = []
    stat_text content.Back = []
    stat_text (content.Hold mtype) = []
text_of_call (Hold id size mtype flags seconds) answer given = hold_text answer
  where
    hold_text : ReplyContent → List ℕ
    hold_text (content.Hold held) = object_line held given
    hold_text (content.Stat stat) = []
    hold_text (content.Refused why) = []
    hold_text (content.Row row) = []
    hold_text content.Hello = []
    hold_text (content.HelloSlots slots) = []
    hold_text (content.Get got) = []
    hold_text content.Snd = []
    hold_text (content.Rcv had) = []
    hold_text content.Set = []
    hold_text content.Rm = []
    hold_text content.Done = []
    hold_text content.Back = []
text_of_call (Get key flags) answer given = []
text_of_call (Snd id mtype flags) answer given = []
text_of_call (Rcv id size mtype flags) answer given = []
text_of_call (Set id to) answer given = []
text_of_call (Rm id) answer given = []
text_of_call (Row slot) answer given = []
text_of_call Done answer given = []
text_of_call Back answer given = []

abbrev pub saved_by : Call → List ℕ
saved_by call = text_of_call call.ask call.answer call.given

-- What is written of these calls, in order.
abbrev pub saved_text : List Call → List ℕ
saved_text calls = flat_map saved_by calls

-- What is reported of a refusal of a hold: nothing if the queue has no message or is gone.
abbrev pub hold_refusal : ℤ → Errno → List Refusal
hold_refusal id error.ENOMSG = []
hold_refusal id error.EPERM = refusal_by id error.EPERM
hold_refusal id error.ENOENT = refusal_by id error.ENOENT
hold_refusal id error.E2BIG = refusal_by id error.E2BIG
hold_refusal id error.EAGAIN = refusal_by id error.EAGAIN
hold_refusal id error.EACCES = refusal_by id error.EACCES
hold_refusal id error.EEXIST = refusal_by id error.EEXIST
hold_refusal id error.EINVAL = refusal_by id error.EINVAL
hold_refusal id error.ENOSPC = refusal_by id error.ENOSPC
hold_refusal id error.EIDRM = refusal_by id error.EIDRM
hold_refusal id error.EOVERFLOW = refusal_by id error.EOVERFLOW

-- What is reported of a request of a queue that was refused with this error.
abbrev pub refusal_of : Ask → Errno → List Refusal
refusal_of (Stat id) why = refusal_by id why
refusal_of (Hold id size mtype flags seconds) why = hold_refusal id why
refusal_of (Hello cred) why = []
refusal_of (Get key flags) why = []
refusal_of (Snd id mtype flags) why = []
refusal_of (Rcv id size mtype flags) why = []
refusal_of (Set id to) why = []
refusal_of (Rm id) why = []
refusal_of (Row slot) why = []
refusal_of Done why = []
refusal_of Back why = []

-- What is reported of a request with this result.
abbrev pub reported_by : Ask → ReplyContent → List Refusal
reported_by ask (content.Refused why) = refusal_of ask why
reported_by ask (content.Row row) = []
reported_by ask content.Hello = []
reported_by ask (content.HelloSlots slots) = []
reported_by ask (content.Get got) = []
reported_by ask content.Snd = []
reported_by ask (content.Rcv mtype) = []
reported_by ask (content.Stat stat) = []
reported_by ask content.Set = []
reported_by ask content.Rm = []
reported_by ask content.Done = []
reported_by ask content.Back = []
reported_by ask (content.Hold mtype) = []

-- What is reported of these calls, in order.
abbrev pub reports_of : List Call → List Refusal
reports_of calls = flat_map (λ call. reported_by call.ask call.answer) calls

-- What became of a request with this outcome, and the refusals that were reported. A request of a queue that
-- was refused has an answer too. Memory is refused only for a report.
abbrev pub Tries : Ask → Result ReplyContent ClientFault → Result ReplyContent Unheld → (before after : List Refusal) →
    Type 0
Tries ask outcome (Ok answer) before after =
    ((outcome ≡ Ok answer) × (after ≡ before))
    ⊎ ((id : ℤ) × (why : Errno) × IsOfQueue id ask × (outcome ≡ Err (fault.Refused why))
    × (answer ≡ content.Refused why) × (after ≡ before ++ refusal_of ask why))
Tries ask outcome (Err (Undone why)) before after = (ask ≡ Done) × (outcome ≡ Err why) × (after ≡ before)
Tries ask outcome (Err (Fault why)) before after =
    ((outcome ≡ Err why) × (after ≡ before))
    ⊎ ((id : ℤ) × (refused : Errno) × IsOfQueue id ask × (outcome ≡ Err (fault.Refused refused))
    × (why ≡ fault.NoMemory))
Tries ask outcome (Err (Screen unshown)) before after = ⊥

-- The next request ends the save, and all lines before it were written.
abbrev pub BreaksSave : Saving → List Call → ClientFault → (left rest taken more shown after : Option (List ℕ)) → Type 0
BreaksSave saving calls why left rest taken more shown after =
    BreaksPlanIn Three (saving_plan saving) calls [] why left rest taken more
    × Appends shown after (saved_text calls)

-- The screen failed at the line of the last call: it has a prefix of it, or all of it and could not flush or sync it.
-- Nothing was requested or read after that call, so a message that it holds goes back to its queue.
pub record FailsAtLine (calls : List Call) (left rest taken more shown after : Option (List ℕ)) : Type 0 where
  pub before : List Call
  pub last : Call
  pub split : calls ≡ before ++ last ∷ []
  pub mid : Option (List ℕ)  -- what the screen had taken of the calls before
  pub shows : Appends shown mid (saved_text before)
  pub line : saved_by last ≢ []
  pub part : AppendsPrefix mid after (saved_by last)
  pub read : rest ≡ left
  pub wrote : more ≡ taken

-- Memory was refused: before the first request, or for the report of the refusal that was read last. All lines before
-- were written.
abbrev pub LacksMemory : List Call → (left rest taken more shown after : Option (List ℕ)) → Type 0
LacksMemory calls left rest taken more shown after =
    (rest ≡ left) × (more ≡ taken) × Appends shown after (saved_text calls)

-- How a save ends after these calls: all requests were made; or the next one ends it; or the screen failed; or a
-- done ends it, whose message was written; or memory was refused.
abbrev pub EndsSave : Saving → Result ⊤ Unheld → List Call → (left rest taken more shown after : Option (List ℕ)) →
    Type 0
EndsSave saving (Ok done) calls left rest taken more shown after =
    (saving_plan saving calls ≡ None) × (rest ≡ left) × (more ≡ taken) × Appends shown after (saved_text calls)
EndsSave saving (Err (Screen unshown)) calls left rest taken more shown after =
    FailsAtLine calls left rest taken more shown after
EndsSave saving (Err (Undone why)) calls left rest taken more shown after =
    (saving_plan saving calls ≡ Some Done) × BreaksSave saving calls why left rest taken more shown after
EndsSave saving (Err (Fault (fault.Refused error))) calls left rest taken more shown after =
    BreaksSave saving calls (fault.Refused error) left rest taken more shown after
EndsSave saving (Err (Fault fault.NoReply)) calls left rest taken more shown after =
    BreaksSave saving calls fault.NoReply left rest taken more shown after
EndsSave saving (Err (Fault fault.NoMemory)) calls left rest taken more shown after =
    LacksMemory calls left rest taken more shown after

-- What was reported by the end. If memory was refused, it lacks what memory was wanted for.
abbrev pub ReportsAll : Result ⊤ Unheld → List Refusal → (before after : List Refusal) → Type 0
ReportsAll (Err (Fault fault.NoMemory)) refusals before after = ⊤
ReportsAll (Err (Fault fault.NoReply)) refusals before after = after ≡ before ++ refusals
ReportsAll (Err (Fault (fault.Refused why))) refusals before after = after ≡ before ++ refusals
ReportsAll (Err (Screen unshown)) refusals before after = after ≡ before ++ refusals
ReportsAll (Err (Undone why)) refusals before after = after ≡ before ++ refusals
ReportsAll (Ok done) refusals before after = after ≡ before ++ refusals

-- A save that ended this way. Each request is the next one of the plan. What was read is the replies, and then what
-- ended it. What is on the screen is the lines of these calls, in order, so each message that is done was written whole
-- before its done was requested.
pub record SavesAll (saving : Saving) (ended : Result ⊤ Unheld) (left rest taken more shown after : Option (List ℕ))
    (before reported : List Refusal) : Type 0 where
  pub calls : List Call
  pub unread : Option (List ℕ)  -- what the reader had left after these calls
  pub written : Option (List ℕ)  -- what the writer had taken
  pub made : MadeIn Three IsTried (saving_plan saving) calls left unread taken written
  pub ends : EndsSave saving ended calls unread rest written more shown after
  pub reports : ReportsAll ended (reports_of calls) before reported

-- ---- what is synced

-- What the screen has is synced after this text, which was written and synced, if it is to be. After no text it is if
-- it was before.
abbrev pub SyncsText : Bool → (text : List ℕ) → (had synced shown after : Option (List ℕ)) → Type 0
SyncsText true [] had synced shown after = had ≡ shown → synced ≡ after
SyncsText true (byte ∷ more) had synced shown after = synced ≡ after
SyncsText false text had synced shown after = ⊤

-- Nothing was written, or all that was is synced, if it is to be and the screen did not fail. A save may end at each of
-- its requests. So a message is synced before its done is requested, and if that fails then no done is requested.
abbrev pub SyncsAll : Saving → Result ⊤ Unheld → (shown after synced : Option (List ℕ)) → Type 0
SyncsAll saving ended shown after synced =
    saving.syncs ≡ true → is_of_output ended ≡ false → (after ≡ shown) ⊎ (synced ≡ after)
