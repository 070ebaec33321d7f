-- A load of a file of queues (this project's programs): it makes the queues that the lines of an input state, sets
-- their attributes, and sends their messages. Sends to one queue may be on their way together: written, and without a
-- reply.
use Rattle.std.specs.Prelude.{◌≡◌, ◌≢◌, ◌≤◌, ◌<◌, ◌⊎◌, ⊤, ℕ, ℤ, pos, ◌+◌, ◌-◌, ◌^◌, Bool, true, false, List, []}
use Rattle.std.specs.Prelude.{◌∷◌, ◌++◌}
use Rattle.std.specs.Prelude.{length, flat_map, if◌then◌else◌, ◌||◌, ◌&&◌, ◌==◌, Option, None, Some, Result, Ok, Err}
use Rattle.std.specs.Int.RustNames.{bit_or}
use Rattle.std.specs.Io.KnownBytes.{Appends, Consumes, prepend_known}
use Rattle.std.specs.IoError.{error_kind}
use Rattle.std.specs.declared.io.ErrorKind.{ErrorKind}
use Rattle.sysv_clients.specs.declared.fault.ClientFault.{ClientFault}
use Rattle.sysv_clients.specs.declared.fault.ClientFault.TheVariants as fault
use Rattle.sysv_clients.specs.declared.loading.Loading.{Loading}
use Rattle.sysv_clients.specs.declared.loading.Place.{Place}
use Rattle.sysv_clients.specs.declared.loading.Unfit.{Unfit}
use Rattle.sysv_clients.specs.declared.loading.Unfit.TheVariants as unfit
use Rattle.sysv_clients.specs.declared.loading.Unloaded.{Unloaded}
use Rattle.sysv_clients.specs.declared.loading.Unloaded.TheVariants.{Fault, Cut, Line, Many, Input}
use Rattle.sysv_clients.specs.declared.saved.Entry.{Entry}
use Rattle.sysv_clients.specs.declared.saved.Entry.TheVariants.{Format, Queue, Message}
use Rattle.sysv_clients.specs.declared.saved.SavedQueue.{SavedQueue}
use Rattle.sysv_clients.specs.declared.sending.Cut.{Cut as ACut}
use Rattle.sysv_clients.specs.declared.sending.Sending.{Sending}
use Rattle.sysv_clients.specs.declared.sending.TheConstants.{WINDOW}
use Rattle.sysv_clients.specs.declared.sending.Unsent.{Unsent}
use Rattle.sysv_clients.specs.declared.sending.Unsent.TheVariants as unsent
use Rattle.sysv_clients.specs.declared.sending.Wording.TheVariants.{Objects}
use Rattle.sysv_clients.specs.declared.stated.TheConstants.{OBJECT_BYTES}
use Rattle.sysv_clients.specs.Asks.{flags_to_make, flags_to_wait, no_flags, request_of}
use Rattle.sysv_clients.specs.Calls.{Call, Each, IsCallDone, id_in, read_by, written_by}
use Rattle.sysv_clients.specs.Dialogue.{Exchanges}
use Rattle.sysv_clients.specs.Lines.{HasNone, IsNext, IsTooLong}
use Rattle.sysv_clients.specs.Saved.{IsFormatLine, IsQueueLine, StatesEntry, StatesNothing}
use Rattle.sysv_clients.specs.Sending.{EndsReplies, HasReply, IsCutBy, Sent, sent_by}
use Rattle.sysv_clients.specs.Window.{AreSnds}
use Rattle.sysv_model.specs.declared.cred.Cred.{Cred}
use Rattle.sysv_model.specs.declared.attributes.SetTo.{SetTo}
use Rattle.sysv_model.specs.declared.flags.Flags.{Flags}
use Rattle.sysv_model.specs.declared.flags.TheConstants.Flags.{IPC_CREAT}
use Rattle.sysv_wire.specs.declared.request.Ask.{Ask}
use Rattle.sysv_wire.specs.declared.request.Ask.TheVariants.{Hello, Get, Snd, Set}
use Rattle.sysv_wire.specs.Requests.{request_encoding}

-- The queue is made: its creator is the caller, or need not be.
abbrev pub is_own : Loading → SavedQueue → Bool
is_own loading queue =
    loading.adopt || (queue.cuid == loading.cred.uid && queue.cgid == loading.cred.gid)

-- The request that makes a queue: with IPC_CREAT, its mode, and IPC_EXCL unless it may exist.
abbrev pub make_ask : Loading → SavedQueue → Ask
make_ask loading queue =
    Get queue.key (if loading.into then record { 0 = bit_or IPC_CREAT.0 queue.mode } else flags_to_make queue.mode)

-- The request that finds a queue.
abbrev pub find_ask : SavedQueue → Ask
find_ask queue = Get queue.key no_flags

-- The request that sets the owner, the mode and the limit of a queue, which has this identifier.
abbrev pub set_ask : SavedQueue → ℤ → Ask
set_ask queue id =
    Set id (record { uid = queue.uid; gid = queue.gid; mode = queue.mode; qbytes = queue.qbytes })

-- The sends to the queues.
abbrev pub sending_to_load : Loading → Sending
sending_to_load loading =
    record { cred = loading.cred; key = pos 0; wording = Objects; nowait = loading.nowait }

-- How a load ends that reads or sends its lines.
abbrev pub unloaded_by : Unsent → Unloaded
unloaded_by (unsent.Fault why) = Fault why
unloaded_by (unsent.Cut cut) = Cut cut
unloaded_by (unsent.Long before) = Line before unfit.Long
unloaded_by (unsent.NoObject before) = Line before unfit.Nothing
unloaded_by (unsent.Memory before) = Line before unfit.Memory
unloaded_by unsent.Many = Many
unloaded_by (unsent.Input why) = Input why

-- The number of sends that may be on their way.
abbrev pub window_to_load : Loading → ℕ
window_to_load loading = if loading.nowait then 1 else WINDOW

-- Where a load is before the first line.
abbrev pub outset : Place
outset = record { lines = 0; queue = None; found = None }

-- A line of the input that was read, what it states, and the requests that were made for it.
pub record Step : Type 0 where
  pub line : List ℕ
  pub entry : Entry
  pub body : List ℕ
  pub asks : List Sent

-- A request without a body.
abbrev pub plain : Ask → Sent
plain ask = record { ask = ask; text = [] }

-- A queue may be loaded: it has a key, and its creator is as the load wants.
abbrev pub MayLoad : Loading → SavedQueue → Type 0
MayLoad loading queue = (queue.key ≢ pos 0) × (is_own loading queue ≡ true)

-- The send of a message to the queue with this identifier.
abbrev pub send_of : Loading → ℤ → (mtype : ℤ) → (body : List ℕ) → Sent
send_of loading found mtype body = record { ask = Snd found mtype (flags_to_wait loading.nowait); text = body }

-- The line of a queue was noted, and any other one was passed over.
abbrev pub Notes : (line : List ℕ) → (before after : Place) → Type 0
Notes line before after =
    ((queue : SavedQueue) × IsQueueLine line queue × (after.queue ≡ Some queue) × (after.found ≡ None))
    ⊎ (((queue : SavedQueue) → ¬ IsQueueLine line queue) × (after.queue ≡ before.queue)
    × (after.found ≡ before.found))

-- The line is one before the first that is loaded. That of a queue is noted, and any other is passed over.
abbrev pub IsPassed : Loading → Place → Step → Place → Type 0
IsPassed loading before step after =
    (1 ≤ before.lines) × (before.lines + 1 < loading.from) × (step.asks ≡ [])
    × (after.lines ≡ before.lines + 1) × Notes step.line before after

-- The requests of a line that is loaded, by what it states. The identifier is the one that its msgget returned, or
-- the one that the queue has.
abbrev pub Asks : Loading → Place → Entry → (body : List ℕ) → List Sent → Place → Type 0
Asks loading before Format body asks after = (asks ≡ []) × (after.queue ≡ None) × (after.found ≡ None)
Asks loading before (Queue queue) body asks after =
    MayLoad loading queue × (id : ℤ)
    × (asks ≡ plain (make_ask loading queue) ∷ plain (set_ask queue id) ∷ [])
    × (after.queue ≡ Some queue) × (after.found ≡ Some id)
Asks loading before (Message mtype) body asks after =
    (queue : SavedQueue) × (id : ℤ) × (before.queue ≡ Some queue) × MayLoad loading queue
    × (after.queue ≡ Some queue) × (after.found ≡ Some id)
    × (((before.found ≡ Some id) × (asks ≡ send_of loading id mtype body ∷ []))
    ⊎ ((before.found ≡ None) × (asks ≡ plain (find_ask queue) ∷ send_of loading id mtype body ∷ [])))

-- The next line is loaded: it is the first one, or not before the one to load from.
abbrev pub IsDue : Loading → ℕ → Type 0
IsDue loading lines = (lines ≡ 0) ⊎ (loading.from ≤ lines + 1)

-- The line is loaded. The first one states the format.
pub record IsLoaded (loading : Loading) (before : Place) (step : Step) (after : Place) : Type 0 where
  pub due : IsDue loading before.lines
  pub first : before.lines ≡ 0 → step.entry ≡ Format
  pub states : StatesEntry step.line step.entry step.body
  pub asks : Asks loading before step.entry step.body step.asks after
  pub lines : after.lines ≡ before.lines + 1

-- The line was passed over or loaded.
abbrev pub Takes : Loading → Place → Step → Place → Type 0
Takes loading before step after = IsPassed loading before step after ⊎ IsLoaded loading before step after

-- These are the next lines of the input, in order, and each was taken.
abbrev pub AreTaken : Loading → Place → List Step → (fed rest : Option (List ℕ)) → Place → Type 0
AreTaken loading before [] fed rest after = Consumes fed rest [] × (after ≡ before)
AreTaken loading before (step ∷ more) fed rest after =
    (mid : Option (List ℕ)) × (place : Place) × IsNext OBJECT_BYTES step.line fed mid
    × Takes loading before step place × AreTaken loading place more mid rest after

-- The requests of these lines, in order.
abbrev pub asks_in : List Step → List Sent
asks_in steps = flat_map (λ step. step.asks) steps

-- The first call is the hello.
abbrev pub BeginsWithHello : Loading → List Call → Type 0
BeginsWithHello loading calls =
    (first : Call) × (more : List Call) × (calls ≡ first ∷ more) × (first.ask ≡ Hello loading.cred)
    × (first.text ≡ [])

-- The request is for the queue with this identifier.
abbrev pub NamesQueue : ℤ → Ask → Type 0
NamesQueue id ask =
    ((to : SetTo) × (ask ≡ Set id to)) ⊎ ((mtype : ℤ) × (flags : Flags) × (ask ≡ Snd id mtype flags))

-- If this call is a msgget, the first of these requests is for the identifier that it returned.
abbrev pub NamesNext : Call → List Sent → Type 0
NamesNext call [] = ⊤
NamesNext call (next ∷ more) =
    (key : ℤ) (flags : Flags) → call.ask ≡ Get key flags → NamesQueue (id_in (call ∷ [])) next.ask

-- Each msgget is followed by a request for the identifier that it returned, with these requests at the end.
abbrev pub NamesFound : List Call → List Sent → Type 0
NamesFound [] later = ⊤
NamesFound (call ∷ more) later = NamesNext call (sent_by more ++ later) × NamesFound more later

-- Why the next line is not loaded.
abbrev pub IsUnfit : Loading → Place → Unfit → (fed unfed : Option (List ℕ)) → Type 0
IsUnfit loading place unfit.Long fed unfed = (text : List ℕ) × IsTooLong OBJECT_BYTES text fed unfed
IsUnfit loading place unfit.Nothing fed unfed =
    (1 ≤ place.lines) × (line : List ℕ) × IsNext OBJECT_BYTES line fed unfed × StatesNothing line
IsUnfit loading place unfit.Format fed unfed =
    (place.lines ≡ 0)
    × (HasNone fed unfed ⊎ ((line : List ℕ) × IsNext OBJECT_BYTES line fed unfed × ¬ IsFormatLine line))
IsUnfit loading place unfit.Private fed unfed =
    (line : List ℕ) × IsNext OBJECT_BYTES line fed unfed
    × (queue : SavedQueue) × (IsQueueLine line queue ⊎ (place.queue ≡ Some queue)) × (queue.key ≡ pos 0)
IsUnfit loading place (unfit.Creator uid gid) fed unfed =
    (line : List ℕ) × IsNext OBJECT_BYTES line fed unfed
    × (queue : SavedQueue) × (IsQueueLine line queue ⊎ (place.queue ≡ Some queue)) × (queue.cuid ≡ uid)
    × (queue.cgid ≡ gid) × (is_own loading queue ≡ false)
IsUnfit loading place unfit.NoQueue fed unfed =
    (line : List ℕ) × IsNext OBJECT_BYTES line fed unfed
    × (mtype : ℤ) × (body : List ℕ) × StatesEntry line (Message mtype) body × (place.queue ≡ None)
IsUnfit loading place unfit.Memory fed unfed = (line : List ℕ) × IsNext OBJECT_BYTES line fed unfed

-- The session made no request after these, and each has a reply.
pub record AreAllDone (calls : List Call) (partial waiting : List Sent) (left rest taken more : Option (List ℕ)) :
    Type 0 where
  pub done : Each IsCallDone calls
  pub whole : partial ≡ []
  pub none : waiting ≡ []
  pub read : rest ≡ left
  pub wrote : more ≡ taken

-- The calls that were made for lines: those after the hello.
abbrev pub line_calls : List Call → List Call
line_calls [] = []
line_calls (hello ∷ more) = more

-- The number of lines of which it is unknown whether they are loaded, after a msgget or a msgctl with this fault.
abbrev pub unknown_by : ClientFault → ℕ
unknown_by (fault.Refused error) = 0
unknown_by fault.NoReply = 1
unknown_by fault.NoMemory = 0

-- A line of this queue wants this msgget or msgctl, after these requests for it.
abbrev pub WantsOfQueue : Loading → SavedQueue → (partial : List Sent) → Ask → Type 0
WantsOfQueue loading queue partial ask =
    ((partial ≡ []) × (ask ≡ make_ask loading queue))
    ⊎ ((id : ℤ) × (partial ≡ plain (make_ask loading queue) ∷ []) × (ask ≡ set_ask queue id))

-- The line wants this msgget or msgctl, after these requests for it.
abbrev pub Wants : Loading → Place → (line : List ℕ) → (partial : List Sent) → Ask → Type 0
Wants loading place line partial ask =
    (queue : SavedQueue) × MayLoad loading queue
    × ((IsQueueLine line queue × WantsOfQueue loading queue partial ask)
    ⊎ ((mtype : ℤ) × (body : List ℕ) × StatesEntry line (Message mtype) body × (place.queue ≡ Some queue)
    × (place.found ≡ None) × (partial ≡ []) × (ask ≡ find_ask queue)))

-- A msgget or a msgctl for the next line ends the load; all lines before are loaded.
pub record EndsAtQueue (loading : Loading) (place : Place) (cut : ACut) (calls : List Call)
    (partial waiting : List Sent) (left rest taken more fed unfed : Option (List ℕ)) : Type 0 where
  pub line : List ℕ
  pub ask : Ask
  pub next : IsNext OBJECT_BYTES line fed unfed
  pub due : IsDue loading place.lines
  pub wants : Wants loading place line partial ask
  pub named : NamesFound (line_calls calls) (plain ask ∷ [])
  pub done : Each IsCallDone calls
  pub none : waiting ≡ []
  pub before : cut.before ≡ place.lines
  pub after : cut.after ≡ 0
  pub unknown : cut.unknown ≡ unknown_by cut.fault
  pub ends : Exchanges (request_encoding (request_of ask) []) ask (Err cut.fault) left rest taken more []

-- A send was refused or has no reply. All lines before its line are loaded.
pub record EndsAtSend (steps : List Step) (cut : ACut) (calls : List Call) (partial waiting : List Sent)
    (left rest taken more : Option (List ℕ)) : Type 0 where
  pub earlier_calls : List Call  -- all of them were done
  pub sends : List Call  -- the last calls
  pub split : calls ≡ earlier_calls ++ sends
  pub done : Each IsCallDone earlier_calls
  pub snds : AreSnds (sent_by sends ++ waiting)
  pub earlier : ℕ  -- the number of lines before that of the first of these sends
  pub own : ℕ  -- the number of these sends before the one that ends the load
  pub by : IsCutBy cut.fault (record cut { before = own }) sends
  pub counted : cut.before ≡ earlier + own
  pub every : length steps ≡ earlier + length sends + length waiting
  pub whole : partial ≡ []
  pub unknown : cut.unknown ≡ length waiting
  pub ends : EndsReplies waiting left rest taken more

-- How a load ends after these lines, at this place, with these calls, with these requests for a line that is not
-- loaded whole, and with these sends on their way.
abbrev pub EndsLoad : Loading → Result ⊤ Unloaded → Place → List Step → List Call → (partial waiting : List Sent) →
    (left rest taken more fed unfed : Option (List ℕ)) → Type 0
EndsLoad loading (Ok done) place steps calls partial waiting left rest taken more fed unfed =
    AreAllDone calls partial waiting left rest taken more × (1 ≤ length steps) × HasNone fed unfed
EndsLoad loading (Err (Line before why)) place steps calls partial waiting left rest taken more fed unfed =
    AreAllDone calls partial waiting left rest taken more × (before ≡ length steps)
    × IsUnfit loading place why fed unfed
EndsLoad loading (Err Many) place steps calls partial waiting left rest taken more fed unfed =
    AreAllDone calls partial waiting left rest taken more × (unfed ≡ fed) × (length steps ≡ 2 ^ 64 - 1)
EndsLoad loading (Err (Input why)) place steps calls partial waiting left rest taken more fed unfed =
    AreAllDone calls partial waiting left rest taken more
EndsLoad loading (Err (Cut cut)) place steps calls partial waiting left rest taken more fed unfed =
    EndsAtQueue loading place cut calls partial waiting left rest taken more fed unfed
    ⊎ EndsAtSend steps cut calls partial waiting left rest taken more
EndsLoad loading (Err (Fault why)) place steps calls partial waiting left rest taken more fed unfed =
    (steps ≡ []) × (calls ≡ []) × (partial ≡ []) × (waiting ≡ []) × (unfed ≡ fed)
    × (((why ≡ fault.NoMemory) × (rest ≡ left) × (more ≡ taken))
    ⊎ Exchanges (request_encoding (request_of (Hello loading.cred)) []) (Hello loading.cred) (Err why) left rest
    taken more [])

-- A load that ended this way. Its requests are a hello and those of the lines of the input, in order. What was read is
-- the replies to them, and then what ended it. What was written is these requests, and then the sends without a
-- reply, or a prefix of them.
pub record LoadsAll (loading : Loading) (ended : Result ⊤ Unloaded) (left rest taken more fed unfed : Option (List ℕ)) :
    Type 0 where
  pub steps : List Step  -- the lines that were passed over or loaded
  pub place : Place
  pub calls : List Call  -- the requests with a reply
  pub waiting : List Sent  -- the sends without one
  pub unread : Option (List ℕ)  -- what the reader had left after the replies
  pub written : Option (List ℕ)  -- what the writer had taken of the requests with a reply
  pub unloaded : Option (List ℕ)  -- what the input had left after the lines
  pub lines : AreTaken loading outset steps fed unloaded place
  pub hello : (calls ≡ []) ⊎ BeginsWithHello loading calls
  pub partial : List Sent  -- the requests for a line that is not loaded whole
  pub made : sent_by (line_calls calls) ++ waiting ≡ asks_in steps ++ partial
  pub counted : length steps ≡ place.lines
  pub named : NamesFound (line_calls calls) waiting
  pub answered : Each HasReply calls
  pub few : length waiting ≤ window_to_load loading
  pub reads : Consumes left unread (read_by calls)
  pub writes : Appends taken written (written_by calls)
  pub ends : EndsLoad loading ended place steps calls partial waiting unread rest written more unloaded unfed

-- The same load, whose input was read further than the lines that it took: these bytes more.
abbrev pub LoadsAhead : Loading → Result ⊤ Unloaded → (left rest taken more fed unfed : Option (List ℕ)) → Type 0
LoadsAhead loading ended left rest taken more fed unfed =
    (ahead : List ℕ) × LoadsAll loading ended left rest taken more fed (prepend_known ahead unfed)

-- If the input could not be read, its last read failed, with an error of this kind.
abbrev pub FailsLoadBy : Result ⊤ Unloaded → Option ErrorKind → Type 0
FailsLoadBy (Err (Input why)) failure = failure ≡ Some (error_kind why)
FailsLoadBy (Err (Fault why)) failure = ⊤
FailsLoadBy (Err (Cut cut)) failure = ⊤
FailsLoadBy (Err (Line before why)) failure = ⊤
FailsLoadBy (Err Many) failure = ⊤
FailsLoadBy (Ok done) failure = ⊤
