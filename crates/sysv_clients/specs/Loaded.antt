-- A load in progress (this project's programs): some lines were read, and some sends may be on their way.
use Rattle.std.specs.Prelude.{◌≡◌, ◌≤◌, ◌⊎◌, ◌+◌, ◌-◌, ◌^◌, ⊤, ℕ, ℤ, pos, Bool, true, false, List, [], ◌∷◌, ◌++◌}
use Rattle.std.specs.Prelude.{length, Option, None, Some, Result, Ok, Err, MatchOption}
use Rattle.std.specs.Io.KnownBytes.{Appends, Consumes}
use Rattle.sysv_clients.specs.declared.fault.ClientFault.{ClientFault}
use Rattle.sysv_clients.specs.declared.loading.Loading.{Loading}
use Rattle.sysv_clients.specs.declared.loading.Place.{Place}
use Rattle.sysv_clients.specs.declared.loading.Unfit.{Unfit}
use Rattle.sysv_clients.specs.declared.loading.Unfit.TheVariants as unfit
use Rattle.sysv_clients.specs.declared.loading.Unloaded.{Unloaded}
use Rattle.sysv_clients.specs.declared.loading.Unloaded.TheVariants.{Fault, Cut, Line, Many, Input}
use Rattle.sysv_clients.specs.declared.saved.Entry.{Entry}
use Rattle.sysv_clients.specs.declared.saved.Entry.TheVariants.{Format, Queue, Message}
use Rattle.sysv_clients.specs.declared.saved.SavedQueue.{SavedQueue}
use Rattle.sysv_clients.specs.declared.sending.Window.{Window}
use Rattle.sysv_clients.specs.Asks.{request_of}
use Rattle.sysv_clients.specs.Calls.{Call, Each, IsCallDone, read_by, written_by}
use Rattle.sysv_clients.specs.Dialogue.{Exchanges, id_after}
use Rattle.sysv_clients.specs.Lines.{HasNone}
use Rattle.sysv_clients.specs.Loading.{AreTaken, IsUnfit, LoadsAll, MayLoad, NamesFound, NamesQueue, Notes}
use Rattle.sysv_clients.specs.Loading.{Step, asks_in, find_ask, is_own, outset, unknown_by, window_to_load}
use Rattle.sysv_clients.specs.Saved.{IsFormatLine, StatesEntry, StatesNothing}
use Rattle.sysv_clients.specs.Sending.{Sent, frames_of, sent_by}
use Rattle.sysv_clients.specs.Window.{AreSnds}
use Rattle.sysv_wire.specs.declared.reply.ReplyContent.{ReplyContent}
use Rattle.sysv_wire.specs.declared.request.Ask.{Ask}
use Rattle.sysv_wire.specs.declared.request.Ask.TheVariants.{Hello}
use Rattle.sysv_wire.specs.Requests.{request_encoding}

-- The queue of the place may be loaded, if it was made or found.
abbrev pub MayBeAt : Loading → Place → Type 0
MayBeAt loading place =
    MatchOption place.found ⊤ (λ id. (queue : SavedQueue) × (place.queue ≡ Some queue) × MayLoad loading queue)

-- The next request is for the queue that the last one found, if it was a msgget for the same line.
abbrev pub FitsNext : Option ℤ → Sent → Type 0
FitsNext found next = MatchOption found ⊤ (λ id. NamesQueue id next.ask)

-- The hello was done, and these lines were taken. Of the next line these requests were made, and the last of them has
-- found this queue. Those that have a reply were done.
pub record LoadsPart (loading : Loading) (left rest taken more fed unloaded : Option (List ℕ)) (place : Place)
    (window : Window) (partial : List Sent) (found : Option ℤ) : Type 0 where
  pub hello : Call
  pub calls : List Call
  pub steps : List Step
  pub waiting : List Sent
  pub greets : hello.ask ≡ Hello loading.cred
  pub bare : hello.text ≡ []
  pub lines : AreTaken loading outset steps fed unloaded place
  pub counted : length steps ≡ place.lines
  pub made : sent_by calls ++ waiting ≡ asks_in steps ++ partial
  pub named : NamesFound calls waiting
  pub names : (next : Sent) (later : List Sent) → FitsNext found next → NamesFound calls (waiting ++ next ∷ later)
  pub done : Each IsCallDone (hello ∷ calls)
  pub snds : AreSnds waiting
  pub reads : Consumes left rest (read_by (hello ∷ calls))
  pub writes : Appends taken more (written_by (hello ∷ calls) ++ frames_of waiting)
  pub waits : window.waiting ≡ length waiting
  pub few : window.waiting ≤ window_to_load loading

-- The same before the next line. If its queue was not found yet, or its first messages are not loaded, no send is on
-- its way.
pub record Loads (loading : Loading) (left rest taken more fed unloaded : Option (List ℕ)) (place : Place)
    (window : Window) : Type 0 where
  pub part : LoadsPart loading left rest taken more fed unloaded place window [] None
  pub may : MayBeAt loading place
  pub many : window.done + window.waiting ≡ place.lines
  pub idle : place.found ≡ None → window.waiting ≡ 0
  pub early : (window.waiting ≡ 0) ⊎ (loading.from ≤ place.lines)

-- The lines end, or the next one is not loaded, apart from the sends on their way.
abbrev pub Stops : Loading → Result ⊤ Unloaded → (left rest taken more fed unfed : Option (List ℕ)) → Place →
    Window → Type 0
Stops loading (Ok done) left rest taken more fed unfed place window =
    (unloaded : Option (List ℕ)) × Loads loading left rest taken more fed unloaded place window
    × (1 ≤ place.lines) × HasNone unloaded unfed
Stops loading (Err (Line before why)) left rest taken more fed unfed place window =
    (unloaded : Option (List ℕ)) × Loads loading left rest taken more fed unloaded place window
    × (before ≡ place.lines) × IsUnfit loading place why unloaded unfed
Stops loading (Err Many) left rest taken more fed unfed place window =
    Loads loading left rest taken more fed unfed place window × (place.lines ≡ 2 ^ 64 - 1)
Stops loading (Err (Input why)) left rest taken more fed unfed place window =
    (unloaded : Option (List ℕ)) × Loads loading left rest taken more fed unloaded place window
Stops loading (Err (Cut cut)) left rest taken more fed unfed place window = ⊥
Stops loading (Err (Fault why)) left rest taken more fed unfed place window = ⊥

-- The same, or a request ended the load.
abbrev pub StopsBy : Loading → Unloaded → (left rest taken more fed unfed : Option (List ℕ)) → Place → Window → Type 0
StopsBy loading (Cut cut) left rest taken more fed unfed place window =
    LoadsAll loading (Err (Cut cut)) left rest taken more fed unfed
StopsBy loading (Line before why) left rest taken more fed unfed place window =
    Stops loading (Err (Line before why)) left rest taken more fed unfed place window
StopsBy loading (Input why) left rest taken more fed unfed place window =
    Stops loading (Err (Input why)) left rest taken more fed unfed place window
StopsBy loading Many left rest taken more fed unfed place window = ⊥
StopsBy loading (Fault why) left rest taken more fed unfed place window = ⊥

-- A line was taken, or it ends the load.
abbrev pub TakesLine : Loading → Result ⊤ Unloaded → (left rest taken more fed unfed : Option (List ℕ)) → Place →
    Window → Type 0
TakesLine loading (Ok done) left rest taken more fed unfed place window =
    Loads loading left rest taken more fed unfed place window
TakesLine loading (Err why) left rest taken more fed unfed place window =
    StopsBy loading why left rest taken more fed unfed place window

-- The next line was taken, if there is one, and another one may follow (true) or not (false). Or it ends the load.
abbrev pub TakesNext : Loading → Result Bool Unloaded → (left rest taken more fed unfed : Option (List ℕ)) → Place →
    Window → Type 0
TakesNext loading (Ok true) left rest taken more fed unfed place window =
    Loads loading left rest taken more fed unfed place window
TakesNext loading (Ok false) left rest taken more fed unfed place window =
    Stops loading (Ok tt) left rest taken more fed unfed place window
TakesNext loading (Err why) left rest taken more fed unfed place window =
    StopsBy loading why left rest taken more fed unfed place window

-- A line or a request for it ended the load.
abbrev pub IsOfLine : Unloaded → Type 0
IsOfLine (Line before why) = ⊤
IsOfLine (Cut cut) = ⊤
IsOfLine (Fault why) = ⊥
IsOfLine Many = ⊥
IsOfLine (Input why) = ⊥

-- A request ended it.
abbrev pub IsCutLoad : Unloaded → Type 0
IsCutLoad (Cut cut) = ⊤
IsCutLoad (Line before why) = ⊥
IsCutLoad (Fault why) = ⊥
IsCutLoad Many = ⊥
IsCutLoad (Input why) = ⊥

-- A queue that is not loaded: it is private, or its creator is not as the load wants.
abbrev pub IsBarred : Loading → SavedQueue → Unfit → Type 0
IsBarred loading queue unfit.Private = queue.key ≡ pos 0
IsBarred loading queue (unfit.Creator uid gid) =
    (queue.cuid ≡ uid) × (queue.cgid ≡ gid) × (is_own loading queue ≡ false)
IsBarred loading queue unfit.Long = ⊥
IsBarred loading queue unfit.Nothing = ⊥
IsBarred loading queue unfit.Format = ⊥
IsBarred loading queue unfit.NoQueue = ⊥
IsBarred loading queue unfit.Memory = ⊥

-- Whether a queue may be loaded, after this number of lines.
abbrev pub Checks : Loading → (lines : ℕ) → SavedQueue → Result ⊤ Unloaded → Type 0
Checks loading lines queue (Ok done) = MayLoad loading queue
Checks loading lines queue (Err (Line before why)) = (before ≡ lines) × IsBarred loading queue why
Checks loading lines queue (Err (Fault why)) = ⊥
Checks loading lines queue (Err (Cut cut)) = ⊥
Checks loading lines queue (Err Many) = ⊥
Checks loading lines queue (Err (Input why)) = ⊥

-- A line after this number of lines states nothing that is loaded there.
abbrev pub IsNoEntry : (lines : ℕ) → Unfit → List ℕ → Type 0
IsNoEntry lines unfit.Format line = (lines ≡ 0) × ¬ IsFormatLine line
IsNoEntry lines unfit.Nothing line = (1 ≤ lines) × StatesNothing line
IsNoEntry lines unfit.Memory line = ⊤
IsNoEntry lines unfit.Long line = ⊥
IsNoEntry lines unfit.Private line = ⊥
IsNoEntry lines (unfit.Creator uid gid) line = ⊥
IsNoEntry lines unfit.NoQueue line = ⊥

-- What was read as the entry that a line states, after this number of lines. The first one states the format.
abbrev pub ReadsEntry : (lines : ℕ) → Result Entry Unloaded → (line body : List ℕ) → Type 0
ReadsEntry lines (Ok entry) line body = StatesEntry line entry body × (lines ≡ 0 → entry ≡ Format)
ReadsEntry lines (Err (Line before why)) line body = (before ≡ lines) × IsNoEntry lines why line
ReadsEntry lines (Err (Fault why)) line body = ⊥
ReadsEntry lines (Err (Cut cut)) line body = ⊥
ReadsEntry lines (Err Many) line body = ⊥
ReadsEntry lines (Err (Input why)) line body = ⊥

-- The line states something else than the format, or nothing.
abbrev pub IsNoFormat : Option Entry → Type 0
IsNoFormat None = ⊤
IsNoFormat (Some Format) = ⊥
IsNoFormat (Some (Queue queue)) = ⊤
IsNoFormat (Some (Message mtype)) = ⊤

-- Why what a line states is not loaded after this number of lines.
abbrev pub IsNotAdmitted : (lines : ℕ) → Option Entry → Unfit → Type 0
IsNotAdmitted lines found unfit.Format = (lines ≡ 0) × IsNoFormat found
IsNotAdmitted lines found unfit.Nothing = (1 ≤ lines) × (found ≡ None)
IsNotAdmitted lines found unfit.Memory = ⊥
IsNotAdmitted lines found unfit.Long = ⊥
IsNotAdmitted lines found unfit.Private = ⊥
IsNotAdmitted lines found (unfit.Creator uid gid) = ⊥
IsNotAdmitted lines found unfit.NoQueue = ⊥

-- What a line states may be loaded after this number of lines, or not.
abbrev pub Admits : (lines : ℕ) → Option Entry → Result Entry Unloaded → Type 0
Admits lines found (Ok entry) = (found ≡ Some entry) × (lines ≡ 0 → entry ≡ Format)
Admits lines found (Err (Line before why)) = (before ≡ lines) × IsNotAdmitted lines found why
Admits lines found (Err (Fault why)) = ⊥
Admits lines found (Err (Cut cut)) = ⊥
Admits lines found (Err Many) = ⊥
Admits lines found (Err (Input why)) = ⊥

-- A request for the line after this number of lines was made. Its reply has this identifier, or there is none.
abbrev pub IsAsked : (lines : ℕ) → Ask → Result ℤ Unloaded → (left rest taken more : Option (List ℕ)) → Type 0
IsAsked lines ask (Ok id) left rest taken more =
    (answer : ReplyContent) × (given : List ℕ) × (id ≡ id_after (pos 0) answer)
    × Exchanges (request_encoding (request_of ask) []) ask (Ok answer) left rest taken more given
IsAsked lines ask (Err (Cut cut)) left rest taken more =
    (cut.before ≡ lines) × (cut.after ≡ 0) × (cut.unknown ≡ unknown_by cut.fault)
    × Exchanges (request_encoding (request_of ask) []) ask (Err cut.fault) left rest taken more []
IsAsked lines ask (Err (Line before why)) left rest taken more = ⊥
IsAsked lines ask (Err (Fault why)) left rest taken more = ⊥
IsAsked lines ask (Err Many) left rest taken more = ⊥
IsAsked lines ask (Err (Input why)) left rest taken more = ⊥

-- The queue of a message was found before, or by a request for its line, after this number of lines.
abbrev pub FindsQueue : Loading → Place → (id : ℤ) → (left rest taken more : Option (List ℕ)) → Type 0
FindsQueue loading place id left rest taken more =
    (queue : SavedQueue) × (place.queue ≡ Some queue) × MayLoad loading queue
    × (((place.found ≡ Some id) × (rest ≡ left) × (more ≡ taken))
    ⊎ ((place.found ≡ None) × IsAsked place.lines (find_ask queue) (Ok id) left rest taken more))

-- Why a message has no queue.
abbrev pub IsUnfound : Loading → Place → Unfit → Type 0
IsUnfound loading place unfit.NoQueue = place.queue ≡ None
IsUnfound loading place unfit.Private =
    (queue : SavedQueue) × (place.queue ≡ Some queue) × IsBarred loading queue unfit.Private
IsUnfound loading place (unfit.Creator uid gid) =
    (queue : SavedQueue) × (place.queue ≡ Some queue) × IsBarred loading queue (unfit.Creator uid gid)
IsUnfound loading place unfit.Long = ⊥
IsUnfound loading place unfit.Nothing = ⊥
IsUnfound loading place unfit.Format = ⊥
IsUnfound loading place unfit.Memory = ⊥

-- The queue of a message was found, or it has none, or a request for it ended the load.
abbrev pub Finds : Loading → Place → Result ℤ Unloaded → (left rest taken more : Option (List ℕ)) → Type 0
Finds loading place (Ok id) left rest taken more = FindsQueue loading place id left rest taken more
Finds loading place (Err (Line before why)) left rest taken more =
    (before ≡ place.lines) × IsUnfound loading place why × (rest ≡ left) × (more ≡ taken)
Finds loading place (Err (Cut cut)) left rest taken more =
    (queue : SavedQueue) × (place.queue ≡ Some queue) × MayLoad loading queue × (place.found ≡ None)
    × IsAsked place.lines (find_ask queue) (Err (Cut cut)) left rest taken more
Finds loading place (Err (Fault why)) left rest taken more = ⊥
Finds loading place (Err Many) left rest taken more = ⊥
Finds loading place (Err (Input why)) left rest taken more = ⊥

-- No line was left: a load of no line at all has no line that states the format.
abbrev pub EndsAt : (lines : ℕ) → Result Bool Unloaded → Type 0
EndsAt lines (Ok more) = (more ≡ false) × (1 ≤ lines)
EndsAt lines (Err (Line before why)) = (lines ≡ 0) × (before ≡ 0) × (why ≡ unfit.Format)
EndsAt lines (Err (Fault why)) = ⊥
EndsAt lines (Err (Cut cut)) = ⊥
EndsAt lines (Err Many) = ⊥
EndsAt lines (Err (Input why)) = ⊥

-- The line was passed over, or memory for it was refused.
abbrev pub Passes : Result ⊤ Unloaded → List ℕ → (before after : Place) → Type 0
Passes (Ok done) line before after = (after.lines ≡ before.lines + 1) × Notes line before after
Passes (Err (Line lines why)) line before after =
    (lines ≡ before.lines) × (why ≡ unfit.Memory) × (after ≡ before)
Passes (Err (Fault why)) line before after = ⊥
Passes (Err (Cut cut)) line before after = ⊥
Passes (Err Many) line before after = ⊥
Passes (Err (Input why)) line before after = ⊥

-- The window after a line for which no send is on its way.
abbrev pub one_taken : Window → Window
one_taken window = record { id = window.id; done = window.done + 1; waiting = window.waiting }
