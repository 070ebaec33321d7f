-- A load of what a save wrote (this project's programs): the load makes the queues that were saved, and sends the
-- messages that they had.
use Rattle.std.specs.Prelude.{◌≡◌, ◌≢◌, ◌≤◌, ◌≤ℤ◌, ⊤, ℕ, ℤ, pos, List, [], ◌∷◌, ◌++◌, length, map, flat_map, OnOk}
use Rattle.std.specs.Prelude.{Option, Some, Result, Ok, Err}
use Rattle.std.specs.List.{AllByRecursion}
use Rattle.std.specs.Int.{w32}
use Rattle.std.specs.Int.RustNames.{FitsSigned}
use Rattle.sysv_clients.specs.declared.clearing.Refusal.{Refusal}
use Rattle.sysv_clients.specs.declared.holding.Unheld.{Unheld}
use Rattle.sysv_clients.specs.declared.holding.Unheld.TheVariants as unheld
use Rattle.sysv_clients.specs.declared.loading.Loading.{Loading}
use Rattle.sysv_clients.specs.declared.loading.Unfit.TheVariants as unfit
use Rattle.sysv_clients.specs.declared.loading.Unloaded.{Unloaded}
use Rattle.sysv_clients.specs.declared.loading.Unloaded.TheVariants.{Fault, Cut, Line, Many, Input}
use Rattle.sysv_clients.specs.declared.saved.Entry.{Entry}
use Rattle.sysv_clients.specs.declared.saved.Entry.TheVariants as entry
use Rattle.sysv_clients.specs.declared.saved.SavedQueue.{SavedQueue}
use Rattle.sysv_clients.specs.declared.saving.Saving.{Saving}
use Rattle.sysv_clients.specs.declared.stated.TheConstants.{OBJECT_BYTES}
use Rattle.sysv_clients.specs.Calls.{Call}
use Rattle.sysv_clients.specs.Copies.{AreMessages, Message, objects_of}
use Rattle.sysv_clients.specs.Dialogue.{id_after}
use Rattle.sysv_clients.specs.Lines.{IsText}
use Rattle.sysv_clients.specs.Loading.{LoadsAll, MayLoad, line_calls, make_ask, plain, send_of, set_ask}
use Rattle.sysv_clients.specs.Saved.{IsQueueLine, StatesEntry, format_line, queue_text}
use Rattle.sysv_clients.specs.Saving.{SavesAll}
use Rattle.sysv_clients.specs.Sending.{Sent, sent_by}
use Rattle.sysv_model.specs.declared.attributes.Stat.{Stat as Attributes}
use Rattle.sysv_wire.specs.declared.frame.TheConstants.{MAX_MODE}
use Rattle.sysv_wire.specs.declared.reply.ReplyContent.{ReplyContent}
use Rattle.sysv_wire.specs.declared.reply.ReplyContent.TheVariants as content
use Rattle.sysv_wire.specs.declared.request.Ask.{Ask}
use Rattle.sysv_wire.specs.declared.request.Ask.TheVariants.{Hello, Get, Snd, Rcv, Stat, Set, Rm, Row, Hold, Done, Back}
use Rattle.sysv_wire.specs.Replies.{FitsStat}

-- ---- lines

-- A queue may have this identifier and these attributes, as a server states them.
pub record IsServed (id : ℤ) (stat : Attributes) : Type 0 where
  pub least : pos 0 ≤ℤ id
  pub most : FitsSigned w32 id
  pub fits : FitsStat stat
  pub nine : stat.perm.mode ≤ MAX_MODE

-- The queue that a line states of them.
abbrev pub saved_of : (id : ℤ) → Attributes → SavedQueue
saved_of id stat = record {
  key = stat.key;
  id = id;
  uid = stat.perm.uid;
  gid = stat.perm.gid;
  cuid = stat.perm.cuid;
  cgid = stat.perm.cgid;
  mode = stat.perm.mode;
  qbytes = stat.qbytes;
  cbytes = stat.cbytes;
  qnum = stat.qnum;
}

-- What a save writes of a queue is a line that a load accepts, and it states this queue.
pub record IsQueueReadBack (id : ℤ) (stat : Attributes) : Type 0 where
  pub text : List ℕ
  pub line : queue_text id stat ≡ text ++ 10 ∷ []
  pub fits : IsText OBJECT_BYTES text
  pub states : IsQueueLine text (saved_of id stat)

-- If the entry is a message, its body is this one too.
abbrev pub HasSameBody : Entry → (body other : List ℕ) → Type 0
HasSameBody entry.Format body other = ⊤
HasSameBody (entry.Queue queue) body other = ⊤
HasSameBody (entry.Message mtype) body other = body ≡ other

-- A line of a file states at most one thing: the format, a queue or a message.
abbrev pub StatesOneEntry : List ℕ → Type 0
StatesOneEntry line =
    (one other : Entry) (body text : List ℕ) → StatesEntry line one body → StatesEntry line other text
    → (one ≡ other) × HasSameBody one body text

-- ---- files

-- A queue in a file: its identifier, its attributes, and its messages in order.
pub record Kept : Type 0 where
  pub id : ℤ
  pub stat : Attributes
  pub messages : List Message

-- A server may have had such queues.
abbrev pub IsKept : Kept → Type 0
IsKept kept = IsServed kept.id kept.stat × AreMessages kept.messages

abbrev pub AreKept : List Kept → Type 0
AreKept queues = AllByRecursion IsKept queues

-- The lines of a queue: its own, and then one for each of its messages.
abbrev pub kept_text : Kept → List ℕ
kept_text kept = queue_text kept.id kept.stat ++ objects_of kept.messages

-- A file of these queues. The first line states the format.
abbrev pub file_of : List Kept → List ℕ
file_of queues = format_line ++ flat_map kept_text queues

-- ---- what a save was given

-- What the reply to a request of a save has for the file.
pub data Part : Type 0 where
  Opens : Part
  HasNothing : Part
  HasQueue : (id : ℤ) (stat : Attributes) → Part
  HasMessage : Message → Part

abbrev pub part_of : Ask → ReplyContent → (given : List ℕ) → Part
part_of (Hello cred) answer given = Opens
part_of (Stat id) (content.Stat stat) given = HasQueue id stat
part_of (Hold id size mtype flags seconds) (content.Hold held) given =
    HasMessage (record { mtype = held; body = given })
part_of ask answer given = HasNothing

abbrev pub parts_of : List Call → List Part
parts_of calls = map (λ call. part_of call.ask call.answer call.given) calls

-- The messages before the next queue.
abbrev pub first_messages : List Part → List Message
first_messages [] = []
first_messages (HasMessage message ∷ more) = message ∷ first_messages more
first_messages (HasQueue id stat ∷ more) = []
first_messages (Opens ∷ more) = first_messages more
first_messages (HasNothing ∷ more) = first_messages more

-- The queues, each with the messages that follow it.
abbrev pub queues_in : List Part → List Kept
queues_in [] = []
queues_in (HasQueue id stat ∷ more) =
    record { id = id; stat = stat; messages = first_messages more } ∷ queues_in more
queues_in (HasMessage message ∷ more) = queues_in more
queues_in (Opens ∷ more) = queues_in more
queues_in (HasNothing ∷ more) = queues_in more

-- The queues that a save was given: those whose attributes were the reply to a stat, each with the messages that
-- were held after it.
abbrev pub queues_of : List Call → List Kept
queues_of calls = queues_in (parts_of calls)

-- ---- what a load does with it

-- The requests that make this queue, which gets this identifier, and send its messages.
abbrev pub load_of : Loading → ℤ → Kept → List Sent
load_of loading id kept =
    plain (make_ask loading (saved_of kept.id kept.stat)) ∷ plain (set_ask (saved_of kept.id kept.stat) id)
    ∷ map (λ message. send_of loading id message.mtype message.body) kept.messages

-- The same of these queues, in order. Each gets one of these identifiers.
abbrev pub loads_of : Loading → List ℤ → List Kept → List Sent
loads_of loading ids [] = []
loads_of loading [] (kept ∷ more) = []
loads_of loading (id ∷ ids) (kept ∷ more) = load_of loading id kept ++ loads_of loading ids more

-- Each queue may be loaded: none is private, and the creator of each is as the load wants.
abbrev pub MayAllLoad : Loading → List Kept → Type 0
MayAllLoad loading queues = AllByRecursion (λ kept. MayLoad loading (saved_of kept.id kept.stat)) queues

-- No line ended the load, except that memory for it was refused.
abbrev pub IsNoLine : Result ⊤ Unloaded → Type 0
IsNoLine (Err (Line before unfit.Memory)) = ⊤
IsNoLine (Err (Line before unfit.Long)) = ⊥
IsNoLine (Err (Line before unfit.Nothing)) = ⊥
IsNoLine (Err (Line before unfit.Format)) = ⊥
IsNoLine (Err (Line before unfit.NoQueue)) = ⊥
IsNoLine (Err (Line before unfit.Private)) = ⊥
IsNoLine (Err (Line before (unfit.Creator uid gid))) = ⊥
IsNoLine (Err (Fault why)) = ⊤
IsNoLine (Err (Cut cut)) = ⊤
IsNoLine (Err Many) = ⊤
IsNoLine (Err (Input why)) = ⊤
IsNoLine (Ok done) = ⊤

-- The identifiers that the msggets of these calls returned, in order.
abbrev pub found_by : Ask → ReplyContent → List ℤ
found_by (Get name flags) answer = id_after (pos 0) answer ∷ []
found_by (Hello cred) answer = []
found_by (Snd id mtype flags) answer = []
found_by (Rcv id size mtype flags) answer = []
found_by (Stat id) answer = []
found_by (Set id to) answer = []
found_by (Rm id) answer = []
found_by (Row slot) answer = []
found_by (Hold id size mtype flags seconds) answer = []
found_by Done answer = []
found_by Back answer = []

abbrev pub found_ids : List Call → List ℤ
found_ids calls = flat_map (λ call. found_by call.ask call.answer) calls

-- The requests of a load after its hello, of which these calls have a reply and the others have none, are the first of
-- those that make these queues and send their messages. If the load ended without an error they are all of them, and
-- each queue was set and filled under the identifier that its msgget returned. No line of the file ends the load if
-- each queue may be loaded.
pub record IsRestored (loading : Loading) (queues : List Kept) (ended : Result ⊤ Unloaded) (calls : List Call)
    (waiting : List Sent) : Type 0 where
  pub ids : List ℤ
  pub later : List Sent
  pub each : length ids ≡ length queues
  pub requests : loads_of loading ids queues ≡ (sent_by calls ++ waiting) ++ later
  pub all : OnOk ended (later ≡ [])
  pub returned : OnOk ended (ids ≡ found_ids calls)
  pub readable : MayAllLoad loading queues → IsNoLine ended

-- A load of a file of these queues, from its first line on, restores them.
abbrev pub RestoresFile : List Kept → Type 0
RestoresFile queues =
    (loading : Loading) (ended : Result ⊤ Unloaded) (left rest taken more unfed : Option (List ℕ))
    (load : LoadsAll loading ended left rest taken more (Some (file_of queues)) unfed) → loading.from ≤ 2
    → IsRestored loading queues ended (line_calls load.calls) load.waiting

-- The screen of a save did not fail.
abbrev pub HasScreen : Result ⊤ Unheld → Type 0
HasScreen (Err (unheld.Screen unshown)) = ⊥
HasScreen (Err (unheld.Fault why)) = ⊤
HasScreen (Err (unheld.Undone why)) = ⊤
HasScreen (Ok done) = ⊤

-- A save whose screen did not fail, and that had a reply to its hello, has written a file of the queues that it was
-- given, whether it saves all queues or a part of them.
abbrev pub SavesFile : Type 0
SavesFile =
    (saving : Saving) (ended : Result ⊤ Unheld) (left rest taken more : Option (List ℕ)) (bytes : List ℕ)
    (before reported : List Refusal)
    (save : SavesAll saving ended left rest taken more (Some []) (Some bytes) before reported) → HasScreen ended
    → save.calls ≢ [] → bytes ≡ file_of (queues_of save.calls)

-- A server has such queues: an identifier is 0 or more, and the messages are messages.
abbrev pub AreOfServer : List Kept → Type 0
AreOfServer queues = AllByRecursion (λ kept. (pos 0 ≤ℤ kept.id) × AreMessages kept.messages) queues

-- A load of what such a save wrote restores the queues that the save was given.
abbrev pub RestoresSaved : Type 0
RestoresSaved =
    (saving : Saving) (saved : Result ⊤ Unheld) (left rest taken more : Option (List ℕ)) (bytes : List ℕ)
    (before reported : List Refusal)
    (save : SavesAll saving saved left rest taken more (Some []) (Some bytes) before reported) → HasScreen saved
    → save.calls ≢ [] → AreOfServer (queues_of save.calls)
    → (loading : Loading) (ended : Result ⊤ Unloaded) (unheard unread untaken written unfed : Option (List ℕ))
    (load : LoadsAll loading ended unheard unread untaken written (Some bytes) unfed) → loading.from ≤ 2
    → IsRestored loading (queues_of save.calls) ended (line_calls load.calls) load.waiting
