-- A session of several messages (this project's programs): what is requested, how it ends, and what
-- is shown of the messages. Receives may be on their way together: written, and without a
-- reply.
use Rattle.std.specs.Prelude.{◌≡◌, ◌⊎◌, ◌+◌, ◌<◌, ◌≤◌, ⊤, ℕ, zero, suc, Bool, true, false, List, [], ◌∷◌, ◌++◌}
use Rattle.std.specs.Prelude.{length, Option, None, Some, Result, Ok, Err, flat_map, max, min, if◌then◌else◌}
use Rattle.std.specs.Io.KnownBytes.{Appends, Consumes}
use Rattle.sysv_clients.specs.declared.fault.ClientFault.{ClientFault}
use Rattle.sysv_clients.specs.declared.fault.ClientFault.TheVariants as fault
use Rattle.sysv_clients.specs.declared.stream.Receiving.{Receiving}
use Rattle.sysv_clients.specs.declared.stream.Stop.{Stop}
use Rattle.sysv_clients.specs.declared.stream.Stop.TheVariants.{Fault, Screen}
use Rattle.sysv_clients.specs.declared.stream.TheConstants.{MAX_AHEAD, MAX_MESSAGES}
use Rattle.sysv_clients.specs.declared.style.Style.{Style}
use Rattle.sysv_clients.specs.Asks.{find_ask, receive_ask, request_of}
use Rattle.sysv_clients.specs.Calls.{BreaksPlan, Call, Each, FollowsPlan, IsCallDone, Plan, id_in, read_by, written_by}
use Rattle.sysv_clients.specs.Faults.{fault_line}
use Rattle.sysv_clients.specs.Page.{message_text}
use Rattle.sysv_clients.specs.Sending.{HasReply, Refuses}
use Rattle.sysv_clients.specs.Style.{style_of_receipt}
use Rattle.sysv_clients.specs.Dialogue.{HasNoReply}
use Rattle.sysv_model.specs.declared.errno.Errno.{Errno}
use Rattle.sysv_model.specs.Writing.{AppendsPrefix}
use Rattle.sysv_wire.specs.declared.reply.ReplyContent.{ReplyContent}
use Rattle.sysv_wire.specs.declared.reply.ReplyContent.TheVariants as content
use Rattle.sysv_wire.specs.declared.request.Ask.{Ask}
use Rattle.sysv_wire.specs.declared.request.Ask.TheVariants.{Hello}
use Rattle.sysv_wire.specs.Requests.{request_encoding}

-- What is shown of a result: a message, and nothing of any other.
abbrev pub received_text : Style → ReplyContent → List ℕ → List ℕ
received_text style (content.Rcv mtype) given = message_text style mtype given
received_text style (content.Row row) given = []
received_text style (content.Refused error) given = []
received_text style content.Hello given = []
received_text style (content.HelloSlots slots) given = []
received_text style (content.Get id) given = []
received_text style content.Snd given = []
received_text style (content.Stat stat) given = []
received_text style content.Set given = []
received_text style content.Rm given = []
received_text style content.Done given = []
received_text style content.Back given = []
received_text style (content.Hold mtype) given = []

-- What is shown of these calls, in order.
abbrev pub shown_by : Style → List Call → List ℕ
shown_by style calls = flat_map (λ call. received_text style call.answer call.given) calls

-- What is requested before the first receive: the hello, and then the msgget.
abbrev pub finding_plan : Receiving → Plan
finding_plan receiving [] = Some (Hello receiving.cred)
finding_plan receiving (first ∷ []) = Some (find_ask receiving.receipt)
finding_plan receiving (first ∷ second ∷ more) = None

-- The request of each receive, after these requests before the first one.
abbrev pub taking_ask : Receiving → List Call → Ask
taking_ask receiving opened = receive_ask receiving.receipt (id_in opened)

-- The number of messages to receive.
abbrev pub count_of : Receiving → ℕ
count_of receiving = min receiving.count MAX_MESSAGES

-- The number of receives that may be on their way. A receive that does not wait is alone.
abbrev pub ahead_of : Receiving → ℕ
ahead_of receiving = if receiving.receipt.nowait then 1 else max (min receiving.ahead MAX_AHEAD) 1

-- The frames of this number of requests, which send no body.
abbrev pub repeated_encoding : Ask → ℕ → List ℕ
repeated_encoding ask zero = []
repeated_encoding ask (suc count) = request_encoding (request_of ask) [] ++ repeated_encoding ask count

-- The call is this request, sends no body and has a reply.
abbrev pub IsReplied : Ask → Call → Type 0
IsReplied ask call = (call.ask ≡ ask) × (call.text ≡ []) × HasReply call

-- Of these receives the first ones were done, and the next one was refused with this error. Then
-- nothing more was requested: the later ones, and those without a reply, were on their way with it.
pub record IsRefusedIn (error : Errno) (ahead waiting : ℕ) (takes : List Call) : Type 0 where
  pub first : List Call
  pub one : Call
  pub later : List Call
  pub split : takes ≡ first ++ one ∷ later
  pub done : Each IsCallDone first
  pub refused : Refuses error one
  pub few : length later + waiting < ahead

-- The receives with a reply, by the fault that ends the session, if the queue was found: one was
-- refused; or all were done, and a later one has no reply.
abbrev pub AreTakenBy : ClientFault → (ahead waiting : ℕ) → List Call → Type 0
AreTakenBy (fault.Refused error) ahead waiting takes = IsRefusedIn error ahead waiting takes
AreTakenBy fault.NoReply ahead waiting takes = Each IsCallDone takes × (1 ≤ waiting)
AreTakenBy fault.NoMemory ahead waiting takes = ⊥

-- What was written of this number of receives without a reply, and what was read in place of one:
-- there are none; or the writer failed, and took a prefix of their frames, which may be all of them;
-- or what was read is no reply; or both, if some were on their way when the writer failed.
abbrev pub EndsTaking : Ask → ℕ → (left rest taken more : Option (List ℕ)) → Type 0
EndsTaking ask waiting left rest taken more =
    ((waiting ≡ 0) × (rest ≡ left) × (more ≡ taken))
    ⊎ (AppendsPrefix taken more (repeated_encoding ask waiting) × (rest ≡ left))
    ⊎ (Appends taken more (repeated_encoding ask waiting) × HasNoReply ask left rest)
    ⊎ ((2 ≤ waiting) × AppendsPrefix taken more (repeated_encoding ask waiting) × HasNoReply ask left rest)

-- The queue was found, and a receive was refused or has no reply.
pub record IsStopped (receiving : Receiving) (why : ClientFault) (opened takes : List Call) (waiting : ℕ)
    (left rest taken more : Option (List ℕ)) : Type 0 where
  pub found : finding_plan receiving opened ≡ None
  pub by : AreTakenBy why (ahead_of receiving) waiting takes
  pub ends : EndsTaking (taking_ask receiving opened) waiting left rest taken more

-- No receive was requested, since a request before the first one ends the session with this fault.
pub record BreaksFinding (receiving : Receiving) (why : ClientFault) (opened takes : List Call) (waiting : ℕ)
    (left rest taken more : Option (List ℕ)) : Type 0 where
  pub no_takes : takes ≡ []
  pub none : waiting ≡ 0
  pub breaks : BreaksPlan (finding_plan receiving) opened [] why left rest taken more

-- The queue was found, and each receive was done.
pub record AreAllTaken (receiving : Receiving) (opened takes : List Call) (waiting : ℕ)
    (left rest taken more : Option (List ℕ)) : Type 0 where
  pub found : finding_plan receiving opened ≡ None
  pub done : Each IsCallDone takes
  pub all : length takes ≡ count_of receiving
  pub none : waiting ≡ 0
  pub read : rest ≡ left
  pub wrote : more ≡ taken

-- The receives with a reply, if the screen ends the session: all were done, or one was refused.
abbrev pub AreTakenByScreen : (ahead waiting : ℕ) → List Call → Type 0
AreTakenByScreen ahead waiting takes =
    Each IsCallDone takes ⊎ ((error : Errno) × IsRefusedIn error ahead waiting takes)

-- The queue was found, and the screen failed at what it was to show of the receives with a reply.
pub record IsUnshown (receiving : Receiving) (opened takes : List Call) (waiting : ℕ)
    (left rest taken more : Option (List ℕ)) : Type 0 where
  pub found : finding_plan receiving opened ≡ None
  pub some : 0 < length (shown_by (style_of_receipt receiving.receipt) takes)
  pub by : AreTakenByScreen (ahead_of receiving) waiting takes
  pub ends : EndsTaking (taking_ask receiving opened) waiting left rest taken more

-- Memory was refused before the first request.
pub record IsUnfound (opened takes : List Call) (waiting : ℕ) (left rest taken more : Option (List ℕ)) : Type 0 where
  pub no_calls : opened ≡ []
  pub no_takes : takes ≡ []
  pub none : waiting ≡ 0
  pub read : rest ≡ left
  pub wrote : more ≡ taken

-- The screen failed at the message of the last receive with a reply. What it had taken before it is the
-- messages before that one, and of that one it has a prefix. Nothing was requested or read afterwards.
pub record StopsAtLast (style : Style) (takes : List Call) (waiting : ℕ)
    (left rest taken more shown after : Option (List ℕ)) : Type 0 where
  pub before : List Call
  pub last : Call
  pub split : takes ≡ before ++ last ∷ []
  pub none : waiting ≡ 0
  pub read : rest ≡ left
  pub wrote : more ≡ taken
  pub mid : Option (List ℕ)  -- what the screen had taken before that message
  pub showed : Appends shown mid (shown_by style before)
  pub shows : AppendsPrefix mid after (received_text style last.answer last.given)

-- If only one receive is on its way at a time, the session stops at the message that the screen failed at.
abbrev pub StopsAtOnce : Receiving → Result ⊤ Stop → (takes : List Call) → (waiting : ℕ) →
    (left rest taken more shown after : Option (List ℕ)) → Type 0
StopsAtOnce receiving (Ok done) takes waiting left rest taken more shown after = ⊤
StopsAtOnce receiving (Err (Fault why)) takes waiting left rest taken more shown after = ⊤
StopsAtOnce receiving (Err (Screen unshown)) takes waiting left rest taken more shown after =
    ahead_of receiving ≡ 1
    → StopsAtLast (style_of_receipt receiving.receipt) takes waiting left rest taken more shown after

-- How a session ends after these calls, with this number of receives on their way: all messages
-- came, or the screen failed, or a request is refused or has no reply, or memory was refused.
abbrev pub EndsTakes : Receiving → Result ⊤ Stop → (opened takes : List Call) → (waiting : ℕ) →
    (left rest taken more : Option (List ℕ)) → Type 0
EndsTakes receiving (Ok done) opened takes waiting left rest taken more =
    AreAllTaken receiving opened takes waiting left rest taken more
EndsTakes receiving (Err (Screen unshown)) opened takes waiting left rest taken more =
    IsUnshown receiving opened takes waiting left rest taken more
EndsTakes receiving (Err (Fault (fault.Refused error))) opened takes waiting left rest taken more =
    BreaksFinding receiving (fault.Refused error) opened takes waiting left rest taken more
    ⊎ IsStopped receiving (fault.Refused error) opened takes waiting left rest taken more
EndsTakes receiving (Err (Fault fault.NoReply)) opened takes waiting left rest taken more =
    BreaksFinding receiving fault.NoReply opened takes waiting left rest taken more
    ⊎ IsStopped receiving fault.NoReply opened takes waiting left rest taken more
EndsTakes receiving (Err (Fault fault.NoMemory)) opened takes waiting left rest taken more =
    IsUnfound opened takes waiting left rest taken more

-- What was shown by the time the session ended: the text of its messages, or a prefix of it if the
-- screen failed.
abbrev pub ShowsCalls : Result ⊤ Stop → List ℕ → (shown after : Option (List ℕ)) → Type 0
ShowsCalls (Ok done) text shown after = Appends shown after text
ShowsCalls (Err (Fault why)) text shown after = Appends shown after text
ShowsCalls (Err (Screen unshown)) text shown after = AppendsPrefix shown after text

-- The screen ended the session.
abbrev pub is_of_screen : Result ⊤ Stop → Bool
is_of_screen (Ok done) = false
is_of_screen (Err (Fault why)) = false
is_of_screen (Err (Screen unshown)) = true

-- A session that ended this way. What was read is the replies to its requests, and then what ended
-- it. What was written is those requests, and then the receives without a reply, or a prefix of
-- them. No more was requested than the messages to receive.
pub record TakesAll (receiving : Receiving) (ended : Result ⊤ Stop)
    (left rest taken more shown after : Option (List ℕ)) :
    Type 0 where
  pub opened : List Call  -- the requests before the first receive, with their replies
  pub takes : List Call  -- the receives with a reply
  pub waiting : ℕ  -- the number of receives without one
  pub unread : Option (List ℕ)  -- what the reader had left after the replies
  pub written : Option (List ℕ)  -- what the writer had taken of the requests with a reply
  pub follows : FollowsPlan IsCallDone (finding_plan receiving) [] opened
  pub replied : Each (IsReplied (taking_ask receiving opened)) takes
  pub few : waiting ≤ ahead_of receiving
  pub owed : length takes + waiting ≤ count_of receiving
  pub reads : Consumes left unread (read_by (opened ++ takes))
  pub writes : Appends taken written (written_by (opened ++ takes))
  pub ends : EndsTakes receiving ended opened takes waiting unread rest written more
  pub shows : ShowsCalls ended (shown_by (style_of_receipt receiving.receipt) takes) shown after
  pub at_once : StopsAtOnce receiving ended takes waiting unread rest written more shown after

-- The line that reports why a session ended early. It is empty if the screen failed.
abbrev pub stop_line : Stop → List ℕ
stop_line (Fault why) = fault_line why
stop_line (Screen unshown) = []
