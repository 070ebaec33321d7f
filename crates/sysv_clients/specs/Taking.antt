-- A session of several messages in progress: the queue was found, and some receives are on their way.
use Rattle.std.specs.Prelude.{◌≡◌, ◌+◌, ◌≤◌, ◌<◌, ⊤, ℕ, Bool, true, false, List, [], ◌++◌, length, Option, None, Result}
use Rattle.std.specs.Prelude.{Ok, Err, Some}
use Rattle.std.specs.Io.KnownBytes.{Appends, Consumes}
use Rattle.sysv_clients.specs.declared.fault.ClientFault.{ClientFault}
use Rattle.sysv_clients.specs.declared.fault.ClientFault.TheVariants as fault
use Rattle.sysv_clients.specs.declared.stream.Receiving.{Receiving}
use Rattle.sysv_clients.specs.declared.stream.Stop.{Stop}
use Rattle.sysv_clients.specs.declared.stream.Stop.TheVariants.{Fault}
use Rattle.sysv_clients.specs.declared.stream.Taking.{Taking}
use Rattle.sysv_clients.specs.declared.stream.Took.{Took}
use Rattle.sysv_clients.specs.declared.stream.Took.TheVariants.{Message, Refused, Lost, Unshown}
use Rattle.sysv_clients.specs.declared.style.Style.{Style}
use Rattle.sysv_clients.specs.Calls.{BreaksPlan, Call, Each, FollowsPlan, IsCallDone, Made, read_by, written_by}
use Rattle.sysv_clients.specs.Stream.{IsReplied, ahead_of, count_of, finding_plan, received_text, repeated_encoding}
use Rattle.sysv_clients.specs.Stream.{EndsTakes, IsRefusedIn, shown_by, taking_ask}
use Rattle.sysv_clients.specs.Style.{style_of_receipt}
use Rattle.sysv_clients.specs.Dialogue.{HasNoReply, IsDone, reply_to}
use Rattle.sysv_model.specs.declared.errno.Errno.{Errno}
use Rattle.sysv_model.specs.declared.instrumented.WriteFault.{WriteFault}
use Rattle.sysv_model.specs.Writing.{AppendsPrefix}
use Rattle.sysv_wire.specs.declared.reply.ReplyContent.{ReplyContent}
use Rattle.sysv_wire.specs.declared.reply.ReplyContent.TheVariants as content
use Rattle.sysv_wire.specs.declared.request.Ask.{Ask}
use Rattle.sysv_wire.specs.Replies.{reply_encoding}

-- The requests before the first receive were made, or one of them ends the session.
abbrev pub Finds : Receiving → Result Taking ClientFault → (left rest taken more : Option (List ℕ)) → Type 0
Finds receiving (Ok taking) left rest taken more =
    (opened : List Call) × Made IsCallDone (finding_plan receiving) opened left rest taken more
    × (finding_plan receiving opened ≡ None) × (taking.ask ≡ taking_ask receiving opened)
    × (taking.owed ≡ count_of receiving) × (taking.waiting ≡ 0)
Finds receiving (Err why) left rest taken more =
    (opened : List Call) × (unread written : Option (List ℕ))
    × Made IsCallDone (finding_plan receiving) opened left unread taken written
    × BreaksPlan (finding_plan receiving) opened [] why unread rest written more

-- The call is this request, sends no body and was done.
abbrev pub IsTaken : Ask → Call → Type 0
IsTaken ask call = (call.ask ≡ ask) × (call.text ≡ []) × IsCallDone call

-- The text was shown, but for a page at its end.
abbrev pub ShowsBut : (page text : List ℕ) → (shown after : Option (List ℕ)) → Type 0
ShowsBut page text shown after = (part : List ℕ) × (text ≡ part ++ page) × Appends shown after part

-- The screen failed at a text that has bytes, and took a prefix of it.
abbrev pub ShowsPart : List ℕ → (shown after : Option (List ℕ)) → Type 0
ShowsPart text shown after = (0 < length text) × AppendsPrefix shown after text

-- The queue was found, and messages were received. They were shown, but for those on the page.
pub record Takes (page : List ℕ) (receiving : Receiving) (left rest taken more shown after : Option (List ℕ))
    (taking : Taking) : Type 0 where
  pub opened : List Call
  pub takes : List Call
  pub follows : FollowsPlan IsCallDone (finding_plan receiving) [] opened
  pub found : finding_plan receiving opened ≡ None
  pub ask : taking.ask ≡ taking_ask receiving opened
  pub took : Each (IsTaken (taking_ask receiving opened)) takes
  pub reads : Consumes left rest (read_by (opened ++ takes))
  pub writes : Appends taken more
      (written_by (opened ++ takes) ++ repeated_encoding (taking_ask receiving opened) taking.waiting)
  pub shows : ShowsBut page (shown_by (style_of_receipt receiving.receipt) takes) shown after
  pub alone : ahead_of receiving ≡ 1 → page ≡ []
  pub owes : length takes + taking.owed ≡ count_of receiving
  pub due : taking.waiting ≤ taking.owed
  pub few : taking.waiting ≤ ahead_of receiving

-- More receives were written, so that some are on their way. Or the writer failed in some of them.
abbrev pub RequestsMore : (owed ahead : ℕ) → Result ⊤ WriteFault → (waiting now : ℕ) → Ask →
    (taken more : Option (List ℕ)) → Type 0
RequestsMore owed ahead (Ok done) waiting now ask taken more =
    (added : ℕ) × (now ≡ waiting + added) × (0 < now) × (now ≤ owed) × (now ≤ ahead)
    × Appends taken more (repeated_encoding ask added)
RequestsMore owed ahead (Err fault) waiting now ask taken more =
    (now ≡ waiting) × (added : ℕ) × (0 < added) × (waiting + added ≤ owed) × (waiting + added ≤ ahead)
    × AppendsPrefix taken more (repeated_encoding ask added)

-- What was read as the reply to this receive, and what was collected on the page and shown of it. If
-- the screen failed, it is a message. If there are no others on their way, nothing stays on the page.
abbrev pub TakesOne : (others : ℕ) → Style → Ask → Took → (left rest : Option (List ℕ)) → (page now : List ℕ) →
    (shown after : Option (List ℕ)) → Type 0
TakesOne others style ask Message left rest page now shown after =
    (answer : ReplyContent) × (given : List ℕ) × Consumes left rest (reply_encoding (reply_to ask answer) given)
    × IsDone ask answer given × ShowsBut now (page ++ received_text style answer given) shown after
    × (others ≡ 0 → page ≡ [] → now ≡ [])
TakesOne others style ask (Refused error) left rest page now shown after =
    Consumes left rest (reply_encoding (reply_to ask (content.Refused error)) []) × (now ≡ page) × (after ≡ shown)
TakesOne others style ask Lost left rest page now shown after =
    HasNoReply ask left rest × (now ≡ page) × (after ≡ shown)
TakesOne others style ask (Unshown unshown) left rest page now shown after =
    (answer : ReplyContent) × (given : List ℕ) × Consumes left rest (reply_encoding (reply_to ask answer) given)
    × IsDone ask answer given × ShowsPart (page ++ received_text style answer given) shown after

-- The screen failed.
abbrev pub is_unshown : Took → Bool
is_unshown Message = false
is_unshown (Refused error) = false
is_unshown Lost = false
is_unshown (Unshown unshown) = true

-- The receives with a reply by a fault that was met: one was refused, or all were done and the
-- writer failed in this number of later ones.
abbrev pub MeetsFault : ClientFault → (ahead waiting unwritten : ℕ) → List Call → Type 0
MeetsFault (fault.Refused error) ahead waiting unwritten takes = IsRefusedIn error ahead (waiting + unwritten) takes
MeetsFault fault.NoReply ahead waiting unwritten takes = Each IsCallDone takes × (1 ≤ unwritten)
MeetsFault fault.NoMemory ahead waiting unwritten takes = ⊥

-- The fault of the first of two receives without a message: of one that met this fault, and of one
-- that was refused with this error. A receive that the writer did not take is the later one.
abbrev pub first_fault : ClientFault → Errno → ClientFault
first_fault (fault.Refused first) error = fault.Refused first
first_fault fault.NoReply error = fault.Refused error
first_fault fault.NoMemory error = fault.Refused error

-- The session met this fault, and this number of receives is on its way. Nothing more is requested.
pub record Stops (page : List ℕ) (receiving : Receiving) (why : ClientFault)
    (left rest taken more shown after : Option (List ℕ)) (ask : Ask) (waiting : ℕ) : Type 0 where
  pub opened : List Call
  pub takes : List Call
  pub unwritten : ℕ  -- the number of receives in which the writer failed
  pub written : Option (List ℕ)  -- what the writer had taken of the others
  pub follows : FollowsPlan IsCallDone (finding_plan receiving) [] opened
  pub found : finding_plan receiving opened ≡ None
  pub asks : ask ≡ taking_ask receiving opened
  pub replied : Each (IsReplied (taking_ask receiving opened)) takes
  pub meets : MeetsFault why (ahead_of receiving) waiting unwritten takes
  pub reads : Consumes left rest (read_by (opened ++ takes))
  pub writes : Appends taken written
      (written_by (opened ++ takes) ++ repeated_encoding (taking_ask receiving opened) waiting)
  pub breaks : AppendsPrefix written more (repeated_encoding (taking_ask receiving opened) unwritten)
  pub shows : ShowsBut page (shown_by (style_of_receipt receiving.receipt) takes) shown after
  pub alone : ahead_of receiving ≡ 1 → page ≡ []
  pub owed : length takes + (waiting + unwritten) ≤ count_of receiving
  pub few : waiting + unwritten ≤ ahead_of receiving

-- How a session ends by this fault, or without one.
abbrev pub ended_by : Option ClientFault → Result ⊤ Stop
ended_by None = Ok tt
ended_by (Some why) = Err (Fault why)

-- A session that ended this way, of whose messages those on the page were not shown yet.
pub record TakesBut (page : List ℕ) (receiving : Receiving) (ended : Result ⊤ Stop)
    (left rest taken more shown after : Option (List ℕ)) :
    Type 0 where
  pub opened : List Call
  pub takes : List Call
  pub waiting : ℕ
  pub unread : Option (List ℕ)
  pub written : Option (List ℕ)
  pub follows : FollowsPlan IsCallDone (finding_plan receiving) [] opened
  pub replied : Each (IsReplied (taking_ask receiving opened)) takes
  pub few : waiting ≤ ahead_of receiving
  pub owed : length takes + waiting ≤ count_of receiving
  pub reads : Consumes left unread (read_by (opened ++ takes))
  pub writes : Appends taken written (written_by (opened ++ takes))
  pub ends : EndsTakes receiving ended opened takes waiting unread rest written more
  pub shows : ShowsBut page (shown_by (style_of_receipt receiving.receipt) takes) shown after
  pub alone : ahead_of receiving ≡ 1 → page ≡ []
