-- A session of sends in progress (this project's word is a window): some sends have their replies,
-- and some are on their way.
use Rattle.std.specs.Prelude.{◌≡◌, ◌≤◌, ◌⊎◌, ◌+◌, ◌-◌, ◌^◌, ⊤, ℕ, ℤ, pos, List, [], ◌∷◌, ◌++◌, length, Option, None}
use Rattle.std.specs.Prelude.{Result, Ok, Err}
use Rattle.std.specs.Io.KnownBytes.{Appends, Consumes}
use Rattle.sysv_clients.specs.declared.fault.ClientFault.{ClientFault}
use Rattle.sysv_clients.specs.declared.fault.ClientFault.TheVariants as fault
use Rattle.sysv_clients.specs.declared.sending.Cut.{Cut as ACut}
use Rattle.sysv_clients.specs.declared.sending.Heard.{Heard}
use Rattle.sysv_clients.specs.declared.sending.Heard.TheVariants.{Done, Refused, Lost}
use Rattle.sysv_clients.specs.declared.sending.Sending.{Sending}
use Rattle.sysv_clients.specs.declared.sending.Unsent.{Unsent}
use Rattle.sysv_clients.specs.declared.sending.Unsent.TheVariants.{Fault, Cut, Long, NoObject, Memory, Many, Input}
use Rattle.sysv_clients.specs.declared.sending.Window.{Window}
use Rattle.sysv_clients.specs.declared.sending.Wording.{Wording}
use Rattle.sysv_clients.specs.Asks.{request_of}
use Rattle.sysv_clients.specs.Calls.{BreaksPlan, Call, Each, FollowsPlan, IsCallDone, Made, id_in, read_by, written_by}
use Rattle.sysv_clients.specs.Lines.{HasNone, IsNext, IsTooLong}
use Rattle.sysv_clients.specs.Sending.{AreSends, HasReply, IsCutBy, SendsAll, Sent, a_send, frames_of, opening_plan}
use Rattle.sysv_clients.specs.Sending.{sent_by, window_of}
use Rattle.sysv_clients.specs.Stated.{States, StatesNone, line_most}
use Rattle.sysv_clients.specs.Dialogue.{HasNoReply, IsDone, reply_to}
use Rattle.sysv_model.specs.declared.flags.Flags.{Flags}
use Rattle.sysv_model.specs.Writing.{AppendsPrefix}
use Rattle.sysv_wire.specs.declared.reply.ReplyContent.{ReplyContent}
use Rattle.sysv_wire.specs.declared.reply.ReplyContent.TheVariants as content
use Rattle.sysv_wire.specs.declared.request.Ask.{Ask}
use Rattle.sysv_wire.specs.declared.request.Ask.TheVariants.{Snd}
use Rattle.sysv_wire.specs.Replies.{reply_encoding}
use Rattle.sysv_wire.specs.Requests.{request_encoding}

-- A send ended the session.
abbrev pub IsCut : Unsent → Type 0
IsCut (Cut cut) = ⊤
IsCut (Fault why) = ⊥
IsCut (Long before) = ⊥
IsCut (NoObject before) = ⊥
IsCut (Memory before) = ⊥
IsCut Many = ⊥
IsCut (Input why) = ⊥

-- The requests before the first send were made, or one of them ends the session.
abbrev pub Opens : Sending → Result Window ClientFault → (left rest taken more : Option (List ℕ)) → Type 0
Opens sending (Ok window) left rest taken more =
    (opened : List Call) × Made IsCallDone (opening_plan sending) opened left rest taken more
    × (opening_plan sending opened ≡ None) × (window.id ≡ id_in opened) × (window.done ≡ 0)
    × (window.waiting ≡ 0)
Opens sending (Err why) left rest taken more =
    (opened : List Call) × (unread written : Option (List ℕ))
    × Made IsCallDone (opening_plan sending) opened left unread taken written
    × BreaksPlan (opening_plan sending) opened [] why unread rest written more

-- What was read as the reply to a send.
abbrev pub HearsSend : Heard → (left rest : Option (List ℕ)) → Type 0
HearsSend Done left rest =
    (answer : ReplyContent) × (given : List ℕ) × Consumes left rest (reply_encoding (reply_to a_send answer) given)
    × IsDone a_send answer given
HearsSend (Refused error) left rest =
    Consumes left rest (reply_encoding (reply_to a_send (content.Refused error)) [])
HearsSend Lost left rest = HasNoReply a_send left rest

-- The request sends a message.
abbrev pub IsSnd : Ask → Type 0
IsSnd ask = (id : ℤ) × (mtype : ℤ) × (flags : Flags) × (ask ≡ Snd id mtype flags)

-- Each of these requests does.
abbrev pub AreSnds : List Sent → Type 0
AreSnds [] = ⊤
AreSnds (sent ∷ more) = IsSnd sent.ask × AreSnds more

-- The window with one more send on its way.
abbrev pub one_more : Window → Window
one_more window = record { id = window.id; done = window.done; waiting = window.waiting + 1 }

-- How a session ends that has no reply to the sends on their way.
abbrev pub lost : Window → ACut
lost window =
    record { before = window.done; fault = fault.NoReply; after = 0; unknown = window.waiting }

-- A send was written, or the writer failed in it and took a prefix of it.
abbrev pub PutsSend : Result ⊤ Unsent → Sent → (taken more : Option (List ℕ)) → (before after : Window) → Type 0
PutsSend (Ok done) sent taken more before after =
    Appends taken more (request_encoding (request_of sent.ask) sent.text) × (after ≡ one_more before)
PutsSend (Err (Cut cut)) sent taken more before after =
    AppendsPrefix taken more (request_encoding (request_of sent.ask) sent.text) × (cut ≡ lost (one_more before))
PutsSend (Err (Fault why)) sent taken more before after = ⊥
PutsSend (Err (Long lines)) sent taken more before after = ⊥
PutsSend (Err (NoObject lines)) sent taken more before after = ⊥
PutsSend (Err (Memory lines)) sent taken more before after = ⊥
PutsSend (Err Many) sent taken more before after = ⊥
PutsSend (Err (Input why)) sent taken more before after = ⊥

-- Of these sends, which were on their way, the first ones were done, and the others are still on their way.
pub record HearsDone (waiting : List Sent) (left rest : Option (List ℕ)) (before after : Window) : Type 0 where
  pub calls : List Call
  pub others : List Sent
  pub split : waiting ≡ sent_by calls ++ others
  pub snds : AreSnds others
  pub done : Each IsCallDone calls
  pub reads : Consumes left rest (read_by calls)
  pub id : after.id ≡ before.id
  pub many : after.done ≡ before.done + length calls
  pub waits : after.waiting ≡ length others

-- One of these sends, which were on their way, ends the session: the first ones have a reply, by the cut, and the
-- others none, since nothing was read for them, or no reply.
pub record HearsCut (waiting : List Sent) (left rest : Option (List ℕ)) (before : Window) (cut : ACut) :
    Type 0 where
  pub calls : List Call
  pub others : List Sent
  pub split : waiting ≡ sent_by calls ++ others
  pub answered : Each HasReply calls
  pub unread : Option (List ℕ)
  pub reads : Consumes left unread (read_by calls)
  pub own : ℕ  -- the number of these sends before the one that ends the session
  pub by : IsCutBy cut.fault (record cut { before = own }) calls
  pub counted : cut.before ≡ before.done + own
  pub unknown : cut.unknown ≡ length others
  pub ends : (rest ≡ unread) ⊎ HasNoReply a_send unread rest

-- The replies to these sends were read, until no more than some have none, or one of them ends the session.
abbrev pub HearsSends : Result ⊤ Unsent → List Sent → (left rest : Option (List ℕ)) → (before after : Window) → Type 0
HearsSends (Ok done) waiting left rest before after = HearsDone waiting left rest before after
HearsSends (Err (Cut cut)) waiting left rest before after = HearsCut waiting left rest before cut
HearsSends (Err (Fault why)) waiting left rest before after = ⊥
HearsSends (Err (Long lines)) waiting left rest before after = ⊥
HearsSends (Err (NoObject lines)) waiting left rest before after = ⊥
HearsSends (Err (Memory lines)) waiting left rest before after = ⊥
HearsSends (Err Many) waiting left rest before after = ⊥
HearsSends (Err (Input why)) waiting left rest before after = ⊥

-- The queue was found, and lines were sent. Those sends that have a reply were done.
pub record Sends (sending : Sending) (left rest taken more fed unsent : Option (List ℕ)) (window : Window) :
    Type 0 where
  pub opened : List Call
  pub sends : List Call
  pub waiting : List Sent
  pub follows : FollowsPlan IsCallDone (opening_plan sending) [] opened
  pub found : opening_plan sending opened ≡ None
  pub id : window.id ≡ id_in opened
  pub done : Each IsCallDone sends
  pub reads : Consumes left rest (read_by (opened ++ sends))
  pub writes : Appends taken more (written_by (opened ++ sends) ++ frames_of waiting)
  pub lines : AreSends sending (id_in opened) (sent_by sends ++ waiting) fed unsent
  pub many : window.done ≡ length sends
  pub waits : window.waiting ≡ length waiting
  pub few : window.waiting ≤ window_of sending

-- A send ends the session, however far its input was read.
abbrev pub EndsCut : Sending → Unsent → (left rest taken more fed : Option (List ℕ)) → Type 0
EndsCut sending why left rest taken more fed =
    (unfed : Option (List ℕ)) → SendsAll sending (Err why) left rest taken more fed unfed

-- Replies were read until no more than this number of sends have none, or one of them ends the
-- session.
abbrev pub Drains : Sending → Result ⊤ Unsent → ℕ → (left rest taken more fed unsent : Option (List ℕ)) →
    (before after : Window) → Type 0
Drains sending (Ok done) keep left rest taken more fed unsent before after =
    Sends sending left rest taken more fed unsent after × (after.waiting ≤ keep)
    × (after.done + after.waiting ≡ before.done + before.waiting)
Drains sending (Err why) keep left rest taken more fed unsent before after =
    EndsCut sending why left rest taken more fed

-- What was read as the message that a line states, after this number of lines: its type, and its body.
abbrev pub ReadsMessage : Wording → (lines : ℕ) → Result ℤ Unsent → (line text : List ℕ) → Type 0
ReadsMessage wording lines (Ok mtype) line text = States wording line mtype text
ReadsMessage wording lines (Err (NoObject before)) line text = (before ≡ lines) × StatesNone wording line
ReadsMessage wording lines (Err (Memory before)) line text = before ≡ lines
ReadsMessage wording lines (Err (Long before)) line text = ⊥
ReadsMessage wording lines (Err Many) line text = ⊥
ReadsMessage wording lines (Err (Input why)) line text = ⊥
ReadsMessage wording lines (Err (Fault why)) line text = ⊥
ReadsMessage wording lines (Err (Cut cut)) line text = ⊥

-- How the lines of an input end after this number of them, apart from their sends.
abbrev pub EndsLines : Wording → Result ⊤ Unsent → ℕ → (fed unfed : Option (List ℕ)) → Type 0
EndsLines wording (Ok done) lines fed unfed = HasNone fed unfed
EndsLines wording (Err (Long before)) lines fed unfed =
    (before ≡ lines) × (text : List ℕ) × IsTooLong (line_most wording) text fed unfed
EndsLines wording (Err (NoObject before)) lines fed unfed =
    (before ≡ lines) × (line : List ℕ) × IsNext (line_most wording) line fed unfed × StatesNone wording line
EndsLines wording (Err (Memory before)) lines fed unfed =
    (before ≡ lines) × (line : List ℕ) × IsNext (line_most wording) line fed unfed
EndsLines wording (Err Many) lines fed unfed = (unfed ≡ fed) × (lines ≡ 2 ^ 64 - 1)
EndsLines wording (Err (Input why)) lines fed unfed = ⊤
EndsLines wording (Err (Fault why)) lines fed unfed = ⊥
EndsLines wording (Err (Cut cut)) lines fed unfed = ⊥

-- A window without sends, to no queue yet.
abbrev pub empty : Window
empty = record { id = pos 0; done = 0; waiting = 0 }
