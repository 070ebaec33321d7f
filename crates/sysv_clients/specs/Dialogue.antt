-- A client's dialogue with a server (this project's programs): the client writes a request and reads
-- the reply, and its next request depends on the replies before. An ipcs requests several rows at
-- once, and then reads the replies. A client that holds messages uses version 3 of the frames, and any other
-- one version 2: that is the version where none is named.
use Rattle.std.specs.Prelude.{◌≡◌, ◌≢◌, ◌⊎◌, ◌+◌, ◌<◌, ◌≤◌, ⊤, ℕ, ℤ, pos, List, [], ◌∷◌, ◌++◌, length, true, Option}
use Rattle.std.specs.Prelude.{None, Some, Result, Ok, Err, flat_map, fold, slice_get}
use Rattle.std.specs.Io.KnownBytes.{Appends, Consumes, IsAtEnd}
use Rattle.sysv_clients.specs.declared.command.Command.{Command}
use Rattle.sysv_clients.specs.declared.command.Task.{Task}
use Rattle.sysv_clients.specs.declared.command.Task.TheVariants.{List as Table, Show, Remove, Make, Send, Receive}
use Rattle.sysv_clients.specs.declared.command.TheConstants.{ROW_WINDOW}
use Rattle.sysv_clients.specs.declared.fault.ClientFault.{ClientFault}
use Rattle.sysv_clients.specs.declared.fault.ClientFault.TheVariants as fault
use Rattle.sysv_clients.specs.Asks.{asks_of, request_of, text_of}
use Rattle.sysv_clients.specs.Style.{grows, style_of}
use Rattle.sysv_wire.specs.declared.fault.Fault.{Fault}
use Rattle.sysv_wire.specs.declared.frame.Version.{Version}
use Rattle.sysv_wire.specs.declared.frame.Version.TheVariants.{Two}
use Rattle.sysv_wire.specs.declared.reply.ReplyContent.{ReplyContent}
use Rattle.sysv_wire.specs.declared.reply.ReplyContent.TheVariants.{Refused, Hello, HelloSlots, Get, Snd, Rcv, Stat}
use Rattle.sysv_wire.specs.declared.reply.ReplyContent.TheVariants.{Set, Rm, Row, Hold, Done, Back}
use Rattle.sysv_wire.specs.declared.reply.Reply.{Reply}
use Rattle.sysv_wire.specs.declared.request.Ask.{Ask}
use Rattle.sysv_wire.specs.Faults.{Faults}
use Rattle.sysv_wire.specs.Frames.{IsUpTo, op_number}
use Rattle.sysv_wire.specs.Replies.{FitsReply, error_number, content_text, reply_encoding}
use Rattle.sysv_wire.specs.ReplyFaults.{ReplyFault}
use Rattle.sysv_wire.specs.Requests.{op_of, request_encoding}
use Rattle.sysv_model.specs.Writing.{AppendsPrefix}

-- A request, and the result in its reply with the body.
pub record Exchange : Type 0 where
  pub ask : Ask
  pub answer : ReplyContent
  pub given : List ℕ

-- The reply to a request with this result, in this version.
abbrev pub reply_in : Version → Ask → ReplyContent → Reply
reply_in version ask answer = record { version = version; op = op_number (op_of ask); result = answer }

-- The reply to a request of a client that holds no messages.
abbrev pub reply_to : Ask → ReplyContent → Reply
reply_to ask answer = reply_in Two ask answer

-- The request was done: the result is one that the operation may have in this version, and is no error.
pub record IsDoneIn (version : Version) (ask : Ask) (answer : ReplyContent) (given : List ℕ) : Type 0 where
  pub fits : FitsReply (reply_in version ask answer) given
  pub text : given ≡ content_text answer given
  pub done : error_number answer ≡ 0

-- The same for a client that holds no messages.
abbrev pub IsDone : Ask → ReplyContent → List ℕ → Type 0
IsDone ask answer given = IsDoneIn Two ask answer given

-- The frame of a request. That of a send has the command's body.
abbrev pub ask_encoding : Command → Ask → List ℕ
ask_encoding command ask = request_encoding (request_of ask) (text_of command.task)

-- The frames of the requests, in order.
abbrev pub asked_encoding : Command → List Exchange → List ℕ
asked_encoding command exchanges = flat_map (λ exchange. ask_encoding command exchange.ask) exchanges

-- The frames of the replies, in order.
abbrev pub answered_encoding : List Exchange → List ℕ
answered_encoding exchanges =
    flat_map (λ exchange. reply_encoding (reply_to exchange.ask exchange.answer) exchange.given) exchanges

-- The identifier that the last msgget returned, 0 before one.
abbrev pub id_after : ℤ → ReplyContent → ℤ
id_after found (Get id) = id
id_after found (Refused error) = found
id_after found Hello = found
id_after found (HelloSlots slots) = found
id_after found Snd = found
id_after found (Rcv mtype) = found
id_after found (Stat stat) = found
id_after found Set = found
id_after found Rm = found
id_after found Done = found
id_after found Back = found
id_after found (Hold mtype) = found
id_after found (Row row) = found

-- The number of slots that the reply to the hello states, 0 before it.
abbrev pub slots_after : ℕ → ReplyContent → ℕ
slots_after slots (HelloSlots told) = told
slots_after slots (Refused error) = slots
slots_after slots Hello = slots
slots_after slots (Get id) = slots
slots_after slots Snd = slots
slots_after slots (Rcv mtype) = slots
slots_after slots (Stat stat) = slots
slots_after slots Set = slots
slots_after slots Rm = slots
slots_after slots Done = slots
slots_after slots Back = slots
slots_after slots (Hold mtype) = slots
slots_after slots (Row row) = slots

-- The number of slots that the reply to the hello states, after these exchanges.
abbrev pub slots_in : List Exchange → ℕ
slots_in exchanges = fold (λ slots exchange. slots_after slots exchange.answer) 0 exchanges

-- The identifier that the last msgget returned, after these exchanges.
abbrev pub found_in : List Exchange → ℤ
found_in exchanges = fold (λ found exchange. id_after found exchange.answer) (pos 0) exchanges

-- What the command requests next. Nothing if all requests were made.
abbrev pub next_ask : Command → List Exchange → Option Ask
next_ask command exchanges = slice_get (asks_of command (slots_in exchanges) (found_in exchanges)) (length exchanges)

-- These are the items of a list from this place on, in order, and possibly not all of them.
abbrev pub StandAt : List Ask → ℕ → List Ask → Type 0
StandAt all place [] = ⊤
StandAt all place (ask ∷ more) = (slice_get all place ≡ Some ask) × StandAt all (place + 1) more

-- These are the requests that the command makes next, in order, and possibly not all of them.
abbrev pub AreNext : Command → List Exchange → List Ask → Type 0
AreNext command exchanges asks =
    StandAt (asks_of command (slots_in exchanges) (found_in exchanges)) (length exchanges) asks

-- The maximum number of requests that are on their way: written, and without a reply.
abbrev pub on_way_most : Task → ℕ
on_way_most (Table format) = ROW_WINDOW
on_way_most (Show id) = 1
on_way_most (Remove target) = 1
on_way_most (Make making) = 1
on_way_most (Send key text mtype nowait) = 1
on_way_most (Receive receipt) = 1

-- The frames of requests with this body, in order.
abbrev pub asks_encoding : List Ask → List ℕ → List ℕ
asks_encoding asks text = flat_map (λ ask. request_encoding (request_of ask) text) asks

-- After some exchanges, these follow: each request is what the command requests next, and was done.
abbrev pub Follows : Command → List Exchange → List Exchange → Type 0
Follows command before [] = ⊤
Follows command before (exchange ∷ more) =
    (next_ask command before ≡ Some exchange.ask) × IsDone exchange.ask exchange.answer exchange.given
    × Follows command (before ++ exchange ∷ []) more

-- Exchanges of a command from its start on, possibly not all of them.
abbrev pub Conversed : Command → List Exchange → Type 0
Conversed command exchanges = Follows command [] exchanges

-- The reply is of another version, or of another operation.
abbrev pub IsOtherIn : Version → Ask → Reply → Type 0
IsOtherIn version ask reply = (reply.version ≢ version) ⊎ (reply.op ≢ op_number (op_of ask))

abbrev pub IsOther : Ask → Reply → Type 0
IsOther ask reply = IsOtherIn Two ask reply

-- What was read is no reply in this version to a request: the input is at its end, or there is a fault,
-- or it is another reply.
abbrev pub HasNoReplyIn : Version → Ask → (left rest : Option (List ℕ)) → Type 0
HasNoReplyIn version ask left rest =
    (Consumes left rest [] × IsAtEnd rest)
    ⊎ ((fault : Fault) × Faults (ReplyFault version) fault left rest)
    ⊎ ((reply : Reply) × (text : List ℕ) × FitsReply reply text × IsOtherIn version ask reply
    × Consumes left rest (reply_encoding reply text) × IsUpTo version reply.version)

abbrev pub HasNoReply : Ask → (left rest : Option (List ℕ)) → Type 0
HasNoReply ask left rest = HasNoReplyIn Two ask left rest

-- What was read as the reply in this version to a request.
abbrev pub HearsIn : Version → Ask → Result ReplyContent ClientFault → (left rest : Option (List ℕ)) → List ℕ → Type 0
HearsIn version ask (Ok answer) left rest given =
    Consumes left rest (reply_encoding (reply_in version ask answer) given) × IsDoneIn version ask answer given
HearsIn version ask (Err (fault.Refused error)) left rest given =
    Consumes left rest (reply_encoding (reply_in version ask (Refused error)) [])
HearsIn version ask (Err fault.NoReply) left rest given = HasNoReplyIn version ask left rest
HearsIn version ask (Err fault.NoMemory) left rest given = ⊥

abbrev pub Hears : Ask → Result ReplyContent ClientFault → (left rest : Option (List ℕ)) → List ℕ → Type 0
Hears ask result left rest given = HearsIn Two ask result left rest given

-- A prefix of a request was written, which may be all of it, and nothing was read.
abbrev pub IsUnwritten : List ℕ → (left rest taken more : Option (List ℕ)) → Type 0
IsUnwritten frame left rest taken more = AppendsPrefix taken more frame × (rest ≡ left)

-- A request was written and its reply in this version read, or there is no reply to it.
abbrev pub ExchangesIn : Version → List ℕ → Ask → Result ReplyContent ClientFault →
    (left rest taken more : Option (List ℕ)) → List ℕ → Type 0
ExchangesIn version frame ask (Ok answer) left rest taken more given =
    Appends taken more frame × HearsIn version ask (Ok answer) left rest given
ExchangesIn version frame ask (Err (fault.Refused error)) left rest taken more given =
    Appends taken more frame × HearsIn version ask (Err (fault.Refused error)) left rest given
ExchangesIn version frame ask (Err fault.NoReply) left rest taken more given =
    IsUnwritten frame left rest taken more
    ⊎ (Appends taken more frame × HearsIn version ask (Err fault.NoReply) left rest given)
ExchangesIn version frame ask (Err fault.NoMemory) left rest taken more given = ⊥

abbrev pub Exchanges : List ℕ → Ask → Result ReplyContent ClientFault → (left rest taken more : Option (List ℕ)) →
    List ℕ → Type 0
Exchanges frame ask result left rest taken more given = ExchangesIn Two frame ask result left rest taken more given

-- The next request ends the dialogue with a fault. It was written with some of the requests after it.
abbrev pub BreaksOff : Command → List Exchange → ClientFault → (left rest taken more : Option (List ℕ)) → Type 0
BreaksOff command exchanges why left rest taken more =
    (ask : Ask) × (ahead : List Ask) × AreNext command exchanges (ask ∷ ahead)
    × (length (ask ∷ ahead) ≤ on_way_most command.task)
    × Exchanges (asks_encoding (ask ∷ ahead) (text_of command.task)) ask (Err why) left rest taken more []

-- What is shown of the last reply takes memory as it comes.
abbrev pub EndsWithGrowth : Command → List Exchange → Type 0
EndsWithGrowth command exchanges = (before : List Exchange) × (last : Exchange) × (exchanges ≡ before ++ last ∷ [])
    × (grows (style_of command.task) last.answer ≡ true)

-- Memory for what is shown of the last reply was refused. Some of the requests after it were written.
abbrev pub LacksLine : Command → List Exchange → (taken more : Option (List ℕ)) → Type 0
LacksLine command exchanges taken more =
    EndsWithGrowth command exchanges × (ahead : List Ask) × AreNext command exchanges ahead
    × (length ahead < on_way_most command.task) × Appends taken more (asks_encoding ahead (text_of command.task))

-- How a dialogue ends after these exchanges: all requests were made, or the next request ends it, or
-- memory was refused, either before the first request or for what is shown of the last reply.
abbrev pub EndsDialogue : Command → List Exchange → Result ⊤ ClientFault → (left rest taken more : Option (List ℕ)) →
    Type 0
EndsDialogue command exchanges (Ok done) left rest taken more =
    (next_ask command exchanges ≡ None) × (rest ≡ left) × (more ≡ taken)
EndsDialogue command exchanges (Err (fault.Refused error)) left rest taken more =
    BreaksOff command exchanges (fault.Refused error) left rest taken more
EndsDialogue command exchanges (Err fault.NoReply) left rest taken more =
    BreaksOff command exchanges fault.NoReply left rest taken more
EndsDialogue command exchanges (Err fault.NoMemory) left rest taken more =
    (rest ≡ left) × (((exchanges ≡ []) × (more ≡ taken)) ⊎ LacksLine command exchanges taken more)

-- A dialogue that ended this way. What was read is the replies to its requests, and then what ended it.
-- What was written is those requests, and then the ones without a reply, or a prefix of them if the
-- writer failed.
pub record Converses (command : Command) (exchanges : List Exchange) (ended : Result ⊤ ClientFault)
    (left rest taken more : Option (List ℕ)) : Type 0 where
  pub conversed : Conversed command exchanges
  pub unread : Option (List ℕ)  -- what the reader had left after these exchanges
  pub written : Option (List ℕ)  -- what the writer had taken
  pub reads : Consumes left unread (answered_encoding exchanges)
  pub writes : Appends taken written (asked_encoding command exchanges)
  pub ends : EndsDialogue command exchanges ended unread rest written more
