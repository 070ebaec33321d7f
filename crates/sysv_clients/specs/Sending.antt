-- A snd of several messages (this project's programs): each line of an input states a message. Sends
-- may be on their way together: written, and without a reply.
use Rattle.std.specs.Prelude.{◌≡◌, ◌≤◌, ◌⊎◌, ⊤, ℕ, ℤ, pos, ◌+◌, ◌-◌, ◌^◌, List, [], ◌∷◌, codes, ◌++◌, length, map}
use Rattle.std.specs.Prelude.{flat_map, if◌then◌else◌, Option, Some, None, Result, Ok, Err, false}
use Rattle.std.specs.Io.KnownBytes.{Appends, Consumes, prepend_known}
use Rattle.sysv_clients.specs.declared.fault.ClientFault.{ClientFault}
use Rattle.sysv_clients.specs.declared.fault.ClientFault.TheVariants as fault
use Rattle.sysv_clients.specs.declared.sending.Cut.{Cut as ACut}
use Rattle.sysv_clients.specs.declared.sending.Sending.{Sending}
use Rattle.sysv_clients.specs.declared.sending.TheConstants.{WINDOW}
use Rattle.sysv_clients.specs.declared.sending.Unsent.{Unsent}
use Rattle.sysv_clients.specs.declared.sending.Unsent.TheVariants.{Fault, Cut, Long, NoObject, Memory, Many, Input}
use Rattle.sysv_clients.specs.Asks.{flags_to_create, flags_to_wait, request_of}
use Rattle.sysv_clients.specs.Calls.{BreaksPlan, Call, Each, FollowsPlan, IsCallDone, Plan, id_in, read_by, written_by}
use Rattle.sysv_clients.specs.Faults.{fault_line}
use Rattle.sysv_clients.specs.Lines.{HasNone, IsNext, IsTooLong}
use Rattle.sysv_clients.specs.Stated.{States, StatesNone, line_most}
use Rattle.sysv_clients.specs.Dialogue.{HasNoReply}
use Rattle.sysv_model.specs.declared.errno.Errno.{Errno}
use Rattle.sysv_model.specs.Writing.{AppendsPrefix}
use Rattle.sysv_wire.specs.declared.reply.ReplyContent.{ReplyContent}
use Rattle.sysv_wire.specs.declared.reply.ReplyContent.TheVariants as content
use Rattle.sysv_wire.specs.declared.request.Ask.{Ask}
use Rattle.sysv_wire.specs.declared.request.Ask.TheVariants.{Hello, Get, Snd}
use Rattle.sysv_wire.specs.Requests.{request_encoding}

-- The request that finds the queue.
abbrev pub find_to_send : Sending → Ask
find_to_send sending = Get sending.key flags_to_create

-- The request that sends a message of this type to the queue with this identifier.
abbrev pub send_ask : Sending → (found mtype : ℤ) → Ask
send_ask sending found mtype = Snd found mtype (flags_to_wait sending.nowait)

-- Some send. The replies to all sends have one form.
abbrev pub a_send : Ask
a_send = Snd (pos 0) (pos 1) (flags_to_wait false)

-- What is requested before the first send: the hello, and then the msgget.
abbrev pub opening_plan : Sending → Plan
opening_plan sending [] = Some (Hello sending.cred)
opening_plan sending (first ∷ []) = Some (find_to_send sending)
opening_plan sending (first ∷ second ∷ more) = None

-- The number of sends that may be on their way.
abbrev pub window_of : Sending → ℕ
window_of sending = if sending.nowait then 1 else WINDOW

-- A request with the body that it sends.
pub record Sent : Type 0 where
  pub ask : Ask
  pub text : List ℕ

-- The next line states the message that this request sends to the queue with this identifier.
pub record IsNextSend (sending : Sending) (found : ℤ) (sent : Sent) (left rest : Option (List ℕ)) : Type 0 where
  pub line : List ℕ
  pub mtype : ℤ
  pub next : IsNext (line_most sending.wording) line left rest
  pub states : States sending.wording line mtype sent.text
  pub is : sent.ask ≡ send_ask sending found mtype

-- These requests send the messages that the next lines state, in order.
abbrev pub AreSends : Sending → ℤ → List Sent → (fed rest : Option (List ℕ)) → Type 0
AreSends sending found [] fed rest = Consumes fed rest []
AreSends sending found (sent ∷ more) fed rest =
    (mid : Option (List ℕ)) × IsNextSend sending found sent fed mid × AreSends sending found more mid rest

-- The requests of these calls, with their bodies.
abbrev pub sent_by : List Call → List Sent
sent_by calls = map (λ call. record { ask = call.ask; text = call.text }) calls

-- The frames of these requests, in order.
abbrev pub frames_of : List Sent → List ℕ
frames_of sents = flat_map (λ sent. request_encoding (request_of sent.ask) sent.text) sents

-- The call was refused with this error.
abbrev pub Refuses : Errno → Call → Type 0
Refuses error call = (call.answer ≡ content.Refused error) × (call.given ≡ [])

-- The request of the call has a reply: it was done or refused.
abbrev pub HasReply : Call → Type 0
HasReply call = IsCallDone call ⊎ ((error : Errno) × Refuses error call)

-- 1 if a send with this result was accepted, and otherwise 0.
abbrev pub accepts : ReplyContent → ℕ
accepts (content.Refused error) = 0
accepts content.Hello = 1
accepts (content.HelloSlots slots) = 1
accepts (content.Get id) = 1
accepts content.Snd = 1
accepts (content.Rcv mtype) = 1
accepts (content.Stat stat) = 1
accepts content.Set = 1
accepts content.Rm = 1
accepts content.Done = 1
accepts content.Back = 1
accepts (content.Hold mtype) = 1
accepts (content.Row row) = 1

-- The number of these sends that were accepted.
abbrev pub accepted_in : List Call → ℕ
accepted_in [] = 0
accepted_in (call ∷ more) = accepts call.answer + accepted_in more

-- Of these sends the first ones were accepted, the next one was refused with this error, and some
-- later ones were accepted. The numbers are those of the cut.
pub record IsRefusedAt (error : Errno) (cut : ACut) (sends : List Call) : Type 0 where
  pub first : List Call
  pub one : Call
  pub later : List Call
  pub split : sends ≡ first ++ one ∷ later
  pub done : Each IsCallDone first
  pub refused : Refuses error one
  pub before : cut.before ≡ length first
  pub after : cut.after ≡ accepted_in later

-- The sends with a reply, by the fault of a cut: one was refused, or all were accepted and a later
-- one has no reply.
abbrev pub IsCutBy : ClientFault → ACut → List Call → Type 0
IsCutBy (fault.Refused error) cut sends = IsRefusedAt error cut sends
IsCutBy fault.NoReply cut sends =
    Each IsCallDone sends × (cut.before ≡ length sends) × (cut.after ≡ 0) × (1 ≤ cut.unknown)
IsCutBy fault.NoMemory cut sends = ⊥

-- Why there is no reply to these sends: there are none; or the writer failed, and took a prefix of
-- their frames, which may be all of them; or what was read is no reply.
abbrev pub EndsReplies : List Sent → (left rest taken more : Option (List ℕ)) → Type 0
EndsReplies waiting left rest taken more =
    ((waiting ≡ []) × (rest ≡ left) × (more ≡ taken))
    ⊎ (AppendsPrefix taken more (frames_of waiting) × (rest ≡ left))
    ⊎ (Appends taken more (frames_of waiting) × HasNoReply a_send left rest)

-- The queue was found, and every send that was written was done.
pub record AreDone (sending : Sending) (opened sends : List Call) (waiting : List Sent)
    (left rest taken more : Option (List ℕ)) : Type 0 where
  pub found : opening_plan sending opened ≡ None
  pub done : Each IsCallDone sends
  pub none : waiting ≡ []
  pub read : rest ≡ left
  pub wrote : more ≡ taken

-- No send was written, since a request before the first one ends the session with this fault.
pub record BreaksOpening (sending : Sending) (why : ClientFault) (opened sends : List Call)
    (waiting : List Sent) (left rest taken more : Option (List ℕ)) : Type 0 where
  pub no_sends : sends ≡ []
  pub none : waiting ≡ []
  pub breaks : BreaksPlan (opening_plan sending) opened [] why left rest taken more

-- Memory was refused before the first request.
pub record IsUnopened (opened sends : List Call) (waiting : List Sent) (left rest taken more : Option (List ℕ)) :
    Type 0 where
  pub no_calls : opened ≡ []
  pub no_sends : sends ≡ []
  pub none : waiting ≡ []
  pub read : rest ≡ left
  pub wrote : more ≡ taken

-- The queue was found, and a send was refused or has no reply.
pub record IsCutOff (sending : Sending) (cut : ACut) (opened sends : List Call) (waiting : List Sent)
    (left rest taken more : Option (List ℕ)) : Type 0 where
  pub found : opening_plan sending opened ≡ None
  pub by : IsCutBy cut.fault cut sends
  pub unknown : cut.unknown ≡ length waiting
  pub ends : EndsReplies waiting left rest taken more

-- How a session ends after these calls, with these sends on their way: the input has no further
-- line, or the next line is too long or states no message, or memory for it was refused, or 2^64 - 1
-- lines were sent, or the input could not be read, or a send was refused or has no reply, or a
-- request before the first send ends it, or memory was refused before the first request.
abbrev pub EndsSends : Sending → Result ⊤ Unsent → (opened sends : List Call) → (waiting : List Sent) →
    (left rest taken more fed unfed : Option (List ℕ)) → Type 0
EndsSends sending (Ok done) opened sends waiting left rest taken more fed unfed =
    AreDone sending opened sends waiting left rest taken more × HasNone fed unfed
EndsSends sending (Err (Long before)) opened sends waiting left rest taken more fed unfed =
    AreDone sending opened sends waiting left rest taken more × (before ≡ length sends)
    × (text : List ℕ) × IsTooLong (line_most sending.wording) text fed unfed
EndsSends sending (Err (NoObject before)) opened sends waiting left rest taken more fed unfed =
    AreDone sending opened sends waiting left rest taken more × (before ≡ length sends)
    × (line : List ℕ) × IsNext (line_most sending.wording) line fed unfed × StatesNone sending.wording line
EndsSends sending (Err (Memory before)) opened sends waiting left rest taken more fed unfed =
    AreDone sending opened sends waiting left rest taken more × (before ≡ length sends)
    × (line : List ℕ) × IsNext (line_most sending.wording) line fed unfed
EndsSends sending (Err Many) opened sends waiting left rest taken more fed unfed =
    AreDone sending opened sends waiting left rest taken more × (unfed ≡ fed) × (length sends ≡ 2 ^ 64 - 1)
EndsSends sending (Err (Input why)) opened sends waiting left rest taken more fed unfed =
    AreDone sending opened sends waiting left rest taken more
EndsSends sending (Err (Cut cut)) opened sends waiting left rest taken more fed unfed =
    IsCutOff sending cut opened sends waiting left rest taken more
EndsSends sending (Err (Fault (fault.Refused error))) opened sends waiting left rest taken more fed unfed =
    BreaksOpening sending (fault.Refused error) opened sends waiting left rest taken more × (unfed ≡ fed)
EndsSends sending (Err (Fault fault.NoReply)) opened sends waiting left rest taken more fed unfed =
    BreaksOpening sending fault.NoReply opened sends waiting left rest taken more × (unfed ≡ fed)
EndsSends sending (Err (Fault fault.NoMemory)) opened sends waiting left rest taken more fed unfed =
    IsUnopened opened sends waiting left rest taken more × (unfed ≡ fed)

-- A session that ended this way. What was read is the replies to its requests, and then what ended
-- it. What was written is those requests, and then the sends without a reply, or a prefix of them.
-- All its sends are those of the messages that the lines of the input state, in order.
pub record SendsAll (sending : Sending) (ended : Result ⊤ Unsent) (left rest taken more fed unfed : Option (List ℕ)) :
    Type 0 where
  pub opened : List Call  -- the requests before the first send, with their replies
  pub sends : List Call  -- the sends with a reply
  pub waiting : List Sent  -- the sends without one
  pub unread : Option (List ℕ)  -- what the reader had left after the replies
  pub written : Option (List ℕ)  -- what the writer had taken of the requests with a reply
  pub unsent : Option (List ℕ)  -- what the input had left after the lines
  pub follows : FollowsPlan IsCallDone (opening_plan sending) [] opened
  pub answered : Each HasReply sends
  pub few : length waiting ≤ window_of sending
  pub reads : Consumes left unread (read_by (opened ++ sends))
  pub writes : Appends taken written (written_by (opened ++ sends))
  pub lines : AreSends sending (id_in opened) (sent_by sends ++ waiting) fed unsent
  pub ends : EndsSends sending ended opened sends waiting unread rest written more unsent unfed

-- The same session, whose input was read further than the lines that it took: these bytes more.
abbrev pub SendsAhead : Sending → Result ⊤ Unsent → (left rest taken more fed unfed : Option (List ℕ)) → Type 0
SendsAhead sending ended left rest taken more fed unfed =
    (ahead : List ℕ) × SendsAll sending ended left rest taken more fed (prepend_known ahead unfed)

-- The line that reports why a session ended early. A line that is too long is an invalid argument.
abbrev pub unsent_line : Unsent → List ℕ
unsent_line (Fault why) = fault_line why
unsent_line (Cut cut) = fault_line cut.fault
unsent_line (Long before) = codes "sysvmsg: EINVAL" ++ 10 ∷ []
unsent_line (NoObject before) = codes "sysvmsg: bad line" ++ 10 ∷ []
unsent_line (Memory before) = fault_line fault.NoMemory
unsent_line Many = codes "sysvmsg: too many lines" ++ 10 ∷ []
unsent_line (Input why) = codes "sysvmsg: cannot read" ++ 10 ∷ []
