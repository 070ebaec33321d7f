-- The requests that a handler may receive and the outcomes that it may return (this project's
-- profile).
use Rattle.std.specs.Prelude.{◌≡◌, ◌≢◌, ◌≤◌, ⊤, ℕ, ℤ, Bool, true, false, List, [], length, cond}
use Rattle.sysv_model.specs.declared.limits.TheConstants.{MESSAGE_BYTES}
use Rattle.sysv_session.specs.declared.handler.RequestOutcome.{RequestOutcome}
use Rattle.sysv_session.specs.declared.handler.RequestOutcome.TheVariants.{Reply, Got, Left}
use Rattle.sysv_wire.specs.declared.frame.Op.TheVariants as op
use Rattle.sysv_wire.specs.declared.frame.Version.{Version}
use Rattle.sysv_wire.specs.declared.reply.ReplyContent.{ReplyContent}
use Rattle.sysv_wire.specs.declared.reply.ReplyContent.TheVariants.{Rcv}
use Rattle.sysv_wire.specs.declared.reply.Reply.{Reply as Answer}
use Rattle.sysv_wire.specs.declared.request.Ask.{Ask}
use Rattle.sysv_wire.specs.declared.request.Request.{Request}
use Rattle.sysv_wire.specs.Frames.{op_number}
use Rattle.sysv_wire.specs.Replies.{IsAnswer, reply_encoding}
use Rattle.sysv_wire.specs.Requests.{FitsRequest, ask_text, op_of}

-- The request is not a hello, and its body is that of a send or empty.
abbrev pub IsAsked : Request → List ℕ → Type 0
IsAsked request text =
    (op_of request.ask ≢ op.Hello) × FitsRequest request text × (text ≡ ask_text (op_of request.ask) text)

-- The same, and the request is of the session's version.
abbrev pub IsAskedIn : Version → Request → List ℕ → Type 0
IsAskedIn version request text = (request.version ≡ version) × IsAsked request text

-- The result of a receive with a message, which then is written or lost. That of a hold is none of these:
-- its message is held.
abbrev pub is_received : ReplyContent → Bool
is_received (Rcv mtype) = true
is_received content = false

-- A handler may return this outcome. A reply has the version and the operation of its request, is a
-- reply that the operation may have, and is none of a receive with a message. Only a receive returns a message,
-- which has the length of its body. In both cases the body has at most MESSAGE_BYTES bytes. A call
-- that was left has no body.
abbrev pub MayAnswer : Version → Ask → RequestOutcome → List ℕ → Type 0
MayAnswer version ask (Reply reply) given = (reply.version ≡ version) × (reply.op ≡ op_number (op_of ask))
    × IsAnswer reply.version reply.op reply.result × (is_received reply.result ≡ false) × (length given ≤ MESSAGE_BYTES)
MayAnswer version ask (Got delivery) given =
    (op_of ask ≡ op.Rcv) × (delivery.len ≡ length given) × (length given ≤ MESSAGE_BYTES)
MayAnswer version ask Left given = given ≡ []

-- The reply that carries a message of this type.
abbrev pub message_reply : Version → ℤ → Answer
message_reply version mtype = record { version = version; op = op_number op.Rcv; result = Rcv mtype }

-- A reply in the outcome is one that its operation may have.
abbrev pub HasAnswer : RequestOutcome → Type 0
HasAnswer (Reply reply) = IsAnswer reply.version reply.op reply.result
HasAnswer (Got delivery) = ⊤
HasAnswer Left = ⊤

-- What is written for an outcome in this version: a reply as its frame, and a message as the frame
-- of the reply to a receive, with its type and its body. For a call that was left nothing is
-- written.
abbrev pub outcome_encoding : Version → RequestOutcome → List ℕ → List ℕ
outcome_encoding version (Reply reply) given = reply_encoding reply given
outcome_encoding version (Got delivery) given = reply_encoding (message_reply version delivery.mtype) given
outcome_encoding version Left given = []

-- The call was not left, so the outcome has a reply.
abbrev pub IsReplied : RequestOutcome → Type 0
IsReplied (Reply reply) = ⊤
IsReplied (Got delivery) = ⊤
IsReplied Left = ⊥

-- The outcome is a message.
abbrev pub is_message : RequestOutcome → Bool
is_message (Reply reply) = false
is_message (Got delivery) = true
is_message Left = false

-- The number of messages in the outcome, one or none.
abbrev pub messages_in : RequestOutcome → ℕ
messages_in outcome = cond (is_message outcome) 1 0
