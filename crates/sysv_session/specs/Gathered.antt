-- The replies that were put into an outbox, and how much of them a connection has taken (this
-- project's profile). What was taken is a prefix of their frames. The messages that count as written
-- are those whose frames end before its last byte. At the end those whose frames lie wholly in it count
-- as written, unless the connection was reset, and all others as lost.
use Rattle.std.specs.Prelude.{◌≡◌, ◌≤◌, ◌+◌, ◌==◌, ◌||◌, ℕ, Bool, true, false, List, [], ◌∷◌, ◌++◌, Option, None}
use Rattle.std.specs.Prelude.{Some, length, take, flat_map}
use Rattle.std.specs.List.{concat}
use Rattle.sysv_model.specs.Writing.{AppendsPrefix}
use Rattle.sysv_queue.specs.Delivery.{Given}
use Rattle.sysv_queue.specs.Tally.{Tallied, taken_in}
use Rattle.sysv_session.specs.Answers.{message_reply}
use Rattle.sysv_session.specs.Outbox.{Mark, Unsent, at_end, beyond, mark_at, more_written, passed, with_frame}
use Rattle.sysv_session.specs.Outbox.{with_message, within, without}
use Rattle.sysv_session.specs.Output.{BreaksOff}
use Rattle.sysv_wire.specs.declared.frame.Version.{Version}
use Rattle.sysv_wire.specs.Replies.{reply_encoding}

-- A reply: its frame, and the message in it, if there is one.
pub record Gathered : Type 0 where
  pub frame : List ℕ
  pub message : Option Given

-- A reply without a message.
abbrev pub plain : List ℕ → Gathered
plain frame = record { frame = frame; message = None }

-- The frame of the reply to a receive in this version.
abbrev pub message_frame : Version → Given → List ℕ → List ℕ
message_frame version given text = reply_encoding (message_reply version given.mtype) text

-- The reply to a receive in this version.
abbrev pub message_of : Version → Given → List ℕ → Gathered
message_of version given text = record { frame = message_frame version given text; message = Some given }

-- The frames of the replies, one after another.
abbrev pub all_bytes : List Gathered → List ℕ
all_bytes replies = flat_map (λ (reply : Gathered). reply.frame) replies

-- The mark of a message, if there is one, whose frame ends here.
abbrev pub marks_at : ℕ → Option Given → List Mark
marks_at place None = []
marks_at place (Some given) = mark_at place given ∷ []

-- The marks of the messages in the replies, the first of which begins after this number of bytes.
abbrev pub marks_from : ℕ → List Gathered → List Mark
marks_from start [] = []
marks_from start (reply ∷ more) =
    marks_at (start + length reply.frame) reply.message ++ marks_from (start + length reply.frame) more

-- The number of messages in the replies.
abbrev pub messages_among : List Gathered → ℕ
messages_among replies = length (marks_from 0 replies)

-- The number of messages whose frames lie wholly in the first n bytes of the frames.
abbrev pub messages_within : ℕ → List Gathered → ℕ
messages_within n replies = within n (marks_from 0 replies)

-- The number of messages whose frames end before the last of the first n bytes of the frames.
abbrev pub messages_passed : ℕ → List Gathered → ℕ
messages_passed n replies = passed n (marks_from 0 replies)

-- The number of messages that count as written once the connection has taken n bytes of the frames and
-- has ended, by a reset or not.
abbrev pub messages_written : Bool → ℕ → List Gathered → ℕ
messages_written true n replies = messages_passed n replies
messages_written false n replies = messages_within n replies

-- One of the marks is of a frame that ends with the n-th byte.
abbrev pub has_end : ℕ → List Mark → Bool
has_end n [] = false
has_end n (mark ∷ marks) = (mark.ends == n) || has_end n marks

-- The n-th byte of the frames is the last one of a message's frame.
abbrev pub ends_message : ℕ → List Gathered → Bool
ends_message n replies = has_end n (marks_from 0 replies)

-- These replies were put into an outbox when the tally was as at the start, and the connection has
-- taken these bytes of their frames. The outbox holds the rest, and the tally has counted as written
-- the messages whose frames end before the last byte that was taken, and no other.
pub record Gathers (start : Tallied) (replies : List Gathered) (taken : List ℕ) (box : Unsent) (tally : Tallied) :
    Type 0 where
  pub bytes : all_bytes replies ≡ taken ++ box.bytes
  pub marks : box.marks ≡ beyond (length taken) (marks_from 0 replies)
  pub written : tally.written ≡ start.written + messages_passed (length taken) replies
  pub lost : tally.lost ≡ start.lost

-- The connection has taken a prefix of the frames of these replies, and was reset or not. Since the
-- start, the tally has counted as written the messages whose frames were taken whole, but after a reset
-- none whose frame ends with the last byte that was taken; and as lost all others.
pub record Closes (is_reset : Bool) (start : Tallied) (replies : List Gathered) (taken : List ℕ) (tally : Tallied) :
    Type 0 where
  pub rest : List ℕ
  pub prefix : all_bytes replies ≡ taken ++ rest
  pub written : tally.written ≡ start.written + messages_written is_reset (length taken) replies
  pub all : taken_in tally ≡ taken_in start + messages_among replies

-- A new outbox has gathered nothing.
abbrev pub GathersNone : Type 0
GathersNone = (tally : Tallied) → Gathers tally [] [] (record { bytes = []; marks = [] }) tally

-- One more reply without a message is gathered.
abbrev pub GathersReply : Type 0
GathersReply = (start : Tallied) (replies : List Gathered) (taken : List ℕ) (box : Unsent) (tally : Tallied)
    (frame : List ℕ) → Gathers start replies taken box tally
    → Gathers start (replies ++ plain frame ∷ []) taken (with_frame frame box) tally

-- One more reply to a receive is gathered.
abbrev pub GathersMessage : Type 0
GathersMessage = (start : Tallied) (replies : List Gathered) (taken : List ℕ) (box : Unsent) (tally : Tallied)
    (version : Version) (given : Given) (text : List ℕ) → Gathers start replies taken box tally
    → Gathers start (replies ++ message_of version given text ∷ []) taken
    (with_message (message_frame version given text) given box) tally

-- The connection takes n bytes more.
abbrev pub GathersOn : Type 0
GathersOn = (start : Tallied) (replies : List Gathered) (taken : List ℕ) (box : Unsent) (tally : Tallied) (n : ℕ)
    → n ≤ length box.bytes → Gathers start replies taken box tally
    → Gathers start replies (taken ++ take n box.bytes) (without n box) (more_written (passed n box.marks) tally)

-- The outbox ends.
abbrev pub ClosesAll : Type 0
ClosesAll = (is_reset : Bool) (start : Tallied) (replies : List Gathered) (taken : List ℕ) (box : Unsent)
    (tally : Tallied) → Gathers start replies taken box tally
    → Closes is_reset start replies taken (at_end is_reset box.marks tally)

-- A writer that took some frames whole and a prefix of the next has taken a prefix of all.
abbrev pub BreaksOffWithin : Type 0
BreaksOffWithin = (frames : List (List ℕ)) (old new : Option (List ℕ)) → BreaksOff frames old new
    → AppendsPrefix old new (concat frames)
