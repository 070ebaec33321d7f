-- A pending session and the replies that its connection has not taken (this project's profile).
use Rattle.std.specs.Prelude.{◌≡◌, ◌+◌, ◌<◌, ◌^◌, ⊤, ℕ, List, [], ◌∷◌, Result, Ok, Err, length}
use Rattle.sysv_queue.specs.Tally.{Tallied, taken_in}
use Rattle.sysv_session.specs.declared.handler.RequestOutcome.{RequestOutcome}
use Rattle.sysv_session.specs.declared.handler.RequestOutcome.TheVariants.{Reply, Got, Left as WasLeft}
use Rattle.sysv_session.specs.declared.served.End.{End}
use Rattle.sysv_session.specs.declared.served.End.TheVariants.{Ended, NoMemory, NoHello, Fault, Write, Bound, Left}
use Rattle.sysv_session.specs.declared.served.End.TheVariants.{Reset}
use Rattle.sysv_session.specs.declared.served.Served.{Served}
use Rattle.sysv_session.specs.declared.session.Session.{Session}
use Rattle.sysv_session.specs.Answers.{IsReplied}
use Rattle.sysv_session.specs.Failing.{is_reset}
use Rattle.sysv_session.specs.Gathered.{message_frame}
use Rattle.sysv_session.specs.Outbox.{Unsent, at_end, more_written, passed, with_frame, with_message, without}
use Rattle.sysv_session.specs.Turn.{one_lost}
use Rattle.sysv_wire.specs.declared.frame.Version.{Version}
use Rattle.sysv_wire.specs.Replies.{reply_encoding}

-- What the contracts see of a conversation.
pub record Dialogue : Type 0 where
  pub session : Session
  pub unsent : Unsent

-- The session with this tally.
abbrev pub tallied : Tallied → Session → Session
tallied tally session = record {
  newest = session.newest;
  caller = session.caller;
  tally = tally;
  requests = session.requests;
}

-- One more reply is gathered.
abbrev pub gathered : (Unsent → Unsent) → Dialogue → Dialogue
gathered add dialogue = record { session = dialogue.session; unsent = add dialogue.unsent }

-- The outbox with the reply of an outcome in this version. A call that was left has none.
abbrev pub with_outcome : Version → RequestOutcome → List ℕ → Unsent → Unsent
with_outcome version (Reply reply) given box = with_frame (reply_encoding reply given) box
with_outcome version (Got delivery) given box = with_message (message_frame version delivery given) delivery box
with_outcome version WasLeft given box = box

-- The message of an outcome whose reply could not be gathered is lost.
abbrev pub lost_outcome : RequestOutcome → Dialogue → Dialogue
lost_outcome outcome dialogue =
    record { session = tallied (one_lost outcome dialogue.session.tally) dialogue.session; unsent = dialogue.unsent }

-- The connection has taken n bytes more.
abbrev pub sent_on : ℕ → Dialogue → Dialogue
sent_on n dialogue = record {
  session = tallied (more_written (passed n dialogue.unsent.marks) dialogue.session.tally) dialogue.session;
  unsent = without n dialogue.unsent;
}

-- Why a session ends whose replies were all sent, or were not.
abbrev pub reported : End → List ℕ → End
reported why [] = why
reported why (byte ∷ more) = Write

-- What a session reports that ends for this reason. Of the messages in its outbox, those that the
-- connection has taken whole are written, unless it was reset, and the others are lost.
abbrev pub report : End → Dialogue → Served
report why dialogue = record {
  «end» = reported why dialogue.unsent.bytes;
  tally = at_end (is_reset why) dialogue.unsent.marks dialogue.session.tally;
  requests = dialogue.session.requests;
}

-- The outcome has a reply, which was gathered; or memory was refused for it, and a message in it is
-- lost; or the call was left, and nothing happened.
abbrev pub Puts : Result ⊤ End → Version → RequestOutcome → List ℕ → (old new : Dialogue) → Type 0
Puts (Ok done) version outcome given old new =
    IsReplied outcome × (new ≡ gathered (with_outcome version outcome given) old)
Puts (Err NoMemory) version outcome given old new = IsReplied outcome × (new ≡ lost_outcome outcome old)
Puts (Err Left) version outcome given old new = (outcome ≡ WasLeft) × (new ≡ old)
Puts (Err Ended) version outcome given old new = ⊥
Puts (Err NoHello) version outcome given old new = ⊥
Puts (Err (Fault fault)) version outcome given old new = ⊥
Puts (Err Write) version outcome given old new = ⊥
Puts (Err Bound) version outcome given old new = ⊥
Puts (Err Reset) version outcome given old new = ⊥

-- The tally can count one more message for each delivery in the outbox.
abbrev pub HasRoom : Dialogue → Type 0
HasRoom dialogue = taken_in dialogue.session.tally + length dialogue.unsent.marks < 2 ^ 64
