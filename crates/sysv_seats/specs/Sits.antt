-- A client of a server, and how far its session is (this project's profile). All that was read from
-- its connection and was not taken up is its input. A client either can take up more, or has a call
-- that is parked, or has stopped: then it takes up no more, and the replies that were gathered are
-- still given to its connection.
use Rattle.std.specs.Prelude.{◌≡◌, ◌≤◌, ◌<◌, ◌+◌, ◌-◌, ◌⊎◌, ◌^◌, ◌||◌, ◌&&◌, ◌==◌, ⊤, ℕ, Bool, true, false, not, List}
use Rattle.std.specs.Prelude.{[], ◌++◌}
use Rattle.std.specs.Prelude.{Option, None, Some, is_some, unwrap_or}
use Rattle.std.specs.Prelude.{IfSome, Result, length}
use Rattle.std.specs.Io.KnownBytes.{Appends, Consumes, prepend_known}
use Rattle.sysv_keys.specs.declared.identifier.TheConstants.{SLOTS}
use Rattle.sysv_model.specs.declared.cred.Cred.{Cred}
use Rattle.sysv_queue.specs.Tally.{taken_in}
use Rattle.sysv_session.specs.declared.served.End.{End}
use Rattle.sysv_session.specs.declared.served.Served.{Served}
use Rattle.sysv_session.specs.declared.served.End.TheVariants.{Ended, NoMemory, NoHello, Fault, Write, Bound, Left}
use Rattle.sysv_session.specs.declared.served.End.TheVariants.{Reset}
use Rattle.sysv_session.specs.declared.session.TakenUp.{TakenUp}
use Rattle.sysv_session.specs.Calls.{Meaning}
use Rattle.sysv_session.specs.Conversation.{Dialogue, gathered}
use Rattle.sysv_session.specs.Input.{FitsHello, hello_encoding}
use Rattle.sysv_session.specs.Outbox.{with_frame}
use Rattle.sysv_session.specs.Output.{hello_frame}
use Rattle.sysv_session.specs.TakenUp.{TakesUp}
use Rattle.sysv_session.specs.Stands.{Stands, StandsAsking, Stopped}
use Rattle.sysv_service.specs.Ran.{Pass}
use Rattle.sysv_wire.specs.declared.fault.Fault.TheVariants.{Truncated, TooLong, BadOp, BadField, Read}
use Rattle.sysv_wire.specs.declared.frame.Version.{Version}
use Rattle.sysv_wire.specs.declared.request.Ask.{Ask}
use Rattle.sysv_wire.specs.declared.request.Ask.TheVariants.{Get as AskGet, Snd, Rcv, Hold, Back}
use Rattle.sysv_wire.specs.declared.request.Request.{Request}
use Rattle.sysv_wire.specs.declared.reply.Reply.{Reply as Answer}
use Rattle.sysv_wire.specs.Requests.{request_encoding}
use Rattle.sysv_seats.specs.declared.parked.Parked.{Parked}
use Rattle.sysv_steps.specs.declared.pending.Waiting.{Waiting}
use Rattle.sysv_steps.specs.declared.pending.Waiting.TheVariants.{Send, Receive, Get}
use Rattle.sysv_seats.specs.declared.callers.Callers.{Callers}
use Rattle.sysv_seats.specs.Callers.{includes}
use Rattle.sysv_seats.specs.Held.{HoldParked, LapsesTo, holds_with}
use Rattle.sysv_seats.specs.Holding.{Holder, Timed, begun_with, timed}
use Rattle.sysv_seats.specs.LettingIn.{ServesFor, by_callers, denial_frame}
use Rattle.sysv_seats.specs.Untold.{Closing}

-- What the parked call waits for, if a call is parked.
abbrev pub parked_wait : Option Parked → Option Waiting
parked_wait None = None
parked_wait (Some parked) = Some parked.waiting

-- The number of bytes in the frame of the parked call, or 0.
abbrev pub parked_bytes : Option Parked → ℕ
parked_bytes None = 0
parked_bytes (Some parked) = parked.length

-- The parked call is the receive of a hold.
abbrev pub is_hold : Ask → Bool
is_hold (Hold id size mtype flags seconds) = true
is_hold ask = false

abbrev pub is_hold_parked : Option Parked → Bool
is_hold_parked None = false
is_hold_parked (Some parked) = is_hold parked.request.ask

-- The parked call is the send of a back.
abbrev pub is_back : Ask → Bool
is_back Back = true
is_back ask = false

abbrev pub is_back_parked : Option Parked → Bool
is_back_parked None = false
is_back_parked (Some parked) = is_back parked.request.ask

-- What the contracts see of a client.
pub record Sitting (T : Type 0) : Type 0 where
  pub connection : T
  pub dialogue : Dialogue
  pub input : List ℕ
  pub parked : Option Parked
  pub stopped : Option End
  pub broken : Bool  -- the connection takes no more replies

-- Of the input that a session left, the connection still has this: what was not read ahead.
abbrev pub IsBehind : (rest kept : Option (List ℕ)) → Type 0
IsBehind rest kept = (ahead : List ℕ) × Consumes rest kept ahead

-- Every time in a server is 0.
abbrev pub zero_moment : ℕ → Type 0
zero_moment now = now ≡ 0

-- What the calls of a client's session mean whose connection lets in these callers.
abbrev pub means_for : Callers → Meaning (Timed Pass)
means_for callers = by_callers callers (holds_with zero_moment ⊤)

-- The hello that was taken up of this input, if one was, is one of this newest version, and states the credentials of a
-- caller who is let in.
abbrev pub IsKnown : Version → Callers → Option (List ℕ) → Option (Version × Cred) → Type 0
IsKnown newest callers left None = ⊤
IsKnown newest callers left (Some caller) = (includes callers caller.1 ≡ true) × FitsHello newest caller.0 caller.1
    × ((behind : Option (List ℕ)) × Consumes left behind (hello_encoding caller.0 caller.1))

-- The answer to a hello of this version that is not let in was gathered, or memory for it was refused. These are all
-- bytes that were gathered.
abbrev pub GathersDenial : Version → End → List ℕ → Type 0
GathersDenial version NoHello bytes = bytes ≡ denial_frame version
GathersDenial version NoMemory bytes = bytes ≡ []
GathersDenial version why bytes = ⊥

-- `callers` are the callers that a connection lets in.
module _ {T : Type 0} (incoming outgoing : T → Option (List ℕ)) (callers : T → Callers) where
  -- The input that was not taken up: what has arrived of it, and then what the connection still has.
  abbrev pub unread : Sitting T → Option (List ℕ)
  unread client = prepend_known client.input (incoming client.connection)

  -- More can be taken up. The session reads versions up to the newest one. It began with the pass `start`,
  -- on the connection `origin`, and held nothing then. `settled` is what it left after the last request that
  -- has an outcome; since then the time of what it holds may have been over.
  abbrev pub IsReady : Version → Pass → T → Sitting T → Timed Pass → List ℕ → Type 0
  IsReady newest start origin client now sent = (settled : Timed Pass) × LapsesTo zero_moment settled now
      × Stands newest (means_for (callers origin)) SLOTS client.dialogue (begun_with start) settled (incoming origin)
      (unread client) sent
      × IsKnown newest (callers origin) (incoming origin) client.dialogue.session.caller

  -- The request of this call was taken up, and its frame is still at the front of the input. The call was
  -- begun with the pass of `before`, and waits.
  pub record IsWaiting (newest : Version) (start : Pass) (origin : T) (client : Sitting T) (now : Timed Pass)
      (sent : List ℕ) (parked : Parked) : Type 0 where
    pub text : List ℕ
    pub settled : Timed Pass
    pub before : Timed Pass
    pub lapsed : LapsesTo zero_moment settled before
    pub later : List ℕ
    pub asking : StandsAsking newest (means_for (callers origin)) SLOTS parked.cred parked.request text client.dialogue
        (begun_with start) settled (incoming origin) (prepend_known later (incoming client.connection)) sent
    pub frame : client.input ≡ request_encoding parked.request text ++ later
    pub size : parked.length ≡ length (request_encoding parked.request text)
    pub waits : HoldParked zero_moment parked.cred parked.request.ask text before.holder parked.waiting now.holder
    pub late : now.late ≡ before.late
    pub known : IsKnown newest (callers origin) (incoming origin) client.dialogue.session.caller

  -- It takes up no more, for this reason.
  abbrev pub HasStopped : Version → Pass → T → Sitting T → Timed Pass → List ℕ → End → Type 0
  HasStopped newest start origin client now sent why =
      (rest : Option (List ℕ)) × IsBehind rest (incoming client.connection)
      × (settled : Timed Pass) × LapsesTo zero_moment settled now
      × Stopped newest (means_for (callers origin)) SLOTS why client.dialogue (begun_with start) settled (incoming
      origin)
      rest sent
      × IsKnown newest (callers origin) (incoming origin) client.dialogue.session.caller

  -- Its hello was taken up and is not let in. It made no call, and takes up no more, for this reason. The answer to the
  -- hello was gathered, unless memory for it was refused.
  pub record HasDenied (newest : Version) (start : Pass) (origin : T) (client : Sitting T) (now : Timed Pass)
      (sent : List ℕ) (why : End) : Type 0 where
    pub version : Version
    pub cred : Cred
    pub known : FitsHello newest version cred
    pub other : includes (callers origin) cred ≡ false
    pub rest : Option (List ℕ)
    pub reads : Consumes (incoming origin) rest (hello_encoding version cred)
    pub behind : IsBehind rest (incoming client.connection)
    pub handler : now ≡ begun_with start
    pub gathered : GathersDenial version why (sent ++ client.dialogue.unsent.bytes)
    pub marks : client.dialogue.unsent.marks ≡ []
    pub tallies : client.dialogue.session.tally ≡ record { written = 0; lost = 0 }
    pub counts : client.dialogue.session.requests ≡ 1

  abbrev pub IsAt : Version → Pass → T → Sitting T → Timed Pass → List ℕ → Option Parked → Option End → Type 0
  IsAt newest start origin client now sent None None = IsReady newest start origin client now sent
  IsAt newest start origin client now sent (Some parked) None = IsWaiting newest start origin client now sent parked
  IsAt newest start origin client now sent None (Some why) =
      HasStopped newest start origin client now sent why ⊎ HasDenied newest start origin client now sent why
  IsAt newest start origin client now sent (Some parked) (Some why) = ⊥

  -- The client's session began with the pass `start`, on the connection `origin`, and lets in the callers that this
  -- connection lets in. Its connection has taken these bytes of its replies since then. `now` is the pass now, what the
  -- session holds, and what was given back since its time was over.
  pub record Sits (newest : Version) (start : Pass) (origin : T) (client : Sitting T) (now : Timed Pass) :
      Type 0 where
    pub sent : List ℕ
    pub wrote : Appends (outgoing origin) (outgoing client.connection) sent
    pub same : callers client.connection ≡ callers origin
    pub at : IsAt newest start origin client now sent client.parked client.stopped

  -- The client's session, which began with the pass `start` on the connection `origin`, is over. It
  -- reported this, and its connection was closed into the book. It may still hold a message.
  pub record IsOver {B : Type 0} (closes : Closing T B) (newest : Version) (start : Pass) (origin : T)
      (served : Served) (now : Timed Pass) (book book' : B) : Type 0 where
    pub rest : Option (List ℕ)
    pub kept : Option (List ℕ)
    pub more : Option (List ℕ)
    pub serves : ServesFor newest (callers origin) zero_moment ⊤ served start now (incoming origin) rest
        (outgoing origin) more
    pub behind : IsBehind rest kept
    pub closed : closes.leaves book kept more book'

  -- Wherever the client was before, it is still one of the same session.
  abbrev pub KeepsWith : (old : Sitting T) → Holder Pass → (new : Sitting T) → Holder Pass → Type 0
  KeepsWith old before new after = (late : List Answer) (newest : Version) (start : Pass) (origin : T) →
      Sits newest start origin old (timed before late) → Sits newest start origin new (timed after late)

  -- The same, and no call was made.
  abbrev pub Keeps : (old new : Sitting T) → Type 0
  Keeps old new = (now : Holder Pass) → KeepsWith old now new now

  -- This request was taken up, and its frame, of this length, is at the front of the input. The pass
  -- and what was held were `before` then. The client has not stopped.
  pub record HasAsked (newest : Version) (start : Pass) (origin : T) (client : Sitting T) (cred : Cred)
      (request : Request) (text : List ℕ) (size : ℕ) (before : Timed Pass) : Type 0 where
    pub sent : List ℕ
    pub wrote : Appends (outgoing origin) (outgoing client.connection) sent
    pub later : List ℕ
    pub settled : Timed Pass
    pub lapsed : LapsesTo zero_moment settled before
    pub asking : StandsAsking newest (means_for (callers origin)) SLOTS cred request text client.dialogue
        (begun_with start) settled (incoming origin) (prepend_known later (incoming client.connection)) sent
    pub frame : client.input ≡ request_encoding request text ++ later
    pub whole : size ≡ length (request_encoding request text)
    pub going : client.stopped ≡ None
    pub same : callers client.connection ≡ callers origin
    pub known : IsKnown newest (callers origin) (incoming origin) client.dialogue.session.caller

-- ---- steps within an event

module _ {T : Type 0} where
  -- No call is parked, and the client has not stopped.
  abbrev pub IsFree : Sitting T → Type 0
  IsFree client = (client.parked ≡ None) × (client.stopped ≡ None)

  -- The client with this dialogue, input or reason to stop.
  abbrev pub conversing : Dialogue → Sitting T → Sitting T
  conversing dialogue client = record {
    connection = client.connection;
    dialogue = dialogue;
    input = client.input;
    parked = client.parked;
    stopped = client.stopped;
    broken = client.broken;
  }

  abbrev pub with_input : List ℕ → Sitting T → Sitting T
  with_input input client = record {
    connection = client.connection;
    dialogue = client.dialogue;
    input = input;
    parked = client.parked;
    stopped = client.stopped;
    broken = client.broken;
  }

  abbrev pub stopped_for : End → Sitting T → Sitting T
  stopped_for why client = record {
    connection = client.connection;
    dialogue = client.dialogue;
    input = client.input;
    parked = client.parked;
    stopped = Some why;
    broken = client.broken;
  }

  -- The client, whose connection takes no more replies.
  abbrev pub broken_off : Sitting T → Sitting T
  broken_off client = record {
    connection = client.connection;
    dialogue = client.dialogue;
    input = client.input;
    parked = client.parked;
    stopped = client.stopped;
    broken = true;
  }

  -- The same, and the client has stopped, for this reason if for no other.
  abbrev pub broken_off_for : End → Sitting T → Sitting T
  broken_off_for why client = record {
    connection = client.connection;
    dialogue = client.dialogue;
    input = client.input;
    parked = client.parked;
    stopped = Some (unwrap_or client.stopped why);
    broken = true;
  }

  -- Nothing is left to do but to close the client: its connection takes no more replies, or it has
  -- stopped and its connection has taken all of them.
  abbrev pub is_finished : Sitting T → Bool
  is_finished client = client.broken || (is_some client.stopped && (length client.dialogue.unsent.bytes == 0))

  -- These bytes were appended to the input, or memory for them was refused.
  abbrev pub Arrives : List ℕ → Sitting T → Sitting T → Type 0
  Arrives bytes old new = (new ≡ with_input (old.input ++ bytes) old) ⊎ (new ≡ stopped_for NoMemory old)

  -- The reply to a hello of this version was gathered, or memory for it was refused.
  abbrev pub GreetsAs : Version → Sitting T → Sitting T → Type 0
  GreetsAs version old new = (new ≡ conversing (gathered (with_frame (hello_frame version SLOTS)) old.dialogue) old)
      ⊎ (new ≡ stopped_for NoMemory old)

  -- The answer to a hello of this version that is not let in was gathered, or memory for it was refused. Nothing more
  -- is taken up.
  abbrev pub Denies : Version → Sitting T → Sitting T → Type 0
  Denies version old new =
      (new ≡ stopped_for NoHello (conversing (gathered (with_frame (denial_frame version)) old.dialogue) old))
      ⊎ (new ≡ stopped_for NoMemory old)

  -- This was taken up at the front of the input, or this is why nothing was. So many bytes were
  -- read, and they are still in the input.
  pub record ReadsNext (old : Sitting T) (size : ℕ) (result : Result TakenUp End) (text : List ℕ)
      (new : Sitting T) : Type 0 where
    pub rest : List ℕ
    pub takes : TakesUp old.dialogue.session new.dialogue.session result (Some old.input) (Some rest) text
    pub unsent : new.dialogue.unsent ≡ old.dialogue.unsent
    pub same : new ≡ conversing new.dialogue old
    pub read : size ≡ length old.input - length rest

-- The end may only mean that more bytes are to come, unless this is the end of the input. No read of
-- bytes that have arrived fails.
abbrev pub is_early : End → (is_end : Bool) → Bool
is_early Ended is_end = not is_end
is_early NoMemory is_end = false
is_early NoHello is_end = false
is_early (Fault Truncated) is_end = not is_end
is_early (Fault TooLong) is_end = false
is_early (Fault BadOp) is_end = false
is_early (Fault BadField) is_end = false
is_early (Fault Read) is_end = true
is_early Write is_end = false
is_early Bound is_end = false
is_early Left is_end = false
is_early Reset is_end = false

-- Why the session of a client ends that is closed: why it has stopped; or its call is left; or
-- nothing more is read.
abbrev pub end_at_close : Option Parked → Option End → End
end_at_close parked (Some why) = why
end_at_close None None = Fault Read
end_at_close (Some parked) None = Left

-- ---- what every client keeps

-- The wait is one of a call of this request.
abbrev pub is_wait_of : Ask → Waiting → Bool
is_wait_of (Snd id mtype flags) (Send wait) = true
is_wait_of (Rcv id size mtype flags) (Receive wait) = true
is_wait_of (AskGet key flags) (Get wait) = true
is_wait_of ask waiting = false

-- The same, where a hold waits like a receive, and a back like a send.
abbrev pub is_hold_wait_of : Ask → Waiting → Bool
is_hold_wait_of (Hold id size mtype flags seconds) (Receive wait) = true
is_hold_wait_of Back (Send wait) = true
is_hold_wait_of ask waiting = is_wait_of ask waiting

-- The frame of a parked call is in the input, and its wait is one of the call of its request.
abbrev pub HasFrame : List ℕ → Option Parked → Type 0
HasFrame input parked =
    IfSome parked (λ p. (p.length ≤ length input) × (is_hold_wait_of p.request.ask p.waiting ≡ true))

-- The number of messages that were counted or are in the outbox.
abbrev pub messages_so_far : Dialogue → ℕ
messages_so_far dialogue = taken_in dialogue.session.tally + length dialogue.unsent.marks

-- 1 for a parked call, whose request has no outcome yet.
abbrev pub parked_calls : Option Parked → ℕ
parked_calls None = 0
parked_calls (Some parked) = 1

-- There was at most one message for each request that was taken up, and none yet for that of a parked
-- call.
abbrev pub IsCounted : Dialogue → Option Parked → Type 0
IsCounted dialogue parked = (messages_so_far dialogue + parked_calls parked ≤ dialogue.session.requests)
    × (dialogue.session.requests < 2 ^ 32) × (dialogue.session.caller ≡ None → dialogue.session.requests ≡ 0)

-- A request was taken up that has no outcome yet.
abbrev pub IsPending : {T : Type 0} → Sitting T → Type 0
IsPending client = messages_so_far client.dialogue < client.dialogue.session.requests
