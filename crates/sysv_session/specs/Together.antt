-- What a whole session does when its replies are gathered (this project's profile). The connection
-- takes their bytes as it will, so it may have a prefix of them when the session ends. A session of
-- which the writer took one reply after another is one of these.
use Rattle.std.specs.Prelude.{◌≡◌, ◌≢◌, ◌+◌, ◌⊎◌, ⊤, ℕ, List, [], ◌∷◌, ◌++◌, Option, Some, cond, length}
use Rattle.std.proofs.Common.{inl, inr}
use Rattle.std.specs.List.{AllByRecursion, concat}
use Rattle.std.specs.Io.KnownBytes.{Appends, Consumes}
use Rattle.sysv_lists.specs.Prefix.{IsPrefixOf}
use Rattle.sysv_model.specs.declared.cred.Cred.{Cred}
use Rattle.sysv_queue.specs.Tally.{Tallied, taken_in}
use Rattle.sysv_session.specs.declared.handler.RequestOutcome.TheVariants as outcomes
use Rattle.sysv_session.specs.declared.served.End.{End}
use Rattle.sysv_session.specs.declared.served.End.TheVariants.{Ended, NoMemory, NoHello, Fault, Write, Bound, Left}
use Rattle.sysv_session.specs.declared.served.End.TheVariants.{Reset}
use Rattle.sysv_session.specs.declared.served.Served.{Served}
use Rattle.sysv_session.specs.Calls.{Call, IsCall, Leads, Meaning, messages_of}
use Rattle.sysv_session.specs.Gathered.{Gathered, all_bytes, ends_message, messages_within}
use Rattle.sysv_session.specs.Input.{EndsAfter, EndsBefore, FitsHello, asked_encoding, hello_encoding}
use Rattle.sysv_session.specs.Output.{AreReplied, frames_of, hello_frame}
use Rattle.sysv_session.specs.Session.{IsBounded, Serves}
use Rattle.sysv_session.specs.Pending.{replies_to}
use Rattle.sysv_wire.specs.declared.fault.Fault.TheVariants.{Truncated, TooLong, BadOp, BadField, Read}
use Rattle.sysv_wire.specs.declared.frame.Version.{Version}

-- What stops a session with this newest version.
module _ (newest : Version) where
  -- Why no hello is taken up, by what was taken of the input. After a reset nothing more is taken.
  abbrev pub StopsBefore : End → Option (List ℕ) → Option (List ℕ) → Type 0
  StopsBefore Ended old new = EndsBefore newest Ended old new
  StopsBefore NoMemory old new = EndsBefore newest NoMemory old new
  StopsBefore NoHello old new = EndsBefore newest NoHello old new
  StopsBefore (Fault fault) old new = EndsBefore newest (Fault fault) old new
  StopsBefore Write old new = EndsBefore newest Write old new
  StopsBefore Bound old new = EndsBefore newest Bound old new
  StopsBefore Left old new = EndsBefore newest Left old new
  StopsBefore Reset old new = new ≡ old

  -- Why no more requests are taken up after the hello, by what was taken of the input. If memory is
  -- refused or the connection is reset, nothing more is taken.
  abbrev pub StopsAfter : Version → End → Option (List ℕ) → Option (List ℕ) → Type 0
  StopsAfter version Ended old new = EndsAfter newest version Ended old new
  StopsAfter version NoMemory old new = new ≡ old
  StopsAfter version NoHello old new = ⊥
  StopsAfter version (Fault fault) old new = EndsAfter newest version (Fault fault) old new
  StopsAfter version Write old new = EndsAfter newest version Write old new
  StopsAfter version Bound old new = EndsAfter newest version Bound old new
  StopsAfter version Left old new = EndsAfter newest version Left old new
  StopsAfter version Reset old new = new ≡ old

-- A session that stops at its bound has taken up the maximum number of requests. One that stops
-- because of the input's end or a request that is refused has taken up fewer.
abbrev pub IsStoppedWithin : End → ℕ → Type 0
IsStoppedWithin Ended requests = IsBounded Ended requests
IsStoppedWithin NoMemory requests = ⊤
IsStoppedWithin NoHello requests = IsBounded NoHello requests
IsStoppedWithin (Fault Truncated) requests = IsBounded (Fault Truncated) requests
IsStoppedWithin (Fault TooLong) requests = IsBounded (Fault TooLong) requests
IsStoppedWithin (Fault BadOp) requests = IsBounded (Fault BadOp) requests
IsStoppedWithin (Fault BadField) requests = IsBounded (Fault BadField) requests
IsStoppedWithin (Fault Read) requests = ⊤
IsStoppedWithin Write requests = ⊤
IsStoppedWithin Bound requests = IsBounded Bound requests
IsStoppedWithin Left requests = ⊤
IsStoppedWithin Reset requests = ⊤

-- No call was left, and the hello and each call has its reply.
abbrev pub AllReply : Version → ℕ → List Call → List Gathered → Type 0
AllReply version slots calls replies = AreReplied calls × (replies ≡ replies_to version slots calls)

-- The last call was left, and the hello and each other call has its reply.
abbrev pub AllButLeft : Version → ℕ → List Call → List Gathered → Type 0
AllButLeft version slots calls replies = (done : List Call) × (last : Call) × (calls ≡ done ++ last ∷ [])
    × (last.outcome ≡ outcomes.Left) × AllReply version slots done replies

-- Memory was refused for the reply to the hello or to the last call. What comes before has its
-- reply.
abbrev pub AllButLast : Version → ℕ → List Call → List Gathered → Type 0
AllButLast version slots calls replies = ((calls ≡ []) × (replies ≡ []))
    ⊎ ((done : List Call) × (last : Call) × (calls ≡ done ++ last ∷ []) × AreReplied calls
    × (replies ≡ replies_to version slots done))

-- The replies to the hello and to the calls, when the requests stop for this reason. All have one,
-- except a last call that was left, or the last request if memory was refused for its reply.
abbrev pub Replied : End → Version → ℕ → List Call → List Gathered → Type 0
Replied Ended version slots calls replies = AllReply version slots calls replies
Replied NoMemory version slots calls replies =
    AllReply version slots calls replies ⊎ AllButLast version slots calls replies
Replied NoHello version slots calls replies = AllReply version slots calls replies
Replied (Fault fault) version slots calls replies = AllReply version slots calls replies
Replied Write version slots calls replies = AllReply version slots calls replies
Replied Bound version slots calls replies = AllReply version slots calls replies
Replied Left version slots calls replies = AllButLeft version slots calls replies
Replied Reset version slots calls replies = AllReply version slots calls replies

-- Of the messages whose replies the connection has taken whole, the number of those that count as lost
-- if the requests stopped for this reason and the connection has taken n bytes: 1 if it was reset and
-- the n-th byte is the last one of a message's frame, and 0 otherwise.
abbrev pub unread_at : End → ℕ → List Gathered → ℕ
unread_at Ended n replies = 0
unread_at NoMemory n replies = 0
unread_at NoHello n replies = 0
unread_at (Fault fault) n replies = 0
unread_at Write n replies = 0
unread_at Bound n replies = 0
unread_at Left n replies = 0
unread_at Reset n replies = cond (ends_message n replies) 1 0

-- The reported end is why the requests stopped, and all bytes were sent; or it is `Write`, and they
-- were not.
abbrev pub Reports : (why stopped : End) → (sent all : List ℕ) → Type 0
Reports why stopped sent all = ((why ≡ stopped) × (sent ≡ all)) ⊎ ((why ≡ Write) × (sent ≢ all))

-- A writer that failed had not taken all these frames.
abbrev pub FailsEarly : End → List (List ℕ) → (taken more : Option (List ℕ)) → Type 0
FailsEarly why frames taken more =
    why ≡ Write → (before : List ℕ) → taken ≡ Some before → more ≢ Some (before ++ concat frames)

module _ (newest : Version) {K : Type 0} where
  -- A session without a hello makes no call, and the connection has taken no bytes. Its end may be that
  -- memory was refused.
  pub record StaysTogether (why : End) (tally : Tallied) (requests : ℕ) (old new : K)
      (left rest taken more : Option (List ℕ)) : Type 0 where
    pub handler : new ≡ old
    pub ends : StopsBefore newest why left rest
    pub writes : Appends taken more []
    pub tallies : tally ≡ record { written = 0; lost = 0 }
    pub counts : requests ≡ 0

  -- A session with a hello. Its calls of the handler are one for each request of the hello's
  -- version that was taken up after the hello. The connection has taken a prefix of the frames of
  -- the replies, and all of them unless the end is `Write`. The messages whose frames lie wholly in
  -- this prefix count as written, and all others as lost. The one exception: if the client reset
  -- the connection, it has not read the last byte of the prefix; if that is the last byte of a
  -- message's frame, this message counts as lost.
  pub record ConversesTogether (Means : Meaning K) (slots : ℕ) (why : End) (tally : Tallied) (requests : ℕ)
      (old new : K)
      (left rest taken more : Option (List ℕ)) : Type 0 where
    pub version : Version
    pub cred : Cred
    pub known : FitsHello newest version cred
    pub calls : List Call
    pub are_calls : AllByRecursion (IsCall version) calls
    pub leads : Leads Means cred old calls new
    pub unread : Option (List ℕ)  -- what was left of the input after the last request that was taken up
    pub reads : Consumes left unread (hello_encoding version cred ++ asked_encoding calls)
    pub stopped : End
    pub ends : StopsAfter newest version stopped unread rest
    pub bounded : IsStoppedWithin stopped requests
    pub replies : List Gathered
    pub replied : Replied stopped version slots calls replies
    pub sent : List ℕ
    pub prefix : IsPrefixOf sent (all_bytes replies)
    pub writes : Appends taken more sent
    pub reports : Reports why stopped sent (all_bytes replies)
    pub all : taken_in tally ≡ messages_of calls
    pub written : tally.written + unread_at stopped (length sent) replies ≡ messages_within (length sent) replies
    pub counts : requests ≡ 1 + length calls

  -- A session is without a hello or with one.
  abbrev pub ServesTogether : Meaning K → ℕ → Served → (old new : K) → (left rest taken more : Option (List ℕ)) →
      Type 0
  ServesTogether Means slots served old new left rest taken more =
      StaysTogether served.«end» served.tally served.requests old new left rest taken more
      ⊎ ConversesTogether Means slots served.«end» served.tally served.requests old new left rest taken more

  -- A writer that failed had not taken all the frames of this session.
  abbrev pub FailsWithin : (Means : Meaning K) (slots : ℕ) (served : Served) (old new : K)
      (left rest taken more : Option (List ℕ)) → Serves newest Means slots served old new left rest taken more → Type 0
  FailsWithin Means slots served old new left rest taken more (inl stays) = ⊤
  FailsWithin Means slots served old new left rest taken more (inr converses) =
      FailsEarly served.«end» (hello_frame converses.version slots ∷ frames_of converses.calls) taken more

  -- A session whose writer took one reply after another is one of these, if a writer that failed had
  -- not taken all of them.
  abbrev pub AreTogether : Meaning K → Type 0
  AreTogether Means = (slots : ℕ) (served : Served) (old new : K) (left rest taken more : Option (List ℕ))
      (serves : Serves newest Means slots served old new left rest taken more)
      → FailsWithin Means slots served old new left rest taken more serves
      → ServesTogether Means slots served old new left rest taken more
