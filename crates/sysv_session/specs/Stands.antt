-- How a conversation stands, from its start on (this project's profile): pending, with a hello or a
-- request that has no reply yet, or stopped. `taken` is what the connection has taken of its replies.
use Rattle.std.specs.Prelude.{◌≡◌, ◌≤◌, ◌+◌, ◌⊎◌, ℕ, List, [], ◌++◌, Option, length}
use Rattle.std.specs.List.{AllByRecursion}
use Rattle.std.specs.Io.KnownBytes.{Consumes}
use Rattle.sysv_model.specs.declared.cred.Cred.{Cred}
use Rattle.sysv_queue.specs.Tally.{Tallied}
use Rattle.sysv_session.specs.declared.served.End.{End}
use Rattle.sysv_session.specs.declared.served.TheConstants.{SESSION_REQUESTS}
use Rattle.sysv_session.specs.Calls.{Call, IsCall, Leads, Meaning, messages_of}
use Rattle.sysv_session.specs.Conversation.{Dialogue}
use Rattle.sysv_session.specs.Gathered.{Gathered, Gathers, messages_among}
use Rattle.sysv_session.specs.Input.{FitsHello, asked_encoding, hello_encoding}
use Rattle.sysv_session.specs.Together.{IsStoppedWithin, Replied, StopsAfter, StopsBefore}
use Rattle.sysv_session.specs.Pending.{Asking, Greets, Pending}
use Rattle.sysv_wire.specs.declared.frame.Version.{Version}
use Rattle.sysv_wire.specs.declared.request.Request.{Request}

-- No message was written, and this many were lost.
abbrev pub only_lost : ℕ → Tallied
only_lost count = record { written = 0; lost = count }

module _ (newest : Version) {K : Type 0} where
  -- All that was taken up has its reply.
  pub record Stands (Means : Meaning K) (slots : ℕ) (dialogue : Dialogue) (old now : K) (left unread : Option (List ℕ))
      (taken : List ℕ) : Type 0 where
    pub replies : List Gathered
    pub pending : Pending newest Means slots dialogue.session old now left unread replies
    pub gathers : Gathers (only_lost 0) replies taken dialogue.unsent dialogue.session.tally

  -- A hello of this version was taken up, and its reply is not gathered yet.
  pub record StandsGreeting (version : Version) (dialogue : Dialogue) (old now : K) (left unread : Option (List ℕ))
      (taken : List ℕ) : Type 0 where
    pub replies : List Gathered
    pub greets : Greets newest version dialogue.session old now left unread replies
    pub gathers : Gathers (only_lost 0) replies taken dialogue.unsent dialogue.session.tally

  -- This request was taken up, and its call is not over yet, or its reply is not gathered.
  pub record StandsAsking (Means : Meaning K) (slots : ℕ) (cred : Cred) (request : Request) (text : List ℕ)
      (dialogue : Dialogue) (old now : K) (left unread : Option (List ℕ)) (taken : List ℕ) : Type 0 where
    pub replies : List Gathered
    pub asking : Asking newest Means slots cred request text dialogue.session old now left unread replies
    pub gathers : Gathers (only_lost 0) replies taken dialogue.unsent dialogue.session.tally

  -- It stopped for this reason before a hello was taken up.
  pub record StoppedBefore (why : End) (dialogue : Dialogue) (old now : K) (left rest : Option (List ℕ))
      (taken : List ℕ) :
      Type 0 where
    pub handler : now ≡ old
    pub ends : StopsBefore newest why left rest
    pub gathers : Gathers (only_lost 0) [] taken dialogue.unsent dialogue.session.tally
    pub counts : dialogue.session.requests ≡ 0

  -- It stopped for this reason after its hello.
  pub record StoppedAfter (Means : Meaning K) (slots : ℕ) (why : End) (dialogue : Dialogue) (old now : K)
      (left rest : Option (List ℕ)) (taken : List ℕ) : Type 0 where
    pub version : Version
    pub cred : Cred
    pub known : FitsHello newest version cred
    pub calls : List Call
    pub are_calls : AllByRecursion (IsCall version) calls
    pub leads : Leads Means cred old calls now
    pub unread : Option (List ℕ)
    pub reads : Consumes left unread (hello_encoding version cred ++ asked_encoding calls)
    pub ends : StopsAfter newest version why unread rest
    pub within : IsStoppedWithin why dialogue.session.requests
    pub replies : List Gathered
    pub replied : Replied why version slots calls replies
    pub lost : ℕ  -- the messages whose replies could not be gathered
    pub gathers : Gathers (only_lost lost) replies taken dialogue.unsent dialogue.session.tally
    pub all : messages_of calls ≡ lost + messages_among replies
    pub counts : dialogue.session.requests ≡ 1 + length calls
    pub bounded : dialogue.session.requests ≤ SESSION_REQUESTS

  -- It stopped for this reason: it takes up no more.
  abbrev pub Stopped : Meaning K → ℕ → End → Dialogue → (old now : K) → (left rest : Option (List ℕ)) → List ℕ → Type 0
  Stopped Means slots why dialogue old now left rest taken =
      StoppedBefore why dialogue old now left rest taken ⊎ StoppedAfter Means slots why dialogue old now left rest taken
