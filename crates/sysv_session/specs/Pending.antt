-- What a pending session has done so far (this project's profile). Either it has taken up nothing, or
-- it has taken up its hello and then calls, each of which has its reply, in order. A request for the
-- handler may have been taken up whose outcome is not there yet.
use Rattle.std.specs.Prelude.{◌≡◌, ◌≤◌, ◌+◌, ◌⊎◌, ℕ, List, [], ◌∷◌, ◌++◌, Option, None, Some, length, map}
use Rattle.std.specs.List.{AllByRecursion}
use Rattle.std.specs.Io.KnownBytes.{Consumes}
use Rattle.sysv_model.specs.declared.cred.Cred.{Cred}
use Rattle.sysv_session.specs.declared.handler.RequestOutcome.{RequestOutcome}
use Rattle.sysv_session.specs.declared.handler.RequestOutcome.TheVariants.{Reply, Got, Left}
use Rattle.sysv_session.specs.declared.served.TheConstants.{SESSION_REQUESTS}
use Rattle.sysv_session.specs.declared.session.Session.{Session}
use Rattle.sysv_session.specs.Answers.{IsAskedIn}
use Rattle.sysv_session.specs.Calls.{Call, IsCall, Leads, Meaning}
use Rattle.sysv_session.specs.Gathered.{Gathered, message_of, plain}
use Rattle.sysv_session.specs.Input.{FitsHello, asked_encoding, hello_encoding}
use Rattle.sysv_session.specs.Output.{AreReplied, hello_frame}
use Rattle.sysv_wire.specs.declared.frame.Version.{Version}
use Rattle.sysv_wire.specs.declared.request.Request.{Request}
use Rattle.sysv_wire.specs.Replies.{reply_encoding}
use Rattle.sysv_wire.specs.Requests.{request_encoding}

-- The reply for an outcome in this version: a message with its mark, and any other reply without.
-- A call that was left has no bytes.
abbrev pub reply_for : Version → RequestOutcome → List ℕ → Gathered
reply_for version (Reply reply) given = plain (reply_encoding reply given)
reply_for version (Got delivery) given = message_of version delivery given
reply_for version Left given = plain []

-- The reply of a call.
abbrev pub reply_to : Call → Gathered
reply_to call = reply_for call.request.version call.outcome call.given

-- The reply to a hello of this version, which states this number of slots unless it is version 1.
abbrev pub greeting : Version → ℕ → Gathered
greeting version slots = plain (hello_frame version slots)

-- The reply to the hello, and then the reply of each call, in order.
abbrev pub replies_to : Version → ℕ → List Call → List Gathered
replies_to version slots calls = greeting version slots ∷ map reply_to calls

module _ (newest : Version) {K : Type 0} where
  -- No hello was taken up yet.
  pub record Fresh (session : Session) (old now : K) (left unread : Option (List ℕ)) (replies : List Gathered) :
      Type 0 where
    pub limit : session.newest ≡ newest
    pub caller : session.caller ≡ None
    pub counts : session.requests ≡ 0
    pub handler : now ≡ old
    pub reads : unread ≡ left
    pub gathered : replies ≡ []

  -- A hello was taken up, and then these calls, each of which has its reply.
  pub record Greeted (Means : Meaning K) (slots : ℕ) (session : Session) (old now : K)
      (left unread : Option (List ℕ)) (replies : List Gathered) : Type 0 where
    pub version : Version
    pub cred : Cred
    pub known : FitsHello newest version cred
    pub calls : List Call
    pub are_calls : AllByRecursion (IsCall version) calls
    pub leads : Leads Means cred old calls now
    pub reads : Consumes left unread (hello_encoding version cred ++ asked_encoding calls)
    pub replied : AreReplied calls
    pub limit : session.newest ≡ newest
    pub caller : session.caller ≡ Some (version, cred)
    pub counts : session.requests ≡ 1 + length calls
    pub bounded : session.requests ≤ SESSION_REQUESTS
    pub gathered : replies ≡ replies_to version slots calls

  -- A pending session. Of the input that was there at its start, `unread` is what it has not taken
  -- up. These are its replies, whether the connection has taken them or not.
  abbrev pub Pending : Meaning K → ℕ → Session → (old now : K) → (left unread : Option (List ℕ)) → List Gathered →
      Type 0
  Pending Means slots session old now left unread replies =
      Fresh session old now left unread replies ⊎ Greeted Means slots session old now left unread replies

  -- A hello of this version was taken up, and its reply is not gathered yet.
  pub record Greets (version : Version) (session : Session) (old now : K) (left unread : Option (List ℕ))
      (replies : List Gathered) : Type 0 where
    pub cred : Cred
    pub known : FitsHello newest version cred
    pub handler : now ≡ old
    pub reads : Consumes left unread (hello_encoding version cred)
    pub limit : session.newest ≡ newest
    pub caller : session.caller ≡ Some (version, cred)
    pub counts : session.requests ≡ 1
    pub gathered : replies ≡ []

  -- This request with these credentials was taken up after other calls, and has no outcome yet: `now`
  -- is the handler before its call.
  pub record Asking (Means : Meaning K) (slots : ℕ) (cred : Cred) (request : Request) (text : List ℕ)
      (session : Session) (old now : K) (left unread : Option (List ℕ)) (replies : List Gathered) : Type 0 where
    pub version : Version
    pub known : FitsHello newest version cred
    pub calls : List Call
    pub are_calls : AllByRecursion (IsCall version) calls
    pub leads : Leads Means cred old calls now
    pub behind : Option (List ℕ)  -- what was unread before this request
    pub reads : Consumes left behind (hello_encoding version cred ++ asked_encoding calls)
    pub asks : Consumes behind unread (request_encoding request text)
    pub asked : IsAskedIn version request text
    pub replied : AreReplied calls
    pub limit : session.newest ≡ newest
    pub caller : session.caller ≡ Some (version, cred)
    pub counts : session.requests ≡ 2 + length calls
    pub bounded : session.requests ≤ SESSION_REQUESTS
    pub gathered : replies ≡ replies_to version slots calls
