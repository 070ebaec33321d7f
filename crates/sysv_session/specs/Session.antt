-- What a session does (this project's profile). It reads a hello and replies to it. It then reads
-- requests, passes each to the handler and writes the handler's outcome, until something ends it. A
-- call that was left has no reply and ends it.
use Rattle.std.specs.Prelude.{◌≡◌, ◌+◌, ◌<◌, ◌⊎◌, ⊤, ℕ, List, ◌∷◌, ◌++◌, Option, length}
use Rattle.std.specs.List.{AllByRecursion}
use Rattle.std.specs.Io.KnownBytes.{Consumes}
use Rattle.sysv_model.specs.declared.cred.Cred.{Cred}
use Rattle.sysv_queue.specs.Tally.{Tallied}
use Rattle.sysv_session.specs.declared.served.End.{End}
use Rattle.sysv_session.specs.declared.served.End.TheVariants.{Ended, NoMemory, NoHello, Fault, Write, Bound, Left}
use Rattle.sysv_session.specs.declared.served.End.TheVariants.{Reset}
use Rattle.sysv_session.specs.declared.served.Served.{Served}
use Rattle.sysv_session.specs.declared.served.TheConstants.{SESSION_REQUESTS}
use Rattle.sysv_session.specs.Calls.{Call, IsCall, Leads, Meaning}
use Rattle.sysv_session.specs.Input.{EndsAfter, EndsBefore, FitsHello, asked_encoding, hello_encoding}
use Rattle.sysv_session.specs.Output.{Replies, Tallies, Writes, frames_of, hello_frame}
use Rattle.sysv_wire.specs.declared.frame.Version.{Version}

-- A session that ends at its bound has taken up the maximum number of requests. One that ends
-- because of what it reads has taken up fewer.
abbrev pub IsBounded : End → ℕ → Type 0
IsBounded Ended requests = requests < SESSION_REQUESTS
IsBounded NoMemory requests = requests < SESSION_REQUESTS
IsBounded NoHello requests = requests < SESSION_REQUESTS
IsBounded (Fault fault) requests = requests < SESSION_REQUESTS
IsBounded Write requests = ⊤
IsBounded Bound requests = requests ≡ SESSION_REQUESTS
IsBounded Left requests = ⊤
IsBounded Reset requests = ⊤

module _ (newest : Version) {K : Type 0} where
  -- A session without a hello makes no call and writes nothing.
  pub record Stays (why : End) (tally : Tallied) (requests : ℕ) (old new : K)
      (left rest taken more : Option (List ℕ)) : Type 0 where
    pub handler : new ≡ old
    pub ends : EndsBefore newest why left rest
    pub writes : more ≡ taken
    pub tallies : tally ≡ record { written = 0; lost = 0 }
    pub counts : requests ≡ 0

  -- A session with a hello. Its calls of the handler are one for each request of the hello's
  -- version that was read after the hello, and it writes the frames of the replies to the hello and
  -- to these calls. Each call has a reply, except a last one that was left. The reply to the hello
  -- states this number of slots, unless it is of version 1.
  pub record Converses (Means : Meaning K) (slots : ℕ) (why : End) (tally : Tallied) (requests : ℕ) (old new : K)
      (left rest taken more : Option (List ℕ)) : Type 0 where
    pub version : Version
    pub cred : Cred
    pub known : FitsHello newest version cred
    pub calls : List Call
    pub are_calls : AllByRecursion (IsCall version) calls
    pub leads : Leads Means cred old calls new
    pub unread : Option (List ℕ)  -- what the reader had left after the last request that was taken up
    pub reads : Consumes left unread (hello_encoding version cred ++ asked_encoding calls)
    pub ends : EndsAfter newest version why unread rest
    pub replies : Replies why calls
    pub writes : Writes why (hello_frame version slots ∷ frames_of calls) taken more
    pub tallies : Tallies why calls tally
    pub counts : requests ≡ 1 + length calls
    pub bounded : IsBounded why requests

  -- A session is without a hello or with one.
  abbrev pub ServesBy : Meaning K → ℕ → End → Tallied → ℕ → (old new : K) → (left rest taken more : Option (List ℕ)) →
      Type 0
  ServesBy Means slots why tally requests old new left rest taken more =
      Stays why tally requests old new left rest taken more
      ⊎ Converses Means slots why tally requests old new left rest taken more

  -- What a session that reported this did to its handler, to what its reader had left and to what
  -- its writer had taken.
  abbrev pub Serves : Meaning K → ℕ → Served → (old new : K) → (left rest taken more : Option (List ℕ)) → Type 0
  Serves Means slots served old new left rest taken more =
      ServesBy Means slots served.«end» served.tally served.requests old new left rest taken more
