-- What an input requests of a session, considered alone (this project's profile). Either it does
-- not begin with a hello, or a hello is followed by requests and then by what stops them.
use Rattle.std.specs.Prelude.{◌≡◌, ◌+◌, ◌⊎◌, ⊤, ℕ, Bool, true, false, List, [], ◌∷◌, ◌++◌, length, Option, None, Some}
use Rattle.std.specs.Prelude.{Result, Ok, Err, if◌then◌else◌}
use Rattle.sysv_model.specs.declared.cred.Cred.{Cred}
use Rattle.sysv_session.specs.declared.served.End.{End}
use Rattle.sysv_session.specs.declared.served.End.TheVariants as «end»
use Rattle.sysv_session.specs.declared.served.Served.{Served}
use Rattle.sysv_session.specs.Answers.{IsAskedIn}
use Rattle.sysv_session.specs.Input.{FitsHello, hello_encoding}
use Rattle.sysv_wire.specs.declared.fault.Fault.{Fault}
use Rattle.sysv_wire.specs.declared.fault.Fault.TheVariants.{Truncated, TooLong, BadOp, BadField, Read}
use Rattle.sysv_wire.specs.declared.frame.Version.{Version}
use Rattle.sysv_wire.specs.declared.frame.Version.TheVariants.{One, Two, Three}
use Rattle.sysv_wire.specs.declared.request.Ask.{Ask}
use Rattle.sysv_wire.specs.declared.request.Ask.TheVariants.{Hello, Get, Snd, Rcv, Stat, Set, Rm, Row, Hold, Done, Back}
use Rattle.sysv_wire.specs.declared.request.Request.{Request}
use Rattle.sysv_wire.specs.OneAnswer.{RequestAt}
use Rattle.sysv_wire.specs.Requests.{request_encoding}

-- The request is a hello.
abbrev pub is_hello : Ask → Bool
is_hello (Hello cred) = true
is_hello (Get key flags) = false
is_hello (Snd id mtype flags) = false
is_hello (Rcv id size mtype flags) = false
is_hello (Stat id) = false
is_hello (Set id to) = false
is_hello (Rm id) = false
is_hello (Row slot) = false
is_hello (Hold id size mtype flags seconds) = false
is_hello Done = false
is_hello Back = false

-- The two versions are equal.
abbrev pub is_version : Version → Version → Bool
is_version One One = true
is_version Two Two = true
is_version Three Three = true
is_version One Two = false
is_version One Three = false
is_version Two One = false
is_version Two Three = false
is_version Three One = false
is_version Three Two = false

-- What is read, given a request of the session's version: the request itself, but a fault if it is
-- another hello.
abbrev pub or_hello : Request → Result (Option Request) Fault
or_hello request = if is_hello request.ask then Err BadOp else Ok (Some request)

-- What is read after a hello of this version, given what is read next as the first of a stream: a
-- request of another version is a fault.
abbrev pub later : Version → Result (Option Request) Fault → Result (Option Request) Fault
later version (Ok None) = Ok None
later version (Ok (Some request)) = if is_version version request.version then or_hello request else Err BadField
later version (Err fault) = Err fault

-- What stops the requests, as what is read: the end of the input, or a fault.
abbrev pub stop_answer : Option Fault → Result (Option Request) Fault
stop_answer None = Ok None
stop_answer (Some fault) = Err fault

-- A request and its body.
pub record Asked : Type 0 where
  pub request : Request
  pub text : List ℕ

-- The parse of an input: it ends before a request, begins with a request that is not a hello,
-- begins with a fault, or begins with a hello.
pub data Parse : Type 0 where
  NoRequest : Parse
  NoHello : Parse
  BadFirst : (fault : Fault) → Parse
  Greeted : (version : Version) (cred : Cred) (asked : List Asked) (stop : Option Fault) → Parse

-- An input of a session with this newest version.
module _ (newest : Version) where
  -- This is read next in a session of this version, after its hello.
  abbrev pub LaterAt : Version → List ℕ → Result (Option Request) Fault → Type 0
  LaterAt version input answer =
      (first : Result (Option Request) Fault) × RequestAt newest input first × (answer ≡ later version first)

  -- The input is these requests of this version, none of them a hello, and then this stops them.
  abbrev pub Asks : Version → List ℕ → List Asked → Option Fault → Type 0
  Asks version input [] stop = LaterAt version input (stop_answer stop)
  Asks version input (asked ∷ more) stop = (rest : List ℕ) × IsAskedIn version asked.request asked.text
      × (input ≡ request_encoding asked.request asked.text ++ rest) × Asks version rest more stop

  -- The input has this parse.
  abbrev pub Takes : List ℕ → Parse → Type 0
  Takes input NoRequest = RequestAt newest input (Ok None)
  Takes input NoHello =
      (request : Request) × (is_hello request.ask ≡ false) × RequestAt newest input (Ok (Some request))
  Takes input (BadFirst fault) = RequestAt newest input (Err fault)
  Takes input (Greeted version cred asked stop) =
      (rest : List ℕ) × FitsHello newest version cred × (input ≡ hello_encoding version cred ++ rest)
      × Asks version rest asked stop

-- Without a failure of memory or of a stream, a session with this parse ends for this reason, with
-- this number of requests.
abbrev pub EndsAsTold : Parse → End → ℕ → Type 0
EndsAsTold NoRequest why requests = (why ≡ «end».Ended) × (requests ≡ 0)
EndsAsTold NoHello why requests = (why ≡ «end».NoHello) × (requests ≡ 0)
EndsAsTold (BadFirst fault) why requests = (why ≡ «end».Fault fault) × (requests ≡ 0)
EndsAsTold (Greeted version cred asked None) why requests = (why ≡ «end».Ended) × (requests ≡ 1 + length asked)
EndsAsTold (Greeted version cred asked (Some fault)) why requests =
    (why ≡ «end».Fault fault) × (requests ≡ 1 + length asked)

-- The session ended because memory was refused, because the reader or the writer failed, because it
-- had the maximum number of requests, or because its client left a call that waited.
abbrev pub IsCutShort : End → Type 0
IsCutShort «end».Ended = ⊥
IsCutShort «end».NoMemory = ⊤
IsCutShort «end».NoHello = ⊥
IsCutShort («end».Fault Truncated) = ⊥
IsCutShort («end».Fault TooLong) = ⊥
IsCutShort («end».Fault BadOp) = ⊥
IsCutShort («end».Fault BadField) = ⊥
IsCutShort («end».Fault Read) = ⊤
IsCutShort «end».Write = ⊤
IsCutShort «end».Bound = ⊤
IsCutShort «end».Left = ⊤
IsCutShort «end».Reset = ⊥

-- The session ended as the parse of its input determines, or it was cut short.
abbrev pub Follows : Parse → Served → Type 0
Follows parse served = EndsAsTold parse served.«end» served.requests ⊎ IsCutShort served.«end»
