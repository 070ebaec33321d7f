-- What a session reads (this project's profile): a hello, the requests that the handler receives,
-- and then what ends the session.
use Rattle.std.specs.Prelude.{◌≡◌, ◌≢◌, ◌⊎◌, ℕ, List, [], Option, None, Some, Result, Ok, Err, flat_map}
use Rattle.std.specs.Io.KnownBytes.{Consumes, IsAtEnd}
use Rattle.sysv_model.specs.declared.cred.Cred.{Cred}
use Rattle.sysv_session.specs.declared.served.End.{End}
use Rattle.sysv_session.specs.declared.served.End.TheVariants as «end»
use Rattle.sysv_session.specs.Answers.{IsAsked, IsAskedIn}
use Rattle.sysv_session.specs.Calls.{Call}
use Rattle.sysv_wire.specs.declared.fault.Fault.{Fault}
use Rattle.sysv_wire.specs.declared.fault.Fault.TheVariants.{Truncated, TooLong, BadOp, BadField, Read}
use Rattle.sysv_wire.specs.declared.frame.Version.{Version}
use Rattle.sysv_wire.specs.declared.request.Ask.TheVariants.{Hello}
use Rattle.sysv_wire.specs.declared.request.Request.{Request}
use Rattle.sysv_wire.specs.Faults.{Faults, RequestFault}
use Rattle.sysv_wire.specs.Frames.{IsUpTo}
use Rattle.sysv_wire.specs.Requests.{FitsRequest, request_encoding}

-- The hello of this version with these credentials.
abbrev pub hello_of : Version → Cred → Request
hello_of version cred = record { version = version; ask = Hello cred }

-- The one encoding of a hello.
abbrev pub hello_encoding : Version → Cred → List ℕ
hello_encoding version cred = request_encoding (hello_of version cred) []

-- The encodings of the requests that the handler received, in order.
abbrev pub asked_encoding : List Call → List ℕ
asked_encoding calls = flat_map (λ call. request_encoding call.request call.text) calls

-- What a session with this newest version reads.
module _ (newest : Version) where
  -- It reads a hello of this version with these credentials, which can be sent.
  abbrev pub FitsHello : Version → Cred → Type 0
  FitsHello version cred = FitsRequest (hello_of version cred) [] × IsUpTo newest version

  -- These bytes are a hello of this version.
  abbrev pub IsHello : Version → List ℕ → Type 0
  IsHello version bytes = (cred : Cred) × FitsHello version cred × (bytes ≡ hello_encoding version cred)

  -- These bytes are a request of another version, which may be a hello.
  abbrev pub IsOfAnother : Version → List ℕ → Type 0
  IsOfAnother version bytes =
      (request : Request) × (text : List ℕ) × (request.version ≢ version) × FitsRequest request text
      × (bytes ≡ request_encoding request text) × IsUpTo newest request.version

  -- Why a request after the hello is refused in a session of this version, by the bytes that were
  -- taken: as any request is refused, or because it is another hello, or because it is of another
  -- version.
  abbrev pub LaterFault : Version → Fault → List ℕ → Type 0
  LaterFault version Truncated taken = RequestFault newest Truncated taken
  LaterFault version TooLong taken = RequestFault newest TooLong taken
  LaterFault version BadOp taken = RequestFault newest BadOp taken ⊎ IsHello version taken
  LaterFault version BadField taken = RequestFault newest BadField taken ⊎ IsOfAnother version taken
  LaterFault version Read taken = RequestFault newest Read taken

  -- The next request that the handler receives is read, or there is none at the end of the input, or
  -- there is a fault.
  abbrev pub ReadsAsked : Version → Option (List ℕ) → Option (List ℕ) → Result (Option Request) Fault → List ℕ → Type 0
  ReadsAsked version old new (Ok (Some request)) text =
      Consumes old new (request_encoding request text) × IsAskedIn version request text
  ReadsAsked version old new (Ok None) text = Consumes old new [] × IsAtEnd new
  ReadsAsked version old new (Err fault) text = Faults (LaterFault version) fault old new

  -- Why a session ends before its hello, by what it took of the input.
  abbrev pub EndsBefore : End → Option (List ℕ) → Option (List ℕ) → Type 0
  EndsBefore «end».Ended old new = Consumes old new [] × IsAtEnd new
  EndsBefore «end».NoMemory old new = new ≡ old
  EndsBefore «end».NoHello old new =
      (request : Request) × (text : List ℕ) × IsAsked request text × Consumes old new (request_encoding request text)
      × IsUpTo newest request.version
  EndsBefore («end».Fault fault) old new = Faults (RequestFault newest) fault old new
  EndsBefore «end».Write old new = ⊥
  EndsBefore «end».Bound old new = ⊥
  EndsBefore «end».Left old new = ⊥
  EndsBefore «end».Reset old new = ⊥

  -- Why a session ends after its hello, by what it took of the input after the last request that it
  -- took up.
  abbrev pub EndsAfter : Version → End → Option (List ℕ) → Option (List ℕ) → Type 0
  EndsAfter version «end».Ended old new = Consumes old new [] × IsAtEnd new
  EndsAfter version «end».NoMemory old new = ⊥
  EndsAfter version «end».NoHello old new = ⊥
  EndsAfter version («end».Fault fault) old new = Faults (LaterFault version) fault old new
  EndsAfter version «end».Write old new = new ≡ old
  EndsAfter version «end».Bound old new = new ≡ old
  EndsAfter version «end».Left old new = new ≡ old
  EndsAfter version «end».Reset old new = ⊥

  -- The version and the credentials of a hello are read, or there is a reason why there is no hello.
  abbrev pub Greets : Result (Version × Cred) End → Option (List ℕ) → Option (List ℕ) → Type 0
  Greets (Ok caller) old new =
      FitsHello caller.0 caller.1 × Consumes old new (hello_encoding caller.0 caller.1)
  Greets (Err why) old new = EndsBefore why old new × (why ≢ «end».NoMemory)
