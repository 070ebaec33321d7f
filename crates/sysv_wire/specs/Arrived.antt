-- What bytes that have arrived hold of the next request, if more bytes may follow (this project's
-- profile).
use Rattle.std.specs.Prelude.{◌≡◌, ◌<◌, ◌≤◌, ◌+◌, ◌⊎◌, ⊤, ℕ, List, ◌++◌, length, take, drop}
use Rattle.std.specs.Prelude.{Option, None, Some, Result, Ok, Err}
use Rattle.sysv_wire.specs.declared.fault.Fault.{Fault}
use Rattle.sysv_wire.specs.declared.fault.Fault.TheVariants.{Truncated, TooLong, BadOp, BadField, Read}
use Rattle.sysv_wire.specs.declared.frame.TheConstants.{LENGTH_BYTES, MIN_REQUEST, MAX_REQUEST}
use Rattle.sysv_wire.specs.declared.arrived.FrameIn.{FrameIn}
use Rattle.sysv_wire.specs.declared.arrived.FrameIn.TheVariants.{Whole, Refused, More}
use Rattle.sysv_wire.specs.declared.frame.Version.{Version}
use Rattle.sysv_wire.specs.declared.request.Request.{Request}
use Rattle.sysv_wire.specs.Faults.{IsPartHead, IsPartRequest}
use Rattle.sysv_wire.specs.Frames.{IsUpTo}
use Rattle.sysv_wire.specs.OneAnswer.{RequestAt}
use Rattle.sysv_wire.specs.Reading.{ReadsRequest}
use Rattle.sysv_wire.specs.Requests.{FitsRequest, request_encoding}

-- With this many bytes the result is the same: always, unless more were needed. Then it is up to
-- the number that was needed.
abbrev pub IsSettled : FrameIn → ℕ → Type 0
IsSettled (Whole n) size = ⊤
IsSettled (Refused fault) size = ⊤
IsSettled (More least) size = size < least

-- What they hold for a reader with this newest version.
module _ (newest : Version) where
  -- The first bytes, this many, are the encoding of a request.
  abbrev pub HoldsRequest : ℕ → List ℕ → Type 0
  HoldsRequest n bytes =
      (n ≤ length bytes) × ((request : Request) × (text : List ℕ) × FitsRequest request text
      × (take n bytes ≡ request_encoding request text) × IsUpTo newest request.version)

  -- The bytes are the cause of this fault, whatever follows them.
  abbrev pub HoldsFault : Fault → List ℕ → Type 0
  HoldsFault Truncated bytes = ⊥
  HoldsFault TooLong bytes = RequestAt newest bytes (Err TooLong)
  HoldsFault BadOp bytes = RequestAt newest bytes (Err BadOp)
  HoldsFault BadField bytes = RequestAt newest bytes (Err BadField)
  HoldsFault Read bytes = ⊥

  -- The bytes end within the length field, within the version and the operation, or within the rest
  -- of a request. That part is whole once this many bytes have arrived.
  abbrev pub EndsWithin : ℕ → List ℕ → Type 0
  EndsWithin n bytes =
      ((length bytes < LENGTH_BYTES) × (n ≡ LENGTH_BYTES))
      ⊎ ((IsPartHead MIN_REQUEST MAX_REQUEST bytes × (n ≡ LENGTH_BYTES + MIN_REQUEST))
      ⊎ ((part : IsPartRequest newest bytes) × (n ≡ LENGTH_BYTES + part.0)))

  -- What the bytes hold.
  abbrev pub FrameAt : List ℕ → FrameIn → Type 0
  FrameAt bytes (Whole n) = HoldsRequest n bytes
  FrameAt bytes (Refused fault) = HoldsFault fault bytes
  FrameAt bytes (More least) = EndsWithin least bytes

  -- The result of reading a request fits the bytes, whatever follows them.
  abbrev pub AlwaysAt : List ℕ → Result (Option Request) Fault → Type 0
  AlwaysAt bytes answer = (rest : List ℕ) → RequestAt newest (bytes ++ rest) answer

  -- What reading a request from the bytes returns. A whole frame is a request, both alone and
  -- whatever follows the bytes, and a refused one is the fault. If more bytes are needed, the bytes
  -- without more are no request yet, or end within one.
  abbrev pub ReadsAs : List ℕ → FrameIn → Type 0
  ReadsAs bytes (Whole n) =
      (request : Request) × RequestAt newest (take n bytes) (Ok (Some request)) × AlwaysAt bytes (Ok (Some request))
  ReadsAs bytes (Refused fault) = AlwaysAt bytes (Err fault)
  ReadsAs bytes (More least) = RequestAt newest bytes (Ok None) ⊎ RequestAt newest bytes (Err Truncated)

  -- Bytes hold one of these only.
  abbrev pub OneFrame : Type 0
  OneFrame = (bytes : List ℕ) (a b : FrameIn) → FrameAt bytes a → FrameAt bytes b → a ≡ b

  -- What the bytes hold stays the same if bytes follow.
  abbrev pub FrameStays : Type 0
  FrameStays =
      (bytes rest : List ℕ) (found : FrameIn) → FrameAt bytes found → IsSettled found (length (bytes ++ rest))
      → FrameAt (bytes ++ rest) found

  -- A whole frame is one without the bytes after it too.
  abbrev pub FrameAlone : Type 0
  FrameAlone = (bytes : List ℕ) (n : ℕ) → HoldsRequest n bytes → HoldsRequest n (take n bytes)

  -- Reading a request from bytes that begin with a whole frame takes this frame and no byte after it,
  -- unless the reader fails.
  abbrev pub FrameTaken : Type 0
  FrameTaken =
      (bytes : List ℕ) (n : ℕ) (new : Option (List ℕ)) (result : Result (Option Request) Fault) (text : List ℕ)
      → HoldsRequest n bytes → ReadsRequest newest (Some bytes) new result text
      → (new ≡ Some (drop n bytes)) ⊎ (result ≡ Err Read)
