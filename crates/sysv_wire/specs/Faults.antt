-- What a reader has taken of the input when it returns a fault (the order is this project's
-- profile). The length is checked first, then the version, the operation and the length that the
-- operation has, and then the rest of the frame is read.
use Rattle.std.specs.Prelude.{◌≡◌, ◌<◌, ◌≤◌, ◌+◌, ◌^◌, ◌⊎◌, ⊤, ℕ, Bool, true, false, List, [], ◌∷◌, ◌++◌, length}
use Rattle.std.specs.Prelude.{Option, Result, Ok, Err}
use Rattle.std.specs.Io.KnownBytes.{Consumes, IsAtEnd}
use Rattle.sysv_wire.specs.declared.fault.Fault.{Fault}
use Rattle.sysv_wire.specs.declared.fault.Fault.TheVariants.{Truncated, TooLong, BadOp, BadField, Read}
use Rattle.sysv_wire.specs.declared.frame.Op.{Op}
use Rattle.sysv_wire.specs.declared.frame.TheConstants.{MIN_REQUEST, MAX_REQUEST}
use Rattle.sysv_wire.specs.declared.frame.Version.{Version}
use Rattle.sysv_wire.specs.Frames.{IsNoVersion, IsUpTo, Knows, last_op, op_number, version_number}
use Rattle.sysv_wire.specs.Numbers.{u32_bytes}
use Rattle.sysv_wire.specs.Requests.{IsRequestLength}

-- The fault is that the reader failed.
abbrev pub is_read : Fault → Bool
is_read Truncated = false
is_read TooLong = false
is_read BadOp = false
is_read BadField = false
is_read Read = true

-- The result is that the reader failed.
abbrev pub is_read_fault : {T : Type 0} → Result T Fault → Bool
is_read_fault (Ok value) = false
is_read_fault (Err fault) = is_read fault

-- After this fault the input is at its end. This is stated of `Truncated` only.
abbrev pub EndsAt : Fault → Option (List ℕ) → Type 0
EndsAt Truncated new = IsAtEnd new
EndsAt TooLong new = ⊤
EndsAt BadOp new = ⊤
EndsAt BadField new = ⊤
EndsAt Read new = ⊤

-- The bytes that were taken are the cause of this fault.
abbrev pub Faults : (Fault → List ℕ → Type 0) → Fault → Option (List ℕ) → Option (List ℕ) → Type 0
Faults IsWhy fault old new = (taken : List ℕ) × Consumes old new taken × IsWhy fault taken × EndsAt fault new

-- The input ended within some bytes, or could not be read.
abbrev pub Breaks : (List ℕ → Type 0) → Fault → List ℕ → Type 0
Breaks IsPart Truncated taken = IsPart taken
Breaks IsPart Read taken = ⊤
Breaks IsPart TooLong taken = ⊥
Breaks IsPart BadOp taken = ⊥
Breaks IsPart BadField taken = ⊥

-- There are fewer than this number of bytes.
abbrev pub IsShorter : ℕ → List ℕ → Type 0
IsShorter n taken = length taken < n

-- A part of a length field: one to three bytes.
abbrev pub IsPartLength : List ℕ → Type 0
IsPartLength taken = (0 < length taken) × (length taken < 4)

-- A part of a head. A head is a length within the limits, followed by the bytes that are checked
-- with it, whose number is the minimum length.
abbrev pub IsPartHead : ℕ → ℕ → List ℕ → Type 0
IsPartHead least most taken =
    (n : ℕ) × (part : List ℕ) × (least ≤ n) × (n ≤ most) × (length part < least) × (taken ≡ u32_bytes n ++ part)

-- Why a length is refused.
abbrev pub LengthFault : ℕ → ℕ → ℕ → Fault → Type 0
LengthFault least most n TooLong = most < n
LengthFault least most n BadField = n < least
LengthFault least most n Truncated = ⊥
LengthFault least most n BadOp = ⊥
LengthFault least most n Read = ⊥

-- Why a head whose length must be within these limits is refused.
abbrev pub HeadFault : ℕ → ℕ → Fault → List ℕ → Type 0
HeadFault least most Truncated taken = IsPartLength taken ⊎ IsPartHead least most taken
HeadFault least most TooLong taken = (n : ℕ) × (n < 2 ^ 32) × LengthFault least most n TooLong × (taken ≡ u32_bytes n)
HeadFault least most BadField taken = (n : ℕ) × (n < 2 ^ 32) × LengthFault least most n BadField × (taken ≡ u32_bytes n)
HeadFault least most BadOp taken = ⊥
HeadFault least most Read taken = ⊤

-- The length of a request within the limits, its version and its operation.
abbrev pub IsRequestHead : ℕ → ℕ → ℕ → List ℕ → Type 0
IsRequestHead n version number taken =
    (MIN_REQUEST ≤ n) × (n ≤ MAX_REQUEST) × (taken ≡ u32_bytes n ++ version ∷ number ∷ [])

-- What a reader with this newest version refuses.
module _ (newest : Version) where
  -- The number is no version's, or the length is not one that the operation has.
  abbrev pub IsBadRequest : ℕ → ℕ → ℕ → Type 0
  IsBadRequest n byte number = IsNoVersion newest byte
      ⊎ ((version : Version) × (version_number version ≡ byte)
      × ((op : Op) × (op_number op ≡ number) × (¬ IsRequestLength op n) × Knows newest version op))

  -- Why a request with this length, version and operation is refused.
  abbrev pub OpFault : ℕ → ℕ → ℕ → Fault → Type 0
  OpFault n byte number BadField = IsBadRequest n byte number
  OpFault n byte number BadOp =
      (version : Version) × (version_number version ≡ byte) × IsUpTo newest version × (last_op version < number)
  OpFault n byte number Truncated = ⊥
  OpFault n byte number TooLong = ⊥
  OpFault n byte number Read = ⊥

  -- The head of a request, and a part of the rest.
  abbrev pub IsPartRequest : List ℕ → Type 0
  IsPartRequest taken =
      (n : ℕ) × (version : Version) × (op : Op) × (part : List ℕ) × (n ≤ MAX_REQUEST) × IsRequestLength op n
      × (2 + length part < n) × (taken ≡ u32_bytes n ++ (version_number version ∷ op_number op ∷ part))
      × Knows newest version op

  -- Why a request is refused: because of its length, because of what is checked with the length, or
  -- because the input ends within the request.
  abbrev pub RequestFault : Fault → List ℕ → Type 0
  RequestFault Truncated taken = HeadFault MIN_REQUEST MAX_REQUEST Truncated taken ⊎ IsPartRequest taken
  RequestFault TooLong taken = HeadFault MIN_REQUEST MAX_REQUEST TooLong taken
  RequestFault BadOp taken =
      (n : ℕ) × (version : ℕ) × (number : ℕ) × IsRequestHead n version number taken × OpFault n version number BadOp
  RequestFault BadField taken = HeadFault MIN_REQUEST MAX_REQUEST BadField taken
      ⊎ ((n : ℕ) × (version : ℕ) × (number : ℕ) × IsRequestHead n version number taken
      × OpFault n version number BadField)
  RequestFault Read taken = ⊤
