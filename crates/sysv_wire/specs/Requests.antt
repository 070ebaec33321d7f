-- The one encoding of each request (this project's profile): the version, the operation, its fields
-- in order, and after the fields of a send its body.
use Rattle.std.specs.Prelude.{◌≡◌, ◌≤◌, ◌<◌, ◌+◌, ◌^◌, ⊤, ℕ, length, Bool, true, false, List, [], ◌∷◌, ◌++◌, MatchBool}
use Rattle.std.specs.Prelude.{if◌then◌else◌}
use Rattle.std.specs.Int.{w32, w64}
use Rattle.std.specs.Int.RustNames.{FitsSigned}
use Rattle.sysv_model.specs.declared.limits.TheConstants.{BODY_ROOM}
use Rattle.sysv_wire.specs.declared.frame.Op.{Op}
use Rattle.sysv_wire.specs.declared.frame.Op.TheVariants as op
use Rattle.sysv_wire.specs.declared.request.Ask.{Ask}
use Rattle.sysv_wire.specs.declared.request.Ask.TheVariants.{Hello, Get, Snd, Rcv, Stat, Set, Rm, Row, Hold, Done, Back}
use Rattle.sysv_wire.specs.declared.request.Request.{Request}
use Rattle.sysv_wire.specs.Frames.{HasOp, op_number, version_number, frame}
use Rattle.sysv_wire.specs.Numbers.{u32_bytes, i32_bytes, i64_bytes}

-- The operation of a request.
abbrev pub op_of : Ask → Op
op_of (Hello cred) = op.Hello
op_of (Get key flags) = op.Get
op_of (Snd id mtype flags) = op.Snd
op_of (Rcv id size mtype flags) = op.Rcv
op_of (Stat id) = op.Stat
op_of (Set id to) = op.Set
op_of (Rm id) = op.Rm
op_of (Row slot) = op.Row
op_of (Hold id size mtype flags seconds) = op.Hold
op_of Done = op.Done
op_of Back = op.Back

-- The fields without the body.
unfoldable pub ask_fields : Ask → List ℕ
ask_fields (Hello cred) = u32_bytes cred.uid ++ (u32_bytes cred.gid ++ u32_bytes cred.pid)
ask_fields (Get key flags) = i32_bytes key ++ u32_bytes flags.0
ask_fields (Snd id mtype flags) = i32_bytes id ++ (i64_bytes mtype ++ u32_bytes flags.0)
ask_fields (Rcv id size mtype flags) = i32_bytes id ++ (u32_bytes size ++ (i64_bytes mtype ++ u32_bytes flags.0))
ask_fields (Stat id) = i32_bytes id
ask_fields (Set id to) =
    i32_bytes id ++ (u32_bytes to.uid ++ (u32_bytes to.gid ++ (u32_bytes to.mode ++ u32_bytes to.qbytes)))
ask_fields (Rm id) = i32_bytes id
ask_fields (Row slot) = u32_bytes slot
ask_fields (Hold id size mtype flags seconds) =
    i32_bytes id ++ (u32_bytes size ++ (i64_bytes mtype ++ (u32_bytes flags.0 ++ u32_bytes seconds)))
ask_fields Done = []
ask_fields Back = []

-- The request has a body after its fields: only a send.
abbrev pub has_text : Op → Bool
has_text op.Snd = true
has_text op.Hello = false
has_text op.Get = false
has_text op.Rcv = false
has_text op.Stat = false
has_text op.Set = false
has_text op.Rm = false
has_text op.Row = false
has_text op.Hold = false
has_text op.Done = false
has_text op.Back = false

-- The body, if the operation has one.
abbrev pub ask_text : Op → List ℕ → List ℕ
ask_text o text = if has_text o then text else []

-- The one encoding of a request.
abbrev pub request_encoding : Request → List ℕ → List ℕ
request_encoding request text =
    frame (version_number request.version ∷ op_number (op_of request.ask)
    ∷ (ask_fields request.ask ++ ask_text (op_of request.ask) text))

-- The number of bytes in the fields of an operation, without the body.
abbrev pub fields_len : Op → ℕ
fields_len op.Hello = 12
fields_len op.Get = 8
fields_len op.Snd = 16
fields_len op.Rcv = 20
fields_len op.Stat = 4
fields_len op.Set = 20
fields_len op.Rm = 4
fields_len op.Row = 4
fields_len op.Hold = 24
fields_len op.Done = 0
fields_len op.Back = 0

-- A request of the operation may have this length. With a body it may be any length that the fields
-- fit in.
abbrev pub IsRequestLength : Op → ℕ → Type 0
IsRequestLength o n = MatchBool (has_text o) (2 + fields_len o ≤ n) (n ≡ 2 + fields_len o)

-- The numbers are in the ranges of their types.
abbrev pub FitsAsk : Ask → Type 0
FitsAsk (Hello cred) = (cred.uid < 2 ^ 32) × (cred.gid < 2 ^ 32) × (cred.pid < 2 ^ 32)
FitsAsk (Get key flags) = FitsSigned w32 key × (flags.0 < 2 ^ 32)
FitsAsk (Snd id mtype flags) = FitsSigned w32 id × FitsSigned w64 mtype × (flags.0 < 2 ^ 32)
FitsAsk (Rcv id size mtype flags) = FitsSigned w32 id × (size < 2 ^ 32) × FitsSigned w64 mtype × (flags.0 < 2 ^ 32)
FitsAsk (Stat id) = FitsSigned w32 id
FitsAsk (Set id to) =
    FitsSigned w32 id × (to.uid < 2 ^ 32) × (to.gid < 2 ^ 32) × (to.mode < 2 ^ 32) × (to.qbytes < 2 ^ 32)
FitsAsk (Rm id) = FitsSigned w32 id
FitsAsk (Row slot) = slot < 2 ^ 32
FitsAsk (Hold id size mtype flags seconds) =
    FitsSigned w32 id × (size < 2 ^ 32) × FitsSigned w64 mtype × (flags.0 < 2 ^ 32) × (seconds < 2 ^ 32)
FitsAsk Done = ⊤
FitsAsk Back = ⊤

-- The request and its body can be sent: its version has its operation.
abbrev pub FitsRequest : Request → List ℕ → Type 0
FitsRequest request text =
    FitsAsk request.ask × (length text ≤ BODY_ROOM) × HasOp request.version (op_of request.ask)
