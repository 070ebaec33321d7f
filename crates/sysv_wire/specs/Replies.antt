-- The one encoding of each reply (this project's profile): the version, the operation, the number
-- of the error or 0, then the fields of the result in order, and after the fields of a receive or a
-- hold the body of the message. An error has no fields.
use Rattle.std.specs.Prelude.{◌≡◌, ◌≢◌, ◌≤◌, ◌<◌, ◌^◌, ◌==◌, length, ⊤, ◌⊎◌, ℕ, Bool, true, false, List, [], ◌∷◌, ◌++◌}
use Rattle.std.specs.Prelude.{None}
use Rattle.std.specs.Prelude.{Some, MatchBool, if◌then◌else◌}
use Rattle.std.specs.Int.{w32, w64}
use Rattle.std.specs.Int.RustNames.{FitsSigned}
use Rattle.sysv_model.specs.Errors.{number_of}
use Rattle.sysv_model.specs.declared.attributes.Perm.{Perm}
use Rattle.sysv_model.specs.declared.attributes.Row.{Row as Line}
use Rattle.sysv_model.specs.declared.attributes.Stat.{Stat as Attributes}
use Rattle.sysv_model.specs.declared.limits.TheConstants.{MESSAGE_BYTES}
use Rattle.sysv_wire.specs.declared.frame.Op.{Op}
use Rattle.sysv_wire.specs.declared.frame.Op.TheVariants as op
use Rattle.sysv_wire.specs.declared.frame.TheConstants.{MAX_MODE}
use Rattle.sysv_wire.specs.declared.frame.Version.{Version}
use Rattle.sysv_wire.specs.declared.frame.Version.TheVariants.{One, Two, Three}
use Rattle.sysv_wire.specs.declared.reply.ReplyContent.{ReplyContent}
use Rattle.sysv_wire.specs.declared.reply.ReplyContent.TheVariants.{Refused, Hello, HelloSlots, Get, Snd, Rcv, Stat}
use Rattle.sysv_wire.specs.declared.reply.ReplyContent.TheVariants.{Set, Rm, Row, Hold, Done, Back}
use Rattle.sysv_wire.specs.declared.reply.Reply.{Reply}
use Rattle.sysv_wire.specs.Frames.{last_op, op_number, version_number, frame}
use Rattle.sysv_wire.specs.Numbers.{u16_bytes, u32_bytes, u64_bytes, i32_bytes, i64_bytes}

-- The numbers are in the ranges of their types.
pub record FitsPerm (perm : Perm) : Type 0 where
  pub uid : perm.uid < 2 ^ 32
  pub gid : perm.gid < 2 ^ 32
  pub cuid : perm.cuid < 2 ^ 32
  pub cgid : perm.cgid < 2 ^ 32
  pub mode : perm.mode < 2 ^ 16

-- The numbers of the attributes are in the ranges of their types.
pub record FitsStat (stat : Attributes) : Type 0 where
  pub key : FitsSigned w32 stat.key
  pub perm : FitsPerm stat.perm
  pub cbytes : stat.cbytes < 2 ^ 32
  pub qnum : stat.qnum < 2 ^ 32
  pub qbytes : stat.qbytes < 2 ^ 32
  pub lspid : stat.lspid < 2 ^ 32
  pub lrpid : stat.lrpid < 2 ^ 32
  pub stime : stat.stime < 2 ^ 64
  pub rtime : stat.rtime < 2 ^ 64
  pub ctime : stat.ctime < 2 ^ 64

-- The numbers of the row are in the ranges of their types.
pub record FitsRow (row : Line) : Type 0 where
  pub id : FitsSigned w32 row.id
  pub key : FitsSigned w32 row.key
  pub uid : row.uid < 2 ^ 32
  pub mode : row.mode < 2 ^ 16
  pub cbytes : row.cbytes < 2 ^ 32
  pub qnum : row.qnum < 2 ^ 32

-- The number of the error, 0 if there is none.
abbrev pub error_number : ReplyContent → ℕ
error_number (Refused error) = number_of error
error_number Hello = 0
error_number (HelloSlots slots) = 0
error_number (Get id) = 0
error_number Snd = 0
error_number (Rcv mtype) = 0
error_number (Stat stat) = 0
error_number Set = 0
error_number Rm = 0
error_number (Row row) = 0
error_number (Hold mtype) = 0
error_number Done = 0
error_number Back = 0

-- The fields of the owner, creator and mode.
unfoldable pub perm_fields : Perm → List ℕ
perm_fields perm =
    u32_bytes perm.uid ++ (u32_bytes perm.gid ++ (u32_bytes perm.cuid ++ (u32_bytes perm.cgid ++ u16_bytes perm.mode)))

-- The fields of the counts: queued bytes and messages, the maximum number of bytes, and the
-- processes that sent and received last.
unfoldable pub count_fields : Attributes → List ℕ
count_fields stat = u32_bytes stat.cbytes
    ++ (u32_bytes stat.qnum ++ (u32_bytes stat.qbytes ++ (u32_bytes stat.lspid ++ u32_bytes stat.lrpid)))

-- The fields of the timestamps.
unfoldable pub time_fields : Attributes → List ℕ
time_fields stat = u64_bytes stat.stime ++ (u64_bytes stat.rtime ++ u64_bytes stat.ctime)

-- The fields of a queue's attributes.
unfoldable pub stat_fields : Attributes → List ℕ
stat_fields stat = i32_bytes stat.key ++ (perm_fields stat.perm ++ (count_fields stat ++ time_fields stat))

-- The fields of a row with a queue.
unfoldable pub row_fields : Line → List ℕ
row_fields row = i32_bytes row.id
    ++ (i32_bytes row.key
    ++ (u32_bytes row.uid ++ (u16_bytes row.mode ++ (u32_bytes row.cbytes ++ u32_bytes row.qnum))))

-- The fields of a result without its body. A row with a queue is marked by 1, and a row without one
-- by 0.
abbrev pub content_fields : ReplyContent → List ℕ
content_fields (Refused error) = []
content_fields Hello = []
content_fields (HelloSlots slots) = u32_bytes slots
content_fields (Get id) = i32_bytes id
content_fields Snd = []
content_fields (Rcv mtype) = i64_bytes mtype
content_fields (Stat stat) = stat_fields stat
content_fields Set = []
content_fields Rm = []
content_fields (Row None) = 0 ∷ []
content_fields (Row (Some row)) = 1 ∷ row_fields row
content_fields (Hold mtype) = i64_bytes mtype
content_fields Done = []
content_fields Back = []

-- The reply has a body after its fields: only that of a receive and of a hold.
abbrev pub gives_text : ReplyContent → Bool
gives_text (Rcv mtype) = true
gives_text (Hold mtype) = true
gives_text (Refused error) = false
gives_text Hello = false
gives_text (HelloSlots slots) = false
gives_text (Get id) = false
gives_text Snd = false
gives_text (Stat stat) = false
gives_text Set = false
gives_text Rm = false
gives_text (Row row) = false
gives_text Done = false
gives_text Back = false

-- The body, if there is one.
abbrev pub content_text : ReplyContent → List ℕ → List ℕ
content_text content text = if gives_text content then text else []

-- The one encoding of a reply.
abbrev pub reply_encoding : Reply → List ℕ → List ℕ
reply_encoding reply text =
    frame (version_number reply.version ∷ reply.op ∷ error_number reply.result
    ∷ (content_fields reply.result ++ content_text reply.result text))

-- The operation with this number may have this result in this version, if the version has it. Any
-- operation may fail with an error, the reply to a hello has the number of slots from version 2 on,
-- and modes have nine bits.
abbrev pub IsAnswer : Version → ℕ → ReplyContent → Type 0
IsAnswer version number (Refused error) = number ≤ op_number op.Back
IsAnswer version number Hello = (version ≡ One) × (number ≡ op_number op.Hello)
IsAnswer version number (HelloSlots slots) = (version ≢ One) × (number ≡ op_number op.Hello)
IsAnswer version number (Get id) = number ≡ op_number op.Get
IsAnswer version number Snd = number ≡ op_number op.Snd
IsAnswer version number (Rcv mtype) = number ≡ op_number op.Rcv
IsAnswer version number (Stat stat) = (number ≡ op_number op.Stat) × (stat.perm.mode ≤ MAX_MODE)
IsAnswer version number Set = number ≡ op_number op.Set
IsAnswer version number Rm = number ≡ op_number op.Rm
IsAnswer version number (Row None) = number ≡ op_number op.Row
IsAnswer version number (Row (Some row)) = (number ≡ op_number op.Row) × (row.mode ≤ MAX_MODE)
IsAnswer version number (Hold mtype) = number ≡ op_number op.Hold
IsAnswer version number Done = number ≡ op_number op.Done
IsAnswer version number Back = number ≡ op_number op.Back

-- The number of bytes after the error of a reply to a hello. From version 2 on it is that of the
-- number of slots.
abbrev pub hello_len : Version → ℕ
hello_len One = 0
hello_len Two = 4
hello_len Three = 4

-- The result of an operation may have this number of bytes after the error. The reply to a receive or
-- a hold has a body after its fields, and a row may have a queue or none.
abbrev pub IsAnswerLength : Version → Op → ℕ → Type 0
IsAnswerLength version op.Hello n = n ≡ hello_len version
IsAnswerLength version op.Get n = n ≡ 4
IsAnswerLength version op.Snd n = n ≡ 0
IsAnswerLength version op.Rcv n = 8 ≤ n
IsAnswerLength version op.Stat n = n ≡ 66
IsAnswerLength version op.Set n = n ≡ 0
IsAnswerLength version op.Rm n = n ≡ 0
IsAnswerLength version op.Row n = (n ≡ 1) ⊎ (n ≡ 23)
IsAnswerLength version op.Hold n = 8 ≤ n
IsAnswerLength version op.Done n = n ≡ 0
IsAnswerLength version op.Back n = n ≡ 0

-- A reply of the operation with this error may have this number of bytes after the error.
abbrev pub IsRestLength : Version → Op → ℕ → ℕ → Type 0
IsRestLength version o error n = MatchBool (error == 0) (IsAnswerLength version o n) (n ≡ 0)

-- The numbers are in the ranges of their types.
abbrev pub FitsContent : ReplyContent → Type 0
FitsContent (Refused error) = ⊤
FitsContent Hello = ⊤
FitsContent (HelloSlots slots) = slots < 2 ^ 32
FitsContent (Get id) = FitsSigned w32 id
FitsContent Snd = ⊤
FitsContent (Rcv mtype) = FitsSigned w64 mtype
FitsContent (Stat stat) = FitsStat stat
FitsContent Set = ⊤
FitsContent Rm = ⊤
FitsContent (Row None) = ⊤
FitsContent (Row (Some row)) = FitsRow row
FitsContent (Hold mtype) = FitsSigned w64 mtype
FitsContent Done = ⊤
FitsContent Back = ⊤

-- The reply is one that its operation may have, its version has the operation, and the reply and its
-- body can be sent.
abbrev pub FitsReply : Reply → List ℕ → Type 0
FitsReply reply text =
    IsAnswer reply.version reply.op reply.result × FitsContent reply.result × (length text ≤ MESSAGE_BYTES)
    × (reply.op ≤ last_op reply.version)
