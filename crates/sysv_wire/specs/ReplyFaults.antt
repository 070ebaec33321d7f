-- What a reader of replies has taken of the input when it returns a fault (the order is this
-- project's profile). The length is checked first, then the version, the operation and the length
-- that the operation has with this error. Then the rest of the frame is read, and after that the
-- error, the mark of a row and the mode are checked.
use Rattle.std.specs.Prelude.{◌≡◌, ◌≢◌, ◌<◌, ◌≤◌, ◌-◌, ◌^◌, ◌⊎◌, ⊤, ℕ, List, [], ◌∷◌, ◌++◌, length}
use Rattle.sysv_model.specs.Errors.{number_of}
use Rattle.sysv_model.specs.declared.errno.Errno.{Errno}
use Rattle.sysv_wire.specs.declared.fault.Fault.{Fault}
use Rattle.sysv_wire.specs.declared.fault.Fault.TheVariants.{Truncated, TooLong, BadOp, BadField, Read}
use Rattle.sysv_wire.specs.declared.frame.Op.{Op}
use Rattle.sysv_wire.specs.declared.frame.Op.TheVariants as op
use Rattle.sysv_wire.specs.declared.frame.TheConstants.{MIN_REPLY, MAX_REPLY, MAX_MODE}
use Rattle.sysv_wire.specs.declared.frame.Version.{Version}
use Rattle.sysv_wire.specs.Faults.{HeadFault}
use Rattle.sysv_wire.specs.Frames.{IsNoVersion, IsUpTo, Knows, last_op, op_number, version_number}
use Rattle.sysv_wire.specs.Numbers.{u16_bytes, u32_bytes}
use Rattle.sysv_wire.specs.Replies.{IsRestLength}

-- The number is not 0, and no error has it.
abbrev pub IsNoError : ℕ → Type 0
IsNoError number = (number ≢ 0) × ((error : Errno) → number_of error ≢ number)

-- After this number of bytes there is a mode of more than nine bits.
abbrev pub IsWideAt : ℕ → List ℕ → Type 0
IsWideAt place fields = (before : List ℕ) × (mode : ℕ) × (after : List ℕ)
    × (fields ≡ before ++ (u16_bytes mode ++ after)) × (length before ≡ place) × (MAX_MODE < mode) × (mode < 2 ^ 16)

-- The mark of a row is not 0 although nothing follows it, or not 1 although something does.
abbrev pub IsBadMark : List ℕ → Type 0
IsBadMark [] = ⊥
IsBadMark (mark ∷ []) = mark ≢ 0
IsBadMark (mark ∷ byte ∷ bytes) = mark ≢ 1

-- The fields of the operation's result have no meaning. The mode is after 20 bytes of attributes,
-- and after the mark and 12 more bytes of a row.
abbrev pub IsBadAnswer : Op → List ℕ → Type 0
IsBadAnswer op.Stat fields = IsWideAt 20 fields
IsBadAnswer op.Row fields = IsBadMark fields ⊎ IsWideAt 13 fields
IsBadAnswer op.Hello fields = ⊥
IsBadAnswer op.Get fields = ⊥
IsBadAnswer op.Snd fields = ⊥
IsBadAnswer op.Rcv fields = ⊥
IsBadAnswer op.Set fields = ⊥
IsBadAnswer op.Rm fields = ⊥
IsBadAnswer op.Hold fields = ⊥
IsBadAnswer op.Done fields = ⊥
IsBadAnswer op.Back fields = ⊥

-- Why the rest of a reply of the operation with this error is refused, if the rest has this number
-- of bytes.
abbrev pub RestFault : Op → ℕ → ℕ → Fault → List ℕ → Type 0
RestFault op error n Truncated taken = length taken < n
RestFault op error n BadField taken = (length taken ≡ n) × (IsNoError error ⊎ ((error ≡ 0) × IsBadAnswer op taken))
RestFault op error n Read taken = ⊤
RestFault op error n TooLong taken = ⊥
RestFault op error n BadOp taken = ⊥

-- The length of a reply within the limits, its version, its operation and its error.
abbrev pub IsReplyHead : ℕ → ℕ → ℕ → ℕ → List ℕ → Type 0
IsReplyHead n version number error taken =
    (MIN_REPLY ≤ n) × (n ≤ MAX_REPLY) × (taken ≡ u32_bytes n ++ version ∷ number ∷ error ∷ [])

-- What a reader with this newest version refuses.
module _ (newest : Version) where
  -- The number is no version's, or the length is not one that the operation has in that version with
  -- this error.
  abbrev pub IsBadReply : ℕ → ℕ → ℕ → ℕ → Type 0
  IsBadReply n byte number error = IsNoVersion newest byte
      ⊎ ((version : Version) × (version_number version ≡ byte)
      × ((op : Op) × (op_number op ≡ number) × (¬ IsRestLength version op error (n - MIN_REPLY))
      × Knows newest version op))

  -- Why a reply with this length, version, operation and error is refused before the rest is read.
  abbrev pub AnswerFault : ℕ → ℕ → ℕ → ℕ → Fault → Type 0
  AnswerFault n byte number error BadField = IsBadReply n byte number error
  AnswerFault n byte number error BadOp =
      (version : Version) × (version_number version ≡ byte) × IsUpTo newest version × (last_op version < number)
  AnswerFault n byte number error Truncated = ⊥
  AnswerFault n byte number error TooLong = ⊥
  AnswerFault n byte number error Read = ⊥

  -- The head of a reply, and what was taken of the rest.
  abbrev pub IsReplyRest : Fault → List ℕ → Type 0
  IsReplyRest fault taken =
      (n : ℕ) × (version : Version) × (op : Op) × (error : ℕ) × (rest : List ℕ) × (MIN_REPLY ≤ n) × (n ≤ MAX_REPLY)
      × IsRestLength version op error (n - MIN_REPLY) × RestFault op error (n - MIN_REPLY) fault rest
      × (taken ≡ u32_bytes n ++ (version_number version ∷ op_number op ∷ error ∷ rest)) × Knows newest version op

  -- Why a reply is refused: because of its length, because of what is checked with the length, or
  -- because of the rest.
  abbrev pub ReplyFault : Fault → List ℕ → Type 0
  ReplyFault Truncated taken = HeadFault MIN_REPLY MAX_REPLY Truncated taken ⊎ IsReplyRest Truncated taken
  ReplyFault TooLong taken = HeadFault MIN_REPLY MAX_REPLY TooLong taken
  ReplyFault BadOp taken =
      (n : ℕ) × (version : ℕ) × (number : ℕ) × (error : ℕ) × IsReplyHead n version number error taken
      × AnswerFault n version number error BadOp
  ReplyFault BadField taken = (HeadFault MIN_REPLY MAX_REPLY BadField taken
      ⊎ ((n : ℕ) × (version : ℕ) × (number : ℕ) × (error : ℕ) × IsReplyHead n version number error taken
      × AnswerFault n version number error BadField))
      ⊎ IsReplyRest BadField taken
  ReplyFault Read taken = ⊤
