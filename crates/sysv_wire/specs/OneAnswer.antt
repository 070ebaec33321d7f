-- The results of reading a request, or a reply, that fit an input considered alone (this project's
-- profile). At most one fits. A reader may fail with any input; that is no result here.
use Rattle.std.specs.Prelude.{◌≡◌, ℕ, List, [], ◌++◌, Option, None, Some, Result, Ok, Err}
use Rattle.sysv_wire.specs.declared.fault.Fault.{Fault}
use Rattle.sysv_wire.specs.declared.fault.Fault.TheVariants.{Truncated, TooLong, BadOp, BadField, Read}
use Rattle.sysv_wire.specs.declared.frame.Version.{Version}
use Rattle.sysv_wire.specs.declared.reply.Reply.{Reply}
use Rattle.sysv_wire.specs.declared.request.Request.{Request}
use Rattle.sysv_wire.specs.Faults.{RequestFault}
use Rattle.sysv_wire.specs.Frames.{IsUpTo}
use Rattle.sysv_wire.specs.Replies.{FitsReply, reply_encoding}
use Rattle.sysv_wire.specs.ReplyFaults.{ReplyFault}
use Rattle.sysv_wire.specs.Requests.{FitsRequest, request_encoding}

-- The fault is caused by the first bytes of the input.
abbrev pub FaultAt : (Fault → List ℕ → Type 0) → Fault → List ℕ → Type 0
FaultAt IsWhy fault input = (taken : List ℕ) × (rest : List ℕ) × IsWhy fault taken × (input ≡ taken ++ rest)

-- The results of a reader with this newest version.
module _ (newest : Version) where
  -- The result fits the input: a request whose encoding begins the input, none if the input is empty,
  -- or a fault that the first bytes of the input cause. An input that ends within a frame is the
  -- cause as a whole.
  abbrev pub RequestAt : List ℕ → Result (Option Request) Fault → Type 0
  RequestAt input (Ok (Some request)) =
      (text : List ℕ) × (rest : List ℕ) × FitsRequest request text × (input ≡ request_encoding request text ++ rest)
      × IsUpTo newest request.version
  RequestAt input (Ok None) = input ≡ []
  RequestAt input (Err Truncated) = RequestFault newest Truncated input
  RequestAt input (Err TooLong) = FaultAt (RequestFault newest) TooLong input
  RequestAt input (Err BadOp) = FaultAt (RequestFault newest) BadOp input
  RequestAt input (Err BadField) = FaultAt (RequestFault newest) BadField input
  RequestAt input (Err Read) = ⊥

  -- The result of reading a reply fits the input, in the same way.
  abbrev pub ReplyAt : List ℕ → Result (Option Reply) Fault → Type 0
  ReplyAt input (Ok (Some reply)) =
      (text : List ℕ) × (rest : List ℕ) × FitsReply reply text × (input ≡ reply_encoding reply text ++ rest)
      × IsUpTo newest reply.version
  ReplyAt input (Ok None) = input ≡ []
  ReplyAt input (Err Truncated) = ReplyFault newest Truncated input
  ReplyAt input (Err TooLong) = FaultAt (ReplyFault newest) TooLong input
  ReplyAt input (Err BadOp) = FaultAt (ReplyFault newest) BadOp input
  ReplyAt input (Err BadField) = FaultAt (ReplyFault newest) BadField input
  ReplyAt input (Err Read) = ⊥

  -- At most one result of reading a request fits an input.
  abbrev pub OneAnswerToRequests : Type 0
  OneAnswerToRequests =
      (input : List ℕ) (a b : Result (Option Request) Fault) → RequestAt input a → RequestAt input b → a ≡ b

  -- At most one result of reading a reply fits an input.
  abbrev pub OneAnswerToReplies : Type 0
  OneAnswerToReplies = (input : List ℕ) (a b : Result (Option Reply) Fault) → ReplyAt input a → ReplyAt input b → a ≡ b
