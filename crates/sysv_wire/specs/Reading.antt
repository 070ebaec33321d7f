-- What a reader of frames returns, and what it has taken of the input (this project's profile).
use Rattle.std.specs.Prelude.{◌≡◌, ℕ, List, [], Option, None, Some, Result, Ok, Err}
use Rattle.std.specs.Io.KnownBytes.{Consumes, IsAtEnd}
use Rattle.sysv_wire.specs.declared.fault.Fault.{Fault}
use Rattle.sysv_wire.specs.declared.frame.Version.{Version}
use Rattle.sysv_wire.specs.declared.reply.Reply.{Reply}
use Rattle.sysv_wire.specs.declared.request.Request.{Request}
use Rattle.sysv_wire.specs.Faults.{Faults, RequestFault}
use Rattle.sysv_wire.specs.Frames.{IsUpTo}
use Rattle.sysv_wire.specs.Replies.{FitsReply, content_text, reply_encoding}
use Rattle.sysv_wire.specs.ReplyFaults.{ReplyFault}
use Rattle.sysv_wire.specs.Requests.{FitsRequest, op_of, ask_text, request_encoding}

-- What a reader with this newest version returns.
module _ (newest : Version) where
  -- A request and its body, whose encoding was taken; or none, and the input is at its end; or a
  -- fault.
  abbrev pub ReadsRequest : Option (List ℕ) → Option (List ℕ) → Result (Option Request) Fault → List ℕ → Type 0
  ReadsRequest old new (Ok (Some request)) text =
      Consumes old new (request_encoding request text) × FitsRequest request text
      × (text ≡ ask_text (op_of request.ask) text) × IsUpTo newest request.version
  ReadsRequest old new (Ok None) text = Consumes old new [] × IsAtEnd new × (text ≡ [])
  ReadsRequest old new (Err fault) text = Faults (RequestFault newest) fault old new

  -- A reply and its body, whose encoding was taken, and the reply is one that its operation may have;
  -- or none, and the input is at its end; or a fault.
  abbrev pub ReadsReply : Option (List ℕ) → Option (List ℕ) → Result (Option Reply) Fault → List ℕ → Type 0
  ReadsReply old new (Ok (Some reply)) text =
      Consumes old new (reply_encoding reply text) × FitsReply reply text × (text ≡ content_text reply.result text)
      × IsUpTo newest reply.version
  ReadsReply old new (Ok None) text = Consumes old new [] × IsAtEnd new × (text ≡ [])
  ReadsReply old new (Err fault) text = Faults (ReplyFault newest) fault old new
