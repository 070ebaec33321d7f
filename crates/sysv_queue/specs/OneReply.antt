-- Each call has exactly one legal reply after each history (this profile's).
use Rattle.std.specs.Prelude.{◌≡◌}
use Rattle.sysv_model.specs.History.{Call, Reply, History}
use Rattle.sysv_queue.specs.LegalReply.{IsLegalReply}

-- Each call has a legal reply after each history.
abbrev pub SomeReplyIsLegal : Type 0
SomeReplyIsLegal = (h : History) (call : Call) → (reply : Reply) × IsLegalReply h call reply

-- Two legal replies to the same call after the same history are equal.
abbrev pub NoTwoRepliesAreLegal : Type 0
NoTwoRepliesAreLegal = (h : History) (call : Call) (a b : Reply) → IsLegalReply h call a → IsLegalReply h call b → a ≡ b
