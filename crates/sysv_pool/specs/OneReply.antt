-- Each call has exactly one legal reply after each history, at a pool of any size (this profile's).
use Rattle.std.specs.Prelude.{◌≡◌, ℕ}
use Rattle.sysv_model.specs.Pool.{PoolCall, PoolReply, PoolHistory}
use Rattle.sysv_pool.specs.LegalReply.{IsLegalReply}

-- Each call has a legal reply after each history.
abbrev pub SomeReplyIsLegal : Type 0
SomeReplyIsLegal = (size : ℕ) (h : PoolHistory) (call : PoolCall) → (reply : PoolReply) × IsLegalReply size h call reply

-- Two legal replies to the same call after the same history are equal.
abbrev pub NoTwoRepliesAreLegal : Type 0
NoTwoRepliesAreLegal = (size : ℕ) (h : PoolHistory) (call : PoolCall) (a b : PoolReply) → IsLegalReply size h call a →
    IsLegalReply size h call b → a ≡ b
