-- Each call has exactly one legal reply after each legal history (this profile's).
use Rattle.std.specs.Prelude.{◌≡◌, ℕ}
use Rattle.sysv_model.specs.Registry.{RegistryCall, RegistryReply, RegistryHistory}
use Rattle.sysv_keys.specs.LegalReply.{IsLegalReply, IsLegalHistory}

-- Each call has a legal reply after each legal history.
abbrev pub SomeReplyIsLegal : Type 0
SomeReplyIsLegal = (opening : ℕ) (h : RegistryHistory) (call : RegistryCall) → IsLegalHistory opening h →
    (reply : RegistryReply) × IsLegalReply opening h call reply

-- Two legal replies to the same call after the same legal history are equal.
abbrev pub NoTwoRepliesAreLegal : Type 0
NoTwoRepliesAreLegal = (opening : ℕ) (h : RegistryHistory) (call : RegistryCall) (a b : RegistryReply) →
    IsLegalHistory opening h → IsLegalReply opening h call a → IsLegalReply opening h call b → a ≡ b
