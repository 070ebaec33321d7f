-- The turns at the registry, which keeps the keys and the identifiers of the queues: the calls that
-- msgget and the removal of a queue make there, and the replies (POSIX.1-2017, msgget and msgctl;
-- the calls are this profile's).
use Rattle.std.specs.Prelude.{ℕ, ℤ, Bool, false, List, count_by}
use Rattle.sysv_model.specs.declared.errno.Errno.{Errno}
use Rattle.sysv_model.specs.declared.flags.Flags.{Flags}
use Rattle.sysv_model.specs.History.{Who}

-- The calls at the registry.
pub data RegistryCall : Type 0 where
  -- looks up the identifier of the key, or assigns a new one
  Begin : (key : ℤ) (flags : Flags) → RegistryCall
  -- the queue of a new identifier was installed
  Settle : (id : ℤ) → RegistryCall
  -- forgets the identifier for good
  Forget : (id : ℤ) → RegistryCall

-- The replies of the registry. Found and Busy have the settled count.
pub data RegistryReply : Type 0 where
  -- the identifier to which the key is bound
  Found : (id : ℤ) (settled : ℕ) → RegistryReply
  -- a new identifier, whose queue is not installed yet
  Made : (id : ℤ) → RegistryReply
  -- another call is creating the queue of the key
  Busy : (settled : ℕ) → RegistryReply
  -- no identifier: the key has none and none is to be assigned, or none can be assigned
  Unbound : (why : Errno) → RegistryReply
  -- the result of a settle or a forget: whether it changed a row
  Changed : (done : Bool) → RegistryReply

-- One turn at the registry.
pub record RegistryEntry : Type 0 where
  pub who : Who
  pub call : RegistryCall
  pub reply : RegistryReply

-- The turns at the registry, in order.
abbrev pub RegistryHistory : Type 0
RegistryHistory = List RegistryEntry

-- The turns that the settled count counts: the settles and forgets that changed a row.
abbrev pub changes_row : RegistryReply → Bool
changes_row (Changed done) = done
changes_row reply = false

-- The settled count: the number of settles and forgets that changed a row.
abbrev pub settled : RegistryHistory → ℕ
settled h = count_by (λ (e : RegistryEntry). changes_row e.reply) h
