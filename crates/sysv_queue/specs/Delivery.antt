-- What a receive delivers (POSIX.1-2017, msgrcv): a message's type and the first bytes of its body.
-- The sender and the acceptance number are delivered too (this profile's).
use Rattle.std.specs.Prelude.{◌≡◌, ℕ, ℤ, List, length, take}
use Rattle.sysv_model.specs.Message.{Message}

-- What the contracts see of a delivery.
pub record Given : Type 0 where
  pub mtype : ℤ
  pub len : ℕ  -- the bytes that were given
  pub sender : ℕ
  pub number : ℕ

-- The delivery is that of message m, and out has the first `size` bytes of its body.
pub record Gives (given : Given) (m : Message) (size : ℕ) (out : List ℕ) : Type 0 where
  pub mtype : given.mtype ≡ m.mtype
  pub sender : given.sender ≡ m.sender
  pub number : given.number ≡ m.number
  pub text : out ≡ take size m.bytes
  pub len : given.len ≡ length out
