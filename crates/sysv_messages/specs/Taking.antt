-- What a receive takes from the queued messages (POSIX.1-2017, msgrcv, DESCRIPTION): the message
-- that its selector names, unless its body is longer than requested.
use Rattle.std.specs.Prelude.{◌≡◌, ℕ, ◌<◌, ◌≤◌, List, Some, length, slice_get, remove}
use Rattle.sysv_model.specs.Message.{Message}
use Rattle.sysv_model.specs.declared.limits.TheConstants.{MESSAGE_BYTES as most_bytes}
use Rattle.sysv_model.specs.declared.selector.Selector.{Selector}
use Rattle.sysv_rules.specs.Named.{IsNamed}
use Rattle.sysv_rules.specs.Qualifies.{NoneQualifies}
use Rattle.sysv_messages.specs.Texts.{types_of}
use Rattle.sysv_messages.specs.declared.messages.NotTaken.{NotTaken}
use Rattle.sysv_messages.specs.declared.messages.NotTaken.TheVariants.{NoneQualifies as NoMessage, TooLong}

-- The message that the selector names is taken from its position, and the others stay.
pub record IsTaken (sel : Selector) (most : ℕ) (old : List Message) (m : Message) (new : List Message) : Type 0 where
  pub position : ℕ
  pub named : IsNamed sel (types_of old) position
  pub there : slice_get old position ≡ Some m
  pub fits : length m.bytes ≤ most
  pub left : new ≡ remove old position

-- The message that the selector names has a longer body, though not longer than a message may have.
pub record IsTooLong (sel : Selector) (most : ℕ) (messages : List Message) : Type 0 where
  pub position : ℕ
  pub message : Message
  pub named : IsNamed sel (types_of messages) position
  pub there : slice_get messages position ≡ Some message
  pub longer : most < length message.bytes
  pub short : length message.bytes ≤ most_bytes

-- The cause for which no message is taken.
abbrev pub IsRefused : Selector → ℕ → List Message → NotTaken → Type 0
IsRefused sel most messages NoMessage = NoneQualifies sel (types_of messages)
IsRefused sel most messages TooLong = IsTooLong sel most messages
