-- What the sessions of a place hold, one after another (this project's profile): a message, the wait of the send that
-- gives it back, if that waits, and what became of the messages before it.
use Rattle.std.specs.Prelude.{◌≡◌, ◌≤◌, Bool, true, false, is_some, not, [], Option, None, Some}
use Rattle.std.specs.Prelude.{vec_capacity}
use Rattle.sysv_model.specs.declared.limits.TheConstants.{MESSAGE_BYTES}
use Rattle.std.specs.declared.alloc.Global.{Global}
use Rattle.std.specs.declared.boxed.Box.{Box}
use Rattle.sysv_steps.specs.declared.send.SendWait.{SendWait}
use Rattle.sysv_seats.specs.declared.hand.Kept.{Kept}
use Rattle.sysv_seats.specs.declared.hand.Room.{Room}
use Rattle.sysv_seats.specs.declared.returning.Fated.{Fated}
use Rattle.sysv_seats.specs.declared.returning.Returned.{Returned}
use Rattle.sysv_seats.specs.Holding.{Message}

-- `returns` is what was given back since it was last asked, and `fated` is what became of all that was given back other
-- than by a request. `is_open` is whether there is memory for all that, which was allocated with the first message.
pub record InHand : Type 0 where
  pub message : Option Message
  pub returning : Option SendWait
  pub returns : Returned
  pub fated : Fated
  pub is_open : Bool

-- The memory has room for a message of any size, and for the rest of what a hand holds that has no memory yet.
abbrev pub HasRoom : InHand → Room → Type 0
HasRoom hand room = (room.body.items ≡ []) × (MESSAGE_BYTES ≤ vec_capacity room.body)
    × (is_some room.kept ≡ not hand.is_open)

-- What was given back other than by a request stays, and so does the wait of the send that gives back the message.
abbrev pub KeepsReturns : InHand → InHand → Type 0
KeepsReturns old new = (new.returning ≡ old.returning) × (new.fated ≡ old.fated)

-- No message was given back.
abbrev pub none_returned : Returned
none_returned = record { sent = 0; gone = 0 }

abbrev pub nothing_fated : Fated
nothing_fated = record { sent = 0; discarded = 0; refused = 0 }

-- What is kept once the first message is held.
abbrev pub one_kept : Message → Kept
one_kept message = record {
  message = Some message;
  returning = None;
  due = None;
  is_untimed = true;
  returns = none_returned;
  fated = nothing_fated;
}

-- What is in the memory of a hand. Without memory nothing is held, and nothing was given back.
abbrev pub message_in : Option (Box Kept Global) → Option Message
message_in None = None
message_in (Some kept) = kept.value.message

abbrev pub wait_of : Option (Box Kept Global) → Option SendWait
wait_of None = None
wait_of (Some kept) = kept.value.returning

abbrev pub returns_in : Option (Box Kept Global) → Returned
returns_in None = none_returned
returns_in (Some kept) = kept.value.returns

abbrev pub fated_in : Option (Box Kept Global) → Fated
fated_in None = nothing_fated
fated_in (Some kept) = kept.value.fated

-- A hand by its memory.
abbrev pub seen : Option (Box Kept Global) → InHand
seen kept = record {
  message = message_in kept;
  returning = wait_of kept;
  returns = returns_in kept;
  fated = fated_in kept;
  is_open = is_some kept;
}

-- It holds nothing.
abbrev pub empty_hand : InHand
empty_hand = record {
  message = None;
  returning = None;
  returns = none_returned;
  fated = nothing_fated;
  is_open = false;
}
