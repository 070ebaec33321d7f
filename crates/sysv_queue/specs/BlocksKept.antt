-- No turn makes or loses blocks (this profile's). The blocks of the messages queued before a turn
-- and of the message put on the queue are those of the messages taken off the queue and of the
-- messages queued after the turn.
use Rattle.std.specs.Prelude.{◌≡◌, ℕ, ◌+◌, length}
use Rattle.sysv_model.specs.Pool.{blocks_for}
use Rattle.sysv_model.specs.History.{Who, Call, Place, Take, Remove, Reply, Accepted, Taken, Discarded, History}
use Rattle.sysv_model.specs.History.{then_turn}
use Rattle.sysv_model.specs.Waiting.{held}
use Rattle.sysv_queue.specs.Slot.{Slot}
use Rattle.sysv_queue.specs.LegalReply.{IsLegalReply, IsLegalHistory}
use Rattle.sysv_queue.specs.Represents.{Represents, MakesTurn}
use Rattle.sysv_queue.specs.Blocks.{blocks_of}

-- The number of blocks of the message that a turn put on the queue.
abbrev pub blocks_put : Call → Reply → ℕ
blocks_put (Place id cred mtype bytes now) (Accepted number) = blocks_for (length bytes)
blocks_put call reply = 0

-- The number of blocks of the messages that a turn took off the queue.
abbrev pub blocks_off : Call → Reply → ℕ
blocks_off (Take id cred selector size noerror now) (Taken m) = blocks_for (length m.bytes)
blocks_off (Remove id cred) (Discarded messages) = blocks_of messages
blocks_off call reply = 0

-- Blocks are kept at each legal turn after a legal history.
abbrev pub TurnKeepsBlocks : Type 0
TurnKeepsBlocks =
    (h : History) (who : Who) (call : Call) (reply : Reply) → IsLegalHistory h → IsLegalReply h call reply →
    blocks_of (held (then_turn h who call reply)) + blocks_off call reply ≡ blocks_of (held h) + blocks_put call reply

-- Blocks are kept at each turn of a slot that represents a history.
abbrev pub SlotKeepsBlocks : Type 0
SlotKeepsBlocks = (h : History) (who : Who) (old new : Slot) (call : Call) (reply : Reply) → Represents h old →
    MakesTurn old call reply new →
    blocks_of new.messages + blocks_off call reply ≡ blocks_of old.messages + blocks_put call reply
