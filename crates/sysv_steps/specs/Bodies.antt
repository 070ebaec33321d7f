-- The body of a send or a pending receive, which its driver keeps beside the state of the call
-- (this project's profile).
use Rattle.std.specs.Prelude.{◌≡◌, ◌≤◌, ℕ, List, length, Ok, ⊤}
use Rattle.sysv_model.specs.declared.limits.TheConstants.{MESSAGE_BYTES}
use Rattle.sysv_model.specs.Pool.{blocks_for}
use Rattle.sysv_queue.specs.Delivery.{Given}
use Rattle.sysv_steps.specs.declared.send.SendStep.{SendStep}
use Rattle.sysv_steps.specs.declared.send.SendStep.TheVariants.{Place}
use Rattle.sysv_steps.specs.declared.send.SendWait.{SendWait}
use Rattle.sysv_steps.specs.declared.receive.ReceiveStep.{ReceiveStep}
use Rattle.sysv_steps.specs.declared.receive.ReceiveStep.TheVariants.{Giveback}
use Rattle.sysv_steps.specs.declared.receive.ReceiveWait.{ReceiveWait}
use Rattle.sysv_steps.specs.declared.state.State.{State}
use Rattle.sysv_steps.specs.declared.state.State.TheVariants.{Goes, Waits, Over}

-- A send before this step can send `text`: it is not too long, and before the place the chain has
-- the number of blocks that it needs.
abbrev pub CanSend : SendStep → List ℕ → Type 0
CanSend (Place send chain) text = (length text ≤ MESSAGE_BYTES) × (chain.blocks ≡ blocks_for (length text))
CanSend step text = length text ≤ MESSAGE_BYTES

-- A send in this state is over, or can still send `text`.
abbrev pub StillCanSend : State SendStep SendWait ⊤ → List ℕ → Type 0
StillCanSend (Goes step) text = CanSend step text
StillCanSend (Waits wait) text = length text ≤ MESSAGE_BYTES
StillCanSend (Over result) text = ⊤

-- The bytes that a receive returns have the length that its delivery states, and are not longer
-- than a message can be.
abbrev pub IsSized : State ReceiveStep ReceiveWait Given → List ℕ → Type 0
IsSized (Goes (Giveback chain delivery)) out = (delivery.len ≡ length out) × (length out ≤ MESSAGE_BYTES)
IsSized (Over (Ok delivery)) out = (delivery.len ≡ length out) × (length out ≤ MESSAGE_BYTES)
IsSized state out = ⊤
