use Rattle.std.proofs.Common.{◌≡◌, ℕ, List, refl, sym, subst, rules, w32, FitsSigned}
use Rattle.std.proofs.lemmas.Int.{to_z-of_z}
use Rattle.sysv_steps.specs.declared.send.Sending.{Sending}
use Rattle.sysv_steps.specs.Seen.{sending, send_wait}
use Rattle.sysv_steps.specs.State.{AtLook}
use Rattle.sysv_steps.specs.declared.send.SendWait.{SendWait}
use Rattle.sysv_service.specs.Ran.{Pass}
use Rattle.sysv_service.specs.Pending.{IsReached, StillWaits}
use Rattle.sysv_service.proofs.ProceedsByStep.{if_none}
use Rattle.sysv_service.proofs.service.Service.msgsnd_look.Goals as goal

module _ (w x : SendWait) (before after : Pass) (is : w ≡ x) where
  still : ((text : List ℕ) → StillWaits (send_wait x text) before after) → (text : List ℕ) →
      StillWaits (send_wait w text) before after
  still = subst (λ y. (text : List ℕ) → StillWaits (send_wait y text) before after) (sym is)

  reached : (s : Sending) → ((text : List ℕ) → IsReached (send_wait x text) before (AtLook (sending s text)) after) →
      (text : List ℕ) → IsReached (send_wait w text) before (AtLook (sending s text)) after
  reached s =
      subst (λ y. (text : List ℕ) → IsReached (send_wait y text) before (AtLook (sending s text)) after) (sym is)

pub returns-in_err-look-in-Room-clause-below : goal.returns-in_err-look-in-Room-clause-below
returns-in_err-look-in-Room-clause-below c =
    let id : FitsSigned w32 c.in-Room.send.id = search rules in
    let below = simp to_z-of_z at c.in_err-look-in-Room.ensures.below in
    if_none c.from_residual.result
    (still _ _ c.args.pass.now c.look.new.pass c.in-Room.is (λ text. (below, c.look.ensures.held)))

pub returns-in_err-send-in-Blocks-clause-below : goal.returns-in_err-send-in-Blocks-clause-below
returns-in_err-send-in-Blocks-clause-below c =
    if_none c.from_residual-in_err-send-in-Blocks.result
    (still _ _ c.args.pass.now c.look-in-Blocks.new.pass c.in-Blocks.is
    (λ text. (c.in_err-send-in-Blocks.ensures.below, c.look-in-Blocks.ensures.held)))

pub returns-in_ok-look-in-Room-clause-reached : goal.returns-in_ok-look-in-Room-clause-reached
returns-in_ok-look-in-Room-clause-reached c =
    let id : FitsSigned w32 c.in-Room.send.id = search rules in
    let at = simp to_z-of_z at c.in_ok-look-in-Room.ensures.reached in
    reached _ _ c.args.pass.now c.look.new.pass c.in-Room.is _
    (λ text. (c.in_ok-look-in-Room.field-0, at.0, at.1, c.look.ensures.held, refl))

pub returns-in_ok-send-in-Blocks-clause-reached : goal.returns-in_ok-send-in-Blocks-clause-reached
returns-in_ok-send-in-Blocks-clause-reached c =
    reached _ _ c.args.pass.now c.look-in-Blocks.new.pass c.in-Blocks.is _
    (λ text.
    let at = c.in_ok-send-in-Blocks.ensures.reached in
    (c.in_ok-send-in-Blocks.field-0, at.0, at.1, c.look-in-Blocks.ensures.held, refl))
