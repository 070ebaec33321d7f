-- The turns of the calls that change or remove a queue.
use Rattle.std.proofs.Common.{◌≡◌, ℕ, ℤ, ◌+◌, ◌<◌, ◌≤◌, ◌⊎◌, inl, inr, [], Option, None, Some, refl, sym, ap, subst}
use Rattle.std.proofs.Common.{arith, option_map}
use Rattle.sysv_model.specs.declared.cred.Cred.{Cred}
use Rattle.sysv_model.specs.declared.errno.Errno.{Errno}
use Rattle.sysv_model.specs.declared.errno.Errno.TheVariants.{EPERM, EINVAL}
use Rattle.sysv_model.specs.declared.attributes.Attributes.{Attributes}
use Rattle.sysv_model.specs.declared.attributes.SetTo.{SetTo}
use Rattle.sysv_model.specs.declared.limits.TheConstants.{MAX_QBYTES}
use Rattle.sysv_model.specs.History.{Set, Remove, Done, Discarded, Refused}
use Rattle.sysv_model.specs.Live.{HasId, changed_to}
use Rattle.sysv_queue.specs.Slot.{Slot}
use Rattle.sysv_queue.specs.Granted.{MayControl, MayLimit}
use Rattle.sysv_queue.specs.Barred.{BarsControl}
use Rattle.sysv_queue.specs.LegalReply.{LegalSet, LegalRemove}
use Rattle.sysv_queue.specs.Represents.{MakesTurn}
use Rattle.sysv_queue.proofs.Turns.{quiet_set_refused, quiet_remove_refused}
use Rattle.sysv_queue.proofs.Stands.{slot, turn_quiet, turn_changed, turn_removed}

legal_set_barred : (s : Slot) (id : ℤ) (cred : Cred) (to : SetTo) (why : Errno) → BarsControl id cred s.live why →
    LegalSet s id cred to (Refused why)
legal_set_barred s id cred to EINVAL bars = inl bars
legal_set_barred s id cred to EPERM bars = inl bars
legal_set_barred s id cred to why bars = absurd bars

legal_remove_barred : (s : Slot) (id : ℤ) (cred : Cred) (why : Errno) → BarsControl id cred s.live why →
    LegalRemove s id cred (Refused why)
legal_remove_barred s id cred EINVAL bars = bars
legal_remove_barred s id cred EPERM bars = bars
legal_remove_barred s id cred why bars = absurd bars

pub remove_barred : (s : Slot) (id : ℤ) (cred : Cred) (why : Errno) → BarsControl id cred s.live why →
    MakesTurn s (Remove id cred) (Refused why) s
remove_barred s id cred why bars =
    turn_quiet s _ _ (quiet_remove_refused id cred why) (legal_remove_barred s id cred why bars)

pub removes_queue : (s : Slot) (id : ℤ) (cred : Cred) → HasId s.live id → MayControl cred s.live →
    MakesTurn s (Remove id cred) (Discarded s.messages) (slot None [] (s.arrived + 1) (s.freed + 1))
removes_queue s id cred lives may = turn_removed s id cred (lives, may, refl)

module _ (s : Slot) (id : ℤ) (cred : Cred) (to : SetTo) (now : ℕ) where
  pub set_barred : (why : Errno) → BarsControl id cred s.live why → MakesTurn s (Set id cred to now) (Refused why) s
  set_barred why bars = turn_quiet s _ _ (quiet_set_refused id cred to now why) (legal_set_barred s id cred to why bars)

  pub set_above_most : HasId s.live id → MayControl cred s.live → MAX_QBYTES < to.qbytes →
      MakesTurn s (Set id cred to now) (Refused EINVAL) s
  set_above_most lives may above =
      turn_quiet s _ _ (quiet_set_refused id cred to now EINVAL) (inr (lives, may, λ within. omega arith))

  -- A raise of the limit by a caller other than user 0.
  never_limits : (queue : Attributes) (live : Option Attributes) → live ≡ Some queue → queue.qbytes < to.qbytes →
      ¬ (cred.uid ≡ 0) → ¬ MayLimit cred to live
  never_limits queue live is raise other = subst (λ l. ¬ MayLimit cred to l) (sym is)
      (λ limit. elim limit [ inl no_raise ↦ omega arith | inr zero_user ↦ other zero_user ])

  pub set_raise : (queue : Attributes) → s.live ≡ Some queue → HasId s.live id → MayControl cred s.live →
      to.qbytes ≤ MAX_QBYTES → queue.qbytes < to.qbytes → ¬ (cred.uid ≡ 0) →
      MakesTurn s (Set id cred to now) (Refused EPERM) s
  set_raise queue is lives may within raise other =
      turn_quiet s _ _ (quiet_set_refused id cred to now EPERM)
      (inr (lives, may, within, never_limits queue s.live is raise other))

  pub set_changes : (queue : Attributes) → s.live ≡ Some queue → HasId s.live id → MayControl cred s.live →
      to.qbytes ≤ MAX_QBYTES → (to.qbytes ≤ queue.qbytes) ⊎ (cred.uid ≡ 0) →
      MakesTurn s (Set id cred to now) Done
      (slot (Some (changed_to to now queue)) s.messages (s.arrived + 1) (s.freed + 1))
  set_changes queue is lives may within limit =
      subst (λ l. MakesTurn s (Set id cred to now) Done (slot l s.messages (s.arrived + 1) (s.freed + 1)))
      (ap (option_map (changed_to to now)) is)
      (turn_changed s id cred to now (lives, may, within, subst (MayLimit cred to) (sym is) limit))
