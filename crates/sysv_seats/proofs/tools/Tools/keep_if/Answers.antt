-- The condition holds, so it is kept.
use Rattle.std.proofs.Common.{[], ◌∷◌, Bool, List, if◌then◌else◌, subst, sym}
use Rattle.sysv_seats.specs.declared.notification.Notification.{Notification}
use Rattle.sysv_seats.specs.Notification.{Keeps}
use Rattle.sysv_seats.proofs.tools.Tools.keep_if.Goals as goal

abbrev kept : Bool → Notification → List Notification
kept holds one = if holds then one ∷ [] else []

pub returns : goal.returns
returns c =
    subst (λ (holds : Bool). Keeps (kept holds c.args.notification) c.args.self.now c.keep.new.self)
    (sym c.if-not-holds.false) c.keep.ensures
