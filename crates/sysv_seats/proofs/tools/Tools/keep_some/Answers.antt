-- There is something to keep.
use Rattle.std.proofs.Common.{Option, subst, sym}
use Rattle.std.specs.Option.{option_to_list}
use Rattle.sysv_seats.specs.declared.notification.Notification.{Notification}
use Rattle.sysv_seats.specs.Notification.{Keeps}
use Rattle.sysv_seats.proofs.tools.Tools.keep_some.Goals as goal

pub returns : goal.returns
returns c =
    subst (λ (it : Option Notification). Keeps (option_to_list it) c.args.self.now c.keep.new.self) (sym c.in-Some.is)
    c.keep.ensures
