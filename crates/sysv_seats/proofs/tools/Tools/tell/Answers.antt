-- The notifications of a call are kept one after another.
use Rattle.std.proofs.Common.{◌++◌, List, [], ◌∷◌}
use Rattle.std.specs.Prelude.{if◌then◌else◌}
use Rattle.std.specs.Option.{option_to_list}
use Rattle.sysv_seats.specs.declared.notification.Notification.{Notification}
use Rattle.sysv_seats.specs.declared.notification.Notification.TheVariants as notifications
use Rattle.sysv_seats.specs.declared.notification.Told.{Told}
use Rattle.sysv_seats.specs.declared.tools.Tools.{Tools}
use Rattle.sysv_seats.proofs.Keeping.{keeps_both}
use Rattle.sysv_seats.proofs.tools.Tools.tell.Goals as goal

abbrev released : Told → List Notification
released told = if told.released then notifications.Released ∷ [] else []

abbrev settled : Told → List Notification
settled told = if told.settled then notifications.Settled ∷ [] else []

pub returns : goal.returns
returns c =
    let told = c.args.told in
    let old : Tools = c.args.self.now in
    let first : Tools = c.keep_some.new.self in
    let second : Tools = c.keep_if.new.self in
    let last : Tools = c.keep_if-2.new.self in
    keeps_both (option_to_list told.there) (released told ++ settled told) old first last c.keep_some.ensures
    (keeps_both (released told) (settled told) first second last c.keep_if.ensures c.keep_if-2.ensures)
