use Rattle.std.proofs.Common.{sym, ap, ◌∙◌, slice_set, None}
use Rattle.sysv_core.specs.Kept.{doing_led}
use Rattle.sysv_core.proofs.Lists.{slice_set-same}
use Rattle.sysv_core.proofs.world.settle.Goals as goal

pub returns-after-delivery-clause-kept : goal.returns-after-delivery-clause-kept
returns-after-delivery-clause-kept c =
    sym (slice_set-same c.args.actors.now.items c.args.place None c.requires.idle)
    ∙ ap (slice_set c.args.actors.now.items c.args.place) (sym (ap doing_led c.in-Over.is))
