-- One socket more is listed.
use Rattle.std.proofs.Common.{◌<◌, arith, length, refl}
use Rattle.std.proofs.lemmas.List.{take_more_set}
use Rattle.sysv_options.specs.declared.sockets.TheConstants.{MAX_OTHERS}
use Rattle.sysv_options.proofs.sockets.Entrances.add.Goals as goal

pub returns-clause-added : goal.returns-clause-added
returns-clause-added c =
    let low : c.args.self.now.count < MAX_OTHERS = omega (arith, c.if-count-ge-MAX_OTHERS.false) in
    let there : c.args.self.now.count < length c.args.self.now.sockets = omega (arith, low, c.requires) in
    (take_more_set c.args.self.now.sockets c.args.self.now.count c.args.socket there, refl, low)
