use Rattle.std.proofs.Common.{subst}
use Rattle.sysv_bank.specs.Passes.{KnowsItsTurns}
use Rattle.sysv_bank.proofs.Passes.{knows_turns}
use Rattle.sysv_bank.proofs.laws.each_pass_knows_its_turns.Goals as goal

pub returns : goal.returns
returns g c = subst KnowsItsTurns c.seat.view_is (knows_turns _ c.seat.inside c.seat.invariant)
