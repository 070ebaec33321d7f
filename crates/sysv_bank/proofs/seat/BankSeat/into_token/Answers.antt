use Rattle.std.proofs.Common.{refl}
use Rattle.sysv_bank.proofs.seat.BankSeat.into_token.Goals as goal

pub returns : goal.returns
returns g c = (c.self.inside, c.self.view_is, c.self.invariant, refl)
