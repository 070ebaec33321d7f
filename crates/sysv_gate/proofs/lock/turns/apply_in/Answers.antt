use Rattle.std.proofs.Common.{refl, subst}
use Rattle.sysv_gate.specs.History.{Moves}
use Rattle.sysv_gate.specs.Turns.{Applied}
use Rattle.sysv_gate.proofs.LearnedInCall.{same_object}
use Rattle.sysv_gate.proofs.lock.turns.apply_in.Goals as goal

pub returns : goal.returns
returns g c = λ object last was. (
  c.apply.new.place,
  refl,
  subst (λ o.
      Applied (Moves g.O.Object.meaning g.O.Object.counted) g.O.Object.counted o c.args.call c.apply.new.place
      c.apply.result.0 c.apply.result.1)
      (same_object c.in-Some.place object last _ c.in-Some.is was) c.apply.ensures,
)
