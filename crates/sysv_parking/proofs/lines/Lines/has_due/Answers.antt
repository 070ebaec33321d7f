-- A place is due if any is counted.
use Rattle.std.proofs.Common.{◌<◌, arith, subst}
use Rattle.std.proofs.lemmas.Bool.{ltb-true}
use Rattle.sysv_parking.specs.Lines.{SomeIsDue}
use Rattle.sysv_parking.proofs.Places.{some_counted}
use Rattle.sysv_parking.proofs.lines.Lines.has_due.Goals as goal

pub returns-clause-some : goal.returns-clause-some
returns-clause-some c = λ has.
    let any : 0 < c.self.inside.due_count = ltb-true 0 c.self.inside.due_count has in
    subst SomeIsDue c.self.view_is (some_counted c.self.inside.why.items (omega (arith, c.self.invariant.due, any)))
