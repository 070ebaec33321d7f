use Rattle.std.proofs.Common.{rules, w32}
use Rattle.std.specs.Prelude.{FitsSigned}
use Rattle.std.proofs.lemmas.Int.{to_z-of_z}
use Rattle.sysv_core.proofs.actor_steps.count_now.Goals as goal

pub returns-in-Settled : goal.returns-in-Settled
returns-in-Settled c = λ generation turns s. rw c.in-Settled.is (c.settled.ensures generation turns s)

pub returns-in-Released : goal.returns-in-Released
returns-in-Released c = λ generation turns s. rw c.in-Released.is (c.released.ensures generation turns s)

pub returns-in-Freed : goal.returns-in-Freed
returns-in-Freed c = λ generation turns s.
    let id : FitsSigned w32 c.in-Freed.id = search rules in
    let is = simp to_z-of_z at (c.freed.ensures generation turns s) in
    rw c.in-Freed.is is

pub returns-in-Arrived : goal.returns-in-Arrived
returns-in-Arrived c = λ generation turns s.
    let id : FitsSigned w32 c.in-Arrived.id = search rules in
    let is = simp to_z-of_z at (c.arrived.ensures generation turns s) in
    rw c.in-Arrived.is is
