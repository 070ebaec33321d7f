use Rattle.std.proofs.Common.{sym, subst}
use Rattle.sysv_gate.specs.History.{RiseByOneAtMost}
use Rattle.sysv_service.specs.Counts.{slot_counts, registry_counts, pool_counts}
use Rattle.sysv_service.specs.Gated.{Stands, gated_counts}
use Rattle.sysv_service.proofs.RisesByOne.{slot_stands, slot_rises}
use Rattle.sysv_service.proofs.RisesByOne.{registry_stands, registry_rises}
use Rattle.sysv_service.proofs.RisesByOne.{pool_stands, pool_rises}
use Rattle.sysv_service.proofs.object.SharedObjectObject.apply.Goals.{in-Slot+in-Slot-call}
use Rattle.sysv_service.proofs.object.SharedObjectObject.apply.Goals.{in-Registry+in-Registry-call}
use Rattle.sysv_service.proofs.object.SharedObjectObject.apply.Goals.{in-Pool+in-Pool-call}
use Rattle.sysv_service.proofs.object.SharedObjectObject.apply.Goals as goal

pub invariant_of-self : goal.invariant_of-self
invariant_of-self c =
    elim c.match-self.branch [
      | in-Slot+in-Slot-call w ↦
          let stands = subst Stands w.in-Slot.is c.self.invariant in
          rw w.self-inside-is (slot_stands w.in-Slot.slot w.make.new.slot _ _ stands w.make.ensures.turn)
      | in-Registry+in-Registry-call w ↦
          let old = w.in-Registry.registry in
          let new = w.make-in-Registry.new.registry in
          let stands = subst Stands w.in-Registry.is c.self.invariant in
          rw w.self-inside-is (registry_stands old new _ _ stands w.make-in-Registry.ensures.turn)
      | in-Pool+in-Pool-call w ↦
          let old = w.in-Pool.pool in
          let new = w.make-in-Pool.new.pool in
          let stands = subst Stands w.in-Pool.is c.self.invariant in
          rw w.self-inside-is (pool_stands old new _ _ stands w.make-in-Pool.ensures.turn)
    ]

pub returns-clause-counts : goal.returns-clause-counts
returns-clause-counts c =
    elim c.match-self.branch [
      | in-Slot+in-Slot-call w ↦
          let old = w.in-Slot.slot in
          let new = w.make.new.slot in
          let stands = subst Stands w.in-Slot.is c.self.invariant in
          rw (w.self-inside-is, ← c.self.view_is)
          (subst (λ o. RiseByOneAtMost (gated_counts o) (slot_counts new)) (sym w.in-Slot.is)
          (slot_rises old new _ _ stands w.make.ensures.turn))
      | in-Registry+in-Registry-call w ↦
          let old = w.in-Registry.registry in
          let new = w.make-in-Registry.new.registry in
          let stands = subst Stands w.in-Registry.is c.self.invariant in
          rw (w.self-inside-is, ← c.self.view_is)
          (subst (λ o. RiseByOneAtMost (gated_counts o) (registry_counts new)) (sym w.in-Registry.is)
          (registry_rises old new _ _ stands w.make-in-Registry.ensures.turn))
      | in-Pool+in-Pool-call w ↦
          let old = w.in-Pool.pool in
          let new = w.make-in-Pool.new.pool in
          let stands = subst Stands w.in-Pool.is c.self.invariant in
          rw (w.self-inside-is, ← c.self.view_is)
          (subst (λ o. RiseByOneAtMost (gated_counts o) (pool_counts new)) (sym w.in-Pool.is)
          (pool_rises old new _ _ stands w.make-in-Pool.ensures.turn))
    ]
