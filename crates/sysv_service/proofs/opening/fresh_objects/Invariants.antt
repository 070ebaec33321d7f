use Rattle.std.proofs.Common.{◌≤◌, ◌+◌, vec_capacity}
use Rattle.sysv_keys.specs.declared.identifier.TheConstants.{SLOTS}
use Rattle.sysv_service.specs.Fresh.{AreFreshUpTo}
use Rattle.sysv_service.proofs.opening.fresh_objects.Given as goal

-- This number of vacant slots follow the registry and the pool.
abbrev pub invariant-loop : goal.invariant-loop
invariant-loop l = record {
  fresh : AreFreshUpTo l.counter l.fn.generation l.fn.blocks l.objects.items;
  room : SLOTS + 2 ≤ vec_capacity l.objects;
}
