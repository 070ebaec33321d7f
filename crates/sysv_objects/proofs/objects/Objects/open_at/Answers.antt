use Rattle.std.proofs.Common.{[]}
use Rattle.sysv_objects.proofs.Placed.{opened, opened_counts}
use Rattle.sysv_objects.proofs.objects.Objects.open_at.Goals as goal

pub invariant_of-result : goal.invariant_of-result
invariant_of-result c = (
  c.args.generation,
  [],
  opened c.args.generation c.in-Some.slots.items c.in-Ok.registry c.in-Ok-open.pool c.in-Some.ensures
      c.in-Ok.ensures.stands c.in-Ok-open.ensures.opened.1,
)

pub returns-clause-stands : goal.returns-clause-stands
returns-clause-stands c = opened c.args.generation c.in-Some.slots.items c.in-Ok.registry c.in-Ok-open.pool
    c.in-Some.ensures c.in-Ok.ensures.stands c.in-Ok-open.ensures.opened.1

pub returns-clause-counts : goal.returns-clause-counts
returns-clause-counts c = opened_counts c.in-Some.slots.items c.in-Ok.registry c.in-Ok-open.pool c.in-Some.ensures
    c.in-Ok-open.ensures.opened.1
