use Rattle.std.proofs.Common.{◌≡◌, ◌≤◌, ◌+◌, ◌^◌, subst}
use Rattle.sysv_objects.specs.Objects.{blocks_in}
use Rattle.sysv_core.specs.Kept.{blocks_kept}
use Rattle.sysv_core.specs.Seen.{Seen, AreAllFree}
use Rattle.sysv_core.proofs.KeptActors.{weaker}
use Rattle.sysv_core.proofs.AllBlocksCounted.{all_free}
use Rattle.sysv_core.proofs.world.World.end.Goals as goal

pub end-requires : goal.end-requires
end-requires c = weaker c.self.inside.steps (2 ^ 62) c.self.inside.objects c.self.invariant.0 c.self.invariant.1

pub returns : goal.returns
returns c =
    let o = c.self.inside.objects in
    let seen : Seen = record {
      objects = o;
      doings = c.self.inside.actors.items;
      steps = c.self.inside.steps;
      tally = c.self.inside.tally;
    } in
    let freed : o.pool.free + (blocks_in o.slots + blocks_kept seen.doings) ≤ o.pool.size →
    c.end.result ≡ o.pool.free + (blocks_in o.slots + blocks_kept seen.doings) =
    subst (λ n.
    o.pool.free + (blocks_in o.slots + n) ≤ o.pool.size → c.end.result ≡ o.pool.free + (blocks_in o.slots + n))
    c.end_all.ensures c.end.ensures.own in
    subst (λ v. AreAllFree v c.end.result) c.self.view_is
    (λ opened list responses s. all_free opened list responses seen c.end.result freed s)
