use Rattle.std.proofs.Common.{rules, ◌≡◌, length, ap}
use Rattle.sysv_model.proofs.Boxed.{AreWhole-snoc}
use Rattle.sysv_model.proofs.body.Body.open.Goals as goal

pub loop-preserved : goal.loop-preserved
loop-preserved c =
    let full : length c.in-Ok.block.value ≡ 64 = ap length c.in-Ok.ensures.ok in
    record {
      many = search rules;
      room = search rules;
      whole = rw c.push_reserved.ensures.items (AreWhole-snoc _ _ c.loop.invariant.whole full);
    }
