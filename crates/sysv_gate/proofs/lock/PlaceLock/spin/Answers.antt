use Rattle.sysv_gate.proofs.PassUnchanged.{same_trans, looked_mine, looked_other}
use Rattle.sysv_gate.proofs.lock.PlaceLock.spin.Goals as goal

pub loop-preserved : goal.loop-preserved
loop-preserved g c =
    let waits = c.loop.invariant.waits c.if-served-ticket.false in record {
      same = same_trans _ _ _ _ c.loop.invariant.same c.look-served-in-loop.ensures.same;
      turn = looked_mine _ _ _ _ _ _ _ _ waits c.requires.waits.1 c.look-served-in-loop.ensures.looked;
      waits =
          looked_other _ g.O.Object.counted _ _ _ _ _ _ waits c.requires.waits.1 c.look-served-in-loop.ensures.looked;
    }
