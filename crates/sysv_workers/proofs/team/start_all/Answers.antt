use Rattle.std.proofs.Common.{◌∷◌, ◌∙◌, arith}
use Rattle.sysv_workers.proofs.RunningThreads.{but_last, one_longer, moves, one_more}
use Rattle.sysv_workers.proofs.team.start_all.Goals as goal

pub loop-state-preserved : goal.loop-state-preserved
loop-state-preserved g c =
    let i = c.loop-state.invariant in
    let more = c.push_reserved.ensures.items in
    let fewer = c.in-Some.ensures.items in
    let rest = i.on.0 in
    let w = c.in-Some.state in record {
      buffer = c.start.ensures.buffer;
      takes = c.start.ensures.takes ∙ i.takes;
      fits = but_last (g.J.Job.fits c.args.job.now) _ _ _ fewer i.fits;
      capacity = c.pop.ensures.capacity ∙ i.capacity;
      room = c.push_reserved.ensures.capacity ∙ i.room;
      few = let n = i.few in let a = one_longer _ _ _ fewer in let b = one_longer _ _ _ more in omega arith;
      on = (w ∷ rest, moves _ _ _ rest w i.on.1 fewer, one_more _ _ rest _ _ w _ i.on.2 more c.in-Ok.ensures.ok);
    }

pub returns-in-Err-clause-fits : goal.returns-in-Err-clause-fits
returns-in-Err-clause-fits g c =
    but_last (g.J.Job.fits c.args.job.now) _ _ _ c.in-Some.ensures.items c.loop-state.invariant.fits

pub returns-in-Err-clause-takes : goal.returns-in-Err-clause-takes
returns-in-Err-clause-takes g c = c.start.ensures.takes ∙ c.loop-state.invariant.takes

pub returns-in-Err-clause-capacity : goal.returns-in-Err-clause-capacity
returns-in-Err-clause-capacity g c = c.pop.ensures.capacity ∙ c.loop-state.invariant.capacity

pub returns-in-Err-clause-started : goal.returns-in-Err-clause-started
returns-in-Err-clause-started g c =
    let on = c.loop-state.invariant.on in
    let rest = on.0 in
    (c.in-Some.state, rest, moves _ _ _ rest _ on.1 c.in-Some.ensures.items, on.2, c.in-Err.ensures.err)
