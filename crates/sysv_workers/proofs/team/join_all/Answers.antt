use Rattle.std.proofs.Common.{◌++◌, [], ◌∙◌, ap, sym, arith, append_assoc}
use Rattle.std.proofs.lemmas.List.{append-nil}
use Rattle.sysv_workers.proofs.RunningThreads.{one_longer, one_fewer, none_joined, one_joined, all_joined}
use Rattle.sysv_workers.proofs.Feeds.{nil_of}
use Rattle.sysv_workers.proofs.team.join_all.Goals as goal

pub loop-handle-init : goal.loop-handle-init
loop-handle-init g c = record {
  buffer = c.requires.buffer;
  on = c.requires.on;
  room = c.requires.room;
  grown = ([], sym (append-nil _));
  gathered = λ job others parts rest on so. none_joined _ _ _ job others parts rest _ _ _ _ _ on so;
}

pub collect-requires-clause-theirs : goal.collect-requires-clause-theirs
collect-requires-clause-theirs g c =
    let i = c.loop-handle.invariant in
    let one = one_fewer i.on.0 _ i.on.1 _ _ _ i.on.2 c.in-Some.ensures.items in
    c.join-done.ensures.place ∙ one.6

pub loop-handle-preserved : goal.loop-handle-preserved
loop-handle-preserved g c =
    let i = c.loop-handle.invariant in
    let fewer = c.in-Some.ensures.items in
    let one = one_fewer i.on.0 _ i.on.1 _ _ _ i.on.2 fewer in
    let e = c.collect.ensures in record {
      buffer = e.buffer;
      on = (i.on.0, one.1, one.3);
      room =
          let n = i.room in
          let a = one_longer _ _ _ fewer in
          let b = e.room in omega arith;
      grown =
          let j = e.joined.begins_one in
          (i.grown.0 ++ j.0, j.1 ∙ (ap (λ l. l ++ j.0) i.grown.1 ∙ append_assoc _ i.grown.0 j.0));
      gathered = λ job others parts rest on so.
          one_joined _ _ _ job others parts rest _ _ _ _ _ _ _ _ _ _ _ _ _ _ _ (i.gathered job others parts rest on so)
          fewer c.join-done.ensures e.joined e.states e.tally;
    }

pub returns-clause-gathered : goal.returns-clause-gathered
returns-clause-gathered g c job others parts rest on so =
    all_joined _ _ _ job others parts rest _ _ _ _ _ (c.loop-handle.invariant.gathered job others parts rest on so)
    (nil_of _ (sym c.loop-handle.handles.ok.0 ∙ c.in_default.ensures.cases.0))
