use Rattle.std.proofs.Common.{[], ◌∷◌, ◌++◌, refl, sym, subst, ◌≡◌, ◌∙◌}
use Rattle.sysv_workers.specs.Running.{GivesBack}
use Rattle.sysv_workers.specs.declared.refusals.WorkersFault.{WorkersFault}
use Rattle.sysv_workers.specs.declared.refusals.WorkersFault.TheVariants.{Thread, Missed}
use Rattle.sysv_workers.proofs.RunningThreads.{gathers}
use Rattle.sysv_workers.proofs.EndedRun.{none_gathered, gives_up}
use Rattle.sysv_workers.proofs.workers.give_up.Goals as goal
use Rattle.sysv_workers.proofs.workers.give_up.Goals.{then-tally-eq0, else-tally-eq0}

pub returns-clause-back : goal.returns-clause-back
returns-clause-back g c job state rest on fits did =
    let runs = g.J.Job.runs job in
    let ok = g.J.Job.fits job in
    let others = c.args.states.items in
    let start = none_gathered runs ok others c.args.seat.now others _ _ c.requires.seat.1 refl fits
    c.new-tally.ensures.0 c.new-tally.ensures.1 in
    let e = c.collect.ensures in
    let first =
    gathers runs ok _ others [] c.args.seat.now _ _ _ _ _ _ _ _ _ _ state _ start did e.joined e.states e.tally in
    let all = c.join_all.ensures.gathered job others (first.0 ∷ []) rest on first.2 in
    let up = gives_up runs ok others rest state first.0 all.0 _ _ _ _ first.1 all.1 all.2 in
    let P : WorkersFault → Type 0 = λ y.
    GivesBack {T = g.row.T.Denot} runs (others ++ state ∷ rest) y c.join_all.new.states.items in
    record {
      back = elim c.if-tally-eq0.branch [
        | then-tally-eq0 w ↦ subst P (sym w.why-is) (up.0 w.if-tally-eq0.true)
        | else-tally-eq0 w ↦ subst P (sym w.why-is) (up.1.0, up.1.1)
      ];
      still = all.2.still;
      missed = λ e. elim c.if-tally-eq0.branch [
        | then-tally-eq0 w ↦ (let z : Thread ≡ Missed = sym w.why-is ∙ e in cc)
        | else-tally-eq0 w ↦ (up.1.0, up.1.1, up.1.2 w.if-tally-eq0.false)
      ];
    }
