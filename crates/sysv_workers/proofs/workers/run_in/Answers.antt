use Rattle.std.specs.List.{flat_map}
use Rattle.sysv_workers.specs.Parts.{Part, Leads}
use Rattle.sysv_workers.specs.declared.refusals.WorkersFault.TheVariants.{Missed}
use Rattle.std.proofs.Common.{◌≡◌, ◌≤◌, ℕ, Some, refl, List, [], ◌∙◌, sym, ap, subst, length, vec_capacity, arith}
use Rattle.sysv_workers.specs.Running.{GivesBack}
use Rattle.sysv_workers.specs.Feeding.{counted, HasFed}
use Rattle.sysv_workers.specs.Sources.{GivesAll}
use Rattle.sysv_workers.proofs.RunningThreads.{on_length}
use Rattle.sysv_workers.proofs.EndedRun.{at_some, at_none, none_gathered, gathered_looks, ends, leads, fails_early}
use Rattle.sysv_workers.proofs.EndedRun.{fails_late, cause_early, cause_late, late}
use Rattle.sysv_workers.proofs.Feeds.{fed_longer, grown_longer, looks_longer}
use Rattle.sysv_workers.proofs.workers.run_in.Goals as goal

pub returns-in-Some-clause-err : goal.returns-in-Some-clause-err
returns-in-Some-clause-err g c =
    let runs = g.J.Job.runs c.args.job.now in
    let fits = g.J.Job.fits c.args.job.now in
    let s = c.in-Some.ensures.started in
    let back = c.give_up.ensures.back c.args.job.now s.0 s.1 s.3 c.start_all.ensures.fits s.4 in
    let P : List _ → Type 0 = λ l.
    GivesBack {T = g.row.T.Denot} runs l c.give_up.result.why c.give_up.result.states.items in
    fails_early runs fits g.S.Source.gives _ _ _ _ c.give_up.ensures.why (subst P (sym s.2) back.back) back.still

pub join_all-requires-clause-room : goal.join_all-requires-clause-room
join_all-requires-clause-room g c =
    let s = c.in_default.ensures.started in
    let long : length c.start_all.new.handles.items ≡ length c.args.states.items =
    on_length c.args.job.now c.args.buffer.now c.args.states.items c.start_all.new.handles.items s.1 in
    let none : length c.start_all.new.states.items ≡ 0 = ap length s.0 in
    let same : vec_capacity c.start_all.new.states ≡ vec_capacity c.args.states = c.start_all.ensures.capacity in
    let a = c.start_all.new.states.ok.0 in
    let b = c.args.states.ok in omega arith

pub returns-in-None-clause-ok : goal.returns-in-None-clause-ok
returns-in-None-clause-ok g c =
    let runs = g.J.Job.runs c.args.job.now in
    let fits = g.J.Job.fits c.args.job.now in
    let s = c.in_default.ensures.started in
    let takes : c.put_marks-marked.new.seat.takes ≡ [] = c.put_marks-marked.ensures.takes
    ∙ (c.put_all-items.ensures.takes ∙ (c.start_all.ensures.takes ∙ c.requires.seat.1)) in
    let start =
    none_gathered runs fits [] c.put_marks-marked.new.seat c.start_all.new.states.items c.new-tally.result.ran
    c.new-tally.result.ended takes s.0 (λ k d low. absurd (omega arith)) c.new-tally.ensures.0 c.new-tally.ensures.1 in
    let all = c.join_all.ensures.gathered c.args.job.now [] [] c.args.states.items s.1 start in
    let seen =
    gathered_looks runs fits [] all.0 c.join_all.new.seat c.put_count-put.new.seat c.join_all.new.states.items
    c.join_all.new.tally.ran c.join_all.new.tally.ended all.2 c.put_count-put.ensures.seen in
    let fine = c.in-None.ensures.none in
    let P : ℕ → Type 0 = λ n.
    (given : List _) × GivesAll g.S.Source.gives c.args.source.now given c.put_all-items.new.source
    × HasFed given 0 c.put_all-items.new.seat × (n ≡ counted (length given)) in
    let gave : P c.join_all.new.tally.ran =
    at_some P c.put_all-items.result c.join_all.new.tally.ran fine.2 c.put_all-items.ensures.gave in
    let marks = c.put_marks-marked.ensures.marks fine.0 gave.0 gave.2 in
    let count = c.len-count.result in
    let later : HasFed gave.0 count c.join_all.new.seat = fed_longer gave.0 count c.put_marks-marked.new.seat
    c.join_all.new.seat c.join_all.ensures.grown.0 c.join_all.ensures.grown.1 marks in
    let last : HasFed gave.0 count c.put_count-put.new.seat = fed_longer gave.0 count c.join_all.new.seat
    c.put_count-put.new.seat c.put_count-put.ensures.seen.more c.put_count-put.ensures.seen.seen later in
    let long : length c.args.states.items ≡ count = sym c.args.states.ok.0 ∙ sym c.len-count.ensures in
    ends runs fits g.S.Source.gives c.args.states.items c.join_all.new.states.items c.args.source.now
    c.put_all-items.new.source all.0 gave.0 c.put_count-put.new.seat c.join_all.new.tally.ran c.join_all.new.tally.ended
    count c.put_count-put.result
    seen all.1 long (let a = c.requires.room.0 in omega arith) gave.1 last c.put_count-put.ensures.own fine.1 gave.3
    c.put_count-put.ensures.count fine.3

pub returns-in-Some-clause-cause : goal.returns-in-Some-clause-cause
returns-in-Some-clause-cause g c =
    let runs = g.J.Job.runs c.args.job.now in
    let fits = g.J.Job.fits c.args.job.now in
    let s = c.in-Some.ensures.started in
    let back = c.give_up.ensures.back c.args.job.now s.0 s.1 s.3 c.start_all.ensures.fits s.4 in
    let P : List _ → Type 0 = λ l.
    c.give_up.result.why ≡ Missed →
    (parts : List (Part _ g.row.T.Denot)) × Leads runs l parts c.give_up.result.states.items
    × (1 ≤ length (flat_map (λ p. p.items) parts)) in
    cause_early runs fits g.S.Source.gives _ _ _ _ _ _ _ refl c.give_up.ensures.why (subst P (sym s.2) back.missed)

pub returns-clause-err : goal.returns-clause-err
returns-clause-err g c =
    let runs = g.J.Job.runs c.args.job.now in
    let fits = g.J.Job.fits c.args.job.now in
    let s = c.in_default.ensures.started in
    let takes : c.put_marks-marked.new.seat.takes ≡ [] = c.put_marks-marked.ensures.takes
    ∙ (c.put_all-items.ensures.takes ∙ (c.start_all.ensures.takes ∙ c.requires.seat.1)) in
    let start =
    none_gathered runs fits [] c.put_marks-marked.new.seat c.start_all.new.states.items c.new-tally.result.ran
    c.new-tally.result.ended takes s.0 (λ k d low. absurd (omega arith)) c.new-tally.ensures.0 c.new-tally.ensures.1 in
    let all = c.join_all.ensures.gathered c.args.job.now [] [] c.args.states.items s.1 start in
    let led = leads runs fits [] all.0 c.join_all.new.seat c.join_all.new.states.items c.join_all.new.tally.ran
    c.join_all.new.tally.ended c.args.states.items all.2 all.1 in
    let Q : ℕ → Type 0 = λ n.
    (given : List _) × GivesAll g.S.Source.gives c.args.source.now given c.put_all-items.new.source
    × HasFed given 0 c.put_all-items.new.seat × (n ≡ counted (length given)) in
    let gave : (n : ℕ) → c.put_all-items.result ≡ Some n →
    (given : List _) × GivesAll g.S.Source.gives c.args.source.now given c.put_all-items.new.source
    × (n ≡ counted (length given)) = λ n is.
    let q : Q n = at_some Q c.put_all-items.result n is c.put_all-items.ensures.gave in (q.0, q.1, q.3) in
    let long : length c.args.states.items ≡ c.len-count.result = sym c.args.states.ok.0 ∙ sym c.len-count.ensures in
    fails_late runs fits g.S.Source.gives c.args.states.items c.join_all.new.states.items c.args.source.now
    c.put_all-items.new.source _ c.len-count.result long
    (late runs fits g.S.Source.gives c.args.states.items c.join_all.new.states.items c.args.source.now
    c.put_all-items.new.source c.put_count-put.new.seat c.len-count.result _ _ _ _ _ _ _ c.in-Some-fault.ensures.some
    (λ e. at_none _ c.put_all-items.result e c.put_all-items.ensures.returned) gave)
    (led.0, led.1) all.2.still

pub returns-clause-cause : goal.returns-clause-cause
returns-clause-cause g c =
    let runs = g.J.Job.runs c.args.job.now in
    let fits = g.J.Job.fits c.args.job.now in
    let s = c.in_default.ensures.started in
    let takes : c.put_marks-marked.new.seat.takes ≡ [] = c.put_marks-marked.ensures.takes
    ∙ (c.put_all-items.ensures.takes ∙ (c.start_all.ensures.takes ∙ c.requires.seat.1)) in
    let start =
    none_gathered runs fits [] c.put_marks-marked.new.seat c.start_all.new.states.items c.new-tally.result.ran
    c.new-tally.result.ended takes s.0 (λ k d low. absurd (omega arith)) c.new-tally.ensures.0 c.new-tally.ensures.1 in
    let all = c.join_all.ensures.gathered c.args.job.now [] [] c.args.states.items s.1 start in
    let led = leads runs fits [] all.0 c.join_all.new.seat c.join_all.new.states.items c.join_all.new.tally.ran
    c.join_all.new.tally.ended c.args.states.items all.2 all.1 in
    let Q : ℕ → Type 0 = λ n.
    (given : List _) × GivesAll g.S.Source.gives c.args.source.now given c.put_all-items.new.source
    × HasFed given 0 c.put_all-items.new.seat × (n ≡ counted (length given)) in
    let gave : (n : ℕ) → c.put_all-items.result ≡ Some n →
    (given : List _) × GivesAll g.S.Source.gives c.args.source.now given c.put_all-items.new.source
    × (n ≡ counted (length given)) = λ n is.
    let q : Q n = at_some Q c.put_all-items.result n is c.put_all-items.ensures.gave in (q.0, q.1, q.3) in
    let marked = c.put_marks-marked.ensures.longer in
    let joined = grown_longer c.put_marks-marked.new.seat c.join_all.new.seat c.join_all.ensures.grown.0
    c.join_all.ensures.grown.1 in
    let looked = looks_longer c.join_all.new.seat c.put_count-put.new.seat c.put_count-put.ensures.seen in
    let long : length c.args.states.items ≡ c.len-count.result = sym c.args.states.ok.0 ∙ sym c.len-count.ensures in
    cause_late runs fits g.S.Source.gives c.args.states.items c.join_all.new.states.items c.args.source.now
    c.put_all-items.new.source c.put_count-put.new.seat _ _ _ _ _ _ _ _ led.0 c.len-count.ensures
    c.in-Some-fault.ensures.some
    (λ e. let far = at_none _ c.put_all-items.result e c.put_all-items.ensures.worn in omega arith)
    (λ e. let far = c.put_marks-marked.ensures.worn e in omega arith)
    (λ e. let far = all.2.worn e in omega arith)
    gave c.put_count-put.ensures.count (all.2.total ∙ ap counted (sym led.2)) led.1
