use Rattle.std.proofs.Common.{ap, ◌∙◌, sym, subst, arith}
use Rattle.sysv_gate.specs.History.{Moves, IsLegal, HasItsOwn}
use Rattle.sysv_gate.specs.Steps.{entered}
use Rattle.sysv_gate.specs.Turns.{Looked, SawMore}
use Rattle.sysv_gate.specs.Tables.{me_at}
use Rattle.sysv_gate.proofs.MarksAndCounts.{unmarked}
use Rattle.sysv_gate.proofs.LearnedInCall.{unweighed, idle_look, look_count, look_legal, look_own, came_at_once}
use Rattle.sysv_gate.proofs.PassUnchanged.{same_trans}
use Rattle.sysv_gate.proofs.lock.PlaceLock.enter.Goals as goal

pub enter_next-found-requires-clause-served : goal.enter_next-found-requires-clause-served
enter_next-found-requires-clause-served g c =
    let moves = Moves g.O.Object.meaning g.O.Object.counted in
    let counted = g.O.Object.counted in
    let o = c.args.self.now.opening in
    let m = me_at c.args.self.now.place c.args.token.now.me in
    let m' = me_at c.args.self.now.place c.look-served.new.token.me in
    let n = c.look-served.result in
    let still = unweighed m (me_at c.args.self.now.place c.weigh-next.new.token.me) c.weigh-next.result
    c.weigh-next.ensures.weighed.0 (omega arith) in
    let look = subst (λ x. Looked moves counted o x n m') still c.look-served.ensures.looked in
    look_count moves counted o m n m' c.requires.idle.1 look

pub returns-then-found-served-clause-same : goal.returns-then-found-served-clause-same
returns-then-found-served-clause-same g c = same_trans _ _ _ _ c.weigh-next.ensures.same
    (same_trans _ _ _ _ c.look-served.ensures.same c.enter_next-found.ensures.same)

pub returns-then-found-served-clause-entered : goal.returns-then-found-served-clause-entered
returns-then-found-served-clause-entered g c =
    let moves = Moves g.O.Object.meaning g.O.Object.counted in
    let counted = g.O.Object.counted in
    let o = c.args.self.now.opening in
    let m = me_at c.args.self.now.place c.args.token.now.me in
    let m' = me_at c.args.self.now.place c.look-served.new.token.me in
    let n = c.look-served.result in
    let still = unweighed m (me_at c.args.self.now.place c.weigh-next.new.token.me) c.weigh-next.result
    c.weigh-next.ensures.weighed.0 (omega arith) in
    let look = subst (λ x. Looked moves counted o x n m') still c.look-served.ensures.looked in
    let is = (idle_look moves counted o m n m' c.requires.idle.1 look).is in
    let lost =
    (c.enter_next-found.ensures.entered o (ap (λ x. x.0.opening) is ∙ c.requires.at.2)).1 c.if-found-served.true in (
      subst (SawMore m.0) (sym lost) (idle_look moves counted o m n m' c.requires.idle.1 look),
      subst (λ x. IsLegal moves o x.0.seen) (sym lost) (look_legal moves counted o m n m' c.requires.idle.1 look),
      subst (λ x. HasItsOwn x.0.numbers x.0.own x.0.seen) (sym lost)
          (look_own moves counted o m n m' c.requires.idle.1 look),
      unmarked m.0.worn c.weigh-next.result c.weigh-next.ensures.weighed.1 (omega arith),
    )

pub returns-clause-same : goal.returns-clause-same
returns-clause-same g c = same_trans _ _ _ _ c.weigh-next.ensures.same
    (same_trans _ _ _ _ c.look-served.ensures.same c.enter_next-found.ensures.same)

pub returns-clause-entered : goal.returns-clause-entered
returns-clause-entered g c =
    let moves = Moves g.O.Object.meaning g.O.Object.counted in
    let counted = g.O.Object.counted in
    let o = c.args.self.now.opening in
    let m = me_at c.args.self.now.place c.args.token.now.me in
    let m' = me_at c.args.self.now.place c.look-served.new.token.me in
    let n = c.look-served.result in
    let still = unweighed m (me_at c.args.self.now.place c.weigh-next.new.token.me) c.weigh-next.result
    c.weigh-next.ensures.weighed.0 (omega arith) in
    let look = subst (λ x. Looked moves counted o x n m') still c.look-served.ensures.looked in
    let is = (idle_look moves counted o m n m' c.requires.idle.1 look).is in
    let won =
    (c.enter_next-found.ensures.entered o (ap (λ x. x.0.opening) is ∙ c.requires.at.2)).0 c.if-found-served.false in (
      n,
      came_at_once moves counted o m n m' (me_at c.args.self.now.place c.enter_next-found.new.token.me)
          c.requires.idle.1 look (won.0 ∙ ap (λ k. entered k m'.0) c.if-found-served.false) won.1,
      omega arith,
      ap (λ x. x.0.worn) (sym is) ∙ won.2,
    )

pub returns-then-served-next-clause-same : goal.returns-then-served-next-clause-same
returns-then-served-next-clause-same g c = same_trans _ _ _ _ c.weigh-next.ensures.same c.look-served.ensures.same

pub returns-then-served-next-clause-entered : goal.returns-then-served-next-clause-entered
returns-then-served-next-clause-entered g c =
    let moves = Moves g.O.Object.meaning g.O.Object.counted in
    let counted = g.O.Object.counted in
    let o = c.args.self.now.opening in
    let m = me_at c.args.self.now.place c.args.token.now.me in
    let m' = me_at c.args.self.now.place c.look-served.new.token.me in
    let n = c.look-served.result in
    let still = unweighed m (me_at c.args.self.now.place c.weigh-next.new.token.me) c.weigh-next.result
    c.weigh-next.ensures.weighed.0 (omega arith) in
    let look = subst (λ x. Looked moves counted o x n m') still c.look-served.ensures.looked in (
      idle_look moves counted o m n m' c.requires.idle.1 look,
      look_legal moves counted o m n m' c.requires.idle.1 look,
      look_own moves counted o m n m' c.requires.idle.1 look,
      unmarked m.0.worn c.weigh-next.result c.weigh-next.ensures.weighed.1 (omega arith),
    )
