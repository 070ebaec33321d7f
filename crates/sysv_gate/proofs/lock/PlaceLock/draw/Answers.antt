use Rattle.std.proofs.Common.{◌≡◌, ℕ, ◌+◌, [], refl, sym, ap, ◌∙◌, subst, arith, rules}
use Rattle.std.specs.Prelude.{◌<◌, ◌^◌}
use mathlib.Core.Option.{none}
use Rattle.atomic_table.specs.Table.{step}
use Rattle.sysv_gate.specs.Steps.{Mine, Draws, drew}
use Rattle.sysv_gate.specs.Turns.{Waits, HasDrawn}
use Rattle.sysv_gate.specs.Tables.{me_at}
use Rattle.sysv_gate.proofs.LearnedInCall.{unweighed}
use Rattle.sysv_gate.proofs.PassUnchanged.{only_self, same_trans, at_after}
use Rattle.sysv_gate.proofs.lock.PlaceLock.draw.Goals as goal

module _ {O C R : Type 0} where
  -- The ticket was found where it was looked for, by a pass that was as before.
  drawn_there : (m now m' : Mine O C R) (next found : ℕ) → now ≡ m → m.1 ≡ [] → next < 2 ^ 62 → found ≡ next →
      Draws (step 1 32 next (next + 1) none) now found m' → HasDrawn m next m'
  drawn_there m now m' next found still bare low is drawn =
      let won = drawn.0 is in (
        won.0 ∙ (λ i. (drew (is i) (still i).0, (ap (λ (x : Mine O C R). x.1) still ∙ bare) i)),
        low,
        ap (λ (x : Mine O C R). x.0.worn) (sym still) ∙ won.1,
      )

pub loop-init : goal.loop-init
loop-init g c = record {
  same = (refl, refl, only_self _ _ c.requires.at.3 c.requires.at.4);
  still = refl;
  goes_on = search rules;
}

pub weigh-next-requires-clause-at : goal.weigh-next-requires-clause-at
weigh-next-requires-clause-at g c =
    at_after _ c.args.self.now _ _ c.requires.at c.loop.invariant.same (ap (λ m. m.0.opening) c.loop.invariant.still)

pub draw_next-found-requires-clause-at : goal.draw_next-found-requires-clause-at
draw_next-found-requires-clause-at g c =
    let weighed = me_at c.args.self.now.place c.weigh-next.new.token.me in
    let still = unweighed _ weighed _ c.weigh-next.ensures.weighed.0 (omega arith) ∙ c.loop.invariant.still in
    at_after _ c.args.self.now _ _ c.requires.at
    (same_trans _ _ _ _ c.loop.invariant.same c.weigh-next.ensures.same) (ap (λ m. m.0.opening) still)

pub draw_next-found-requires-clause-idle : goal.draw_next-found-requires-clause-idle
draw_next-found-requires-clause-idle g c =
    let weighed = me_at c.args.self.now.place c.weigh-next.new.token.me in
    let still = unweighed _ weighed _ c.weigh-next.ensures.weighed.0 (omega arith) ∙ c.loop.invariant.still in
    subst (Waits []) (sym still) c.requires.idle

pub returns-then-found-next-clause-same : goal.returns-then-found-next-clause-same
returns-then-found-next-clause-same g c = same_trans _ _ _ _ c.loop.invariant.same
    (same_trans _ _ _ _ c.weigh-next.ensures.same c.draw_next-found.ensures.same)

pub returns-then-found-next-clause-drawn : goal.returns-then-found-next-clause-drawn
returns-then-found-next-clause-drawn g c =
    let weighed = me_at c.args.self.now.place c.weigh-next.new.token.me in
    let still = unweighed _ weighed _ c.weigh-next.ensures.weighed.0 (omega arith) ∙ c.loop.invariant.still in
    drawn_there _ weighed _ _ _ still c.requires.idle.0 (omega arith) c.if-found-next.true
    c.draw_next-found.ensures.drawn

pub returns-then-next-ge-LIMIT-clause-same : goal.returns-then-next-ge-LIMIT-clause-same
returns-then-next-ge-LIMIT-clause-same g c =
    same_trans _ _ _ _ c.loop.invariant.same c.weigh-next.ensures.same

pub loop-preserved : goal.loop-preserved
loop-preserved g c =
    let weighed = me_at c.args.self.now.place c.weigh-next.new.token.me in
    let still = unweighed _ weighed _ c.weigh-next.ensures.weighed.0 (omega arith) ∙ c.loop.invariant.still in record {
      same = same_trans _ _ _ _ c.loop.invariant.same
          (same_trans _ _ _ _ c.weigh-next.ensures.same c.draw_next-found.ensures.same);
      still = c.draw_next-found.ensures.drawn.1 c.if-found-next.false ∙ still;
      goes_on = search rules;
    }
