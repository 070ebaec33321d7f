use Rattle.std.proofs.Common.{rules, w32, FitsSigned, sym, subst}
use Rattle.std.proofs.lemmas.Int.{to_z-of_z}
use Rattle.sysv_steps.specs.Seen.{get_phase, get_state, getting}
use Rattle.sysv_steps.specs.State.{AtBegin, AtSettle, AtProbe, AtUnmake}
use Rattle.sysv_steps.specs.Stepping.{StepsOn}
use Rattle.sysv_steps.specs.Stepping.{lifts}
use Rattle.sysv_steps.proofs.get.get_step.Goals as goal

pub returns-in-Begin-clause-steps : goal.returns-in-Begin-clause-steps
returns-in-Begin-clause-steps g c = λ kept.
    let may = g.C.Clock.may c.args.clock.now in
    subst (λ p.
    StepsOn g.T.Turns.takes g.T.Turns.misses may (get_phase p) c.args.at.now kept (get_state c.begin.result)
    c.begin.new.at kept) (sym c.in-Begin.is)
    (lifts g.T.Turns.takes g.T.Turns.misses may (AtBegin (getting c.in-Begin.get)) c.args.at.now kept
    (get_state c.begin.result) c.begin.new.at kept (c.begin.ensures.steps kept))

pub returns-in-Install-clause-steps : goal.returns-in-Install-clause-steps
returns-in-Install-clause-steps g c = λ kept.
    let may = g.C.Clock.may c.args.clock.now in
    let id : FitsSigned w32 c.in-Install.id = search rules in
    let step = c.install.ensures.steps kept in
    let on = simp to_z-of_z at step in
    subst (λ p.
    StepsOn g.T.Turns.takes g.T.Turns.misses may (get_phase p) c.args.at.now kept (get_state c.install.result)
    c.install.new.at kept) (sym c.in-Install.is) on

pub returns-in-Settle-clause-steps : goal.returns-in-Settle-clause-steps
returns-in-Settle-clause-steps g c = λ kept.
    let may = g.C.Clock.may c.args.clock.now in
    let id : FitsSigned w32 c.in-Settle.id = search rules in
    let step = c.settle.ensures.steps kept in
    let on = simp to_z-of_z at step in
    subst (λ p.
    StepsOn g.T.Turns.takes g.T.Turns.misses may (get_phase p) c.args.at.now kept (get_state c.settle.result)
    c.settle.new.at kept) (sym c.in-Settle.is)
    (lifts g.T.Turns.takes g.T.Turns.misses may (AtSettle c.in-Settle.id) c.args.at.now kept
    (get_state c.settle.result) c.settle.new.at kept on)

pub returns-in-Probe-clause-steps : goal.returns-in-Probe-clause-steps
returns-in-Probe-clause-steps g c = λ kept.
    let may = g.C.Clock.may c.args.clock.now in
    let id : FitsSigned w32 c.in-Probe.id = search rules in
    let step = c.probe.ensures.steps kept in
    let on = simp to_z-of_z at step in
    subst (λ p.
    StepsOn g.T.Turns.takes g.T.Turns.misses may (get_phase p) c.args.at.now kept (get_state c.probe.result)
    c.probe.new.at kept) (sym c.in-Probe.is)
    (lifts g.T.Turns.takes g.T.Turns.misses may (AtProbe (getting c.in-Probe.get) c.in-Probe.id c.in-Probe.settled)
    c.args.at.now kept (get_state c.probe.result) c.probe.new.at kept on)

pub returns-in-Unmake-clause-steps : goal.returns-in-Unmake-clause-steps
returns-in-Unmake-clause-steps g c = λ kept.
    let may = g.C.Clock.may c.args.clock.now in
    let id : FitsSigned w32 c.in-Unmake.id = search rules in
    let step = c.unmake.ensures.steps kept in
    let on = simp to_z-of_z at step in
    subst (λ p.
    StepsOn g.T.Turns.takes g.T.Turns.misses may (get_phase p) c.args.at.now kept (get_state c.unmake.result)
    c.unmake.new.at kept) (sym c.in-Unmake.is)
    (lifts g.T.Turns.takes g.T.Turns.misses may (AtUnmake c.in-Unmake.id) c.args.at.now kept
    (get_state c.unmake.result) c.unmake.new.at kept on)
