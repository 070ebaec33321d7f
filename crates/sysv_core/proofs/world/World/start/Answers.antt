use Rattle.std.proofs.Common.{◌+◌, ◌≤◌, Some, refl, sym, ap, subst, ◌∙◌, rules, arith}
use Rattle.sysv_objects.specs.Represents.{Represents as ObjectsStandFor}
use Rattle.sysv_core.specs.declared.event.Event.TheVariants.{Start}
use Rattle.sysv_core.specs.Seen.{Seen, IsSeenAs}
use Rattle.sysv_core.specs.Tallying.{messages_given}
use Rattle.sysv_core.proofs.KeptActors.{kept_some, kept_none, seen_at, seen_settled, idle_there, same_seen}
use Rattle.sysv_core.proofs.KeptActors.{given_at_most, weaker}
use Rattle.sysv_core.proofs.SeenSteps.{moves_as, tallied, start_absent, start_busy, start_idle}
use Rattle.sysv_core.proofs.world.World.start.Goals as goal

pub returns-in_default-clause-single : goal.returns-in_default-clause-single
returns-in_default-clause-single c = λ w s.
    start_absent w c.args.self.now s c.each_world_is_sound.ensures.stays c.args.actor c.args.cred c.args.call
    (search rules) c.in_default.ensures

pub returns-then-is_some-clause-single : goal.returns-then-is_some-clause-single
returns-then-is_some-clause-single c = λ w s.
    let view = ap (λ (v : Seen). v.doings) c.self.view_is in
    let x = c.index.result.now in
    let busy = kept_some x (sym c.is_some.ensures ∙ c.if-is_some.true) in
    let there = seen_at c.self.inside.actors.items c.args.self.now.doings view c.in-Some.place c.in-Some.ensures.1 x
    c.index.ensures ∙ ap Some busy.1 in
    start_busy w c.args.self.now s c.each_world_is_sound.ensures.stays c.args.actor c.in-Some.place c.args.cred
    c.args.call busy.0 (search rules) c.in-Some.ensures.0 there

pub returns-clause-single : goal.returns-clause-single
returns-clause-single c = λ w s.
    let view = ap (λ (v : Seen). v.doings) c.self.view_is in
    let x = c.index.result.now in
    let stands : ObjectsStandFor w.generation w.turns c.self.inside.objects =
    subst (λ (v : Seen). ObjectsStandFor w.generation w.turns v.objects) (sym c.self.view_is) s.objects in
    let idle = kept_none x (sym c.is_some.ensures ∙ c.if-is_some.false) in
    let there = seen_at c.self.inside.actors.items c.args.self.now.doings view c.in-Some.place c.in-Some.ensures.1 x
    c.index.ensures ∙ ap Some idle in
    let begins = start_idle w c.args.self.now s c.each_world_is_sound.ensures.stays c.args.actor c.in-Some.place
    c.args.cred c.args.call c.released-released.result c.begin-led.result (search rules) c.in-Some.ensures.0 there
    c.begin-led.ensures (c.released-released.ensures w.generation w.turns stands) in
    let states = seen_settled c.self.inside.actors.items c.args.self.now.doings view c.in-Some.place c.in-Some.ensures.1
    c.settle.new.actors.items c.begin-led.result c.settle.ensures.kept in
    let same = same_seen _ _ _ _ _ _ c.settle.new.tally _ (ap (λ (v : Seen). v.objects) c.self.view_is) states
    (ap (λ (v : Seen). v.steps + 1) c.self.view_is) refl in
    moves_as w (Start c.args.actor c.args.cred c.args.call) _ _ _ _ c.settle.ensures.told same
    (tallied w (Start c.args.actor c.args.cred c.args.call) _ _ c.settle.new.tally begins)

pub settle-requires-clause-idle : goal.settle-requires-clause-idle
settle-requires-clause-idle c =
    let view = ap (λ (v : Seen). v.doings) c.self.view_is in
    idle_there c.self.inside.actors.items c.args.self.now.doings view c.in-Some.place c.in-Some.ensures.1
    c.index.result.now c.index.ensures (sym c.is_some.ensures ∙ c.if-is_some.false)

pub invariant_of-self : goal.invariant_of-self
invariant_of-self c =
    let was = c.self.invariant.2 in
    let now = returns-clause-single c was.0 (subst (IsSeenAs was.0) c.self.view_is was.1) in
    let steps = ap (λ (v : Seen). v.steps) c.self.view_is in
    let responses =
    subst (λ r. messages_given r ≤ 1) (sym c.settle.ensures.told) (given_at_most c.args.actor c.begin-led.result) in (
      omega arith,
      weaker c.self.inside.steps (c.self.inside.steps + 1) c.self.inside.objects (omega arith) c.self.invariant.1,
      (now.0, now.2),
      omega (arith, c.self.invariant.3, responses, c.settle.ensures.written, c.settle.ensures.lost),
    )

pub returns-clause-written : goal.returns-clause-written
returns-clause-written c =
    c.settle.ensures.written ∙ ap (λ (v : Seen). v.tally.written + messages_given c.settle.result) c.self.view_is

pub returns-clause-lost : goal.returns-clause-lost
returns-clause-lost c = c.settle.ensures.lost ∙ ap (λ (v : Seen). v.tally.lost) c.self.view_is
