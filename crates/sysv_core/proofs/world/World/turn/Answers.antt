use Rattle.std.proofs.Common.{◌+◌, ◌≤◌, Some, None, refl, sym, ap, subst, ◌∙◌, arith, rules}
use Rattle.sysv_core.specs.declared.event.Event.TheVariants.{Step}
use Rattle.sysv_core.specs.declared.event.Stepped.TheVariants.{Nothing}
use Rattle.sysv_objects.specs.Objects.{CountsUpTo}
use Rattle.sysv_core.specs.Standing.{doing_state}
use Rattle.sysv_core.specs.Seen.{Seen, IsSeenAs}
use Rattle.sysv_core.specs.Kept.{counted_led}
use Rattle.sysv_core.specs.Led.{DoingLeads}
use Rattle.sysv_core.specs.Tallying.{messages_given}
use Rattle.sysv_core.proofs.SeenSteps.{moves_as, tallied, step_absent, step_idle, step_busy}
use Rattle.sysv_core.proofs.KeptActors.{seen_at, seen_same, seen_resettled, taken_there, same_seen, given_counted}
use Rattle.sysv_core.proofs.KeptActors.{counts_on}
use Rattle.sysv_core.proofs.world.World.turn.Goals as goal

pub returns-in_default-clause-single : goal.returns-in_default-clause-single
returns-in_default-clause-single c = λ w s.
    step_absent w c.args.self.now s c.each_world_is_sound.ensures.stays c.args.actor c.args.now (search rules)
    c.in_default.ensures

pub returns-in_default-take-clause-single : goal.returns-in_default-take-clause-single
returns-in_default-take-clause-single c = λ w s.
    let view = ap (λ (v : Seen). v.doings) c.self.view_is in
    let x = c.index_mut.result.now in
    let idle = sym c.take.ensures.value ∙ c.in_default-take.is in
    let there = seen_at c.self.inside.actors.items c.args.self.now.doings view c.in-Some.place c.in-Some.ensures.1 x
    c.index_mut.ensures.value ∙ ap Some idle in
    let states = seen_same c.self.inside.actors.items c.args.self.now.doings view c.in-Some.place c.in-Some.ensures.1
    c.take.new.self None c.take.ensures.after there in
    let same = same_seen _ _ _ _ _ _ _ _ (ap (λ (v : Seen). v.objects) c.self.view_is) states
    (ap (λ (v : Seen). v.steps) c.self.view_is) (ap (λ (v : Seen). v.tally) c.self.view_is) in
    let stays = step_idle w c.args.self.now s c.each_world_is_sound.ensures.stays c.args.actor c.in-Some.place
    c.args.now (search rules) c.in-Some.ensures.0 there in
    moves_as w (Step c.args.actor c.args.now) Nothing Nothing _ _ refl same stays

pub returns-clause-single : goal.returns-clause-single
returns-clause-single c = λ w s.
    let view = ap (λ (v : Seen). v.doings) c.self.view_is in
    let x = c.index_mut.result.now in
    let d = c.in-Some-take.doing in
    let busy = sym c.take.ensures.value ∙ c.in-Some-take.is in
    let there = seen_at c.self.inside.actors.items c.args.self.now.doings view c.in-Some.place c.in-Some.ensures.1 x
    c.index_mut.ensures.value ∙ ap Some busy in
    let step = subst (λ (v : Seen). DoingLeads v.objects d c.args.now c.advance-led.result c.advance-led.new.objects)
    c.self.view_is c.advance-led.ensures in
    let goes = step_busy w c.args.self.now s c.each_world_is_sound.ensures.stays c.args.actor c.in-Some.place c.args.now
    d c.advance-led.result c.advance-led.new.objects (search rules) c.in-Some.ensures.0 there step in
    let states = seen_resettled c.self.inside.actors.items c.args.self.now.doings view c.in-Some.place
    c.in-Some.ensures.1 c.take.new.self c.settle.new.actors.items c.advance-led.result c.settle.ensures.kept in
    let steps = ap (λ n. c.self.inside.steps + n) c.counted.ensures.counted
    ∙ ap (λ (v : Seen). v.steps + counted_led c.advance-led.result) c.self.view_is in
    let same = same_seen c.advance-led.new.objects _ _ _ _ _ c.settle.new.tally _ refl states steps refl in
    moves_as w (Step c.args.actor c.args.now) _ _ _ _ c.settle.ensures.told same
    (tallied w (Step c.args.actor c.args.now) _ _ c.settle.new.tally goes)

pub settle-requires-clause-idle : goal.settle-requires-clause-idle
settle-requires-clause-idle c =
    let view = ap (λ (v : Seen). v.doings) c.self.view_is in
    taken_there c.self.inside.actors.items c.args.self.now.doings view c.in-Some.place c.in-Some.ensures.1
    c.index_mut.result.now c.index_mut.ensures.value c.take.new.self c.take.ensures.after

pub invariant_of-self-2 : goal.invariant_of-self-2
invariant_of-self-2 c =
    let d = c.in-Some-take.doing in
    let was = c.self.invariant.2 in
    let now = returns-clause-single c was.0 (subst (IsSeenAs was.0) c.self.view_is was.1) in
    let steps = ap (λ (v : Seen). v.steps) c.self.view_is in
    let up = counts_on c.self.inside.objects (doing_state d).state c.args.now c.advance-led.result
    c.advance-led.new.objects c.self.inside.steps
    c.advance-led.ensures c.self.invariant.1 in
    let least = c.counted.ensures.least in
    let responses = subst (λ r. messages_given r ≤ counted_led c.advance-led.result) (sym c.settle.ensures.told)
    (given_counted c.args.actor c.advance-led.result) in (
      omega arith,
      subst (λ n. CountsUpTo (c.self.inside.steps + n) c.advance-led.new.objects) (sym c.counted.ensures.counted) up,
      (now.0, now.2),
      omega (
        arith,
        c.self.invariant.3,
        responses,
        c.counted.ensures.counted,
        c.settle.ensures.written,
        c.settle.ensures.lost,
      ),
    )

pub returns-clause-written : goal.returns-clause-written
returns-clause-written c =
    c.settle.ensures.written ∙ ap (λ (v : Seen). v.tally.written + messages_given c.settle.result) c.self.view_is

pub returns-clause-lost : goal.returns-clause-lost
returns-clause-lost c = c.settle.ensures.lost ∙ ap (λ (v : Seen). v.tally.lost) c.self.view_is
