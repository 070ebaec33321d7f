use Rattle.std.proofs.Common.{◌≡◌, IsTrue, true, false, sym, ap, subst, ◌∙◌, rules}
use Rattle.sysv_objects.specs.Represents.{Represents}
use Rattle.sysv_core.specs.Seen.{Seen, IsSeenAs}
use Rattle.sysv_core.specs.Preset.{MakesPreset}
use Rattle.sysv_core.proofs.SoundStays.{vacant_there}
use Rattle.sysv_core.proofs.SeenSteps.{preset_unused, preset_used}
use Rattle.sysv_core.proofs.Runs.{stands_preset}
use Rattle.sysv_core.proofs.world.World.preset.Goals as goal

pub returns-then-not-is_unused-clause-single : goal.returns-then-not-is_unused-clause-single
returns-then-not-is_unused-clause-single c = λ w s.
    let stands : Represents w.generation w.turns c.self.inside.objects =
    subst (λ (v : Seen). Represents w.generation w.turns v.objects) (sym c.self.view_is) s.objects in
    let test = c.is_unused.ensures w.generation w.turns stands in
    preset_used w c.args.self.now s c.each_world_is_sound.ensures.stays
    (λ u. let bad : IsTrue false = subst IsTrue c.if-not-is_unused.true (test.1 u) in search rules)

pub returns-then-not-is_unused-clause-stands : goal.returns-then-not-is_unused-clause-stands
returns-then-not-is_unused-clause-stands c = λ o es responses s.
    stands_preset o es responses c.args.self.now c.args.self.now false s (returns-then-not-is_unused-clause-single c)

pub returns-clause-single : goal.returns-clause-single
returns-clause-single c = λ w s.
    let stands : Represents w.generation w.turns c.self.inside.objects =
    subst (λ (v : Seen). Represents w.generation w.turns v.objects) (sym c.self.view_is) s.objects in
    let test = c.is_unused.ensures w.generation w.turns stands in
    let yes : IsTrue c.is_unused.result = search rules in
    let makes = subst (λ (v : Seen). MakesPreset v.objects c.preset_queue.result c.preset_queue.new.objects)
    c.self.view_is c.preset_queue.ensures in
    let made = preset_unused w c.args.self.now s c.each_world_is_sound.ensures.stays c.unused_slots.ensures
    c.preset_queue.result c.preset_queue.new.objects (test.0 yes) makes in
    rw (
      ap (λ (v : Seen). v.doings) c.self.view_is,
      ap (λ (v : Seen). v.steps) c.self.view_is,
      ap (λ (v : Seen). v.tally) c.self.view_is,
    ) made

pub returns-clause-stands : goal.returns-clause-stands
returns-clause-stands c = λ o es responses s.
    stands_preset o es responses c.args.self.now _ c.preset_queue.result s (returns-clause-single c)

pub invariant_of-self : goal.invariant_of-self
invariant_of-self c =
    let w = c.self.invariant.2.0 in
    let s = subst (IsSeenAs w) c.self.view_is c.self.invariant.2.1 in
    let stands = c.self.invariant.2.1.objects in
    let yes : IsTrue c.is_unused.result = search rules in
    let unused = (c.is_unused.ensures w.generation w.turns stands).0 yes in
    let m = c.preset_queue.ensures w.generation w.turns stands unused
    (vacant_there c.unused_slots.ensures w s.sound unused) in
    let now = returns-clause-single c w s in
    (c.self.invariant.0, m.counts c.self.inside.steps c.self.invariant.1, (now.0, now.2), c.self.invariant.3)

pub returns-clause-refused : goal.returns-clause-refused
returns-clause-refused c = λ failed.
    let w = c.self.invariant.2.0 in
    let s = subst (IsSeenAs w) c.self.view_is c.self.invariant.2.1 in
    let stands = c.self.invariant.2.1.objects in
    let yes : IsTrue c.is_unused.result = search rules in
    let unused = (c.is_unused.ensures w.generation w.turns stands).0 yes in
    let m = c.preset_queue.ensures w.generation w.turns stands unused
    (vacant_there c.unused_slots.ensures w s.sound unused) in
    let bad : true ≡ false = sym m.made ∙ failed in
    cc
