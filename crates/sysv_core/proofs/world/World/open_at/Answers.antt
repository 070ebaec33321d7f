use Rattle.std.proofs.Common.{None, sym, ap, ◌∙◌, refl, arith}
use Rattle.sysv_queue.specs.Tally.{Tallied}
use Rattle.sysv_core.specs.Kept.{state_kept, states_kept}
use Rattle.sysv_core.specs.Seen.{state_in}
use Rattle.sysv_core.specs.World.{Opening, opening}
use Rattle.sysv_core.proofs.Lists.{map-replicate}
use Rattle.sysv_core.proofs.KeptActors.{weaker}
use Rattle.sysv_core.proofs.SoundStays.{opening_sound}
use Rattle.sysv_core.proofs.world.World.open_at.Goals as goal

pub returns-in-Ok-clause-opened : goal.returns-in-Ok-clause-opened
returns-in-Ok-clause-opened c =
    let o : Opening = record {
      actors = c.args.actors;
      blocks = c.args.blocks;
      first = c.args.first_step;
      generation = c.args.generation;
    } in
    record {
      world = opening o;
      led = (refl, refl);
      sight = record {
        objects = c.in-Ok.ensures.stands;
        states = map-replicate state_in c.args.actors None
            ∙ sym (ap states_kept c.in_ok-actors.ensures ∙ map-replicate state_kept c.args.actors None);
        sound = opening_sound o (c.legal_turns.ensures.none c.args.generation c.args.blocks);
        steps = refl;
        blocks = sym c.in-Ok.ensures.size;
      };
    }

pub invariant_of-result : goal.invariant_of-result
invariant_of-result c =
    let opened = returns-in-Ok-clause-opened c in
    let written = ap (λ (t : Tallied). t.written) c.open.ensures in
    let lost = ap (λ (t : Tallied). t.lost) c.open.ensures in (
      omega arith,
      weaker 0 c.args.first_step c.in-Ok.objects (omega arith) c.in-Ok.ensures.counts,
      (opened.world, opened.sight),
      omega (arith, written, lost),
    )
