use Rattle.sysv_core.proofs.SoundStays.{opening_sound, makes_sound}
use Rattle.sysv_core.proofs.laws.each_world_is_sound.Goals as goal

pub returns : goal.returns
returns c = record {
  opens = λ o. opening_sound o (c.legal_turns.ensures.none o.generation o.blocks);
  stays = makes_sound c.legal_turns.ensures.more (record {
    kept = c.blocks_kept.ensures.turn;
    law = c.pool_law.ensures;
    step = c.each_holds_its_blocks.ensures.step;
  }) c.unused_slots.ensures;
}
