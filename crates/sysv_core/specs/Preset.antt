-- What the code's preset makes of the objects (this project's profile), if slot 0 is unused and no
-- queue is live in it: they then represent the three more turns of the preset queue, the pool keeps
-- its size, and each bound of the counts remains one.
use Rattle.std.specs.Prelude.{◌≡◌, ℕ, Bool, true, List, None}
use Rattle.sysv_model.specs.Live.{live}
use Rattle.sysv_model.specs.Turn.{Turn, slot_history, registry_history}
use Rattle.sysv_keys.specs.Rows.{IsUnused}
use Rattle.sysv_objects.specs.Objects.{Objects, CountsUpTo}
use Rattle.sysv_objects.specs.Represents.{Represents}
use Rattle.sysv_core.specs.World.{with_preset_turns}

-- The preset queue was made by its three turns.
pub record PresetMade (generation : ℕ) (turns : List Turn) (old : Objects) (result : Bool)
    (new : Objects) : Type 0 where
  pub made : result ≡ true
  pub stands : Represents generation (with_preset_turns turns) new
  pub size : new.pool.size ≡ old.pool.size
  pub counts : (bound : ℕ) → CountsUpTo bound old → CountsUpTo bound new

-- For every list of turns for which the objects stood, if slot 0 was unused and without a live
-- queue.
abbrev pub MakesPreset : Objects → Bool → Objects → Type 0
MakesPreset old result new = (generation : ℕ) (turns : List Turn) → Represents generation turns old →
    IsUnused generation (registry_history turns) 0 →
    live (slot_history 0 turns) ≡ None → PresetMade generation turns old result new
