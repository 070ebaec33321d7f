-- An event, and a preset, leads from a world to at most one world, with one result. So a list of
-- transitions leads from a world to at most one world, with one list of endings: what happens in a
-- world decides what the world does (this project's profile).
use Rattle.std.specs.Prelude.{◌≡◌, Bool, List}
use Rattle.sysv_core.specs.declared.event.Event.{Event}
use Rattle.sysv_core.specs.declared.event.Stepped.{Stepped}
use Rattle.sysv_core.specs.World.{World, Transition, Response, Presets}
use Rattle.sysv_core.specs.Run.{Leads}
use Rattle.sysv_core.specs.Sound.{IsSound}
use Rattle.sysv_core.specs.Seen.{Steps}

-- An event leads from a sound world to at most one world, with one result.
abbrev pub OneStep : Type 0
OneStep = (w after other : World) (event : Event) (result responses : Stepped) → IsSound w →
    Steps w event result after → Steps w event responses other → (result ≡ responses) × (after ≡ other)

-- A preset leads from a world to at most one world, with one result.
abbrev pub OnePreset : Type 0
OnePreset = (w after other : World) (made did : Bool) → Presets w made after → Presets w did other →
    (made ≡ did) × (after ≡ other)

-- A list of transitions leads from a sound world to at most one world, with one list of endings.
abbrev pub OneRun : Type 0
OneRun = (w after other : World) (list : List Transition) (responses told : List Response) → IsSound w →
    Leads w list responses after → Leads w list told other → (responses ≡ told) × (after ≡ other)
