-- Each event, and each preset, leads from a sound world to some world. So each list of transitions
-- leads from each opening to some world. It leads to at most one world, so the list decides the run
-- (this project's profile).
use Rattle.std.specs.Prelude.{Bool, List}
use Rattle.sysv_core.specs.declared.event.Event.{Event}
use Rattle.sysv_core.specs.declared.event.Stepped.{Stepped}
use Rattle.sysv_core.specs.World.{World, Opening, Transition, Response, Presets, opening}
use Rattle.sysv_core.specs.Run.{Leads}
use Rattle.sysv_core.specs.Sound.{IsSound}
use Rattle.sysv_core.specs.Seen.{Steps}

-- Each event leads from a sound world to a sound world, with a result.
abbrev pub SomeStep : Type 0
SomeStep = (w : World) (event : Event) → IsSound w →
    (result : Stepped) × (after : World) × Steps w event result after × IsSound after

-- Each preset leads from a sound world to a sound world, with a result.
abbrev pub SomePreset : Type 0
SomePreset = (w : World) → IsSound w → (made : Bool) × (after : World) × Presets w made after × IsSound after

-- Each list of transitions leads from each opening to a world, with a list of endings.
abbrev pub SomeRun : Type 0
SomeRun =
    (o : Opening) (list : List Transition) →
    (responses : List Response) × (after : World) × Leads (opening o) list responses after
