-- Each run of a world without a preset is an execution: a start reads the released count of that
-- time, and a wait ends with the value of the count for which it waits. So the laws of an execution
-- demand no more than those of a run (this project's profile).
use Rattle.std.specs.Prelude.{List, All}
use Rattle.sysv_core.specs.World.{World, Transition, Preset, Response}
use Rattle.sysv_core.specs.Run.{Leads}
use Rattle.sysv_thread_laws.specs.Execution.{Moment, LeadsOnThreads}

-- The transition is the start of a call or a step of one.
abbrev pub IsOfCall : Transition → Type 0
IsOfCall Preset = ⊥
IsOfCall transition = Unit {0}

-- Each run without a preset is an execution, with the same endings and the same world.
abbrev pub EachRunIsAnExecution : Type 0
EachRunIsAnExecution =
    (w after : World) (list : List Transition) (responses : List Response) → All IsOfCall list →
    Leads w list responses after →
    (moments : List Moment) × LeadsOnThreads w moments responses after
