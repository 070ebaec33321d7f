-- The names of calls, and of the steps before which they are, in a script (this project's script
-- language).
use Rattle.std.specs.Prelude.{ℕ, List, ◌++◌, Option, Some, None, codes}
use Rattle.std.specs.Fmt.{decimal}
use Rattle.sysv_script.specs.declared.names.Operation.{Operation}
use Rattle.sysv_script.specs.declared.names.Operation.TheVariants.{Get, Send, Receive, Stat as OfStat, Set as OfSet}
use Rattle.sysv_script.specs.declared.names.Operation.TheVariants.{Remove as OfRemove}
use Rattle.sysv_script.specs.Heads.{operation_name}
use Rattle.sysv_steps.specs.Call.{SystemCall, Kind, Gets, Sends, Receives, Stats, Sets, Removes, kind_of}
use Rattle.sysv_steps.specs.State.{Phase, AtBegin, AtInstall, AtSettle}
use Rattle.sysv_steps.specs.State.{AtProbe, AtUnmake, AtLook, AtReserve, AtPlace, AtSendGiveback, AtTake}
use Rattle.sysv_steps.specs.State.{AtReceiveGiveback, AtStat, AtSet, AtSetGiveback, AtRemove, AtForget}
use Rattle.sysv_steps.specs.State.{AtRemoveGiveback, State, Goes, Waits, Over}

-- The name of a kind of calls.
abbrev pub operation_as : Kind → Operation
operation_as Gets = Get
operation_as Sends = Send
operation_as Receives = Receive
operation_as Stats = OfStat
operation_as Sets = OfSet
operation_as Removes = OfRemove

-- The kind of a call, by its arguments.
abbrev pub operation_of : SystemCall → Operation
operation_of asked = operation_as (kind_of asked)

-- The name of the step.
abbrev pub step_in : {kind : Kind} → Phase kind → List ℕ
step_in (AtBegin get) = codes "begin"
step_in (AtInstall get id) = codes "install"
step_in (AtSettle id) = codes "settle"
step_in (AtProbe get id settled) = codes "probe"
step_in (AtUnmake id) = codes "forget"
step_in (AtLook send) = codes "look"
step_in (AtReserve send) = codes "reserve"
step_in (AtPlace send blocks) = codes "place"
step_in (AtSendGiveback blocks afterwards) = codes "giveback"
step_in (AtTake receive) = codes "take"
step_in (AtReceiveGiveback blocks mtype text) = codes "giveback"
step_in (AtStat cred id) = codes "stat"
step_in (AtSet cred id to) = codes "set"
step_in AtSetGiveback = codes "giveback"
step_in (AtRemove cred id) = codes "remove"
step_in (AtForget id blocks) = codes "forget"
step_in (AtRemoveGiveback blocks) = codes "giveback"

-- The name of the step before which a call is: none if it waits or is over.
abbrev pub step_now : {kind : Kind} → State kind → Option (List ℕ)
step_now (Goes phase) = Some (step_in phase)
step_now (Waits wait) = None
step_now (Over ending) = None

-- The line for an actor whose call is in this state.
abbrev pub standing_text : {kind : Kind} → ℕ → State kind → List ℕ
standing_text {kind} actor (Goes phase) =
    decimal actor ++ codes " " ++ operation_name (operation_as kind) ++ codes " at " ++ step_in phase
standing_text {kind} actor (Waits wait) =
    decimal actor ++ codes " " ++ operation_name (operation_as kind) ++ codes " waits"
standing_text actor (Over ending) = decimal actor ++ codes " idle"
