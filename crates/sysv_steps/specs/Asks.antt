-- What a call requests at a step, and of which object (this project's profile). The time in a
-- request is that of the step.
use Rattle.std.specs.Prelude.{ℕ, length}
use Rattle.sysv_model.specs.History.{Install, Probe, Look, Place, Take, ReadStat, Set, Remove}
use Rattle.sysv_model.specs.Registry.{Begin, Settle, Forget}
use Rattle.sysv_model.specs.Pool.{Reserve, Release}
use Rattle.sysv_model.specs.Turn.{Ask, OfSlot, OfRegistry, OfPool}
use Rattle.sysv_keys.specs.Identifier.{slot_of_id}
use Rattle.sysv_steps.specs.Call.{Kind}
use Rattle.sysv_steps.specs.State.{Phase, AtBegin, AtInstall, AtSettle, AtProbe, AtUnmake, AtLook, AtReserve, AtPlace}
use Rattle.sysv_steps.specs.State.{AtSendGiveback, AtTake, AtReceiveGiveback, AtStat, AtSet, AtSetGiveback, AtRemove}
use Rattle.sysv_steps.specs.State.{AtForget, AtRemoveGiveback}

-- The request of a call at this step, made at the time `now`.
abbrev pub asks : {kind : Kind} → Phase kind → ℕ → Ask
asks (AtBegin get) now = OfRegistry (Begin get.key get.flags)
asks (AtInstall get id) now = OfSlot (slot_of_id id) (Install id get.key get.cred get.flags.0 now)
asks (AtSettle id) now = OfRegistry (Settle id)
asks (AtProbe get id settled) now = OfSlot (slot_of_id id) (Probe id get.cred get.flags)
asks (AtUnmake id) now = OfRegistry (Forget id)
asks (AtLook send) now = OfSlot (slot_of_id send.id) (Look send.id send.cred (length send.text))
asks (AtReserve send) now = OfPool (Reserve (length send.text))
asks (AtPlace send blocks) now = OfSlot (slot_of_id send.id) (Place send.id send.cred send.mtype send.text now)
asks (AtSendGiveback blocks afterwards) now = OfPool (Release blocks)
asks (AtTake receive) now =
    OfSlot (slot_of_id receive.id) (Take receive.id receive.cred receive.selector receive.size receive.noerror now)
asks (AtReceiveGiveback blocks mtype text) now = OfPool (Release blocks)
asks (AtStat cred id) now = OfSlot (slot_of_id id) (ReadStat id cred)
asks (AtSet cred id to) now = OfSlot (slot_of_id id) (Set id cred to now)
asks AtSetGiveback now = OfPool (Release 0)
asks (AtRemove cred id) now = OfSlot (slot_of_id id) (Remove id cred)
asks (AtForget id blocks) now = OfRegistry (Forget id)
asks (AtRemoveGiveback blocks) now = OfPool (Release blocks)
