-- The step table: the state of a call after a step, by the reply (POSIX.1-2017, msgget, msgsnd,
-- msgrcv and msgctl, each ERRORS; the steps are this project's profile). A row is a phase and a
-- reply. If the request of a phase cannot have a reply, the table has no row for it, and there is
-- no next state.
use Rattle.std.specs.Prelude.{ℕ, ℤ, ◌+◌, ◌&&◌, Bool, true, false, length, take, Option, Some, None, if◌then◌else◌}
use Rattle.sysv_model.specs.declared.errno.Errno.{Errno}
use Rattle.sysv_model.specs.declared.errno.Errno.TheVariants.{EACCES, EAGAIN, EEXIST, EIDRM, EINVAL, ENOMSG, ENOSPC}
use Rattle.sysv_model.specs.declared.errno.Errno.TheVariants.{E2BIG}
use Rattle.sysv_model.specs.declared.flags.Flags.{Flags}
use Rattle.sysv_model.specs.declared.flags.TheConstants.Flags.{IPC_CREAT, IPC_EXCL}
use Rattle.sysv_model.specs.HasFlag.{has_flag}
use Rattle.sysv_model.specs.History.{Reply, Installed, Gone, Denied, Granted, Full, Fits, Accepted, NoMatch, TooLong}
use Rattle.sysv_model.specs.History.{Taken, Told as TellsStat, Done, Discarded, Refused as IsRefusedFor}
use Rattle.sysv_model.specs.Registry.{RegistryReply, Found, Made, Busy, Unbound, Changed}
use Rattle.sysv_model.specs.Pool.{PoolReply, Reserved, TooFew, Released, Foreign, blocks_for}
use Rattle.sysv_model.specs.Turn.{Op, AtSlot, AtRegistry, AtPool}
use Rattle.sysv_queue.specs.Blocks.{blocks_of}
use Rattle.sysv_steps.specs.Call.{Kind, Gets, Sends, Receives, Stats, Sets, Removes}
use Rattle.sysv_steps.specs.State.{Getting, Sending, Receiving, Wait, OnSettled, OnFreed, OnReleased, OnArrived}
use Rattle.sysv_steps.specs.State.{Afterwards, IsRefused, WaitsOn, Phase, AtBegin, AtInstall, AtSettle, AtProbe}
use Rattle.sysv_steps.specs.State.{AtUnmake, AtLook, AtReserve, AtPlace, AtSendGiveback, AtTake, AtReceiveGiveback}
use Rattle.sysv_steps.specs.State.{AtStat, AtSet, AtSetGiveback, AtRemove, AtForget, AtRemoveGiveback, Id, Zero, Got}
use Rattle.sysv_steps.specs.State.{Told, Refused, State, Goes, Waits, Over}

-- ---- msgget

-- The flags require a queue that this call itself makes: they have both IPC_CREAT and IPC_EXCL.
abbrev pub wants_new : Flags → Bool
wants_new flags = has_flag IPC_CREAT flags && has_flag IPC_EXCL flags

-- After the registry was asked for the queue of the key.
abbrev pub after_begin : Getting → RegistryReply → Option (State Gets)
after_begin get (Found id settled) = Some (Goes (AtProbe get id settled))
after_begin get (Made id) = Some (Goes (AtInstall get id))
after_begin get (Busy settled) = Some (Waits (OnSettled (settled + 1) get))
after_begin get (Unbound why) = Some (Over (Refused why))
after_begin get (Changed done) = None

-- After the install of the new queue. If the slot is occupied, the call gives the identifier up; no
-- run of a world reaches this.
abbrev pub after_install : ℤ → Reply → Option (State Gets)
after_install id (Installed true) = Some (Goes (AtSettle id))
after_install id (Installed false) = Some (Goes (AtUnmake id))
after_install id reply = None

-- After the settle. If it changed nothing, a removal came first; the result is the same.
abbrev pub after_settle : ℤ → RegistryReply → Option (State Gets)
after_settle id (Changed done) = Some (Over (Id id))
after_settle id reply = None

-- After the identifier of an occupied slot was given up.
abbrev pub after_unmake : RegistryReply → Option (State Gets)
after_unmake (Changed done) = Some (Over (Refused ENOSPC))
after_unmake reply = None

-- After the probe of the queue that the registry found. A live queue is not new, whether or not
-- permission is granted.
abbrev pub after_probe : Getting → ℤ → ℕ → Reply → Option (State Gets)
after_probe get id settled Gone = Some (Waits (OnSettled (settled + 1) get))
after_probe get id settled Denied = Some (Over (Refused (if wants_new get.flags then EEXIST else EACCES)))
after_probe get id settled Granted = Some (Over (if wants_new get.flags then Refused EEXIST else Id id))
after_probe get id settled reply = None

-- ---- msgsnd and msgrcv

-- The error for an identifier that is not live: EIDRM if the call had found it live before, else
-- EINVAL.
abbrev pub gone : Bool → Errno
gone seen = if seen then EIDRM else EINVAL

-- What a call does that cannot continue: it fails with this error if it does not wait, else it
-- waits.
abbrev pub waits_or : {kind : Kind} → Bool → Wait kind → Errno → Afterwards kind
waits_or nowait wait why = if nowait then IsRefused why else WaitsOn wait

-- The state of a call that does this.
abbrev pub goes_on : {kind : Kind} → Afterwards kind → State kind
goes_on (IsRefused why) = Over (Refused why)
goes_on (WaitsOn wait) = Waits wait

-- What a send does if the queue has no room: EAGAIN, or a wait for the freed count.
abbrev pub is_full : Sending → ℕ → Afterwards Sends
is_full send freed = waits_or send.nowait (OnFreed (freed + 1) (record send { seen = true })) EAGAIN

-- After the look of a send.
abbrev pub after_look : Sending → Reply → Option (State Sends)
after_look send Gone = Some (Over (Refused (gone send.seen)))
after_look send Denied = Some (Over (Refused EACCES))
after_look send (Full freed) = Some (goes_on (is_full send freed))
after_look send Fits = Some (Goes (AtReserve (record send { seen = true })))
after_look send reply = None

-- After the reservation of blocks for a send.
abbrev pub after_reserve : Sending → PoolReply → Option (State Sends)
after_reserve send (Reserved blocks) = Some (Goes (AtPlace send blocks))
after_reserve send TooFew = Some (goes_on (waits_or send.nowait (OnReleased (send.released + 1) send) EAGAIN))
after_reserve send reply = None

-- A refused send releases its chain first.
abbrev pub gives_back : ℕ → Afterwards Sends → State Sends
gives_back blocks afterwards = Goes (AtSendGiveback blocks afterwards)

-- After the place of a send.
abbrev pub after_place : Sending → ℕ → Reply → Option (State Sends)
after_place send blocks Gone = Some (gives_back blocks (IsRefused (gone send.seen)))
after_place send blocks Denied = Some (gives_back blocks (IsRefused EACCES))
after_place send blocks (Full freed) = Some (gives_back blocks (is_full send freed))
after_place send blocks (Accepted number) = Some (Over Zero)
after_place send blocks reply = None

-- After the take of a receive. A receive returns at most the requested number of bytes, and it
-- releases the message's chain first.
abbrev pub after_take : Receiving → Reply → Option (State Receives)
after_take receive Gone = Some (Over (Refused (gone receive.seen)))
after_take receive Denied = Some (Over (Refused EACCES))
after_take receive (NoMatch arrived) =
    Some (goes_on (waits_or receive.nowait (OnArrived (arrived + 1) (record receive { seen = true })) ENOMSG))
after_take receive TooLong = Some (Over (Refused E2BIG))
after_take receive (Taken message) =
    Some (Goes (AtReceiveGiveback (blocks_for (length message.bytes)) message.mtype (take receive.size message.bytes)))
after_take receive reply = None

-- ---- msgctl

-- After the attributes were requested.
abbrev pub after_stat : Reply → Option (State Stats)
after_stat (TellsStat stat) = Some (Over (Told stat))
after_stat (IsRefusedFor why) = Some (Over (Refused why))
after_stat reply = None

-- After the attributes were to be changed. A change counts at the pool as a release, so that
-- waiting sends look again.
abbrev pub after_set : Reply → Option (State Sets)
after_set Done = Some (Goes AtSetGiveback)
after_set (IsRefusedFor why) = Some (Over (Refused why))
after_set reply = None

-- After the removal. The row is forgotten in a separate step; until then the call holds what it
-- discarded.
abbrev pub after_remove : ℤ → Reply → Option (State Removes)
after_remove id (Discarded messages) = Some (Goes (AtForget id (blocks_of messages)))
after_remove id (IsRefusedFor why) = Some (Over (Refused why))
after_remove id reply = None

-- After the identifier of the removed queue was forgotten.
abbrev pub after_forget : ℕ → RegistryReply → Option (State Removes)
after_forget blocks (Changed done) = Some (Goes (AtRemoveGiveback blocks))
after_forget blocks reply = None

-- ---- the pool

-- After the release of a chain. A chain that was refused as foreign changes nothing for the call.
abbrev pub after_giveback : {kind : Kind} → State kind → PoolReply → Option (State kind)
after_giveback follow Released = Some follow
after_giveback follow Foreign = Some follow
after_giveback follow reply = None

-- ---- the table, object by object

-- The rows of the steps at a slot.
abbrev pub next_of_slot : {kind : Kind} → Phase kind → Reply → Option (State kind)
next_of_slot (AtInstall get id) reply = after_install id reply
next_of_slot (AtProbe get id settled) reply = after_probe get id settled reply
next_of_slot (AtLook send) reply = after_look send reply
next_of_slot (AtPlace send blocks) reply = after_place send blocks reply
next_of_slot (AtTake receive) reply = after_take receive reply
next_of_slot (AtStat cred id) reply = after_stat reply
next_of_slot (AtSet cred id to) reply = after_set reply
next_of_slot (AtRemove cred id) reply = after_remove id reply
next_of_slot phase reply = None

-- The rows of the steps at the registry.
abbrev pub next_of_registry : {kind : Kind} → Phase kind → RegistryReply → Option (State kind)
next_of_registry (AtBegin get) reply = after_begin get reply
next_of_registry (AtSettle id) reply = after_settle id reply
next_of_registry (AtUnmake id) reply = after_unmake reply
next_of_registry (AtForget id blocks) reply = after_forget blocks reply
next_of_registry phase reply = None

-- The rows of the steps at the pool.
abbrev pub next_of_pool : {kind : Kind} → Phase kind → PoolReply → Option (State kind)
next_of_pool (AtReserve send) reply = after_reserve send reply
next_of_pool (AtSendGiveback blocks afterwards) reply = after_giveback (goes_on afterwards) reply
next_of_pool (AtReceiveGiveback blocks mtype text) reply = after_giveback (Over (Got mtype text)) reply
next_of_pool AtSetGiveback reply = after_giveback (Over Zero) reply
next_of_pool (AtRemoveGiveback blocks) reply = after_giveback (Over Zero) reply
next_of_pool phase reply = None

-- The whole table: the state of a call after this operation, if the operation has a row in this
-- phase.
abbrev pub next : {kind : Kind} → Phase kind → Op → Option (State kind)
next phase (AtSlot slot call reply) = next_of_slot phase reply
next phase (AtRegistry call reply) = next_of_registry phase reply
next phase (AtPool call reply) = next_of_pool phase reply
