-- A call comes to wait only by a refusal: by its last operation, or after a probe by its last two.
use Rattle.std.proofs.Common.{◌≡◌, ℕ, ℤ, ◌+◌, inl, inr, Bool, true, false, List, [], ◌∷◌, ◌++◌, Option, Some, None}
use Rattle.std.proofs.Common.{cond, length, refl, ap, subst, ◌∙◌, append_assoc}
use Rattle.sysv_model.specs.declared.cred.Cred.{Cred}
use Rattle.sysv_model.specs.declared.errno.Errno.{Errno}
use Rattle.sysv_model.specs.declared.errno.Errno.TheVariants.{EAGAIN, ENOMSG, EINVAL}
use Rattle.sysv_model.specs.History.{Call, Probe, Look, Place, Take, Reply, Installed, Gone, Full, NoMatch}
use Rattle.sysv_model.specs.Registry.{RegistryCall, Begin, RegistryReply, Found, Busy, Changed}
use Rattle.sysv_model.specs.Pool.{PoolCall, Reserve, PoolReply, TooFew, Released, Foreign}
use Rattle.sysv_model.specs.Turn.{OfSlot, OfRegistry, OfPool, Op, AtSlot, AtRegistry, AtPool, asked_by}
use Rattle.sysv_keys.specs.Identifier.{slot_of_id}
use Rattle.sysv_steps.specs.Call.{Kind, Sends, Receives, Sets, Removes, kind_of}
use Rattle.sysv_steps.specs.Call.{SystemCall, Msgget, Msgsnd, Msgrcv, MsgctlStat, MsgctlSet, MsgctlRmid}
use Rattle.sysv_steps.specs.State.{Getting, Sending, Receiving, Wait, OnSettled, OnFreed, OnReleased, OnArrived}
use Rattle.sysv_steps.specs.State.{Afterwards, IsRefused, WaitsOn, Phase, AtBegin, AtInstall, AtSettle, AtProbe}
use Rattle.sysv_steps.specs.State.{AtUnmake, AtLook, AtReserve, AtPlace, AtSendGiveback, AtTake, AtReceiveGiveback}
use Rattle.sysv_steps.specs.State.{AtStat, AtSet, AtSetGiveback, AtRemove, AtForget, AtRemoveGiveback, Ending, Zero}
use Rattle.sysv_steps.specs.State.{Got, Refused, State, Goes, Waits, Over}
use Rattle.sysv_steps.specs.Begin.{is_refused, first, begin}
use Rattle.sysv_steps.specs.Asks.{asks}
use Rattle.sysv_steps.specs.Next.{next, next_of_slot, next_of_registry, next_of_pool, after_begin, after_install}
use Rattle.sysv_steps.specs.Next.{after_settle, after_unmake, after_probe, waits_or, goes_on, is_full, after_look}
use Rattle.sysv_steps.specs.Next.{after_reserve, after_place, after_take, after_stat, after_set, after_remove}
use Rattle.sysv_steps.specs.Next.{after_forget, after_giveback}
use Rattle.sysv_steps.specs.Resume.{resume}
use Rattle.sysv_steps.specs.Played.{Plays, begins, steps, resumes}
use Rattle.sysv_steps.specs.WaitsFor.{EndsWith, IsLastAtSlot, WasFull, WaitsFor}
use Rattle.sysv_steps.specs.Answers.{is_at_slot}
use Rattle.sysv_steps.proofs.Among.{kept}

-- A send that releases its chain waits for room after that, if it waits at all.
abbrev LatelyAfter : List Op → Afterwards Sends → Type 0
LatelyAfter ops (IsRefused why) = Unit {0}
LatelyAfter ops (WaitsOn (OnFreed goal send)) = WaitsFor (OnFreed goal send) ops
LatelyAfter ops (WaitsOn wait) = ⊥

-- The last operations of a call that waits or is before a probe.
abbrev Lately : {kind : Kind} → List Op → State kind → Type 0
Lately ops (Goes (AtProbe get id settled)) =
    EndsWith (AtRegistry (Begin get.key get.flags) (Found id settled) ∷ []) ops
Lately ops (Goes (AtSendGiveback blocks afterwards)) = LatelyAfter ops afterwards
Lately ops (Goes phase) = Unit {0}
Lately ops (Waits wait) = WaitsFor wait ops
Lately ops (Over ending) = Unit {0}

abbrev LatelyIf : {kind : Kind} → List Op → Option (State kind) → Type 0
LatelyIf ops None = Unit {0}
LatelyIf ops (Some state) = Lately ops state

-- ---- one more operation

begin_step : (ops : List Op) (get : Getting) (reply : RegistryReply) →
    LatelyIf (ops ++ AtRegistry (Begin get.key get.flags) reply ∷ []) (after_begin get reply)
begin_step ops get (Found id settled) = (ops, refl)
begin_step ops get (Busy settled) = (settled, refl, inl (ops, refl))
begin_step ops get reply = tt

install_step : (ops : List Op) (id : ℤ) (reply : Reply) → LatelyIf ops (after_install id reply)
install_step ops id (Installed true) = tt
install_step ops id (Installed false) = tt
install_step ops id reply = tt

settle_step : (ops : List Op) (id : ℤ) (reply : RegistryReply) → LatelyIf ops (after_settle id reply)
settle_step ops id (Changed done) = tt
settle_step ops id reply = tt

unmake_step : (ops : List Op) (reply : RegistryReply) → LatelyIf ops (after_unmake reply)
unmake_step ops (Changed done) = tt
unmake_step ops reply = tt

probe_step : (ops : List Op) (get : Getting) (id : ℤ) (settled : ℕ) (reply : Reply) →
    EndsWith (AtRegistry (Begin get.key get.flags) (Found id settled) ∷ []) ops →
    LatelyIf (ops ++ AtSlot (slot_of_id id) (Probe id get.cred get.flags) reply ∷ [])
    (after_probe get id settled reply)
probe_step ops get id settled Gone h =
    let was : ops ++ AtSlot (slot_of_id id) (Probe id get.cred get.flags) Gone ∷ []
    ≡ h.0 ++ AtRegistry (Begin get.key get.flags) (Found id settled)
    ∷ AtSlot (slot_of_id id) (Probe id get.cred get.flags) Gone ∷ [] =
    ap (λ (ds : List Op). ds ++ AtSlot (slot_of_id id) (Probe id get.cred get.flags) Gone ∷ []) h.1
    ∙ append_assoc h.0 (AtRegistry (Begin get.key get.flags) (Found id settled) ∷ [])
    (AtSlot (slot_of_id id) (Probe id get.cred get.flags) Gone ∷ [])
    in (settled, refl, inr (id, (h.0, was)))
probe_step ops get id settled reply h = tt

waits_so : {kind : Kind} (ops : List Op) (nowait : Bool) (wait : Wait kind) (why : Errno) → WaitsFor wait ops →
    Lately ops (goes_on (waits_or nowait wait why))
waits_so ops true wait why h = tt
waits_so ops false wait why h = h

full_step : (ops : List Op) (send : Sending) (freed : ℕ) → WasFull send freed ops →
    Lately ops (goes_on (is_full send freed))
full_step ops send freed h =
    waits_so ops send.nowait (OnFreed (freed + 1) (record send { seen = true })) EAGAIN (freed, refl, h)

full_after : (ops : List Op) (send : Sending) (freed : ℕ) (nowait : Bool) → WasFull send freed ops →
    LatelyAfter ops (waits_or nowait (OnFreed (freed + 1) (record send { seen = true })) EAGAIN)
full_after ops send freed true h = tt
full_after ops send freed false h = (freed, refl, h)

look_step : (ops : List Op) (send : Sending) (reply : Reply) →
    LatelyIf (ops ++ AtSlot (slot_of_id send.id) (Look send.id send.cred (length send.text)) reply ∷ [])
    (after_look send reply)
look_step ops send (Full freed) =
    full_step (ops ++ AtSlot (slot_of_id send.id) (Look send.id send.cred (length send.text)) (Full freed) ∷ []) send
    freed (inl (ops, [], refl, refl))
look_step ops send reply = tt

place_step : (ops : List Op) (send : Sending) (blocks now : ℕ) (reply : Reply) →
    LatelyIf (ops ++ AtSlot (slot_of_id send.id) (Place send.id send.cred send.mtype send.text now) reply ∷ [])
    (after_place send blocks reply)
place_step ops send blocks now (Full freed) =
    full_after (ops ++ AtSlot (slot_of_id send.id) (Place send.id send.cred send.mtype send.text now) (Full freed)
    ∷ []) send freed send.nowait (inr (now, (ops, [], refl, refl)))
place_step ops send blocks now reply = tt

reserve_step : (ops : List Op) (send : Sending) (reply : PoolReply) →
    LatelyIf (ops ++ AtPool (Reserve (length send.text)) reply ∷ []) (after_reserve send reply)
reserve_step ops send TooFew =
    waits_so (ops ++ AtPool (Reserve (length send.text)) TooFew ∷ []) send.nowait
    (OnReleased (send.released + 1) send) EAGAIN (refl, (ops, refl))
reserve_step ops send reply = tt

-- The last operation at a slot still is the last one at a slot after an operation at the pool.
last_still : (op : Op) (ops : List Op) (call : PoolCall) (reply : PoolReply) → IsLastAtSlot op ops →
    IsLastAtSlot op (ops ++ AtPool call reply ∷ [])
last_still op ops call reply h = (
  h.0,
  h.1 ++ AtPool call reply ∷ [],
  ap (λ (ds : List Op). ds ++ AtPool call reply ∷ []) h.2 ∙ append_assoc h.0 (op ∷ h.1) (AtPool call reply ∷ []),
  kept is_at_slot h.1 (AtPool call reply) refl ∙ h.3,
)

full_still : (send : Sending) (freed : ℕ) (ops : List Op) (call : PoolCall) (reply : PoolReply) →
    WasFull send freed ops → WasFull send freed (ops ++ AtPool call reply ∷ [])
full_still send freed ops call reply (inl h) = inl (last_still _ ops call reply h)
full_still send freed ops call reply (inr h) = inr (h.0, last_still _ ops call reply h.1)

given_back : (ops : List Op) (afterwards : Afterwards Sends) (call : PoolCall) (reply : PoolReply) →
    LatelyAfter ops afterwards → Lately (ops ++ AtPool call reply ∷ []) (goes_on afterwards)
given_back ops (IsRefused why) call reply h = tt
given_back ops (WaitsOn (OnFreed goal send)) call reply h = (h.0, h.1, full_still send h.0 ops call reply h.2)
given_back ops (WaitsOn wait) call reply h = absurd h

send_giveback_step : (ops : List Op) (afterwards : Afterwards Sends) (call : PoolCall) (reply : PoolReply) →
    LatelyAfter ops afterwards →
    LatelyIf (ops ++ AtPool call reply ∷ []) (after_giveback (goes_on afterwards) reply)
send_giveback_step ops afterwards call Released h = given_back ops afterwards call Released h
send_giveback_step ops afterwards call Foreign h = given_back ops afterwards call Foreign h
send_giveback_step ops afterwards call reply h = tt

giveback_step : (kind : Kind) (ops : List Op) (ending : Ending) (reply : PoolReply) →
    LatelyIf {kind = kind} ops (after_giveback (Over ending) reply)
giveback_step kind ops ending Released = tt
giveback_step kind ops ending reply = tt

take_step : (ops : List Op) (receive : Receiving) (now : ℕ) (reply : Reply) →
    LatelyIf (ops
    ++ AtSlot (slot_of_id receive.id) (Take receive.id receive.cred receive.selector receive.size receive.noerror now)
    reply ∷ []) (after_take receive reply)
take_step ops receive now (NoMatch arrived) =
    waits_so (ops
    ++ AtSlot (slot_of_id receive.id) (Take receive.id receive.cred receive.selector receive.size receive.noerror now)
    (NoMatch arrived) ∷ [])
    receive.nowait (OnArrived (arrived + 1) (record receive { seen = true })) ENOMSG
    (arrived, refl, (now, (ops, [], refl, refl)))
take_step ops receive now reply = tt

stat_step : (ops : List Op) (reply : Reply) → LatelyIf ops (after_stat reply)
stat_step ops Gone = tt
stat_step ops reply = tt

set_step : (ops : List Op) (reply : Reply) → LatelyIf ops (after_set reply)
set_step ops Gone = tt
set_step ops reply = tt

remove_step : (ops : List Op) (id : ℤ) (reply : Reply) → LatelyIf ops (after_remove id reply)
remove_step ops id Gone = tt
remove_step ops id reply = tt

forget_step : (ops : List Op) (blocks : ℕ) (reply : RegistryReply) → LatelyIf ops (after_forget blocks reply)
forget_step ops blocks (Changed done) = tt
forget_step ops blocks reply = tt

-- The operation, by the request of the call at its step.
at_slot : {kind : Kind} (phase : Phase kind) (ops : List Op) (slot : ℕ) (call : Call) (reply : Reply) (now : ℕ) →
    Lately ops (Goes phase) → OfSlot slot call ≡ asks phase now →
    LatelyIf (ops ++ AtSlot slot call reply ∷ []) (next_of_slot phase reply)
at_slot (AtInstall get id) ops slot call reply now h is = install_step (ops ++ AtSlot slot call reply ∷ []) id reply
at_slot (AtProbe get id settled) ops slot call reply now h is =
    let s : slot_of_id id ≡ slot = cc in
    let c : Probe id get.cred get.flags ≡ call = cc in
    subst (λ (k : ℕ). LatelyIf (ops ++ AtSlot k call reply ∷ []) (after_probe get id settled reply)) s
    (subst (λ (k : Call). LatelyIf (ops ++ AtSlot (slot_of_id id) k reply ∷ []) (after_probe get id settled reply)) c
    (probe_step ops get id settled reply h))
at_slot (AtLook send) ops slot call reply now h is =
    let s : slot_of_id send.id ≡ slot = cc in
    let c : Look send.id send.cred (length send.text) ≡ call = cc in
    subst (λ (k : ℕ). LatelyIf (ops ++ AtSlot k call reply ∷ []) (after_look send reply)) s
    (subst (λ (k : Call). LatelyIf (ops ++ AtSlot (slot_of_id send.id) k reply ∷ []) (after_look send reply)) c
    (look_step ops send reply))
at_slot (AtPlace send blocks) ops slot call reply now h is =
    let s : slot_of_id send.id ≡ slot = cc in
    let c : Place send.id send.cred send.mtype send.text now ≡ call = cc in
    subst (λ (k : ℕ). LatelyIf (ops ++ AtSlot k call reply ∷ []) (after_place send blocks reply)) s
    (subst (λ (k : Call). LatelyIf (ops ++ AtSlot (slot_of_id send.id) k reply ∷ []) (after_place send blocks reply))
    c (place_step ops send blocks now reply))
at_slot (AtTake receive) ops slot call reply now h is =
    let s : slot_of_id receive.id ≡ slot = cc in
    let c : Take receive.id receive.cred receive.selector receive.size receive.noerror now ≡ call = cc in
    subst (λ (k : ℕ). LatelyIf (ops ++ AtSlot k call reply ∷ []) (after_take receive reply)) s
    (subst (λ (k : Call). LatelyIf (ops ++ AtSlot (slot_of_id receive.id) k reply ∷ []) (after_take receive reply)) c
    (take_step ops receive now reply))
at_slot (AtStat cred id) ops slot call reply now h is = stat_step (ops ++ AtSlot slot call reply ∷ []) reply
at_slot (AtSet cred id to) ops slot call reply now h is = set_step (ops ++ AtSlot slot call reply ∷ []) reply
at_slot (AtRemove cred id) ops slot call reply now h is = remove_step (ops ++ AtSlot slot call reply ∷ []) id reply
at_slot phase ops slot call reply now h is = tt

at_registry : {kind : Kind} (phase : Phase kind) (ops : List Op) (call : RegistryCall) (reply : RegistryReply)
    (now : ℕ) →
    Lately ops (Goes phase) → OfRegistry call ≡ asks phase now →
    LatelyIf (ops ++ AtRegistry call reply ∷ []) (next_of_registry phase reply)
at_registry (AtBegin get) ops call reply now h is =
    let c : Begin get.key get.flags ≡ call = cc in
    subst (λ (k : RegistryCall). LatelyIf (ops ++ AtRegistry k reply ∷ []) (after_begin get reply)) c
    (begin_step ops get reply)
at_registry (AtSettle id) ops call reply now h is = settle_step (ops ++ AtRegistry call reply ∷ []) id reply
at_registry (AtUnmake id) ops call reply now h is = unmake_step (ops ++ AtRegistry call reply ∷ []) reply
at_registry (AtForget id blocks) ops call reply now h is =
    forget_step (ops ++ AtRegistry call reply ∷ []) blocks reply
at_registry phase ops call reply now h is = tt

at_pool : {kind : Kind} (phase : Phase kind) (ops : List Op) (call : PoolCall) (reply : PoolReply) (now : ℕ) →
    Lately ops (Goes phase) → OfPool call ≡ asks phase now →
    LatelyIf (ops ++ AtPool call reply ∷ []) (next_of_pool phase reply)
at_pool (AtReserve send) ops call reply now h is =
    let c : Reserve (length send.text) ≡ call = cc in
    subst (λ (k : PoolCall). LatelyIf (ops ++ AtPool k reply ∷ []) (after_reserve send reply)) c
    (reserve_step ops send reply)
at_pool (AtSendGiveback blocks afterwards) ops call reply now h is = send_giveback_step ops afterwards call reply h
at_pool (AtReceiveGiveback blocks mtype text) ops call reply now h is =
    giveback_step Receives (ops ++ AtPool call reply ∷ []) (Got mtype text) reply
at_pool AtSetGiveback ops call reply now h is = giveback_step Sets (ops ++ AtPool call reply ∷ []) Zero reply
at_pool (AtRemoveGiveback blocks) ops call reply now h is =
    giveback_step Removes (ops ++ AtPool call reply ∷ []) Zero reply
at_pool phase ops call reply now h is = tt

one_more : {kind : Kind} (phase : Phase kind) (ops : List Op) (op : Op) (now : ℕ) → Lately ops (Goes phase) →
    asked_by op ≡ asks phase now → LatelyIf (ops ++ op ∷ []) (next phase op)
one_more phase ops (AtSlot slot call reply) now h is = at_slot phase ops slot call reply now h is
one_more phase ops (AtRegistry call reply) now h is = at_registry phase ops call reply now h is
one_more phase ops (AtPool call reply) now h is = at_pool phase ops call reply now h is

-- ---- along a play

started : (cred : Cred) (asked : SystemCall) (released : ℕ) (b : Bool) →
    Lately [] (cond b (Over (Refused EINVAL)) (Goes (first cred asked released)))
started cred asked released true = tt
started cred (Msgget key flags) released false = tt
started cred (Msgsnd id mtype flags text) released false = tt
started cred (Msgrcv id size mtype flags) released false = tt
started cred (MsgctlStat id) released false = tt
started cred (MsgctlSet id to) released false = tt
started cred (MsgctlRmid id) released false = tt

resumed : {kind : Kind} (ops : List Op) (wait : Wait kind) (value : ℕ) → Lately ops (Goes (resume wait value))
resumed ops (OnSettled goal get) value = tt
resumed ops wait value = tt

along : (cred : Cred) (asked : SystemCall) (released : ℕ) (ops : List Op) (state : State (kind_of asked)) →
    Plays (begin cred asked released) ops state → Lately ops state
along cred asked released _ _ begins = started cred asked released (is_refused asked)
along cred asked released _ _ (steps {ops} {phase} op now after p is n) =
    subst (LatelyIf (ops ++ op ∷ [])) n
    (one_more phase ops op now (along cred asked released ops (Goes phase) p) is)
along cred asked released _ _ (resumes {ops} {wait} value p least) = resumed ops wait value

pub each_waits : (cred : Cred) (asked : SystemCall) (released : ℕ) (ops : List Op) (wait : Wait (kind_of asked)) →
    Plays (begin cred asked released) ops (Waits wait) → WaitsFor wait ops
each_waits cred asked released ops wait p = along cred asked released ops (Waits wait) p
