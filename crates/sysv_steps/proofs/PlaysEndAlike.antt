-- Two plays of the same operations lead to the same state, except for the released count that a
-- send has read, and for a wait that one of them has ended. So they end alike.
use Rattle.std.proofs.Common.{◌≡◌, ℕ, ◌+◌, Bool, true, false, List, [], ◌∷◌, ◌++◌, Option, Some, None, cond, refl, sym}
use Rattle.std.proofs.Common.{ap, ◌∙◌}
use Rattle.sysv_model.specs.declared.cred.Cred.{Cred}
use Rattle.sysv_model.specs.declared.errno.Errno.{Errno}
use Rattle.sysv_model.specs.declared.errno.Errno.TheVariants.{EAGAIN, EINVAL}
use Rattle.sysv_model.specs.History.{Reply, Full, Fits}
use Rattle.sysv_model.specs.Registry.{RegistryReply}
use Rattle.sysv_model.specs.Pool.{PoolReply, TooFew, Released, Foreign}
use Rattle.sysv_model.specs.Turn.{Op, AtSlot, AtRegistry, AtPool}
use Rattle.sysv_steps.specs.Call.{Kind, Sends}
use Rattle.sysv_steps.specs.Call.{SystemCall, Msgget, Msgsnd, Msgrcv, MsgctlStat, MsgctlSet, MsgctlRmid}
use Rattle.sysv_steps.specs.State.{Sending, Wait, OnSettled, OnFreed, OnReleased, OnArrived, Afterwards, IsRefused}
use Rattle.sysv_steps.specs.State.{WaitsOn, Phase, AtBegin, AtLook, AtReserve, AtPlace, AtSendGiveback, Ending, Refused}
use Rattle.sysv_steps.specs.State.{State, Goes, Waits, Over}
use Rattle.sysv_steps.specs.Begin.{is_refused, first, begin}
use Rattle.sysv_steps.specs.Next.{next, next_of_slot, next_of_registry, next_of_pool, after_look, after_reserve}
use Rattle.sysv_steps.specs.Next.{after_place, after_giveback, waits_or, goes_on, is_full}
use Rattle.sysv_steps.specs.Resume.{resume}
use Rattle.sysv_steps.specs.Played.{Plays, begins, steps, resumes}

-- ---- what decides: all but the released count

abbrev bare : Sending → Sending
bare send = record send { released = 0 }

abbrev bare_wait : {kind : Kind} → Wait kind → Wait kind
bare_wait (OnSettled goal get) = OnSettled goal get
bare_wait (OnFreed goal send) = OnFreed goal (bare send)
bare_wait (OnReleased goal send) = OnReleased 0 (bare send)
bare_wait (OnArrived goal receive) = OnArrived goal receive

abbrev bare_after : {kind : Kind} → Afterwards kind → Afterwards kind
bare_after (IsRefused why) = IsRefused why
bare_after (WaitsOn wait) = WaitsOn (bare_wait wait)

abbrev bare_phase : {kind : Kind} → Phase kind → Phase kind
bare_phase (AtLook send) = AtLook (bare send)
bare_phase (AtReserve send) = AtReserve (bare send)
bare_phase (AtPlace send blocks) = AtPlace (bare send) blocks
bare_phase (AtSendGiveback blocks afterwards) = AtSendGiveback blocks (bare_after afterwards)
bare_phase phase = phase

-- A call that waits counts as one at the step at which it continues.
abbrev core : {kind : Kind} → State kind → State kind
core (Goes phase) = Goes (bare_phase phase)
core (Waits wait) = Goes (bare_phase (resume wait 0))
core (Over ending) = Over ending

abbrev core_of : {kind : Kind} → Option (State kind) → Option (State kind)
core_of None = None
core_of (Some state) = Some (core state)

-- ---- the table on it

waits_alike : {kind : Kind} (nowait : Bool) (one other : Wait kind) (why : Errno) →
    core (Waits one) ≡ core (Waits other) →
    core (goes_on (waits_or nowait one why)) ≡ core (goes_on (waits_or nowait other why))
waits_alike true one other why e = refl
waits_alike false one other why e = e

after_alike : {kind : Kind} (nowait : Bool) (one other : Wait kind) (why : Errno) → bare_wait one ≡ bare_wait other →
    bare_after (waits_or nowait one why) ≡ bare_after (waits_or nowait other why)
after_alike true one other why e = refl
after_alike false one other why e = ap WaitsOn e

full_core : (send : Sending) (freed : ℕ) →
    core_of (Some (goes_on (is_full (bare send) freed))) ≡ core_of (Some (goes_on (is_full send freed)))
full_core send freed =
    ap Some
    (waits_alike send.nowait (OnFreed (freed + 1) (record (bare send) { seen = true }))
    (OnFreed (freed + 1) (record send { seen = true })) EAGAIN refl)

look_core : (send : Sending) (reply : Reply) → core_of (after_look (bare send) reply) ≡ core_of (after_look send reply)
look_core send (Full freed) = full_core send freed
look_core send Fits = refl
look_core send reply = refl

place_core : (send : Sending) (blocks : ℕ) (reply : Reply) →
    core_of (after_place (bare send) blocks reply) ≡ core_of (after_place send blocks reply)
place_core send blocks (Full freed) =
    ap (λ (a : Afterwards Sends). Some (Goes (AtSendGiveback blocks a)))
    (after_alike send.nowait (OnFreed (freed + 1) (record (bare send) { seen = true }))
    (OnFreed (freed + 1) (record send { seen = true })) EAGAIN refl)
place_core send blocks reply = refl

reserve_core : (send : Sending) (reply : PoolReply) →
    core_of (after_reserve (bare send) reply) ≡ core_of (after_reserve send reply)
reserve_core send TooFew =
    ap Some (waits_alike send.nowait (OnReleased 1 (bare send)) (OnReleased (send.released + 1) send) EAGAIN refl)
reserve_core send reply = refl

waits_core : {kind : Kind} (wait : Wait kind) →
    core (goes_on (bare_after (WaitsOn wait))) ≡ core (goes_on (WaitsOn wait))
waits_core (OnSettled goal get) = refl
waits_core wait = refl

giveback_core : {kind : Kind} (afterwards : Afterwards kind) (reply : PoolReply) →
    core_of (after_giveback (goes_on (bare_after afterwards)) reply)
    ≡ core_of (after_giveback (goes_on afterwards) reply)
giveback_core (IsRefused why) reply = refl
giveback_core (WaitsOn wait) Released = ap Some (waits_core wait)
giveback_core (WaitsOn wait) Foreign = ap Some (waits_core wait)
giveback_core (WaitsOn wait) reply = refl

of_slot : {kind : Kind} (phase : Phase kind) (reply : Reply) →
    core_of (next_of_slot (bare_phase phase) reply) ≡ core_of (next_of_slot phase reply)
of_slot (AtLook send) reply = look_core send reply
of_slot (AtPlace send blocks) reply = place_core send blocks reply
of_slot phase reply = refl

of_registry : {kind : Kind} (phase : Phase kind) (reply : RegistryReply) →
    core_of (next_of_registry (bare_phase phase) reply) ≡ core_of (next_of_registry phase reply)
of_registry (AtBegin get) reply = refl
of_registry phase reply = refl

of_pool : {kind : Kind} (phase : Phase kind) (reply : PoolReply) →
    core_of (next_of_pool (bare_phase phase) reply) ≡ core_of (next_of_pool phase reply)
of_pool (AtReserve send) reply = reserve_core send reply
of_pool (AtSendGiveback blocks afterwards) reply = giveback_core afterwards reply
of_pool phase reply = refl

of_op : {kind : Kind} (phase : Phase kind) (op : Op) → core_of (next (bare_phase phase) op) ≡ core_of (next phase op)
of_op phase (AtSlot slot call reply) = of_slot phase reply
of_op phase (AtRegistry call reply) = of_registry phase reply
of_op phase (AtPool call reply) = of_pool phase reply

resumed : {kind : Kind} (wait : Wait kind) (value : ℕ) → bare_phase (resume wait 0) ≡ bare_phase (resume wait value)
resumed (OnSettled goal get) value = refl
resumed (OnFreed goal send) value = refl
resumed (OnReleased goal send) value = refl
resumed (OnArrived goal receive) value = refl

-- ---- the table along operations

abbrev one_more : {kind : Kind} → Option (State kind) → Op → Option (State kind)
one_more (Some (Goes phase)) op = core_of (next phase op)
one_more state op = None

abbrev along : {kind : Kind} → Option (State kind) → List Op → Option (State kind)
along state [] = state
along state (op ∷ ops) = along (one_more state op) ops

along_more : {kind : Kind} (state : Option (State kind)) (ops : List Op) (op : Op) →
    along state (ops ++ op ∷ []) ≡ one_more (along state ops) op
along_more state [] op = refl
along_more state (d ∷ ops) op = along_more (one_more state d) ops op

leads : {kind : Kind} (from : State kind) (ops : List Op) (state : State kind) → Plays from ops state →
    along (Some (core from)) ops ≡ Some (core state)
leads from _ _ begins = refl
leads from _ _ (steps {ops} {phase} op now after p asked n) =
    along_more (Some (core from)) ops op
    ∙ (ap (λ s. one_more s op) (leads from ops (Goes phase) p) ∙ (of_op phase op ∙ ap core_of n))
leads from _ _ (resumes {ops} {wait} value p least) =
    leads from ops (Waits wait) p ∙ ap (λ ph. Some (Goes ph)) (resumed wait value)

-- ---- one beginning, and one end

begun_alike : (cred : Cred) (asked : SystemCall) (released later : ℕ) (refused : Bool) →
    core (cond refused (Over (Refused EINVAL)) (Goes (first cred asked released)))
    ≡ core (cond refused (Over (Refused EINVAL)) (Goes (first cred asked later)))
begun_alike cred asked released later true = refl
begun_alike cred (Msgget key flags) released later false = refl
begun_alike cred (Msgsnd id mtype flags text) released later false = refl
begun_alike cred (Msgrcv id size mtype flags) released later false = refl
begun_alike cred (MsgctlStat id) released later false = refl
begun_alike cred (MsgctlSet id to) released later false = refl
begun_alike cred (MsgctlRmid id) released later false = refl

-- The ending of a call that is over.
abbrev end_of : {kind : Kind} → Option (State kind) → Option Ending
end_of (Some (Over ending)) = Some ending
end_of state = None

pub one_end : (cred : Cred) (asked : SystemCall) (released later : ℕ) (ops : List Op) (one other : Ending) →
    Plays (begin cred asked released) ops (Over one) → Plays (begin cred asked later) ops (Over other) → one ≡ other
one_end cred asked released later ops one other p q =
    let here = leads (begin cred asked released) ops (Over one) p in
    let there = leads (begin cred asked later) ops (Over other) q in
    let alike = ap (λ s. along (Some s) ops) (begun_alike cred asked released later (is_refused asked)) in
    let same : Some one ≡ Some other = ap end_of (sym here ∙ (alike ∙ there)) in
    cc
