-- What a call holds after one more operation is what it held, with what it received and without
-- what left it.
use Rattle.std.proofs.Common.{◌≡◌, ℕ, ℤ, ◌+◌, Bool, true, false, List, [], ◌∷◌, ◌++◌, Option, Some, None, cond, length}
use Rattle.std.proofs.Common.{refl, sym, subst, arith}
use Rattle.std.specs.List.{Contains}
use Rattle.std.proofs.lemmas.List.Elements.{Contains-append_left, Contains-push}
use Rattle.std.proofs.lemmas.List.Sums.{sum_by-append}
use Rattle.sysv_model.specs.declared.cred.Cred.{Cred}
use Rattle.sysv_model.specs.declared.errno.Errno.TheVariants.{EINVAL, EAGAIN, ENOMSG}
use Rattle.sysv_model.specs.History.{Call, Place, Reply, Installed, Gone, Full, Fits, Accepted, NoMatch, Taken}
use Rattle.sysv_model.specs.History.{Discarded}
use Rattle.sysv_model.specs.Registry.{RegistryReply, Changed}
use Rattle.sysv_model.specs.Pool.{blocks_for, PoolCall, Reserve, Release, PoolReply, Reserved, TooFew, Released}
use Rattle.sysv_model.specs.Pool.{Foreign}
use Rattle.sysv_model.specs.Turn.{OfSlot, OfPool, Op, AtSlot, AtRegistry, AtPool, asked_by}
use Rattle.sysv_steps.specs.Call.{Kind, Receives, Sets, Removes, kind_of}
use Rattle.sysv_steps.specs.Call.{SystemCall, Msgget, Msgsnd, Msgrcv, MsgctlStat, MsgctlSet, MsgctlRmid}
use Rattle.sysv_steps.specs.State.{Getting, Sending, Receiving, Wait, OnSettled, OnFreed, OnReleased, OnArrived}
use Rattle.sysv_steps.specs.State.{Afterwards, IsRefused, WaitsOn, Phase, AtBegin, AtInstall, AtSettle, AtProbe}
use Rattle.sysv_steps.specs.State.{AtUnmake, AtLook, AtReserve, AtPlace, AtSendGiveback, AtTake, AtReceiveGiveback}
use Rattle.sysv_steps.specs.State.{AtStat, AtSet, AtSetGiveback, AtRemove, AtForget, AtRemoveGiveback, Ending, Refused}
use Rattle.sysv_steps.specs.State.{State, Goes, Waits, Over}
use Rattle.sysv_steps.specs.Begin.{is_refused, first, begin}
use Rattle.sysv_steps.specs.Asks.{asks}
use Rattle.sysv_steps.specs.Next.{next, next_of_slot, next_of_registry, next_of_pool, after_begin, after_install}
use Rattle.sysv_steps.specs.Next.{after_settle, after_unmake, after_probe, waits_or, goes_on, is_full, after_look}
use Rattle.sysv_steps.specs.Next.{after_reserve, after_place, after_take, after_stat, after_set, after_remove}
use Rattle.sysv_steps.specs.Next.{after_forget, after_giveback}
use Rattle.sysv_steps.specs.Resume.{resume}
use Rattle.sysv_steps.specs.Played.{Plays, begins, steps, resumes}
use Rattle.sysv_steps.specs.HeldBlocks.{held, given_by, left_by, HasItsBlocks, GivesWhatIsAsked, HoldsItsBlocks}

-- ---- one row of the table

record IsKept {kind : Kind} (had : ℕ) (op : Op) (after : State kind) : Type 0 where
  balance : held after + left_by op ≡ had + given_by op
  at_place : HasItsBlocks after

abbrev IsKeptIf : {kind : Kind} → ℕ → Op → Option (State kind) → Type 0
IsKeptIf had op None = Unit {0}
IsKeptIf had op (Some after) = IsKept had op after

-- A call that waits or is over holds nothing.
holds_none : {kind : Kind} (had : ℕ) (op : Op) (afterwards : Afterwards kind) → left_by op ≡ had + given_by op →
    IsKept had op (goes_on afterwards)
holds_none had op (IsRefused why) e = record { balance = omega (arith, e); at_place = tt }
holds_none had op (WaitsOn wait) e = record { balance = omega (arith, e); at_place = tt }

begin_row : (get : Getting) (op : Op) (reply : RegistryReply) → left_by op ≡ given_by op →
    IsKeptIf 0 op (after_begin get reply)
begin_row get op (Changed done) e = tt
begin_row get op reply e = record { balance = omega (arith, e); at_place = tt }

install_row : (id : ℤ) (slot : ℕ) (call : Call) (reply : Reply) →
    IsKeptIf 0 (AtSlot slot call reply) (after_install id reply)
install_row id slot call (Installed true) = record { balance = refl; at_place = tt }
install_row id slot call (Installed false) = record { balance = refl; at_place = tt }
install_row id slot call reply = tt

settle_row : (id : ℤ) (op : Op) (reply : RegistryReply) → left_by op ≡ given_by op →
    IsKeptIf 0 op (after_settle id reply)
settle_row id op (Changed done) e = record { balance = omega (arith, e); at_place = tt }
settle_row id op reply e = tt

unmake_row : (op : Op) (reply : RegistryReply) → left_by op ≡ given_by op → IsKeptIf 0 op (after_unmake reply)
unmake_row op (Changed done) e = record { balance = omega (arith, e); at_place = tt }
unmake_row op reply e = tt

probe_row : (get : Getting) (id : ℤ) (settled slot : ℕ) (call : Call) (reply : Reply) →
    IsKeptIf 0 (AtSlot slot call reply) (after_probe get id settled reply)
probe_row get id settled slot call Gone = record { balance = refl; at_place = tt }
probe_row get id settled slot call reply = search

look_row : (send : Sending) (slot : ℕ) (call : Call) (reply : Reply) →
    IsKeptIf 0 (AtSlot slot call reply) (after_look send reply)
look_row send slot call (Full freed) = holds_none 0 (AtSlot slot call (Full freed)) (is_full send freed) refl
look_row send slot call Fits = record { balance = refl; at_place = tt }
look_row send slot call reply = search

reserve_row : (send : Sending) (reply : PoolReply) →
    ((blocks : ℕ) → reply ≡ Reserved blocks → blocks ≡ blocks_for (length send.text)) →
    IsKeptIf 0 (AtPool (Reserve (length send.text)) reply) (after_reserve send reply)
reserve_row send (Reserved blocks) h = record { balance = omega arith; at_place = h blocks refl }
reserve_row send TooFew h = holds_none 0 (AtPool (Reserve (length send.text)) TooFew)
    (waits_or send.nowait (OnReleased (send.released + 1) send) EAGAIN) refl
reserve_row send reply h = tt

place_row : (send : Sending) (blocks slot now : ℕ) (reply : Reply) → blocks ≡ blocks_for (length send.text) →
    IsKeptIf blocks (AtSlot slot (Place send.id send.cred send.mtype send.text now) reply)
    (after_place send blocks reply)
place_row send blocks slot now (Accepted number) h = record { balance = omega (arith, h); at_place = tt }
place_row send blocks slot now (Full freed) h = record { balance = refl; at_place = tt }
place_row send blocks slot now reply h = search

take_row : (receive : Receiving) (slot : ℕ) (call : Call) (reply : Reply) →
    IsKeptIf 0 (AtSlot slot call reply) (after_take receive reply)
take_row receive slot call (NoMatch arrived) =
    holds_none 0 (AtSlot slot call (NoMatch arrived))
    (waits_or receive.nowait (OnArrived (arrived + 1) (record receive { seen = true })) ENOMSG) refl
take_row receive slot call (Taken message) = record { balance = omega arith; at_place = tt }
take_row receive slot call reply = search

stat_row : (slot : ℕ) (call : Call) (reply : Reply) → IsKeptIf 0 (AtSlot slot call reply) (after_stat reply)
stat_row slot call Gone = tt
stat_row slot call reply = search

set_row : (slot : ℕ) (call : Call) (reply : Reply) → IsKeptIf 0 (AtSlot slot call reply) (after_set reply)
set_row slot call Gone = tt
set_row slot call reply = search

remove_row : (id : ℤ) (slot : ℕ) (call : Call) (reply : Reply) →
    IsKeptIf 0 (AtSlot slot call reply) (after_remove id reply)
remove_row id slot call (Discarded messages) = record { balance = omega arith; at_place = tt }
remove_row id slot call reply = search

forget_row : (blocks : ℕ) (op : Op) (reply : RegistryReply) → left_by op ≡ given_by op → given_by op ≡ 0 →
    IsKeptIf blocks op (after_forget blocks reply)
forget_row blocks op (Changed done) e z = record { balance = omega (arith, e, z); at_place = tt }
forget_row blocks op reply e z = tt

giveback_row : {kind : Kind} (blocks : ℕ) (afterwards : Afterwards kind) (reply : PoolReply) →
    IsKeptIf blocks (AtPool (Release blocks) reply) (after_giveback (goes_on afterwards) reply)
giveback_row blocks afterwards Released = holds_none blocks (AtPool (Release blocks) Released) afterwards (omega arith)
giveback_row blocks afterwards Foreign = holds_none blocks (AtPool (Release blocks) Foreign) afterwards (omega arith)
giveback_row blocks afterwards reply = tt

last_giveback_row : (kind : Kind) (blocks : ℕ) (ending : Ending) (reply : PoolReply) →
    IsKeptIf {kind = kind} blocks (AtPool (Release blocks) reply) (after_giveback (Over ending) reply)
last_giveback_row kind blocks ending Released = record { balance = omega arith; at_place = tt }
last_giveback_row kind blocks ending Foreign = record { balance = omega arith; at_place = tt }
last_giveback_row kind blocks ending reply = tt

-- ---- the table, by what the call asks there

at_slot : {kind : Kind} (phase : Phase kind) (slot : ℕ) (call : Call) (reply : Reply) (now : ℕ) →
    HasItsBlocks (Goes phase) →
    OfSlot slot call ≡ asks phase now → IsKeptIf (held (Goes phase)) (AtSlot slot call reply) (next_of_slot phase reply)
at_slot (AtInstall get id) slot call reply now h is = install_row id slot call reply
at_slot (AtProbe get id settled) slot call reply now h is = probe_row get id settled slot call reply
at_slot (AtLook send) slot call reply now h is = look_row send slot call reply
at_slot (AtPlace send blocks) slot call reply now h is =
    let c : Place send.id send.cred send.mtype send.text now ≡ call = cc in
    subst (λ (k : Call). IsKeptIf blocks (AtSlot slot k reply) (after_place send blocks reply)) c
    (place_row send blocks slot now reply h)
at_slot (AtTake receive) slot call reply now h is = take_row receive slot call reply
at_slot (AtStat cred id) slot call reply now h is = stat_row slot call reply
at_slot (AtSet cred id to) slot call reply now h is = set_row slot call reply
at_slot (AtRemove cred id) slot call reply now h is = remove_row id slot call reply
at_slot phase slot call reply now h is = tt

at_registry : {kind : Kind} (phase : Phase kind) (op : Op) (reply : RegistryReply) → left_by op ≡ given_by op →
    given_by op ≡ 0 →
    IsKeptIf (held (Goes phase)) op (next_of_registry phase reply)
at_registry (AtBegin get) op reply e z = begin_row get op reply e
at_registry (AtSettle id) op reply e z = settle_row id op reply e
at_registry (AtUnmake id) op reply e z = unmake_row op reply e
at_registry (AtForget id blocks) op reply e z = forget_row blocks op reply e z
at_registry phase op reply e z = tt

-- The pool granted what was requested.
abbrev GivesIt : PoolCall → PoolReply → Type 0
GivesIt call reply = (size blocks : ℕ) → call ≡ Reserve size → reply ≡ Reserved blocks → blocks ≡ blocks_for size

of_release : {kind : Kind} (had : ℕ) (call : PoolCall) (reply : PoolReply) (after : Option (State kind)) →
    Release had ≡ call →
    IsKeptIf had (AtPool (Release had) reply) after → IsKeptIf had (AtPool call reply) after
of_release had call reply after c h = subst (λ (k : PoolCall). IsKeptIf had (AtPool k reply) after) c h

at_pool : {kind : Kind} (phase : Phase kind) (call : PoolCall) (reply : PoolReply) (now : ℕ) →
    OfPool call ≡ asks phase now →
    GivesIt call reply → IsKeptIf (held (Goes phase)) (AtPool call reply) (next_of_pool phase reply)
at_pool (AtReserve send) call reply now is g =
    let c : Reserve (length send.text) ≡ call = cc in
    subst (λ (k : PoolCall). IsKeptIf 0 (AtPool k reply) (after_reserve send reply)) c
    (reserve_row send reply (λ blocks r. g (length send.text) blocks (sym c) r))
at_pool (AtSendGiveback blocks afterwards) call reply now is g =
    let c : Release blocks ≡ call = cc in of_release blocks call reply _ c (giveback_row blocks afterwards reply)
at_pool (AtReceiveGiveback blocks mtype text) call reply now is g =
    let c : Release blocks ≡ call = cc in of_release blocks call reply _ c (last_giveback_row Receives blocks _ reply)
at_pool AtSetGiveback call reply now is g =
    let c : Release 0 ≡ call = cc in of_release 0 call reply _ c (last_giveback_row Sets 0 _ reply)
at_pool (AtRemoveGiveback blocks) call reply now is g =
    let c : Release blocks ≡ call = cc in of_release blocks call reply _ c (last_giveback_row Removes blocks _ reply)
at_pool phase call reply now is g = tt

one_row : {kind : Kind} (ops : List Op) (phase : Phase kind) (op : Op) (now : ℕ) → HasItsBlocks (Goes phase) →
    asked_by op ≡ asks phase now → GivesWhatIsAsked (ops ++ op ∷ []) →
    IsKeptIf (held (Goes phase)) op (next phase op)
one_row ops phase (AtSlot slot call reply) now h is g = at_slot phase slot call reply now h is
one_row ops phase (AtRegistry call reply) now h is g = at_registry phase (AtRegistry call reply) reply refl refl
one_row ops phase (AtPool call reply) now h is g =
    at_pool phase call reply now is
    (λ size blocks c r.
    g size blocks (subst (λ (k : PoolCall). Contains (ops ++ AtPool call reply ∷ []) (AtPool k (Reserved blocks))) c
    (subst (λ (k : PoolReply). Contains (ops ++ AtPool call reply ∷ []) (AtPool call k)) r
    (Contains-push ops (AtPool call reply)))))

-- ---- along a play

started : (cred : Cred) (asked : SystemCall) (released : ℕ) (b : Bool) →
    HoldsItsBlocks [] (cond b (Over (Refused EINVAL)) (Goes (first cred asked released)))
started cred asked released true = record { balance = refl; at_place = tt }
started cred (Msgget key flags) released false = record { balance = refl; at_place = tt }
started cred (Msgsnd id mtype flags text) released false = record { balance = refl; at_place = tt }
started cred (Msgrcv id size mtype flags) released false = record { balance = refl; at_place = tt }
started cred (MsgctlStat id) released false = record { balance = refl; at_place = tt }
started cred (MsgctlSet id to) released false = record { balance = refl; at_place = tt }
started cred (MsgctlRmid id) released false = record { balance = refl; at_place = tt }

one_more : {kind : Kind} (ops : List Op) (phase : Phase kind) (op : Op) (after : State kind) →
    IsKept (held (Goes phase)) op after →
    HoldsItsBlocks ops (Goes phase) → HoldsItsBlocks (ops ++ op ∷ []) after
one_more ops phase op after k h = record {
  balance = omega (
    arith,
    sum_by-append left_by ops (op ∷ []),
    sum_by-append given_by ops (op ∷ []),
    k.balance,
    h.balance,
  );
  at_place = k.at_place;
}

resumed : {kind : Kind} (ops : List Op) (wait : Wait kind) (value : ℕ) → HoldsItsBlocks ops (Waits wait) →
    HoldsItsBlocks ops (Goes (resume wait value))
resumed ops (OnSettled goal get) value h = record { balance = h.balance; at_place = tt }
resumed ops (OnFreed goal send) value h = record { balance = h.balance; at_place = tt }
resumed ops (OnReleased goal send) value h = record { balance = h.balance; at_place = tt }
resumed ops (OnArrived goal receive) value h = record { balance = h.balance; at_place = tt }

fewer : (ops : List Op) (op : Op) → GivesWhatIsAsked (ops ++ op ∷ []) → GivesWhatIsAsked ops
fewer ops op g size blocks c =
    g size blocks (Contains-append_left ops (op ∷ []) (AtPool (Reserve size) (Reserved blocks)) c)

pub each_holds : (cred : Cred) (asked : SystemCall) (released : ℕ) (ops : List Op) (state : State (kind_of asked)) →
    Plays (begin cred asked released) ops state → GivesWhatIsAsked ops → HoldsItsBlocks ops state
each_holds cred asked released _ _ begins g = started cred asked released (is_refused asked)
each_holds cred asked released _ _ (steps {ops} {phase} op now after p is n) g =
    let before = each_holds cred asked released ops (Goes phase) p (fewer ops op g) in
    one_more ops phase op after
    (subst (IsKeptIf (held (Goes phase)) op) n (one_row ops phase op now before.at_place is g)) before
each_holds cred asked released _ _ (resumes {ops} {wait} value p least) g =
    resumed ops wait value (each_holds cred asked released ops (Waits wait) p g)

pub each_step_keeps : (kind : Kind) (phase : Phase kind) (op : Op) (now : ℕ) (after : State kind) →
    HasItsBlocks (Goes phase) → GivesWhatIsAsked (op ∷ []) → asked_by op ≡ asks phase now → next phase op ≡ Some after →
    (held after + left_by op ≡ held (Goes phase) + given_by op) × HasItsBlocks after
each_step_keeps kind phase op now after h g is n =
    let kept = subst (IsKeptIf (held (Goes phase)) op) n (one_row [] phase op now h is g) in
    (kept.balance, kept.at_place)
