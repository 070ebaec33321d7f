-- Each operation of a play requests what the arguments of the call name.
use Rattle.std.proofs.Common.{◌≡◌, ℕ, ℤ, ◌+◌, inl, inr, Bool, true, false, List, [], ◌∷◌, ◌++◌, Option, Some, None}
use Rattle.std.proofs.Common.{cond, length, refl, sym, ap, subst, arith}
use Rattle.std.proofs.lemmas.List.Elements.{All-push}
use Rattle.sysv_model.specs.declared.cred.Cred.{Cred}
use Rattle.sysv_model.specs.declared.errno.Errno.{Errno}
use Rattle.sysv_model.specs.declared.errno.Errno.TheVariants.{EINVAL, EAGAIN, ENOMSG}
use Rattle.sysv_model.specs.declared.flags.Flags.{Flags}
use Rattle.sysv_model.specs.declared.attributes.SetTo.{SetTo}
use Rattle.sysv_model.specs.History.{Reply, Gone, Full, Fits, NoMatch, Installed, Discarded, Install, Probe}
use Rattle.sysv_model.specs.Registry.{Begin, Forget, RegistryReply, Found, Made, Busy, Changed}
use Rattle.sysv_model.specs.Pool.{Reserve, PoolReply, Reserved, TooFew, Released, Foreign}
use Rattle.sysv_model.specs.Turn.{OfSlot, OfRegistry, OfPool, Op, AtSlot, AtRegistry, AtPool, asked_by}
use Rattle.sysv_keys.specs.Identifier.{slot_of_id}
use Rattle.sysv_steps.specs.Call.{Gets, Sends, Receives, Stats, Sets, Removes, kind_of}
use Rattle.sysv_steps.specs.Call.{SystemCall, Msgget, Msgsnd, Msgrcv, MsgctlStat, MsgctlSet, MsgctlRmid}
use Rattle.sysv_steps.specs.State.{Getting, Sending, Receiving, Wait, OnSettled, OnFreed, OnReleased, OnArrived}
use Rattle.sysv_steps.specs.State.{Afterwards, IsRefused, WaitsOn, Phase, AtBegin, AtInstall, AtSettle, AtProbe}
use Rattle.sysv_steps.specs.State.{AtUnmake, AtLook, AtReserve, AtPlace, AtSendGiveback, AtTake, AtReceiveGiveback}
use Rattle.sysv_steps.specs.State.{AtStat, AtSet, AtSetGiveback, AtRemove, AtForget, AtRemoveGiveback, Ending, Zero}
use Rattle.sysv_steps.specs.State.{Got, Refused, State, Goes, Waits, Over}
use Rattle.sysv_steps.specs.Begin.{is_refused, first, begin}
use Rattle.sysv_steps.specs.Asks.{asks}
use Rattle.sysv_steps.specs.Next.{next, is_full, after_begin, after_install, after_settle, after_unmake, after_probe}
use Rattle.sysv_steps.specs.Next.{waits_or, goes_on, after_look, after_reserve, after_place, after_take, after_stat}
use Rattle.sysv_steps.specs.Next.{after_set, after_remove, after_forget, after_giveback}
use Rattle.sysv_steps.specs.Resume.{resume}
use Rattle.sysv_steps.specs.Played.{Plays, begins, steps, resumes}
use Rattle.sysv_steps.specs.AsksFor.{AsksFor, AllAskFor}
use Rattle.sysv_steps.specs.HoldsAsked.{IsGet, IsSend, IsReceive, WaitHolds, AfterwardsHolds, PhaseHolds, Holds}

-- ---- what a call holds is what it was asked

abbrev NextOf : Cred → (asked : SystemCall) → Option (State (kind_of asked)) → Type 0
NextOf cred asked None = Unit {0}
NextOf cred asked (Some state) = Holds cred asked state

-- ---- it holds them from its start to its end

begun_of : (cred : Cred) (asked : SystemCall) (released : ℕ) (refused : Bool) →
    Holds cred asked (cond refused (Over (Refused EINVAL)) (Goes (first cred asked released)))
begun_of cred asked released true = tt
begun_of cred (Msgget key flags) released false = record { is = refl }
begun_of cred (Msgsnd id mtype flags text) released false = record { cred = refl; id = refl; mtype = refl; text = refl }
begun_of cred (Msgrcv id size mtype flags) released false =
    record { cred = refl; id = refl; selector = refl; size = refl; noerror = refl }
begun_of cred (MsgctlStat id) released false = (refl, refl)
begun_of cred (MsgctlSet id to) released false = (refl, refl, refl)
begun_of cred (MsgctlRmid id) released false = (refl, refl)

module _ (cred : Cred) where
  -- A call that waits holds what it held, at once or after it has released its chain.
  after_keeps : (asked : SystemCall) (nowait : Bool) (wait : Wait (kind_of asked)) (why : Errno) →
      WaitHolds cred asked wait →
      AfterwardsHolds cred asked (waits_or nowait wait why)
  after_keeps asked true wait why h = tt
  after_keeps asked false wait why h = h

  waits_keep : (asked : SystemCall) (nowait : Bool) (wait : Wait (kind_of asked)) (why : Errno) →
      WaitHolds cred asked wait →
      Holds cred asked (goes_on (waits_or nowait wait why))
  waits_keep asked true wait why h = tt
  waits_keep asked false wait why h = h

  -- msgget
  begin_keeps : (key : ℤ) (flags : Flags) (get : Getting) (reply : RegistryReply) → IsGet cred key flags get →
      NextOf cred (Msgget key flags) (after_begin get reply)
  begin_keeps key flags get (Found id settled) h = h
  begin_keeps key flags get (Made id) h = h
  begin_keeps key flags get (Busy settled) h = h
  begin_keeps key flags get reply h = tt

  install_keeps : (key : ℤ) (flags : Flags) (id : ℤ) (reply : Reply) →
      NextOf cred (Msgget key flags) (after_install id reply)
  install_keeps key flags id (Installed true) = tt
  install_keeps key flags id (Installed false) = tt
  install_keeps key flags id reply = tt

  probe_keeps : (key : ℤ) (flags : Flags) (get : Getting) (id : ℤ) (settled : ℕ) (reply : Reply) →
      IsGet cred key flags get → NextOf cred (Msgget key flags) (after_probe get id settled reply)
  probe_keeps key flags get id settled Gone h = h
  probe_keeps key flags get id settled reply h = tt

  settle_keeps : (key : ℤ) (flags : Flags) (id : ℤ) (reply : RegistryReply) →
      NextOf cred (Msgget key flags) (after_settle id reply)
  settle_keeps key flags id (Changed done) = tt
  settle_keeps key flags id reply = tt

  unmake_keeps : (key : ℤ) (flags : Flags) (reply : RegistryReply) → NextOf cred (Msgget key flags) (after_unmake reply)
  unmake_keeps key flags (Changed done) = tt
  unmake_keeps key flags reply = tt

  got : (key : ℤ) (flags : Flags) (phase : Phase Gets) (op : Op) → PhaseHolds cred (Msgget key flags) phase →
      NextOf cred (Msgget key flags) (next phase op)
  got key flags (AtBegin get) (AtRegistry call reply) h = begin_keeps key flags get reply h
  got key flags (AtInstall get id) (AtSlot slot call reply) h = install_keeps key flags id reply
  got key flags (AtSettle id) (AtRegistry call reply) h = settle_keeps key flags id reply
  got key flags (AtProbe get id settled) (AtSlot slot call reply) h = probe_keeps key flags get id settled reply h
  got key flags (AtUnmake id) (AtRegistry call reply) h = unmake_keeps key flags reply
  got key flags phase op h = tt

  -- msgsnd
  module _ (id mtype : ℤ) (flags : Flags) (text : List ℕ) where
    full_keeps : (send : Sending) (freed : ℕ) → IsSend cred id mtype text send →
        Holds cred (Msgsnd id mtype flags text) (goes_on (is_full send freed))
    full_keeps send freed h =
        waits_keep (Msgsnd id mtype flags text) send.nowait (OnFreed (freed + 1) (record send { seen = true })) EAGAIN
        record { cred = h.cred; id = h.id; mtype = h.mtype; text = h.text }

    look_keeps : (send : Sending) (reply : Reply) → IsSend cred id mtype text send →
        NextOf cred (Msgsnd id mtype flags text) (after_look send reply)
    look_keeps send (Full freed) h = full_keeps send freed h
    look_keeps send Fits h = record { cred = h.cred; id = h.id; mtype = h.mtype; text = h.text }
    look_keeps send reply h = tt

    reserve_keeps : (send : Sending) (reply : PoolReply) → IsSend cred id mtype text send →
        NextOf cred (Msgsnd id mtype flags text) (after_reserve send reply)
    reserve_keeps send (Reserved blocks) h = h
    reserve_keeps send TooFew h =
        waits_keep (Msgsnd id mtype flags text) send.nowait (OnReleased (send.released + 1) send) EAGAIN h
    reserve_keeps send reply h = tt

    place_keeps : (send : Sending) (blocks : ℕ) (reply : Reply) → IsSend cred id mtype text send →
        NextOf cred (Msgsnd id mtype flags text) (after_place send blocks reply)
    place_keeps send blocks (Full freed) h =
        after_keeps (Msgsnd id mtype flags text) send.nowait (OnFreed (freed + 1) (record send { seen = true })) EAGAIN
        record { cred = h.cred; id = h.id; mtype = h.mtype; text = h.text }
    place_keeps send blocks reply h = tt

    giveback_keeps : (afterwards : Afterwards Sends) (reply : PoolReply) →
        AfterwardsHolds cred (Msgsnd id mtype flags text) afterwards →
        NextOf cred (Msgsnd id mtype flags text) (after_giveback (goes_on afterwards) reply)
    giveback_keeps (IsRefused why) Released h = tt
    giveback_keeps (IsRefused why) reply h = tt
    giveback_keeps (WaitsOn wait) Released h = h
    giveback_keeps (WaitsOn wait) Foreign h = h
    giveback_keeps (WaitsOn wait) reply h = tt

    sent : (phase : Phase Sends) (op : Op) → PhaseHolds cred (Msgsnd id mtype flags text) phase →
        NextOf cred (Msgsnd id mtype flags text) (next phase op)
    sent (AtLook send) (AtSlot slot call reply) h = look_keeps send reply h
    sent (AtReserve send) (AtPool call reply) h = reserve_keeps send reply h
    sent (AtPlace send blocks) (AtSlot slot call reply) h = place_keeps send blocks reply h
    sent (AtSendGiveback blocks afterwards) (AtPool call reply) h = giveback_keeps afterwards reply h
    sent phase op h = tt

  -- msgrcv
  take_keeps : (id : ℤ) (size : ℕ) (mtype : ℤ) (flags : Flags) (receive : Receiving) (reply : Reply) →
      IsReceive cred id size mtype flags receive → NextOf cred (Msgrcv id size mtype flags) (after_take receive reply)
  take_keeps id size mtype flags receive (NoMatch arrived) h =
      waits_keep (Msgrcv id size mtype flags) receive.nowait (OnArrived (arrived + 1) (record receive { seen = true }))
      ENOMSG
      record { cred = h.cred; id = h.id; selector = h.selector; size = h.size; noerror = h.noerror }
  take_keeps id size mtype flags receive reply h = tt

  over_keeps : (asked : SystemCall) (ending : Ending) (reply : PoolReply) →
      NextOf cred asked (after_giveback (Over ending) reply)
  over_keeps asked ending Released = tt
  over_keeps asked ending reply = tt

  received : (id : ℤ) (size : ℕ) (mtype : ℤ) (flags : Flags) (phase : Phase Receives) (op : Op) →
      PhaseHolds cred (Msgrcv id size mtype flags) phase → NextOf cred (Msgrcv id size mtype flags) (next phase op)
  received id size mtype flags (AtTake receive) (AtSlot slot call reply) h =
      take_keeps id size mtype flags receive reply h
  received id size mtype flags (AtReceiveGiveback blocks type text) (AtPool call reply) h =
      over_keeps (Msgrcv id size mtype flags) (Got type text) reply
  received id size mtype flags phase op h = tt

  -- msgctl
  stat_keeps : (id : ℤ) (reply : Reply) → NextOf cred (MsgctlStat id) (after_stat reply)
  stat_keeps id Gone = tt
  stat_keeps id reply = tt

  set_keeps : (id : ℤ) (to : SetTo) (reply : Reply) → NextOf cred (MsgctlSet id to) (after_set reply)
  set_keeps id to Gone = tt
  set_keeps id to reply = tt

  remove_keeps : (id at : ℤ) (reply : Reply) → at ≡ id → NextOf cred (MsgctlRmid id) (after_remove at reply)
  remove_keeps id at (Discarded messages) h = h
  remove_keeps id at reply h = tt

  forget_keeps : (id : ℤ) (blocks : ℕ) (reply : RegistryReply) → NextOf cred (MsgctlRmid id) (after_forget blocks reply)
  forget_keeps id blocks (Changed done) = tt
  forget_keeps id blocks reply = tt

  told : (id : ℤ) (phase : Phase Stats) (op : Op) → PhaseHolds cred (MsgctlStat id) phase →
      NextOf cred (MsgctlStat id) (next phase op)
  told id (AtStat by at) (AtSlot slot call reply) h = stat_keeps id reply
  told id phase op h = tt

  set : (id : ℤ) (to : SetTo) (phase : Phase Sets) (op : Op) → PhaseHolds cred (MsgctlSet id to) phase →
      NextOf cred (MsgctlSet id to) (next phase op)
  set id to (AtSet by at what) (AtSlot slot call reply) h = set_keeps id to reply
  set id to AtSetGiveback (AtPool call reply) h = over_keeps (MsgctlSet id to) Zero reply
  set id to phase op h = tt

  removed : (id : ℤ) (phase : Phase Removes) (op : Op) → PhaseHolds cred (MsgctlRmid id) phase →
      NextOf cred (MsgctlRmid id) (next phase op)
  removed id (AtRemove by at) (AtSlot slot call reply) h = remove_keeps id at reply h.1
  removed id (AtForget at blocks) (AtRegistry call reply) h = forget_keeps id blocks reply
  removed id (AtRemoveGiveback blocks) (AtPool call reply) h = over_keeps (MsgctlRmid id) Zero reply
  removed id phase op h = tt

  keeps : (asked : SystemCall) (phase : Phase (kind_of asked)) (op : Op) → PhaseHolds cred asked phase →
      NextOf cred asked (next phase op)
  keeps (Msgget key flags) phase op h = got key flags phase op h
  keeps (Msgsnd id mtype flags text) phase op h = sent id mtype flags text phase op h
  keeps (Msgrcv id size mtype flags) phase op h = received id size mtype flags phase op h
  keeps (MsgctlStat id) phase op h = told id phase op h
  keeps (MsgctlSet id to) phase op h = set id to phase op h
  keeps (MsgctlRmid id) phase op h = removed id phase op h

  resumes_so : (asked : SystemCall) (wait : Wait (kind_of asked)) (value : ℕ) → WaitHolds cred asked wait →
      PhaseHolds cred asked (resume wait value)
  resumes_so (Msgget key flags) (OnSettled goal get) value h = h
  resumes_so (Msgsnd id mtype flags text) (OnFreed goal send) value h = h
  resumes_so (Msgsnd id mtype flags text) (OnReleased goal send) value h =
      record { cred = h.cred; id = h.id; mtype = h.mtype; text = h.text }
  resumes_so (Msgrcv id size mtype flags) (OnArrived goal receive) value h = h
  resumes_so asked wait value h = elim wait [ ]

  -- ---- what it asks then

  asks_so : (asked : SystemCall) (phase : Phase (kind_of asked)) (now : ℕ) → PhaseHolds cred asked phase →
      AsksFor cred asked (asks phase now)
  asks_so (Msgget key flags) (AtBegin get) now h = inl (ap (λ (g : Getting). OfRegistry (Begin g.key g.flags)) h.is)
  asks_so (Msgget key flags) (AtInstall get id) now h =
      inr (inl (id, now, ap (λ (g : Getting). OfSlot (slot_of_id id) (Install id g.key g.cred g.flags.0 now)) h.is))
  asks_so (Msgget key flags) (AtSettle id) now h = inr (inr (inl (id, refl)))
  asks_so (Msgget key flags) (AtProbe get id settled) now h =
      inr (inr (inr (inl (id, ap (λ (g : Getting). OfSlot (slot_of_id id) (Probe id g.cred g.flags)) h.is))))
  asks_so (Msgget key flags) (AtUnmake id) now h = inr (inr (inr (inr (id, refl))))
  asks_so (Msgsnd id mtype flags text) (AtLook send) now h = let i = h.id in let c = h.cred in let t = h.text in inl cc
  asks_so (Msgsnd id mtype flags text) (AtReserve send) now h =
      inr (inl (ap (λ (t : List ℕ). OfPool (Reserve (length t))) h.text))
  asks_so (Msgsnd id mtype flags text) (AtPlace send blocks) now h =
      let i = h.id in let c = h.cred in let m = h.mtype in let t = h.text in inr (inr (inl (now, cc)))
  asks_so (Msgsnd id mtype flags text) (AtSendGiveback blocks afterwards) now h = inr (inr (inr (blocks, refl)))
  asks_so (Msgrcv id size mtype flags) (AtTake receive) now h =
      let i = h.id in let c = h.cred in let s = h.selector in let z = h.size in let n = h.noerror in inl (now, cc)
  asks_so (Msgrcv id size mtype flags) (AtReceiveGiveback blocks type text) now h = inr (blocks, refl)
  asks_so (MsgctlStat id) (AtStat by at) now h = let c = h.0 in let i = h.1 in cc
  asks_so (MsgctlSet id to) (AtSet by at what) now h = let c = h.0 in let i = h.1 in let t = h.2 in inl (now, cc)
  asks_so (MsgctlSet id to) AtSetGiveback now h = inr (0, refl)
  asks_so (MsgctlRmid id) (AtRemove by at) now h = let c = h.0 in let i = h.1 in inl cc
  asks_so (MsgctlRmid id) (AtForget at blocks) now h = inr (inl (ap (λ (i : ℤ). OfRegistry (Forget i)) h))
  asks_so (MsgctlRmid id) (AtRemoveGiveback blocks) now h = inr (inr (blocks, refl))

-- ---- along a play

record Asked (cred : Cred) (asked : SystemCall) (ops : List Op) (state : State (kind_of asked)) : Type 0 where
  holds : Holds cred asked state
  all : AllAskFor cred asked ops

after_one : (cred : Cred) (asked : SystemCall) (phase : Phase (kind_of asked)) (op : Op) (now : ℕ)
    (after : State (kind_of asked))
    (ops : List Op) →
    asked_by op ≡ asks phase now → next phase op ≡ Some after → Asked cred asked ops (Goes phase) →
    Asked cred asked (ops ++ op ∷ []) after
after_one cred asked phase op now after ops is n a = record {
  holds = subst (NextOf cred asked) n (keeps cred asked phase op a.holds);
  all = All-push (λ (d : Op). AsksFor cred asked (asked_by d)) ops op a.all
      (subst (AsksFor cred asked) (sym is) (asks_so cred asked phase now a.holds));
}

along : (cred : Cred) (asked : SystemCall) (released : ℕ) (ops : List Op) (state : State (kind_of asked)) →
    Plays (begin cred asked released) ops state → Asked cred asked ops state
along cred asked released _ _ begins =
    record { holds = begun_of cred asked released (is_refused asked); all = λ k d low. absurd (omega (arith, low)) }
along cred asked released _ _ (steps {ops} {phase} op now after p is n) =
    after_one cred asked phase op now after ops is n (along cred asked released ops (Goes phase) p)
along cred asked released _ _ (resumes {ops} {wait} value p least) =
    let before = along cred asked released ops (Waits wait) p in
    record { holds = resumes_so cred asked wait value before.holds; all = before.all }

pub each_asked : (cred : Cred) (asked : SystemCall) (released : ℕ) (ops : List Op) (state : State (kind_of asked)) →
    Plays (begin cred asked released) ops state → AllAskFor cred asked ops
each_asked cred asked released ops state p = (along cred asked released ops state p).all

pub each_holds_asked : (cred : Cred) (asked : SystemCall) (released : ℕ) (ops : List Op)
    (state : State (kind_of asked)) →
    Plays (begin cred asked released) ops state → Holds cred asked state
each_holds_asked cred asked released ops state p = (along cred asked released ops state p).holds
