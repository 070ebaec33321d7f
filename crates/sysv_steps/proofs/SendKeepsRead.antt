-- From its start on, a send keeps the released count that it read last.
use Rattle.std.proofs.Common.{◌≡◌, ℕ, ℤ, ◌+◌, Bool, true, false, List, Option, Some, None, cond, refl, subst}
use Rattle.sysv_model.specs.declared.cred.Cred.{Cred}
use Rattle.sysv_model.specs.declared.errno.Errno.{Errno}
use Rattle.sysv_model.specs.declared.errno.Errno.TheVariants.{EAGAIN, EINVAL}
use Rattle.sysv_model.specs.declared.flags.Flags.{Flags}
use Rattle.sysv_model.specs.History.{Reply, Full, Fits}
use Rattle.sysv_model.specs.Pool.{PoolReply, Reserved, TooFew, Released, Foreign}
use Rattle.sysv_model.specs.Turn.{Op, AtSlot, AtPool}
use Rattle.sysv_steps.specs.Call.{Msgsnd, Sends}
use Rattle.sysv_steps.specs.State.{Sending, Wait, OnFreed, OnReleased, Afterwards, IsRefused, WaitsOn, Phase, AtLook}
use Rattle.sysv_steps.specs.State.{AtReserve, AtPlace, AtSendGiveback, Refused, State, Goes, Waits, Over}
use Rattle.sysv_steps.specs.Begin.{is_refused, first, begin}
use Rattle.sysv_steps.specs.Next.{next, waits_or, goes_on, is_full, after_look, after_reserve, after_place}
use Rattle.sysv_steps.specs.Next.{after_giveback}
use Rattle.sysv_steps.specs.Resume.{resume}
use Rattle.sysv_steps.specs.Played.{Plays, begins, steps, resumes}
use Rattle.sysv_steps.specs.ReadLast.{read_then, read_last}

-- ---- a send that has this value as the one that it read last

abbrev KnowsWait : ℕ → Wait Sends → Type 0
KnowsWait read (OnFreed goal send) = send.released ≡ read
KnowsWait read (OnReleased goal send) = (send.released ≡ read) × (goal ≡ read + 1)

abbrev KnowsAfter : ℕ → Afterwards Sends → Type 0
KnowsAfter read (IsRefused why) = Unit {0}
KnowsAfter read (WaitsOn wait) = KnowsWait read wait

abbrev Knows : ℕ → State Sends → Type 0
Knows read (Goes (AtLook send)) = send.released ≡ read
Knows read (Goes (AtReserve send)) = send.released ≡ read
Knows read (Goes (AtPlace send blocks)) = send.released ≡ read
Knows read (Goes (AtSendGiveback blocks afterwards)) = KnowsAfter read afterwards
Knows read (Waits wait) = KnowsWait read wait
Knows read (Over ending) = Unit {0}

abbrev KnowsIf : ℕ → Option (State Sends) → Type 0
KnowsIf read None = Unit {0}
KnowsIf read (Some state) = Knows read state

-- ---- one row of the table

goes_so : (read : ℕ) (afterwards : Afterwards Sends) → KnowsAfter read afterwards → Knows read (goes_on afterwards)
goes_so read (IsRefused why) h = tt
goes_so read (WaitsOn wait) h = h

waits_so : (read : ℕ) (nowait : Bool) (wait : Wait Sends) (why : Errno) → KnowsWait read wait →
    KnowsAfter read (waits_or nowait wait why)
waits_so read true wait why h = tt
waits_so read false wait why h = h

full_row : (read : ℕ) (send : Sending) (freed : ℕ) → send.released ≡ read → KnowsAfter read (is_full send freed)
full_row read send freed h = waits_so read send.nowait (OnFreed (freed + 1) (record send { seen = true })) EAGAIN h

look_row : (read : ℕ) (send : Sending) (reply : Reply) → send.released ≡ read → KnowsIf read (after_look send reply)
look_row read send (Full freed) h = goes_so read (is_full send freed) (full_row read send freed h)
look_row read send Fits h = h
look_row read send reply h = tt

reserve_row : (read : ℕ) (send : Sending) (reply : PoolReply) → send.released ≡ read →
    KnowsIf read (after_reserve send reply)
reserve_row read send (Reserved blocks) h = h
reserve_row read send TooFew h =
    let wait = OnReleased (send.released + 1) send in
    goes_so read (waits_or send.nowait wait EAGAIN) (waits_so read send.nowait wait EAGAIN (h, cc))
reserve_row read send reply h = tt

place_row : (read : ℕ) (send : Sending) (blocks : ℕ) (reply : Reply) → send.released ≡ read →
    KnowsIf read (after_place send blocks reply)
place_row read send blocks (Full freed) h = full_row read send freed h
place_row read send blocks reply h = tt

giveback_row : (read : ℕ) (afterwards : Afterwards Sends) (reply : PoolReply) → KnowsAfter read afterwards →
    KnowsIf read (after_giveback (goes_on afterwards) reply)
giveback_row read afterwards Released h = goes_so read afterwards h
giveback_row read afterwards Foreign h = goes_so read afterwards h
giveback_row read afterwards reply h = tt

one_row : (read : ℕ) (phase : Phase Sends) (op : Op) → Knows read (Goes phase) → KnowsIf read (next phase op)
one_row read (AtLook send) (AtSlot slot call reply) h = look_row read send reply h
one_row read (AtReserve send) (AtPool call reply) h = reserve_row read send reply h
one_row read (AtPlace send blocks) (AtSlot slot call reply) h = place_row read send blocks reply h
one_row read (AtSendGiveback blocks afterwards) (AtPool call reply) h = giveback_row read afterwards reply h
one_row read phase op h = tt

-- ---- along a play

resumed : (read : ℕ) (wait : Wait Sends) (value : ℕ) → KnowsWait read wait →
    Knows (read_then wait value read) (Goes (resume wait value))
resumed read (OnFreed goal send) value h = h
resumed read (OnReleased goal send) value h = refl

module _ (cred : Cred) (id mtype : ℤ) (flags : Flags) (text : List ℕ) (released : ℕ) where
  abbrev from : State Sends
  from = begin cred (Msgsnd id mtype flags text) released

  started : (b : Bool) →
      Knows released (cond b (Over (Refused EINVAL)) (Goes (first cred (Msgsnd id mtype flags text) released)))
  started true = tt
  started false = refl

  along : (ops : List Op) (state : State Sends) (play : Plays from ops state) →
      Knows (read_last released from ops state play) state
  along _ _ begins = started (is_refused (Msgsnd id mtype flags text))
  along _ _ (steps {ops} {phase} op now after p is n) =
      let read = read_last released from ops (Goes phase) p in
      subst (KnowsIf read) n (one_row read phase op (along ops (Goes phase) p))
  along _ _ (resumes {ops} {wait} value p least) =
      resumed (read_last released from ops (Waits wait) p) wait value (along ops (Waits wait) p)

  pub each_read : (ops : List Op) (goal : ℕ) (send : Sending) (play : Plays from ops (Waits (OnReleased goal send))) →
      goal ≡ read_last released from ops (Waits (OnReleased goal send)) play + 1
  each_read ops goal send play = (along ops (Waits (OnReleased goal send)) play).1
