-- What the code keeps of each of the six calls, with the body that its driver holds, as a state of
-- the definitions (this project's profile). `text` is the body of a pending send, and `out` the
-- bytes that a receive returned. The code's wait keeps the value that its count must exceed, which
-- is one below the goal. The definitions keep only the number of blocks of a chain, and only the
-- type of a delivery.
use Rattle.std.specs.Prelude.{ℕ, ℤ, ◌+◌, List, Result, Ok, Err, ⊤}
use Rattle.sysv_queue.specs.Delivery.{Given}
use Rattle.sysv_model.specs.declared.attributes.Stat.{Stat}
use Rattle.sysv_model.specs.declared.errno.Errno.{Errno}
use Rattle.sysv_steps.specs.Call.{Kind, Gets, Sends, Receives, Stats, Sets, Removes}
use Rattle.sysv_steps.specs.declared.get.Getting.{Getting as GetKept}
use Rattle.sysv_steps.specs.declared.get.GetStep.{GetStep}
use Rattle.sysv_steps.specs.declared.get.GetStep.TheVariants as get
use Rattle.sysv_steps.specs.declared.get.GetWait.{GetWait}
use Rattle.sysv_steps.specs.declared.send.Sending.{Sending as SendKept}
use Rattle.sysv_steps.specs.declared.send.SendStep.{SendStep}
use Rattle.sysv_steps.specs.declared.send.SendStep.TheVariants as send
use Rattle.sysv_steps.specs.declared.send.SendWait.{SendWait}
use Rattle.sysv_steps.specs.declared.send.SendWait.TheVariants.{Room, Blocks}
use Rattle.sysv_steps.specs.declared.send.Afterwards.{Afterwards as AfterwardsKept}
use Rattle.sysv_steps.specs.declared.send.Afterwards.TheVariants as afterwards
use Rattle.sysv_steps.specs.declared.receive.Receiving.{Receiving as ReceiveKept}
use Rattle.sysv_steps.specs.declared.receive.ReceiveStep.{ReceiveStep}
use Rattle.sysv_steps.specs.declared.receive.ReceiveStep.TheVariants as receive
use Rattle.sysv_steps.specs.declared.receive.ReceiveWait.{ReceiveWait}
use Rattle.sysv_steps.specs.declared.stat.StatStep.{StatStep}
use Rattle.sysv_steps.specs.declared.set.SetStep.{SetStep}
use Rattle.sysv_steps.specs.declared.set.SetStep.TheVariants as set
use Rattle.sysv_steps.specs.declared.remove.RemoveStep.{RemoveStep}
use Rattle.sysv_steps.specs.declared.remove.RemoveStep.TheVariants as remove
use Rattle.sysv_steps.specs.declared.state.NoWait.{NoWait}
use Rattle.sysv_steps.specs.declared.state.State.{State as StateKept}
use Rattle.sysv_steps.specs.declared.state.State.TheVariants as state
use Rattle.sysv_steps.specs.State.{Getting, Sending, Receiving, Wait, OnSettled, OnFreed, OnReleased, OnArrived}
use Rattle.sysv_steps.specs.State.{Afterwards, IsRefused, WaitsOn, Phase, AtBegin, AtInstall, AtSettle, AtProbe}
use Rattle.sysv_steps.specs.State.{AtUnmake, AtLook, AtReserve, AtPlace, AtSendGiveback, AtTake, AtReceiveGiveback}
use Rattle.sysv_steps.specs.State.{AtStat, AtSet, AtSetGiveback, AtRemove, AtForget, AtRemoveGiveback, Ending, Id, Zero}
use Rattle.sysv_steps.specs.State.{Got, Told, Refused, State, Goes, Waits, Over}

-- The end of a call of the code, by what its result means.
abbrev pub ending_of : {T : Type 0} → (T → Ending) → Result T Errno → Ending
ending_of ending (Ok told) = ending told
ending_of ending (Err why) = Refused why

-- The state of a call of the code, by what its steps, its waits and its result mean.
abbrev pub state_of : {kind : Kind} {S W T : Type 0} → (S → Phase kind) → (W → Wait kind) → (T → Ending) →
    StateKept S W T → State kind
state_of phase wait ending (state.Goes step) = Goes (phase step)
state_of phase wait ending (state.Waits w) = Waits (wait w)
state_of phase wait ending (state.Over told) = Over (ending_of ending told)

-- The wait of a call that never waits: there is none.
abbrev pub no_wait : {kind : Kind} → NoWait → Wait kind
no_wait = elim [ ]

-- ---- msgget

-- What a msgget of the code holds.
abbrev pub getting : GetKept → Getting
getting g = record { cred = g.cred; key = g.key; flags = g.flags }

-- The step before which it is.
abbrev pub get_phase : GetStep → Phase Gets
get_phase (get.Begin g) = AtBegin (getting g)
get_phase (get.Install g id) = AtInstall (getting g) id
get_phase (get.Settle id) = AtSettle id
get_phase (get.Probe g id settled) = AtProbe (getting g) id settled
get_phase (get.Unmake id) = AtUnmake id

-- Its wait.
abbrev pub get_wait : GetWait → Wait Gets
get_wait w = OnSettled (w.above + 1) (getting w.get)

-- Its state.
abbrev pub get_state : StateKept GetStep GetWait ℤ → State Gets
get_state s = state_of get_phase get_wait Id s

-- ---- msgsnd

-- What a send of the code holds, whose body is `text`.
abbrev pub sending : SendKept → List ℕ → Sending
sending s text = record {
  cred = s.cred;
  id = s.id;
  mtype = s.mtype;
  text = text;
  nowait = s.nowait;
  released = s.released;
  seen = s.live_seen;
}

-- Its wait.
abbrev pub send_wait : SendWait → List ℕ → Wait Sends
send_wait (Room above s) text = OnFreed (above + 1) (sending s text)
send_wait (Blocks above s) text = OnReleased (above + 1) (sending s text)

-- What it does after it has released its chain.
abbrev pub afterwards_of : AfterwardsKept → List ℕ → Afterwards Sends
afterwards_of (afterwards.Refused why) text = IsRefused why
afterwards_of (afterwards.Waits w) text = WaitsOn (send_wait w text)

-- The step before which it is.
abbrev pub send_phase : SendStep → List ℕ → Phase Sends
send_phase (send.Look s) text = AtLook (sending s text)
send_phase (send.Reserve s) text = AtReserve (sending s text)
send_phase (send.Place s chain) text = AtPlace (sending s text) chain.blocks
send_phase (send.Giveback chain later) text = AtSendGiveback chain.blocks (afterwards_of later text)

-- Its state.
abbrev pub send_state : StateKept SendStep SendWait ⊤ → List ℕ → State Sends
send_state s text = state_of (λ step. send_phase step text) (λ w. send_wait w text) (λ _. Zero) s

-- ---- msgrcv

-- What a receive of the code holds.
abbrev pub receiving : ReceiveKept → Receiving
receiving r = record {
  cred = r.cred;
  id = r.id;
  selector = r.selector;
  size = r.size;
  noerror = r.noerror;
  nowait = r.nowait;
  seen = r.live_seen;
}

-- Its wait.
abbrev pub receive_wait : ReceiveWait → Wait Receives
receive_wait w = OnArrived (w.above + 1) (receiving w.receive)

-- The step before which it is.
abbrev pub receive_phase : ReceiveStep → List ℕ → Phase Receives
receive_phase (receive.Take r) out = AtTake (receiving r)
receive_phase (receive.Giveback chain delivery) out = AtReceiveGiveback chain.blocks delivery.mtype out

-- Its state.
abbrev pub receive_state : StateKept ReceiveStep ReceiveWait Given → List ℕ → State Receives
receive_state s out = state_of (λ step. receive_phase step out) receive_wait (λ (d : Given). Got d.mtype out) s

-- ---- msgctl

-- The step before which an IPC_STAT is.
abbrev pub stat_phase : StatStep → Phase Stats
stat_phase s = AtStat s.cred s.id

-- Its state.
abbrev pub stat_state : StateKept StatStep NoWait Stat → State Stats
stat_state s = state_of stat_phase no_wait Told s

-- The step before which an IPC_SET is.
abbrev pub set_phase : SetStep → Phase Sets
set_phase (set.Set cred id to) = AtSet cred id to
set_phase set.Giveback = AtSetGiveback

-- Its state.
abbrev pub set_state : StateKept SetStep NoWait ⊤ → State Sets
set_state s = state_of set_phase no_wait (λ _. Zero) s

-- The step before which an IPC_RMID is.
abbrev pub remove_phase : RemoveStep → Phase Removes
remove_phase (remove.Remove cred id) = AtRemove cred id
remove_phase (remove.Forget id chain) = AtForget id chain.blocks
remove_phase (remove.Giveback chain) = AtRemoveGiveback chain.blocks

-- Its state.
abbrev pub remove_state : StateKept RemoveStep NoWait ⊤ → State Removes
remove_state s = state_of remove_phase no_wait (λ _. Zero) s
