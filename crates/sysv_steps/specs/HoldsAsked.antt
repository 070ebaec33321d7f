-- What a call holds of its arguments (this project's profile): before each step and in each wait,
-- the credentials and arguments that it holds are those with which it began.
use Rattle.std.specs.Prelude.{◌≡◌, ℕ, ℤ, List}
use Rattle.sysv_model.specs.declared.cred.Cred.{Cred}
use Rattle.sysv_model.specs.declared.flags.Flags.{Flags}
use Rattle.sysv_model.specs.declared.flags.TheConstants.Flags.{MSG_NOERROR}
use Rattle.sysv_model.specs.HasFlag.{has_flag}
use Rattle.sysv_model.specs.Selector.{selector_for}
use Rattle.sysv_model.specs.Turn.{Op}
use Rattle.sysv_steps.specs.Call.{kind_of}
use Rattle.sysv_steps.specs.Call.{SystemCall, Msgget, Msgsnd, Msgrcv, MsgctlStat, MsgctlSet, MsgctlRmid}
use Rattle.sysv_steps.specs.State.{Getting, Sending, Receiving, Wait, OnSettled, OnFreed, OnReleased, OnArrived}
use Rattle.sysv_steps.specs.State.{Afterwards, IsRefused, WaitsOn, Phase, AtBegin, AtInstall, AtSettle, AtProbe}
use Rattle.sysv_steps.specs.State.{AtUnmake, AtLook, AtReserve, AtPlace, AtSendGiveback, AtTake, AtReceiveGiveback}
use Rattle.sysv_steps.specs.State.{AtStat, AtSet, AtSetGiveback, AtRemove, AtForget, AtRemoveGiveback, State, Goes}
use Rattle.sysv_steps.specs.State.{Waits, Over}
use Rattle.sysv_steps.specs.Begin.{begin}
use Rattle.sysv_steps.specs.Played.{Plays}

-- The msgget holds these credentials, this key and these flags.
pub record IsGet (cred : Cred) (key : ℤ) (flags : Flags) (get : Getting) : Type 0 where
  pub is : get ≡ record { cred = cred; key = key; flags = flags }

-- The send holds these credentials, this identifier, this type and this body.
pub record IsSend (by : Cred) (at type : ℤ) (bytes : List ℕ) (send : Sending) : Type 0 where
  pub cred : send.cred ≡ by
  pub id : send.id ≡ at
  pub mtype : send.mtype ≡ type
  pub text : send.text ≡ bytes

-- The receive holds these credentials and this identifier, selector, size and MSG_NOERROR.
pub record IsReceive (by : Cred) (at : ℤ) (wanted : ℕ) (type : ℤ) (flags : Flags) (receive : Receiving) : Type 0 where
  pub cred : receive.cred ≡ by
  pub id : receive.id ≡ at
  pub selector : receive.selector ≡ selector_for type flags
  pub size : receive.size ≡ wanted
  pub noerror : receive.noerror ≡ has_flag MSG_NOERROR flags

-- What a call holds in a wait. A msgctl never waits.
abbrev pub WaitHolds : Cred → (asked : SystemCall) → Wait (kind_of asked) → Type 0
WaitHolds cred (Msgget key flags) (OnSettled goal get) = IsGet cred key flags get
WaitHolds cred (Msgsnd id mtype flags text) (OnFreed goal send) = IsSend cred id mtype text send
WaitHolds cred (Msgsnd id mtype flags text) (OnReleased goal send) = IsSend cred id mtype text send
WaitHolds cred (Msgrcv id size mtype flags) (OnArrived goal receive) = IsReceive cred id size mtype flags receive
WaitHolds cred asked wait = elim wait [ ]

-- What a send holds for the time after it has released its chain.
abbrev pub AfterwardsHolds : Cred → (asked : SystemCall) → Afterwards (kind_of asked) → Type 0
AfterwardsHolds cred asked (IsRefused why) = Unit {0}
AfterwardsHolds cred asked (WaitsOn wait) = WaitHolds cred asked wait

-- What a call holds before a step.
abbrev pub PhaseHolds : Cred → (asked : SystemCall) → Phase (kind_of asked) → Type 0
PhaseHolds cred (Msgget key flags) (AtBegin get) = IsGet cred key flags get
PhaseHolds cred (Msgget key flags) (AtInstall get id) = IsGet cred key flags get
PhaseHolds cred (Msgget key flags) (AtSettle id) = Unit {0}
PhaseHolds cred (Msgget key flags) (AtProbe get id settled) = IsGet cred key flags get
PhaseHolds cred (Msgget key flags) (AtUnmake id) = Unit {0}
PhaseHolds cred (Msgsnd id mtype flags text) (AtLook send) = IsSend cred id mtype text send
PhaseHolds cred (Msgsnd id mtype flags text) (AtReserve send) = IsSend cred id mtype text send
PhaseHolds cred (Msgsnd id mtype flags text) (AtPlace send blocks) = IsSend cred id mtype text send
PhaseHolds cred (Msgsnd id mtype flags text) (AtSendGiveback blocks afterwards) =
    AfterwardsHolds cred (Msgsnd id mtype flags text) afterwards
PhaseHolds cred (Msgrcv id size mtype flags) (AtTake receive) = IsReceive cred id size mtype flags receive
PhaseHolds cred (Msgrcv id size mtype flags) (AtReceiveGiveback blocks type text) = Unit {0}
PhaseHolds cred (MsgctlStat id) (AtStat by at) = (by ≡ cred) × (at ≡ id)
PhaseHolds cred (MsgctlSet id to) (AtSet by at what) = (by ≡ cred) × (at ≡ id) × (what ≡ to)
PhaseHolds cred (MsgctlSet id to) AtSetGiveback = Unit {0}
PhaseHolds cred (MsgctlRmid id) (AtRemove by at) = (by ≡ cred) × (at ≡ id)
PhaseHolds cred (MsgctlRmid id) (AtForget at blocks) = at ≡ id
PhaseHolds cred (MsgctlRmid id) (AtRemoveGiveback blocks) = Unit {0}

-- What a call holds in this state. A call that is over holds nothing.
abbrev pub Holds : Cred → (asked : SystemCall) → State (kind_of asked) → Type 0
Holds cred asked (Goes phase) = PhaseHolds cred asked phase
Holds cred asked (Waits wait) = WaitHolds cred asked wait
Holds cred asked (Over ending) = Unit {0}

-- This holds in each state to which a call plays.
abbrev pub EachHoldsWhatItWasAsked : Type 0
EachHoldsWhatItWasAsked =
    (cred : Cred) (asked : SystemCall) (released : ℕ) (ops : List Op) (state : State (kind_of asked)) →
    Plays (begin cred asked released) ops state → Holds cred asked state
