-- What the laws of a call admit and refuse, at six calls by one caller: a msgget that waits until
-- another call has settled its key and then makes the queue; a msgget that requires a new queue and
-- finds one; a receive whose queue is removed while it waits; two sends to a full queue, one of
-- which waits; and a removal.
use Rattle.std.specs.Prelude.{pos, ◌≤◌, true, false, List, [], ◌∷◌}
use Rattle.sysv_model.specs.declared.cred.Cred.{Cred}
use Rattle.sysv_model.specs.declared.errno.Errno.TheVariants.{EACCES, EAGAIN, EEXIST, EIDRM, EINVAL, ENOSPC}
use Rattle.sysv_model.specs.declared.flags.Flags.{Flags}
use Rattle.sysv_model.specs.declared.flags.TheConstants.Flags.{IPC_CREAT, IPC_NOWAIT, MSG_NOERROR}
use Rattle.sysv_model.specs.declared.selector.Selector.TheVariants.{Any}
use Rattle.sysv_model.specs.History.{Install, Probe, Look, Take, Remove, Installed, Gone, Denied, Full, NoMatch, Taken}
use Rattle.sysv_model.specs.History.{Discarded}
use Rattle.sysv_model.specs.Registry.{Begin, Settle, Forget, Found, Made, Busy, Changed}
use Rattle.sysv_model.specs.Pool.{Release, Released}
use Rattle.sysv_model.specs.Turn.{Op, AtSlot, AtRegistry, AtPool}
use Rattle.sysv_steps.specs.Call.{SystemCall, Msgget, Msgsnd, Msgrcv, MsgctlRmid, Receives, Removes, kind_of}
use Rattle.sysv_steps.specs.State.{Getting, Receiving, OnArrived, AtReceiveGiveback, AtForget, Ending, Id, Zero}
use Rattle.sysv_steps.specs.State.{Refused, State, Goes, Waits, Over}
use Rattle.sysv_steps.specs.Begin.{begin}
use Rattle.sysv_steps.specs.Played.{Plays}
use Rattle.sysv_steps.specs.Answers.{IsRightAnswer}
use Rattle.sysv_steps.specs.Effects.{effects}
use Rattle.sysv_steps.specs.AfterRemoval.{IsToldOfRemoval}
use Rattle.sysv_steps.specs.WaitsFor.{WaitsFor}
use Rattle.sysv_steps.specs.Tended.{IsTended}

abbrev pub caller : Cred
caller = record { uid = 1000; gid = 1000; pid = 101 }

-- The call of this caller plays these operations to this state.
abbrev pub PlaysTo : (asked : SystemCall) → List Op → State (kind_of asked) → Type 0
PlaysTo asked ops state = Plays (begin caller asked 0) ops state

-- The call of this caller plays these operations to this end.
abbrev pub EndsIn : SystemCall → List Op → Ending → Type 0
EndsIn asked ops ending = PlaysTo asked ops (Over ending)

-- Another call is making the queue of key 7, and the settled count is 4. Later the registry makes
-- identifier 259 for this call, in slot 3.
abbrev pub makes : SystemCall
makes = Msgget (pos 7) IPC_CREAT

abbrev pub finds_it_busy : Op
finds_it_busy = AtRegistry (Begin (pos 7) IPC_CREAT) (Busy 4)

abbrev pub is_given_one : Op
is_given_one = AtRegistry (Begin (pos 7) IPC_CREAT) (Made (pos 259))

abbrev pub installs : Op
installs = AtSlot 3 (Install (pos 259) (pos 7) caller 512 90) (Installed true)

abbrev pub settles : Op
settles = AtRegistry (Settle (pos 259)) (Changed true)

abbrev pub is_made : List Op
is_made = finds_it_busy ∷ is_given_one ∷ installs ∷ settles ∷ []

abbrev pub making : Getting
making = record { cred = caller; key = pos 7; flags = IPC_CREAT }

-- The flags are IPC_CREAT and IPC_EXCL, and the caller has no permission for the queue that exists.
abbrev pub new_alone : Flags
new_alone = record { 0 = 1536 }

abbrev pub wants_a_new_one : SystemCall
wants_a_new_one = Msgget (pos 7) new_alone

abbrev pub finds_one : Op
finds_one = AtRegistry (Begin (pos 7) new_alone) (Found (pos 259) 5)

abbrev pub is_denied : Op
is_denied = AtSlot 3 (Probe (pos 259) caller new_alone) Denied

abbrev pub is_there : List Op
is_there = finds_one ∷ is_denied ∷ []

-- No message is queued, two have arrived, and then the queue is removed.
abbrev pub receives : SystemCall
receives = Msgrcv (pos 259) 9 (pos 0) MSG_NOERROR

abbrev pub finds_none : Op
finds_none = AtSlot 3 (Take (pos 259) caller Any 9 true 90) (NoMatch 2)

abbrev pub finds_it_gone : Op
finds_it_gone = AtSlot 3 (Take (pos 259) caller Any 9 true 91) Gone

-- Instead, a message of one byte is queued.
abbrev pub takes_it : Op
takes_it = AtSlot 3 (Take (pos 259) caller Any 9 true 90)
    (Taken record { number = 0; sender = 101; mtype = pos 5; bytes = 104 ∷ [] })

abbrev pub waiting : Receiving
waiting = record { cred = caller; id = pos 259; selector = Any; size = 9; noerror = true; nowait = false; seen = true }

-- A body of one byte, and no room for it.
abbrev pub sends : Flags → SystemCall
sends flags = Msgsnd (pos 259) (pos 5) flags (104 ∷ [])

abbrev pub finds_it_full : Op
finds_it_full = AtSlot 3 (Look (pos 259) caller 1) (Full 6)

-- One message of one byte is discarded, then the identifier is forgotten, and then its block is
-- released.
abbrev pub removes : SystemCall
removes = MsgctlRmid (pos 259)

abbrev pub discards : Op
discards = AtSlot 3 (Remove (pos 259) caller)
    (Discarded (record { number = 0; sender = 101; mtype = pos 5; bytes = 104 ∷ [] } ∷ []))

abbrev pub forgets : Op
forgets = AtRegistry (Forget (pos 259)) (Changed true)

abbrev pub releases : Op
releases = AtPool (Release 1) Released

-- What these calls can end with, and what they cannot.
pub record WorkedPlays : Type 0 where
  -- The msgget returns the identifier that was made, no other one, and no error.
  pub made : EndsIn makes is_made (Id (pos 259))
  pub made_another : ¬ EndsIn makes is_made (Id (pos 3))
  pub made_none : ¬ EndsIn makes is_made (Refused ENOSPC)
  -- A queue that exists is not new, whether or not permission is granted.
  pub exists : EndsIn wants_a_new_one is_there (Refused EEXIST)
  pub exists_denied : ¬ EndsIn wants_a_new_one is_there (Refused EACCES)
  -- A retry after the removal reports it.
  pub removed : EndsIn receives (finds_none ∷ finds_it_gone ∷ []) (Refused EIDRM)
  pub removed_invalid : ¬ EndsIn receives (finds_none ∷ finds_it_gone ∷ []) (Refused EINVAL)
  pub removed_told : IsToldOfRemoval (finds_none ∷ []) [] (Refused EIDRM)
  pub removed_untold : ¬ IsToldOfRemoval (finds_none ∷ []) [] (Refused EINVAL)
  -- The receive waits for the third arrival, and for no later one.
  pub waits : PlaysTo receives (finds_none ∷ []) (Waits (OnArrived 3 waiting))
  pub waits_longer : ¬ WaitsFor (OnArrived 4 waiting) (finds_none ∷ [])
  -- A receive that took a message takes no other one. No result is right for two messages taken.
  pub takes : PlaysTo receives (takes_it ∷ []) (Goes (AtReceiveGiveback 1 (pos 5) (104 ∷ [])))
  pub takes_another : (state : State Receives) → ¬ PlaysTo receives (takes_it ∷ takes_it ∷ []) state
  pub taken_twice : (ending : Ending) → ¬ IsRightAnswer receives (takes_it ∷ takes_it ∷ []) ending
  -- To take a message and to remove a queue are two effects, and so are two messages taken.
  pub two_effects : ¬ (effects (takes_it ∷ discards ∷ []) ≤ 1)
  pub same_effects : ¬ (effects (takes_it ∷ takes_it ∷ []) ≤ 1)
  -- A full queue means EAGAIN for a send that does not wait, and for no other send.
  pub full : EndsIn (sends IPC_NOWAIT) (finds_it_full ∷ []) (Refused EAGAIN)
  pub full_sent : ¬ EndsIn (sends IPC_NOWAIT) (finds_it_full ∷ []) Zero
  pub full_waits : ¬ EndsIn (sends IPC_CREAT) (finds_it_full ∷ []) (Refused EAGAIN)
  -- A removal is over after its identifier was forgotten and its block was released, and not
  -- before.
  pub gone : EndsIn removes (discards ∷ forgets ∷ releases ∷ []) Zero
  pub gone_early : ¬ EndsIn removes (discards ∷ []) Zero
  pub tended : IsTended (discards ∷ []) (Goes (AtForget (pos 259) 1))
  pub untended : ¬ IsTended {kind = Removes} (discards ∷ []) (Over Zero)
