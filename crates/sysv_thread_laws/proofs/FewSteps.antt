-- Each step of a call leads to a state with fewer steps before the next wait or the end.
use Rattle.std.proofs.Common.{◌≡◌, ◌≤◌, ◌+◌, ℕ, ℤ, true, false, List, Option, Some, None, sym, subst, arith}
use Rattle.sysv_model.specs.History.{Reply, Installed, Gone, Denied, Granted, Full, Fits, Accepted, NoMatch, TooLong}
use Rattle.sysv_model.specs.History.{Taken, Told, Done, Discarded, Refused as IsRefusedFor}
use Rattle.sysv_model.specs.Registry.{RegistryReply, Found, Made, Busy, Unbound, Changed}
use Rattle.sysv_model.specs.Pool.{PoolReply, Reserved, TooFew, Released, Foreign}
use Rattle.sysv_model.specs.Turn.{Op, AtSlot, AtRegistry, AtPool}
use Rattle.sysv_steps.specs.Call.{Kind}
use Rattle.sysv_steps.specs.State.{Getting, Sending, Receiving, Afterwards, IsRefused, WaitsOn, Phase, AtBegin}
use Rattle.sysv_steps.specs.State.{AtInstall, AtSettle, AtProbe, AtUnmake, AtLook, AtReserve, AtPlace, AtSendGiveback}
use Rattle.sysv_steps.specs.State.{AtTake, AtReceiveGiveback, AtStat, AtSet, AtSetGiveback, AtRemove, AtForget}
use Rattle.sysv_steps.specs.State.{AtRemoveGiveback, Zero, Got, State, Goes, Waits, Over}
use Rattle.sysv_steps.specs.Next.{goes_on, after_begin, after_install, after_settle, after_unmake, after_probe}
use Rattle.sysv_steps.specs.Next.{after_look, after_reserve, after_place, after_take, after_stat, after_set}
use Rattle.sysv_steps.specs.Next.{after_remove, after_forget, after_giveback, next}
use Rattle.sysv_steps.specs.Resume.{resume}
use Rattle.sysv_steps.specs.Played.{Plays, begins, steps, resumes}
use Rattle.sysv_steps.specs.Stepping.{when_worn}
use Rattle.sysv_service.specs.Ran as ran
use Rattle.sysv_service.specs.Ran.{Pass, Ran, TurnsBack}
use Rattle.sysv_thread_laws.specs.OwnSteps.{most_turns, turns_since, EachCallMakesFewTurns, gates_when_worn}
use Rattle.sysv_thread_laws.specs.OwnSteps.{gates_since, EachCallComesToFewGates}

-- The most steps from here to the end or to the next wait.
abbrev pub left_at : {kind : Kind} → Phase kind → ℕ
left_at (AtBegin get) = 3
left_at (AtInstall get id) = 2
left_at (AtSettle id) = 1
left_at (AtProbe get id settled) = 1
left_at (AtUnmake id) = 1
left_at (AtLook send) = 4
left_at (AtReserve send) = 3
left_at (AtPlace send blocks) = 2
left_at (AtSendGiveback blocks afterwards) = 1
left_at (AtTake receive) = 2
left_at (AtReceiveGiveback blocks mtype text) = 1
left_at (AtStat cred id) = 1
left_at (AtSet cred id to) = 2
left_at AtSetGiveback = 1
left_at (AtRemove cred id) = 3
left_at (AtForget id blocks) = 2
left_at (AtRemoveGiveback blocks) = 1

abbrev pub left_in : {kind : Kind} → State kind → ℕ
left_in (Goes phase) = left_at phase
left_in (Waits wait) = 0
left_in (Over ending) = 0

-- The state after a step, if the step has a row, has fewer steps left than that.
abbrev IsLess : {kind : Kind} → ℕ → Option (State kind) → Type 0
IsLess left None = Unit {0}
IsLess left (Some state) = left_in state + 1 ≤ left

-- ---- the table

-- A call that is over or waits has no step left.
goes_on_less : {kind : Kind} (left : ℕ) (afterwards : Afterwards kind) → 1 ≤ left →
    left_in (goes_on afterwards) + 1 ≤ left
goes_on_less left (IsRefused why) some = omega (arith, some)
goes_on_less left (WaitsOn wait) some = omega (arith, some)

begin_less : (get : Getting) (reply : RegistryReply) → IsLess 3 (after_begin get reply)
begin_less get (Found id settled) = omega arith
begin_less get (Made id) = omega arith
begin_less get (Busy settled) = omega arith
begin_less get (Unbound why) = omega arith
begin_less get (Changed done) = tt

install_less : (id : ℤ) (reply : Reply) → IsLess 2 (after_install id reply)
install_less id (Installed true) = omega arith
install_less id (Installed false) = omega arith
install_less id reply = tt

settle_less : (id : ℤ) (reply : RegistryReply) → IsLess 1 (after_settle id reply)
settle_less id (Changed done) = omega arith
settle_less id reply = tt

unmake_less : (reply : RegistryReply) → IsLess 1 (after_unmake reply)
unmake_less (Changed done) = omega arith
unmake_less reply = tt

probe_less : (get : Getting) (id : ℤ) (settled : ℕ) (reply : Reply) → IsLess 1 (after_probe get id settled reply)
probe_less get id settled Gone = omega arith
probe_less get id settled Denied = omega arith
probe_less get id settled Granted = omega arith
probe_less get id settled reply = tt

look_less : (send : Sending) (reply : Reply) → IsLess 4 (after_look send reply)
look_less send Gone = omega arith
look_less send Denied = omega arith
look_less send (Full freed) = goes_on_less 4 _ (omega arith)
look_less send Fits = omega arith
look_less send reply = tt

reserve_less : (send : Sending) (reply : PoolReply) → IsLess 3 (after_reserve send reply)
reserve_less send (Reserved blocks) = omega arith
reserve_less send TooFew = goes_on_less 3 _ (omega arith)
reserve_less send reply = tt

place_less : (send : Sending) (blocks : ℕ) (reply : Reply) → IsLess 2 (after_place send blocks reply)
place_less send blocks Gone = omega arith
place_less send blocks Denied = omega arith
place_less send blocks (Full freed) = omega arith
place_less send blocks (Accepted number) = omega arith
place_less send blocks reply = tt

take_less : (receive : Receiving) (reply : Reply) → IsLess 2 (after_take receive reply)
take_less receive Gone = omega arith
take_less receive Denied = omega arith
take_less receive (NoMatch arrived) = goes_on_less 2 _ (omega arith)
take_less receive TooLong = omega arith
take_less receive (Taken message) = omega arith
take_less receive reply = tt

stat_less : (reply : Reply) → IsLess 1 (after_stat reply)
stat_less (Told stat) = omega arith
stat_less (IsRefusedFor why) = omega arith
stat_less reply = tt

set_less : (reply : Reply) → IsLess 2 (after_set reply)
set_less Done = omega arith
set_less (IsRefusedFor why) = omega arith
set_less reply = tt

remove_less : (id : ℤ) (reply : Reply) → IsLess 3 (after_remove id reply)
remove_less id (Discarded messages) = omega arith
remove_less id (IsRefusedFor why) = omega arith
remove_less id reply = tt

forget_less : (blocks : ℕ) (reply : RegistryReply) → IsLess 2 (after_forget blocks reply)
forget_less blocks (Changed done) = omega arith
forget_less blocks reply = tt

giveback_less : {kind : Kind} (follow : State kind) (reply : PoolReply) → left_in follow + 1 ≤ 1 →
    IsLess 1 (after_giveback follow reply)
giveback_less follow Released less = less
giveback_less follow Foreign less = less
giveback_less follow reply less = tt

next_less : {kind : Kind} (phase : Phase kind) (op : Op) → IsLess (left_at phase) (next phase op)
next_less (AtBegin get) (AtRegistry call reply) = begin_less get reply
next_less (AtInstall get id) (AtSlot slot call reply) = install_less id reply
next_less (AtSettle id) (AtRegistry call reply) = settle_less id reply
next_less (AtProbe get id settled) (AtSlot slot call reply) = probe_less get id settled reply
next_less (AtUnmake id) (AtRegistry call reply) = unmake_less reply
next_less (AtLook send) (AtSlot slot call reply) = look_less send reply
next_less (AtReserve send) (AtPool call reply) = reserve_less send reply
next_less (AtPlace send blocks) (AtSlot slot call reply) = place_less send blocks reply
next_less (AtSendGiveback blocks afterwards) (AtPool call reply) =
    giveback_less (goes_on afterwards) reply (goes_on_less 1 afterwards (omega arith))
next_less (AtTake receive) (AtSlot slot call reply) = take_less receive reply
next_less (AtReceiveGiveback blocks mtype text) (AtPool call reply) =
    giveback_less (Over (Got mtype text)) reply (omega arith)
next_less (AtStat cred id) (AtSlot slot call reply) = stat_less reply
next_less (AtSet cred id to) (AtSlot slot call reply) = set_less reply
next_less AtSetGiveback (AtPool call reply) =
    giveback_less (Over Zero) reply (omega arith)
next_less (AtRemove cred id) (AtSlot slot call reply) = remove_less id reply
next_less (AtForget id blocks) (AtRegistry call reply) = forget_less blocks reply
next_less (AtRemoveGiveback blocks) (AtPool call reply) =
    giveback_less (Over Zero) reply (omega arith)
next_less phase op = tt

pub goes_less : {kind : Kind} (phase : Phase kind) (op : Op) (state : State kind) → next phase op ≡ Some state →
    left_in state + 1 ≤ left_at phase
goes_less phase op state row = subst (IsLess (left_at phase)) row (next_less phase op)

-- ---- along the step table

-- No call has more steps left than one at its start.
pub left_most : {kind : Kind} (phase : Phase kind) → left_at phase ≤ most_turns kind
left_most (AtBegin get) = omega arith
left_most phase = omega arith

in_most : {kind : Kind} (state : State kind) → left_in state ≤ most_turns kind
in_most (Goes phase) = left_most phase
in_most (Waits wait) = omega arith
in_most (Over ending) = omega arith

-- The steps that the call has made and those that are left are few enough.
within : {kind : Kind} (from : State kind) (ops : List Op) (state : State kind) (play : Plays from ops state) →
    turns_since from ops state play + left_in state ≤ most_turns kind
within from _ _ begins = omega (arith, in_most from)
within from _ _ (steps {ops} {phase} op now after play is row) =
    omega (arith, goes_less phase op after row, within from ops (Goes phase) play)
within from _ _ (resumes {ops} {wait} value play least) = omega (arith, left_most (resume wait value))

pub few_turns : EachCallMakesFewTurns
few_turns kind from ops state play = omega (arith, within from ops state play)

-- ---- on threads

-- The same of a step that found its gate worn out.
worn_less : {kind : Kind} (phase : Phase kind) → left_in (when_worn phase) + gates_when_worn phase ≤ left_at phase
worn_less (AtSendGiveback blocks afterwards) = goes_on_less 1 afterwards (omega arith)
worn_less phase = omega arith

abbrev IsLessWorn : {kind : Kind} → Phase kind → State kind → Type 0
IsLessWorn phase state = left_in state + gates_when_worn phase ≤ left_at phase

back_less : {kind : Kind} (phase : Phase kind) (before : Pass) (ops : List Op) (state : State kind) (after : Pass) →
    TurnsBack phase before ops state after → IsLessWorn phase state
back_less (AtInstall get id) before ops state after back =
    subst (IsLessWorn (AtInstall get id)) (sym back.0) (omega arith)
back_less phase before ops state after back = subst (IsLessWorn phase) (sym back.0) (worn_less phase)

module _ {kind : Kind} (may : ℕ → Type 0) (from : State kind) (old : Pass) where
  run_within : (ops : List Op) (state : State kind) (new : Pass) (run : Ran may from old ops state new) →
      gates_since may from old ops state new run + left_in state ≤ most_turns kind
  run_within _ _ _ ran.begins = omega (arith, in_most from)
  run_within _ _ _ (ran.steps {ops} {phase} {mid} state new run step) =
      omega (arith, goes_less phase step.op state step.goes, run_within ops (Goes phase) mid run)
  run_within _ _ _ (ran.turns_back {ops} {phase} {mid} state new run step) =
      omega (
        arith,
        back_less phase (record { seats = step.there; held = mid.held }) step.ops state new step.back,
        run_within ops (Goes phase) mid run,
      )
  run_within _ _ _ (ran.reads {ops} {state} {mid} count value new run read same) = run_within ops state mid run
  run_within _ _ _ (ran.resumes {ops} {wait} {mid} value new run reached read same) =
      omega (arith, left_most (resume wait value))
  run_within _ _ _ (ran.gives_up {ops} {wait} {mid} value new run below read same) = omega arith

pub few_gates : (may : ℕ → Type 0) → EachCallComesToFewGates may
few_gates may kind from old ops state new run = omega (arith, run_within may from old ops state new run)
