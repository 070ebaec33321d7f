-- A call has at most one effect. Each state leaves the call one more effect, or none. A step with an
-- effect leads to a state that leaves none, and no step leads back from there.
use Rattle.std.proofs.Common.{◌≡◌, ℕ, ◌+◌, ◌≤◌, Bool, true, false, List, [], ◌∷◌, ◌++◌, Option, None, Some, cond, ap}
use Rattle.std.proofs.Common.{◌∙◌, arith, length}
use Rattle.std.specs.List.{count_by, flat_map}
use Rattle.std.proofs.lemmas.List.{append-nil, length-append}
use Rattle.std.proofs.lemmas.Grind.{flat_map-append}
use Rattle.std.proofs.lemmas.List.Sums.{sum_by-append}
use Rattle.sysv_model.specs.declared.cred.Cred.{Cred}
use Rattle.sysv_model.specs.History.{Call, Reply, Installed, Gone}
use Rattle.sysv_model.specs.Registry.{RegistryCall, RegistryReply, Changed}
use Rattle.sysv_model.specs.Pool.{PoolCall, PoolReply, Released}
use Rattle.sysv_model.specs.Turn.{Op, AtSlot, AtRegistry, AtPool}
use Rattle.sysv_steps.specs.Call.{Kind, kind_of}
use Rattle.sysv_steps.specs.Call.{SystemCall}
use Rattle.sysv_steps.specs.State.{Wait, OnSettled, OnFreed, OnReleased, OnArrived, Phase, AtBegin, AtInstall, AtSettle}
use Rattle.sysv_steps.specs.State.{AtProbe, AtUnmake, AtLook, AtReserve, AtPlace, AtSendGiveback, AtTake}
use Rattle.sysv_steps.specs.State.{AtReceiveGiveback, AtStat, AtSet, AtSetGiveback, AtRemove, AtForget}
use Rattle.sysv_steps.specs.State.{AtRemoveGiveback, State, Goes, Waits, Over}
use Rattle.sysv_steps.specs.Begin.{begin}
use Rattle.sysv_steps.specs.Next.{next, next_of_slot, next_of_registry, next_of_pool}
use Rattle.sysv_steps.specs.Resume.{resume}
use Rattle.sysv_steps.specs.Played.{Plays, begins, steps, resumes}
use Rattle.sysv_steps.specs.Answers.{made_by, was_accepted, taken_by, was_changed, was_removed}
use Rattle.sysv_steps.specs.Effects.{effects}

-- The number of effects of one operation.
abbrev effect : Op → ℕ
effect op =
    length (made_by op) + cond {A = ℕ} (was_accepted op) 1 0 + length (taken_by op)
    + cond {A = ℕ} (was_changed op) 1 0 + cond {A = ℕ} (was_removed op) 1 0

-- The number of effects that a call in this state may still have.
abbrev left : {kind : Kind} → State kind → ℕ
left (Goes (AtInstall get id)) = 0
left (Goes (AtSettle id)) = 0
left (Goes (AtUnmake id)) = 0
left (Goes (AtReceiveGiveback blocks mtype text)) = 0
left (Goes AtSetGiveback) = 0
left (Goes (AtForget id blocks)) = 0
left (Goes (AtRemoveGiveback blocks)) = 0
left (Over ending) = 0
left state = 1

one_at_most : {kind : Kind} (state : State kind) → left state ≤ 1
one_at_most (Goes (AtInstall get id)) = omega arith
one_at_most (Goes (AtSettle id)) = omega arith
one_at_most (Goes (AtUnmake id)) = omega arith
one_at_most (Goes (AtReceiveGiveback blocks mtype text)) = omega arith
one_at_most (Goes AtSetGiveback) = omega arith
one_at_most (Goes (AtForget id blocks)) = omega arith
one_at_most (Goes (AtRemoveGiveback blocks)) = omega arith
one_at_most (Over ending) = omega arith
one_at_most state = omega arith

-- The same of a state that the table may lack.
abbrev left_of : {kind : Kind} → Option (State kind) → ℕ
left_of None = 2
left_of (Some state) = left state

-- ---- one operation

at_slot : {kind : Kind} (phase : Phase kind) (slot : ℕ) (call : Call) (reply : Reply) (after : State kind) →
    next_of_slot phase reply ≡ Some after → effect (AtSlot slot call reply) + left after ≤ left (Goes phase)
at_slot (AtInstall get id) slot call (Installed true) after n = omega (arith, ap left_of n, one_at_most after)
at_slot (AtInstall get id) slot call (Installed false) after n = omega (arith, ap left_of n, one_at_most after)
at_slot (AtInstall get id) slot call reply after n = omega (arith, ap left_of n, one_at_most after)
at_slot (AtProbe get id settled) slot call Gone after n = omega (arith, ap left_of n, one_at_most after)
at_slot (AtProbe get id settled) slot call reply after n = omega (arith, ap left_of n, one_at_most after)
at_slot (AtLook send) slot call Gone after n = omega (arith, ap left_of n, one_at_most after)
at_slot (AtLook send) slot call reply after n = omega (arith, ap left_of n, one_at_most after)
at_slot (AtPlace send blocks) slot call Gone after n = omega (arith, ap left_of n, one_at_most after)
at_slot (AtPlace send blocks) slot call reply after n = omega (arith, ap left_of n, one_at_most after)
at_slot (AtTake receive) slot call Gone after n = omega (arith, ap left_of n, one_at_most after)
at_slot (AtTake receive) slot call reply after n = omega (arith, ap left_of n, one_at_most after)
at_slot (AtStat cred id) slot call Gone after n = omega (arith, ap left_of n, one_at_most after)
at_slot (AtStat cred id) slot call reply after n = omega (arith, ap left_of n, one_at_most after)
at_slot (AtSet cred id to) slot call Gone after n = omega (arith, ap left_of n, one_at_most after)
at_slot (AtSet cred id to) slot call reply after n = omega (arith, ap left_of n, one_at_most after)
at_slot (AtRemove cred id) slot call Gone after n = omega (arith, ap left_of n, one_at_most after)
at_slot (AtRemove cred id) slot call reply after n = omega (arith, ap left_of n, one_at_most after)
at_slot phase slot call reply after n = absurd cc

at_registry : {kind : Kind} (phase : Phase kind) (call : RegistryCall) (reply : RegistryReply) (after : State kind) →
    next_of_registry phase reply ≡ Some after → effect (AtRegistry call reply) + left after ≤ left (Goes phase)
at_registry (AtBegin get) call (Changed done) after n = omega (arith, ap left_of n, one_at_most after)
at_registry (AtBegin get) call reply after n = omega (arith, ap left_of n, one_at_most after)
at_registry (AtSettle id) call (Changed done) after n = omega (arith, ap left_of n, one_at_most after)
at_registry (AtSettle id) call reply after n = omega (arith, ap left_of n, one_at_most after)
at_registry (AtUnmake id) call (Changed done) after n = omega (arith, ap left_of n, one_at_most after)
at_registry (AtUnmake id) call reply after n = omega (arith, ap left_of n, one_at_most after)
at_registry (AtForget id blocks) call (Changed done) after n = omega (arith, ap left_of n, one_at_most after)
at_registry (AtForget id blocks) call reply after n = omega (arith, ap left_of n, one_at_most after)
at_registry phase call reply after n = absurd cc

at_pool : {kind : Kind} (phase : Phase kind) (call : PoolCall) (reply : PoolReply) (after : State kind) →
    next_of_pool phase reply ≡ Some after → effect (AtPool call reply) + left after ≤ left (Goes phase)
at_pool (AtReserve send) call Released after n = omega (arith, ap left_of n, one_at_most after)
at_pool (AtReserve send) call reply after n = omega (arith, ap left_of n, one_at_most after)
at_pool (AtSendGiveback blocks afterwards) call Released after n = omega (arith, ap left_of n, one_at_most after)
at_pool (AtSendGiveback blocks afterwards) call reply after n = omega (arith, ap left_of n, one_at_most after)
at_pool (AtReceiveGiveback blocks mtype text) call Released after n = omega (arith, ap left_of n, one_at_most after)
at_pool (AtReceiveGiveback blocks mtype text) call reply after n = omega (arith, ap left_of n, one_at_most after)
at_pool AtSetGiveback call Released after n = omega (arith, ap left_of n, one_at_most after)
at_pool AtSetGiveback call reply after n = omega (arith, ap left_of n, one_at_most after)
at_pool (AtRemoveGiveback blocks) call Released after n = omega (arith, ap left_of n, one_at_most after)
at_pool (AtRemoveGiveback blocks) call reply after n = omega (arith, ap left_of n, one_at_most after)
at_pool phase call reply after n = absurd cc

one_step : {kind : Kind} (phase : Phase kind) (op : Op) (after : State kind) → next phase op ≡ Some after →
    effect op + left after ≤ left (Goes phase)
one_step phase (AtSlot slot call reply) after n = at_slot phase slot call reply after n
one_step phase (AtRegistry call reply) after n = at_registry phase call reply after n
one_step phase (AtPool call reply) after n = at_pool phase call reply after n

one_wait : {kind : Kind} (wait : Wait kind) (value : ℕ) → left (Goes (resume wait value)) ≤ left (Waits wait)
one_wait (OnSettled goal get) value = omega arith
one_wait (OnFreed goal send) value = omega arith
one_wait (OnReleased goal send) value = omega arith
one_wait (OnArrived goal receive) value = omega arith

-- ---- all of them

counted : (p : Op → Bool) (ops : List Op) (op : Op) →
    count_by p (ops ++ op ∷ []) ≡ count_by p ops + cond {A = ℕ} (p op) 1 0
counted p ops op = omega (arith, sum_by-append (λ (d : Op). cond {A = ℕ} (p d) 1 0) ops (op ∷ []))

gathered : {A : Type 0} (f : Op → List A) (ops : List Op) (op : Op) →
    length (flat_map f (ops ++ op ∷ [])) ≡ length (flat_map f ops) + length (f op)
gathered f ops op =
    ap length (flat_map-append f ops (op ∷ []) ∙ ap (λ l. flat_map f ops ++ l) (append-nil (f op)))
    ∙ length-append (flat_map f ops) (f op)

one_more : (ops : List Op) (op : Op) → effects (ops ++ op ∷ []) ≡ effects ops + effect op
one_more ops op =
    omega (
      arith,
      gathered made_by ops op,
      counted was_accepted ops op,
      gathered taken_by ops op,
      counted was_changed ops op,
      counted was_removed ops op,
    )

along : {kind : Kind} (from : State kind) (ops : List Op) (state : State kind) → Plays from ops state →
    effects ops + left state ≤ left from
along from _ _ begins = omega arith
along from _ _ (steps {ops} {phase} op now after p asked n) =
    omega (arith, one_more ops op, one_step phase op after n, along from ops (Goes phase) p)
along from _ _ (resumes {ops} {wait} value p least) =
    omega (arith, one_wait wait value, along from ops (Waits wait) p)

pub one_effect : (cred : Cred) (asked : SystemCall) (released : ℕ) (ops : List Op) (state : State (kind_of asked)) →
    Plays (begin cred asked released) ops state → effects ops ≤ 1
one_effect cred asked released ops state p =
    omega (arith, along (begin cred asked released) ops state p, one_at_most (begin cred asked released))
