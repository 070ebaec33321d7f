-- A send that waits for blocks below its goal waits while too few are free. It read the released
-- count before it was refused. So as long as the count is not above that value, no chain came back
-- since the refusal, and reservations since then only took blocks.
use Rattle.std.proofs.Common.{◌≡◌, ◌⊎◌, inl, inr, ℕ, suc, ◌+◌, ◌<◌, ◌≤◌, Bool, true, false, cond, List, [], ◌∷◌, ◌++◌}
use Rattle.std.proofs.Common.{Option, None, Some, refl, sym, ap, subst, ◌∙◌, arith, length, slice_get, slice_set}
use Rattle.sysv_model.specs.declared.cred.Cred.{Cred}
use Rattle.sysv_model.specs.declared.errno.Errno.{Errno}
use Rattle.sysv_model.specs.declared.errno.Errno.TheVariants.{EAGAIN, EINVAL, ENOMSG}
use Rattle.sysv_model.specs.History.{Who, Gone, Full, Fits, NoMatch, Installed}
use Rattle.sysv_model.specs.Registry.{Made, Changed}
use Rattle.sysv_model.specs.Pool.{PoolCall, Reserve, Release, PoolReply, Reserved, TooFew, Released, Foreign, PoolEntry}
use Rattle.sysv_model.specs.Pool.{PoolHistory, blocks_for, frees, released}
use Rattle.sysv_model.specs.Turn.{Op, AtSlot, AtRegistry, AtPool, asked_by, Turn, pool_history}
use Rattle.sysv_pool.specs.State.{returned_by, free_after}
use Rattle.sysv_objects.specs.LegalOp.{IsLegalOp}
use Rattle.sysv_steps.specs.Call.{Kind, Sends, kind_of}
use Rattle.sysv_steps.specs.Call.{SystemCall, Msgsnd}
use Rattle.sysv_steps.specs.State.{Sending, Wait, OnSettled, OnFreed, OnReleased, OnArrived, Afterwards, IsRefused}
use Rattle.sysv_steps.specs.State.{WaitsOn, Phase, AtBegin, AtInstall, AtLook, AtReserve, AtPlace, AtSendGiveback}
use Rattle.sysv_steps.specs.State.{AtTake, State, Goes, Waits, Over, Refused}
use Rattle.sysv_steps.specs.Begin.{is_refused, first}
use Rattle.sysv_steps.specs.Asks.{asks}
use Rattle.sysv_steps.specs.Next.{waits_or, goes_on, next}
use Rattle.sysv_steps.specs.Resume.{resume, awaited}
use Rattle.sysv_core.specs.World.{World, Invocation, Doing, Response, doing_in, starting, begun, value_of}
use Rattle.sysv_core.proofs.Histories.{turn_of, pool_on, preset_pool, one, released_more, returned_more, reserved_more}
use Rattle.sysv_core.proofs.Told.{told, told_is}
use Rattle.sysv_core.proofs.SoundStays.{moved, other, does}
use Rattle.sysv_core.proofs.Moves.{Move, stood, began, turned, awoke, preset_made}

-- ---- what a call keeps

-- The released count that a send read at its start or at the end of a wait for blocks.
abbrev pub read_by_wait : {kind : Kind} → Wait kind → ℕ
read_by_wait (OnFreed goal send) = send.released
read_by_wait (OnReleased goal send) = send.released
read_by_wait wait = 0

abbrev pub read_by : {kind : Kind} → State kind → ℕ
read_by (Goes (AtLook send)) = send.released
read_by (Goes (AtReserve send)) = send.released
read_by (Goes (AtPlace send blocks)) = send.released
read_by (Goes (AtSendGiveback blocks (WaitsOn wait))) = read_by_wait wait
read_by (Waits wait) = read_by_wait wait
read_by state = 0

-- A chain came back since the send read the count, or too few blocks are free. No send releases a
-- chain and then waits for blocks.
abbrev pub IsShort : {kind : Kind} → ℕ → PoolHistory → State kind → Type 0
IsShort size h (Waits (OnReleased goal send)) =
    (goal ≡ send.released + 1) × ((send.released < released h) ⊎ (free_after size h < blocks_for (length send.text)))
IsShort size h (Goes (AtSendGiveback blocks (WaitsOn (OnReleased goal send)))) = ⊥
IsShort size h state = Unit {0}

pub record IsRight {kind : Kind} (size : ℕ) (h : PoolHistory) (state : State kind) : Type 0 where
  pub read : read_by state ≤ released h
  pub short : IsShort size h state

-- ---- one more turn at the pool

-- A turn counts at the pool, or it frees nothing.
counts_or_not : (call : PoolCall) (reply : PoolReply) → (one (frees reply) ≡ 1) ⊎ (returned_by call reply ≡ 0)
counts_or_not call Released = inl refl
counts_or_not (Reserve size) reply = inr refl
counts_or_not (Release blocks) (Reserved n) = inr refl
counts_or_not (Release blocks) TooFew = inr refl
counts_or_not (Release blocks) Foreign = inr refl

no_more_free : (size : ℕ) (h : PoolHistory) (e : PoolEntry) → returned_by e.call e.reply ≡ 0 →
    free_after size (h ++ e ∷ []) ≤ free_after size h
no_more_free size h e none = omega (arith, none, returned_more h e, reserved_more h e)

short_more : (size : ℕ) (h : PoolHistory) (e : PoolEntry) (send : Sending) → send.released ≤ released h →
    (send.released < released h) ⊎ (free_after size h < blocks_for (length send.text)) →
    (send.released < released (h ++ e ∷ [])) ⊎ (free_after size (h ++ e ∷ []) < blocks_for (length send.text))
short_more size h e send read (inl since) = inl (omega (arith, since, released_more h e))
short_more size h e send read (inr few) = elim (counts_or_not e.call e.reply) [
  | inl counts ↦ inl (omega (arith, read, counts, released_more h e))
  | inr none ↦ inr (omega (arith, few, no_more_free size h e none))
]

still_short : {kind : Kind} (size : ℕ) (h : PoolHistory) (e : PoolEntry) (state : State kind) →
    read_by state ≤ released h →
    IsShort size h state → IsShort size (h ++ e ∷ []) state
still_short size h e (Waits (OnReleased goal send)) read s = (s.0, short_more size h e send read s.1)
still_short size h e (Goes (AtSendGiveback blocks (WaitsOn (OnReleased goal send)))) read s = s
still_short size h e state read s = tt

right_more : {kind : Kind} (size : ℕ) (h : PoolHistory) (e : PoolEntry) (state : State kind) → IsRight size h state →
    IsRight size (h ++ e ∷ []) state
right_more size h e state r =
    record { read = omega (arith, r.read, released_more h e); short = still_short size h e state r.read r.short }

-- ---- where a turn leads

-- The step is the look before which the send did not know that its queue is live.
abbrev pub IsLookOf : {kind : Kind} → Phase kind → Sending → Type 0
IsLookOf (AtLook before) send = send ≡ record before { seen = true }
IsLookOf phase send = ⊥

-- The step is the reserve of this send.
abbrev pub IsReserveOf : {kind : Kind} → Phase kind → Sending → Type 0
IsReserveOf (AtReserve before) send = before ≡ send
IsReserveOf phase send = ⊥

-- A send reserves after a look, and waits for blocks after a reserve.
abbrev pub Comes : {kind : Kind} → Phase kind → State kind → Type 0
Comes phase (Goes (AtReserve send)) = IsLookOf phase send
Comes phase (Waits (OnReleased goal send)) = IsReserveOf phase send
Comes phase state = Unit {0}

abbrev read_in : {kind : Kind} → Option (State kind) → ℕ
read_in None = 0
read_in (Some state) = read_by state

abbrev IsShortIn : {kind : Kind} → ℕ → PoolHistory → Option (State kind) → Type 0
IsShortIn size h None = Unit {0}
IsShortIn size h (Some state) = IsShort size h state

abbrev ComesIn : {kind : Kind} → Phase kind → Option (State kind) → Type 0
ComesIn phase None = Unit {0}
ComesIn phase (Some state) = Comes phase state

-- What the turn leads to, by the released count that the call had read.
pub record FollowsIn {kind : Kind} (size : ℕ) (h : PoolHistory) (phase : Phase kind)
    (state : Option (State kind)) : Type 0 where
  pub read : read_in state ≤ read_by (Goes phase)
  pub short : IsShortIn size h state
  pub comes : ComesIn phase state

abbrev pub Follows : {kind : Kind} → ℕ → PoolHistory → Phase kind → State kind → Type 0
Follows size h phase state = FollowsIn size h phase (Some state)

-- A call that is refused, or waits for something other than blocks.
full_waits : (size : ℕ) (h : PoolHistory) (send : Sending) (freed : ℕ) (nowait : Bool) (why : Errno) (same : Sending) →
    same.released ≡ send.released → Follows size h (AtLook send) (goes_on (waits_or nowait (OnFreed freed same) why))
full_waits size h send freed true why same is = record { read = omega arith; short = tt; comes = tt }
full_waits size h send freed false why same is = record { read = omega (arith, is); short = tt; comes = tt }

full_gives_back : (size : ℕ) (h : PoolHistory) (send : Sending) (blocks freed many : ℕ) (nowait : Bool) (why : Errno)
    (same : Sending) → same.released ≡ send.released →
    Follows size h (AtPlace send blocks) (Goes (AtSendGiveback many (waits_or nowait (OnFreed freed same) why)))
full_gives_back size h send blocks freed many true why same is = record { read = omega arith; short = tt; comes = tt }
full_gives_back size h send blocks freed many false why same is =
    record { read = omega (arith, is); short = tt; comes = tt }

none_named : {kind : Kind} (size : ℕ) (h : PoolHistory) (phase : Phase kind) (nowait : Bool) (wait : Wait kind)
    (why : Errno) →
    read_by_wait wait ≡ 0 → IsShort size h (Waits wait) → Comes phase (Waits wait) →
    Follows size h phase (goes_on (waits_or nowait wait why))
none_named size h phase true wait why none s c = record { read = omega arith; short = tt; comes = tt }
none_named size h phase false wait why none s c = record { read = omega (arith, none); short = s; comes = c }

too_few : (size : ℕ) (h : PoolHistory) (send : Sending) (nowait : Bool) (why : Errno) →
    free_after size h < blocks_for (length send.text) →
    Follows size h (AtReserve send) (goes_on (waits_or nowait (OnReleased (send.released + 1) send) why))
too_few size h send true why few = record { read = omega arith; short = tt; comes = tt }
too_few size h send false why few = record { read = omega arith; short = (refl, inr few); comes = refl }

plain : {kind : Kind} (size : ℕ) (h : PoolHistory) (phase : Phase kind) (state : Option (State kind)) →
    read_in state ≡ 0 →
    IsShortIn size h state → ComesIn phase state → FollowsIn size h phase state
plain size h phase state none s c = record { read = omega (arith, none); short = s; comes = c }

afterwards_follows : (size : ℕ) (h : PoolHistory) (blocks : ℕ) (afterwards : Afterwards Sends) →
    IsShort size h (Goes (AtSendGiveback blocks afterwards)) →
    Follows size h (AtSendGiveback blocks afterwards) (goes_on afterwards)
afterwards_follows size h blocks (IsRefused why) s = record { read = omega arith; short = tt; comes = tt }
afterwards_follows size h blocks (WaitsOn (OnReleased goal send)) s = absurd s
afterwards_follows size h blocks (WaitsOn wait) s = record { read = omega arith; short = tt; comes = tt }

followed_told : {kind : Kind} (g size : ℕ) (turns : List Turn) (phase : Phase kind) (now : ℕ) (op : Op) →
    IsShort size (pool_history turns) (Goes phase) → IsLegalOp g size turns (told (asks phase now) op) →
    FollowsIn size (pool_history turns) phase (next phase (told (asks phase now) op))
followed_told g size turns (AtLook send) now (AtSlot slot c (Full freed)) s l =
    full_waits size _ send (freed + 1) send.nowait EAGAIN (record send { seen = true }) refl
followed_told g size turns (AtLook send) now (AtSlot slot c Fits) s l =
    record { read = omega arith; short = tt; comes = refl }
followed_told g size turns (AtReserve send) now (AtPool c (Reserved blocks)) s l =
    record { read = omega arith; short = tt; comes = tt }
followed_told g size turns (AtReserve send) now (AtPool c TooFew) s l =
    too_few size (pool_history turns) send send.nowait EAGAIN l
followed_told g size turns (AtReserve send) now op s l = absurd l
followed_told g size turns (AtPlace send blocks) now (AtSlot slot c (Full freed)) s l =
    full_gives_back size _ send blocks (freed + 1) blocks send.nowait EAGAIN (record send { seen = true }) refl
followed_told g size turns (AtSendGiveback blocks afterwards) now (AtPool c Released) s l =
    afterwards_follows size (pool_history turns) blocks afterwards s
followed_told g size turns (AtSendGiveback blocks afterwards) now (AtPool c Foreign) s l =
    afterwards_follows size (pool_history turns) blocks afterwards s
followed_told g size turns (AtTake receive) now (AtSlot slot c (NoMatch arrived)) s l =
    none_named size _ (AtTake receive) receive.nowait (OnArrived (arrived + 1) (record receive { seen = true })) ENOMSG
    refl tt tt
followed_told g size turns (AtInstall get id) now (AtSlot slot c (Installed true)) s l =
    plain size _ (AtInstall get id) _ refl tt tt
followed_told g size turns (AtBegin get) now (AtRegistry c (Made id)) s l = plain size _ (AtBegin get) _ refl tt tt
followed_told g size turns phase now (AtSlot slot c Gone) s l = plain size _ phase _ refl tt tt
followed_told g size turns phase now (AtSlot slot c reply) s l = plain size _ phase _ refl tt tt
followed_told g size turns phase now (AtRegistry c (Changed done)) s l = plain size _ phase _ refl tt tt
followed_told g size turns phase now (AtRegistry c reply) s l = plain size _ phase _ refl tt tt
followed_told g size turns phase now (AtPool c Released) s l = plain size _ phase _ refl tt tt
followed_told g size turns phase now (AtPool c Foreign) s l = plain size _ phase _ refl tt tt
followed_told g size turns phase now (AtPool c reply) s l = plain size _ phase _ refl tt tt

-- Where a legal turn leads.
pub followed : {kind : Kind} (g size : ℕ) (turns : List Turn) (phase : Phase kind) (now : ℕ) (op : Op)
    (state : State kind) →
    IsShort size (pool_history turns) (Goes phase) → asked_by op ≡ asks phase now → IsLegalOp g size turns op →
    next phase op ≡ Some state → Follows size (pool_history turns) phase state
followed g size turns phase now op state short asked legal goes =
    let is = told_is (asks phase now) op asked in
    subst (FollowsIn size (pool_history turns) phase) (ap (next phase) is ∙ goes)
    (followed_told g size turns phase now op short (subst (IsLegalOp g size turns) (sym is) legal))

-- ---- every actor

abbrev pub AreRight : ℕ → List Turn → List (Option Doing) → Type 0
AreRight blocks turns actors =
    (place : ℕ) (d : Doing) → slice_get actors place ≡ Some (Some d) → IsRight blocks (pool_history turns) d.state

-- The same after one more turn of any caller.
still_right : {kind : Kind} (blocks : ℕ) (turns : List Turn) (who : Who) (op : Op) (state : State kind) →
    IsRight blocks (pool_history turns) state → IsRight blocks (pool_history (turns ++ turn_of who op ∷ [])) state
still_right blocks turns who op state r = pool_on (λ h. IsRight blocks h state) turns who op r
    (λ e. right_more blocks (pool_history turns) e state r)

module _ (w : World) (all : AreRight w.blocks w.turns w.actors) (place : ℕ) (call : Invocation) where
  turn_right : (phase : Phase (kind_of call.asked)) (now : ℕ) (op : Op) (state : State (kind_of call.asked)) →
      slice_get w.actors place ≡ Some (Some record { call = call; state = Goes phase }) →
      asked_by op ≡ asks phase now → IsLegalOp w.generation w.blocks w.turns op → next phase op ≡ Some state →
      AreRight w.blocks (w.turns ++ turn_of call.who op ∷ []) (slice_set w.actors place (doing_in call state))
  turn_right phase now op state there asked legal goes = λ at d here.
      elim (does w.actors place (Some record { call = call; state = Goes phase }) call state at d there here) [
        | moved same is ↦
            let was = all place (record { call = call; state = Goes phase }) there in
            let f = followed w.generation w.blocks w.turns phase now op state was.short asked legal goes in
            still_right w.blocks w.turns call.who op d.state
            (subst (λ (x : Doing). IsRight w.blocks (pool_history w.turns) x.state) (sym is)
            record { read = omega (arith, f.read, was.read); short = f.short })
        | other old ↦ still_right w.blocks w.turns call.who op d.state (all at d old)
      ]

  -- A call that continues without a turn, or that starts.
  stand_right : (was : Option Doing) (state : State (kind_of call.asked)) → slice_get w.actors place ≡ Some was →
      IsRight w.blocks (pool_history w.turns) state →
      AreRight w.blocks w.turns (slice_set w.actors place (doing_in call state))
  stand_right was state there right = λ at d here. elim (does w.actors place was call state at d there here) [
    | moved same is ↦ subst (λ (x : Doing). IsRight w.blocks (pool_history w.turns) x.state) (sym is) right
    | other old ↦ all at d old
  ]

resumed_right : {kind : Kind} (blocks : ℕ) (turns : List Turn) (wait : Wait kind) →
    IsRight blocks (pool_history turns) (Waits wait) →
    IsRight blocks (pool_history turns) (Goes (resume wait (value_of turns (awaited wait))))
resumed_right blocks turns (OnSettled goal get) r = record { read = omega arith; short = tt }
resumed_right blocks turns (OnFreed goal send) r = record { read = r.read; short = tt }
resumed_right blocks turns (OnReleased goal send) r = record { read = omega arith; short = tt }
resumed_right blocks turns (OnArrived goal receive) r = record { read = omega arith; short = tt }

begun_right : (blocks : ℕ) (h : PoolHistory) (cred : Cred) (asked : SystemCall) (b : Bool) →
    IsRight blocks h (cond b (Over (Refused EINVAL)) (Goes (first cred asked (released h))))
begun_right blocks h cred asked true = record { read = omega arith; short = tt }
begun_right blocks h cred (Msgsnd id mtype flags text) false = record { read = omega arith; short = tt }
begun_right blocks h cred asked false = record { read = omega arith; short = tt }

-- ---- what happens

abbrev pub AllRight : World → Type 0
AllRight w = AreRight w.blocks w.turns w.actors

pub move_right : (w after : World) (responses : List Response) → AllRight w → Move w responses after → AllRight after
move_right w after responses all (stood t) = subst AllRight (sym t.1) all
move_right w after responses all (began place cred asked there t) =
    let call = starting w (suc place) cred asked in
    subst AllRight (sym t.1)
    (stand_right w all place call None (begun call) there
    (begun_right w.blocks (pool_history w.turns) cred asked (is_refused asked)))
move_right w after responses all (turned place now call phase there t) =
    subst AllRight (sym t.6) (turn_right w all place call phase now t.0 t.1 there t.2 t.3 t.4)
move_right w after responses all (awoke place call wait there reached gave is) =
    let d : Doing = record { call = call; state = Waits wait } in
    subst AllRight (sym is)
    (stand_right w all place call (Some d) (Goes (resume wait (value_of w.turns (awaited wait)))) there
    (resumed_right w.blocks w.turns wait (all place d there)))
-- A preset makes no turn at the pool.
move_right w after responses all (preset_made unused gave is) =
    subst AllRight (sym is)
    (λ place d there. subst (λ h. IsRight w.blocks h d.state) (sym (preset_pool w.turns)) (all place d there))

-- ---- who waits for blocks

-- If this is a send that waits for blocks below its goal, it has too few of them.
abbrev pub IsShortBelow : {kind : Kind} → ℕ → PoolHistory → State kind → Type 0
IsShortBelow size h (Waits (OnReleased goal send)) =
    released h < goal → free_after size h < blocks_for (length send.text)
IsShortBelow size h state = Unit {0}

-- Each send that waits for blocks below its goal has too few of them.
abbrev pub AreShort : World → Type 0
AreShort w = (place : ℕ) (d : Doing) → slice_get w.actors place ≡ Some (Some d) →
    IsShortBelow w.blocks (pool_history w.turns) d.state

is_short : (size : ℕ) (h : PoolHistory) (goal : ℕ) (send : Sending) → released h < goal →
    IsShort size h (Waits (OnReleased goal send)) → free_after size h < blocks_for (length send.text)
is_short size h goal send below (is, inl since) = absurd (omega (arith, below, is, since))
is_short size h goal send below (is, inr few) = few

short_below : {kind : Kind} (size : ℕ) (h : PoolHistory) (state : State kind) → IsShort size h state →
    IsShortBelow size h state
short_below size h (Waits (OnReleased goal send)) s = λ below. is_short size h goal send below s
short_below size h state s = tt

pub are_short : (w : World) → AllRight w → AreShort w
are_short w all = λ place d there.
    short_below w.blocks (pool_history w.turns) d.state (all place d there).short
