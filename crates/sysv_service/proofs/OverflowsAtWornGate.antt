-- Proves that a call that fails with EOVERFLOW has found a gate worn out: no object ever replies
-- EOVERFLOW.
use Rattle.std.proofs.Common.{◌≡◌, ℕ, ℤ, ◌||◌, inl, inr, ◌⊎◌, Bool, true, false, List, [], ◌∷◌, ◌++◌, Option, Some}
use Rattle.std.proofs.Common.{None, Result, Ok, Err, if◌then◌else◌, refl, sym, ap, subst, ◌∙◌}
use Rattle.std.specs.List.{AllByRecursion, flat_map}
use Rattle.sysv_model.specs.declared.attributes.Row.{Row}
use Rattle.sysv_model.specs.declared.errno.Errno.{Errno}
use Rattle.sysv_model.specs.declared.errno.Errno.TheVariants.{EACCES, EAGAIN, EIDRM, EINVAL, ENOMSG, E2BIG, EOVERFLOW}
use Rattle.sysv_model.specs.History.{Seat, Call, Install, Probe, Look, Place as PlaceIt, Take, ReadStat, Set, Remove}
use Rattle.sysv_model.specs.History.{ReadRow, Reply, Refused as IsRefusedFor, Discarded, Shown, Entry}
use Rattle.sysv_model.specs.Registry.{RegistryCall, RegistryReply, RegistryHistory, RegistryEntry, Begin, Settle}
use Rattle.sysv_model.specs.Registry.{Forget, Unbound, Changed}
use Rattle.sysv_model.specs.Pool.{Released as WasReleased, Foreign}
use Rattle.sysv_model.specs.Turn.{OfSlot, OfRegistry, Op, AtSlot, AtRegistry, AtPool}
use Rattle.sysv_keys.specs.LegalReply.{IsLegalReply}
use Rattle.sysv_keys.specs.Represents.{Represents as RegistryRepresents}
use Rattle.sysv_keys.specs.Identifier.{slot_of_id}
use Rattle.sysv_queue.specs.LegalReply.{Legal}
use Rattle.sysv_queue.specs.Slot.{Slot}
use Rattle.sysv_steps.specs.Answers.{refused_by, unbound_by, IsRefusedWith, IsRightAnswer, EachAnswerIsRight}
use Rattle.sysv_steps.specs.Answers.{IsRefusedSo}
use Rattle.sysv_steps.specs.Asks.{asks}
use Rattle.sysv_steps.specs.Begin.{begin}
use Rattle.sysv_steps.specs.Call.{SystemCall, Msgget, Msgsnd, Msgrcv, MsgctlStat, MsgctlSet, MsgctlRmid, Kind, Removes}
use Rattle.sysv_steps.specs.Call.{kind_of}
use Rattle.sysv_steps.specs.Next.{next}
use Rattle.sysv_steps.specs.Resume.{Count, ArrivedOf, FreedOf, Settled, Released, awaited}
use Rattle.sysv_steps.specs.State.{Ending, Refused, Phase, AtInstall, AtRemove, AtForget, AtRemoveGiveback, State, Goes}
use Rattle.sysv_steps.specs.State.{Waits, Over}
use Rattle.sysv_steps.specs.Stepping.{no_moment}
use Rattle.sysv_gate.specs.declared.table.view.Turn.{Turn}
use Rattle.sysv_gate.specs.Gates.{Gateway}
use Rattle.sysv_gate.specs.History.{Moves, IsLegal, after_all}
use Rattle.sysv_service.specs.Counts.{slot_counts, registry_counts}
use Rattle.sysv_service.specs.Reading.{Reads}
use Rattle.sysv_service.specs.Seats.{SlotSeat, RegistrySeat, Seats, TakesTurn, MakesTurnAt, FindsWorn, slot_entry}
use Rattle.sysv_service.specs.Seats.{registry_entry, registry_seen}
use Rattle.sysv_service.specs.SeenHistories.{SeenHistories, OwnTurnsAreLast}
use Rattle.sysv_keys.specs.State.{Registry}
use Rattle.sysv_objects.specs.RegistryTurns.{RegistryMoves}
use Rattle.sysv_objects.specs.SlotTurns.{SlotMoves, slot_call, slot_reply}
use Rattle.sysv_service.specs.Overflows.{FindsWornAt, IsOpenFor, EachOverflowIsAtAWornGate, FindsItWorn, FindsASlotWorn}
use Rattle.sysv_service.specs.Overflows.{IsMarkedAtASlot, EachStopOverflowsAtAWornGate}
use Rattle.sysv_service.specs.PlayedWorn.{Place, AtTheSlot, IsMarkedAt, place_of, place_of_count}
use Rattle.sysv_service.specs.Ran.{Pass, TurnsBack, Ran, FindsTurns, begins, steps, turns_back, reads, resumes}
use Rattle.sysv_service.specs.Ran.{gives_up}
use Rattle.sysv_service.specs.Stopped.{superuser, is_overflow, StopsAt, is_vacant, is_worn, tries, Stops, goes_on}
use Rattle.sysv_service.specs.Stopped as stopped
use Rattle.sysv_service.specs.Told.{TellsRow}
use Rattle.sysv_service.proofs.ResultIsRight.{each_answers_right}
use Rattle.sysv_service.proofs.PlayedWithWorn.{KeepsMarks, turn_keeps, worn_keeps, read_keeps, end_keeps, is_marked}
use Rattle.sysv_service.proofs.PlayedWithWorn.{is_marked_by_wait}

-- ---- no object replies EOVERFLOW

-- The reply of a slot is not EOVERFLOW.
abbrev IsProperReply : Reply → Type 0
IsProperReply (IsRefusedFor EOVERFLOW) = ⊥
IsProperReply reply = Unit {0}

-- The reply of the registry is not EOVERFLOW.
abbrev IsProperUnbound : RegistryReply → Type 0
IsProperUnbound (Unbound EOVERFLOW) = ⊥
IsProperUnbound reply = Unit {0}

-- The turn is not one of a slot that replied EOVERFLOW.
abbrev IsProperAtSlot : Op → Type 0
IsProperAtSlot (AtSlot slot call reply) = IsProperReply reply
IsProperAtSlot op = Unit {0}

-- The turn is not one of the registry that replied EOVERFLOW.
abbrev IsProperAtRegistry : Op → Type 0
IsProperAtRegistry (AtRegistry call reply) = IsProperUnbound reply
IsProperAtRegistry op = Unit {0}

refused_so : (o : Slot) (call : Call) → Legal o call (IsRefusedFor EOVERFLOW) → ⊥
refused_so o (Install id key cred mode now) legal = legal
refused_so o (Probe id cred flags) legal = legal
refused_so o (Look id cred size) legal = legal
refused_so o (PlaceIt id cred mtype bytes now) legal = legal
refused_so o (Take id cred selector size noerror now) legal = legal
refused_so o (ReadStat id cred) legal = legal
refused_so o (Set id cred to now) legal = legal
refused_so o (Remove id cred) legal = legal
refused_so o ReadRow legal = legal

legal_is_proper : (o : Slot) (call : Call) (reply : Reply) → Legal o call reply → IsProperReply reply
legal_is_proper o call (IsRefusedFor EOVERFLOW) legal = refused_so o call legal
legal_is_proper o call reply legal = tt

unbound_so : (generation : ℕ) (h : RegistryHistory) (call : RegistryCall) →
    IsLegalReply generation h call (Unbound EOVERFLOW) → ⊥
unbound_so generation h (Begin key flags) legal = legal
unbound_so generation h (Settle id) legal = legal
unbound_so generation h (Forget id) legal = legal

legal_is_proper_there : (generation : ℕ) (h : RegistryHistory) (call : RegistryCall) (reply : RegistryReply) →
    IsLegalReply generation h call reply → IsProperUnbound reply
legal_is_proper_there generation h call (Unbound EOVERFLOW) legal = unbound_so generation h call legal
legal_is_proper_there generation h call reply legal = tt

-- ---- the last turn that a seat has seen

module _ {O C R : Type 0} (moves : O → C → R → O → Type 0) where
  last_move : (o : O) (xs : List (Turn O C R)) (t : Turn O C R) → IsLegal moves o (xs ++ t ∷ []) →
      moves (after_all o xs) t.call t.reply t.after
  last_move o [] t legal = legal.0
  last_move o (x ∷ xs) t legal = last_move x.after xs t legal.1

-- A turn of a seat's own at a slot.
proper_turn : (call : Call) (reply : Reply) (before after : SlotSeat) →
    TakesTurn SlotMoves slot_counts slot_entry (record { who = Seat before.number; call = call; reply = reply }) before
    after → IsProperReply reply
proper_turn call reply before after took =
    let a = took.answers in
    let o : Slot = after_all before.gate.opening (before.seen ++ a.others) in
    let all = subst (λ (h : SlotSeat). IsLegal (Moves SlotMoves slot_counts) h.gate.opening h.seen) a.made a.legal in
    let move = last_move (Moves SlotMoves slot_counts) before.gate.opening (before.seen ++ a.others)
    (record { by = before.number; call = took.call; reply = took.reply; after = a.object }) all in
    let legal : Legal o (slot_call took.call) (slot_reply o took.reply) = move.0.turn.legal in
    legal_is_proper o call reply
    (subst (λ r. Legal o call r) (ap (λ (e : Entry). e.reply) took.entered)
    (subst (λ c. Legal o c (slot_reply o took.reply)) (ap (λ (e : Entry). e.call) took.entered) legal))

proper_at_slot : (before after : Seats) (op : Op) → MakesTurnAt before op after → IsProperAtSlot op
proper_at_slot before after (AtSlot slot call reply) makes =
    proper_turn call reply makes.0.was makes.0.is makes.0.change
proper_at_slot before after op makes = tt

-- ---- a call keeps the gate of the registry

keeps_gate : (before after : Seats) (op : Op) → MakesTurnAt before op after →
    after.registry.gate ≡ before.registry.gate
keeps_gate before after (AtSlot slot call reply) makes = ap (λ (s : RegistrySeat). s.gate) makes.1
keeps_gate before after (AtRegistry call reply) makes = ap (λ (s : RegistrySeat). s.gate) makes.0.answers.made
keeps_gate before after (AtPool call reply) makes = ap (λ (s : RegistrySeat). s.gate) makes.2

read_keeps_gate : (before after : Seats) (count : Count) (value : ℕ) → Reads count value before after →
    after.registry.gate ≡ before.registry.gate
read_keeps_gate before after (ArrivedOf slot) value r = ap (λ (s : RegistrySeat). s.gate) r.1
read_keeps_gate before after (FreedOf slot) value r = ap (λ (s : RegistrySeat). s.gate) r.1
read_keeps_gate before after Settled value r = ap (λ (s : RegistrySeat). s.gate) r.0.0
read_keeps_gate before after Released value r = ap (λ (s : RegistrySeat). s.gate) r.2

-- ---- the turns of a call that found no gate worn out

pushed : (P : Op → Type 0) (ops : List Op) (op : Op) → AllByRecursion P ops → P op →
    AllByRecursion P (ops ++ op ∷ [])
pushed P [] op all proper = (proper, tt)
pushed P (d ∷ ds) op all proper = (all.0, pushed P ds op all.1 proper)

module _ {kind : Kind} (may : ℕ → Type 0) (from : State kind) (old : Pass) where
  slot_turns : (ops : List Op) (state : State kind) (new : Pass) (ran : Ran may from old ops state new) →
      FindsTurns ran → AllByRecursion IsProperAtSlot ops
  slot_turns _ _ _ begins found = tt
  slot_turns _ _ _ (steps {ops} {phase} {mid} state new ran step) found =
      pushed IsProperAtSlot ops step.op (slot_turns ops (Goes phase) mid ran found)
      (proper_at_slot mid.seats new.seats step.op step.makes.turn)
  slot_turns _ _ _ (turns_back {ops} {phase} {mid} state new ran step) found = absurd found
  slot_turns _ _ _ (reads {ops} {state} {mid} count value new ran r same) found = slot_turns ops state mid ran found
  slot_turns _ _ _ (resumes {ops} {wait} {mid} value new ran reached r same) found =
      slot_turns ops (Waits wait) mid ran found
  slot_turns _ _ _ (gives_up {ops} {wait} {mid} value new ran below r same) found = absurd found

module _ (histories : SeenHistories) (lasts : OwnTurnsAreLast) (generation : ℕ) where
  registry_turn : (call : RegistryCall) (reply : RegistryReply) (before after : RegistrySeat) →
      RegistryRepresents generation [] before.gate.opening →
      TakesTurn RegistryMoves registry_counts registry_entry
      (record { who = Seat before.number; call = call; reply = reply }) before after → IsProperUnbound reply
  registry_turn call reply before after fresh took =
      let e : RegistryEntry = record { who = Seat before.number; call = call; reply = reply } in
      let last = lasts.registry before after e took in
      let began = subst (λ (g : Gateway Registry). RegistryRepresents generation [] g.opening)
      (sym (ap (λ (s : RegistrySeat). s.gate) took.answers.made)) fresh in
      let stands = histories.registry generation after began took.answers.legal in
      legal_is_proper_there generation (registry_seen before ++ last.0) call reply
      (stands.legal (registry_seen before ++ last.0) e [] last.1)

  proper_at_registry : (before after : Seats) (op : Op) →
      RegistryRepresents generation [] before.registry.gate.opening → MakesTurnAt before op after →
      IsProperAtRegistry op
  proper_at_registry before after (AtSlot slot call reply) fresh makes = tt
  proper_at_registry before after (AtRegistry call reply) fresh makes =
      registry_turn call reply before.registry after.registry fresh makes.0
  proper_at_registry before after (AtPool call reply) fresh makes = tt

  module _ {kind : Kind} (may : ℕ → Type 0) (from : State kind) (old : Pass)
      (fresh : RegistryRepresents generation [] old.seats.registry.gate.opening) where
    registry_turns : (ops : List Op) (state : State kind) (new : Pass) (ran : Ran may from old ops state new) →
        FindsTurns ran →
        (new.seats.registry.gate ≡ old.seats.registry.gate) × AllByRecursion IsProperAtRegistry ops
    registry_turns _ _ _ begins found = (refl, tt)
    registry_turns _ _ _ (steps {ops} {phase} {mid} state new ran step) found =
        let so = registry_turns ops (Goes phase) mid ran found in
        let there = subst (λ (g : Gateway Registry). RegistryRepresents generation [] g.opening) (sym so.0) fresh in (
          keeps_gate mid.seats new.seats step.op step.makes.turn ∙ so.0,
          pushed IsProperAtRegistry ops step.op so.1
              (proper_at_registry mid.seats new.seats step.op there step.makes.turn),
        )
    registry_turns _ _ _ (turns_back {ops} {phase} {mid} state new ran step) found = absurd found
    registry_turns _ _ _ (reads {ops} {state} {mid} count value new ran r same) found =
        let so = registry_turns ops state mid ran found in
        (read_keeps_gate mid.seats new.seats count value r ∙ so.0, so.1)
    registry_turns _ _ _ (resumes {ops} {wait} {mid} value new ran reached r same) found =
        let so = registry_turns ops (Waits wait) mid ran found in
        (read_keeps_gate mid.seats new.seats (awaited wait) value r ∙ so.0, so.1)
    registry_turns _ _ _ (gives_up {ops} {wait} {mid} value new ran below r same) found = absurd found

-- ---- no right answer is EOVERFLOW

abbrev IsOther : Errno → Type 0
IsOther why = why ≡ EOVERFLOW → ⊥

both_other : (xs ys : List Errno) → AllByRecursion IsOther xs → AllByRecursion IsOther ys →
    AllByRecursion IsOther (xs ++ ys)
both_other [] ys a b = b
both_other (x ∷ xs) ys a b = (a.0, both_other xs ys a.1 b)

module _ (P : Op → Type 0) (f : Op → List Errno)
    (each : (op : Op) → P op → AllByRecursion IsOther (f op)) where
  all_other : (ops : List Op) → AllByRecursion P ops → AllByRecursion IsOther (flat_map f ops)
  all_other [] all = tt
  all_other (d ∷ ds) all = both_other (f d) (flat_map f ds) (each d all.0) (all_other ds all.1)

  not_among : (ops : List Op) → AllByRecursion P ops → flat_map f ops ≡ EOVERFLOW ∷ [] → ⊥
  not_among ops all is =
      let others : AllByRecursion IsOther (EOVERFLOW ∷ []) = subst (AllByRecursion IsOther) is (all_other ops all) in
      others.0 refl

refused_other : (op : Op) → IsProperAtSlot op → AllByRecursion IsOther (refused_by op)
refused_other (AtSlot slot call (IsRefusedFor why)) proper =
    (λ e. subst (λ w. IsProperReply (IsRefusedFor w)) e proper, tt)
refused_other op proper = tt

unbound_other : (op : Op) → IsProperAtRegistry op → AllByRecursion IsOther (unbound_by op)
unbound_other (AtRegistry call (Unbound why)) proper = (λ e. subst (λ w. IsProperUnbound (Unbound w)) e proper, tt)
unbound_other op proper = tt

abbrev why_of : Ending → Errno
why_of (Refused why) = why
why_of ending = EOVERFLOW

-- None of these errors is EOVERFLOW.
not_with : (errors : List Errno) → AllByRecursion IsOther errors → IsRefusedWith errors (Refused EOVERFLOW) → ⊥
not_with [] others with_it = with_it
not_with (why ∷ more) others (inl is) = others.0 (sym (ap why_of is))
not_with (why ∷ more) others (inr rest) = not_with more others.1 rest

not_so : (asked : SystemCall) (ops : List Op) → AllByRecursion IsProperAtSlot ops →
    IsRefusedSo asked ops EOVERFLOW → ⊥
not_so asked ops all (inl own) = absurd cc
not_so asked ops all (inr is) = not_among IsProperAtSlot refused_by refused_other ops all is

-- What is known of the turns of a get at the registry.
abbrev IsProperFor : SystemCall → List Op → Type 0
IsProperFor (Msgget key flags) ops = AllByRecursion IsProperAtRegistry ops
IsProperFor asked ops = Unit {0}

no_overflow : (asked : SystemCall) (ops : List Op) → IsRightAnswer asked ops (Refused EOVERFLOW) →
    AllByRecursion IsProperAtSlot ops → IsProperFor asked ops → ⊥
no_overflow (Msgsnd id mtype flags text) ops right all there = elim right.only [
  | inl is ↦ absurd cc
  | inr with_it ↦ not_with (EAGAIN ∷ EACCES ∷ EIDRM ∷ EINVAL ∷ [])
      (λ e. absurd cc, (λ e. absurd cc, (λ e. absurd cc, (λ e. absurd cc, tt)))) with_it
]
no_overflow (Msgrcv id size mtype flags) ops right all there = elim right.only [
  | inl is ↦ (let e = is.2 in absurd cc)
  | inr with_it ↦ not_with (ENOMSG ∷ E2BIG ∷ EACCES ∷ EIDRM ∷ EINVAL ∷ [])
      (λ e. absurd cc, (λ e. absurd cc, (λ e. absurd cc, (λ e. absurd cc, (λ e. absurd cc, tt))))) with_it
]
no_overflow (Msgget key flags) ops right all there = elim ((right.refused EOVERFLOW).0 refl) [
  | inl is ↦ not_among IsProperAtRegistry unbound_by unbound_other ops there is
  | inr rest ↦ elim rest [
    | inl so ↦ (let e = so.0 in absurd cc)
    | inr more ↦ elim more [
      | inl so ↦ (let e = so.0 in absurd cc)
      | inr so ↦ (let e = so.0 in absurd cc)
    ]
  ]
]
no_overflow (MsgctlStat id) ops right all there = not_so (MsgctlStat id) ops all ((right.refused EOVERFLOW).0 refl)
no_overflow (MsgctlSet id to) ops right all there =
    not_so (MsgctlSet id to) ops all ((right.refused EOVERFLOW).0 refl)
no_overflow (MsgctlRmid id) ops right all there = not_so (MsgctlRmid id) ops all ((right.refused EOVERFLOW).0 refl)

-- ---- what a call finds worn out is marked

back_keeps : {kind : Kind} (phase : Phase kind) (before : Pass) (ops : List Op) (state : State kind) (after : Pass) →
    TurnsBack phase before ops state after → KeepsMarks before.seats after.seats
back_keeps (AtInstall get id) before ops state after back = elim back.1 [
  | inl f ↦ turn_keeps before.seats after.seats (AtRegistry (Forget id) (Changed f.0)) f.2.turn
  | inr f ↦ worn_keeps before.seats after.seats (OfRegistry (Forget id)) f.1
]
back_keeps phase before ops state after back = λ place is. subst (IsMarkedAt place) (sym back.2) is

module _ {kind : Kind} (may : ℕ → Type 0) (from : State kind) (old : Pass) where
  -- The call found no gate worn out, or one that is marked.
  found_at : (ops : List Op) (state : State kind) (new : Pass) (ran : Ran may from old ops state new) →
      FindsTurns ran ⊎ ((place : Place) × FindsWornAt place ran × IsMarkedAt place new.seats)
  found_at _ _ _ begins = inl tt
  found_at _ _ _ (steps {ops} {phase} {mid} state new ran step) = elim (found_at ops (Goes phase) mid ran) [
    | inl turns ↦ inl turns
    | inr f ↦ inr (f.0, f.1, turn_keeps mid.seats new.seats step.op step.makes.turn f.0 f.2)
  ]
  found_at _ _ _ (turns_back {ops} {phase} {mid} state new ran step) =
      let place = place_of (asks phase step.now) in
      inr (
        place,
        inl refl,
        back_keeps phase (record mid { seats = step.there }) step.ops state new step.back place
            (is_marked mid.seats step.there (asks phase step.now) step.worn),
      )
  found_at _ _ _ (reads {ops} {state} {mid} count value new ran r same) = elim (found_at ops state mid ran) [
    | inl turns ↦ inl turns
    | inr f ↦ inr (f.0, f.1, read_keeps mid.seats new.seats count value r f.0 f.2)
  ]
  found_at _ _ _ (resumes {ops} {wait} {mid} value new ran reached r same) =
      elim (found_at ops (Waits wait) mid ran) [
        | inl turns ↦ inl turns
        | inr f ↦ inr (f.0, f.1, read_keeps mid.seats new.seats (awaited wait) value r f.0 f.2)
      ]
  found_at _ _ _ (gives_up {ops} {wait} {mid} value new ran below r same) =
      inr (place_of_count (awaited wait), inl refl, is_marked_by_wait mid.seats new.seats (awaited wait) value r)

module _ (histories : SeenHistories) (lasts : OwnTurnsAreLast) (may : ℕ → Type 0) where
  proper_for : (asked : SystemCall) (from : State (kind_of asked)) (old : Pass) (ops : List Op)
      (state : State (kind_of asked)) (new : Pass) → IsOpenFor asked old.seats →
      (ran : Ran may from old ops state new) → FindsTurns ran → IsProperFor asked ops
  proper_for (Msgget key flags) from old ops state new opened ran found =
      let fresh = subst (λ (g : Gateway Registry). RegistryRepresents opened.0 [] g.opening) (sym opened.5.registry)
      opened.4.registry.0 in
      (registry_turns histories lasts opened.0 may from old fresh ops state new ran found).1
  proper_for asked from old ops state new opened ran found = tt

pub each_overflow : SeenHistories → OwnTurnsAreLast → EachAnswerIsRight → (may : ℕ → Type 0) →
    EachOverflowIsAtAWornGate may
each_overflow histories lasts right may cred asked released old ops new opened ran =
    let from = begin cred asked released in
    let over = Over (Refused EOVERFLOW) in
    let none : FindsTurns ran → ⊥ =
    λ found.
    no_overflow asked ops
    (each_answers_right right may cred asked released old ops (Refused EOVERFLOW) new ran found)
    (slot_turns may from old ops over new ran found)
    (proper_for histories lasts may asked from old ops over new opened ran found) in (
      none,
      elim (found_at may from old ops over new ran) [
        | inl turns ↦ absurd (none turns)
        | inr f ↦ f
      ],
    )

-- ---- a stop

-- The steps of the removal of this identifier.
abbrev IsRemoving : ℤ → Phase Removes → Type 0
IsRemoving id (AtRemove cred at) = at ≡ id
IsRemoving id (AtForget at blocks) = Unit {0}
IsRemoving id (AtRemoveGiveback blocks) = Unit {0}

-- The state of the removal: it is over with EOVERFLOW just if it found the gate of its slot worn
-- out, which is marked then.
abbrev Removal : ℤ → Type 0 → State Removes → Seats → Type 0
Removal id worn (Goes phase) seats = IsRemoving id phase × (worn → ⊥)
Removal id worn (Over (Refused EOVERFLOW)) seats = worn × IsMarkedAt (AtTheSlot (slot_of_id id)) seats
Removal id worn (Over ending) seats = worn → ⊥
Removal id worn (Waits wait) seats = ⊥

-- What is known of the state after a row of the step table.
abbrev AfterRow : ℤ → Type 0 → Option (State Removes) → Seats → Type 0
AfterRow id worn None seats = Unit {0}
AfterRow id worn (Some state) seats = Removal id worn state seats

module _ (id : ℤ) where
  kept_on : (worn : Type 0) (state : State Removes) (before after : Seats) → KeepsMarks before after →
      Removal id worn state before → Removal id worn state after
  kept_on worn (Over (Refused EOVERFLOW)) before after keeps is = (is.0, keeps (AtTheSlot (slot_of_id id)) is.1)
  kept_on worn state before after keeps is = is

  after_row : (worn : Type 0) (phase : Phase Removes) (op : Op) (seats : Seats) → IsRemoving id phase → (worn → ⊥) →
      IsProperAtSlot op → AfterRow id worn (next phase op) seats
  after_row worn (AtRemove cred at) (AtSlot slot call (Discarded messages)) seats is not_yet proper = (tt, not_yet)
  after_row worn (AtRemove cred at) (AtSlot slot call (IsRefusedFor EOVERFLOW)) seats is not_yet proper = absurd proper
  after_row worn (AtRemove cred at) (AtSlot slot call (IsRefusedFor why)) seats is not_yet proper = not_yet
  after_row worn (AtRemove cred at) op seats is not_yet proper = tt
  after_row worn (AtForget at blocks) (AtRegistry call (Changed done)) seats is not_yet proper = (tt, not_yet)
  after_row worn (AtForget at blocks) (AtRegistry call reply) seats is not_yet proper = tt
  after_row worn (AtForget at blocks) (AtSlot slot call reply) seats is not_yet proper = tt
  after_row worn (AtForget at blocks) (AtPool call reply) seats is not_yet proper = tt
  after_row worn (AtRemoveGiveback blocks) (AtPool call WasReleased) seats is not_yet proper = not_yet
  after_row worn (AtRemoveGiveback blocks) (AtPool call Foreign) seats is not_yet proper = not_yet
  after_row worn (AtRemoveGiveback blocks) (AtPool call reply) seats is not_yet proper = tt
  after_row worn (AtRemoveGiveback blocks) (AtSlot slot call reply) seats is not_yet proper = tt
  after_row worn (AtRemoveGiveback blocks) (AtRegistry call reply) seats is not_yet proper = tt

  -- The gate of the removal's slot was found worn out at this step, or before.
  abbrev OrBefore : Type 0 → Phase Removes → ℕ → Type 0
  OrBefore worn phase now = (AtTheSlot (slot_of_id id) ≡ place_of (asks phase now)) ⊎ worn

  not_here : {worn : Type 0} {place : Place} → (AtTheSlot (slot_of_id id) ≡ place → ⊥) → (worn → ⊥) →
      (AtTheSlot (slot_of_id id) ≡ place) ⊎ worn → ⊥
  not_here other not_yet (inl here) = other here
  not_here other not_yet (inr before) = not_yet before

  after_back : (worn : Type 0) (phase : Phase Removes) (now : ℕ) (before there : Pass) (ops : List Op)
      (state : State Removes) (after : Pass) → IsRemoving id phase → (worn → ⊥) →
      FindsWorn before.seats (asks phase now) there.seats → TurnsBack phase there ops state after →
      Removal id (OrBefore worn phase now) state after.seats
  after_back worn (AtRemove cred at) now before there ops state after is not_yet finds back =
      let marked : IsMarkedAt (AtTheSlot (slot_of_id at)) there.seats =
      is_marked before.seats there.seats (asks (AtRemove cred at) now) finds in
      let given : Removal id (OrBefore worn (AtRemove cred at) now) (Over (Refused EOVERFLOW)) after.seats = (
        inl (ap (λ i. AtTheSlot (slot_of_id i)) (sym is)),
        subst (λ i. IsMarkedAt (AtTheSlot (slot_of_id i)) after.seats) is
            (subst (IsMarkedAt (AtTheSlot (slot_of_id at))) (sym back.2) marked),
      ) in
      subst (λ s. Removal id (OrBefore worn (AtRemove cred at) now) s after.seats) (sym back.0) given
  after_back worn (AtForget at blocks) now before there ops state after is not_yet finds back =
      subst (λ s. Removal id (OrBefore worn (AtForget at blocks) now) s after.seats) (sym back.0)
      (tt, not_here (λ e. absurd cc) not_yet)
  after_back worn (AtRemoveGiveback blocks) now before there ops state after is not_yet finds back =
      subst (λ s. Removal id (OrBefore worn (AtRemoveGiveback blocks) now) s after.seats) (sym back.0)
      (not_here (λ e. absurd cc) not_yet)

module _ {kind : Kind} (may : ℕ → Type 0) (from : State kind) (old : Pass) where
  run_keeps : (ops : List Op) (state : State kind) (new : Pass) → Ran may from old ops state new →
      KeepsMarks old.seats new.seats
  run_keeps _ _ _ begins = λ place is. is
  run_keeps _ _ _ (steps {ops} {phase} {mid} state new ran step) =
      λ place is.
      turn_keeps mid.seats new.seats step.op step.makes.turn place (run_keeps ops (Goes phase) mid ran place is)
  run_keeps _ _ _ (turns_back {ops} {phase} {mid} state new ran step) =
      λ place is. back_keeps phase (record mid { seats = step.there }) step.ops state new step.back place
      (worn_keeps mid.seats step.there (asks phase step.now) step.worn place
      (run_keeps ops (Goes phase) mid ran place is))
  run_keeps _ _ _ (reads {ops} {state} {mid} count value new ran r same) =
      λ place is. read_keeps mid.seats new.seats count value r place (run_keeps ops state mid ran place is)
  run_keeps _ _ _ (resumes {ops} {wait} {mid} value new ran reached r same) =
      λ place is.
      read_keeps mid.seats new.seats (awaited wait) value r place (run_keeps ops (Waits wait) mid ran place is)
  run_keeps _ _ _ (gives_up {ops} {wait} {mid} value new ran below r same) =
      λ place is.
      end_keeps mid.seats new.seats (awaited wait) value r place (run_keeps ops (Waits wait) mid ran place is)

module _ (may : ℕ → Type 0) (from : State Removes) (old : Pass) where
  removed_so : (id : ℤ) (ops : List Op) (state : State Removes) (new : Pass) (ran : Ran may from old ops state new) →
      Removal id ⊥ from old.seats →
      Removal id (FindsWornAt (AtTheSlot (slot_of_id id)) ran) state new.seats
  removed_so id _ _ _ begins is = is
  removed_so id _ _ _ (steps {ops} {phase} {mid} state new ran step) is =
      let so = removed_so id ops (Goes phase) mid ran is in
      subst (λ o. AfterRow id (FindsWornAt (AtTheSlot (slot_of_id id)) ran) o new.seats) step.goes
      (after_row id (FindsWornAt (AtTheSlot (slot_of_id id)) ran) phase step.op new.seats so.0 so.1
      (proper_at_slot mid.seats new.seats step.op step.makes.turn))
  removed_so id _ _ _ (turns_back {ops} {phase} {mid} state new ran step) is =
      let so = removed_so id ops (Goes phase) mid ran is in
      after_back id (FindsWornAt (AtTheSlot (slot_of_id id)) ran) phase step.now mid (record mid { seats = step.there })
      step.ops state new so.0 so.1 step.worn step.back
  removed_so id _ _ _ (reads {ops} {state} {mid} count value new ran r same) is =
      kept_on id (FindsWornAt (AtTheSlot (slot_of_id id)) ran) state mid.seats new.seats
      (read_keeps mid.seats new.seats count value r) (removed_so id ops state mid ran is)
  removed_so id _ _ _ (resumes {ops} {wait} {mid} value new ran reached r same) is =
      absurd (removed_so id ops (Waits wait) mid ran is)
  removed_so id _ _ _ (gives_up {ops} {wait} {mid} value new ran below r same) is =
      absurd (removed_so id ops (Waits wait) mid ran is)

begun : (id : ℤ) (b : Bool) (seats : Seats) →
    Removal id ⊥ (if b then Over (Refused EINVAL) else Goes (AtRemove superuser id)) seats
begun id true seats = λ f. f
begun id false seats = (refl, λ f. f)

module _ (id : ℤ) (worn : Type 0) where
  ended : (ending : Ending) (seats : Seats) → Removal id worn (Over ending) seats → is_overflow ending ≡ true →
      worn × IsMarkedAt (AtTheSlot (slot_of_id id)) seats
  ended (Refused EOVERFLOW) seats is over = is
  ended ending seats is over = absurd cc

  overflowed : (ending : Ending) (seats : Seats) → Removal id worn (Over ending) seats → worn →
      is_overflow ending ≡ true
  overflowed (Refused EOVERFLOW) seats is found = refl
  overflowed ending seats is found = absurd (is found)

row_keeps : (slot : ℕ) (before : Pass) (told : Result (Option Row) Errno) (after : Pass) →
    TellsRow slot before told after → KeepsMarks before.seats after.seats
row_keeps slot before (Ok row) after tells =
    turn_keeps before.seats after.seats (AtSlot slot ReadRow (Shown row)) tells.1.turn
row_keeps slot before (Err why) after (inl tells) = λ place is.
    subst (λ (p : Pass). IsMarkedAt place p.seats) (sym tells.2) is
row_keeps slot before (Err why) after (inr tells) = worn_keeps before.seats after.seats (OfSlot slot ReadRow) tells.2

row_worn : (slot : ℕ) (before after : Pass) → TellsRow slot before (Err EOVERFLOW) after → IsMarkedAtASlot after.seats
row_worn slot before after (inl tells) = (let e = tells.1 in absurd cc)
row_worn slot before after (inr tells) = (slot, is_marked before.seats after.seats (OfSlot slot ReadRow) tells.2)

module _ (slot : ℕ) (before : Pass) where
  slot_keeps : (here : ℕ) (found : Bool) (after : Pass) → StopsAt slot before here found after →
      KeepsMarks before.seats after.seats
  slot_keeps _ _ _ (is_vacant after tells) = row_keeps slot before (Ok None) after tells
  slot_keeps _ _ _ (is_worn after tells) = row_keeps slot before (Err EOVERFLOW) after tells
  slot_keeps _ _ _ (tries row mid ending after tells came) =
      λ place is.
      run_keeps no_moment (begin superuser (MsgctlRmid row.id) 0) mid came.0 (Over ending) after came.1 place
      (row_keeps slot before (Ok (Some row)) mid tells place is)

  slot_worn : (here : ℕ) (found : Bool) (after : Pass) (at : StopsAt slot before here found after) → found ≡ true →
      FindsItWorn at × IsMarkedAtASlot after.seats
  slot_worn _ _ _ (is_vacant after tells) over = absurd cc
  slot_worn _ _ _ (is_worn after tells) over = (tt, row_worn slot before after tells)
  slot_worn _ _ _ (tries row mid ending after tells came) over =
      let so = removed_so no_moment (begin superuser (MsgctlRmid row.id) 0) mid row.id came.0 (Over ending) after came.1
      (begun row.id _ mid.seats) in
      let is = ended row.id (FindsWornAt (AtTheSlot (slot_of_id row.id)) came.1) ending after.seats so over in
      (is.0, (slot_of_id row.id, is.1))

  slot_found : (here : ℕ) (found : Bool) (after : Pass) (at : StopsAt slot before here found after) → FindsItWorn at →
      found ≡ true
  slot_found _ _ _ (is_vacant after tells) is = absurd is
  slot_found _ _ _ (is_worn after tells) is = refl
  slot_found _ _ _ (tries row mid ending after tells came) is =
      let so = removed_so no_moment (begin superuser (MsgctlRmid row.id) 0) mid row.id came.0 (Over ending) after came.1
      (begun row.id _ mid.seats) in
      overflowed row.id (FindsWornAt (AtTheSlot (slot_of_id row.id)) came.1) ending after.seats so is

either_true : (a b : Bool) → (a || b) ≡ true → (a ≡ true) ⊎ (b ≡ true)
either_true true b is = inl refl
either_true false b is = inr is

is_either : (a b : Bool) → (a ≡ true) ⊎ (b ≡ true) → (a || b) ≡ true
is_either true b is = refl
is_either false b (inl is) = absurd cc
is_either false b (inr is) = is

module _ (old : Pass) where
  stops_worn : (slots removed : ℕ) (worn : Bool) (new : Pass) (run : Stops old slots removed worn new) → worn ≡ true →
      FindsASlotWorn run × IsMarkedAtASlot new.seats
  stops_worn _ _ _ _ stopped.begins over = absurd cc
  stops_worn _ _ _ _ (goes_on {slot} {removed} {worn} {mid} here found new run at) over =
      elim (either_true worn found over) [
        | inl before ↦ (
            let so = stops_worn slot removed worn mid run before in
            (inl so.0, (so.1.0, slot_keeps slot mid here found new at (AtTheSlot so.1.0) so.1.1)))
        | inr now ↦ (
            let so = slot_worn slot mid here found new at now in
            (inr so.0, so.1))
      ]

  stops_found : (slots removed : ℕ) (worn : Bool) (new : Pass) (run : Stops old slots removed worn new) →
      FindsASlotWorn run → worn ≡ true
  stops_found _ _ _ _ stopped.begins is = absurd is
  stops_found _ _ _ _ (goes_on {slot} {removed} {worn} {mid} here found new run at) (inl before) =
      is_either worn found (inl (stops_found slot removed worn mid run before))
  stops_found _ _ _ _ (goes_on {slot} {removed} {worn} {mid} here found new run at) (inr now) =
      is_either worn found (inr (slot_found slot mid here found new at now))

pub each_stop_overflows : EachStopOverflowsAtAWornGate
each_stop_overflows slots removed worn old new run = (
  (λ over. (stops_worn old slots removed worn new run over).0, stops_found old slots removed worn new run),
  λ over. (stops_worn old slots removed worn new run over).1,
)
