-- Each event, preset and list leads to some world.
use Rattle.std.proofs.Common.{◌≡◌, ℕ, zero, suc, ◌<◌, inl, inr, true, false, List, [], ◌∷◌, ◌++◌, Option, None, Some}
use Rattle.std.proofs.Common.{refl, sym, subst, slice_get}
use Rattle.sysv_model.specs.declared.cred.Cred.{Cred}
use Rattle.sysv_model.specs.declared.limits.TheConstants.{WORN}
use Rattle.sysv_model.specs.History.{Installed, Gone, Denied, Granted, Full, Fits, Accepted, NoMatch, TooLong, Taken}
use Rattle.sysv_model.specs.History.{Told, Done, Discarded, Refused}
use Rattle.sysv_model.specs.Registry.{Found, Made, Busy, Unbound, Changed}
use Rattle.sysv_model.specs.Pool.{Reserved, TooFew, Released, Foreign}
use Rattle.sysv_model.specs.Turn.{Op, AtSlot, AtRegistry, AtPool, asked_by, Turn, registry_history}
use Rattle.sysv_keys.specs.Unused.{UnusedSlots}
use Rattle.sysv_objects.specs.LegalOp.{IsLegalOp, AreLegal}
use Rattle.sysv_objects.specs.OneOp.{SomeOpIsLegal}
use Rattle.sysv_steps.specs.Call.{Kind, kind_of}
use Rattle.sysv_steps.specs.Call.{SystemCall}
use Rattle.sysv_steps.specs.State.{Phase, AtBegin, AtInstall, AtSettle, AtProbe, AtUnmake, AtLook, AtReserve, AtPlace}
use Rattle.sysv_steps.specs.State.{AtSendGiveback, AtTake, AtReceiveGiveback, AtStat, AtSet, AtSetGiveback, AtRemove}
use Rattle.sysv_steps.specs.State.{AtForget, AtRemoveGiveback, State, Goes, Waits, Over}
use Rattle.sysv_steps.specs.Asks.{asks}
use Rattle.sysv_steps.specs.Next.{next}
use Rattle.sysv_steps.specs.Resume.{awaited, goal_of, resume}
use Rattle.sysv_core.specs.declared.event.Event.{Event}
use Rattle.sysv_core.specs.declared.event.Event.TheVariants as event
use Rattle.sysv_core.specs.declared.event.Stepped.{Stepped}
use Rattle.sysv_core.specs.declared.event.Stepped.TheVariants as stepped
use Rattle.sysv_core.specs.World.{World, Invocation, Doing, Response, Transition, Preset, Start, Step, opening}
use Rattle.sysv_core.specs.World.{actor_at}
use Rattle.sysv_core.specs.World.{response_in, in_state, with_call, with_turn, with_preset, starting, begun, value_of}
use Rattle.sysv_core.specs.World.{StartsAt, StepsAt, Presets, Makes}
use Rattle.sysv_core.specs.Run.{Leads}
use Rattle.sysv_steps.specs.Answered.{outcome_of, text_given, body_with}
use Rattle.sysv_steps.specs.Asked.{asked_of}
use Rattle.sysv_steps.specs.Kinds.{gives_back}
use Rattle.sysv_core.specs.Sound.{IsToCaller, IsSound, StaysSound}
use Rattle.sysv_core.specs.Seen.{Gives, transition_of}
use Rattle.sysv_core.specs.SomeRun.{SomeStep, SomePreset, SomeRun}
use Rattle.sysv_lists.proofs.Orders.{at_most}
use Rattle.sysv_core.proofs.Told.{told, told_is}
use Rattle.sysv_core.proofs.SoundStays.{opening_sound}
use Rattle.sysv_core.proofs.Runs.{worn_makes}

-- ---- a legal reply has a row of the step table

abbrev HasNext : {kind : Kind} → Option (State kind) → Type 0
HasNext {kind} o = (state : State kind) × (o ≡ Some state)

row_told : {kind : Kind} (g blocks : ℕ) (turns : List Turn) (phase : Phase kind) (now : ℕ) (op : Op) →
    IsLegalOp g blocks turns (told (asks phase now) op) → HasNext (next phase (told (asks phase now) op))
row_told g blocks turns (AtBegin get) now (AtRegistry c (Found id settled)) l = (_, refl)
row_told g blocks turns (AtBegin get) now (AtRegistry c (Made id)) l = (_, refl)
row_told g blocks turns (AtBegin get) now (AtRegistry c (Busy settled)) l = (_, refl)
row_told g blocks turns (AtBegin get) now (AtRegistry c (Unbound why)) l = (_, refl)
row_told g blocks turns (AtInstall get id) now (AtSlot at c (Installed true)) l = (_, refl)
row_told g blocks turns (AtInstall get id) now (AtSlot at c (Installed false)) l = (_, refl)
row_told g blocks turns (AtSettle id) now (AtRegistry c (Changed done)) l = (_, refl)
row_told g blocks turns (AtProbe get id settled) now (AtSlot at c Gone) l = (_, refl)
row_told g blocks turns (AtProbe get id settled) now (AtSlot at c Denied) l = (_, refl)
row_told g blocks turns (AtProbe get id settled) now (AtSlot at c Granted) l = (_, refl)
row_told g blocks turns (AtUnmake id) now (AtRegistry c (Changed done)) l = (_, refl)
row_told g blocks turns (AtLook send) now (AtSlot at c Gone) l = (_, refl)
row_told g blocks turns (AtLook send) now (AtSlot at c Denied) l = (_, refl)
row_told g blocks turns (AtLook send) now (AtSlot at c (Full freed)) l = (_, refl)
row_told g blocks turns (AtLook send) now (AtSlot at c Fits) l = (_, refl)
row_told g blocks turns (AtReserve send) now (AtPool c (Reserved n)) l = (_, refl)
row_told g blocks turns (AtReserve send) now (AtPool c TooFew) l = (_, refl)
row_told g blocks turns (AtPlace send held) now (AtSlot at c Gone) l = (_, refl)
row_told g blocks turns (AtPlace send held) now (AtSlot at c Denied) l = (_, refl)
row_told g blocks turns (AtPlace send held) now (AtSlot at c (Full freed)) l = (_, refl)
row_told g blocks turns (AtPlace send held) now (AtSlot at c (Accepted number)) l = (_, refl)
row_told g blocks turns (AtSendGiveback held afterwards) now (AtPool c Released) l = (_, refl)
row_told g blocks turns (AtSendGiveback held afterwards) now (AtPool c Foreign) l = (_, refl)
row_told g blocks turns (AtTake receive) now (AtSlot at c Gone) l = (_, refl)
row_told g blocks turns (AtTake receive) now (AtSlot at c Denied) l = (_, refl)
row_told g blocks turns (AtTake receive) now (AtSlot at c (NoMatch arrived)) l = (_, refl)
row_told g blocks turns (AtTake receive) now (AtSlot at c TooLong) l = (_, refl)
row_told g blocks turns (AtTake receive) now (AtSlot at c (Taken message)) l = (_, refl)
row_told g blocks turns (AtReceiveGiveback held mtype text) now (AtPool c Released) l = (_, refl)
row_told g blocks turns (AtReceiveGiveback held mtype text) now (AtPool c Foreign) l = (_, refl)
row_told g blocks turns (AtStat cred id) now (AtSlot at c (Told stat)) l = (_, refl)
row_told g blocks turns (AtStat cred id) now (AtSlot at c (Refused why)) l = (_, refl)
row_told g blocks turns (AtSet cred id to) now (AtSlot at c Done) l = (_, refl)
row_told g blocks turns (AtSet cred id to) now (AtSlot at c (Refused why)) l = (_, refl)
row_told g blocks turns AtSetGiveback now (AtPool c Released) l = (_, refl)
row_told g blocks turns AtSetGiveback now (AtPool c Foreign) l = (_, refl)
row_told g blocks turns (AtRemove cred id) now (AtSlot at c (Discarded messages)) l = (_, refl)
row_told g blocks turns (AtRemove cred id) now (AtSlot at c (Refused why)) l = (_, refl)
row_told g blocks turns (AtForget id held) now (AtRegistry c (Changed done)) l = (_, refl)
row_told g blocks turns (AtRemoveGiveback held) now (AtPool c Released) l = (_, refl)
row_told g blocks turns (AtRemoveGiveback held) now (AtPool c Foreign) l = (_, refl)
row_told g blocks turns phase now (AtSlot at c reply) l = absurd l
row_told g blocks turns phase now (AtRegistry c reply) l = absurd l
row_told g blocks turns phase now (AtPool c reply) l = absurd l

row : {kind : Kind} (g blocks : ℕ) (turns : List Turn) (phase : Phase kind) (now : ℕ) (op : Op) →
    asked_by op ≡ asks phase now →
    IsLegalOp g blocks turns op → HasNext (next phase op)
row g blocks turns phase now op asked l =
    let is = told_is (asks phase now) op asked in
    subst (λ d. HasNext (next phase d)) is
    (row_told g blocks turns phase now op (subst (IsLegalOp g blocks turns) (sym is) l))

-- ---- what a transition makes, and that it can be told

record Somewhere (w : World) (x : Transition) : Type 0 where
  responses : List Response
  after : World
  makes : Makes w x responses after
  told : w.steps < WORN → (result : Stepped) × Gives w responses result

given_told : (w : World) (call : Invocation) (actor : ℕ) (state : State (kind_of call.asked)) → w.steps < WORN →
    IsToCaller call.who actor →
    (result : Stepped) × Gives w (response_in call state) result
given_told w call actor (Goes phase) young own = (stepped.Nothing, (young, refl))
given_told w call actor (Waits wait) young own = (stepped.Nothing, (young, refl))
given_told w call actor (Over ending) young own =
    let g : Response = record { call = call; ending = ending } in (
      stepped.Answer record {
        actor = actor;
        result = outcome_of ending;
        body = body_with (gives_back (kind_of call.asked)) (text_given ending);
      },
      (young, (g, refl, record { caller = own; ending = (refl, refl) })),
    )

stays_there : (w : World) (x : Transition) → Makes w x [] w → Somewhere w x
stays_there w x m = record { responses = []; after = w; makes = m; told = λ young. (stepped.Nothing, (young, refl)) }

starts_somewhere : (w : World) (actor : ℕ) (cred : Cred) (asked : SystemCall) (o : Option (Option Doing)) →
    w.steps < WORN → actor_at w.actors actor ≡ o → Somewhere w (Start actor cred asked)
starts_somewhere w actor cred asked None young e = stays_there w (Start actor cred asked)
    (inr (young, subst (λ o. StartsAt w actor cred asked o [] w) (sym e) (refl, refl)))
starts_somewhere w actor cred asked (Some (Some d)) young e = stays_there w (Start actor cred asked)
    (inr (young, subst (λ o. StartsAt w actor cred asked o [] w) (sym e) (refl, refl)))
starts_somewhere w actor cred asked (Some None) young e =
    let call = starting w actor cred asked in
    let state = begun call in
    let after : World = in_state (with_call w call) actor call state in
    record {
      responses = response_in call state;
      after = after;
      makes =
          inr (young, subst (λ o. StartsAt w actor cred asked o (response_in call state) after) (sym e) (refl, refl));
      told = λ fresh. given_told w call actor state fresh refl;
    }

module _ (some : SomeOpIsLegal) (sound : StaysSound) (unused : UnusedSlots) where
  continues_somewhere : (w : World) (place now : ℕ) (call : Invocation) (state : State (kind_of call.asked)) →
      IsSound w → w.steps < WORN →
      slice_get w.actors place ≡ Some (Some record { call = call; state = state }) → Somewhere w (Step (suc place) now)
  continues_somewhere w place now call (Goes phase) ok young e =
      let d : Doing = record { call = call; state = Goes phase } in
      let own = ok.own place d e in
      let op = some w.generation w.blocks w.turns (asks phase now) ok.legal in
      let state = row w.generation w.blocks w.turns phase now op.0 op.1 op.2 in
      let after : World = in_state (with_turn w call.who op.0) (suc place) call state.0 in
      record {
        responses = response_in call state.0;
        after = after;
        makes = inr (
          young,
          subst (λ o. StepsAt w (suc place) now o (response_in call state.0) after) (sym e)
              (op.0, state.0, op.1, op.2, state.1, refl, refl),
        );
        told = λ fresh. given_told w call (suc place) state.0 fresh own.0;
      }
  continues_somewhere w place now call (Waits wait) ok young e =
      let value = value_of w.turns (awaited wait) in
      elim (at_most (goal_of wait) value) [
        | inl reached ↦
            let state = Goes (resume wait value) in
            let after : World = in_state w (suc place) call state in
            record {
              responses = [];
              after = after;
              makes =
                  inr (young, subst (λ o. StepsAt w (suc place) now o [] after) (sym e) (inl (reached, refl, refl)));
              told = λ fresh. (stepped.Nothing, (fresh, refl));
            }
        | inr below ↦ stays_there w (Step (suc place) now)
            (inr (young, subst (λ o. StepsAt w (suc place) now o [] w) (sym e) (inr (below, (refl, refl)))))
      ]
  continues_somewhere w place now call (Over ending) ok young e = stays_there w (Step (suc place) now)
      (inr (young, subst (λ o. StepsAt w (suc place) now o [] w) (sym e) (refl, refl)))

  steps_somewhere : (w : World) (actor now : ℕ) (o : Option (Option Doing)) → IsSound w → w.steps < WORN →
      actor_at w.actors actor ≡ o → Somewhere w (Step actor now)
  steps_somewhere w actor now None ok young e =
      stays_there w (Step actor now) (inr (young, subst (λ o. StepsAt w actor now o [] w) (sym e) (refl, refl)))
  steps_somewhere w actor now (Some None) ok young e =
      stays_there w (Step actor now) (inr (young, subst (λ o. StepsAt w actor now o [] w) (sym e) (refl, refl)))
  steps_somewhere w zero now (Some (Some d)) ok young e = absurd cc
  steps_somewhere w (suc place) now (Some (Some d)) ok young e =
      continues_somewhere w place now d.call d.state ok young e

  event_somewhere : (w : World) (e : Event) → IsSound w → w.steps < WORN → Somewhere w (transition_of e)
  event_somewhere w (event.Start actor cred call) ok young =
      starts_somewhere w actor cred (asked_of call) (actor_at w.actors actor) young refl
  event_somewhere w (event.Step actor now) ok young =
      steps_somewhere w actor now (actor_at w.actors actor) ok young refl

  pub some_step : SomeStep
  some_step w e ok = elim (at_most WORN w.steps) [
    | inl old ↦ (stepped.Worn, w, ([], worn_makes w e old, (old, refl)), ok)
    | inr young ↦
        let s = event_somewhere w e ok young in
        let told = s.told young in
        (told.0, s.after, (s.responses, s.makes, told.1), sound w s.after (transition_of e) s.responses ok s.makes)
  ]

  pub some_preset : SomePreset
  some_preset w ok = elim (unused.either w.generation 0 (registry_history w.turns)) [
    | inl free ↦
        let p : Presets w true (with_preset w) = inl (free, refl, refl) in
        (true, with_preset w, p, sound w (with_preset w) Preset [] ok (refl, (true, p)))
    | inr used ↦ (false, w, inr (used, refl, refl), ok)
  ]

  goes_somewhere : (w : World) (x : Transition) → IsSound w →
      (responses : List Response) × (after : World) × Makes w x responses after
  goes_somewhere w Preset ok = let p = some_preset w ok in ([], p.1, (refl, (p.0, p.2)))
  goes_somewhere w (Start actor cred asked) ok = elim (at_most WORN w.steps) [
    | inl old ↦ ([], w, inl (old, (refl, refl)))
    | inr young ↦
        let s = starts_somewhere w actor cred asked (actor_at w.actors actor) young refl in
        (s.responses, s.after, s.makes)
  ]
  goes_somewhere w (Step actor now) ok = elim (at_most WORN w.steps) [
    | inl old ↦ ([], w, inl (old, (refl, refl)))
    | inr young ↦
        let s = steps_somewhere w actor now (actor_at w.actors actor) ok young refl in (s.responses, s.after, s.makes)
  ]

  leads_from : (list : List Transition) (w : World) → IsSound w →
      (responses : List Response) × (after : World) × Leads w list responses after
  leads_from [] w ok = ([], w, (refl, refl))
  leads_from (x ∷ xs) w ok =
      let one = goes_somewhere w x ok in
      let rest = leads_from xs one.1 (sound w one.1 x one.0 ok one.2) in
      (one.0 ++ rest.0, rest.1, (one.1, one.0, rest.0, one.2, rest.2, refl))

  pub some_run : ((generation blocks : ℕ) → AreLegal generation blocks []) → SomeRun
  some_run none o list = leads_from list (opening o) (opening_sound o (none o.generation o.blocks))
