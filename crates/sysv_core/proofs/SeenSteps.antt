-- One transition in a world of the definitions, from what the world of the code is seen as.
use Rattle.std.proofs.Common.{◌≡◌, ℕ, zero, suc, ◌+◌, ◌<◌, ◌⊎◌, inl, inr, Bool, false, List, [], ◌∷◌, ◌++◌, Option}
use Rattle.std.proofs.Common.{None, Some, refl, sym, ap, subst, ◌∙◌, arith, add-zero, length, map, slice_get, slice_set}
use Rattle.std.proofs.Common.{option_map}
use Rattle.std.proofs.lemmas.List.{length-map, map-set}
use Rattle.std.proofs.lemmas.Option.{slice_get-map, slice_get_past}
use Rattle.sysv_model.specs.declared.cred.Cred.{Cred}
use Rattle.sysv_model.specs.declared.limits.TheConstants.{WORN}
use Rattle.sysv_model.specs.Pool.{released}
use Rattle.sysv_model.specs.Turn.{Turn, pool_history, registry_history}
use Rattle.sysv_keys.specs.Rows.{IsUnused}
use Rattle.sysv_keys.specs.Unused.{UnusedSlots}
use Rattle.sysv_queue.specs.Tally.{Tallied}
use Rattle.sysv_objects.specs.LegalOp.{IsLegalOp}
use Rattle.sysv_objects.specs.Objects.{Objects}
use Rattle.sysv_objects.specs.Represents.{Represents as ObjectsStandFor}
use Rattle.sysv_steps.specs.Call.{Kind, kind_of}
use Rattle.sysv_steps.specs.State.{Phase, Wait, Ending, State, Goes, Waits, Over}
use Rattle.sysv_steps.specs.Resume.{awaited, resume}
use Rattle.sysv_steps.specs.Begin.{begin}
use Rattle.sysv_steps.specs.declared.call.Call.{Call}
use Rattle.sysv_core.specs.declared.actor.Led.{Led}
use Rattle.sysv_core.specs.declared.actor.Led.TheVariants as led
use Rattle.sysv_core.specs.declared.event.Event.{Event}
use Rattle.sysv_core.specs.declared.event.Event.TheVariants.{Start, Step}
use Rattle.sysv_core.specs.declared.actor.Doing.{Doing as DoingKept}
use Rattle.sysv_steps.specs.declared.pending.Pending.{Pending as PendingKept}
use Rattle.sysv_steps.specs.declared.pending.Pending.TheVariants.{At, Waits as InWait}
use Rattle.sysv_core.specs.declared.event.Stepped.{Stepped}
use Rattle.sysv_core.specs.declared.event.Stepped.TheVariants as stepped
use Rattle.sysv_core.specs.World.{World, Invocation, Doing, Response, Start as Begun, Step as Stepping, Preset}
use Rattle.sysv_core.specs.World.{actor_at}
use Rattle.sysv_core.specs.World.{doing_in, response_in, in_state, with_call, starting, begun, value_of, Continues}
use Rattle.sysv_core.specs.World.{StartsAt, StepsAt, Presets, with_preset}
use Rattle.sysv_core.specs.Sound.{IsToCaller, StaysSound}
use Rattle.sysv_steps.specs.Asked.{asked_of}
use Rattle.sysv_steps.specs.Pending.{Pending, pending, text_in, pending_state}
use Rattle.sysv_core.specs.Standing.{doing_state}
use Rattle.sysv_core.specs.Kept.{state_kept, states_kept, doing_led, kept_led, counted_led, told_by}
use Rattle.sysv_core.specs.Led.{LeadsTo, TurnLeads, LookLeads, Stays, StepLeads, DoingLeads}
use Rattle.sysv_core.specs.Preset.{MakesPreset}
use Rattle.sysv_core.specs.Seen.{Seen, IsSeenAs, Gives, Steps, state_in}
use Rattle.sysv_core.proofs.Lists.{slice_set-same}
use Rattle.sysv_core.proofs.SoundStays.{vacant_there}

-- ---- the actor at a place

idle_in : (o : Option (Option Doing)) → option_map state_in o ≡ Some None → o ≡ Some None
idle_in None e = absurd cc
idle_in (Some None) e = refl
idle_in (Some (Some d)) e = absurd cc

busy_in : (o : Option (Option Doing)) (s : Pending) → option_map state_in o ≡ Some (Some s) →
    (d : Doing) × (o ≡ Some (Some d)) × (pending d.state ≡ s)
busy_in None s e = absurd cc
busy_in (Some None) s e = absurd cc
busy_in (Some (Some d)) s e = (d, refl, cc)

-- ---- what a start or a step leads to

abbrev IsOver : {kind : Kind} → State kind → Type 0
IsOver (Over ending) = Unit {0}
IsOver state = ⊥

stands_on : (p : PendingKept) (text : List ℕ) → IsOver (pending_state p text) → ⊥
stands_on (At step) text e = e
stands_on (InWait w) text e = e

-- A pending call is not over.
never_over : {kind : Kind} (ending : Ending) (d : DoingKept) → pending {kind = kind} (Over ending) ≡ doing_state d → ⊥
never_over ending d e = stands_on d.pending (text_in d.body) (subst (λ (p : Pending). IsOver p.state) e tt)

state_led : (call : Invocation) (state : State (kind_of call.asked)) (l : Led) → LeadsTo state l →
    state_in (doing_in call state) ≡ kept_led l
state_led call (Goes phase) (led.To doing) h = ap Some h
state_led call (Waits wait) (led.To doing) h = ap Some h
state_led call (Over ending) (led.To doing) h = absurd (never_over ending doing h)
state_led call (Over ending) (led.Over ended body) h = refl
state_led call state l h = absurd h

-- The result of a start or a step is reported.
tells_led : (w : World) (call : Invocation) (actor : ℕ) (state : State (kind_of call.asked)) (l : Led) →
    w.steps < WORN → IsToCaller call.who actor → LeadsTo state l →
    Gives w (response_in call state) (told_by actor l)
tells_led w call actor (Goes phase) (led.To doing) young own h = (young, refl)
tells_led w call actor (Waits wait) (led.To doing) young own h = (young, refl)
tells_led w call actor (Over ending) (led.To doing) young own h = absurd (never_over ending doing h)
tells_led w call actor (Over ending) (led.Over ended body) young own h =
    let g : Response = record { call = call; ending = ending } in
    (young, (g, refl, record { caller = own; ending = h }))
tells_led w call actor state l young own h = absurd h

counts_led : {kind : Kind} (state : State kind) (l : Led) (n : ℕ) → LeadsTo state l → n + 1 ≡ n + counted_led l
counts_led state (led.To doing) n h = refl
counts_led state (led.Over ended body) n h = refl
counts_led state (led.Stays doing) n h = absurd h

-- What is seen after the call of a place was led on.
abbrev led_on : Seen → ℕ → Led → Objects → Seen
led_on seen place l objects = record {
  objects = objects;
  doings = slice_set seen.doings place (doing_led l);
  steps = seen.steps + counted_led l;
  tally = seen.tally;
}

-- Some world after the event is what the world of the code is seen as.
abbrev pub Moves : World → Event → Stepped → Seen → Type 0
Moves w event result new = (after : World) × Steps w event result after × IsSeenAs after new

pub moves_as : (w : World) (event : Event) (r told : Stepped) (new kept : Seen) → told ≡ r → kept ≡ new →
    Moves w event r new → Moves w event told kept
moves_as w event r told new kept e f m = subst (λ x. Moves w event x kept) (sym e) (subst (Moves w event r) (sym f) m)

-- No world of the definitions depends on the tally.
pub tallied : (w : World) (event : Event) (r : Stepped) (new : Seen) (t : Tallied) → Moves w event r new →
    Moves w event r (record new { tally = t })
tallied w event r new t m =
    let s = m.2 in
    (m.0, m.1, record { objects = s.objects; states = s.states; sound = s.sound; steps = s.steps; blocks = s.blocks })

module _ (w : World) (seen : Seen) (s : IsSeenAs w seen) (sound : StaysSound) where
  kept_at : (place : ℕ) (o : Option DoingKept) → slice_get seen.doings place ≡ Some o →
      option_map state_in (slice_get w.actors place) ≡ Some (state_kept o)
  kept_at place o there = sym (slice_get-map state_in w.actors place)
      ∙ (ap (λ ps. slice_get ps place) s.states
      ∙ (slice_get-map state_kept seen.doings place ∙ ap (option_map state_kept) there))

  idle_at : (place : ℕ) → slice_get seen.doings place ≡ Some None → slice_get w.actors place ≡ Some None
  idle_at place there = idle_in (slice_get w.actors place) (kept_at place None there)

  busy_at : (place : ℕ) (p : DoingKept) → slice_get seen.doings place ≡ Some (Some p) →
      (d : Doing) × (slice_get w.actors place ≡ Some (Some d)) × (pending d.state ≡ doing_state p)
  busy_at place p there = busy_in (slice_get w.actors place) (doing_state p) (kept_at place (Some p) there)

  as_many : length w.actors ≡ length seen.doings
  as_many = sym (length-map w.actors state_in) ∙ (ap length s.states ∙ length-map seen.doings state_kept)

  absent : (actor : ℕ) → (actor ≡ 0) ⊎ (length seen.doings < actor) → actor_at w.actors actor ≡ None
  absent zero h = refl
  absent (suc place) (inl e) = absurd (omega arith)
  absent (suc place) (inr e) = slice_get_past w.actors place (omega (arith, as_many))

  -- The actor of a place: its number is one more than the place.
  at : (actor place : ℕ) → actor ≡ place + 1 → actor_at w.actors actor ≡ slice_get w.actors place
  at zero place e = absurd (omega arith)
  at (suc n) place e = let same : n ≡ place = omega arith in ap (slice_get w.actors) same

  young_too : seen.steps < WORN → w.steps < WORN
  young_too h = subst (λ n. n < WORN) (sym s.steps) h

  -- ---- an event that is not possible

  none_starts : (actor : ℕ) (cred : Cred) (call : Call (List ℕ) (List ℕ)) (o : Option (Option Doing)) →
      seen.steps < WORN → actor_at w.actors actor ≡ o → StartsAt w actor cred (asked_of call) o [] w →
      Moves w (Start actor cred call) stepped.Nothing seen
  none_starts actor cred call o h is stays =
      let young = young_too h in
      (w, ([], inr (young, subst (λ x. StartsAt w actor cred (asked_of call) x [] w) (sym is) stays), (young, refl)), s)

  none_steps : (actor now : ℕ) (o : Option (Option Doing)) → seen.steps < WORN → actor_at w.actors actor ≡ o →
      StepsAt w actor now o [] w → Moves w (Step actor now) stepped.Nothing seen
  none_steps actor now o h is stays =
      let young = young_too h in
      (w, ([], inr (young, subst (λ x. StepsAt w actor now x [] w) (sym is) stays), (young, refl)), s)

  pub start_absent : (actor : ℕ) (cred : Cred) (call : Call (List ℕ) (List ℕ)) → seen.steps < WORN →
      (actor ≡ 0) ⊎ (length seen.doings < actor) → Moves w (Start actor cred call) stepped.Nothing seen
  start_absent actor cred call h none = none_starts actor cred call None h (absent actor none) (refl, refl)

  pub start_busy : (actor place : ℕ) (cred : Cred) (call : Call (List ℕ) (List ℕ)) (p : DoingKept) → seen.steps < WORN →
      actor ≡ place + 1 → slice_get seen.doings place ≡ Some (Some p) →
      Moves w (Start actor cred call) stepped.Nothing seen
  start_busy actor place cred call p h e there =
      let d = busy_at place p there in
      none_starts actor cred call (Some (Some d.0)) h (at actor place e ∙ d.1) (refl, refl)

  pub step_absent : (actor now : ℕ) → seen.steps < WORN → (actor ≡ 0) ⊎ (length seen.doings < actor) →
      Moves w (Step actor now) stepped.Nothing seen
  step_absent actor now h none = none_steps actor now None h (absent actor none) (refl, refl)

  pub step_idle : (actor place now : ℕ) → seen.steps < WORN → actor ≡ place + 1 →
      slice_get seen.doings place ≡ Some None → Moves w (Step actor now) stepped.Nothing seen
  step_idle actor place now h e there =
      none_steps actor now (Some None) h (at actor place e ∙ idle_at place there) (refl, refl)

  -- ---- the start of a call

  set_states : (place : ℕ) (o : Option Doing) (p : Option DoingKept) → state_in o ≡ state_kept p →
      map state_in (slice_set w.actors place o) ≡ states_kept (slice_set seen.doings place p)
  set_states place o p e = map-set state_in w.actors place o
      ∙ (ap (λ ps. slice_set ps place (state_in o)) s.states
      ∙ (ap (slice_set (states_kept seen.doings) place) e ∙ sym (map-set state_kept seen.doings place p)))

  start_here : (n place : ℕ) (cred : Cred) (call : Call (List ℕ) (List ℕ)) (count : ℕ) (l : Led) → seen.steps < WORN →
      n ≡ place → slice_get seen.doings place ≡ Some None →
      LeadsTo (begin cred (asked_of call) count) l →
      count ≡ released (pool_history w.turns) →
      Moves w (Start (suc n) cred call) (told_by (suc n) l)
      (record seen { doings = slice_set seen.doings place (doing_led l); steps = seen.steps + 1 })
  start_here n place cred call count l h same there leads is =
      let young = young_too h in
      let asked = asked_of call in
      let started = starting w (suc n) cred asked in
      let state = begun started in
      let to : LeadsTo state l = subst (λ r. LeadsTo (begin cred asked r) l) is leads in
      let idle : slice_get w.actors n ≡ Some None = ap (slice_get w.actors) same ∙ idle_at place there in
      let after : World = in_state (with_call w started) (suc n) started state in
      let made = inr (
        young,
        subst (λ o. StartsAt w (suc n) cred asked o (response_in started state) after) (sym idle) (refl, refl),
      ) in (
        after,
        (response_in started state, made, tells_led w started (suc n) state l young refl to),
        record {
          objects = s.objects;
          states = set_states n (doing_in started state) (doing_led l) (state_led started state l to)
              ∙ ap (λ k. states_kept (slice_set seen.doings k (doing_led l))) same;
          sound = sound w after (Begun (suc n) cred asked) (response_in started state) s.sound made;
          steps = ap (λ k. k + 1) s.steps;
          blocks = s.blocks;
        },
      )

  pub start_idle : (actor place : ℕ) (cred : Cred) (call : Call (List ℕ) (List ℕ)) (count : ℕ) (l : Led) →
      seen.steps < WORN → actor ≡ place + 1 → slice_get seen.doings place ≡ Some None →
      LeadsTo (begin cred (asked_of call) count) l →
      count ≡ released (pool_history w.turns) →
      Moves w (Start actor cred call) (told_by actor l)
      (record seen { doings = slice_set seen.doings place (doing_led l); steps = seen.steps + 1 })
  start_idle zero place cred call count l h e there leads is = absurd (omega arith)
  start_idle (suc n) place cred call count l h e there leads is =
      start_here n place cred call count l h (omega arith) there leads is

  -- ---- a step of a call

  -- The world continues as the call does.
  goes : (n place now : ℕ) (l : Led) (objects : Objects) (d : Doing) (turns : List Turn)
      (state : State (kind_of d.call.asked)) → w.steps < WORN → n ≡ place → slice_get w.actors n ≡ Some (Some d) →
      IsToCaller d.call.who (suc n) → ObjectsStandFor w.generation turns objects →
      objects.pool.size ≡ seen.objects.pool.size → LeadsTo state l →
      let after : World = in_state (record w { turns = turns }) (suc n) d.call state in
      Continues w (suc n) now d.call d.state (response_in d.call state) after →
      Moves w (Step (suc n) now) (told_by (suc n) l) (led_on seen place l objects)
  goes n place now l objects d turns state young same busy own stands size to continues =
      let after : World = in_state (record w { turns = turns }) (suc n) d.call state in
      let made =
      inr (young, subst (λ o. StepsAt w (suc n) now o (response_in d.call state) after) (sym busy) continues) in (
        after,
        (response_in d.call state, made, tells_led w d.call (suc n) state l young own to),
        record {
          objects = stands;
          states = set_states n (doing_in d.call state) (doing_led l) (state_led d.call state l to)
              ∙ ap (λ k. states_kept (slice_set seen.doings k (doing_led l))) same;
          sound = sound w after (Stepping (suc n) now) (response_in d.call state) s.sound made;
          steps = ap (λ k. k + 1) s.steps ∙ counts_led state l seen.steps to;
          blocks = s.blocks ∙ sym size;
        },
      )

  turn_here : (n place now : ℕ) (l : Led) (objects : Objects) (call : Invocation) (p : Phase (kind_of call.asked)) →
      w.steps < WORN → n ≡ place → slice_get w.actors n ≡ Some (Some record { call = call; state = Goes p }) →
      TurnLeads seen.objects p now l objects →
      Moves w (Step (suc n) now) (told_by (suc n) l) (led_on seen place l objects)
  turn_here n place now l objects call p young same busy turn =
      let d : Doing = record { call = call; state = Goes p } in
      let legal = subst (λ n. IsLegalOp w.generation n w.turns turn.op) (sym s.blocks)
      (turn.turn.legal w.generation w.turns s.objects) in
      let turns = w.turns ++ record { who = call.who; op = turn.op } ∷ [] in
      goes n place now l objects d turns turn.state young same busy (s.sound.own n d busy).0
      (turn.turn.stands w.generation w.turns call.who s.objects) turn.turn.size turn.leads
      (turn.op, turn.state, turn.asked, legal, turn.goes, refl, refl)

  -- The actor still waits.
  stays_here : (n place now : ℕ) (l : Led) (call : Invocation) (wait : Wait (kind_of call.asked)) → w.steps < WORN →
      n ≡ place → slice_get w.actors n ≡ Some (Some record { call = call; state = Waits wait }) →
      Continues w (suc n) now call (Waits wait) [] w → Stays (Waits wait) l →
      Moves w (Step (suc n) now) (told_by (suc n) l) (led_on seen place l seen.objects)
  stays_here n place now (led.Stays doing) call wait young same busy continues stays = (
    w,
    ([], inr (young, subst (λ o. StepsAt w (suc n) now o [] w) (sym busy) continues), (young, refl)),
    record {
      objects = s.objects;
      states =
          ap (map state_in) (sym (slice_set-same w.actors n (Some record { call = call; state = Waits wait }) busy))
          ∙ (set_states n (Some record { call = call; state = Waits wait }) (Some doing) (ap Some stays)
          ∙ ap (λ k. states_kept (slice_set seen.doings k (Some doing))) same);
      sound = s.sound;
      steps = s.steps ∙ sym (add-zero seen.steps);
      blocks = s.blocks;
    },
  )
  stays_here n place now (led.To doing) call wait young same busy continues stays = absurd stays
  stays_here n place now (led.Over ended body) call wait young same busy continues stays = absurd stays

  look_here : (n place now : ℕ) (l : Led) (call : Invocation) (wait : Wait (kind_of call.asked)) → w.steps < WORN →
      n ≡ place → slice_get w.actors n ≡ Some (Some record { call = call; state = Waits wait }) →
      LookLeads seen.objects wait l →
      Moves w (Step (suc n) now) (told_by (suc n) l) (led_on seen place l seen.objects)
  look_here n place now l call wait young same busy look = elim (look w.generation w.turns s.objects) [
    | inl reached ↦
        let d : Doing = record { call = call; state = Waits wait } in
        goes n place now l seen.objects d w.turns (Goes (resume wait (value_of w.turns (awaited wait)))) young same busy
        (s.sound.own n d busy).0 s.objects refl reached.1 (inl (reached.0, refl, refl))
    | inr below ↦ stays_here n place now l call wait young same busy (inr (below.0, (refl, refl))) below.1
  ]

  step_here : (n place now : ℕ) (l : Led) (objects : Objects) (call : Invocation) (state : State (kind_of call.asked)) →
      w.steps < WORN → n ≡ place → slice_get w.actors n ≡ Some (Some record { call = call; state = state }) →
      StepLeads seen.objects state now l objects →
      Moves w (Step (suc n) now) (told_by (suc n) l) (led_on seen place l objects)
  step_here n place now l objects call (Goes p) young same busy step =
      turn_here n place now l objects call p young same busy step
  step_here n place now l objects call (Waits wait) young same busy step =
      subst (λ o. Moves w (Step (suc n) now) (told_by (suc n) l) (led_on seen place l o)) (sym step.1)
      (look_here n place now l call wait young same busy step.0)
  step_here n place now l objects call (Over ending) young same busy step = absurd step

  pub step_busy : (actor place now : ℕ) (p : DoingKept) (l : Led) (objects : Objects) → seen.steps < WORN →
      actor ≡ place + 1 → slice_get seen.doings place ≡ Some (Some p) →
      DoingLeads seen.objects p now l objects →
      Moves w (Step actor now) (told_by actor l) (led_on seen place l objects)
  step_busy zero place now p l objects h e there step = absurd (omega arith)
  step_busy (suc n) place now p l objects h e there step =
      let same : n ≡ place = omega arith in
      let found = busy_at place p there in
      step_here n place now l objects found.0.call found.0.state (young_too h) same
      (ap (slice_get w.actors) same ∙ found.1)
      (subst (λ (x : Pending). StepLeads seen.objects x.state now l objects) (sym found.2) step)

  -- ---- a preset

  pub preset_unused : UnusedSlots → (made : Bool) (objects : Objects) →
      IsUnused w.generation (registry_history w.turns) 0 →
      MakesPreset seen.objects made objects →
      (after : World) × Presets w made after × IsSeenAs after (record seen { objects = objects })
  preset_unused unused made objects u makes =
      let m = makes w.generation w.turns s.objects u (vacant_there unused w s.sound u) in
      let after = with_preset w in
      let p : Presets w made after = inl (u, m.made, refl) in (
        after,
        p,
        record {
          objects = m.stands;
          states = s.states;
          sound = sound w after Preset [] s.sound (refl, (made, p));
          steps = s.steps;
          blocks = s.blocks ∙ sym m.size;
        },
      )

  pub preset_used : ¬ IsUnused w.generation (registry_history w.turns) 0 →
      (after : World) × Presets w false after × IsSeenAs after seen
  preset_used used = (w, inr (used, refl, refl), s)
