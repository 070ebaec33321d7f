-- A call of an execution that waits below its goal has a reason to.
use Rattle.std.proofs.Common.{◌≡◌, ◌⊎◌, ◌<◌, inl, inr, ℕ, ℤ, List, [], ◌∷◌, ◌++◌}
use Rattle.std.proofs.Common.{map, length, Option, None, Some, refl, sym, ap, subst, ◌∙◌, arith}
use Rattle.std.proofs.Common.{slice_get}
use Rattle.std.proofs.Common.{option_map}
use Rattle.std.proofs.lemmas.Option.{slice_get-map}
use Rattle.sysv_model.specs.declared.cred.Cred.{Cred}
use Rattle.sysv_model.specs.History.{Who}
use Rattle.sysv_model.specs.Pool.{Reserve, TooFew}
use Rattle.sysv_model.specs.Pool.{released}
use Rattle.sysv_model.specs.Turn.{AtPool, pool_history, ops_of}
use Rattle.sysv_queue.specs.StaysRight.{NoMatchStays, FullStays, FullStaysForLook, CountsNeverFall}
use Rattle.sysv_objects.specs.LegalOp.{AreLegal}
use Rattle.sysv_steps.specs.Call.{SystemCall, Msgget, Msgsnd, Msgrcv, Kind, kind_of}
use Rattle.sysv_steps.specs.State.{Sending, Wait, OnSettled, OnFreed, OnReleased, OnArrived, State, Waits}
use Rattle.sysv_steps.specs.Tended.{HasToSettle, HasToForget}
use Rattle.sysv_steps.specs.Begin.{is_refused, begin}
use Rattle.sysv_steps.specs.Resume.{awaited, goal_of}
use Rattle.sysv_steps.specs.Played.{Plays}
use Rattle.sysv_steps.specs.HoldsAsked.{EachHoldsWhatItWasAsked}
use Rattle.sysv_steps.specs.WaitsFor.{WaitsFor, EachWaitsForItsRefusal}
use Rattle.sysv_core.specs.World.{World, Opening, Doing, Response, opening, doing_in, begun, value_of}
use Rattle.sysv_core.specs.Parked.{IsToBeWoken, HasTooFewBlocks, IsBeingChanged, HasReason, IsParked, AreParkedRightly}
use Rattle.sysv_core.specs.Tending.{AreTended}
use Rattle.sysv_core.proofs.LifetimeGoesOn.{EachObeys}
use Rattle.sysv_core.proofs.Histories.{turn_of}
use Rattle.sysv_core.proofs.ParkedRightly.{parked_rightly}
use Rattle.sysv_core.proofs.PartsOfOneCall.{same_who}
use Rattle.sysv_core.proofs.TurnInHistory.{made_at}
use Rattle.sysv_core.proofs.LifetimeLaws.{settled_once_installed}
use Rattle.sysv_core.proofs.SendIsWoken.{IsToBeWokenBelow}
use Rattle.sysv_core.proofs.WaitsForBlocks.{IsShortBelow}
use Rattle.sysv_core.proofs.WorldsObey.{Inv, stands_there}
use Rattle.sysv_thread_laws.specs.Execution.{Moment, LeadsOnThreads}
use Rattle.sysv_thread_laws.specs.OnThreads.{IsRowRead, ObeysOnThreads, EveryThreadedRunObeys}
use Rattle.sysv_thread_laws.specs.ParkedOnThreads.{HadReleased, HasReasonOnThreads, EveryThreadedRunParksRightly}
use Rattle.sysv_thread_laws.specs.ParkedOnThreads.{EveryOrderParksRightly}
use Rattle.sysv_thread_laws.specs.OrderIsRun.{opening_for, started_at}
use Rattle.sysv_thread_laws.proofs.InvokedFirst.{standing_at}
use Rattle.sysv_thread_laws.proofs.PoolLater.{short_at}
use Rattle.sysv_thread_laws.proofs.SendIsTold.{begun_elsewhere, told_so}

-- ---- without the sends that wait for blocks

-- The actor as it is, but idle if it waits for blocks.
abbrev without_in : {kind : Kind} → Doing → State kind → Option Doing
without_in d (Waits (OnReleased goal send)) = None
without_in d state = Some d

abbrev without : Option Doing → Option Doing
without None = None
without (Some d) = without_in d d.state

-- The world in which no actor waits for blocks. Its turns are the same.
abbrev calmed : World → World
calmed w = record w { actors = map without w.actors }

-- The actor does not wait for blocks.
abbrev IsCalm : {kind : Kind} → State kind → Type 0
IsCalm (Waits (OnReleased goal send)) = ⊥
IsCalm state = Unit {0}

calm_in : {kind : Kind} (d e : Doing) (state : State kind) → without_in d state ≡ Some e → (d ≡ e) × IsCalm state
calm_in d e (Waits (OnReleased goal send)) is = absurd cc
calm_in d e state is = (cc, tt)

still_there : {kind : Kind} (d : Doing) (state : State kind) → IsCalm state → without_in d state ≡ Some d
still_there d (Waits (OnReleased goal send)) calm = absurd calm
still_there d state calm = refl

-- So the laws of waits for blocks say nothing of it.
calm_below : {kind : Kind} (w : World) (state : State kind) → IsCalm state →
    IsShortBelow w.blocks (pool_history w.turns) state × IsToBeWokenBelow w state
calm_below w (Waits (OnReleased goal send)) calm = absurd calm
calm_below w state calm = (tt, tt)

-- An actor of the calmed world is in the same call in the world.
was_there_in : (o : Option (Option Doing)) (d : Doing) → option_map without o ≡ Some (Some d) →
    (o ≡ Some (Some d)) × IsCalm d.state
was_there_in None d is = absurd cc
was_there_in (Some None) d is = absurd cc
was_there_in (Some (Some e)) d is =
    let here : without_in e e.state ≡ Some d = cc in
    let c = calm_in e d e.state here in
    (ap (λ (x : Doing). Some (Some x)) c.0, subst (λ (x : Doing). IsCalm x.state) c.0 c.1)

module _ (w : World) where
  was_there : (place : ℕ) (d : Doing) → slice_get (calmed w).actors place ≡ Some (Some d) →
      (slice_get w.actors place ≡ Some (Some d)) × IsCalm d.state
  was_there place d there =
      was_there_in (slice_get w.actors place) d (sym (slice_get-map without w.actors place) ∙ there)

  is_there : (place : ℕ) (d : Doing) → slice_get w.actors place ≡ Some (Some d) → IsCalm d.state →
      slice_get (calmed w).actors place ≡ Some (Some d)
  is_there place d there calm = slice_get-map without w.actors place
      ∙ (ap (option_map without) there ∙ ap (λ o. Some o) (still_there d d.state calm))

  tends_calmly : {kind : Kind} (state : State kind) (id : ℤ) → HasToSettle state id ⊎ HasToForget state id →
      IsCalm state
  tends_calmly (Waits (OnReleased goal send)) id (inl t) = t
  tends_calmly (Waits (OnReleased goal send)) id (inr t) = t
  tends_calmly state id t = tt

  tended_calmly : AreTended w → AreTended (calmed w)
  tended_calmly tended row is open_row =
      let t = tended row is open_row in
      record {
        place = t.place;
        doing = t.doing;
        there = is_there t.place t.doing t.there (tends_calmly t.doing.state row.id t.tends);
        tends = t.tends;
      }

  changed_there : (key : ℤ) → IsBeingChanged (calmed w) key → IsBeingChanged w key
  changed_there key c = record {
    row = c.row;
    bound = c.bound;
    of_key = c.of_key;
    tended = record {
      place = c.tended.place;
      doing = c.tended.doing;
      there = (was_there c.tended.place c.tended.doing c.tended.there).0;
      tends = c.tended.tends;
    };
  }

  -- A reason in the calmed world is one in the world.
  same_reason : (cred : Cred) (asked : SystemCall) (wait : Wait (kind_of asked)) → IsCalm (Waits wait) →
      HasReason (calmed w) cred asked wait → HasReason w cred asked wait
  same_reason cred (Msgrcv id size mtype flags) (OnArrived goal receive) calm r = r
  same_reason cred (Msgsnd id mtype flags text) (OnFreed goal send) calm r = r
  same_reason cred (Msgsnd id mtype flags text) (OnReleased goal send) calm r = absurd calm
  same_reason cred (Msgget key flags) (OnSettled goal get) calm r = changed_there key r
  same_reason cred asked wait calm r = elim wait [ ]

-- ---- a send that waits for blocks

short_of : (w : World) → AreLegal w.generation w.blocks w.turns → (who : Who) (goal : ℕ) (send : Sending) →
    WaitsFor (OnReleased goal send) (ops_of who w.turns) → released (pool_history w.turns) < goal →
    HadReleased w who send.released → HasTooFewBlocks w (length send.text)
short_of w legal who goal send (is, (front, ends)) below had =
    let op = AtPool (Reserve (length send.text)) TooFew in
    let m = made_at who w.turns front op [] ends in
    let own : w.turns ≡ m.before ++ turn_of who op ∷ m.after =
    m.whole ∙ ap (λ by. m.before ++ turn_of by op ∷ m.after) (sym (same_who who m.by m.own)) in
    let read = had m.before m.after op own m.later_is in
    short_at w.generation w.blocks w.turns legal m.before m.after who (length send.text) own
    (omega (arith, below, is, read))

-- ---- the law

-- The registry obeys its law, and refusals stay right as long as their counts have not risen.
pub record StaysRight : Type 0 where
  pub laws : EachObeys
  pub no_match : NoMatchStays
  pub full : FullStays
  pub full_for_look : FullStaysForLook
  pub counts : CountsNeverFall
  pub refused : EachWaitsForItsRefusal
  pub holds : EachHoldsWhatItWasAsked

module _ (stays : StaysRight) (o : Opening) (w : World) (responses : List Response) (i : Inv IsRowRead w responses)
    (lawful : ObeysOnThreads o w responses) where
  played : (place : ℕ) (d : Doing) → slice_get w.actors place ≡ Some (Some d) →
      Plays (begun d.call) (ops_of d.call.who w.turns) d.state
  played place d there = (stands_there w responses i place d there).plays

  all_calm : AreParkedRightly (calmed w)
  all_calm =
      parked_rightly stays.laws (calmed w) i.sound.legal (λ place d there. played place d (was_there w place d there).0)
      stays.no_match stays.full stays.full_for_look stays.counts stays.refused stays.holds
      (tended_calmly w lawful.lives.tended) lawful.lives.removed
      (settled_once_installed w.turns i.lifetime.facts)
      (λ place d there. (calm_below (calmed w) d.state (was_there w place d there).1).0)
      (λ place d there. (calm_below (calmed w) d.state (was_there w place d there).1).1)

  calm_reason : (place : ℕ) (d : Doing) (wait : Wait (kind_of d.call.asked)) → IsCalm (Waits wait) →
      IsParked w place d wait → HasReason w d.call.cred d.call.asked wait
  calm_reason place d wait calm p =
      same_reason w d.call.cred d.call.asked wait calm (all_calm place d wait (record {
        there = is_there w place d p.there (subst IsCalm (sym p.waits) calm);
        waits = p.waits;
        below = p.below;
      }))

  reason : (who : Who) (cred : Cred) (asked : SystemCall) (read : ℕ) (wait : Wait (kind_of asked)) →
      Plays (begin cred asked read) (ops_of who w.turns) (Waits wait) →
      value_of w.turns (awaited wait) < goal_of wait → (IsCalm (Waits wait) → HasReason w cred asked wait) →
      HasReasonOnThreads w who cred asked wait
  reason who cred (Msgsnd id mtype flags text) read (OnReleased goal send) play below calm =
      let asked = Msgsnd id mtype flags text in
      let ops = ops_of who w.turns in
      let why = stays.refused cred asked read ops (OnReleased goal send) play in
      let holds = stays.holds cred asked read ops (Waits (OnReleased goal send)) play in
      let short : HasTooFewBlocks w (length send.text) → HasTooFewBlocks w (length text) =
      subst (λ (t : List ℕ). HasTooFewBlocks w (length t)) holds.text in
      record {
        short = λ had. short (short_of w i.sound.legal who goal send why below had);
        whole = λ had.
            let told =
            told_so o w responses i lawful who (begin cred asked read) goal send
            (begun_elsewhere cred id mtype flags text read (is_refused asked)) play why below had in (
              short told.0,
              subst (λ x. IsToBeWoken w x cred) holds.id (subst (IsToBeWoken w send.id) holds.cred told.1),
            );
      }
  reason who cred (Msgsnd id mtype flags text) read (OnFreed goal send) play below calm = calm tt
  reason who cred (Msgget key flags) read (OnSettled goal get) play below calm = calm tt
  reason who cred (Msgrcv id size mtype flags) read (OnArrived goal receive) play below calm = calm tt
  reason who cred asked read wait play below calm = elim wait [ ]

pub parked_on_threads : StaysRight → EveryThreadedRunObeys →
    ((o : Opening) (list : List Moment) (responses : List Response) (w : World) →
    LeadsOnThreads (opening o) list responses w →
    Inv IsRowRead w responses) →
    EveryThreadedRunParksRightly
parked_on_threads stays law keeps o list responses w led place d wait p =
    let i = keeps o list responses w led in
    let lawful = law o list responses w led in
    reason stays o w responses i lawful d.call.who d.call.cred d.call.asked d.call.released wait
    (subst (Plays (begun d.call) (ops_of d.call.who w.turns)) p.waits
    (played stays o w responses i lawful place d p.there)) p.below
    (λ calm. calm_reason stays o w responses i lawful place d wait calm p)

pub parked_in_order : EveryThreadedRunParksRightly → EveryOrderParksRightly
parked_in_order law generation blocks order calls run place c wait there waits below =
    let call = started_at place c in
    let d : Doing = record { call = call; state = Waits wait } in
    let stands : slice_get run.world.actors place ≡ Some (Some d) =
    ap (λ xs. slice_get xs place) run.standing
    ∙ (standing_at 0 calls place c there
    ∙ (ap (λ n. Some (doing_in (started_at n c) c.state)) (omega arith) ∙ ap (λ s. Some (doing_in call s)) waits)) in
    law (opening_for generation blocks calls) run.moments run.responses run.world run.leads place d wait
    (record { there = stands; waits = refl; below = below })
