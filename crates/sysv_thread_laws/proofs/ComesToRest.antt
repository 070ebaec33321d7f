-- An actor that alone makes steps comes to the end of its call or to a wait.
use Rattle.std.proofs.Common.{◌≡◌, ◌≤◌, ◌+◌, inl, inr, ℕ, zero, suc, List, [], ◌∷◌, ◌++◌, Some, refl, sym}
use Rattle.std.proofs.Common.{ap, subst, ◌∙◌, arith, length, slice_get}
use Rattle.std.specs.List.{Contains}
use Rattle.std.proofs.lemmas.List.{append-nil}
use Rattle.sysv_model.specs.declared.limits.TheConstants.{WORN}
use Rattle.sysv_model.specs.Turn.{Op}
use Rattle.sysv_steps.specs.Call.{Kind, kind_of}
use Rattle.sysv_steps.specs.State.{Phase, AtBegin, State, Goes, Waits, Over}
use Rattle.sysv_core.specs.declared.event.Event.TheVariants as event
use Rattle.sysv_core.specs.World.{World, Invocation, Response, Transition, Step, opening, response_in}
use Rattle.sysv_core.specs.World.{in_state, with_turn, Turns, StepsAt, Makes}
use Rattle.sysv_core.specs.Run.{Leads}
use Rattle.sysv_core.specs.Sound.{IsSound, OpensSound, StaysSound}
use Rattle.sysv_core.specs.SomeRun.{SomeStep}
use Rattle.sysv_core.proofs.Lists.{get_set_same}
use Rattle.sysv_thread_laws.specs.OwnSteps.{ComesToRest, EachCallComesToRest}
use Rattle.sysv_thread_laws.proofs.FewSteps.{left_at, left_in, goes_less, left_most}

some_left : {kind : Kind} (phase : Phase kind) → 1 ≤ left_at phase
some_left (AtBegin get) = omega arith
some_left phase = omega arith

-- ---- one step after another

leads_sound : StaysSound → (w after : World) (xs : List Transition) (responses : List Response) → IsSound w →
    Leads w xs responses after → IsSound after
leads_sound stays w after [] responses s l = subst IsSound (sym l.1) s
leads_sound stays w after (x ∷ xs) responses s l =
    leads_sound stays l.0 after xs l.2 (stays w l.0 x l.1 s l.3) l.4

module _ (place : ℕ) (call : Invocation) where
  abbrev Stands : World → State (kind_of call.asked) → Type 0
  Stands w state = slice_get w.actors place ≡ Some (Some record { call = call; state = state })

  -- The call rests after the one step, or goes on from there.
  after_turn : (w after : World) (phase : Phase (kind_of call.asked)) (now : ℕ) (times : List ℕ) (op : Op)
      (one : List Response) (state : State (kind_of call.asked)) → Stands w (Goes phase) →
      Makes w (Step (suc place) now) one after →
      one ≡ response_in call state →
      after ≡ in_state (with_turn w call.who op) (suc place) call state →
      left_in state + 1 ≤ left_at phase →
      ((on : Phase (kind_of call.asked)) → state ≡ Goes on → Stands after (Goes on) →
      ComesToRest after (suc place) call (left_at on) times) →
      ComesToRest w (suc place) call (left_at phase) (now ∷ times)
  after_turn w after phase now times op one (Goes on) there makes gave is less again =
      let stands : Stands after (Goes on) =
      subst (λ (v : World). Stands v (Goes on)) (sym is)
      (get_set_same w.actors place (Some record { call = call; state = Goes on })
      (Some record { call = call; state = Goes phase }) there) in
      let r = again on refl stands in
      let few = r.few in
      record {
        count = suc r.count;
        few = omega (arith, few, less);
        responses = r.responses;
        after = r.after;
        leads = (after, one, r.responses, makes, r.leads, sym (ap (λ gs. gs ++ r.responses) gave));
        rests = r.rests;
      }
  after_turn w after phase now times op one (Waits wait) there makes gave is less again = record {
    count = 1;
    few = some_left phase;
    responses = one;
    after = after;
    leads = (after, one, [], makes, (refl, refl), sym (append-nil one));
    rests = inr (
      wait,
      subst (λ (v : World). Stands v (Waits wait)) (sym is)
          (get_set_same w.actors place (Some record { call = call; state = Waits wait })
          (Some record { call = call; state = Goes phase }) there),
    );
  }
  after_turn w after phase now times op one (Over ending) there makes gave is less again = record {
    count = 1;
    few = some_left phase;
    responses = one;
    after = after;
    leads = (after, one, [], makes, (refl, refl), sym (append-nil one));
    rests = inl (
      ending,
      subst (λ gs. Contains gs (record { call = call; ending = ending })) (sym gave) (0, omega arith, refl),
    );
  }

  -- The step is a turn, since the world is not worn out.
  turned : (w after : World) (one : List Response) (phase : Phase (kind_of call.asked)) (now : ℕ) →
      Stands w (Goes phase) → w.steps + left_at phase ≤ WORN → Makes w (Step (suc place) now) one after →
      Turns w (suc place) call phase now one after
  turned w after one phase now there young (inl worn) =
      let old = worn.0 in absurd (omega (arith, some_left phase, young, old))
  turned w after one phase now there young (inr t) =
      subst (λ o. StepsAt w (suc place) now o one after) there t.1

  module _ (some : SomeStep) where
    reach : (times : List ℕ) (w : World) (phase : Phase (kind_of call.asked)) → IsSound w → Stands w (Goes phase) →
        left_at phase ≤ length times → w.steps + left_at phase ≤ WORN →
        ComesToRest w (suc place) call (left_at phase) times
    reach [] w phase sound there long young = absurd (omega (arith, some_left phase, long))
    reach (now ∷ times) w phase sound there long young =
        let s = some w (event.Step (suc place) now) sound in
        let makes : Makes w (Step (suc place) now) s.2.0 s.1 = s.2.1 in
        let turn = turned w s.1 s.2.0 phase now there young makes in
        let less = goes_less phase turn.0 turn.1 turn.4 in
        after_turn w s.1 phase now times turn.0 s.2.0 turn.1 there makes turn.5 turn.6 less
        (λ on is stands.
        let left : left_at on + 1 ≤ left_at phase = subst (λ st. left_in st + 1 ≤ left_at phase) is less in
        let stepped : s.1.steps ≡ w.steps + 1 = ap (λ (v : World). v.steps) turn.6 in
        reach times s.1 on s.3 stands (omega (arith, left, long)) (omega (arith, left, young, stepped)))

-- ---- the law

pub comes_to_rest : OpensSound → StaysSound → SomeStep → EachCallComesToRest
comes_to_rest opens stays some o list responses w led zero d phase there is young times long = absurd cc
comes_to_rest opens stays some o list responses w led (suc place) d phase there is young times long =
    let left = left_most phase in
    let here : slice_get w.actors place ≡ Some (Some record { call = d.call; state = Goes phase }) =
    there ∙ ap (λ st. Some (Some record { call = d.call; state = st })) is in
    let r = reach place d.call some times w phase (leads_sound stays (opening o) w list responses (opens o) led) here
    (omega (arith, left, long)) (omega (arith, left, young)) in
    let few = r.few in
    record {
      count = r.count;
      few = omega (arith, few, left);
      responses = r.responses;
      after = r.after;
      leads = r.leads;
      rests = r.rests;
    }
