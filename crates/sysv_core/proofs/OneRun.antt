-- Each event, preset and list leads to at most one world.
use Rattle.std.proofs.Common.{◌≡◌, ℕ, inl, inr, Bool, List, [], ◌∷◌, ◌++◌, Option, None, Some, refl, sym, ap, subst}
use Rattle.std.proofs.Common.{◌∙◌, arith}
use Rattle.sysv_model.specs.declared.cred.Cred.{Cred}
use Rattle.sysv_model.specs.Turn.{Op}
use Rattle.sysv_objects.specs.OneOp.{NoTwoOpsAreLegal}
use Rattle.sysv_steps.specs.Call.{Kind, kind_of}
use Rattle.sysv_steps.specs.Call.{SystemCall}
use Rattle.sysv_steps.specs.State.{Phase, Wait, Ending, State, Goes, Waits, Over}
use Rattle.sysv_steps.specs.Next.{next}
use Rattle.sysv_core.specs.declared.event.Answer.{Answer}
use Rattle.sysv_steps.specs.declared.outcome.Outcome.{Outcome}
use Rattle.sysv_core.specs.declared.event.Stepped.{Stepped}
use Rattle.sysv_core.specs.declared.event.Stepped.TheVariants as stepped
use Rattle.sysv_core.specs.World.{World, Invocation, Doing, Response, Transition, Preset, Start, Step, actor_at}
use Rattle.sysv_core.specs.World.{response_in}
use Rattle.sysv_core.specs.World.{in_state, with_turn, Turns, Looks, Continues, StartsAt, StepsAt, Presets, Makes}
use Rattle.sysv_core.specs.Run.{Leads}
use Rattle.sysv_steps.specs.Answered.{TellsEnding}
use Rattle.sysv_steps.specs.Kinds.{gives_back}
use Rattle.sysv_core.specs.Sound.{IsToCaller, IsSound, StaysSound}
use Rattle.sysv_core.specs.Seen.{Tells, Gives, transition_of}
use Rattle.sysv_model.specs.History.{Who, Actor, Seat}
use Rattle.sysv_core.specs.OneRun.{OneStep, OnePreset, OneRun}

-- The same endings and the same world.
abbrev Same : List Response → List Response → World → World → Type 0
Same r s a b = (r ≡ s) × (a ≡ b)

both_are : {X Y : Type 0} (r s f : X) (a b g : Y) → (r ≡ f) × (a ≡ g) → (s ≡ f) × (b ≡ g) → (r ≡ s) × (a ≡ b)
both_are r s f a b g h k = (h.0 ∙ sym k.0, h.1 ∙ sym k.1)

pub presets_once : (w : World) (made did : Bool) (a b : World) → Presets w made a → Presets w did b →
    (made ≡ did) × (a ≡ b)
presets_once w made did a b (inl h) (inl k) = (h.1 ∙ sym k.1, h.2 ∙ sym k.2)
presets_once w made did a b (inl h) (inr k) = absurd (k.0 h.0)
presets_once w made did a b (inr h) (inl k) = absurd (h.0 k.0)
presets_once w made did a b (inr h) (inr k) = (h.1 ∙ sym k.1, h.2 ∙ sym k.2)

one_state : {kind : Kind} (s t : State kind) → Some s ≡ Some t → s ≡ t
one_state s t e = cc

module _ (one : NoTwoOpsAreLegal) (stays : StaysSound) where
  turns_once : (w : World) (actor : ℕ) (call : Invocation) (phase : Phase (kind_of call.asked)) (now : ℕ)
      (r s : List Response)
      (a b : World) →
      IsSound w → Turns w actor call phase now r a → Turns w actor call phase now s b → Same r s a b
  turns_once w actor call phase now r s a b ok h k =
      let ops : h.0 ≡ k.0 = one w.generation w.blocks w.turns h.0 k.0 ok.legal (h.2 ∙ sym k.2) h.3 k.3 in
      let states : h.1 ≡ k.1 = one_state h.1 k.1 (sym h.4 ∙ (ap (next phase) ops ∙ k.4)) in
      let world : Op → State (kind_of call.asked) → World = λ d st. in_state (with_turn w call.who d) actor call st in (
        h.5 ∙ (ap (response_in call) states ∙ sym k.5),
        h.6 ∙ (ap (λ d. world d h.1) ops ∙ (ap (world k.0) states ∙ sym k.6)),
      )

  looks_once : (w : World) (actor : ℕ) (call : Invocation) (wait : Wait (kind_of call.asked)) (r s : List Response)
      (a b : World) →
      Looks w actor call wait r a → Looks w actor call wait s b → Same r s a b
  looks_once w actor call wait r s a b (inl h) (inl k) = (h.1 ∙ sym k.1, h.2 ∙ sym k.2)
  looks_once w actor call wait r s a b (inl h) (inr k) = let x = h.0 in let y = k.0 in absurd (omega arith)
  looks_once w actor call wait r s a b (inr h) (inl k) = let x = h.0 in let y = k.0 in absurd (omega arith)
  looks_once w actor call wait r s a b (inr h) (inr k) = both_are r s [] a b w h.1 k.1

  continues_once : (w : World) (actor now : ℕ) (call : Invocation) (state : State (kind_of call.asked))
      (r s : List Response) (a b : World) →
      IsSound w → Continues w actor now call state r a → Continues w actor now call state s b → Same r s a b
  continues_once w actor now call (Goes phase) r s a b ok h k = turns_once w actor call phase now r s a b ok h k
  continues_once w actor now call (Waits wait) r s a b ok h k = looks_once w actor call wait r s a b h k
  continues_once w actor now call (Over ending) r s a b ok h k = both_are r s [] a b w h k

  starts_once : (w : World) (actor : ℕ) (cred : Cred) (asked : SystemCall) (o : Option (Option Doing))
      (r s : List Response) (a b : World) →
      StartsAt w actor cred asked o r a → StartsAt w actor cred asked o s b → Same r s a b
  starts_once w actor cred asked None r s a b h k = both_are r s [] a b w h k
  starts_once w actor cred asked (Some None) r s a b h k = both_are r s _ a b _ h k
  starts_once w actor cred asked (Some (Some doing)) r s a b h k = both_are r s [] a b w h k

  steps_at_once : (w : World) (actor now : ℕ) (o : Option (Option Doing)) (r s : List Response) (a b : World) →
      IsSound w →
      StepsAt w actor now o r a → StepsAt w actor now o s b → Same r s a b
  steps_at_once w actor now None r s a b ok h k = both_are r s [] a b w h k
  steps_at_once w actor now (Some None) r s a b ok h k = both_are r s [] a b w h k
  steps_at_once w actor now (Some (Some doing)) r s a b ok h k =
      continues_once w actor now doing.call doing.state r s a b ok h k

  makes_once : (w : World) (x : Transition) (r s : List Response) (a b : World) → IsSound w → Makes w x r a →
      Makes w x s b → Same r s a b
  makes_once w Preset r s a b ok h k = (h.0 ∙ sym k.0, (presets_once w h.1.0 k.1.0 a b h.1.1 k.1.1).1)
  makes_once w (Start actor cred asked) r s a b ok (inl h) (inl k) = both_are r s [] a b w h.1 k.1
  makes_once w (Start actor cred asked) r s a b ok (inl h) (inr k) = let x = h.0 in let y = k.0 in absurd (omega arith)
  makes_once w (Start actor cred asked) r s a b ok (inr h) (inl k) = let x = h.0 in let y = k.0 in absurd (omega arith)
  makes_once w (Start actor cred asked) r s a b ok (inr h) (inr k) =
      starts_once w actor cred asked (actor_at w.actors actor) r s a b h.1 k.1
  makes_once w (Step actor now) r s a b ok (inl h) (inl k) = both_are r s [] a b w h.1 k.1
  makes_once w (Step actor now) r s a b ok (inl h) (inr k) = let x = h.0 in let y = k.0 in absurd (omega arith)
  makes_once w (Step actor now) r s a b ok (inr h) (inl k) = let x = h.0 in let y = k.0 in absurd (omega arith)
  makes_once w (Step actor now) r s a b ok (inr h) (inr k) =
      steps_at_once w actor now (actor_at w.actors actor) r s a b ok h.1 k.1

  leads_once : (list : List Transition) (w after other : World) (responses told : List Response) → IsSound w →
      Leads w list responses after → Leads w list told other → (responses ≡ told) × (after ≡ other)
  leads_once [] w after other responses told ok h k = both_are responses told [] after other w h k
  leads_once (x ∷ list) w after other responses told ok h k =
      let here = makes_once w x h.1 k.1 h.0 k.0 ok h.3 k.3 in
      let onward : Leads h.0 list k.2 other = subst (λ mid. Leads mid list k.2 other) (sym here.1) k.4 in
      let rest = leads_once list h.0 after other h.2 k.2 (stays w h.0 x h.1 ok h.3) h.4 onward in
      (h.5 ∙ (ap (λ gs. gs ++ h.2) here.0 ∙ (ap (λ gs. k.1 ++ gs) rest.0 ∙ sym k.5)), rest.1)

-- ---- what is told of an ending

one_caller : (who : Who) (a b : ℕ) → IsToCaller who a → IsToCaller who b → a ≡ b
one_caller (Actor actor start) a b h k = h ∙ sym k
one_caller (Seat n) a b h k = absurd h

one_ending : (r : Bool) (e : Ending) (x y : Outcome) (m n : Option (List ℕ)) → TellsEnding r e x m →
    TellsEnding r e y n → (x ≡ y) × (m ≡ n)
one_ending r e x y m n h k = (h.0 ∙ sym k.0, h.1 ∙ sym k.1)

same_answer : (a b : Answer) → a.actor ≡ b.actor → a.result ≡ b.result → a.body ≡ b.body → a ≡ b
same_answer a b e f g =
    let answer : ℕ → Outcome → Option (List ℕ) → Answer = λ n r o. record { actor = n; result = r; body = o } in
    ap (λ n. answer n a.result a.body) e ∙ (ap (λ r. answer b.actor r a.body) f ∙ ap (answer b.actor b.result) g)

one_answer : (g : Response) (a b : Answer) → Tells g a → Tells g b → a ≡ b
one_answer g a b h k =
    let e =
    one_ending (gives_back (kind_of g.call.asked)) g.ending a.result b.result a.body b.body h.ending k.ending in
    same_answer a b (one_caller g.call.who a.actor b.actor h.caller k.caller) e.0 e.1

one_given : (f g : Response) → f ∷ [] ≡ g ∷ [] → f ≡ g
one_given f g e = cc

some_given : (g : Response) → g ∷ [] ≡ [] → ⊥
some_given g e = cc

gives_once : (w : World) (responses : List Response) (r s : Stepped) → Gives w responses r → Gives w responses s → r ≡ s
gives_once w responses stepped.Nothing stepped.Nothing h k = refl
gives_once w responses stepped.Worn stepped.Worn h k = refl
gives_once w responses stepped.Nothing stepped.Worn h k = let x = h.0 in let y = k.0 in absurd (omega arith)
gives_once w responses stepped.Worn stepped.Nothing h k = let x = h.0 in let y = k.0 in absurd (omega arith)
gives_once w responses stepped.Nothing (stepped.Answer b) h k = absurd (some_given k.1.0 (sym k.1.1 ∙ h.1))
gives_once w responses stepped.Worn (stepped.Answer b) h k = absurd (some_given k.1.0 (sym k.1.1 ∙ h.1))
gives_once w responses (stepped.Answer a) stepped.Nothing h k = absurd (some_given h.1.0 (sym h.1.1 ∙ k.1))
gives_once w responses (stepped.Answer a) stepped.Worn h k = absurd (some_given h.1.0 (sym h.1.1 ∙ k.1))
gives_once w responses (stepped.Answer a) (stepped.Answer b) h k =
    let same : h.1.0 ≡ k.1.0 = one_given h.1.0 k.1.0 (sym h.1.1 ∙ k.1.1) in
    ap stepped.Answer (one_answer h.1.0 a b h.1.2 (subst (λ (g : Response). Tells g b) (sym same) k.1.2))

pub one_step : NoTwoOpsAreLegal → StaysSound → OneStep
one_step one stays = λ w after other event result responses ok h k.
    let same = makes_once one stays w (transition_of event) h.0 k.0 after other ok h.1 k.1 in
    (gives_once w h.0 result responses h.2 (subst (λ gs. Gives w gs responses) (sym same.0) k.2), same.1)

pub one_preset : OnePreset
one_preset = λ w after other made did h k. presets_once w made did after other h k

pub one_run : NoTwoOpsAreLegal → StaysSound → OneRun
one_run one stays = λ w after other list responses told ok h k.
    leads_once one stays list w after other responses told ok h k
