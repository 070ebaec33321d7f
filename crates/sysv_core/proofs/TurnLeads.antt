-- What a turn of a call at the objects themselves leads to.
use Rattle.std.proofs.Common.{◌≡◌, ◌<◌, ◌≤◌, ◌+◌, ◌⊎◌, inl, inr, arith, ℕ, Bool, true, false, List, Option, Some, refl}
use Rattle.std.proofs.Common.{ap, subst, ◌∙◌}
use Rattle.sysv_model.specs.Turn.{Turn}
use Rattle.sysv_objects.specs.Objects.{Objects}
use Rattle.sysv_objects.specs.Represents.{MakesTurn}
use Rattle.sysv_steps.specs.Call.{Kind}
use Rattle.sysv_steps.specs.State.{Phase, AtInstall, AtPlace, AtTake, AtSet, State, Wait, Goes, Waits, Over}
use Rattle.sysv_steps.specs.Asks.{asks}
use Rattle.sysv_steps.specs.Stepping.{is_stamped, StepsOn}
use Rattle.sysv_steps.specs.Resume.{awaited, goal_of, resume}
use Rattle.sysv_steps.specs.Kinds.{gives_back}
use Rattle.sysv_steps.specs.Answered.{text_given, body_with}
use Rattle.sysv_steps.specs.Pending.{Pending, pending, ComesTo}
use Rattle.sysv_steps.specs.declared.progress.Ended.{Ended}
use Rattle.sysv_steps.specs.declared.progress.Progress.TheVariants as progress
use Rattle.sysv_core.specs.declared.actor.Led.{Led}
use Rattle.sysv_core.specs.declared.actor.Led.TheVariants as led
use Rattle.sysv_core.specs.World.{value_of}
use Rattle.sysv_core.specs.Kept.{returned}
use Rattle.sysv_core.specs.Led.{LeadsTo, TurnLeads}

-- ---- the objects always have a turn

same_asks : {kind : Kind} (p : Phase kind) (n now : ℕ) → (is_stamped p ≡ true → n ≡ now) → asks p n ≡ asks p now
same_asks (AtInstall get id) n now e = ap (asks (AtInstall get id)) (e refl)
same_asks (AtPlace send blocks) n now e = ap (asks (AtPlace send blocks)) (e refl)
same_asks (AtTake receive) n now e = ap (asks (AtTake receive)) (e refl)
same_asks (AtSet cred id to) n now e = ap (asks (AtSet cred id to)) (e refl)
same_asks p n now e = refl

module _ {kind : Kind} (old new : Objects) (p : Phase kind) (now before after : ℕ) (s : State kind) (l : Led) where
  -- A step at this time.
  pub leads_so : StepsOn MakesTurn (λ _ _ _. ⊥) (λ n. n ≡ now) p old before s new after → LeadsTo s l →
      TurnLeads old p now l new
  leads_so (inl step) leads = record {
    op = step.op;
    state = s;
    asked = step.asked ∙ same_asks p step.now now step.moment;
    turn = step.makes.turn;
    goes = step.goes;
    leads = leads;
  }
  leads_so (inr worn) leads = absurd worn.worn

-- ---- a look at the count of a wait

module _ {kind : Kind} (wait : Wait kind) (value above : ℕ) (turns : List Turn)
    (is : value ≡ value_of turns (awaited wait)) (goal : goal_of wait ≡ above + 1) where
  -- The count is above the value of the wait, and the call continues in this state.
  pub looks_over : {Q : Type 0} (at : Pending) → above < value → pending (Goes (resume wait value)) ≡ at →
      ((goal_of wait ≤ value_of turns (awaited wait))
      × (pending (Goes (resume wait (value_of turns (awaited wait)))) ≡ at)) ⊎ Q
  looks_over at over e = inl (omega (arith, over, goal, is), subst (λ n. pending (Goes (resume wait n)) ≡ at) is e)

  -- The count is not above it, and the call still waits.
  pub looks_on : {Q : Type 0} (at : Pending) → value ≤ above → pending (Waits wait) ≡ at →
      Q ⊎ ((value_of turns (awaited wait) < goal_of wait) × (pending (Waits wait) ≡ at))
  looks_on at below e = inr (omega (arith, below, goal, is), e)

-- ---- the result of a start or a turn, with the body of the call

returned_same : (receives : Bool) (body : Option (List ℕ)) (text : List ℕ) → (receives ≡ true → body ≡ Some text) →
    returned receives body ≡ body_with receives text
returned_same true body text h = h refl
returned_same false body text h = refl

pub leads_over : {kind : Kind} (state : State kind) (ended : Ended) (body : Option (List ℕ)) →
    ComesTo state (progress.Over ended) body → LeadsTo state (led.Over ended body)
leads_over (Goes phase) ended body h = h
leads_over (Waits wait) ended body h = h
leads_over {kind} (Over ending) ended body h = (
  h.0,
  ap (λ r. returned r body) h.1 ∙ returned_same (gives_back kind) body (text_given ending) h.2,
)
