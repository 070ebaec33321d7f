-- The pieces of a call, one after another, are the call. This project's profile.
use Rattle.std.proofs.Common.{ℕ, ℤ, inl, inr, List, [], ◌∷◌, ◌++◌, ◌⊎◌, Result, Ok, Err, IfOk, subst}
use Rattle.std.specs.Prelude.{⊤}
use Rattle.sysv_model.specs.declared.errno.Errno.{Errno}
use Rattle.sysv_model.specs.Turn.{Op}
use Rattle.sysv_queue.specs.Delivery.{Given}
use Rattle.sysv_steps.specs.Call.{Kind, Gets, Sends, Receives}
use Rattle.sysv_steps.specs.State.{Phase, State, Wait, Goes, Waits, Over}
use Rattle.sysv_steps.specs.Resume.{awaited}
use Rattle.sysv_steps.specs.Giving.{HaveTaken}
use Rattle.sysv_service.specs.declared.progress.Progress.{Progress}
use Rattle.sysv_service.specs.declared.progress.Progress.TheVariants as progress
use Rattle.sysv_steps.specs.declared.receive.ReceiveWait.{ReceiveWait}
use Rattle.sysv_steps.specs.declared.send.SendWait.{SendWait}
use Rattle.sysv_steps.specs.declared.get.GetWait.{GetWait}
use Rattle.sysv_service.specs.Ran.{Pass, Ran, begins, steps, turns_back, reads, resumes, gives_up, Comes}
use Rattle.sysv_service.specs.Delivered.{HasGiven}
use Rattle.sysv_service.specs.Pending.{ReceivesOn, SendsOn, GetsOn, IsReached, StillWaits}

-- ---- what was taken was taken on the whole way

taken_before : (given : Given) (ops more : List Op) → HaveTaken given ops → HaveTaken given (ops ++ more)
taken_before given [] more has = absurd has
taken_before given (d ∷ ds) more (inl takes) = inl takes
taken_before given (d ∷ ds) more (inr has) = inr (taken_before given ds more has)

taken_after : (given : Given) (ops more : List Op) → HaveTaken given more → HaveTaken given (ops ++ more)
taken_after given [] more has = has
taken_after given (d ∷ ds) more has = inr (taken_after given ds more has)

taken_in_part : (given : Given) (ops more : List Op) → HaveTaken given (ops ++ more) →
    HaveTaken given ops ⊎ HaveTaken given more
taken_in_part given [] more has = inr has
taken_in_part given (d ∷ ds) more (inl takes) = inl (inl takes)
taken_in_part given (d ∷ ds) more (inr has) = elim (taken_in_part given ds more has) [
  | inl here ↦ inl (inr here)
  | inr there ↦ inr there
]

-- What is taken in the second list is taken in the first.
abbrev pub Keeps : List Op → List Op → Type 0
Keeps all ops = (given : Given) → HaveTaken given ops → HaveTaken given all

keeps_on : (all ops more : List Op) → Keeps all ops → Keeps (all ++ more) (ops ++ more)
keeps_on all ops more keeps = λ given has. elim (taken_in_part given ops more has) [
  | inl here ↦ taken_before given all more (keeps given here)
  | inr there ↦ taken_after given all more there
]

-- ---- one piece after another

module _ {kind : Kind} (may : ℕ → Type 0) (from : State kind) (old : Pass) (there : State kind) (here : Pass) where
  -- The whole way, with all turns that were made on it.
  abbrev pub Whole : List Op → State kind → Pass → Type 0
  Whole ops state new = (all : List Op) × Ran may from old all state new × Keeps all ops

  through : Comes may from old there here → (ops : List Op) (state : State kind) (new : Pass) →
      Ran may there here ops state new → Whole ops state new
  through came _ _ _ begins = (came.0, came.1, λ given has. absurd has)
  through came _ _ _ (steps {ops} {phase} {mid} state new ran step) =
      let before = through came ops (Goes phase) mid ran in
      (before.0 ++ step.op ∷ [], steps state new before.1 step, keeps_on before.0 ops (step.op ∷ []) before.2)
  through came _ _ _ (turns_back {ops} {phase} {mid} state new ran step) =
      let before = through came ops (Goes phase) mid ran in
      (before.0 ++ step.ops, turns_back state new before.1 step, keeps_on before.0 ops step.ops before.2)
  through came _ _ _ (reads {ops} {state} {mid} count value new ran r same) =
      let before = through came ops state mid ran in
      (before.0, reads count value new before.1 r same, before.2)
  through came _ _ _ (resumes {ops} {wait} {mid} value new ran reached r same) =
      let before = through came ops (Waits wait) mid ran in
      (before.0, resumes value new before.1 reached r same, before.2)
  through came _ _ _ (gives_up {ops} {wait} {mid} value new ran below r same) =
      let before = through came ops (Waits wait) mid ran in
      (before.0, gives_up value new before.1 below r same, before.2)

  pub comes_on : (state : State kind) (new : Pass) → Comes may from old there here → Comes may there here state new →
      Comes may from old state new
  comes_on state new came goes =
      let whole = through came goes.0 state new goes.1 in
      (whole.0, whole.1)

module _ (may : ℕ → Type 0) (from : State Receives) (old : Pass) (there : State Receives) (here : Pass) where
  pub given_on : (given : Given) (new : Pass) → Comes may from old there here → HasGiven may there here given new →
      HasGiven may from old given new
  given_on given new came has =
      let whole = through may from old there here came has.ops (Over has.ending) new has.ran in
      record { ending = has.ending; ops = whole.0; ran = whole.1; taken = whole.2 given has.taken }

  pub if_given : (told : Result Given Errno) (new : Pass) → Comes may from old there here →
      IfOk told (λ given. HasGiven may there here given new) → IfOk told (λ given. HasGiven may from old given new)
  if_given (Ok given) new came has = given_on given new came has
  if_given (Err why) new came has = tt

  pub receives_on : (p : Progress ReceiveWait (Result Given Errno)) (out : List ℕ) (new : Pass) →
      Comes may from old there here → ReceivesOn may there here p out new → ReceivesOn may from old p out new
  receives_on (progress.Waits w) out new came on = (comes_on may from old there here _ new came on.0, on.1)
  receives_on (progress.Over told) out new came on =
      ((on.0.0, comes_on may from old there here (Over on.0.0) new came on.0.1, on.0.2), if_given told new came on.1)

module _ (may : ℕ → Type 0) (from : State Sends) (old : Pass) (there : State Sends) (here : Pass) where
  pub sends_on : (p : Progress SendWait (Result ⊤ Errno)) (text : List ℕ) (new : Pass) →
      Comes may from old there here → SendsOn may there here p text new → SendsOn may from old p text new
  sends_on (progress.Waits w) text new came on = (comes_on may from old there here _ new came on.0, on.1)
  sends_on (progress.Over told) text new came on =
      (on.0, comes_on may from old there here (Over on.0) new came on.1, on.2)

module _ (may : ℕ → Type 0) (from : State Gets) (old : Pass) (there : State Gets) (here : Pass) where
  pub gets_on : (p : Progress GetWait (Result ℤ Errno)) (new : Pass) → Comes may from old there here →
      GetsOn may there here p new → GetsOn may from old p new
  gets_on (progress.Waits w) new came on = comes_on may from old there here _ new came on
  gets_on (progress.Over told) new came on = (on.0, comes_on may from old there here (Over on.0) new came on.1, on.2)

-- ---- a look

module _ {kind : Kind} (may : ℕ → Type 0) (from : State kind) (old : Pass) (wait : Wait kind) (mid : Pass) where
  -- The call goes on.
  pub comes_to_goal : (phase : Phase kind) (new : Pass) → Comes may from old (Waits wait) mid →
      IsReached wait mid phase new → Comes may from old (Goes phase) new
  comes_to_goal phase new came look =
      subst (λ p. Comes may from old (Goes p) new) look.4 (came.0, resumes look.0 new came.1 look.1 look.2 look.3)

  -- The call still waits.
  pub comes_to_wait : (new : Pass) → Comes may from old (Waits wait) mid → StillWaits wait mid new →
      Comes may from old (Waits wait) new
  comes_to_wait new came look = (came.0, reads (awaited wait) look.0.0 new came.1 look.0.2 look.1)
