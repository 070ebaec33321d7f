-- How a call proceeds by one step, or by the end of a wait.
use Rattle.std.proofs.Common.{◌≡◌, ◌+◌, ◌<◌, ◌≤◌, ℕ, ℤ, inl, inr, List, [], ◌∷◌, ◌++◌, Option, Some, None, IfNone}
use Rattle.std.proofs.Common.{Result}
use Rattle.std.proofs.Common.{Ok, Err, refl, sym, subst}
use Rattle.std.specs.Prelude.{⊤}
use Rattle.sysv_model.specs.declared.attributes.Stat.{Stat}
use Rattle.sysv_model.specs.declared.errno.Errno.{Errno}
use Rattle.sysv_model.specs.declared.errno.Errno.TheVariants.{EOVERFLOW}
use Rattle.sysv_steps.specs.Call.{Kind, Gets, Sends}
use Rattle.sysv_steps.specs.State.{Phase, Wait, State, Goes, Waits, Over, Id, Zero, Told, Refused}
use Rattle.sysv_service.specs.Ran.{Pass, begins, steps, turns_back, reads, resumes, gives_up, Comes, StepsOn}
use Rattle.sysv_steps.specs.Resume.{Count, awaited, goal_of, resume}
use Rattle.sysv_steps.specs.Seen.{ending_of, get_wait, send_wait}
use Rattle.sysv_steps.specs.declared.get.GetWait.{GetWait}
use Rattle.sysv_steps.specs.declared.send.SendStep.{SendStep}
use Rattle.sysv_steps.specs.declared.send.SendWait.{SendWait}
use Rattle.sysv_steps.specs.declared.state.State.{State as StateKept}
use Rattle.sysv_steps.specs.Bodies.{StillCanSend}
use Rattle.sysv_service.specs.declared.progress.Progress.{Progress}
use Rattle.sysv_service.specs.declared.progress.Progress.TheVariants as progress
use Rattle.sysv_service.specs.Pending.{stopped_at, StoppedBy, GetsOn, SendsOn}
use Rattle.sysv_service.specs.declared.waiting.Waited.TheVariants.{Above, Still, Worn}
use Rattle.sysv_service.specs.Reading.{Reads, GivesUp}
use Rattle.sysv_service.specs.Told.{TellsId, TellsZero, TellsStat}
use Rattle.sysv_service.specs.Waited.{WaitsAbove, EndsWait}

module _ {kind : Kind} (may : ℕ → Type 0) (from : State kind) (old : Pass) where
  pub comes_first : Comes may from old from old
  comes_first = ([], begins)

  pub comes_step : (phase : Phase kind) (mid : Pass) (state : State kind) (new : Pass) →
      Comes may from old (Goes phase) mid → StepsOn may phase mid state new → Comes may from old state new
  comes_step phase mid state new ran (inl s) = (ran.0 ++ s.op ∷ [], steps state new ran.1 s)
  comes_step phase mid state new ran (inr s) = (ran.0 ++ s.ops, turns_back state new ran.1 s)

  pub comes_wait : (wait : Wait kind) (mid : Pass) (state : State kind) (new : Pass) →
      Comes may from old (Waits wait) mid → EndsWait wait mid state new → Comes may from old state new
  comes_wait wait mid state new ran (inl e) = elim e.3 [
    | inl on ↦ subst (λ s. Comes may from old s new) (sym on.1) (ran.0, resumes e.0 new ran.1 on.0 e.1 e.2)
    | inr still ↦ subst (λ s. Comes may from old s new) (sym still) (ran.0, reads (awaited wait) e.0 new ran.1 e.1 e.2)
  ]
  comes_wait wait mid state new ran (inr e) =
      subst (λ s. Comes may from old s new) (sym e.4) (ran.0, gives_up e.0 new ran.1 e.1 e.2 e.3)

-- ---- from the start

pub from_start : {kind : Kind} {may : ℕ → Type 0} {from begun state : State kind} {old new : Pass} → from ≡ begun →
    Comes may begun old state new → Comes may from old state new
from_start {kind} {may} {from} {begun} {state} {old} {new} is = subst (λ s. Comes may s old state new) (sym is)

-- ---- if there may be no result

pub if_none : {T P : Type 0} (o : Option T) → P → IfNone o P
if_none None p = p
if_none (Some x) p = tt

-- ---- the loop of a call

module _ {kind : Kind} (may : ℕ → Type 0) (from : State kind) (old : Pass) where
  pub first_at : (s : State kind) → from ≡ s → Comes may from old s old
  first_at s is = subst (λ x. Comes may from old x old) is (comes_first may from old)

  pub moved : (s s' : State kind) (mid : Pass) → s ≡ s' → Comes may from old s mid → Comes may from old s' mid
  moved s s' mid is = subst (λ x. Comes may from old x mid) is

-- ---- the end of a wait, from the count

module _ {kind : Kind} (wait : Wait kind) (count : Count) (above : ℕ) (is : count ≡ awaited wait)
    (goal : goal_of wait ≡ above + 1) (before after : Pass) (state : State kind) where
  pub ends_above : (value : ℕ) → WaitsAbove count above before (Above value) after →
      state ≡ Goes (resume wait value) → EndsWait wait before state after
  ends_above value w e = inl (
    value,
    subst (λ c. Reads c value before.seats after.seats) is w.1,
    w.2,
    inl (subst (λ g. g ≤ value) (sym goal) w.0, e),
  )

  pub ends_still : WaitsAbove count above before Still after → state ≡ Waits wait → EndsWait wait before state after
  ends_still w e = inl (w.0, subst (λ c. Reads c w.0 before.seats after.seats) is w.1, w.2, inr e)

  pub ends_worn : WaitsAbove count above before Worn after → state ≡ Over (Refused EOVERFLOW) →
      EndsWait wait before state after
  ends_worn w e = inr (
    w.0,
    subst (λ g. w.0 < g) (sym goal) w.1,
    subst (λ c. GivesUp c w.0 before.seats after.seats) is w.2,
    w.3,
    e,
  )

-- ---- the result of a call

pub tells_id : (told : Result ℤ Errno) → TellsId (ending_of Id told) told
tells_id (Ok id) = refl
tells_id (Err why) = refl

pub tells_zero : (told : Result ⊤ Errno) → TellsZero (ending_of (λ _. Zero) told) told
tells_zero (Ok done) = tt
tells_zero (Err why) = refl

pub tells_stat : (told : Result Stat Errno) → TellsStat (ending_of Told told) told
tells_stat (Ok stat) = refl
tells_stat (Err why) = refl

-- ---- a call that waits or is over

module _ (may : ℕ → Type 0) (from : State Gets) (old : Pass) where
  pub gets_on : (p : Progress GetWait (Result ℤ Errno)) (new : Pass) →
      Comes may from old (stopped_at get_wait Id p) new → GetsOn may from old p new
  gets_on (progress.Waits w) new came = came
  gets_on (progress.Over told) new came = (ending_of Id told, came, tells_id told)

module _ (may : ℕ → Type 0) (from : State Sends) (old : Pass) where
  pub sends_on : (p : Progress SendWait (Result ⊤ Errno)) (text : List ℕ) (new : Pass) →
      Comes may from old (stopped_at (λ w. send_wait w text) (λ _. Zero) p) new →
      StoppedBy (λ (s : StateKept SendStep SendWait ⊤). StillCanSend s text) p → SendsOn may from old p text new
  sends_on (progress.Waits w) text new came can = (came, can)
  sends_on (progress.Over told) text new came can = (ending_of (λ _. Zero) told, came, tells_zero told)
