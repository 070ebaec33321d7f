-- Proves that a receive returns what it took.
use Rattle.std.proofs.Common.{◌≡◌, inl, inr, ℕ, ℤ, Bool, true, false, if◌then◌else◌, List, ◌∷◌, ◌++◌, [], Result, Ok}
use Rattle.std.proofs.Common.{Err, IfOk, subst}
use Rattle.sysv_queue.specs.Delivery.{Given}
use Rattle.sysv_model.specs.declared.cred.Cred.{Cred}
use Rattle.sysv_model.specs.declared.errno.Errno.{Errno}
use Rattle.sysv_model.specs.declared.errno.Errno.TheVariants.{EINVAL}
use Rattle.sysv_model.specs.declared.flags.Flags.{Flags}
use Rattle.sysv_steps.specs.declared.receive.ReceiveStep.{ReceiveStep}
use Rattle.sysv_steps.specs.declared.state.State.TheVariants as state
use Rattle.sysv_steps.specs.Call.{Msgrcv, Receives}
use Rattle.sysv_steps.specs.Begin.{begin}
use Rattle.sysv_steps.specs.Seen.{receive_state}
use Rattle.sysv_steps.specs.State.{Receiving, AtTake, State, Goes, Over, Refused, Got}
use Rattle.sysv_steps.specs.Giving.{ReceiveKept, GivesNothing, nothing_to_have}
use Rattle.sysv_service.specs.Ran.{Pass, steps, turns_back, Comes}
use Rattle.sysv_service.specs.Delivered.{HasGiven, StepsGiving, ComesGiving}

module _ (may : ℕ → Type 0) (from : State Receives) (old : Pass) where
  pub comes_giving : (there : ReceiveStep) (text : List ℕ) (mid : Pass) (s kept : ReceiveKept) (out : List ℕ)
      (new : Pass) →
      s ≡ state.Goes there → ComesGiving may from old s text mid →
      StepsGiving may there text mid kept out new → ComesGiving may from old kept out new
  comes_giving there text mid s kept out new is came step =
      let came_there = subst (λ x. ComesGiving may from old x text mid) is came in
      elim step [
        | inl on ↦ (
          came_there.0 ++ on.0.op ∷ [],
          steps (receive_state kept out) new came_there.1 on.0,
          on.1 came_there.0 came_there.2,
        )
        | inr on ↦ (
          came_there.0 ++ on.0.ops,
          turns_back (receive_state kept out) new came_there.1 on.0,
          on.1 came_there.0 came_there.2,
        )
      ]

  pub comes_with_nothing : (kept : ReceiveKept) (out : List ℕ) (new : Pass) → GivesNothing (receive_state kept out) →
      Comes may from old (receive_state kept out) new → ComesGiving may from old kept out new
  comes_with_nothing kept out new none comes = (comes.0, comes.1, nothing_to_have kept out comes.0 none)

  -- What the code returns in the end is what the call took.
  pub has_given : (s : ReceiveKept) (out : List ℕ) (new : Pass) (told : Result Given Errno) → s ≡ state.Over told →
      ComesGiving may from old s out new → IfOk told (λ given. HasGiven may from old given new)
  has_given s out new (Ok given) is came =
      let ended = subst (λ x. ComesGiving may from old x out new) is came in
      record { ending = Got given.mtype out; ops = ended.0; ran = ended.1; taken = ended.2 }
  has_given s out new (Err why) is came = tt

-- A receive that begins has no message to return.
begun_gives_nothing : (b : Bool) (receive : Receiving) →
    GivesNothing (if b then Over (Refused EINVAL) else Goes (AtTake receive))
begun_gives_nothing true receive = tt
begun_gives_nothing false receive = tt

pub begin_gives_nothing : (cred : Cred) (id : ℤ) (size : ℕ) (mtype : ℤ) (flags : Flags) →
    GivesNothing (begin cred (Msgrcv id size mtype flags) 0)
begin_gives_nothing cred id size mtype flags = begun_gives_nothing _ _
