-- Every list of moments leads only to worlds that obey the laws of threads.
use Rattle.std.proofs.Common.{◌≡◌, ◌≤◌, ℕ, zero, suc, Bool, true, false, cond, List, [], ◌∷◌, ◌++◌, None, Some}
use Rattle.std.proofs.Common.{refl, sym, subst, ◌∙◌, append_assoc, slice_get}
use Rattle.std.proofs.lemmas.List.{append-nil}
use Rattle.sysv_model.specs.declared.cred.Cred.{Cred}
use Rattle.sysv_model.specs.declared.errno.Errno.TheVariants.{EINVAL}
use Rattle.sysv_model.specs.History.{Who}
use Rattle.sysv_model.specs.Turn.{Op, Turn}
use Rattle.sysv_objects.specs.LegalOp.{IsLegalOp, AreLegal}
use Rattle.sysv_steps.specs.Call.{SystemCall, Msgget, Kind, kind_of}
use Rattle.sysv_steps.specs.State.{Wait, OnSettled, State, Goes, Waits, Over, Refused}
use Rattle.sysv_steps.specs.Begin.{is_refused, first}
use Rattle.sysv_steps.specs.HeldBlocks.{HasItsBlocks}
use Rattle.sysv_steps.specs.Resume.{goal_of, resume}
use Rattle.sysv_steps.specs.Played.{resumes}
use Rattle.sysv_core.specs.World.{World, Opening, Invocation, Doing, Response, opening, response_in, begun, in_state}
use Rattle.sysv_core.specs.World.{with_call}
use Rattle.sysv_core.specs.Sound.{IsSound}
use Rattle.sysv_core.proofs.Histories.{turn_of}
use Rattle.sysv_core.proofs.BlocksConserved.{BlockLaws, stands_conserves, resumed_holds, begun_holds}
use Rattle.sysv_core.proofs.SoundStays.{own_still, later_installs, turn_sound, look_sound}
use Rattle.sysv_core.proofs.Lifetime.{begun_none, resumed_none}
use Rattle.sysv_core.proofs.LifetimeGoesOn.{lives_stand}
use Rattle.sysv_core.proofs.WorldsObey.{Inv, Laws, stands_there, goes_on, starts, turns_keep, opens, lawful}
use Rattle.sysv_thread_laws.specs.Execution.{starting_with, Moment, Starts, TakesTurn, Wakes, Reads, StartsCall}
use Rattle.sysv_thread_laws.specs.Execution.{TakesItsTurn, WakesUp, ReadsRow, Brings, LeadsOnThreads}
use Rattle.sysv_thread_laws.specs.OnThreads.{IsRowRead, IsMadeOrRead, ObeysOnThreads}
use Rattle.sysv_thread_laws.proofs.RowReadIsNeutral.{row_keeps}

-- What holds of each world of an execution.
abbrev IsHeld : World → List Response → Type 0
IsHeld w responses = Inv IsRowRead w responses

-- What holds of one world holds of an equal one.
same_held : (w after : World) (responses : List Response) → after ≡ w → IsHeld w responses → IsHeld after responses
same_held w after responses e h = subst (λ (v : World). IsHeld v responses) (sym e) h

-- ---- what a world was opened with

abbrev IsOpenedAs : World → World → Type 0
IsOpenedAs w after = (after.generation ≡ w.generation) × (after.blocks ≡ w.blocks)

opened_so : (w after then_w : World) → after ≡ then_w → IsOpenedAs w then_w → IsOpenedAs w after
opened_so w after then_w e o = subst (IsOpenedAs w) (sym e) o

brings_opened : (w after : World) (x : Moment) (responses : List Response) → Brings w x responses after →
    IsOpenedAs w after
brings_opened w after (Starts actor cred asked released) responses (idle, (gave, is)) =
    opened_so w after _ is (refl, refl)
brings_opened w after (TakesTurn actor now) responses (call, phase, there, t) = opened_so w after _ t.6 (refl, refl)
brings_opened w after (Wakes actor value) responses (call, wait, there, reached, gave, is) =
    opened_so w after _ is (refl, refl)
brings_opened w after (Reads slot) responses (reply, legal, gave, is) = opened_so w after _ is (refl, refl)

pub leads_opened : (w after : World) (xs : List Moment) (responses : List Response) →
    LeadsOnThreads w xs responses after →
    IsOpenedAs w after
leads_opened w after [] responses l = opened_so w after w l.1 (refl, refl)
leads_opened w after (x ∷ xs) responses l =
    let first = brings_opened w l.0 x l.1 l.3 in
    let rest = leads_opened l.0 after xs l.2 l.4 in
    (rest.0 ∙ first.0, rest.1 ∙ first.1)

-- ---- a call that starts, or whose wait ends, has no chain to place

begun_blocks : (cred : Cred) (asked : SystemCall) (released : ℕ) (b : Bool) →
    HasItsBlocks (cond b (Over (Refused EINVAL)) (Goes (first cred asked released)))
begun_blocks cred asked released true = tt
begun_blocks cred (Msgget key flags) released false = tt
begun_blocks cred asked released false = tt

resumed_blocks : {kind : Kind} (wait : Wait kind) (value : ℕ) → HasItsBlocks (Goes (resume wait value))
resumed_blocks (OnSettled goal get) value = tt
resumed_blocks wait value = tt

module _
    (more : (generation blocks : ℕ) (turns : List Turn) (who : Who) (op : Op) → AreLegal generation blocks turns →
    IsLegalOp generation blocks turns op → AreLegal generation blocks (turns ++ turn_of who op ∷ []))
    (b : BlockLaws) (laws : Laws) where
  -- ---- a call starts

  module _ (w : World) (place : ℕ) (cred : Cred) (asked : SystemCall) (released : ℕ)
      (there : slice_get w.actors place ≡ Some None) where
    abbrev new_call : Invocation
    new_call = starting_with w (suc place) cred asked released

    abbrev started : World
    started = in_state (with_call w new_call) (suc place) new_call (begun new_call)

    start_sound : IsSound w → IsSound started
    start_sound s = record {
      legal = s.legal;
      own = own_still w.actors place None new_call (begun new_call) there s.own refl
          (begun_blocks cred asked released (is_refused asked));
      installs = later_installs w.turns w.actors place None new_call (begun new_call) there s.installs
          (begun_none cred asked released);
      lives = s.lives;
      blocks = stands_conserves w.blocks w.turns w.actors place None new_call (begun new_call) there
          (begun_holds cred asked released) s.blocks;
    }

    start_held : (responses : List Response) → IsHeld w responses →
        IsHeld started (responses ++ response_in new_call (begun new_call))
    start_held responses i = starts (λ t read. read.0) w responses i place there new_call refl (start_sound i.sound)

  starts_held : (w after : World) (responses one : List Response) (actor : ℕ) (cred : Cred) (asked : SystemCall)
      (released : ℕ) → IsHeld w responses → StartsCall w actor cred asked released one after →
      IsHeld after (responses ++ one)
  starts_held w after responses one zero cred asked released h (idle, begins) = absurd cc
  starts_held w after responses one (suc place) cred asked released h (idle, (gave, is)) =
      subst (λ gs. IsHeld after (responses ++ gs)) (sym gave)
      (same_held _ after _ is (start_held w place cred asked released idle responses h))

  -- ---- a turn

  turns_held : (w after : World) (responses one : List Response) (actor now : ℕ) → IsHeld w responses →
      TakesItsTurn w actor now one after → IsHeld after (responses ++ one)
  turns_held w after responses one zero now h (call, phase, there, t) = absurd cc
  turns_held w after responses one (suc place) now i (call, phase, there, t) =
      turns_keep laws.registry w after responses one place call phase now i there t
      (subst IsSound (sym t.6) (turn_sound more b w i.sound place call phase now t.0 t.1 there t.2 t.3 t.4))

  -- ---- a wait ends

  module _ (w : World) (responses : List Response) (i : IsHeld w responses) (place value : ℕ) (call : Invocation)
      (wait : Wait (kind_of call.asked))
      (there : slice_get w.actors place ≡ Some (Some record { call = call; state = Waits wait }))
      (reached : goal_of wait ≤ value) where
    abbrev d : Doing
    d = record { call = call; state = Waits wait }

    abbrev on : State (kind_of call.asked)
    on = Goes (resume wait value)

    wake_held : IsHeld (in_state w (suc place) call on) responses
    wake_held =
        let here = stands_there w responses i place d there in
        subst (IsHeld (in_state w (suc place) call on)) (append-nil responses)
        (goes_on w responses i place d there w.turns on
        (look_sound more b w i.sound place call (Waits wait) on there (resumed_blocks wait value)
        (resumed_none wait value) (resumed_holds wait value))
        (lives_stand w.turns w.actors place (Some d) call on there refl (resumed_none wait value) i.lifetime)
        (λ other apart. refl) (record { plays = resumes value here.plays reached; quiet = here.quiet }) i.made)

  nothing_given : (after : World) (responses one : List Response) → one ≡ [] → IsHeld after responses →
      IsHeld after (responses ++ one)
  nothing_given after responses one none h =
      subst (λ gs. IsHeld after (responses ++ gs)) (sym none) (subst (IsHeld after) (sym (append-nil responses)) h)

  wakes_held : (w after : World) (responses one : List Response) (actor value : ℕ) → IsHeld w responses →
      WakesUp w actor value one after → IsHeld after (responses ++ one)
  wakes_held w after responses one zero value h (call, wait, there, reached, gave, is) = absurd cc
  wakes_held w after responses one (suc place) value h (call, wait, there, reached, gave, is) =
      nothing_given after responses one gave
      (same_held _ after responses is (wake_held w responses h place value call wait there reached))

  -- ---- a row is read

  reads_held : (w after : World) (responses one : List Response) (slot : ℕ) → IsHeld w responses →
      ReadsRow w slot one after →
      IsHeld after (responses ++ one)
  reads_held w after responses one slot h (reply, legal, gave, is) =
      nothing_given after responses one gave
      (same_held _ after responses is (row_keeps more b.kept w slot reply legal responses h))

  -- ---- a list of moments

  brings_held : (w after : World) (x : Moment) (responses one : List Response) → IsHeld w responses →
      Brings w x one after →
      IsHeld after (responses ++ one)
  brings_held w after (Starts actor cred asked released) responses one h m =
      starts_held w after responses one actor cred asked released h m
  brings_held w after (TakesTurn actor now) responses one h m = turns_held w after responses one actor now h m
  brings_held w after (Wakes actor value) responses one h m = wakes_held w after responses one actor value h m
  brings_held w after (Reads slot) responses one h m = reads_held w after responses one slot h m

  leads_held : (w after : World) (xs : List Moment) (responses more_given : List Response) → IsHeld w responses →
      LeadsOnThreads w xs more_given after → IsHeld after (responses ++ more_given)
  leads_held w after [] responses none h l = nothing_given after responses none l.0 (same_held w after responses l.1 h)
  leads_held w after (x ∷ xs) responses all h l =
      subst (λ gs. IsHeld after (responses ++ gs)) (sym l.5) (subst (IsHeld after) (append_assoc responses l.1 l.2)
      (leads_held l.0 after xs (responses ++ l.1) l.2 (brings_held w l.0 x responses l.1 h l.3) l.4))

  -- ---- the laws

  -- What is kept of the calls.
  pub run_keeps : ((generation blocks : ℕ) → AreLegal generation blocks []) →
      (o : Opening) (list : List Moment) (responses : List Response) (w : World) →
      LeadsOnThreads (opening o) list responses w →
      Inv IsRowRead w responses
  run_keeps none o list responses w led =
      leads_held (opening o) w list [] responses (opens o (none o.generation o.blocks)) led

  pub run_obeys : ((generation blocks : ℕ) → AreLegal generation blocks []) →
      (o : Opening) (list : List Moment) (responses : List Response) (w : World) →
      LeadsOnThreads (opening o) list responses w →
      ObeysOnThreads o w responses
  run_obeys none o list responses w led =
      let i = run_keeps none o list responses w led in
      let opened = leads_opened (opening o) w list responses led in
      lawful laws o w responses i opened.0 opened.1 IsMadeOrRead i.made
