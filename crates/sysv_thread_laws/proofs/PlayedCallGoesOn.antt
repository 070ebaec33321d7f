-- A call that is played along its turns can make the next of them in a world, whatever other calls
-- do in between.
use Rattle.std.proofs.Common.{◌≡◌, ℕ, suc, ◌≤◌, List, [], ◌∷◌, ◌++◌, Some, refl, sym, ap, subst, ◌∙◌, append_assoc}
use Rattle.std.proofs.Common.{slice_get, slice_set}
use Rattle.std.proofs.lemmas.List.{append-nil, set-set}
use Rattle.sysv_model.specs.Turn.{Op, asked_by}
use Rattle.sysv_objects.specs.LegalOp.{IsLegalOp}
use Rattle.sysv_steps.specs.Call.{Kind, kind_of}
use Rattle.sysv_steps.specs.State.{Phase, Wait, State, Goes, Waits, Over}
use Rattle.sysv_steps.specs.Asks.{asks}
use Rattle.sysv_steps.specs.Next.{next}
use Rattle.sysv_steps.specs.Resume.{goal_of, resume}
use Rattle.sysv_steps.specs.Played.{Plays, begins, steps, resumes}
use Rattle.sysv_core.specs.World.{World, Invocation, Response, doing_in, response_in, in_state, with_turn}
use Rattle.sysv_thread_laws.specs.Execution.{Moment, TakesTurn, Wakes, LeadsOnThreads}
use Rattle.sysv_thread_laws.specs.OrderIsRun.{turn_as}
use Rattle.sysv_thread_laws.proofs.Places.{get_set_same}

-- ---- lists of moments

pub leads_more : (xs ys : List Moment) (w mid after : World) (responses more : List Response) →
    LeadsOnThreads w xs responses mid →
    LeadsOnThreads mid ys more after → LeadsOnThreads w (xs ++ ys) (responses ++ more) after
leads_more [] ys w mid after responses more (none, same) led =
    subst (λ gs. LeadsOnThreads w ys (gs ++ more) after) (sym none)
    (subst (λ (v : World). LeadsOnThreads v ys more after) same led)
leads_more (x ∷ xs) ys w mid after responses more (then_w, one, rest, brings, leads, whole) led = (
  then_w,
  one,
  rest ++ more,
  brings,
  leads_more xs ys then_w mid after rest more leads led,
  ap (λ gs. gs ++ more) whole ∙ append_assoc one rest more,
)

-- ---- what a call has still to do

-- From this state the step table, taken along these turns, leads to `to`.
pub data PlaysOn {kind : Kind} (to : State kind) : State kind → List Op → Type 0 where
  is_there : PlaysOn to to []
  turns : {phase : Phase kind} {rest : List Op} (op : Op) (now : ℕ) (after : State kind) →
      asked_by op ≡ asks phase now → next phase op ≡ Some after → PlaysOn to after rest →
      PlaysOn to (Goes phase) (op ∷ rest)
  wakes : {wait : Wait kind} {rest : List Op} (value : ℕ) →
      goal_of wait ≤ value → PlaysOn to (Goes (resume wait value)) rest → PlaysOn to (Waits wait) rest

pub plays_on : {kind : Kind} {from mid : State kind} {ops : List Op} (to : State kind) (rest : List Op) →
    Plays from ops mid → PlaysOn to mid rest → PlaysOn to from (ops ++ rest)
plays_on to rest begins on = on
plays_on {from = from} to rest (steps {ops = ops} op now after plays asked goes) on =
    subst (PlaysOn to from) (sym (append_assoc ops (op ∷ []) rest))
    (plays_on to (op ∷ rest) plays (turns op now after asked goes on))
plays_on to rest (resumes value plays reached) on = plays_on to rest plays (wakes value reached on)

-- A call that waits with nothing more to do remains there for good. A call that has more to do is
-- woken at once.
abbrev pub IsSettled : {kind : Kind} → State kind → State kind → List Op → Type 0
IsSettled to (Goes phase) rest = Unit {0}
IsSettled to (Waits wait) rest = (to ≡ Waits wait) × (rest ≡ [])
IsSettled to (Over ending) rest = Unit {0}

pub settled_there : {kind : Kind} (to : State kind) → IsSettled to to []
settled_there (Goes phase) = tt
settled_there (Waits wait) = (refl, refl)
settled_there (Over ending) = tt

-- The call is settled, or it is to be woken.
data Standing {kind : Kind} (to : State kind) : State kind → List Op → Type 0 where
  stays : {state : State kind} {rest : List Op} → PlaysOn to state rest → IsSettled to state rest →
      Standing to state rest
  is_woken : {wait : Wait kind} {rest : List Op} (value : ℕ) → goal_of wait ≤ value →
      PlaysOn to (Goes (resume wait value)) rest → Standing to (Waits wait) rest

standing_so : {kind : Kind} {to state : State kind} {rest : List Op} → PlaysOn to state rest → Standing to state rest
standing_so {to = to} is_there = stays is_there (settled_there to)
standing_so (turns op now after asked goes on) = stays (turns op now after asked goes on) tt
standing_so (wakes value reached on) = is_woken value reached on

-- A call that has nothing left to do is in the state `to`.
pub is_at_its_end : {kind : Kind} {to state : State kind} → PlaysOn to state [] → IsSettled to state [] → state ≡ to
is_at_its_end is_there s = refl
is_at_its_end (wakes value reached on) s = sym s.0

-- ---- its next turn in the world

-- The call has made the turn, and is in a state from which it can continue.
pub record Makes (w : World) (place : ℕ) (call : Invocation) (to : State (kind_of call.asked)) (op : Op)
    (rest : List Op) : Type 0 where
  pub moments : List Moment
  pub responses : List Response
  pub mid : World
  pub state : State (kind_of call.asked)
  pub leads : LeadsOnThreads w moments responses mid
  pub turns : mid.turns ≡ w.turns ++ turn_as call.who op ∷ []
  pub actors : mid.actors ≡ slice_set w.actors place (doing_in call state)
  pub calls : mid.calls ≡ w.calls
  pub generation : mid.generation ≡ w.generation
  pub blocks : mid.blocks ≡ w.blocks
  pub plays : PlaysOn to state rest
  pub settled : IsSettled to state rest

module _ (w : World) (place : ℕ) (call : Invocation) (to : State (kind_of call.asked)) (op : Op) (rest : List Op)
    (legal : IsLegalOp w.generation w.blocks w.turns op) where
  abbrev then_at : State (kind_of call.asked) → World
  then_at state = in_state (with_turn w call.who op) (suc place) call state

  makes_then : (phase : Phase (kind_of call.asked)) (now : ℕ) (after : State (kind_of call.asked)) →
      slice_get w.actors place ≡ Some (Some record { call = call; state = Goes phase }) →
      asked_by op ≡ asks phase now → next phase op ≡ Some after →
      Standing to after rest → Makes w place call to op rest
  makes_then phase now after there asked goes (stays on settled) = record {
    moments = TakesTurn (suc place) now ∷ [];
    responses = response_in call after;
    mid = then_at after;
    state = after;
    leads = (
      then_at after,
      response_in call after,
      [],
      (call, phase, there, (op, after, asked, legal, goes, refl, refl)),
      (refl, refl),
      sym (append-nil (response_in call after)),
    );
    turns = refl;
    actors = refl;
    calls = refl;
    generation = refl;
    blocks = refl;
    plays = on;
    settled = settled;
  }
  makes_then phase now (Waits wait) there asked goes (is_woken value reached on) =
      let waiting : slice_get (slice_set w.actors place (Some record { call = call; state = Waits wait })) place
      ≡ Some (Some record { call = call; state = Waits wait }) =
      get_set_same w.actors place _ _ there in
      record {
        moments = TakesTurn (suc place) now ∷ Wakes (suc place) value ∷ [];
        responses = [];
        mid = in_state (then_at (Waits wait)) (suc place) call (Goes (resume wait value));
        state = Goes (resume wait value);
        leads = (
          then_at (Waits wait),
          [],
          [],
          (call, phase, there, (op, Waits wait, asked, legal, goes, refl, refl)),
          (
            in_state (then_at (Waits wait)) (suc place) call (Goes (resume wait value)),
            [],
            [],
            (call, wait, waiting, reached, refl, refl),
            (refl, refl),
            refl,
          ),
          refl,
        );
        turns = refl;
        actors = set-set w.actors place _ _;
        calls = refl;
        generation = refl;
        blocks = refl;
        plays = on;
        settled = tt;
      }

  pub makes_turn : (state : State (kind_of call.asked)) → slice_get w.actors place ≡ Some (doing_in call state) →
      PlaysOn to state (op ∷ rest) → IsSettled to state (op ∷ rest) → Makes w place call to op rest
  makes_turn state there (turns {phase = phase} op now after asked goes on) settled =
      makes_then phase now after there asked goes (standing_so on)
  makes_turn state there (wakes value reached on) settled = let bad = settled.1 in absurd cc
