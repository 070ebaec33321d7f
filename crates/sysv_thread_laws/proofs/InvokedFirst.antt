-- All calls are started before the first turn, each by an actor of its own. Then the order leads to
-- its end.
use Rattle.std.proofs.Common.{◌≡◌, ℕ, zero, suc, ◌+◌, ◌==◌, Bool, true, false, cond, List, [], ◌∷◌, ◌++◌, Option, None}
use Rattle.std.proofs.Common.{Some, refl, sym, ap, subst, ◌∙◌, arith, length, length-append, map, append_assoc}
use Rattle.std.proofs.Common.{slice_get, slice_set, replicate}
use Rattle.std.proofs.lemmas.List.{append-nil, map-append}
use Rattle.std.proofs.lemmas.Option.{slice_get_within, get_or_from_slice_get}
use Rattle.sysv_model.specs.History.{Who}
use Rattle.sysv_model.specs.Turn.{Op, Turn, is_same, ops_of}
use Rattle.sysv_steps.specs.Call.{kind_of}
use Rattle.sysv_objects.specs.LegalOp.{AreLegal}
use Rattle.sysv_model.specs.declared.errno.Errno.TheVariants.{EINVAL}
use Rattle.sysv_steps.specs.State.{State, Goes, Waits, Over, Refused}
use Rattle.sysv_steps.specs.Begin.{begin, is_refused, first}
use Rattle.sysv_steps.specs.Played.{Plays}
use Rattle.sysv_steps.specs.OneAnswer.{OneAnswer}
use Rattle.sysv_core.specs.World.{World, Opening, Invocation, Doing, Response, opening, doing_in, response_in, begun}
use Rattle.sysv_core.specs.World.{in_state}
use Rattle.sysv_core.specs.World.{with_call}
use Rattle.sysv_core.specs.AnswerLaw.{Outcome, stands_in, standing_of, ended}
use Rattle.sysv_thread_laws.specs.Execution.{Moment, Starts, LeadsOnThreads, starting_with}
use Rattle.sysv_thread_laws.specs.OnThreads.{ObeysOnThreads, EveryThreadedRunObeys}
use Rattle.sysv_model.specs.Turns.{Numbered, turns_of}
use Rattle.sysv_thread_laws.specs.Order.{Called, IsPlayed, ops_in, AreAll}
use Rattle.sysv_thread_laws.specs.OrderIsRun.{opening_for, name_at, started_at, all_started, all_standing, EndsAs}
use Rattle.sysv_thread_laws.specs.OrderIsRun.{renamed_turn, turn_as, turns_in, IsRunWith, EveryOrderIsARun}
use Rattle.sysv_thread_laws.proofs.Places.{same_name}
use Rattle.sysv_thread_laws.proofs.PlayedCallGoesOn.{leads_more, PlaysOn, is_there, plays_on, IsSettled}
use Rattle.sysv_thread_laws.proofs.NextCall.{PendingCall, doing_of, done_of, IsRight, left_of, left_in, ops}
use Rattle.sysv_thread_laws.proofs.OrderLeadsOn.{Holds, Went, goes}

-- ---- the calls at their starts

abbrev pending_at : ℕ → Called → PendingCall
pending_at place c =
    record { by = c.by; call = started_at place c; state = begun (started_at place c); rest = c.ops; to = c.state }

abbrev all_pending : ℕ → List Called → List PendingCall
all_pending place [] = []
all_pending place (c ∷ cs) = pending_at place c ∷ all_pending (suc place) cs

settled_at_start : (refused : Bool) (c : Called) →
    IsSettled c.state (cond refused (Over (Refused EINVAL)) (Goes (first c.cred c.asked c.released))) c.ops
settled_at_start true c = tt
settled_at_start false c = tt

right_at_start : (place : ℕ) (c : Called) → IsPlayed c → IsRight place (pending_at place c)
right_at_start place c plays = record {
  name = refl;
  plays = subst (PlaysOn c.state (begin c.cred c.asked c.released)) (append-nil c.ops)
      (plays_on c.state [] plays is_there);
  settled = settled_at_start (is_refused c.asked) c;
}

all_right : (start : ℕ) (cs : List Called) → ((place : ℕ) (c : Called) → slice_get cs place ≡ Some c → IsPlayed c) →
    (place : ℕ) (u : PendingCall) → slice_get (all_pending start cs) place ≡ Some u → IsRight (start + place) u
all_right start [] played place u there = absurd cc
all_right start (c ∷ cs) played zero u there =
    let is : pending_at start c ≡ u = cc in
    subst (λ n. IsRight n u) (omega arith) (subst (IsRight start) is (right_at_start start c (played zero c refl)))
all_right start (c ∷ cs) played (suc place) u there =
    subst (λ n. IsRight n u) (omega arith) (all_right (suc start) cs (λ p d at. played (suc p) d at) place u there)

-- At the start, all turns of a pass in calls are left.
left_at_start : (number start : ℕ) (cs : List Called) →
    left_in number (all_pending start cs) ≡ turns_in number start cs
left_at_start number start [] = refl
left_at_start number start (c ∷ cs) =
    ap (λ ts. left_of number (pending_at start c) ++ ts) (left_at_start number (suc start) cs)

ops_of_turns : (who : Who) (ds : List Op) → ops (map (turn_as who) ds) ≡ ds
ops_of_turns who [] = refl
ops_of_turns who (d ∷ ds) = ap (λ xs. d ∷ xs) (ops_of_turns who ds)

whole_at_start : (number start : ℕ) (cs : List Called) → ops (turns_in number start cs) ≡ ops_in number cs
whole_at_start number start [] = refl
whole_at_start number start (c ∷ cs) =
    map-append (λ (t : Turn). t.op) (cond (c.by == number) (map (turn_as (name_at start)) c.ops) [])
    (turns_in number (suc start) cs)
    ∙ (ap (λ ds. ds ++ ops (turns_in number (suc start) cs)) (by_test (c.by == number))
    ∙ ap (λ ds. cond (c.by == number) c.ops [] ++ ds) (whole_at_start number (suc start) cs))
  where
    by_test : (b : Bool) → ops (cond b (map (turn_as (name_at start)) c.ops) []) ≡ cond b c.ops []
    by_test true = ops_of_turns (name_at start) c.ops
    by_test false = refl

done_at_start : (start : ℕ) (cs : List Called) → map done_of (all_pending start cs) ≡ all_standing start cs
done_at_start start [] = refl
done_at_start start (c ∷ cs) = ap (λ ds. doing_in (started_at start c) c.state ∷ ds) (done_at_start (suc start) cs)

-- ---- the starts

pub record AllStart (w : World) (cs : List Called) (done : List (Option Doing)) : Type 0 where
  pub moments : List Moment
  pub responses : List Response
  pub mid : World
  pub leads : LeadsOnThreads w moments responses mid
  pub turns : mid.turns ≡ w.turns
  pub calls : mid.calls ≡ w.calls ++ all_started w.steps cs
  pub actors : mid.actors ≡ done ++ map doing_of (all_pending w.steps cs)
  pub generation : mid.generation ≡ w.generation
  pub blocks : mid.blocks ≡ w.blocks

get_after : {X : Type 0} (xs : List X) (x : X) (ys : List X) → slice_get (xs ++ x ∷ ys) (length xs) ≡ Some x
get_after [] x ys = refl
get_after (z ∷ xs) x ys = get_after xs x ys

set_after : {X : Type 0} (xs : List X) (x y : X) (ys : List X) → slice_set (xs ++ x ∷ ys) (length xs) y ≡ xs ++ y ∷ ys
set_after [] x y ys = refl
set_after (z ∷ xs) x y ys = ap (λ zs. z ∷ zs) (set_after xs x y ys)

all_start : (cs : List Called) (w : World) (done : List (Option Doing)) → w.steps ≡ length done →
    w.actors ≡ done ++ replicate (length cs) None → AllStart w cs done
all_start [] w done steps actors = record {
  moments = [];
  responses = [];
  mid = w;
  leads = (refl, refl);
  turns = refl;
  calls = sym (append-nil w.calls);
  actors = actors;
  generation = refl;
  blocks = refl;
}
all_start (c ∷ cs) w done steps actors =
    let call : Invocation = starting_with w (suc w.steps) c.cred c.asked c.released in
    let next_w : World = in_state (with_call w call) (suc w.steps) call (begun call) in
    let idle : slice_get w.actors w.steps ≡ Some None = ap (slice_get w.actors) steps
    ∙ (ap (λ ds. slice_get ds (length done)) actors ∙ get_after done None (replicate (length cs) None)) in
    let doing : Option Doing = doing_in call (begun call) in
    let r = all_start cs next_w (done ++ doing ∷ []) (omega (arith, length-append done (doing ∷ [])))
    (ap (λ n. slice_set w.actors n doing) steps
    ∙ (ap (λ ds. slice_set ds (length done) doing) actors
    ∙ (set_after done None doing (replicate (length cs) None)
    ∙ sym (append_assoc done (doing ∷ []) (replicate (length cs) None))))) in
    let one_more : w.steps + 1 ≡ suc w.steps = omega arith in
    record {
      moments = Starts (suc w.steps) c.cred c.asked c.released ∷ r.moments;
      responses = response_in call (begun call) ++ r.responses;
      mid = r.mid;
      leads = (next_w, response_in call (begun call), r.responses, (idle, (refl, refl)), r.leads, refl);
      turns = r.turns;
      calls = r.calls
          ∙ (append_assoc w.calls (call ∷ []) (all_started (w.steps + 1) cs)
          ∙ ap (λ n. w.calls ++ call ∷ all_started n cs) one_more);
      actors = r.actors
          ∙ (append_assoc done (doing ∷ []) (map doing_of (all_pending (w.steps + 1) cs))
          ∙ ap (λ n. done ++ doing ∷ map doing_of (all_pending n cs)) one_more);
      generation = r.generation;
      blocks = r.blocks;
    }

-- ---- where a call stands, and what it answered

-- The actor of a call is in it, in its state, or is idle if the call is over.
pub standing_at : (start : ℕ) (cs : List Called) (place : ℕ) (c : Called) → slice_get cs place ≡ Some c →
    slice_get (all_standing start cs) place ≡ Some (doing_in (started_at (start + place) c) c.state)
standing_at start [] place c there = absurd cc
standing_at start (d ∷ cs) zero c there =
    let is : d ≡ c = cc in
    ap (λ (x : Called). Some (doing_in (started_at start x) x.state)) is
    ∙ ap (λ n. Some (doing_in (started_at n c) c.state)) (omega arith)
standing_at start (d ∷ cs) (suc place) c there =
    standing_at (suc start) cs place c there ∙ ap (λ n. Some (doing_in (started_at n c) c.state)) (omega arith)

started_there : (start : ℕ) (cs : List Called) (place : ℕ) (c : Called) → slice_get cs place ≡ Some c →
    slice_get (all_started start cs) place ≡ Some (started_at (start + place) c)
started_there start [] place c there = absurd cc
started_there start (d ∷ cs) zero c there =
    let is : d ≡ c = cc in
    ap (λ (x : Called). Some (started_at start x)) is ∙ ap (λ n. Some (started_at n c)) (omega arith)
started_there start (d ∷ cs) (suc place) c there =
    started_there (suc start) cs place c there ∙ ap (λ n. Some (started_at n c)) (omega arith)

pending_there : (start : ℕ) (cs : List Called) (place : ℕ) (c : Called) → slice_get cs place ≡ Some c →
    slice_get (all_pending start cs) place ≡ Some (pending_at (start + place) c)
pending_there start [] place c there = absurd cc
pending_there start (d ∷ cs) zero c there =
    let is : d ≡ c = cc in
    ap (λ (x : Called). Some (pending_at start x)) is ∙ ap (λ n. Some (pending_at n c)) (omega arith)
pending_there start (d ∷ cs) (suc place) c there =
    pending_there (suc start) cs place c there ∙ ap (λ n. Some (pending_at n c)) (omega arith)

in_its_place : (call : Invocation) (state : State (kind_of call.asked)) → is_same call.who call.who ≡ true →
    stands_in call.who (Some (doing_in call state)) ≡ doing_in call state
in_its_place call (Goes phase) same = ap (λ b. cond b (Some record { call = call; state = Goes phase }) None) same
in_its_place call (Waits wait) same = ap (λ b. cond b (Some record { call = call; state = Waits wait }) None) same
in_its_place call (Over ending) same = refl

-- Two plays along the same turns that leave the actor in the same state have the same endings.
module _ (one : OneAnswer) (call : Invocation) (ds : List Op) where
  one_ending : (state other : State (kind_of call.asked)) → Plays (begun call) ds state → Plays (begun call) ds other →
      doing_in call state ≡ doing_in call other → ended state ≡ ended other
  one_ending (Goes phase) (Goes another) p q same = refl
  one_ending (Goes phase) (Waits wait) p q same = refl
  one_ending (Waits wait) (Goes phase) p q same = refl
  one_ending (Waits wait) (Waits another) p q same = refl
  one_ending (Over ending) (Over another) p q same =
      ap (λ e. e ∷ []) (one call.cred call.asked call.released call.released ds ending another p q)
  one_ending (Over ending) (Goes phase) p q same = absurd cc
  one_ending (Over ending) (Waits wait) p q same = absurd cc
  one_ending (Goes phase) (Over ending) p q same = absurd cc
  one_ending (Waits wait) (Over ending) p q same = absurd cc

-- ---- the run

module _ (obeys : EveryThreadedRunObeys) (one : OneAnswer) (gen size : ℕ) (order : List Numbered) (calls : List Called)
    (legal : AreLegal gen size (turns_of order)) (all : AreAll order calls) where
  abbrev o : Opening
  o = opening_for gen size calls

  played_at : (place : ℕ) (c : Called) → slice_get calls place ≡ Some c → IsPlayed c
  played_at place c there = subst IsPlayed (get_or_from_slice_get calls place c c there)
      (all.played place c (slice_get_within calls place c there))

  started : AllStart (opening o) calls []
  started = all_start calls (opening o) [] refl refl

  module _ (s : AllStart (opening o) calls []) where
    start_holds : Holds gen size [] order s.mid (all_pending 0 calls)
    start_holds = record {
      legal = legal;
      generation = s.generation;
      blocks = s.blocks;
      acts = ap ops s.turns;
      actors = s.actors;
      right = λ place u there. subst (λ n. IsRight n u) (omega arith) (all_right 0 calls played_at place u there);
      whole = λ number.
          all.whole number ∙ sym (ap ops (left_at_start number 0 calls) ∙ whole_at_start number 0 calls);
    }

    module _ (r : Went order s.mid (all_pending 0 calls)) where
      leads : LeadsOnThreads (opening o) (s.moments ++ r.moments) (s.responses ++ r.responses) r.world
      leads = leads_more s.moments r.moments (opening o) s.mid r.world s.responses r.responses s.leads r.leads

      it_obeys : ObeysOnThreads o r.world (s.responses ++ r.responses)
      it_obeys = obeys o (s.moments ++ r.moments) (s.responses ++ r.responses) r.world leads

      turns_are : r.world.turns ≡ map renamed_turn r.renamed
      turns_are = r.after ∙ ap (λ ts. ts ++ map renamed_turn r.renamed) s.turns

      calls_are : r.world.calls ≡ all_started 0 calls
      calls_are = r.calls ∙ s.calls

      actors_are : r.world.actors ≡ all_standing 0 calls
      actors_are = r.actors ∙ done_at_start 0 calls

      -- The call at a place of the list.
      module _ (place : ℕ) (c : Called) (there : slice_get calls place ≡ Some c) where
        abbrev call : Invocation
        call = started_at place c

        at_place : {X : Type 0} (f : ℕ → X) → f (0 + place) ≡ f place
        at_place f = ap f (omega arith)

        call_at : slice_get r.world.calls place ≡ Some call
        call_at = ap (λ cs. slice_get cs place) calls_are
            ∙ (started_there 0 calls place c there ∙ at_place (λ n. Some (started_at n c)))

        outcome : Outcome r.world (s.responses ++ r.responses) call
        outcome =
            subst (Outcome r.world (s.responses ++ r.responses))
            (get_or_from_slice_get r.world.calls place call call call_at)
            (it_obeys.calls.outcomes place call (slice_get_within r.world.calls place call call_at))

        its_ops : ops_of (name_at place) r.world.turns ≡ c.ops
        its_ops = ap (ops_of (name_at place)) turns_are
            ∙ r.own place (pending_at place c)
            (pending_there 0 calls place c there ∙ at_place (λ n. Some (pending_at n c)))

        its_place : standing_of (name_at place) r.world.actors ≡ doing_in call c.state
        its_place =
            ap (λ ds. stands_in (name_at place) (slice_get ds place)) actors_are
            ∙ (ap (stands_in (name_at place))
            (standing_at 0 calls place c there ∙ at_place (λ n. Some (doing_in (started_at n c) c.state)))
            ∙ in_its_place call c.state (same_name (name_at place) place refl))

        ends_as : EndsAs r.world (s.responses ++ r.responses) (name_at place) c
        ends_as = record {
          ops = its_ops;
          answered = outcome.answered
              ∙ one_ending one call c.ops outcome.state c.state
              (subst (λ ds. Plays (begun call) ds outcome.state) its_ops outcome.plays) (played_at place c there)
              (sym outcome.stands ∙ its_place);
        }

      is_run : IsRunWith gen size order calls
      is_run = record {
        moments = s.moments ++ r.moments;
        responses = s.responses ++ r.responses;
        world = r.world;
        leads = leads;
        turns = record {
          renamed = r.renamed;
          in_order = r.before;
          in_world = sym turns_are;
          rows = r.rows;
          whose = λ number. r.whose number ∙ left_at_start number 0 calls;
        };
        started = calls_are;
        each = ends_as;
        standing = actors_are;
        obeys = it_obeys;
      }

pub every_order_is_a_run : EveryThreadedRunObeys → OneAnswer → EveryOrderIsARun
every_order_is_a_run obeys one gen size order calls legal all =
    let s = started obeys one gen size order calls legal all in
    let r =
    goes gen size [] order s.mid (all_pending 0 calls) (start_holds obeys one gen size order calls legal all s) in
    is_run obeys one gen size order calls legal all s r
