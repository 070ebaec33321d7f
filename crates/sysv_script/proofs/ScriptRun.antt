-- Each line of a script goes on with the run that led to its world, or opens a new one, and prints
-- the results of the calls that end.
use Rattle.std.proofs.Common.{◌≡◌, inl, inr, ℕ, zero, suc, ◌+◌, Bool, true, false, if◌then◌else◌, Option, None, Some}
use Rattle.std.proofs.Common.{List, [], ◌∷◌, ◌++◌, refl, sym, ap, subst, ◌∙◌, append_assoc}
use Rattle.std.specs.List.{range_with_len}
use Rattle.sysv_steps.specs.Call.{SystemCall}
use Rattle.sysv_core.specs.World.{World, Preset, actor_at, opening}
use Rattle.sysv_core.specs.declared.event.Stepped.{Stepped}
use Rattle.sysv_core.specs.declared.event.Stepped.TheVariants as stepped
use Rattle.sysv_script.specs.Said.{Said, Nothing, MakesPreset, GivesCred, GivesMoment, Starts, StepsOnce, Continues}
use Rattle.sysv_script.specs.Said.{AllContinue, GivesBlocks}
use Rattle.sysv_script.specs.Names.{operation_of}
use Rattle.sysv_script.specs.declared.actor.TheConstants.{SCRIPT_ACTORS}
use Rattle.sysv_script.specs.declared.names.Operation.{Operation}
use Rattle.sysv_script.specs.ScriptState.{ScriptState, in_world, begun_script_state, opening_script_state}
use Rattle.sysv_script.specs.ScriptState.{opening_world, LineActs}
use Rattle.sysv_script.specs.ScriptState.{GoesOn, CallRuns, StartRuns, StepsRun, OneRuns, AllRun, LineRuns, pending}
use Rattle.sysv_script.specs.ScriptState.{most_steps}
use Rattle.sysv_script.specs.ScriptText.{Ending, Prints, Ends, Exceeds, Fails, Goes}
use Rattle.sysv_script.specs.Sofar.{PrintsSofar, Here, Past}
use Rattle.sysv_script.specs.Results.{HasResults, Empty, LeadsPrinting, IsOfRunPrinting}
use Rattle.sysv_script.specs.ScriptRun.{IsOfRun, FollowsPrinting, last_text, EachScriptIsARun}
use Rattle.sysv_script.proofs.OwnOperation.{calls_pending}
use Rattle.sysv_script.proofs.ResultsPrinted.{leads_append, print_both, rests, one_makes, without_result, goes_on_to}
use Rattle.sysv_script.proofs.ResultsPrinted.{call_runs_to, steps_print}

opens : (blocks : ℕ) → IsOfRun (opening_world blocks)
opens blocks = (record { actors = SCRIPT_ACTORS; blocks = blocks; first = 0; generation = 0 }, [], [], (refl, refl))

run_on : (w : World) (out : List ℕ) (after : World) → IsOfRun w → LeadsPrinting w out after → IsOfRun after
run_on w out after run l =
    (run.0, run.1 ++ l.0, run.2 ++ l.1, leads_append (opening run.0) run.1 l.0 run.2 l.1 w after run.3 l.2)

-- ---- what a line does

-- What a line that is not skipped does to a script state: whether all were skipped stays as it is.
abbrev Does : ScriptState → List ℕ → ScriptState → Type 0
Does s out a = (a.fresh ≡ s.fresh) × LeadsPrinting s.world out a.world

-- The script state is another, and nothing was printed.
unchanged : (s a : ScriptState) (out : List ℕ) → out ≡ [] → a ≡ s → Does s out a
unchanged s a out o e = (
  ap (λ (m : ScriptState). m.fresh) e,
  subst (λ out. LeadsPrinting s.world out a.world) (sym o)
      (rests s.world a.world (ap (λ (m : ScriptState). m.world) e)),
)

-- The script state is as it was, and a line without a result was printed.
told : (s a : ScriptState) (out line : List ℕ) → HasResults [] line → out ≡ line → a ≡ s → Does s out a
told s a out line has o e = (
  ap (λ (m : ScriptState). m.fresh) e,
  ([], [], (refl, ap (λ (m : ScriptState). m.world) e), subst (HasResults []) (sym o) has),
)

goes_on_fresh : (n : ℕ) (s : ScriptState) (actor : ℕ) (first given : Stepped) (a : ScriptState) →
    GoesOn n s actor first given a →
    a.fresh ≡ s.fresh
goes_on_fresh zero s actor stepped.Nothing given a h = ap (λ (m : ScriptState). m.fresh) h.1
goes_on_fresh zero s actor (stepped.Answer answer) given a h = ap (λ (m : ScriptState). m.fresh) h.1
goes_on_fresh zero s actor stepped.Worn given a h = ap (λ (m : ScriptState). m.fresh) h.1
goes_on_fresh (suc n) s actor stepped.Nothing given a h =
    goes_on_fresh n h.0 actor h.1 given a h.3 ∙ ap (λ (m : ScriptState). m.fresh) h.2.1
goes_on_fresh (suc n) s actor (stepped.Answer answer) given a h = ap (λ (m : ScriptState). m.fresh) h.1
goes_on_fresh (suc n) s actor stepped.Worn given a h = ap (λ (m : ScriptState). m.fresh) h.1

start_does : (s : ScriptState) (actor : ℕ) (asked : SystemCall) (goes : Bool) (o : Option Operation) (out : List ℕ)
    (a : ScriptState) → pending (actor_at s.world.actors actor) ≡ o →
    StartRuns s actor asked goes o out a → Does s out a
start_does s actor asked goes (Some operation) out a is h =
    told s a out _ (without_result _ (actor, inr (inl refl))) h.0 h.1
start_does s actor asked goes None out a is h =
    let c : CallRuns s actor asked goes h.0 a = h.1 in (
      goes_on_fresh (most_steps goes) c.0 actor c.1 h.0 a c.3 ∙ ap (λ (m : ScriptState). m.fresh) c.2.2.1,
      steps_print (operation_of asked) s.world h.0 actor out a.world (call_runs_to s actor asked goes h.0 a is c)
          h.2,
    )

steps_do : (n : ℕ) (s : ScriptState) (actor : ℕ) (o : Option Operation) (out : List ℕ) (a : ScriptState) →
    pending (actor_at s.world.actors actor) ≡ o → StepsRun n s actor o out a → Does s out a
steps_do n s actor None out a is h = told s a out _ (without_result _ (actor, inr (inr (inl refl)))) h.0 h.1
steps_do n s actor (Some operation) out a is h = (
  goes_on_fresh n s actor stepped.Nothing h.0 a h.1,
  steps_print operation s.world h.0 actor out a.world
      (goes_on_to n operation s actor h.0 a (calls_pending operation (actor_at s.world.actors actor) is) h.1) h.2,
)

one_does : (s : ScriptState) (actor : ℕ) (o : Option Operation) (out : List ℕ) (a : ScriptState) →
    pending (actor_at s.world.actors actor) ≡ o → OneRuns s actor o out a → Does s out a
one_does s actor None out a is h = unchanged s a out h.0 h.1
one_does s actor (Some operation) out a is h = steps_do 16 s actor (Some operation) out a is h

all_do : (actors : List ℕ) (s : ScriptState) (out : List ℕ) (a : ScriptState) → AllRun actors s out a →
    Does s out a
all_do [] s out a h = unchanged s a out h.0 h.1
all_do (actor ∷ actors) s out a h =
    let one = one_does s actor (pending (actor_at s.world.actors actor)) h.1 h.0 refl h.3 in
    let rest = all_do actors h.0 h.2 a h.4 in (
      rest.0 ∙ one.0,
      subst (λ out. LeadsPrinting s.world out a.world) (sym h.5)
          (print_both s.world h.1 h.2 h.0.world a.world one.1 rest.1),
    )

act_does : (s : ScriptState) (said : Said) (understood : Bool) (out : List ℕ) (a : ScriptState) →
    LineActs s said understood out a → Does s out a
act_does s Nothing understood out a h = unchanged s a out h.1 h.2
act_does s (GivesBlocks blocks) understood out a h = unchanged s a out h.1 h.2
act_does s MakesPreset understood out a h = (
  ap (λ (m : ScriptState). m.fresh) h.2,
  subst (λ out. LeadsPrinting s.world out a.world) (sym h.1)
      (Preset ∷ [], [], one_makes s.world a.world Preset [] (refl, (understood, h.0)), Empty),
)
act_does s (GivesCred actor cred) understood out a h = (
  ap (λ (m : ScriptState). m.fresh) h.2,
  subst (λ out. LeadsPrinting s.world out a.world) (sym h.1)
      (rests s.world a.world (ap (λ (m : ScriptState). m.world) h.2)),
)
act_does s (GivesMoment moment) understood out a h = (
  ap (λ (m : ScriptState). m.fresh) h.2,
  subst (λ out. LeadsPrinting s.world out a.world) (sym h.1)
      (rests s.world a.world (ap (λ (m : ScriptState). m.world) h.2)),
)
act_does s (Starts actor asked goes) understood out a h =
    start_does s actor asked goes (pending (actor_at s.world.actors actor)) out a refl h.1
act_does s (StepsOnce actor) understood out a h =
    steps_do 1 s actor (pending (actor_at s.world.actors actor)) out a refl h.1
act_does s (Continues actor) understood out a h =
    steps_do 16 s actor (pending (actor_at s.world.actors actor)) out a refl h.1
act_does s AllContinue understood out a h = all_do (range_with_len 1 16) s out a h.1

-- ---- a line

-- A line leads on. If every line so far, this one too, was skipped, it printed nothing.
record Follows (s : ScriptState) (out : List ℕ) (a : ScriptState) : Type 0 where
  printing : FollowsPrinting s out a.world
  skipped : a.fresh ≡ true → (out ≡ []) × (s.fresh ≡ true)

-- A line that is not skipped.
begun : (s : ScriptState) (out : List ℕ) (a : ScriptState) → Does (begun_script_state s) out a → Follows s out a
begun s out a d = record {
  printing = inl d.1;
  skipped = λ e. let never : true ≡ false = sym e ∙ d.0 in absurd cc;
}

-- The size of the pool opens a new world, or comes too late.
pool_follows : (fresh : Bool) (s : ScriptState) (blocks : ℕ) (out : List ℕ) (a : ScriptState) → s.fresh ≡ fresh →
    out ≡ [] →
    a ≡ (if fresh then in_world (begun_script_state s) (opening_world blocks) else s) → Follows s out a
pool_follows true s blocks out a is o e = record {
  printing = inr (
    is,
    (
      blocks,
      subst (λ out. LeadsPrinting (opening_world blocks) out a.world) (sym o)
          (rests (opening_world blocks) a.world (ap (λ (m : ScriptState). m.world) e)),
    ),
  );
  skipped = λ f. let never : true ≡ false = sym f ∙ ap (λ (m : ScriptState). m.fresh) e in absurd cc;
}
pool_follows false s blocks out a is o e = record {
  printing = inl (unchanged s a out o e).1;
  skipped = λ f. (o, sym (ap (λ (m : ScriptState). m.fresh) e) ∙ f);
}

line_follows : (s : ScriptState) (said : Said) (understood : Bool) (out : List ℕ) (a : ScriptState) →
    LineRuns s said understood out a → Follows s out a
line_follows s Nothing understood out a h = record {
  printing = inl (unchanged s a out h.1 h.2).1;
  skipped = λ f. (h.1, sym (ap (λ (m : ScriptState). m.fresh) h.2) ∙ f);
}
line_follows s (GivesBlocks blocks) understood out a h = pool_follows s.fresh s blocks out a refl h.0 h.1.1
line_follows s MakesPreset understood out a h =
    begun s out a (act_does (begun_script_state s) MakesPreset understood out a h)
line_follows s (GivesCred actor cred) understood out a h =
    begun s out a (act_does (begun_script_state s) (GivesCred actor cred) understood out a h)
line_follows s (GivesMoment moment) understood out a h =
    begun s out a (act_does (begun_script_state s) (GivesMoment moment) understood out a h)
line_follows s (Starts actor asked goes) understood out a h =
    begun s out a (act_does (begun_script_state s) (Starts actor asked goes) understood out a h)
line_follows s (StepsOnce actor) understood out a h =
    begun s out a (act_does (begun_script_state s) (StepsOnce actor) understood out a h)
line_follows s (Continues actor) understood out a h =
    begun s out a (act_does (begun_script_state s) (Continues actor) understood out a h)
line_follows s AllContinue understood out a h =
    begun s out a (act_does (begun_script_state s) AllContinue understood out a h)

run_after : (s : ScriptState) (out : List ℕ) (after : World) → IsOfRun s.world → FollowsPrinting s out after →
    IsOfRun after
run_after s out after run (inl l) = run_on s.world out after run l
run_after s out after run (inr l) = run_on (opening_world l.1.0) out after (opens l.1.0) l.1.1

-- ---- a text

-- A line, and what follows on the script state that it leaves.
past : (s : ScriptState) (out : List ℕ) (mid : ScriptState) (more : List ℕ) (after : World) → Follows s out mid →
    FollowsPrinting mid more after → FollowsPrinting s (out ++ more) after
past s out mid more after f (inr l) =
    let skipped = f.skipped l.0 in
    inr (skipped.1, (l.1.0, subst (λ x. LeadsPrinting (opening_world l.1.0) (x ++ more) after) (sym skipped.0) l.1.1))
past s out mid more after f (inl l) = elim f.printing [
  | inl first ↦ inl (print_both s.world out more mid.world after first l)
  | inr first ↦ inr (first.0, (first.1.0, print_both (opening_world first.1.0) out more mid.world after first.1.1 l))
]

text_follows : (s : ScriptState) (n : ℕ) (text out left : List ℕ) (there : ScriptState) →
    PrintsSofar s n text out left there →
    IsOfRun s.world → FollowsPrinting s out there.world
text_follows s n text out left there (Here _ _ _) run = inl (rests s.world s.world refl)
text_follows s n text out left there (Past _ _ _ line rest first after more _ _ few begins does p) run =
    let f = line_follows s does.0 true first after does.2 in
    past s first after more there.world f
    (text_follows after (n + 1) rest more left there p (run_after s first after.world run f.printing))

-- A whole text, but for what it prints last.
record PrintsUpTo (s : ScriptState) (n : ℕ) (text out : List ℕ) (ending : Ending) : Type 0 where
  told : List ℕ
  left : List ℕ
  there : ScriptState
  whole : out ≡ told ++ last_text ending
  sofar : PrintsSofar s n text told left there

up_to : (s : ScriptState) (n : ℕ) (text out : List ℕ) (ending : Ending) → Prints s n text out ending →
    PrintsUpTo s n text out ending
up_to s n text out ending (Ends _ _) =
    record { told = []; left = []; there = s; whole = refl; sofar = Here s n [] }
up_to s n text out ending (Exceeds _ _ _ many some) =
    record { told = []; left = text; there = s; whole = refl; sofar = Here s n text }
up_to s n text out ending (Fails _ _ _ line rest few begins bad) =
    record { told = []; left = text; there = s; whole = refl; sofar = Here s n text }
up_to s n text out ending (Goes _ _ _ line rest first after more _ few begins does p) =
    let u = up_to after (n + 1) rest more ending p in
    record {
      told = first ++ u.told;
      left = u.left;
      there = u.there;
      whole = ap (λ x. first ++ x) u.whole ∙ sym (append_assoc first u.told (last_text ending));
      sofar = Past s n text line rest first after u.told u.left u.there few begins does u.sofar;
    }

-- ---- the law

from_opening : (out : List ℕ) (after : World) → FollowsPrinting opening_script_state out after →
    IsOfRunPrinting out after
from_opening out after (inl l) = (record { actors = SCRIPT_ACTORS; blocks = 1024; first = 0; generation = 0 }, l)
from_opening out after (inr l) =
    (record { actors = SCRIPT_ACTORS; blocks = l.1.0; first = 0; generation = 0 }, l.1.1)

sofar_prints : (text out left : List ℕ) (there : ScriptState) → PrintsSofar opening_script_state 1 text out left there →
    IsOfRunPrinting out there.world
sofar_prints text out left there p =
    from_opening out there.world (text_follows opening_script_state 1 text out left there p (opens 1024))

pub each_script_is_a_run : EachScriptIsARun
each_script_is_a_run = record {
  opens = opens 1024;
  line = λ s said understood out after h run.
      let f = line_follows s said understood out after h in
      (run_after s out after.world run f.printing, f.printing);
  text = λ s n text out left there h run.
      let f = text_follows s n text out left there h run in (run_after s out there.world run f, f);
  sofar = λ text out left there h. sofar_prints text out left there h;
  whole = λ text out ending h.
      let u = up_to opening_script_state 1 text out ending h in
      (u.told, u.there.world, u.whole, sofar_prints text u.told u.left u.there u.sofar);
}
