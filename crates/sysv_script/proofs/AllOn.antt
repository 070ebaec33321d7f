-- The calls of all actors, one after the other: those that were continued so far, and what is still
-- to be shown.
use Rattle.std.proofs.Common.{◌≡◌, ◌+◌, ◌-◌, ◌≤◌, ◌<◌, ℕ, suc, List, [], ◌∷◌, ◌++◌, sym, ap, subst, ◌∙◌, append_assoc}
use Rattle.std.proofs.Common.{refl, arith}
use Rattle.std.proofs.lemmas.List.{append-nil}
use Rattle.std.specs.List.{range_with_len}
use Rattle.sysv_core.specs.World.{actor_at}
use Rattle.sysv_script.specs.ScriptState.{ScriptState, OneRuns, AllRun, pending}
use Rattle.sysv_script.specs.Staged.{IsScriptStateOf}
use Rattle.sysv_script.specs.declared.stage.Stage.{Stage}

-- From one script state, with its output, to another one in which the actors from this one on are left.
pub record AllSofar (start now : Stage) (before composed : List ℕ) (actor : ℕ) : Type 0 where
  pub least : 1 ≤ actor
  pub most : actor ≤ 17
  pub sofar : (s : ScriptState) → IsScriptStateOf s start →
      (m : ScriptState) × (out : List ℕ) × IsScriptStateOf m now × (composed ≡ before ++ out)
      × ((rest : List ℕ) (after : ScriptState) → AllRun (range_with_len actor (17 - actor)) m rest after →
      AllRun (range_with_len 1 16) s (out ++ rest) after)

pub none_on : (start : Stage) (before : List ℕ) → AllSofar start start before before 1
none_on start before = record {
  least = omega arith;
  most = omega arith;
  sofar = λ s seen. (s, [], seen, sym (append-nil before), λ rest after run. run);
}

pub one_on : (start now new : Stage) (before composed more : List ℕ) (actor : ℕ) → actor < 17 →
    AllSofar start now before composed actor →
    ((s : ScriptState) → IsScriptStateOf s now →
    (after : ScriptState) × (out : List ℕ) × OneRuns s actor (pending (actor_at s.world.actors actor)) out after
    × IsScriptStateOf after new × (more ≡ composed ++ out)) →
    AllSofar start new before more (actor + 1)
one_on start now new before composed more actor few old runs = record {
  least = omega (arith, old.least);
  most = omega (arith, few);
  sofar = λ s seen.
      let g = old.sofar s seen in
      let h = runs g.0 g.2 in
      let left : 17 - actor ≡ suc (17 - (actor + 1)) = omega (arith, few) in (
        h.0,
        g.1 ++ h.1,
        h.3,
        h.4 ∙ (ap (λ l. l ++ h.1) g.3 ∙ append_assoc before g.1 h.1),
        λ rest after run.
            let all : AllRun (actor ∷ range_with_len (actor + 1) (17 - (actor + 1))) g.0 (h.1 ++ rest) after =
            (h.0, h.1, rest, h.2, run, refl) in
            let here : AllRun (range_with_len actor (17 - actor)) g.0 (h.1 ++ rest) after =
            subst (λ n. AllRun (range_with_len actor n) g.0 (h.1 ++ rest) after) (sym left) all in
            subst (λ out. AllRun (range_with_len 1 16) s out after) (sym (append_assoc g.1 h.1 rest))
            (g.4 (h.1 ++ rest) after here),
      );
}

-- No actor is left.
pub all_on : (start now : Stage) (before composed : List ℕ) (actor : ℕ) → actor ≡ 17 →
    AllSofar start now before composed actor →
    (s : ScriptState) → IsScriptStateOf s start →
    (after : ScriptState) × (out : List ℕ) × AllRun (range_with_len 1 16) s out after × IsScriptStateOf after now
    × (composed ≡ before ++ out)
all_on start now before composed actor e old s seen =
    let g = old.sofar s seen in
    let left : 0 ≡ 17 - actor = omega (arith, e) in
    let none : AllRun (range_with_len actor (17 - actor)) g.0 [] g.0 =
    subst (λ n. AllRun (range_with_len actor n) g.0 [] g.0) left (refl, refl) in
    (g.0, g.1, subst (λ out. AllRun (range_with_len 1 16) s out g.0) (append-nil g.1) (g.4 [] g.0 none), g.2, g.3)
