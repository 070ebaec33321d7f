-- A play up to one of its operations, and the turn of that operation.
use Rattle.std.proofs.Common.{◌≡◌, ◌⊎◌, inl, inr, ℕ, Bool, true, false, cond, List, [], ◌∷◌, ◌++◌, map, refl, sym, ap}
use Rattle.std.proofs.Common.{subst, ◌∙◌}
use Rattle.std.specs.List.{All, filter, list_any}
use Rattle.std.proofs.lemmas.List.{map-append}
use Rattle.std.proofs.lemmas.List.Elements.{All-head, All-tail, filter-append}
use Rattle.std.proofs.lemmas.Bool.{or_cases}
use Rattle.sysv_model.specs.History.{Who}
use Rattle.sysv_model.specs.Turn.{Op, asked_by, Turn, is_same, ops_of}
use Rattle.sysv_steps.specs.Call.{Kind}
use Rattle.sysv_steps.specs.State.{Phase, State, Goes, Waits}
use Rattle.sysv_steps.specs.Asks.{asks}
use Rattle.sysv_steps.specs.Played.{Plays, begins, steps, resumes}

-- ---- lists

pub no_nil : {X : Type 0} (front : List X) (x : X) (back : List X) → [] ≡ front ++ x ∷ back → ⊥
no_nil [] x back e = cc
no_nil (y ∷ front) x back e = cc

-- One of the elements of a list is the last, or one before it.
pub last_or_before : {X : Type 0} (xs : List X) (x : X) (front : List X) (y : X) (back : List X) →
    xs ++ x ∷ [] ≡ front ++ y ∷ back →
    ((front ≡ xs) × (y ≡ x)) ⊎ ((rest : List X) × (xs ≡ front ++ y ∷ rest) × (back ≡ rest ++ x ∷ []))
last_or_before [] x [] y back e = inl (refl, cc)
last_or_before [] x (f ∷ front) y back e =
    let none : [] ≡ front ++ y ∷ back = cc in absurd (no_nil front y back none)
last_or_before (z ∷ xs) x [] y back e =
    let same : z ≡ y = cc in
    let rest : xs ++ x ∷ [] ≡ back = cc in
    inr (xs, ap (λ w. w ∷ xs) same, sym rest)
last_or_before (z ∷ xs) x (f ∷ front) y back e =
    let same : z ≡ f = cc in
    let rest : xs ++ x ∷ [] ≡ front ++ y ∷ back = cc in
    elim (last_or_before xs x front y back rest) [
      | inl here ↦ inl (ap (λ ys. f ∷ ys) here.0 ∙ ap (λ w. w ∷ xs) (sym same), here.1)
      | inr more ↦ inr (more.0, ap (λ w. w ∷ xs) same ∙ ap (λ ys. f ∷ ys) more.1, more.2)
    ]

pub all_at : {X : Type 0} (P : X → Type 0) (front : List X) (x : X) (back : List X) → All P (front ++ x ∷ back) → P x
all_at P [] x back all = All-head P x back all
all_at P (y ∷ front) x back all = all_at P front x back (All-tail P y (front ++ x ∷ back) all)

-- ---- a play

-- The call was before a step that requests what the operation requests.
pub record IsBeforeOp {kind : Kind} (from : State kind) (front : List Op) (op : Op) : Type 0 where
  pub phase : Phase kind
  pub now : ℕ
  pub play : Plays from front (Goes phase)
  pub asked : asked_by op ≡ asks phase now

pub play_before : {kind : Kind} (from : State kind) (ops : List Op) (state : State kind) → Plays from ops state →
    (front : List Op) (op : Op) (back : List Op) → ops ≡ front ++ op ∷ back → IsBeforeOp from front op
play_before from _ _ begins front op back e = absurd (no_nil front op back e)
play_before from _ _ (steps {ops} {phase} last now after play asked row) front op back e =
    elim (last_or_before ops last front op back e) [
      | inl here ↦
          record {
            phase = phase;
            now = now;
            play = subst (λ ds. Plays from ds (Goes phase)) (sym here.0) play;
            asked = ap asked_by here.1 ∙ asked;
          }
      | inr more ↦ play_before from ops (Goes phase) play front op more.0 more.1
    ]
play_before from _ _ (resumes {ops} {wait} value play least) front op back e =
    play_before from ops (Waits wait) play front op back e

-- ---- turns

abbrev op_in : Turn → Op
op_in t = t.op

-- The operations of a call around one of its turns.
pub ops_around : (who : Who) (before : List Turn) (t : Turn) (after : List Turn) → is_same who t.who ≡ true →
    ops_of who (before ++ t ∷ after) ≡ ops_of who before ++ t.op ∷ ops_of who after
ops_around who before t after same =
    let own = λ (x : Turn). is_same who x.who in
    ap (map op_in) (filter-append own before (t ∷ after))
    ∙ (map-append op_in (filter own before) (filter own (t ∷ after))
    ∙ ap (λ b. ops_of who before ++ map op_in (cond b (t ∷ filter own after) (filter own after))) same)

-- A turn whose operation passes the test.
pub record HasTurn (test : Op → Bool) (who : Who) (turns : List Turn) : Type 0 where
  pub before : List Turn
  pub turn : Turn
  pub after : List Turn
  pub whole : turns ≡ before ++ turn ∷ after
  pub own : is_same who turn.who ≡ true
  pub passes : test turn.op ≡ true

later_turn : (test : Op → Bool) (who : Who) (t : Turn) (turns : List Turn) → HasTurn test who turns →
    HasTurn test who (t ∷ turns)
later_turn test who t turns h = record {
  before = t ∷ h.before;
  turn = h.turn;
  after = h.after;
  whole = ap (λ ts. t ∷ ts) h.whole;
  own = h.own;
  passes = h.passes;
}

first_turn : (test : Op → Bool) (who : Who) (t : Turn) (turns : List Turn) →
    (list_any test (ops_of who turns) ≡ true → HasTurn test who turns) → (b : Bool) → is_same who t.who ≡ b →
    list_any test (map op_in (cond b (t ∷ filter (λ (x : Turn). is_same who x.who) turns)
    (filter (λ (x : Turn). is_same who x.who) turns))) ≡ true →
    HasTurn test who (t ∷ turns)
first_turn test who t turns rest true own some =
    elim (or_cases (test t.op) (list_any test (ops_of who turns)) some) [
      | inl here ↦ record { before = []; turn = t; after = turns; whole = refl; own = own; passes = here }
      | inr more ↦ later_turn test who t turns (rest more)
    ]
first_turn test who t turns rest false own some = later_turn test who t turns (rest some)

pub has_turn : (test : Op → Bool) (who : Who) (turns : List Turn) → list_any test (ops_of who turns) ≡ true →
    HasTurn test who turns
has_turn test who [] some = absurd cc
has_turn test who (t ∷ turns) some =
    first_turn test who t turns (λ more. has_turn test who turns more) (is_same who t.who) refl some
