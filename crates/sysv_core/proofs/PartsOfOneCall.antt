-- What belongs to a call among all turns, endings and actors, and that one more item of another
-- call leaves it as it was.
use Rattle.std.proofs.Common.{◌≡◌, ◌≢◌, ℕ, zero, suc, ◌==◌, inl, inr, Bool, true, false, cond, List, [], ◌∷◌}
use Rattle.std.proofs.Common.{◌++◌, Option, None, Some, refl, sym, ap, subst, ◌∙◌, arith, map, slice_get, slice_set}
use Rattle.std.specs.List.{filter}
use Rattle.std.proofs.lemmas.List.{append-nil, map-append}
use Rattle.std.proofs.lemmas.List.Elements.{filter-append}
use Rattle.std.proofs.lemmas.Bool.{eqb-true, and_parts, cases_eq}
use Rattle.std.proofs.lemmas.Bool.Decides.{nat_tests}
use Rattle.sysv_model.specs.History.{Who, Actor, Seat}
use Rattle.sysv_model.specs.Turn.{Turn, is_same, ops_of}
use Rattle.sysv_steps.specs.Call.{kind_of}
use Rattle.sysv_steps.specs.State.{State, Goes, Waits, Over}
use Rattle.sysv_core.specs.World.{Invocation, Doing, Response, doing_in, response_in}
use Rattle.sysv_core.specs.AnswerLaw.{endings_of, stands_in, standing_of, ended}
use Rattle.sysv_core.proofs.Lists.{get_set_same, get_set_other}

-- ---- names

pub same_who : (c d : Who) → is_same c d ≡ true → c ≡ d
same_who (Actor a s) (Actor b t) e =
    let both = and_parts (a == b) (s == t) e in
    let actors : a ≡ b = eqb-true a b both.0 in
    let starts : s ≡ t = eqb-true s t both.1 in
    ap (λ n. Actor n s) actors ∙ ap (Actor b) starts
same_who (Actor a s) (Seat m) e = absurd cc
same_who (Seat n) d e = absurd cc

one_itself : (a s : ℕ) → is_same (Actor a s) (Actor a s) ≡ true
one_itself a s = grind (arith, nat_tests)

pub same_itself : (place start : ℕ) (c : Who) → c ≡ Actor (suc place) start → is_same c c ≡ true
same_itself place start c is = subst (λ d. is_same d d ≡ true) (sym is) (one_itself (suc place) start)

told_apart : (c d : Who) (b : Bool) → is_same c d ≡ b → c ≢ d → b ≡ false
told_apart c d true e f = absurd (f (same_who c d e))
told_apart c d false e f = refl

pub not_same : (c d : Who) → c ≢ d → is_same c d ≡ false
not_same c d f = told_apart c d (is_same c d) refl f

-- ---- turns

pub ops_both : (who : Who) (xs ys : List Turn) → ops_of who (xs ++ ys) ≡ ops_of who xs ++ ops_of who ys
ops_both who xs ys =
    ap (map (λ (x : Turn). x.op)) (filter-append (λ (x : Turn). is_same who x.who) xs ys)
    ∙ map-append (λ (x : Turn). x.op) (filter (λ (x : Turn). is_same who x.who) xs)
    (filter (λ (x : Turn). is_same who x.who) ys)

pub own_op : (who : Who) (turns : List Turn) (t : Turn) → is_same who t.who ≡ true →
    ops_of who (turns ++ t ∷ []) ≡ ops_of who turns ++ t.op ∷ []
own_op who turns t e =
    ops_both who turns (t ∷ []) ∙ ap (λ b. ops_of who turns ++ map (λ (x : Turn). x.op) (cond b (t ∷ []) [])) e

pub other_op : (who : Who) (turns : List Turn) (t : Turn) → is_same who t.who ≡ false →
    ops_of who (turns ++ t ∷ []) ≡ ops_of who turns
other_op who turns t e = ops_both who turns (t ∷ [])
    ∙ (ap (λ b. ops_of who turns ++ map (λ (x : Turn). x.op) (cond b (t ∷ []) [])) e
    ∙ append-nil (ops_of who turns))

-- ---- endings

endings_more : (who : Who) (responses : List Response) (g : Response) →
    endings_of who (responses ++ g ∷ [])
    ≡ endings_of who responses ++ map (λ (x : Response). x.ending) (cond (is_same who g.call.who) (g ∷ []) [])
endings_more who responses g =
    ap (map (λ (x : Response). x.ending)) (filter-append (λ (x : Response). is_same who x.call.who) responses (g ∷ []))
    ∙ map-append (λ (x : Response). x.ending) (filter (λ (x : Response). is_same who x.call.who) responses)
    (cond (is_same who g.call.who) (g ∷ []) [])

pub other_endings : (who : Who) (responses : List Response) (call : Invocation) (state : State (kind_of call.asked)) →
    is_same who call.who ≡ false →
    endings_of who (responses ++ response_in call state) ≡ endings_of who responses
other_endings who responses call (Goes phase) e = ap (endings_of who) (append-nil responses)
other_endings who responses call (Waits wait) e = ap (endings_of who) (append-nil responses)
other_endings who responses call (Over ending) e =
    let g : Response = record { call = call; ending = ending } in
    endings_more who responses g
    ∙ (ap (λ b. endings_of who responses ++ map (λ (x : Response). x.ending) (cond b (g ∷ []) [])) e
    ∙ append-nil (endings_of who responses))

-- A call without an ending has that of its state afterwards.
pub own_endings : (responses : List Response) (call : Invocation) (state : State (kind_of call.asked)) →
    is_same call.who call.who ≡ true →
    endings_of call.who responses ≡ [] → endings_of call.who (responses ++ response_in call state) ≡ ended state
own_endings responses call (Goes phase) same none = ap (endings_of call.who) (append-nil responses) ∙ none
own_endings responses call (Waits wait) same none = ap (endings_of call.who) (append-nil responses) ∙ none
own_endings responses call (Over ending) same none =
    let g : Response = record { call = call; ending = ending } in
    endings_more call.who responses g
    ∙ (ap (λ b. endings_of call.who responses ++ map (λ (x : Response). x.ending) (cond b (g ∷ []) [])) same
    ∙ ap (λ es. es ++ ending ∷ []) none)

-- ---- actors

-- The actor is idle, or in a call of that name.
abbrev pub IsIn : Who → Option Doing → Type 0
IsIn who None = Unit {0}
IsIn who (Some doing) = doing.call.who ≡ who

in_its_state : (call : Invocation) (state : State (kind_of call.asked)) → IsIn call.who (doing_in call state)
in_its_state call (Goes phase) = refl
in_its_state call (Waits wait) = refl
in_its_state call (Over ending) = tt

not_in : (who other : Who) (o : Option Doing) → is_same other who ≡ false → IsIn who o → stands_in other (Some o) ≡ None
not_in who other None e i = refl
not_in who other (Some d) e i =
    ap (λ b. cond b (Some d) None) (subst (λ name. is_same other name ≡ false) (sym i) e)

own_in : (call : Invocation) (state : State (kind_of call.asked)) → is_same call.who call.who ≡ true →
    stands_in call.who (Some (doing_in call state)) ≡ doing_in call state
own_in call (Goes phase) same = ap (λ b. cond b (doing_in call (Goes phase)) None) same
own_in call (Waits wait) same = ap (λ b. cond b (doing_in call (Waits wait)) None) same
own_in call (Over ending) same = refl

pub at_actor : (who : Who) (place start : ℕ) (actors : List (Option Doing)) → who ≡ Actor (suc place) start →
    standing_of who actors ≡ stands_in who (slice_get actors place)
at_actor (Actor zero s) place start actors e = absurd cc
at_actor (Actor (suc p) s) place start actors e =
    let same : p ≡ place = cc in ap (λ n. stands_in (Actor (suc p) s) (slice_get actors n)) same
at_actor (Seat n) place start actors e = absurd cc

pub own_standing : (actors : List (Option Doing)) (place start : ℕ) (was : Option Doing) (call : Invocation)
    (state : State (kind_of call.asked)) → call.who ≡ Actor (suc place) start → slice_get actors place ≡ Some was →
    standing_of call.who (slice_set actors place (doing_in call state)) ≡ doing_in call state
own_standing actors place start was call state who there =
    at_actor call.who place start (slice_set actors place (doing_in call state)) who
    ∙ (ap (stands_in call.who) (get_set_same actors place (doing_in call state) was there)
    ∙ own_in call state (same_itself place start call.who who))

elsewhere : (actors : List (Option Doing)) (place : ℕ) (was : Option Doing) (call : Invocation)
    (state : State (kind_of call.asked))
    (p s : ℕ) →
    is_same (Actor (suc p) s) call.who ≡ false →
    slice_get actors place ≡ Some was → IsIn call.who was →
    standing_of (Actor (suc p) s) (slice_set actors place (doing_in call state)) ≡ standing_of (Actor (suc p) s) actors
elsewhere actors place was call state p s apart there i = elim (cases_eq place p) [
  | inl same ↦
      subst (λ n.
      stands_in (Actor (suc p) s) (slice_get (slice_set actors place (doing_in call state)) n)
      ≡ stands_in (Actor (suc p) s) (slice_get actors n)) same
      (ap (stands_in (Actor (suc p) s)) (get_set_same actors place (doing_in call state) was there)
      ∙ (not_in call.who (Actor (suc p) s) (doing_in call state) apart (in_its_state call state)
      ∙ sym (ap (stands_in (Actor (suc p) s)) there ∙ not_in call.who (Actor (suc p) s) was apart i)))
  | inr other ↦ ap (stands_in (Actor (suc p) s)) (get_set_other actors place p (doing_in call state) other)
]

pub other_standing : (who : Who) (actors : List (Option Doing)) (place : ℕ) (was : Option Doing) (call : Invocation)
    (state : State (kind_of call.asked)) → is_same who call.who ≡ false →
    slice_get actors place ≡ Some was → IsIn call.who was →
    standing_of who (slice_set actors place (doing_in call state)) ≡ standing_of who actors
other_standing (Actor zero s) actors place was call state apart there i = refl
other_standing (Actor (suc p) s) actors place was call state apart there i =
    elsewhere actors place was call state p s apart there i
other_standing (Seat n) actors place was call state apart there i = refl
