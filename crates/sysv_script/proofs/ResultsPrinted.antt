-- What the steps of a call print has the results of the calls that end on the way.
use Rattle.std.proofs.Common.{◌≡◌, inl, inr, ℕ, zero, suc, Bool, Option, None, Some, List, []}
use Rattle.std.proofs.Common.{◌∷◌, ◌++◌, refl, sym, ap, subst, ◌∙◌, append-nil, append_assoc}
use Rattle.sysv_steps.specs.Call.{SystemCall, Msgget, Msgsnd, Msgrcv, MsgctlStat, MsgctlSet, MsgctlRmid, kind_of}
use Rattle.sysv_steps.specs.Asked.{asked_of}
use Rattle.sysv_core.specs.Run.{Leads}
use Rattle.sysv_core.specs.Seen.{Gives, Tells}
use Rattle.sysv_core.specs.World.{World, Transition, Response, Doing, Start, Step, Makes, actor_at}
use Rattle.sysv_core.specs.declared.event.Stepped.{Stepped}
use Rattle.sysv_core.specs.declared.event.Stepped.TheVariants as stepped
use Rattle.sysv_script.specs.declared.names.Operation.{Operation}
use Rattle.sysv_script.specs.Names.{operation_of}
use Rattle.sysv_script.specs.ScriptState.{ScriptState, GoesOn, CallRuns, call_for, most_steps, printed, standing_line}
use Rattle.sysv_script.specs.ScriptState.{pending}
use Rattle.sysv_script.specs.Results.{IsResultOf, IsWithoutResult, HasResults, Empty, Result, Without, LeadsPrinting}
use Rattle.sysv_script.proofs.OwnOperation.{AreOf, CallsAs, step_leaves, start_leaves}

-- ---- one after the other

pub results_append : (given more : List Response) (out rest : List ℕ) → HasResults given out → HasResults more rest →
    HasResults (given ++ more) (out ++ rest)
results_append given more out rest Empty b = b
results_append given more out rest (Result g left line tail is a) b =
    subst (HasResults ((g ∷ left) ++ more)) (sym (append_assoc line tail rest))
    (Result g (left ++ more) line (tail ++ rest) is (results_append left more tail rest a b))
results_append given more out rest (Without left line tail is a) b =
    subst (HasResults (left ++ more)) (sym (append_assoc line tail rest))
    (Without (left ++ more) line (tail ++ rest) is (results_append left more tail rest a b))

pub leads_append : (w : World) (xs ys : List Transition) (given more : List Response) (mid after : World) →
    Leads w xs given mid → Leads mid ys more after → Leads w (xs ++ ys) (given ++ more) after
leads_append w [] ys given more mid after l k =
    subst (λ gs. Leads w ys (gs ++ more) after) (sym l.0) (subst (λ (v : World). Leads v ys more after) l.1 k)
leads_append w (x ∷ xs) ys given more mid after l k = (
  l.0,
  l.1,
  l.2 ++ more,
  l.3,
  leads_append l.0 xs ys l.2 more mid after l.4 k,
  ap (λ gs. gs ++ more) l.5 ∙ append_assoc l.1 l.2 more,
)

pub print_both : (w : World) (out rest : List ℕ) (mid after : World) → LeadsPrinting w out mid →
    LeadsPrinting mid rest after → LeadsPrinting w (out ++ rest) after
print_both w out rest mid after a b = (
  a.0 ++ b.0,
  a.1 ++ b.1,
  leads_append w a.0 b.0 a.1 b.1 mid after a.2 b.2,
  results_append a.1 b.1 out rest a.3 b.3,
)

-- Nothing happens, and nothing is printed.
pub rests : (w after : World) → after ≡ w → LeadsPrinting w [] after
rests w after e = ([], [], (refl, e), Empty)

pub one_makes : (w after : World) (x : Transition) (given : List Response) → Makes w x given after →
    Leads w (x ∷ []) given after
one_makes w after x given m = (after, given, [], m, (refl, refl), sym (append-nil given))

-- ---- a line for a call

only : (given : List Response) (line : List ℕ) → HasResults given (line ++ []) → HasResults given line
only given line h = subst (HasResults given) (append-nil line) h

pub without_result : (line : List ℕ) → IsWithoutResult line → HasResults [] line
without_result line is = only [] line (Without [] line [] is Empty)

-- The calls that end are those that the result of the last event tells, and are of this operation.
abbrev pub EndsAs : Operation → List Response → Stepped → Type 0
EndsAs operation given stepped.Nothing = given ≡ []
EndsAs operation given stepped.Worn = given ≡ []
EndsAs operation given (stepped.Answer answer) =
    (g : Response) × (given ≡ g ∷ []) × Tells g answer × (operation_of g.call.asked ≡ operation)

standing_without : (actor : ℕ) (at : Option (Option Doing)) → IsWithoutResult (standing_line actor at)
standing_without actor (Some (Some d)) = (actor, inl (kind_of d.call.asked, d.state, refl))
standing_without actor (Some None) = (actor, inr (inr (inl refl)))
standing_without actor None = (actor, inr (inr (inl refl)))

pub printed_results : (w : World) (actor : ℕ) (operation : Operation) (given : List Response) (result : Stepped) →
    EndsAs operation given result → HasResults given (printed w actor operation result)
printed_results w actor operation given stepped.Nothing e =
    let line = printed w actor operation stepped.Nothing in
    subst (λ gs. HasResults gs line) (sym e)
    (without_result line (standing_without actor (actor_at w.actors actor)))
printed_results w actor operation given stepped.Worn e =
    let line = printed w actor operation stepped.Worn in
    subst (λ gs. HasResults gs line) (sym e) (without_result line (actor, inr (inr (inr refl))))
printed_results w actor operation given (stepped.Answer answer) e =
    let line = printed w actor operation (stepped.Answer answer) in
    let is : IsResultOf e.0 line = (answer, e.2, ap (λ o. printed w actor o (stepped.Answer answer)) (sym e.3)) in
    subst (λ gs. HasResults gs line) (sym e.1) (only (e.0 ∷ []) line (Result e.0 [] line [] is Empty))

-- ---- the steps of a call

ends_as : (o : Operation) (w : World) (given : List Response) (result : Stepped) → AreOf o given →
    Gives w given result →
    EndsAs o given result
ends_as o w given stepped.Nothing of g = g.1
ends_as o w given stepped.Worn of g = g.1
ends_as o w given (stepped.Answer answer) of g =
    (g.1.0, g.1.1, g.1.2, (subst (AreOf o) g.1.1 of).0)

-- The steps lead to another world, and the calls that end on the way are those that were told.
pub record StepsTo (o : Operation) (w : World) (result : Stepped) (after : World) : Type 0 where
  pub list : List Transition
  pub given : List Response
  pub leads : Leads w list given after
  pub ends : EndsAs o given result

-- After an event without a result.
goes_further : (o : Operation) (w mid after : World) (x : Transition) (given : List Response) (result : Stepped) →
    Makes w x given mid → given ≡ [] → StepsTo o mid result after → StepsTo o w result after
goes_further o w mid after x given result makes none s = record {
  list = x ∷ s.list;
  given = s.given;
  leads = (mid, given, s.given, makes, s.leads, ap (λ gs. gs ++ s.given) (sym none));
  ends = s.ends;
}

stops : (o : Operation) (w : World) (mid after : ScriptState) (x : Transition) (given : List Response)
    (first result : Stepped) →
    Makes w x given mid.world → EndsAs o given first → result ≡ first → after ≡ mid →
    StepsTo o w result after.world
stops o w mid after x given first result makes ends r a =
    subst (λ (y : ScriptState). StepsTo o w result y.world) (sym a)
    (subst (λ r. StepsTo o w r mid.world) (sym r)
    (record { list = x ∷ []; given = given; leads = one_makes w mid.world x given makes; ends = ends }))

-- After an event with this result the call makes more steps.
after_event : (n : ℕ) (o : Operation) (w : World) (mid : ScriptState) (actor : ℕ) (x : Transition)
    (given : List Response)
    (first result : Stepped) (after : ScriptState) → CallsAs o (actor_at mid.world.actors actor) →
    Makes w x given mid.world → EndsAs o given first → GoesOn n mid actor first result after →
    StepsTo o w result after.world
after_event zero o w mid actor x given stepped.Nothing result after calls makes ends g =
    stops o w mid after x given stepped.Nothing result makes ends g.0 g.1
after_event zero o w mid actor x given (stepped.Answer answer) result after calls makes ends g =
    stops o w mid after x given (stepped.Answer answer) result makes ends g.0 g.1
after_event zero o w mid actor x given stepped.Worn result after calls makes ends g =
    stops o w mid after x given stepped.Worn result makes ends g.0 g.1
after_event (suc n) o w mid actor x given (stepped.Answer answer) result after calls makes ends g =
    stops o w mid after x given (stepped.Answer answer) result makes ends g.0 g.1
after_event (suc n) o w mid actor x given stepped.Worn result after calls makes ends g =
    stops o w mid after x given stepped.Worn result makes ends g.0 g.1
after_event (suc n) o w mid actor x given stepped.Nothing result after calls makes ends g =
    let steps = g.2.0 in
    let left = step_leaves o mid.world g.0.world steps.0 actor mid.moment calls steps.1 in
    goes_further o w mid.world after.world x given result makes ends
    (after_event n o mid.world g.0 actor (Step actor mid.moment) steps.0 g.1 result after left.calls steps.1
    (ends_as o mid.world steps.0 g.1 left.of steps.2) g.3)

-- The call of the actor makes at most this many steps.
pub goes_on_to : (n : ℕ) (o : Operation) (s : ScriptState) (actor : ℕ) (result : Stepped) (after : ScriptState) →
    CallsAs o (actor_at s.world.actors actor) → GoesOn n s actor stepped.Nothing result after →
    StepsTo o s.world result after.world
goes_on_to zero o s actor result after calls g =
    subst (λ (y : ScriptState). StepsTo o s.world result y.world) (sym g.1)
    (subst (λ r. StepsTo o s.world r s.world) (sym g.0)
    (record { list = []; given = []; leads = (refl, refl); ends = refl }))
goes_on_to (suc n) o s actor result after calls g =
    let steps = g.2.0 in
    let left = step_leaves o s.world g.0.world steps.0 actor s.moment calls steps.1 in
    after_event n o s.world g.0 actor (Step actor s.moment) steps.0 g.1 result after left.calls steps.1
    (ends_as o s.world steps.0 g.1 left.of steps.2) g.3

asked_for : (asked : SystemCall) → asked_of (call_for asked) ≡ asked
asked_for (Msgget key flags) = refl
asked_for (Msgsnd id mtype flags text) = refl
asked_for (Msgrcv id size mtype flags) = refl
asked_for (MsgctlStat id) = refl
asked_for (MsgctlSet id to) = refl
asked_for (MsgctlRmid id) = refl

-- A call is started, and makes its first steps.
pub call_runs_to : (s : ScriptState) (actor : ℕ) (asked : SystemCall) (goes : Bool) (result : Stepped)
    (after : ScriptState) →
    pending (actor_at s.world.actors actor) ≡ None →
    CallRuns s actor asked goes result after →
    StepsTo (operation_of asked) s.world result after.world
call_runs_to s actor asked goes result after idle r =
    let cred = r.2.0 in
    let steps = r.2.2.0 in
    let makes : Makes s.world (Start actor cred asked) steps.0 r.0.world =
    subst (λ a. Makes s.world (Start actor cred a) steps.0 r.0.world) (asked_for asked) steps.1 in
    let left = start_leaves s.world r.0.world steps.0 actor cred asked idle makes in
    after_event (most_steps goes) (operation_of asked) s.world r.0 actor (Start actor cred asked) steps.0 r.1 result
    after left.calls makes (ends_as (operation_of asked) s.world steps.0 r.1 left.of steps.2) r.3

pub steps_print : (o : Operation) (w : World) (result : Stepped) (actor : ℕ) (out : List ℕ) (after : World) →
    StepsTo o w result after → out ≡ printed after actor o result → LeadsPrinting w out after
steps_print o w result actor out after s e =
    (s.list, s.given, s.leads, subst (HasResults s.given) (sym e) (printed_results after actor o s.given result s.ends))
