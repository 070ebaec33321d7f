-- The position of the actor's call that the stage's world reports is that in the script state.
use Rattle.std.proofs.Common.{◌≡◌, ℕ, zero, suc, List, [], ◌∷◌, ◌++◌, Option, Some, None, option_map, map, slice_get}
use Rattle.std.proofs.Common.{refl, sym, ap, subst, ◌∙◌}
use Rattle.std.proofs.lemmas.Option.{slice_get-map}
use Rattle.sysv_core.specs.declared.actor.Doing.{Doing as DoingKept}
use Rattle.sysv_core.specs.World.{World, Doing, actor_at}
use Rattle.sysv_core.specs.Seen.{Seen, IsSeenAs, state_in}
use Rattle.sysv_core.specs.Kept.{state_kept, states_kept}
use Rattle.sysv_steps.specs.Pending.{Pending, pending_kind, pending_state}
use Rattle.sysv_steps.specs.declared.pending.Pending.{Pending as PendingKept}
use Rattle.sysv_steps.specs.declared.pending.Pending.TheVariants as kept
use Rattle.sysv_core.specs.Standing.{state_at, of_state, doing_state, StandsThere, StandsNowhere}
use Rattle.sysv_script.specs.Heads.{head_text}
use Rattle.sysv_script.specs.Names.{operation_as, standing_text, step_now}
use Rattle.sysv_script.specs.declared.head.Head.{Head}
use Rattle.sysv_script.specs.declared.head.Head.TheVariants as head
use Rattle.sysv_script.specs.declared.names.Operation.{Operation}
use Rattle.sysv_script.specs.ScriptState.{pending, standing_line}

seen_at : (actors : List (Option Doing)) (doings : List (Option DoingKept)) (actor : ℕ) →
    map state_in actors ≡ states_kept doings → state_at doings actor ≡ option_map state_in (actor_at actors actor)
seen_at actors doings zero e = refl
seen_at actors doings (suc place) e = sym (slice_get-map state_kept doings place)
    ∙ (ap (λ ss. slice_get ss place) (sym e) ∙ slice_get-map state_in actors place)

-- What the world reports is the state of the actor's call in each world as which it is seen.
pub told_there : (w : World) (seen : Seen) (actor : ℕ) (told : DoingKept) → IsSeenAs w seen →
    StandsThere (state_at seen.doings actor) told → StandsThere (option_map state_in (actor_at w.actors actor)) told
told_there w seen actor told sight stands =
    subst (λ o. StandsThere o told) (seen_at w.actors seen.doings actor sight.states) stands

pub told_nowhere : (w : World) (seen : Seen) (actor : ℕ) → IsSeenAs w seen →
    StandsNowhere (state_at seen.doings actor) → StandsNowhere (option_map state_in (actor_at w.actors actor))
told_nowhere w seen actor sight stands = subst StandsNowhere (seen_at w.actors seen.doings actor sight.states) stands

pub idle_line : (actor : ℕ) (o : Option (Option Doing)) → StandsNowhere (option_map state_in o) →
    head_text (head.Idle actor) ++ 10 ∷ [] ≡ standing_line actor o
idle_line actor None stands = refl
idle_line actor (Some None) stands = refl
idle_line actor (Some (Some d)) stands = absurd stands

-- The line of a call that waits.
pub waits_text : (p : PendingKept) (text : List ℕ) (actor : ℕ) (operation : Operation) →
    None ≡ step_now (pending_state p text) → operation_as (pending_kind p) ≡ operation →
    head_text (head.Waits actor operation) ≡ standing_text actor (pending_state p text)
waits_text (kept.At s) text actor operation none is = absurd cc
waits_text (kept.Waits w) text actor operation none is = ap (λ o. head_text (head.Waits actor o)) (sym is)

pub going_line : (actor : ℕ) (o : Option (Option Doing)) (told : DoingKept) (line : Head) →
    StandsThere (option_map state_in o) told →
    head_text line ≡ of_state (λ kind state. standing_text actor state) told →
    head_text line ++ 10 ∷ [] ≡ standing_line actor o
going_line actor None told line stands says = absurd stands
going_line actor (Some None) told line stands says = absurd stands
going_line actor (Some (Some d)) told line stands says =
    ap (λ t. t ++ 10 ∷ [])
    (says ∙ sym (ap (λ (p : Pending). standing_text actor p.state) stands))

pub going_way : (o : Option (Option Doing)) (told : DoingKept) (operation : Operation) →
    StandsThere (option_map state_in o) told →
    operation_as (doing_state told).kind ≡ operation → Some operation ≡ pending o
going_way None told operation stands says = absurd stands
going_way (Some None) told operation stands says = absurd stands
going_way (Some (Some d)) told operation stands says =
    sym (ap (λ (p : Pending). Some (operation_as p.kind)) stands ∙ ap Some says)

pub idle_way : (o : Option (Option Doing)) → StandsNowhere (option_map state_in o) → None ≡ pending o
idle_way None stands = refl
idle_way (Some None) stands = refl
idle_way (Some (Some d)) stands = absurd stands
