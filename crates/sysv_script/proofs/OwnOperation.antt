-- A call that ends at a step of an actor is the call that the actor was in.
use Rattle.std.proofs.Common.{◌≡◌, ℕ, zero, suc, inl, inr, Option, None, Some, List, [], ◌∷◌, refl, sym, ap, subst}
use Rattle.std.proofs.Common.{slice_get, slice_set}
use Rattle.sysv_model.specs.declared.cred.Cred.{Cred}
use Rattle.sysv_steps.specs.Call.{SystemCall, kind_of}
use Rattle.sysv_steps.specs.State.{State, Goes, Waits, Over}
use Rattle.sysv_steps.specs.Resume.{awaited, resume}
use Rattle.sysv_core.specs.World.{World, Invocation, Doing, Response, Start, Step, Makes, actor_at, doing_in}
use Rattle.sysv_core.specs.World.{response_in}
use Rattle.sysv_core.specs.World.{begun, starting, value_of, Continues, StartsAt, StepsAt, StaysWith}
use Rattle.sysv_core.proofs.Lists.{get_set_same}
use Rattle.sysv_script.specs.declared.names.Operation.{Operation}
use Rattle.sysv_script.specs.Names.{operation_of}
use Rattle.sysv_script.specs.ScriptState.{pending}

-- Each of the calls that end is of this operation.
abbrev pub AreOf : Operation → List Response → Type 0
AreOf operation [] = Unit {0}
AreOf operation (g ∷ given) = (operation_of g.call.asked ≡ operation) × AreOf operation given

-- The actor is in a call of this operation, or in none.
abbrev pub CallsAs : Operation → Option (Option Doing) → Type 0
CallsAs operation None = Unit {0}
CallsAs operation (Some None) = Unit {0}
CallsAs operation (Some (Some d)) = operation_of d.call.asked ≡ operation

given_as : (call : Invocation) (state : State (kind_of call.asked)) →
    AreOf (operation_of call.asked) (response_in call state)
given_as call (Goes phase) = tt
given_as call (Waits wait) = tt
given_as call (Over ending) = (refl, tt)

calls_as : (call : Invocation) (state : State (kind_of call.asked)) →
    CallsAs (operation_of call.asked) (Some (doing_in call state))
calls_as call (Goes phase) = refl
calls_as call (Waits wait) = refl
calls_as call (Over ending) = tt

-- What a transition leaves of an actor and of the calls that end.
pub record Leaves (operation : Operation) (actor : ℕ) (given : List Response) (after : World) : Type 0 where
  pub of : AreOf operation given
  pub calls : CallsAs operation (actor_at after.actors actor)

-- The world stays as it was.
stays : (o : Operation) (w : World) (actor : ℕ) (given : List Response) (after : World) →
    CallsAs o (actor_at w.actors actor) → StaysWith w given after → Leaves o actor given after
stays o w actor given after calls st = record {
  of = subst (AreOf o) (sym st.0) tt;
  calls = subst (λ (x : World). CallsAs o (actor_at x.actors actor)) (sym st.1) calls;
}

-- The call of the actor at this place comes to a state.
comes : (actors : List (Option Doing)) (place : ℕ) (was : Option Doing) (call : Invocation)
    (state : State (kind_of call.asked)) (given : List Response) (after : World) →
    slice_get actors place ≡ Some was → given ≡ response_in call state →
    after.actors ≡ slice_set actors place (doing_in call state) →
    Leaves (operation_of call.asked) (suc place) given after
comes actors place was call state given after there g e = record {
  of = subst (AreOf (operation_of call.asked)) (sym g) (given_as call state);
  calls = subst (λ x. CallsAs (operation_of call.asked) (slice_get x place)) (sym e)
      (subst (CallsAs (operation_of call.asked)) (sym (get_set_same actors place (doing_in call state) was there))
      (calls_as call state));
}

continues : (w after : World) (given : List Response) (place now : ℕ) (call : Invocation)
    (state : State (kind_of call.asked)) →
    slice_get w.actors place ≡ Some (Some record { call = call; state = state }) →
    Continues w (suc place) now call state given after → Leaves (operation_of call.asked) (suc place) given after
continues w after given place now call (Goes phase) there t =
    comes w.actors place (Some record { call = call; state = Goes phase }) call t.1 given after there t.5
    (ap (λ (x : World). x.actors) t.6)
continues w after given place now call (Waits wait) there (inl t) =
    comes w.actors place (Some record { call = call; state = Waits wait }) call
    (Goes (resume wait (value_of w.turns (awaited wait)))) given after there t.1 (ap (λ (x : World). x.actors) t.2)
continues w after given place now call (Waits wait) there (inr t) =
    stays (operation_of call.asked) w (suc place) given after
    (subst (CallsAs (operation_of call.asked)) (sym there) refl) t.1
continues w after given place now call (Over ending) there t =
    stays (operation_of call.asked) w (suc place) given after
    (subst (CallsAs (operation_of call.asked)) (sym there) refl) t

step_at : (o : Operation) (w after : World) (given : List Response) (actor now : ℕ) (at : Option (Option Doing)) →
    actor_at w.actors actor ≡ at → CallsAs o at → StepsAt w actor now at given after → Leaves o actor given after
step_at o w after given actor now None is calls t = stays o w actor given after (subst (CallsAs o) (sym is) tt) t
step_at o w after given actor now (Some None) is calls t = stays o w actor given after (subst (CallsAs o) (sym is) tt) t
step_at o w after given zero now (Some (Some d)) is calls t = absurd cc
step_at o w after given (suc place) now (Some (Some d)) is calls t =
    subst (λ x. Leaves x (suc place) given after) calls (continues w after given place now d.call d.state is t)

-- A step of an actor whose call is of this operation.
pub step_leaves : (o : Operation) (w after : World) (given : List Response) (actor now : ℕ) →
    CallsAs o (actor_at w.actors actor) → Makes w (Step actor now) given after → Leaves o actor given after
step_leaves o w after given actor now calls (inl worn) = stays o w actor given after calls worn.1
step_leaves o w after given actor now calls (inr t) =
    step_at o w after given actor now (actor_at w.actors actor) refl calls t.1

idle_at : (o : Operation) (at : Option (Option Doing)) → pending at ≡ None → CallsAs o at
idle_at o None idle = tt
idle_at o (Some None) idle = tt
idle_at o (Some (Some d)) idle = absurd cc

start_at : (w after : World) (given : List Response) (actor : ℕ) (cred : Cred) (asked : SystemCall)
    (at : Option (Option Doing)) → actor_at w.actors actor ≡ at → pending at ≡ None →
    StartsAt w actor cred asked at given after → Leaves (operation_of asked) actor given after
start_at w after given actor cred asked None is idle t =
    stays (operation_of asked) w actor given after (subst (CallsAs (operation_of asked)) (sym is) tt) t
start_at w after given zero cred asked (Some at) is idle t = absurd cc
start_at w after given (suc place) cred asked (Some None) is idle t =
    let call = starting w (suc place) cred asked in
    comes w.actors place None call (begun call) given after is t.0 (ap (λ (x : World). x.actors) t.1)
start_at w after given (suc place) cred asked (Some (Some d)) is idle t = absurd cc

-- The start of a call of an actor without a pending call.
pub start_leaves : (w after : World) (given : List Response) (actor : ℕ) (cred : Cred) (asked : SystemCall) →
    pending (actor_at w.actors actor) ≡ None → Makes w (Start actor cred asked) given after →
    Leaves (operation_of asked) actor given after
start_leaves w after given actor cred asked idle (inl worn) =
    stays (operation_of asked) w actor given after (idle_at (operation_of asked) (actor_at w.actors actor) idle) worn.1
start_leaves w after given actor cred asked idle (inr t) =
    start_at w after given actor cred asked (actor_at w.actors actor) refl idle t.1

-- The actor is in a call of the operation that is pending.
pub calls_pending : (o : Operation) (at : Option (Option Doing)) → pending at ≡ Some o → CallsAs o at
calls_pending o None e = tt
calls_pending o (Some None) e = tt
calls_pending o (Some (Some d)) e = cc
