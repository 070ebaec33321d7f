-- The steps of an actor's call so far, and what is still to be shown.
use Rattle.std.proofs.Common.{◌≡◌, ℕ, zero, suc, refl, sym, subst}
use Rattle.sysv_core.specs.declared.event.Event.TheVariants.{Step}
use Rattle.sysv_core.specs.declared.event.Stepped.{Stepped}
use Rattle.sysv_core.specs.declared.event.Stepped.TheVariants as stepped
use Rattle.sysv_script.specs.ScriptState.{ScriptState, Advances, GoesOn}
use Rattle.sysv_script.specs.declared.stage.Stage.{Stage}
use Rattle.sysv_script.specs.Staged.{IsScriptStateOf}

-- From the first result of the call, before all its steps, to its last one, with the steps that are
-- left.
pub record GoingOn (start now : Stage) (actor all : ℕ) (first last : Stepped) (left : ℕ) : Type 0 where
  pub going : (s : ScriptState) → IsScriptStateOf s start →
      (m : ScriptState) × IsScriptStateOf m now
      × ((given : Stepped) (after : ScriptState) → GoesOn left m actor last given after →
      GoesOn all s actor first given after)

pub begins : (start : Stage) (actor all : ℕ) (first : Stepped) → GoingOn start start actor all first first all
begins start actor all first = record { going = λ s seen. (s, seen, λ given after goes. goes) }

pub goes_more : (start now new : Stage) (actor all : ℕ) (first next : Stepped) (left rest : ℕ) → left ≡ suc rest →
    GoingOn start now actor all first stepped.Nothing left →
    ((s : ScriptState) → IsScriptStateOf s now →
    (after : ScriptState) × Advances s (Step actor now.moment) next after × IsScriptStateOf after new) →
    GoingOn start new actor all first next rest
goes_more start now new actor all first next left rest e on step = record {
  going = λ s seen.
      let g = on.going s seen in
      let h = step g.0 g.1 in
      let moved : Advances g.0 (Step actor g.0.moment) next h.0 =
      subst (λ n. Advances g.0 (Step actor n) next h.0) (sym g.1.moment) h.1 in (
        h.0,
        h.2,
        λ given after goes.
            g.2 given after
            (subst (λ n. GoesOn n g.0 actor stepped.Nothing given after) (sym e) (h.0, next, moved, goes)),
      );
}

over : (left : ℕ) (m : ScriptState) (actor : ℕ) (last : Stepped) → (last ≡ stepped.Nothing → ⊥) →
    GoesOn left m actor last last m
over left m actor stepped.Nothing f = absurd (f refl)
over zero m actor (stepped.Answer a) f = (refl, refl)
over (suc n) m actor (stepped.Answer a) f = (refl, refl)
over zero m actor stepped.Worn f = (refl, refl)
over (suc n) m actor stepped.Worn f = (refl, refl)

none_left : (m : ScriptState) (actor : ℕ) (last : Stepped) → GoesOn zero m actor last last m
none_left m actor stepped.Nothing = (refl, refl)
none_left m actor (stepped.Answer a) = (refl, refl)
none_left m actor stepped.Worn = (refl, refl)

pub ends_over : (start now : Stage) (actor all : ℕ) (first last : Stepped) (left : ℕ) →
    GoingOn start now actor all first last left → (last ≡ stepped.Nothing → ⊥) →
    (s : ScriptState) → IsScriptStateOf s start →
    (after : ScriptState) × GoesOn all s actor first last after × IsScriptStateOf after now
ends_over start now actor all first last left on f s seen =
    let g = on.going s seen in (g.0, g.2 last g.0 (over left g.0 actor last f), g.1)

pub ends_none : (start now : Stage) (actor all : ℕ) (first last : Stepped) (left : ℕ) → left ≡ 0 →
    GoingOn start now actor all first last left →
    (s : ScriptState) → IsScriptStateOf s start →
    (after : ScriptState) × GoesOn all s actor first last after × IsScriptStateOf after now
ends_none start now actor all first last left e on s seen =
    let g = on.going s seen in
    (g.0, g.2 last g.0 (subst (λ n. GoesOn n g.0 actor last last g.0) (sym e) (none_left g.0 actor last)), g.1)
