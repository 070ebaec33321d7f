-- The actors that the code keeps, as the states that are seen.
use Rattle.std.proofs.Common.{◌≡◌, ℕ, ◌+◌, ◌<◌, ◌≤◌, Bool, true, false, cond, List, Option, None, Some, refl, sym, ap}
use Rattle.std.proofs.Common.{subst, ◌∙◌, arith, length, slice_get, slice_set, is_some}
use Rattle.std.specs.List.{slice_index_or}
use Rattle.std.proofs.lemmas.List.{set-set}
use Rattle.std.proofs.lemmas.Option.{slice_get_read}
use Rattle.sysv_objects.specs.Objects.{Objects, CountsUpTo, raises_by, raises}
use Rattle.sysv_model.specs.History.{Call, Install}
use Rattle.sysv_model.specs.Pool.{Reserve, Release}
use Rattle.sysv_model.specs.Turn.{Op, AtSlot, AtRegistry, AtPool}
use Rattle.sysv_steps.specs.Call.{Kind}
use Rattle.sysv_steps.specs.State.{State, Goes, Waits, Over}
use Rattle.sysv_core.specs.declared.actor.Doing.{Doing}
use Rattle.sysv_core.specs.declared.actor.Led.{Led}
use Rattle.sysv_core.specs.declared.actor.Led.TheVariants as led
use Rattle.sysv_queue.specs.Tally.{Tallied}
use Rattle.sysv_core.specs.Kept.{doing_led, counted_led, told_by}
use Rattle.sysv_steps.specs.Answered.{is_got}
use Rattle.sysv_core.specs.Tallying.{messages_given}
use Rattle.sysv_core.specs.Led.{StepLeads}
use Rattle.sysv_core.specs.Seen.{Seen}
use Rattle.sysv_core.proofs.Lists.{slice_set-same, get_set_same}

pub kept_some : (x : Option Doing) → is_some x ≡ true → (d : Doing) × (x ≡ Some d)
kept_some None e = absurd cc
kept_some (Some d) e = (d, refl)

pub kept_none : (x : Option Doing) → is_some x ≡ false → x ≡ None
kept_none None e = refl
kept_none (Some d) e = absurd cc

module _ (items doings : List (Option Doing)) (view : items ≡ doings) (place : ℕ) (within : place < length doings) where
  there : (x : Option Doing) → x ≡ slice_index_or items place x → slice_get items place ≡ Some x
  there x read = slice_get_read items (length items) place x refl (omega (arith, ap length view)) read

  pub seen_at : (x : Option Doing) → x ≡ slice_index_or items place x → slice_get doings place ≡ Some x
  seen_at x read = sym (ap (λ ps. slice_get ps place) view) ∙ there x read

  pub seen_same : (x y : Option Doing) → x ≡ y → slice_get doings place ≡ Some y → slice_set items place x ≡ doings
  seen_same x y e at = ap (λ ps. slice_set ps place x) view
      ∙ slice_set-same doings place x (at ∙ ap (λ z. Some z) (sym e))

  -- What is stored at that place, whether or not something was taken from it.
  pub seen_settled : (new : List (Option Doing)) (l : Led) → new ≡ slice_set items place (doing_led l) →
      new ≡ slice_set doings place (doing_led l)
  seen_settled new l e = e ∙ ap (λ ps. slice_set ps place (doing_led l)) view

  pub seen_resettled : (x : Option Doing) (new : List (Option Doing)) (l : Led) →
      new ≡ slice_set (slice_set items place x) place (doing_led l) → new ≡ slice_set doings place (doing_led l)
  seen_resettled x new l e = seen_settled new l (e ∙ set-set items place x (doing_led l))

  -- The actor at that place is in no call.
  pub idle_there : (x : Option Doing) → x ≡ slice_index_or items place x → is_some x ≡ false →
      slice_get items place ≡ Some None
  idle_there x read e = there x read ∙ ap Some (kept_none x e)

  -- An actor whose call was taken out is in no call.
  pub taken_there : (x : Option Doing) → x ≡ slice_index_or items place x → (new : Option Doing) → new ≡ None →
      slice_get (slice_set items place new) place ≡ Some None
  taken_there x read new e = get_set_same items place new x (there x read) ∙ ap Some e

pub same_seen : (o p : Objects) (s t : List (Option Doing)) (m n : ℕ) (a b : Tallied) → o ≡ p → s ≡ t → m ≡ n → a ≡ b →
    let x : Seen = record { objects = o; doings = s; steps = m; tally = a } in
    let y : Seen = record { objects = p; doings = t; steps = n; tally = b } in
    x ≡ y
same_seen o p s t m n a b e f g h = cc

-- ---- the bound of the tally

-- An event returns a message only if it is counted.
pub given_counted : (actor : ℕ) (l : Led) → messages_given (told_by actor l) ≤ counted_led l
given_counted actor (led.To doing) = omega arith
given_counted actor (led.Stays doing) = omega arith
given_counted actor (led.Over ended body) = one_at_most (is_got ended.outcome)
  where
    one_at_most : (b : Bool) → cond {A = ℕ} b 1 0 ≤ 1
    one_at_most true = omega arith
    one_at_most false = omega arith

counted_at_most : (l : Led) → counted_led l ≤ 1
counted_at_most (led.To doing) = omega arith
counted_at_most (led.Stays doing) = omega arith
counted_at_most (led.Over ended body) = omega arith

pub given_at_most : (actor : ℕ) (l : Led) → messages_given (told_by actor l) ≤ 1
given_at_most actor l = omega (arith, given_counted actor l, counted_at_most l)

-- ---- the bound of the counts

pub weaker : (m n : ℕ) (o : Objects) → m ≤ n → CountsUpTo m o → CountsUpTo n o
weaker m n o le up =
    (λ number slot here. let u = up.0 number slot here in (omega (arith, u.0), omega (arith, u.1)), omega (arith, up.1))

raises_one : (call : Call) → raises call ≤ 1
raises_one (Install id key cred mode now) = omega arith
raises_one call = omega arith

raises_at_most : (op : Op) → raises_by op ≤ 1
raises_at_most (AtSlot slot call reply) = raises_one call
raises_at_most (AtRegistry call reply) = omega arith
raises_at_most (AtPool (Reserve size) reply) = omega arith
raises_at_most (AtPool (Release blocks) reply) = omega arith

-- A step does not raise the counts above the step number.
pub counts_on : {kind : Kind} (old : Objects) (state : State kind) (now : ℕ) (l : Led) (new : Objects) (n : ℕ) →
    StepLeads old state now l new → CountsUpTo n old → CountsUpTo (n + counted_led l) new
counts_on old (Goes phase) now (led.To doing) new n step up =
    weaker (n + raises_by step.op) (n + 1) new (omega (arith, raises_at_most step.op)) (step.turn.counts n up)
counts_on old (Goes phase) now (led.Over ended body) new n step up =
    weaker (n + raises_by step.op) (n + 1) new (omega (arith, raises_at_most step.op)) (step.turn.counts n up)
counts_on old (Goes phase) now (led.Stays doing) new n step up = absurd step.leads
counts_on old (Waits wait) now l new n step up =
    weaker n (n + counted_led l) new (omega arith) (subst (CountsUpTo n) (sym step.1) up)
counts_on old (Over ending) now l new n step up = absurd step
