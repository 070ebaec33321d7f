-- What follows from the rule for the sleeper that sleeps. This project's profile.
use Rattle.std.specs.Prelude.{◌≡◌, ◌≢◌, ℕ, ◌≤◌, List, slice_index}
use Rattle.std.specs.Int.{bit_at}
use mathlib.Core.Option.{some}
use lib.ListN.{get_elem?}
use Rattle.sysv_bells.specs.declared.view.View.{View}
use Rattle.sysv_bells.specs.declared.view.Telling.{Telling}
use Rattle.sysv_bells.specs.declared.view.Stage.TheVariants.{Idle, Asleep}
use Rattle.sysv_bells.specs.Rule.{all_bells, IsTaken, IsKept}

-- No teller is in the middle of a call.
abbrev pub AllIdle : List View → Type 0
AllIdle views = (id : ℕ) (v : View) → get_elem? views id ≡ some v → id ≢ 0 → v.stage ≡ Idle

-- Everything that any seat has told was taken by the sleeper afterwards.
abbrev pub AllTaken : View → List View → Type 0
AllTaken sleeper views =
    (id : ℕ) (v : View) → get_elem? views id ≡ some v → (place : ℕ) (t : Telling) → get_elem? v.told place ≡ some t
    → (bit : ℕ) → bit_at t.bits bit ≡ 1 → IsTaken sleeper.taken t.since t.word bit

-- Nothing is told, nobody has rung, and the next teller will find that the sleeper sleeps.
pub record NothingWaits (words : List ℕ) (sleeper : View) (views : List View) : Type 0 where
  pub asleep : slice_index words 0 ≡ 1
  pub not_rung : slice_index words 1 ≡ 0
  pub untold : (i : ℕ) → 2 ≤ i → slice_index words i ≡ 0
  pub taken : AllTaken sleeper views

-- If the sleeper sleeps, no teller has taken its word since it said that it sleeps, and no teller
-- is in the middle of a call, then nothing waits for the sleeper.
abbrev pub NoWakeUpIsLost : Type 0
NoWakeUpIsLost =
    (told : ℕ) (words : List ℕ) (views : List View) (sleeper : View) → IsKept told words views sleeper
    → sleeper.stage ≡ Asleep → all_bells views ≤ sleeper.since → AllIdle views → NothingWaits words sleeper views
