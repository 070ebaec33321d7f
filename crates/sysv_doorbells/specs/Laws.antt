-- What follows from the rule for a thread that sleeps. This project's profile.
use Rattle.std.specs.Prelude.{◌≡◌, ◌≢◌, ℕ, ◌+◌, ◌<◌, List, length, slice_index}
use mathlib.Core.Option.{some}
use lib.ListN.{get_elem?}
use Rattle.sysv_doorbells.specs.declared.view.View.{View}
use Rattle.sysv_doorbells.specs.declared.view.Stage.TheVariants.{Ready, Near, Ringing}
use Rattle.sysv_doorbells.specs.Rule.{IsBell, IsKept, rings}

-- Nobody is in the middle of a ring of the doorbell.
abbrev pub NobodyRings : ℕ → List View → Type 0
NobodyRings at views =
    (id : ℕ) (v : View) → get_elem? views id ≡ some v → v.at ≡ at → (v.stage ≢ Near) × (v.stage ≢ Ringing)

-- Nobody has rung the doorbell since the thread read the number of strokes. The next one to ring
-- finds that there are sleepers, and finds one at the doorbell. At the entrance, none is called.
pub record NothingRang (words : List ℕ) (views : List View) (sleeper : View) : Type 0 where
  pub unrung : rings sleeper.at views ≡ sleeper.since
  pub sleepers : 0 < slice_index words 0
  pub entered : 0 < slice_index words sleeper.at
  pub uncalled : sleeper.at ≡ 2 → slice_index words 1 ≡ 0

-- Suppose that a thread is ready to sleep on the number of strokes that it has read, that the word
-- still has that number, and that nobody is in the middle of a ring of that doorbell. Then nobody
-- has rung it since.
abbrev pub NoWakeUpIsLost : Type 0
NoWakeUpIsLost =
    (many : ℕ) (words : List ℕ) (views : List View) (id : ℕ) (sleeper : View) → IsKept many words views
    → get_elem? views id ≡ some sleeper → sleeper.stage ≡ Ready → IsBell many sleeper.at
    → slice_index words (sleeper.at + 1) ≡ sleeper.strokes → NobodyRings sleeper.at views
    → NothingRang words views sleeper
