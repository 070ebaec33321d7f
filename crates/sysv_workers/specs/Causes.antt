-- The causes of a refused run. The seat is the one that fed the workers, after all of them were
-- joined. It has seen all that was put into the buffer, each item and each end mark. This project's
-- profile.
use Rattle.std.specs.Prelude.{◌≡◌, ◌≢◌, ◌⊎◌, ℕ, ◌+◌, ◌^◌, ◌<◌, ◌≤◌, Bool, false, true, List, length, Option, Some, None}
use Rattle.std.specs.List.{flat_map}
use Rattle.sysv_buffer.specs.ManyEnds.{Holding}
use Rattle.sysv_workers.specs.declared.feed.Feed.{Feed}
use Rattle.sysv_workers.specs.Feeding.{counted}
use Rattle.sysv_workers.specs.Parts.{Part, Leads}
use Rattle.sysv_workers.specs.Running.{Fails}
use Rattle.sysv_workers.specs.Sources.{Gave}
use Rattle.sysv_workers.specs.declared.refusals.WorkersFault.{WorkersFault}
use Rattle.sysv_workers.specs.declared.refusals.WorkersFault.TheVariants.{BadCount, NoMemory, Thread, Worn, Missed}

-- What the counts at the end of a run show. `Worn` is the cause only if a put or a take was
-- refused: not all items were put, or at least 2^62 items and end marks were to be put, and not all
-- end marks were put or some worker took no end mark. `Missed` is the cause only if all items were
-- put and a count differs: the number of items run, or the number of items and end marks put, which
-- differs also if a put or a take was refused before 2^62 were to be put.
abbrev pub Told : Option ℕ → Bool → Bool → ℕ → ℕ → ℕ → WorkersFault → Type 0
Told items marked ended ran put marks BadCount = ⊥
Told items marked ended ran put marks NoMemory = ⊥
Told items marked ended ran put marks Thread = ⊥
Told items marked ended ran put marks Worn = (items ≡ None)
    ⊎ ((n : ℕ) × (items ≡ Some n) × (2 ^ 62 ≤ n + marks) × ((marked ≡ false) ⊎ (ended ≡ false)))
Told items marked ended ran put marks Missed =
    (n : ℕ) × (items ≡ Some n)
    × (((marked ≡ true) × (ended ≡ true) × ((ran ≢ n) ⊎ (put ≢ counted (n + marks))))
    ⊎ ((n + marks < 2 ^ 62) × ((marked ≡ false) ⊎ (ended ≡ false))))

module _ {W T S : Type 0} where
  -- The number of items run differs from the number of items of the source, or the number of items
  -- and end marks put differs from the number of the source's items and the end marks.
  pub record Differs (runs : W → T → W → Type 0) (gives : S → Option T → S → Type 0) (before : List W) (source : S)
      (marks : ℕ) (after : List W) (source' : S) (seat : Holding (Feed T)) : Type 0 where
    pub parts : List (Part W T)
    pub given : List T
    pub leads : Leads runs before parts after
    pub gave : Gave gives source given source'
    pub differs : (length (flat_map (λ p. p.items) parts) ≢ length given)
        ⊎ (length seat.seen ≢ counted (length given + marks))

  -- The cause of a refused run. `Worn` is the cause only if 2^62 items and end marks were put into
  -- the buffer, and `Missed` only if the numbers differ. A run that had its buffer never fails with
  -- `BadCount` or `NoMemory`.
  abbrev pub HasCause : (W → T → W → Type 0) → (S → Option T → S → Type 0) → List W → S → ℕ → WorkersFault → List W →
      S → Holding (Feed T) → Type 0
  HasCause runs gives before source marks BadCount after source' seat = ⊥
  HasCause runs gives before source marks NoMemory after source' seat = ⊥
  HasCause runs gives before source marks Thread after source' seat = Unit {0}
  HasCause runs gives before source marks Worn after source' seat = 2 ^ 62 ≤ length seat.seen
  HasCause runs gives before source marks Missed after source' seat =
      Differs runs gives before source marks after source' seat

  -- The result of a run that was refused after the buffer was made, and its cause.
  abbrev pub FailsBy : (W → T → W → Type 0) → (W → Type 0) → (S → Option T → S → Type 0) → List W → S → ℕ →
      WorkersFault → List W → S → Holding (Feed T) → Type 0
  FailsBy runs fits gives before source marks why after source' seat =
      Fails runs fits gives before source why after source'
      × HasCause runs gives before source marks why after source' seat
