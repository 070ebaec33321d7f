-- What a run of workers does, and what is handed back if it is refused. This project's profile.
use Rattle.std.specs.Prelude.{◌≡◌, ◌≢◌, ◌≤◌, ◌+◌, ◌^◌, ℕ, List, length, Option}
use Rattle.std.specs.List.{All, flat_map}
use Rattle.sysv_workers.specs.Parts.{Part, Leads, AreDealt, AreInOrder}
use Rattle.sysv_workers.specs.Sources.{GivesAll, Gave, Returned}
use Rattle.sysv_workers.specs.declared.refusals.WorkersFault.{WorkersFault}
use Rattle.sysv_workers.specs.declared.refusals.WorkersFault.TheVariants.{BadCount, NoMemory, Thread, Worn, Missed}

module _ {W T : Type 0} where
  -- The workers have run over all items of the source. Each worker has a list of items, and leaves
  -- a state to which the job's runs over that list lead. Together, the lists are the items that the
  -- source returned, each once. Each list is in the order in which the source returned them; so one
  -- worker alone ran over just the items of the source, in their order.
  pub record RunsAll {S : Type 0} (runs : W → T → W → Type 0) (gives : S → Option T → S → Type 0) (before : List W)
      (source : S) (after : List W) (source' : S) : Type 0 where
    pub parts : List (Part W T)
    pub given : List T
    pub leads : Leads runs before parts after
    pub gave : GivesAll gives source given source'
    pub dealt : AreDealt given parts
    pub ordered : AreInOrder given parts
    pub alone : length before ≡ 1 → flat_map (λ p. p.items) parts ≡ given

  -- What a refused run hands back. After `BadCount`, `NoMemory` and `Thread` the states are
  -- unchanged. After `Worn` and `Missed` each state is one to which runs over some items lead.
  abbrev pub GivesBack : (W → T → W → Type 0) → List W → WorkersFault → List W → Type 0
  GivesBack runs before BadCount after = after ≡ before
  GivesBack runs before NoMemory after = after ≡ before
  GivesBack runs before Thread after = after ≡ before
  GivesBack runs before Worn after = (parts : List (Part W T)) × Leads runs before parts after
  GivesBack runs before Missed after = (parts : List (Part W T)) × Leads runs before parts after

  -- What a run hands back that was given up since a thread could not be started. After `Missed` some
  -- worker has run over an item.
  pub record GivesUp (runs : W → T → W → Type 0) (fits : W → Type 0) (before : List W) (why : WorkersFault)
      (after : List W) : Type 0 where
    pub back : GivesBack runs before why after
    pub still : All fits after
    pub missed : why ≡ Missed →
        (parts : List (Part W T)) × Leads runs before parts after × (1 ≤ length (flat_map (λ p. p.items) parts))

-- What a refused run of this number of workers leaves of the source. After `BadCount`, `NoMemory`
-- and `Thread` the source was not read. After `Worn` it has returned so many items that these and an
-- end mark for each worker are at least 2^62, and may have reported its end. After `Missed` it is at
-- its end or was not read.
abbrev pub LeavesSource : {S T : Type 0} → (S → Option T → S → Type 0) → ℕ → S → WorkersFault → S → Type 0
LeavesSource gives workers source BadCount source' = source' ≡ source
LeavesSource gives workers source NoMemory source' = source' ≡ source
LeavesSource gives workers source Thread source' = source' ≡ source
LeavesSource {T = T} gives workers source Worn source' =
    (given : List T) × Returned gives source given source' × (2 ^ 62 ≤ length given + workers)
LeavesSource {T = T} gives workers source Missed source' = (given : List T) × Gave gives source given source'

module _ {W T S : Type 0} where
  -- The result of a run with an allowed number of states that was not refused.
  pub record Ends (runs : W → T → W → Type 0) (fits : W → Type 0) (gives : S → Option T → S → Type 0) (before : List W)
      (source : S) (after : List W) (source' : S) : Type 0 where
    pub all : RunsAll runs gives before source after source'
    pub still : All fits after

  -- The result of a run with an allowed number of states that was refused after the buffer was
  -- made.
  pub record Fails (runs : W → T → W → Type 0) (fits : W → Type 0) (gives : S → Option T → S → Type 0) (before : List W)
      (source : S) (why : WorkersFault) (after : List W) (source' : S) : Type 0 where
    pub back : GivesBack runs before why after
    pub still : All fits after
    pub asked : LeavesSource gives (length before) source why source'
    pub count : why ≢ BadCount
    pub memory : why ≢ NoMemory
