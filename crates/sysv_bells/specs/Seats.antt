-- What contracts see of the seats, and what each call does to them. This project's profile.
use Rattle.std.specs.Prelude.{◌≡◌, ◌⊎◌, ℕ, ◌+◌, ◌-◌, ◌/◌, ◌%◌, Bool, cond, List, [], ◌∷◌, ◌++◌}
use Rattle.std.specs.Prelude.{slice_index, slice_set, bit_or}
use Rattle.std.specs.Int.{bit_at}
use Rattle.atomic_table.specs.Seated.{TableId}
use Rattle.sysv_lists.specs.Prefix.{IsPrefixOf}
use Rattle.sysv_bells.specs.declared.view.Stage.{Stage}
use Rattle.sysv_bells.specs.declared.view.Stage.TheVariants.{Awake, Announced, Asleep}
use Rattle.sysv_bells.specs.declared.view.Telling.{Telling}
use Rattle.sysv_bells.specs.declared.view.Taking.{Taking}

-- A teller: the words that it belongs to, the number of times that it has rung, the number of times
-- that it had to write the doorbell, and what it has told.
pub record TellerEnd : Type 0 where
  pub table : TableId
  pub rings : ℕ
  pub bells : ℕ
  pub told : List Telling

-- The sleeper: the words, where it is, and what it has rung, read, heard, seen and taken.
pub record SleeperEnd : Type 0 where
  pub table : TableId
  pub stage : Stage
  pub rings : ℕ
  pub from : ℕ
  pub heard : ℕ
  pub seen : ℕ
  pub since : ℕ
  pub taken : List Taking

-- The sleeper at the start, and a teller at the start.
abbrev pub opened : TableId → SleeperEnd
opened table = record {
  table = table;
  stage = Awake;
  rings = 0;
  from = table.words;
  heard = 0;
  seen = 0;
  since = 0;
  taken = [];
}

abbrev pub newcomer : TableId → TellerEnd
newcomer table = record { table = table; rings = 0; bells = 0; told = [] }

-- The teller after a ring, which had to write the doorbell or not, if it has told this.
abbrev pub rung : Bool → List Telling → TellerEnd → TellerEnd
rung has_to told teller =
    record teller { rings = teller.rings + 1; bells = teller.bells + cond has_to 1 0; told = told }

-- The teller has told this number: it has set its bit, or has seen it set. All that it told before
-- comes before that.
pub record HasTold (number : ℕ) (before after : List Telling) : Type 0 where
  pub earlier : List Telling
  pub telling : Telling
  pub longer : IsPrefixOf before earlier
  pub is : after ≡ earlier ++ telling ∷ []
  pub word : telling.word ≡ number / 64 + 2
  pub bit : bit_at telling.bits (number % 64) ≡ 1

-- The sleeper after it has said that it sleeps, if it may sleep or not.
abbrev pub fell : Bool → ℕ → ℕ → SleeperEnd → SleeperEnd
fell may_sleep since seen sleeper =
    record sleeper { stage = cond may_sleep Asleep Announced; since = since; seen = seen }

-- The sleeper after it has woken up, if someone has rung or not.
abbrev pub woke : Bool → ℕ → SleeperEnd → SleeperEnd
woke has_come heard sleeper =
    record sleeper { stage = Awake; from = cond has_come 2 sleeper.from; heard = heard; seen = heard }

-- The sleeper after it has rung for itself.
abbrev pub stayed : SleeperEnd → SleeperEnd
stayed sleeper = record sleeper { rings = sleeper.rings + 1 }

-- The sleeper after it has read words up to this one and taken these.
abbrev pub read_to : ℕ → List Taking → SleeperEnd → SleeperEnd
read_to from more sleeper = record sleeper { from = from; taken = sleeper.taken ++ more }

-- What the read of this word took: nothing if it was 0.
abbrev pub TookAt : ℕ → ℕ → List Taking → Type 0
TookAt word bits more =
    ((more ≡ []) × (bits ≡ 0)) ⊎ (more ≡ record { word = word; bits = bits } ∷ [])

-- Words of changes after these bits were joined to the word at a place, if there is one.
abbrev pub with_bits : ℕ → ℕ → List ℕ → List ℕ
with_bits at bits changes = slice_set changes at (bit_or (slice_index changes at) bits)

-- Words of changes after these words were taken: each is joined to its place, if there is one.
abbrev pub joined : List Taking → List ℕ → List ℕ
joined [] changes = changes
joined (taking ∷ more) changes = joined more (with_bits (taking.word - 2) taking.bits changes)
