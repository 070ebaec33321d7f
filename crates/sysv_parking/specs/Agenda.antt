-- What a worker has still to do for its parked calls (this project's profile), and what it does.
use Rattle.std.specs.Prelude.{◌≡◌, ◌⊎◌, ◌<◌, ◌%◌, ℕ, ℤ, List, [], ◌∷◌, Option, None, Some}
use Rattle.std.specs.Int.{bit_at}
use Rattle.std.specs.List.{Contains}
use Rattle.sysv_keys.specs.declared.identifier.TheConstants.{SLOTS}
use Rattle.sysv_parking.specs.declared.changes.Change.{Change}
use Rattle.sysv_parking.specs.declared.changes.Change.TheVariants.{Queue, Room, Blocks, Settled, Anything}
use Rattle.sysv_parking.specs.declared.due.Why.{Why}
use Rattle.sysv_parking.specs.declared.envelope.Envelope.{Envelope}
use Rattle.sysv_parking.specs.declared.envelope.News.{News}
use Rattle.sysv_parking.specs.declared.envelope.News.TheVariants.{Message, Changed}
use Rattle.sysv_parking.specs.declared.found.Found.{Found}
use Rattle.sysv_parking.specs.declared.found.Found.TheVariants as found
use Rattle.sysv_parking.specs.declared.key.Key.{Key}
use Rattle.sysv_parking.specs.declared.key.TheConstants.{BLOCKS_WORD, SETTLED_WORD}
use Rattle.sysv_parking.specs.Changes.{Concerns, Heeds, Holds, HoldsOn, IsThere, IsWithin}
use Rattle.sysv_parking.specs.Keys.{bounded_sum}
use Rattle.sysv_parking.specs.Lines.{NoneIsDue}
use Rattle.sysv_parking.specs.Looks.{AnAskerFound, IsUnwanted, WasLookedAt, WouldWait}
use Rattle.sysv_parking.specs.Parking.{Parking, key_at, why_at}

-- The parked calls of a worker, the changes that it has still to heed, the envelopes that it keeps,
-- its number, and how many looks at parked calls it may still make in this round.
pub record Agenda : Type 0 where
  pub parking : Parking
  pub changes : List ℕ
  pub envelopes : List Envelope
  pub number : ℕ
  pub looks : ℕ

-- The worker is to look at the call of this place, which waits for this, for these reasons: the call
-- is due for them, or a change is to be heeded that may end its wait.
abbrev pub Owes : Agenda → ℕ → Key → Why → Type 0
Owes agenda place key why = (key_at agenda.parking place ≡ Some key)
    × (IsWithin why (why_at agenda.parking place)
    ⊎ ((change : Change) × IsThere change × Holds agenda.changes change × Concerns change key why))

-- No change is to be heeded.
abbrev pub IsHeedful : Agenda → Type 0
IsHeedful agenda = (change : Change) → IsThere change → Holds agenda.changes change → ⊥

-- There is nothing to do: no change is to be heeded, no call is due, and there is no envelope.
pub record IsAtRest (agenda : Agenda) : Type 0 where
  pub changes : IsHeedful agenda
  pub calls : NoneIsDue agenda.parking
  pub envelopes : agenda.envelopes ≡ []

-- The first of the envelopes was taken, if there is one.
abbrev pub TakesFirst : Option Envelope → (old new : List Envelope) → Type 0
TakesFirst None old new = (old ≡ []) × (new ≡ [])
TakesFirst (Some envelope) old new = old ≡ envelope ∷ new

-- A worker is known by the bit of its number in a word.
abbrev pub bit_of : ℕ → ℕ
bit_of worker = worker % 64

-- `Looked` as in `Looks`. `Had parking`: the worker's calls were parked so at one moment. `Sent worker
-- envelope` and `Told worker change`: the worker of this number was sent this envelope, and was told of
-- this change.
module _ (Looked : ℕ → Option Key → Found → Type 0) (Had : Parking → Type 0) (Sent : ℕ → Envelope → Type 0)
    (Told : ℕ → Change → Type 0) where
  -- The call of this place was looked at, or would wait again although it is due for these reasons.
  abbrev pub IsSettled : ℕ → Key → Why → Type 0
  IsSettled place key why = WasLookedAt Looked place ⊎ WouldWait Looked why key

  -- At one moment no parked call was a receive that requests messages of this type at the slot.
  abbrev pub WasUnwanted : ℕ → ℤ → Type 0
  WasUnwanted slot mtype = (parking : Parking) × Had parking × IsUnwanted parking slot mtype

  -- The worker of this bit was sent an envelope of such a message that names it, or it was told that
  -- anything may have happened.
  abbrev pub IsTold : ℕ → ℤ → ℕ → Type 0
  IsTold slot mtype worker = ((to : ℕ) × (bit_of to ≡ worker) × Told to Anything)
      ⊎ ((to : ℕ) × (rest : ℕ) × Sent to (record { slot = slot; mtype = mtype; rest = rest })
      × (bit_at rest worker ≡ 1))

  -- Each of these workers was told.
  abbrev pub ArePassed : ℕ → ℤ → ℕ → Type 0
  ArePassed slot mtype rest = (worker : ℕ) → worker < 64 → bit_at rest worker ≡ 1 → IsTold slot mtype worker

  -- What became of an envelope at the worker of this number: a receive took a message of its type; one
  -- that requests its type found none; or each worker that has not had it was told, but for this one if no
  -- receive of its own requests it.
  abbrev pub IsSpent : ℕ → Envelope → Type 0
  IsSpent number envelope = AnAskerFound Looked envelope.slot envelope.mtype found.Message
      ⊎ (AnAskerFound Looked envelope.slot envelope.mtype found.Nothing
      ⊎ ((worker : ℕ) → worker < 64 → bit_at envelope.rest worker ≡ 1 →
      ((worker ≡ bit_of number) × WasUnwanted envelope.slot envelope.mtype)
      ⊎ IsTold envelope.slot envelope.mtype worker))

  -- What becomes of the work of a worker: a call that it is to look at it still is to look at, or it was
  -- looked at, or would wait again. An envelope that it keeps it still keeps, or it is spent.
  pub record Heeded (old new : Agenda) : Type 0 where
    pub number : new.number ≡ old.number
    pub owed : (place : ℕ) (key : Key) (why : Why) → Owes old place key why →
        Owes new place key why ⊎ IsSettled place key why
    pub envelopes : (envelope : Envelope) → Contains old.envelopes envelope →
        Contains new.envelopes envelope ⊎ IsSpent old.number envelope

  -- The same, and what becomes of one more envelope.
  pub record HeedsOne (envelope : Envelope) (old new : Agenda) : Type 0 where
    pub heeded : Heeded old new
    pub one : Contains new.envelopes envelope ⊎ IsSpent old.number envelope

-- A change was taken out of those to be heeded, and each parked call is due whose wait it may end.
pub record HeedsChange (old new : Agenda) : Type 0 where
  pub change : Change
  pub heeds : Heeds change old.parking new.parking
  pub others : (other : Change) → IsThere other → Holds old.changes other →
      (other ≡ change) ⊎ Holds new.changes other
  pub rest : new ≡ record old { parking = new.parking; changes = new.changes }

-- The changes that are to be heeded still are, and the envelopes are kept. There may be more.
pub record KeepsWork (old new : Agenda) : Type 0 where
  pub number : new.number ≡ old.number
  pub changes : HoldsOn old.changes new.changes
  pub envelopes : (envelope : Envelope) → Contains old.envelopes envelope → Contains new.envelopes envelope

-- ---- what is told

-- The calls that such a change may end are parked under this word.
abbrev pub IsWordOf : Change → ℕ → Type 0
IsWordOf (Queue slot) word = (word ≡ slot) ⊎ ((word ≡ bounded_sum SLOTS slot) ⊎ (word ≡ BLOCKS_WORD))
IsWordOf (Room slot) word = word ≡ bounded_sum SLOTS slot
IsWordOf Blocks word = word ≡ BLOCKS_WORD
IsWordOf Settled word = word ≡ SETTLED_WORD
IsWordOf Anything word = ⊥

-- `Read word workers`: this word was read, and these were the workers with calls parked under it.
module _ (Told : ℕ → Change → Type 0) (Read : ℕ → ℕ → Type 0) where
  -- The worker of this bit was told of the change, or is this one and is to heed it.
  abbrev pub IsHeard : Change → Agenda → ℕ → Type 0
  IsHeard change agenda worker = ((to : ℕ) × (bit_of to ≡ worker) × Told to change)
      ⊎ ((worker ≡ bit_of agenda.number) × Holds agenda.changes change)

  -- Each of these workers was told of the change.
  abbrev pub AreTold : Change → ℕ → Type 0
  AreTold change workers = (worker : ℕ) → worker < 64 → bit_at workers worker ≡ 1 →
      (to : ℕ) × (bit_of to ≡ worker) × Told to change

  -- Each of these workers heard of the change.
  abbrev pub HearOf : Change → ℕ → Agenda → Type 0
  HearOf change workers agenda = (worker : ℕ) → worker < 64 → bit_at workers worker ≡ 1 → IsHeard change agenda worker

  -- These are all workers with calls parked that such a change may end.
  abbrev pub AreParkedFor : Change → ℕ → Type 0
  AreParkedFor change workers = (word : ℕ) → IsWordOf change word → (there : ℕ) × Read word there
      × ((worker : ℕ) → bit_at there worker ≡ 1 → bit_at workers worker ≡ 1)

  -- Each worker heard of the change that had calls parked that it may end.
  abbrev pub IsSpread : Change → Agenda → Type 0
  IsSpread change agenda =
      (word : ℕ) → IsWordOf change word → (there : ℕ) × Read word there × HearOf change there agenda

  -- Of a message that has arrived an envelope is kept, for all workers with receives parked at its slot. If
  -- it was refused, all workers were told that anything may have happened.
  abbrev pub IsPosted : ℕ → ℤ → Agenda → Type 0
  IsPosted slot mtype agenda = (there : ℕ) × Read slot there × ((there ≡ 0)
      ⊎ (Contains agenda.envelopes (record { slot = slot; mtype = mtype; rest = there })
      ⊎ ((worker : ℕ) → worker < 64 → Told worker Anything)))

  -- What a call has changed is told to all whom it may concern, or kept for them.
  abbrev pub IsAnnounced : News → Agenda → Type 0
  IsAnnounced (Message slot mtype) agenda = IsPosted slot mtype agenda
  IsAnnounced (Changed change) agenda = IsThere change → IsSpread change agenda

  -- The news were announced, or are a change of these, which are to be told.
  abbrev pub IsTaken : News → List ℕ → Agenda → Type 0
  IsTaken news changes agenda = ((change : Change) × (news ≡ Changed change) × (IsThere change → Holds changes change))
      ⊎ IsAnnounced news agenda

-- One of the news was taken, if there are any.
abbrev pub TakesNews : Option News → (old new : List News) → Type 0
TakesNews None old new = (old ≡ []) × (new ≡ [])
TakesNews (Some news) old new = (other : News) → Contains old other → (other ≡ news) ⊎ Contains new other
