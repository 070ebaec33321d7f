-- The law that every legal history obeys (this profile's words for what POSIX.1-2017, msgsnd,
-- msgrcv and msgctl, says of the messages of a queue). Every accepted message is delivered once,
-- discarded once, or still queued. Each receive takes the very message that its selector names.
-- Messages of one type leave in the order of acceptance. After a removal nothing is accepted or
-- delivered under the identifier before it is installed again.
use Rattle.std.specs.Prelude.{◌≡◌, ◌≢◌, ℕ, ℤ, Bool, true, false, List, [], ◌∷◌, ◌++◌, Some, slice_get, All, AllPairs}
use Rattle.std.specs.Prelude.{Contains, IsPermutation}
use Rattle.std.specs.Ordering.{int_eq}
use Rattle.sysv_model.specs.Message.{Message}
use Rattle.sysv_model.specs.declared.cred.Cred.{Cred}
use Rattle.sysv_model.specs.declared.selector.Selector.{Selector}
use Rattle.sysv_model.specs.History.{Who, Call, Install, Take, Remove, Reply, Installed, Taken, Discarded, Entry}
use Rattle.sysv_model.specs.History.{History}
use Rattle.sysv_model.specs.Live.{IsLive}
use Rattle.sysv_model.specs.Waiting.{accepted, delivered, discarded, waiting, accepted_by, delivered_by}
use Rattle.sysv_queue.specs.Named.{IsNamed}
use Rattle.sysv_queue.specs.LegalReply.{IsLegalHistory}

-- A turn that removes the queue of this identifier.
abbrev pub removes : ℤ → Call → Reply → Bool
removes id (Remove at cred) (Discarded messages) = int_eq at id
removes id call reply = false

-- A turn that creates a queue under this identifier.
abbrev pub installs : ℤ → Call → Reply → Bool
installs id (Install at key cred mode now) (Installed true) = int_eq at id
installs id call reply = false

-- The entry accepted this message under the identifier.
abbrev pub Accepts : ℤ → Entry → Message → Type 0
Accepts id e m = accepted_by id e.call e.reply ≡ m ∷ []

-- Selection: a receive that took a message took the one at the place that its selector names among
-- the messages queued under its identifier.
abbrev pub TakesNamed : History → Type 0
TakesNamed h = (before after : History) (who : Who) (id : ℤ) (cred : Cred) (selector : Selector) (size : ℕ)
    (noerror : Bool) (now : ℕ) (m : Message) →
    h ≡ before ++ record { who = who; call = Take id cred selector size noerror now; reply = Taken m } ∷ after →
    (place : ℕ) × IsNamed selector (waiting id before) place × (slice_get (waiting id before) place ≡ Some m)

-- m is before n in the list.
abbrev pub StandsBefore : List Message → Message → Message → Type 0
StandsBefore messages m n = (front : List Message) × (between : List Message) × (back : List Message)
    × (messages ≡ front ++ m ∷ (between ++ n ∷ back))

-- Order within a type. Let one message be accepted before another of its type under one identifier,
-- with no removal in between. If the later message was delivered, then the earlier one was
-- delivered before it.
abbrev pub LeavesInOrder : History → Type 0
LeavesInOrder h = (id : ℤ) (before middle after : History) (e f : Entry) (m n : Message) →
    h ≡ before ++ e ∷ (middle ++ f ∷ after) → Accepts id e m → Accepts id f n → m.mtype ≡ n.mtype →
    All (λ (t : Entry). removes id t.call t.reply ≡ false) middle →
    Contains (delivered id h) n → StandsBefore (delivered id h) m n

-- Finality of removal: after an identifier was removed, no turn accepts or delivers under it before
-- it is installed again.
abbrev pub RemovalIsFinal : History → Type 0
RemovalIsFinal h = (id : ℤ) (before middle after : History) (e f : Entry) →
    h ≡ before ++ e ∷ (middle ++ f ∷ after) → removes id e.call e.reply ≡ true →
    All (λ (t : Entry). installs id t.call t.reply ≡ false) middle →
    (accepted_by id f.call f.reply ≡ []) × (delivered_by id f.call f.reply ≡ [])

-- The queue law.
pub record QueueLaw (h : History) : Type 0 where
  -- every reply is legal after the entries before it
  pub legal : IsLegalHistory h
  -- the accepted messages are, each once, those delivered, discarded or still queued
  pub conserved : (id : ℤ) → IsPermutation (accepted id h) (delivered id h ++ (discarded id h ++ waiting id h))
  -- no two accepted messages have the same number, under one identifier or two
  pub numbered : (id : ℤ) → AllPairs (λ (m n : Message). m.number ≢ n.number) (accepted id h)
  pub apart : (id other : ℤ) (m n : Message) → Contains (accepted id h) m → Contains (accepted other h) n →
      m.number ≡ n.number → id ≡ other
  -- no number is delivered twice, discarded twice, or both delivered and discarded
  pub once : (id : ℤ) → AllPairs (λ (m n : Message). m.number ≢ n.number) (delivered id h ++ discarded id h)
  -- what was delivered or discarded had been accepted under its identifier
  pub known : (id : ℤ) → All (Contains (accepted id h)) (delivered id h ++ discarded id h)
  -- nothing is queued under an identifier that is not live
  pub gone : (id : ℤ) → ¬ IsLive h id → waiting id h ≡ []
  pub named : TakesNamed h
  pub ordered : LeavesInOrder h
  pub final : RemovalIsFinal h
