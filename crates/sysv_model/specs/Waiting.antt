-- The messages that a history has accepted, delivered, discarded and still holds under an
-- identifier, each a list in the order of the turns. The words are this profile's, for what
-- POSIX.1-2017 says of the messages on a queue.
use Rattle.std.specs.Prelude.{ℕ, ℤ, ◌==◌, Bool, not, List, [], ◌∷◌, ◌++◌, Option, Some, None, if◌then◌else◌, filter}
use Rattle.std.specs.List.{flat_map, list_any}
use Rattle.std.specs.Ordering.{int_eq}
use Rattle.sysv_model.specs.declared.attributes.Attributes.{Attributes}
use Rattle.sysv_model.specs.Message.{Message}
use Rattle.sysv_model.specs.History.{Call, Place, Take, Remove, Reply, Accepted, Taken, Discarded, Entry, History}
use Rattle.sysv_model.specs.Live.{live}

-- The message that a turn accepted under this identifier, if it accepted one.
abbrev pub accepted_by : ℤ → Call → Reply → List Message
accepted_by id (Place at cred mtype bytes now) (Accepted number) =
    if int_eq at id then record { number = number; sender = cred.pid; mtype = mtype; bytes = bytes } ∷ [] else []
accepted_by id call reply = []

-- The message that a turn delivered under this identifier, if it delivered one.
abbrev pub delivered_by : ℤ → Call → Reply → List Message
delivered_by id (Take at cred selector size noerror now) (Taken message) = if int_eq at id then message ∷ [] else []
delivered_by id call reply = []

-- The messages that a turn discarded under this identifier.
abbrev pub discarded_by : ℤ → Call → Reply → List Message
discarded_by id (Remove at cred) (Discarded messages) = if int_eq at id then messages else []
discarded_by id call reply = []

-- All messages that a history accepted under this identifier.
abbrev pub accepted : ℤ → History → List Message
accepted id h = flat_map (λ (e : Entry). accepted_by id e.call e.reply) h

-- All messages that a history delivered under this identifier.
abbrev pub delivered : ℤ → History → List Message
delivered id h = flat_map (λ (e : Entry). delivered_by id e.call e.reply) h

-- All messages that a history discarded under this identifier.
abbrev pub discarded : ℤ → History → List Message
discarded id h = flat_map (λ (e : Entry). discarded_by id e.call e.reply) h

-- One of these messages has the number.
abbrev pub has_number : ℕ → List Message → Bool
has_number number messages = list_any (λ (m : Message). m.number == number) messages

-- The queued messages: those accepted, in order, without those that were delivered or discarded.
abbrev pub waiting : ℤ → History → List Message
waiting id h = filter (λ (m : Message). not (has_number m.number (delivered id h ++ discarded id h))) (accepted id h)

-- The queued messages of the live queue; none if no queue is live.
abbrev pub waiting_on : Option Attributes → History → List Message
waiting_on None h = []
waiting_on (Some a) h = waiting a.id h

-- The messages that a history still holds: those queued on its live queue.
abbrev pub held : History → List Message
held h = waiting_on (live h) h
