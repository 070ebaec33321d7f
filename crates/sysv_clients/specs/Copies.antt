-- The messages that a rcv prints as JSON objects, and that a snd reads back (this project's programs).
use Rattle.std.specs.Prelude.{◌≡◌, ◌≤◌, ⊤, ℕ, ℤ, pos, List, [], ◌∷◌, ◌++◌, length, map, flat_map, Option, Some}
use Rattle.base64.specs.GeneralPurpose.{IsBytes}
use Rattle.sysv_clients.specs.declared.sending.Sending.{Sending}
use Rattle.sysv_clients.specs.declared.sending.Wording.TheVariants.{Objects}
use Rattle.sysv_clients.specs.declared.stated.TheConstants.{OBJECT_BYTES}
use Rattle.sysv_clients.specs.Lines.{HasNone, IsText}
use Rattle.sysv_clients.specs.Object.{object_line}
use Rattle.sysv_clients.specs.Sending.{AreSends, Sent, send_ask}
use Rattle.sysv_clients.specs.Stated.{IsObjectOf}
use Rattle.sysv_model.specs.declared.limits.TheConstants.{MESSAGE_BYTES}

-- A type and a body.
pub record Message : Type 0 where
  pub mtype : ℤ
  pub body : List ℕ

-- A queue may have this message.
pub record IsMessage (message : Message) : Type 0 where
  pub number : ℕ
  pub typed : message.mtype ≡ pos number
  pub some : 1 ≤ number
  pub fits : number ≤ 9223372036854775807
  pub bytes : IsBytes message.body
  pub short : length message.body ≤ MESSAGE_BYTES

abbrev pub AreMessages : List Message → Type 0
AreMessages [] = ⊤
AreMessages (message ∷ more) = IsMessage message × AreMessages more

-- What a rcv prints of this message is a line that a snd accepts, and it states this message.
pub record IsReadBack (message : Message) : Type 0 where
  pub text : List ℕ
  pub line : object_line message.mtype message.body ≡ text ++ 10 ∷ []
  pub fits : IsText OBJECT_BYTES text
  pub states : IsObjectOf text message.mtype message.body

-- A line states at most one message.
abbrev pub StatesOne : List ℕ → Type 0
StatesOne line =
    (mtype other : ℤ) (body text : List ℕ) → IsObjectOf line mtype body → IsObjectOf line other text
    → (mtype ≡ other) × (body ≡ text)

-- What a rcv prints of these messages.
abbrev pub objects_of : List Message → List ℕ
objects_of messages = flat_map (λ message. object_line message.mtype message.body) messages

-- The requests that send these messages to the queue with this identifier.
abbrev pub sends_of : Sending → ℤ → List Message → List Sent
sends_of sending found messages =
    map (λ message. record { ask = send_ask sending found message.mtype; text = message.body }) messages

-- The first of these messages are sent, in order, and the input still has what was printed of the later
-- ones. If it has no further line, all were sent.
pub record IsCopied (sending : Sending) (found : ℤ) (messages : List Message) (sents : List Sent)
    (rest : Option (List ℕ)) : Type 0 where
  pub first : List Message
  pub later : List Message
  pub split : messages ≡ first ++ later
  pub sends : sents ≡ sends_of sending found first
  pub left : rest ≡ Some (objects_of later)
  pub all : (end : Option (List ℕ)) → HasNone rest end → later ≡ []

-- If a snd reads what a rcv printed of these messages, it sends these messages.
abbrev pub AreCopied : List Message → Type 0
AreCopied messages =
    (sending : Sending) (found : ℤ) (sents : List Sent) (rest : Option (List ℕ)) → sending.wording ≡ Objects
    → AreSends sending found sents (Some (objects_of messages)) rest
    → IsCopied sending found messages sents rest
