-- What gives a message back is a send of it.
use Rattle.std.proofs.Common.{◌≡◌, ◌∙◌, ℕ, ℤ, List, Option, None, Some, refl, sym, ap, subst, subst₂}
use Rattle.std.specs.Prelude.{⊤}
use Rattle.sysv_model.specs.declared.cred.Cred.{Cred}
use Rattle.sysv_model.specs.declared.flags.Flags.{Flags}
use Rattle.sysv_session.specs.declared.handler.RequestOutcome.{RequestOutcome}
use Rattle.sysv_session.specs.declared.handler.RequestOutcome.TheVariants.{Reply, Got, Left}
use Rattle.sysv_service.specs.declared.progress.Progress.{Progress}
use Rattle.sysv_service.specs.declared.progress.Progress.TheVariants as progress
use Rattle.sysv_service.specs.Ran.{Pass}
use Rattle.sysv_steps.specs.declared.send.SendWait.{SendWait}
use Rattle.sysv_wire.specs.declared.frame.Version.{Version}
use Rattle.sysv_wire.specs.declared.frame.Version.TheVariants.{Three}
use Rattle.sysv_wire.specs.declared.request.Ask.TheVariants.{Snd}
use Rattle.sysv_wire.specs.declared.request.Request.{Request}
use Rattle.sysv_seats.specs.declared.returning.Return.{Return}
use Rattle.sysv_steps.specs.declared.pending.Waiting.{Waiting}
use Rattle.sysv_steps.specs.declared.pending.Waiting.TheVariants.{Send, Receive, Get}
use Rattle.sysv_seats.specs.GivingBack.{ComesBack, EachReturnCanBeLeft, GoesBack, GoesBackOn, IsOfSend, IsReturn}
use Rattle.sysv_seats.specs.GivingBack.{return_by, return_of}
use Rattle.sysv_seats.specs.Held.{held_after}
use Rattle.sysv_seats.specs.Holding.{Holder, Message, no_flags}
use Rattle.sysv_seats.specs.InPieces.{asks_any, left}
use Rattle.sysv_seats.specs.Parked.{HasBegun, IsParked, MayProgress}
use Rattle.sysv_seats.specs.Sits.{zero_moment}
use Rattle.sysv_seats.proofs.ClientSteps.{asks_replied}

-- The send of a message has come so far.
pub comes_back : (message : Message) (start : Pass) (came : Progress Waiting RequestOutcome) (given : List ℕ)
    (after : Pass) →
    HasBegun zero_moment Three message.cred (Snd message.id message.mtype no_flags) message.text start came given
    after →
    ComesBack start (Some message) (return_by came) (record { at = after; message = held_after (Some message) came })
comes_back message start (progress.Waits (Send wait)) given after begun = ((message, refl, begun.0), refl)
comes_back message start (progress.Waits (Receive wait)) given after begun = absurd begun.0
comes_back message start (progress.Waits (Get wait)) given after begun = absurd begun.0
comes_back message start (progress.Over outcome) given after begun = (
  message,
  refl,
  outcome,
  asks_replied zero_moment Three message.cred (Snd message.id message.mtype no_flags) message.text start outcome given
      after begun,
  (asks_any zero_moment Three message.cred ⊤ (Snd message.id message.mtype no_flags) message.text start outcome given
      after begun).0,
  refl,
  refl,
)

-- The send of what is held was begun.
pub goes_back : (message : Message) (request : Request) (cred : Cred) (text : List ℕ) (before : Holder Pass)
    (came : Progress Waiting RequestOutcome) (given : List ℕ) (result : Return) (after : Holder Pass) →
    before.message ≡ Some message → cred ≡ message.cred → request ≡ return_of message → text ≡ message.text →
    HasBegun zero_moment request.version cred request.ask text before.at came given after.at →
    result ≡ return_by came → after.message ≡ held_after before.message came → GoesBack before result after
goes_back message request cred text before came given result after is who what body begun come held =
    let sent : HasBegun zero_moment Three message.cred (Snd message.id message.mtype no_flags) message.text before.at
    came given after.at =
    subst (λ (r : Request). HasBegun zero_moment r.version message.cred r.ask message.text before.at came given
    after.at) what
    (subst₂ (λ (c : Cred) (t : List ℕ). HasBegun zero_moment request.version c request.ask t before.at came given
    after.at) who body begun) in
    let last : after.message ≡ held_after (Some message) came =
    held ∙ ap (λ (h : Option Message). held_after h came) is in
    subst₂ (λ (h : Option Message) (r : Return). ComesBack before.at h r after) (sym is) (sym come)
    (subst (λ (h : Option Message). ComesBack before.at (Some message) (return_by came)
    (let a : Holder Pass = record { at = after.at; message = h } in a)) (sym last)
    (comes_back message before.at came given after.at sent))

-- A send waits by a wait of a send, and its outcome has no message.
pub of_send : (version : Version) (id mtype : ℤ) (flags : Flags) (came : Progress Waiting RequestOutcome)
    (given : List ℕ) → MayProgress version (Snd id mtype flags) came given → IsOfSend came
of_send version id mtype flags (progress.Waits (Send wait)) given answers = refl
of_send version id mtype flags (progress.Waits (Receive wait)) given answers = absurd answers
of_send version id mtype flags (progress.Waits (Get wait)) given answers = absurd answers
of_send version id mtype flags (progress.Over (Reply reply)) given answers = refl
of_send version id mtype flags (progress.Over (Got delivery)) given answers = absurd (cc answers.0)
of_send version id mtype flags (progress.Over Left) given answers = refl

-- One message is held.
one_message : (held : Option Message) (a b : Message) → held ≡ Some a → held ≡ Some b → a ≡ b
one_message held a b first second = cc

-- The send of what is held, which waited, went on.
pub goes_back_on : (message : Message) (request : Request) (text : List ℕ) (before : Holder Pass) (wait : SendWait)
    (came : Progress Waiting RequestOutcome) (given : List ℕ) (result : Return) (after : Holder Pass) →
    before.message ≡ Some message → request ≡ return_of message → text ≡ message.text →
    ((start : Pass) (cred : Cred) → IsParked zero_moment cred request.ask text start (Send wait) before.at →
    HasBegun zero_moment request.version cred request.ask text start came given after.at) →
    result ≡ return_by came → after.message ≡ held_after before.message came → GoesBackOn before wait result after
goes_back_on message request text before wait came given result after is what body on come held = λ start waits.
    let same = one_message before.message waits.0 message waits.1 is in
    let there = subst (λ (m : Message). IsParked zero_moment m.cred (Snd m.id m.mtype no_flags) m.text start
    (Send wait) before.at) same waits.2 in
    let parked : IsParked zero_moment message.cred request.ask text start (Send wait) before.at =
    subst₂ (λ (r : Request) (t : List ℕ). IsParked zero_moment message.cred r.ask t start (Send wait) before.at)
    (sym what) (sym body) there in
    goes_back message request message.cred text (record { at = start; message = before.message }) came given result
    after is refl what body (on start message.cred parked) come held

-- Nothing is held that could wait.
pub none_waits : (before : Holder Pass) (wait : SendWait) (result : Return) (after : Holder Pass) →
    before.message ≡ None → GoesBackOn before wait result after
none_waits before wait result after none = λ start waits.
    absurd (let no : None ≡ Some waits.0 = sym none ∙ waits.1 in cc no)

-- A return that waits can be left.
pub returns_left : EachReturnCanBeLeft
returns_left start now wait held is (message, same, waits) =
    subst (λ (m : Message). IsReturn m start Left now.at) (one_message now.message message held same is)
    (left zero_moment Three message.cred ⊤ (Snd message.id message.mtype no_flags) message.text start (Send wait)
    now.at tt
    waits).0
