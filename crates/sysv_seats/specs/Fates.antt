-- What becomes of the messages that holds give (this project's profile). Each is spent by a done, or given back by a
-- back, or its time is over and it is given back, or it is held at the end of the session, and is then given back.
use Rattle.std.specs.Prelude.{◌≡◌, ◌+◌, ⊤, ℕ, List, [], ◌∷◌, Option, None, Some, length}
use Rattle.sysv_model.specs.declared.cred.Cred.{Cred}
use Rattle.sysv_session.specs.declared.handler.RequestOutcome.{RequestOutcome}
use Rattle.sysv_session.specs.declared.handler.RequestOutcome.TheVariants.{Reply, Got, Left}
use Rattle.sysv_session.specs.Calls.{Call, Leads}
use Rattle.sysv_service.specs.Ran.{Pass}
use Rattle.sysv_wire.specs.declared.reply.ReplyContent.{ReplyContent}
use Rattle.sysv_wire.specs.declared.reply.ReplyContent.TheVariants as content
use Rattle.sysv_wire.specs.declared.request.Ask.{Ask}
use Rattle.sysv_wire.specs.declared.request.Ask.TheVariants.{Back}
use Rattle.sysv_seats.specs.Held.{LapsesTo, holds_with}
use Rattle.sysv_seats.specs.Holding.{Message, Timed}
use Rattle.sysv_seats.specs.Sits.{zero_moment}

-- 1 for the reply of a hold with a message.
abbrev pub gives : ReplyContent → ℕ
gives (content.Hold mtype) = 1
gives answer = 0

-- 1 for the reply that a message was spent.
abbrev pub spends : ReplyContent → ℕ
spends content.Done = 1
spends answer = 0

abbrev pub given_by : RequestOutcome → ℕ
given_by (Reply answer) = gives answer.result
given_by (Got delivery) = 0
given_by Left = 0

abbrev pub spent_by : RequestOutcome → ℕ
spent_by (Reply answer) = spends answer.result
spent_by (Got delivery) = 0
spent_by Left = 0

-- The number of messages that holds gave in these calls, and of those that were spent.
abbrev pub given_in : List Call → ℕ
given_in [] = 0
given_in (call ∷ calls) = given_by call.outcome + given_in calls

abbrev pub spent_in : List Call → ℕ
spent_in [] = 0
spent_in (call ∷ calls) = spent_by call.outcome + spent_in calls

-- 1 for the reply of a back that found this message held.
abbrev pub returned_by : Ask → RequestOutcome → Option Message → ℕ
returned_by Back (Reply answer) (Some message) = 1
returned_by ask outcome held = 0

-- The number of messages that these calls gave back. Those whose time was over are not among them.
abbrev pub returned_in : (cred : Cred) (old : Timed Pass) (calls : List Call) (new : Timed Pass) →
    Leads (holds_with zero_moment ⊤) cred old calls new → ℕ
returned_in cred old [] new leads = 0
returned_in cred old (call ∷ calls) new leads =
    returned_by call.request.ask call.outcome leads.1.0.holder.message + returned_in cred leads.0 calls new leads.2

-- 1 if a message is held.
abbrev pub held_count : Option Message → ℕ
held_count None = 0
held_count (Some message) = 1

-- Each message that was held before these calls, or that a hold of them gave, was spent or given back by one of them,
-- or its time was over and a send of it had a reply, or it is held after them. These are the calls of a client: every
-- time is 0, and the client may leave.
abbrev pub EachMessageIsSpentOrHeld : Type 0
EachMessageIsSpentOrHeld = (cred : Cred) (old : Timed Pass) (calls : List Call) (settled new : Timed Pass) →
    (leads : Leads (holds_with zero_moment ⊤) cred old calls settled) → LapsesTo zero_moment settled new →
    held_count old.holder.message + given_in calls + length old.late
    ≡ spent_in calls + returned_in cred old calls settled leads + length new.late + held_count new.holder.message
