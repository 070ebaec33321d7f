-- How a session answers a request (this project's profile): it writes the outcome, or ends if the
-- call was left.
use Rattle.std.specs.Prelude.{◌≡◌, ◌+◌, ⊤, ℕ, List, Option, Result, Ok, Err}
use Rattle.std.specs.Io.KnownBytes.{Appends}
use Rattle.sysv_queue.specs.Tally.{Tallied}
use Rattle.sysv_session.specs.declared.handler.RequestOutcome.{RequestOutcome}
use Rattle.sysv_session.specs.declared.handler.RequestOutcome.TheVariants as outcomes
use Rattle.sysv_session.specs.declared.served.End.{End}
use Rattle.sysv_session.specs.declared.served.End.TheVariants.{Ended, NoMemory, NoHello, Fault, Write, Bound, Left}
use Rattle.sysv_session.specs.declared.served.End.TheVariants.{Reset}
use Rattle.sysv_session.specs.Answers.{IsReplied, messages_in, outcome_encoding}
use Rattle.sysv_wire.specs.declared.frame.Version.{Version}
use Rattle.sysv_model.specs.Writing.{AppendsPrefix}

-- The tally with one more message written, if the outcome is a message.
abbrev pub one_written : RequestOutcome → Tallied → Tallied
one_written outcome tally = record { written = tally.written + messages_in outcome; lost = tally.lost }

-- The tally with one more message lost, if the outcome is a message.
abbrev pub one_lost : RequestOutcome → Tallied → Tallied
one_lost outcome tally = record { written = tally.written; lost = tally.lost + messages_in outcome }

-- The outcome was written whole as its frame of this version, and a message in it counted as
-- written. If the writer failed, a prefix was written, and a message in it counted as lost. For a
-- call that was left nothing was written and nothing was counted.
abbrev pub Answers : Result ⊤ End → Version → RequestOutcome → List ℕ → (old new : Option (List ℕ)) →
    (before after : Tallied) → Type 0
Answers (Ok done) version outcome given old new before after =
    IsReplied outcome × Appends old new (outcome_encoding version outcome given)
    × (after ≡ one_written outcome before)
Answers (Err Write) version outcome given old new before after =
    IsReplied outcome × AppendsPrefix old new (outcome_encoding version outcome given)
    × (after ≡ one_lost outcome before)
Answers (Err Ended) version outcome given old new before after = ⊥
Answers (Err NoMemory) version outcome given old new before after = ⊥
Answers (Err NoHello) version outcome given old new before after = ⊥
Answers (Err (Fault fault)) version outcome given old new before after = ⊥
Answers (Err Bound) version outcome given old new before after = ⊥
Answers (Err Left) version outcome given old new before after =
    (outcome ≡ outcomes.Left) × (new ≡ old) × (after ≡ before)
Answers (Err Reset) version outcome given old new before after = ⊥
