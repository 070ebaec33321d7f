-- The tally of a world (this project's profile): the messages that its answers returned are counted
-- as written, and none as lost.
use Rattle.std.specs.Prelude.{ℕ, List, cond, count_by}
use Rattle.sysv_queue.specs.Tally.{Tallied}
use Rattle.sysv_steps.specs.Answered.{is_got}
use Rattle.sysv_core.specs.declared.event.Answer.{Answer}
use Rattle.sysv_core.specs.declared.event.Stepped.{Stepped}
use Rattle.sysv_core.specs.declared.event.Stepped.TheVariants as stepped

-- The tally of no messages.
abbrev pub none_taken : Tallied
none_taken = record { written = 0; lost = 0 }

-- The number of messages that an event returned: 1 if it ended a receive that succeeded, else 0.
abbrev pub messages_given : Stepped → ℕ
messages_given stepped.Nothing = 0
messages_given (stepped.Answer answer) = cond (is_got answer.result) 1 0
messages_given stepped.Worn = 0

-- The number of messages that a list of answers returned.
abbrev pub messages_in : List Answer → ℕ
messages_in answers = count_by (λ (a : Answer). is_got a.result) answers
