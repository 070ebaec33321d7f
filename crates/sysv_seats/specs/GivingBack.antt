-- How the message that a session held at its end is given back (this project's profile): by a send of the
-- same body with the same type to the same queue, without flags and with the session's credentials. It may
-- wait like any send.
use Rattle.std.specs.Prelude.{◌≡◌, ◌+◌, ◌-◌, ◌^◌, min, ℕ, Bool, true, false, Option, None, Some, length}
use Rattle.sysv_session.specs.declared.handler.RequestOutcome.{RequestOutcome}
use Rattle.sysv_session.specs.declared.handler.RequestOutcome.TheVariants.{Reply, Got, Left}
use Rattle.sysv_model.specs.declared.errno.Errno.TheVariants.{EINVAL, EIDRM}
use Rattle.sysv_wire.specs.declared.reply.ReplyContent.{ReplyContent}
use Rattle.sysv_wire.specs.declared.reply.ReplyContent.TheVariants as content
use Rattle.sysv_seats.specs.declared.returning.Fate.{Fate}
use Rattle.sysv_seats.specs.declared.returning.Fate.TheVariants as fate
use Rattle.sysv_seats.specs.declared.returning.Fated.{Fated}
use Rattle.sysv_seats.specs.declared.returning.Return.{Return}
use Rattle.sysv_seats.specs.declared.returning.Return.TheVariants as come
use Rattle.sysv_seats.specs.declared.returning.Returned.{Returned}
use Rattle.sysv_session.specs.Answers.{IsReplied, is_message}
use Rattle.sysv_service.specs.declared.progress.Progress.{Progress}
use Rattle.sysv_service.specs.declared.progress.Progress.TheVariants as progress
use Rattle.sysv_service.specs.Ran.{Pass}
use Rattle.sysv_steps.specs.declared.send.SendWait.{SendWait}
use Rattle.sysv_wire.specs.declared.frame.Version.TheVariants.{Three}
use Rattle.sysv_wire.specs.declared.request.Ask.{Ask}
use Rattle.sysv_wire.specs.declared.request.Ask.TheVariants.{Snd, Back}
use Rattle.sysv_wire.specs.declared.request.Request.{Request}
use Rattle.sysv_steps.specs.declared.pending.Waiting.{Waiting}
use Rattle.sysv_steps.specs.declared.pending.Waiting.TheVariants.{Send, Receive, Get}
use Rattle.sysv_service.specs.Told.{TellsRow}
use Rattle.sysv_seats.specs.Asked.{ComesFrom, ReadsReleased}
use Rattle.sysv_seats.specs.Holding as holding
use Rattle.sysv_seats.specs.Holding.{Holder, Message, no_flags}
use Rattle.sysv_seats.specs.Parked.{IsParked}
use Rattle.sysv_seats.specs.Sits.{zero_moment}

-- The send that gives the message back, and the number of bytes in its frame.
abbrev pub return_of : Message → Request
return_of message = record { version = Three; ask = Snd message.id message.mtype no_flags }

abbrev pub return_length : Message → ℕ
return_length message = 22 + length message.text

-- The request whose call a request makes, if it is another one: for a back, the send of what is held.
abbrev pub made_by : Option Message → Ask → Ask
made_by (Some message) Back = Snd message.id message.mtype no_flags
made_by held ask = ask

abbrev pub held_length : Option Message → ℕ
held_length None = 0
held_length (Some message) = return_length message

-- The definitions of `Holding`, for a pass.
abbrev pub IsReturn : Message → Pass → RequestOutcome → Pass → Type 0
IsReturn = holding.IsReturn ComesFrom ReadsReleased TellsRow zero_moment

abbrev pub GivesBack : Holder Pass → Option RequestOutcome → Pass → Type 0
GivesBack = holding.GivesBack ComesFrom ReadsReleased TellsRow zero_moment

-- ---- in pieces

-- The message that is held is given back, and its send waits with the pass. The session ended with the pass `start`.
abbrev pub WaitsBack : (start : Pass) → Holder Pass → SendWait → Type 0
WaitsBack start now wait = (message : Message) × (now.message ≡ Some message)
    × IsParked zero_moment message.cred (Snd message.id message.mtype no_flags) message.text start (Send wait) now.at

-- The wait is one of a send.
abbrev pub waits_to_send : Waiting → Bool
waits_to_send (Send wait) = true
waits_to_send (Receive wait) = false
waits_to_send (Get wait) = false

-- What became of a message whose send has this outcome. Its queue is gone if the identifier is none or was removed.
-- A send that was left or that is refused for another reason loses the message.
abbrev pub fate_by : ReplyContent → Fate
fate_by (content.Refused EINVAL) = fate.Discarded
fate_by (content.Refused EIDRM) = fate.Discarded
fate_by (content.Refused why) = fate.Refused
fate_by answer = fate.Sent

abbrev pub fate_of : RequestOutcome → Fate
fate_of (Reply reply) = fate_by reply.result
fate_of (Got delivery) = fate.Refused
fate_of Left = fate.Refused

-- The numbers with one message more.
abbrev pub one_returned : Fate → Returned → Returned
one_returned fate.Sent returns = record returns { sent = min (returns.sent + 1) (2 ^ 64 - 1) }
one_returned fate.Discarded returns = record returns { gone = min (returns.gone + 1) (2 ^ 64 - 1) }
one_returned fate.Refused returns = record returns { gone = min (returns.gone + 1) (2 ^ 64 - 1) }

-- The numbers of each fate, with one message more.
abbrev pub one_fated : Fate → Fated → Fated
one_fated fate.Sent fated = record fated { sent = min (fated.sent + 1) (2 ^ 64 - 1) }
one_fated fate.Discarded fated = record fated { discarded = min (fated.discarded + 1) (2 ^ 64 - 1) }
one_fated fate.Refused fated = record fated { refused = min (fated.refused + 1) (2 ^ 64 - 1) }

-- The same, and the wait of a return, once the return has come so far.
abbrev pub fated_after : Fated → Return → Fated
fated_after fated (come.Waits wait) = fated
fated_after fated come.Nothing = fated
fated_after fated (come.Over what) = one_fated what fated

abbrev pub wait_in : Return → Option SendWait
wait_in (come.Waits wait) = Some wait
wait_in come.Nothing = None
wait_in (come.Over what) = None

-- The return of what was held with the pass `start` has come so far: it waits, or it is over, and nothing is
-- held.
abbrev pub ComesBack : (start : Pass) → Option Message → Return → Holder Pass → Type 0
ComesBack start held (come.Waits wait) after = WaitsBack start after wait × (after.message ≡ held)
ComesBack start held come.Nothing after = (held ≡ None) × (after.at ≡ start) × (after.message ≡ None)
ComesBack start held (come.Over what) after = (message : Message) × (held ≡ Some message)
    × (outcome : RequestOutcome) × IsReplied outcome × IsReturn message start outcome after.at
    × (what ≡ fate_of outcome) × (after.message ≡ None)

-- The return was begun.
abbrev pub GoesBack : Holder Pass → Return → Holder Pass → Type 0
GoesBack before result after = ComesBack before.at before.message result after

-- The return that waited went on, or waits as before.
abbrev pub GoesBackOn : Holder Pass → SendWait → Return → Holder Pass → Type 0
GoesBackOn before wait result after =
    (start : Pass) → WaitsBack start before wait → ComesBack start before.message result after

-- ---- how far a return has come, by how far its send has come

abbrev pub return_by : Progress Waiting RequestOutcome → Return
return_by (progress.Waits (Send wait)) = come.Waits wait
return_by (progress.Waits waiting) = come.Nothing
return_by (progress.Over outcome) = come.Over (fate_of outcome)

-- It is the progress of a send: a wait is one of a send, and an outcome has no message.
abbrev pub IsOfSend : Progress Waiting RequestOutcome → Type 0
IsOfSend (progress.Waits waiting) = waits_to_send waiting ≡ true
IsOfSend (progress.Over outcome) = is_message outcome ≡ false

-- A return that waits was left. What was held is not given back.
abbrev pub EachReturnCanBeLeft : Type 0
EachReturnCanBeLeft = (start : Pass) (now : Holder Pass) (wait : SendWait) (held : Message) →
    now.message ≡ Some held → WaitsBack start now wait → IsReturn held start Left now.at
