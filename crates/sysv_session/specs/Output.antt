-- What a session writes (this project's profile): the reply to the hello and the replies to the
-- calls, in order, and nothing else.
use Rattle.std.specs.Prelude.{◌≡◌, ◌-◌, ℕ, List, [], ◌∷◌, ◌++◌, Option, length, take, map}
use Rattle.std.specs.List.{AllByRecursion, concat}
use Rattle.std.specs.Io.KnownBytes.{Appends}
use Rattle.sysv_queue.specs.Tally.{Tallied, taken_in}
use Rattle.sysv_session.specs.declared.served.End.{End}
use Rattle.sysv_session.specs.declared.served.End.TheVariants.{Ended, NoMemory, NoHello, Fault, Write, Bound, Left}
use Rattle.sysv_session.specs.declared.served.End.TheVariants.{Reset}
use Rattle.sysv_session.specs.declared.handler.RequestOutcome.TheVariants as outcomes
use Rattle.sysv_session.specs.Answers.{IsReplied, outcome_encoding}
use Rattle.sysv_session.specs.Calls.{Call, messages_of}
use Rattle.sysv_wire.specs.declared.frame.Op.TheVariants as op
use Rattle.sysv_wire.specs.declared.frame.Version.{Version}
use Rattle.sysv_wire.specs.declared.frame.Version.TheVariants.{One, Two, Three}
use Rattle.sysv_wire.specs.declared.reply.ReplyContent.{ReplyContent}
use Rattle.sysv_wire.specs.declared.reply.ReplyContent.TheVariants.{Hello, HelloSlots}
use Rattle.sysv_wire.specs.declared.reply.Reply.{Reply}
use Rattle.sysv_wire.specs.Frames.{op_number}
use Rattle.sysv_wire.specs.Replies.{reply_encoding}
use Rattle.sysv_model.specs.Writing.{AppendsPrefix}

-- The result of a hello of this version, with this number of slots.
abbrev pub hello_content : Version → ℕ → ReplyContent
hello_content One slots = Hello
hello_content Two slots = HelloSlots slots
hello_content Three slots = HelloSlots slots

-- The reply to a hello of this version, with this number of slots.
abbrev pub hello_reply : Version → ℕ → Reply
hello_reply version slots = record { version = version; op = op_number op.Hello; result = hello_content version slots }

-- The frame of the reply to a hello.
abbrev pub hello_frame : Version → ℕ → List ℕ
hello_frame version slots = reply_encoding (hello_reply version slots) []

-- The frames of the replies to the calls, in order. A call that was left has no bytes.
abbrev pub frames_of : List Call → List (List ℕ)
frames_of calls = map (λ call. outcome_encoding call.request.version call.outcome call.given) calls

-- None of the calls was left.
abbrev pub AreReplied : List Call → Type 0
AreReplied calls = AllByRecursion (λ call. IsReplied call.outcome) calls

-- The last call was left, and none before it.
abbrev pub IsLastLeft : List Call → Type 0
IsLastLeft calls = (done : List Call) × (last : Call) × (calls ≡ done ++ last ∷ []) × AreReplied done
    × (last.outcome ≡ outcomes.Left)

-- Which calls have replies: all of them, or all but the last if the session ended because that call
-- was left.
abbrev pub Replies : End → List Call → Type 0
Replies Ended calls = AreReplied calls
Replies NoMemory calls = AreReplied calls
Replies NoHello calls = AreReplied calls
Replies (Fault fault) calls = AreReplied calls
Replies Write calls = AreReplied calls
Replies Bound calls = AreReplied calls
Replies Left calls = IsLastLeft calls
Replies Reset calls = AreReplied calls

-- The frames before the last are written whole, and then a prefix of the last, which may be all of
-- it.
abbrev pub BreaksOff : List (List ℕ) → Option (List ℕ) → Option (List ℕ) → Type 0
BreaksOff frames old new = (done : List (List ℕ)) × (last : List ℕ) × (mid : Option (List ℕ))
    × (frames ≡ done ++ last ∷ []) × Appends old mid (concat done) × AppendsPrefix mid new last

-- All the frames are written whole, unless the writer failed.
abbrev pub Writes : End → List (List ℕ) → Option (List ℕ) → Option (List ℕ) → Type 0
Writes Ended frames old new = Appends old new (concat frames)
Writes NoMemory frames old new = Appends old new (concat frames)
Writes NoHello frames old new = Appends old new (concat frames)
Writes (Fault fault) frames old new = Appends old new (concat frames)
Writes Write frames old new = BreaksOff frames old new
Writes Bound frames old new = Appends old new (concat frames)
Writes Left frames old new = Appends old new (concat frames)
Writes Reset frames old new = Appends old new (concat frames)

-- The calls whose replies were written whole: all of them, or all but the last if the writer failed
-- or that call was left.
abbrev pub answered : End → List Call → List Call
answered Ended calls = calls
answered NoMemory calls = calls
answered NoHello calls = calls
answered (Fault fault) calls = calls
answered Write calls = take (length calls - 1) calls
answered Bound calls = calls
answered Left calls = take (length calls - 1) calls
answered Reset calls = calls

-- The tally states the number of messages that the handler returned, and how many of them were
-- written whole.
abbrev pub Tallies : End → List Call → Tallied → Type 0
Tallies why calls tally = (taken_in tally ≡ messages_of calls) × (tally.written ≡ messages_of (answered why calls))
