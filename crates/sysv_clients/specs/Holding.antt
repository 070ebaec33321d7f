-- A rcv that holds each message until it was shown (this project's programs): what is requested, how the
-- session ends, and what is shown. Its requests are of version 3. A message is done only after it was
-- shown whole; otherwise the server sends it to its queue again.
use Rattle.std.specs.Prelude.{◌≡◌, ◌⊎◌, ◌<◌, ◌≤◌, ⊤, ℕ, Bool, true, false, List, [], ◌∷◌, ◌++◌, length, Option, None}
use Rattle.std.specs.Prelude.{Result, Ok, Err, flat_map}
use Rattle.std.specs.Io.KnownBytes.{Appends, Consumes}
use Rattle.sysv_clients.specs.declared.fault.ClientFault.{ClientFault}
use Rattle.sysv_clients.specs.declared.fault.ClientFault.TheVariants as fault
use Rattle.sysv_clients.specs.declared.holding.Unheld.{Unheld}
use Rattle.sysv_clients.specs.declared.holding.Unheld.TheVariants.{Fault, Screen, Undone}
use Rattle.sysv_clients.specs.declared.stream.Receiving.{Receiving}
use Rattle.sysv_clients.specs.declared.style.Style.{Style}
use Rattle.sysv_clients.specs.Asks.{hold_ask, request_in}
use Rattle.sysv_clients.specs.Calls.{BreaksPlanIn, Call, FollowsPlan, IsCallDoneIn, MadeIn, id_in, read_in, written_in}
use Rattle.sysv_clients.specs.Dialogue.{ExchangesIn}
use Rattle.sysv_clients.specs.Faults.{fault_line}
use Rattle.sysv_clients.specs.Page.{message_text}
use Rattle.sysv_clients.specs.Stream.{count_of, finding_plan}
use Rattle.sysv_clients.specs.Style.{style_of_receipt}
use Rattle.sysv_model.specs.Writing.{AppendsPrefix}
use Rattle.sysv_wire.specs.declared.frame.Version.TheVariants.{Three}
use Rattle.sysv_wire.specs.declared.reply.ReplyContent.{ReplyContent}
use Rattle.sysv_wire.specs.declared.reply.ReplyContent.TheVariants as content
use Rattle.sysv_wire.specs.declared.request.Ask.{Ask}
use Rattle.sysv_wire.specs.declared.request.Ask.TheVariants.{Done}
use Rattle.sysv_wire.specs.Requests.{request_encoding}

-- The request of each hold, after these requests before the first one.
abbrev pub holding_ask : Receiving → List Call → Ask
holding_ask receiving opened = hold_ask receiving.receipt (id_in opened)

-- What is shown of a result: a message that is held, and nothing of any other.
abbrev pub held_text : Style → ReplyContent → List ℕ → List ℕ
held_text style (content.Hold mtype) given = message_text style mtype given
held_text style (content.Rcv mtype) given = []
held_text style (content.Row row) given = []
held_text style (content.Refused error) given = []
held_text style content.Hello given = []
held_text style (content.HelloSlots slots) given = []
held_text style (content.Get id) given = []
held_text style content.Snd given = []
held_text style (content.Stat stat) given = []
held_text style content.Set given = []
held_text style content.Rm given = []
held_text style content.Done given = []
held_text style content.Back given = []

-- The call is this request, sends no body and was done.
abbrev pub IsMade : Ask → Call → Type 0
IsMade ask call = (call.ask ≡ ask) × (call.text ≡ []) × IsCallDoneIn Three call

-- A message from its hold to its done.
pub record Round : Type 0 where
  pub held : Call
  pub done : Call

-- The message was held by this request, and then was done.
abbrev pub IsRound : Ask → Round → Type 0
IsRound ask round = IsMade ask round.held × IsMade Done round.done

-- Each of these messages was held by this request, and then was done.
abbrev pub AreRounds : Ask → List Round → Type 0
AreRounds ask [] = ⊤
AreRounds ask (round ∷ more) = IsRound ask round × AreRounds ask more

-- The calls for these messages, in order.
abbrev pub calls_of : List Round → List Call
calls_of rounds = flat_map (λ round. round.held ∷ round.done ∷ []) rounds

-- What is shown of a call.
abbrev pub text_by : Style → Call → List ℕ
text_by style call = held_text style call.answer call.given

-- What is shown of these messages, in order.
abbrev pub rounds_text : Style → List Round → List ℕ
rounds_text style rounds = flat_map (λ round. text_by style round.held) rounds

-- The frame of a request, which sends no body.
abbrev pub frame_in_three : Ask → List ℕ
frame_in_three ask = request_encoding (request_in Three ask) []

-- A message was held by this request. What was written is the request, and what was read its reply.
pub record IsHeld (ask : Ask) (held : Call) (left rest taken more : Option (List ℕ)) : Type 0 where
  pub made : IsMade ask held
  pub reads : Consumes left rest (read_in Three (held ∷ []))
  pub writes : Appends taken more (written_in Three (held ∷ []))

-- The screen failed at a message that is held, and took a prefix of it. Then nothing was requested or
-- read: the message is not done.
pub record FailsAtHeld (style : Style) (ask : Ask) (left rest taken more shown after : Option (List ℕ)) : Type 0 where
  pub held : Call
  pub holds : IsHeld ask held left rest taken more
  pub shows : AppendsPrefix shown after (text_by style held)

-- A message that is held was shown whole, and the request that says that it is done was refused or has no
-- reply.
pub record IsUndone (style : Style) (ask : Ask) (why : ClientFault)
    (left rest taken more shown after : Option (List ℕ)) : Type 0 where
  pub held : Call
  pub unread : Option (List ℕ)  -- what the reader had left after the hold
  pub written : Option (List ℕ)  -- what the writer had taken of the hold
  pub holds : IsHeld ask held left unread taken written
  pub shows : Appends shown after (text_by style held)
  pub breaks : ExchangesIn Three (frame_in_three Done) Done (Err why) unread rest written more []

-- The next hold was refused or has no reply.
abbrev pub IsRefused : Ask → ClientFault → (left rest taken more shown after : Option (List ℕ)) → Type 0
IsRefused ask why left rest taken more shown after =
    ExchangesIn Three (frame_in_three ask) ask (Err why) left rest taken more [] × (after ≡ shown)

-- One message was held, shown whole and done, in this order; or how that ended.
abbrev pub HoldsOne : Style → Ask → Result ⊤ Unheld → (left rest taken more shown after : Option (List ℕ)) → Type 0
HoldsOne style ask (Ok done) left rest taken more shown after =
    (round : Round) × IsRound ask round × Consumes left rest (read_in Three (calls_of (round ∷ [])))
    × Appends taken more (written_in Three (calls_of (round ∷ []))) × Appends shown after (text_by style round.held)
HoldsOne style ask (Err (Fault why)) left rest taken more shown after =
    IsRefused ask why left rest taken more shown after
HoldsOne style ask (Err (Screen unshown)) left rest taken more shown after =
    FailsAtHeld style ask left rest taken more shown after
HoldsOne style ask (Err (Undone why)) left rest taken more shown after =
    IsUndone style ask why left rest taken more shown after

-- The requests before the first hold were made, and this is the request of each hold; or one of them ends
-- the session.
abbrev pub FindsToHold : Receiving → Result Ask ClientFault → (left rest taken more : Option (List ℕ)) → Type 0
FindsToHold receiving (Ok ask) left rest taken more =
    (opened : List Call) × MadeIn Three (IsCallDoneIn Three) (finding_plan receiving) opened left rest taken more
    × (finding_plan receiving opened ≡ None) × (ask ≡ holding_ask receiving opened)
FindsToHold receiving (Err why) left rest taken more =
    (opened : List Call) × (unread written : Option (List ℕ))
    × MadeIn Three (IsCallDoneIn Three) (finding_plan receiving) opened left unread taken written
    × BreaksPlanIn Three (finding_plan receiving) opened [] why unread rest written more

-- No hold was requested, since a request before the first one ends the session with this fault.
pub record BreaksBefore (receiving : Receiving) (why : ClientFault) (opened : List Call) (rounds : List Round)
    (left rest taken more shown after : Option (List ℕ)) : Type 0 where
  pub no_rounds : rounds ≡ []
  pub breaks : BreaksPlanIn Three (finding_plan receiving) opened [] why left rest taken more
  pub showed : after ≡ shown

-- Memory was refused before the first request.
pub record IsUnbegun (opened : List Call) (rounds : List Round) (left rest taken more shown after : Option (List ℕ)) :
    Type 0 where
  pub no_calls : opened ≡ []
  pub no_rounds : rounds ≡ []
  pub read : rest ≡ left
  pub wrote : more ≡ taken
  pub showed : after ≡ shown

-- The queue was found, further messages were wanted, and this holds of the next one.
abbrev pub EndsAtNext : Receiving → (opened : List Call) → List Round → Type 0 → Type 0
EndsAtNext receiving opened rounds Ended =
    (finding_plan receiving opened ≡ None) × (length rounds < count_of receiving) × Ended

-- How a session ends after these messages: all were held, shown and done; or a request is refused or has
-- no reply; or the screen failed; or memory was refused.
abbrev pub EndsHolds : Receiving → Result ⊤ Unheld → (opened : List Call) → List Round →
    (left rest taken more shown after : Option (List ℕ)) → Type 0
EndsHolds receiving (Ok done) opened rounds left rest taken more shown after =
    (finding_plan receiving opened ≡ None) × (length rounds ≡ count_of receiving)
    × (rest ≡ left) × (more ≡ taken) × (after ≡ shown)
EndsHolds receiving (Err (Screen unshown)) opened rounds left rest taken more shown after =
    EndsAtNext receiving opened rounds (FailsAtHeld (style_of_receipt receiving.receipt)
    (holding_ask receiving opened) left rest taken more shown after)
EndsHolds receiving (Err (Undone why)) opened rounds left rest taken more shown after =
    EndsAtNext receiving opened rounds (IsUndone (style_of_receipt receiving.receipt)
    (holding_ask receiving opened) why left rest taken more shown after)
EndsHolds receiving (Err (Fault (fault.Refused error))) opened rounds left rest taken more shown after =
    BreaksBefore receiving (fault.Refused error) opened rounds left rest taken more shown after
    ⊎ EndsAtNext receiving opened rounds (IsRefused (holding_ask receiving opened) (fault.Refused error) left rest
    taken more shown after)
EndsHolds receiving (Err (Fault fault.NoReply)) opened rounds left rest taken more shown after =
    BreaksBefore receiving fault.NoReply opened rounds left rest taken more shown after
    ⊎ EndsAtNext receiving opened rounds (IsRefused (holding_ask receiving opened) fault.NoReply left rest
    taken more shown after)
EndsHolds receiving (Err (Fault fault.NoMemory)) opened rounds left rest taken more shown after =
    IsUnbegun opened rounds left rest taken more shown after

-- A session that ended this way. Each message was held, shown whole and then done, one after another, until
-- all had come or the session ended as it says.
pub record HoldsAll (receiving : Receiving) (ended : Result ⊤ Unheld)
    (left rest taken more shown after : Option (List ℕ)) : Type 0 where
  pub opened : List Call  -- the requests before the first hold, with their replies
  pub rounds : List Round  -- the messages that were held, shown and done
  pub unread : Option (List ℕ)  -- what the reader had left after them
  pub written : Option (List ℕ)  -- what the writer had taken of them
  pub showed : Option (List ℕ)  -- what the screen had taken of them
  pub follows : FollowsPlan (IsCallDoneIn Three) (finding_plan receiving) [] opened
  pub are : AreRounds (holding_ask receiving opened) rounds
  pub owed : length rounds ≤ count_of receiving
  pub reads : Consumes left unread (read_in Three (opened ++ calls_of rounds))
  pub writes : Appends taken written (written_in Three (opened ++ calls_of rounds))
  pub shows : Appends shown showed (rounds_text (style_of_receipt receiving.receipt) rounds)
  pub ends : EndsHolds receiving ended opened rounds unread rest written more showed after

-- The screen ended the session.
abbrev pub is_of_output : Result ⊤ Unheld → Bool
is_of_output (Ok done) = false
is_of_output (Err (Fault why)) = false
is_of_output (Err (Screen unshown)) = true
is_of_output (Err (Undone why)) = false

-- The line that reports why a session ended early. It is empty if the screen failed.
abbrev pub unheld_line : Unheld → List ℕ
unheld_line (Fault why) = fault_line why
unheld_line (Screen unshown) = []
unheld_line (Undone why) = fault_line why
