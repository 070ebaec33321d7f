-- The worked run: one run of a world of 16 actors from its opening, with each answer in its place.
-- Actor 1 requests a message when there is none, then sends a message of type 5 with the body
-- "hello" and one of type 2 with an empty body. Actor 2 then receives three times. At last actor 1
-- sends a message of type 0, which is refused at its start. Every call has IPC_NOWAIT. This shows
-- that the definitions of a world, its steps and its legal replies have a run, and which one.
--
-- It is followed by replies that are not legal at its turns, and by two messages that fill a queue
-- to the byte.
use Rattle.std.specs.Prelude.{◌≡◌, ◌≢◌, ℕ, ◌+◌, pos, List, [], ◌∷◌, ◌++◌, true, false, length, take, codes}
use Rattle.sysv_model.specs.declared.cred.Cred.{Cred}
use Rattle.sysv_model.specs.declared.errno.Errno.TheVariants.{EINVAL, ENOMSG}
use Rattle.sysv_model.specs.declared.flags.Flags.{Flags}
use Rattle.sysv_model.specs.declared.flags.TheConstants.Flags.{IPC_NOWAIT}
use Rattle.sysv_model.specs.declared.selector.Selector.TheVariants.{Any}
use Rattle.sysv_model.specs.Message.{Message}
use Rattle.sysv_model.specs.declared.limits.TheConstants.{IPC_PRIVATE, MESSAGE_BYTES}
use Rattle.sysv_model.specs.History.{Actor, Call, Install, Look, Place, Take, Reply, Installed, Gone, Full, Fits}
use Rattle.sysv_model.specs.History.{Accepted, NoMatch, Taken, Entry, History}
use Rattle.sysv_model.specs.Pool.{PoolCall, Reserve, Release, PoolReply, Reserved, Released}
use Rattle.sysv_model.specs.Turn.{AtSlot, AtPool, Turn}
use Rattle.sysv_queue.specs.LegalReply.{IsLegalReply}
use Rattle.sysv_steps.specs.Call.{SystemCall, Msgsnd, Msgrcv}
use Rattle.sysv_steps.specs.State.{Ending, Zero, Got, Refused}
use Rattle.sysv_steps.specs.Begin.{is_refused}
use Rattle.sysv_core.specs.World.{World, Opening, Invocation, Response, Transition, Preset, Start, Step, opening}
use Rattle.sysv_core.specs.World.{preset_cred}
use Rattle.sysv_core.specs.World.{preset_flags, with_preset_turns}
use Rattle.sysv_core.specs.Run.{Leads}

abbrev pub sender : Cred
sender = record { uid = 1000; gid = 1000; pid = 101 }

abbrev pub receiver : Cred
receiver = record { uid = 1000; gid = 1000; pid = 102 }

abbrev pub nowait : Flags
nowait = IPC_NOWAIT

abbrev pub hello : List ℕ
hello = codes "hello"

-- The calls.
abbrev pub receive_up_to_100 : SystemCall
receive_up_to_100 = Msgrcv (pos 0) 100 (pos 0) nowait

abbrev pub send_hello : SystemCall
send_hello = Msgsnd (pos 0) (pos 5) nowait hello

abbrev pub send_nothing : SystemCall
send_nothing = Msgsnd (pos 0) (pos 2) nowait []

abbrev pub send_typeless : SystemCall
send_typeless = Msgsnd (pos 0) (pos 0) nowait hello

-- What happens: each call has its start and its steps. A receive has one step, or two if it takes a
-- message; a send has three.
abbrev pub one_starts : SystemCall → Transition
one_starts call = Start 1 sender call

abbrev pub two_starts : SystemCall → Transition
two_starts call = Start 2 receiver call

abbrev pub steps : ℕ → Transition
steps actor = Step actor 0

abbrev pub the_transitions : List Transition
the_transitions =
    Preset
    ∷ one_starts receive_up_to_100 ∷ steps 1
    ∷ one_starts send_hello ∷ steps 1 ∷ steps 1 ∷ steps 1
    ∷ one_starts send_nothing ∷ steps 1 ∷ steps 1 ∷ steps 1
    ∷ two_starts receive_up_to_100 ∷ steps 2 ∷ steps 2
    ∷ two_starts receive_up_to_100 ∷ steps 2 ∷ steps 2
    ∷ two_starts receive_up_to_100 ∷ steps 2
    ∷ one_starts send_typeless ∷ []

-- The calls, each with the step number at which it was started and the released count at its start.
abbrev pub one_calls : (start : ℕ) → SystemCall → Invocation
one_calls start call = record { who = Actor 1 start; cred = sender; asked = call; released = 0 }

abbrev pub two_calls : (start released : ℕ) → SystemCall → Invocation
two_calls start released call = record { who = Actor 2 start; cred = receiver; asked = call; released = released }

abbrev pub last_call : Invocation
last_call = record { who = Actor 1 18; cred = sender; asked = send_typeless; released = 2 }

abbrev pub the_calls : List Invocation
the_calls =
    one_calls 0 receive_up_to_100
    ∷ one_calls 2 send_hello
    ∷ one_calls 6 send_nothing
    ∷ two_calls 10 0 receive_up_to_100
    ∷ two_calls 13 1 receive_up_to_100
    ∷ two_calls 16 2 receive_up_to_100
    ∷ last_call ∷ []

-- The endings, in order.
abbrev pub one_ends : (start : ℕ) → SystemCall → Ending → Response
one_ends start call ending = record { call = one_calls start call; ending = ending }

abbrev pub two_ends : (start released : ℕ) → SystemCall → Ending → Response
two_ends start released call ending = record { call = two_calls start released call; ending = ending }

abbrev pub last_ends : Ending → Response
last_ends ending = record { call = last_call; ending = ending }

abbrev pub the_answers : List Response
the_answers =
    one_ends 0 receive_up_to_100 (Refused ENOMSG)
    ∷ one_ends 2 send_hello Zero
    ∷ one_ends 6 send_nothing Zero
    ∷ two_ends 10 0 receive_up_to_100 (Got (pos 5) hello)
    ∷ two_ends 13 1 receive_up_to_100 (Got (pos 2) [])
    ∷ two_ends 16 2 receive_up_to_100 (Refused ENOMSG)
    ∷ last_ends (Refused EINVAL) ∷ []

-- The two messages, and the requests at the slot with their replies.
abbrev pub hello_message : Message
hello_message = record { number = 0; sender = 101; mtype = pos 5; bytes = hello }

abbrev pub empty_message : Message
empty_message = record { number = 1; sender = 101; mtype = pos 2; bytes = [] }

abbrev pub turn_of : (actor start : ℕ) → Call → Reply → Entry
turn_of actor start call reply = record { who = Actor actor start; call = call; reply = reply }

abbrev pub take_by : Cred → Call
take_by cred = Take (pos 0) cred Any 100 false 0

abbrev pub look_for : ℕ → Call
look_for size = Look (pos 0) sender size

abbrev pub place_hello : Call
place_hello = Place (pos 0) sender (pos 5) hello 0

abbrev pub place_nothing : Call
place_nothing = Place (pos 0) sender (pos 2) [] 0

abbrev pub preset_call : Call
preset_call = Install (pos 0) IPC_PRIVATE preset_cred preset_flags.0 0

-- The turns of the calls at the slot; the turn of the preset precedes them.
abbrev pub the_later_entries : History
the_later_entries =
    turn_of 1 0 (take_by sender) (NoMatch 0)
    ∷ turn_of 1 2 (look_for 5) Fits
    ∷ turn_of 1 2 place_hello (Accepted 0)
    ∷ turn_of 1 6 (look_for 0) Fits
    ∷ turn_of 1 6 place_nothing (Accepted 1)
    ∷ turn_of 2 10 (take_by receiver) (Taken hello_message)
    ∷ turn_of 2 13 (take_by receiver) (Taken empty_message)
    ∷ turn_of 2 16 (take_by receiver) (NoMatch 2) ∷ []

abbrev pub the_entries : History
the_entries = turn_of 0 0 preset_call (Installed true) ∷ the_later_entries

-- A turn at the slot, and one at the pool.
abbrev pub slot_turn : (actor start : ℕ) → Call → Reply → Turn
slot_turn actor start call reply = record { who = Actor actor start; op = AtSlot 0 call reply }

abbrev pub pool_turn : (actor start : ℕ) → PoolCall → PoolReply → Turn
pool_turn actor start call reply = record { who = Actor actor start; op = AtPool call reply }

-- All turns: the three of the preset, and those of the calls. "hello" needs one block, and an empty
-- body needs none.
abbrev pub the_later_turns : List Turn
the_later_turns =
    slot_turn 1 0 (take_by sender) (NoMatch 0)
    ∷ slot_turn 1 2 (look_for 5) Fits
    ∷ pool_turn 1 2 (Reserve 5) (Reserved 1)
    ∷ slot_turn 1 2 place_hello (Accepted 0)
    ∷ slot_turn 1 6 (look_for 0) Fits
    ∷ pool_turn 1 6 (Reserve 0) (Reserved 0)
    ∷ slot_turn 1 6 place_nothing (Accepted 1)
    ∷ slot_turn 2 10 (take_by receiver) (Taken hello_message)
    ∷ pool_turn 2 10 (Release 1) Released
    ∷ slot_turn 2 13 (take_by receiver) (Taken empty_message)
    ∷ pool_turn 2 13 (Release 0) Released
    ∷ slot_turn 2 16 (take_by receiver) (NoMatch 2) ∷ []

abbrev pub the_turns : List Turn
the_turns = with_preset_turns [] ++ the_later_turns

-- A world of 16 actors.
abbrev pub of_16 : Opening
of_16 = record { actors = 16; blocks = 128; first = 0; generation = 0 }

-- The transitions lead from the opening world to a world with these calls and turns, with these
-- endings.
abbrev pub WorkedRun : Type 0
WorkedRun =
    (w : World) × Leads (opening of_16) the_transitions the_answers w × (w.calls ≡ the_calls) × (w.turns ≡ the_turns)

-- The slot's history after this number of turns of the run at the slot.
abbrev pub after_turns : ℕ → History
after_turns count = take count the_entries

-- The replies that are not legal at a turn of the run, by the number of turns at the slot before
-- it.
pub record NoWrongReply : Type 0 where
  -- The identifier is live from the preset on: no call finds it gone.
  pub first_take_gone : ¬ IsLegalReply (after_turns 1) (take_by sender) Gone
  pub look_gone : ¬ IsLegalReply (after_turns 2) (look_for 5) Gone
  pub place_gone : ¬ IsLegalReply (after_turns 3) place_hello Gone
  pub take_gone : ¬ IsLegalReply (after_turns 6) (take_by receiver) Gone
  -- Before anything was sent, no message is taken, and there is room.
  pub taken_early : (m : Message) → ¬ IsLegalReply (after_turns 1) (take_by sender) (Taken m)
  pub look_full : (freed : ℕ) → ¬ IsLegalReply (after_turns 2) (look_for 5) (Full freed)
  pub place_full : (freed : ℕ) → ¬ IsLegalReply (after_turns 3) place_hello (Full freed)
  -- The number of an accepted message is the number of messages accepted before it, and no other.
  pub place_numbered : (number : ℕ) → number ≢ 1 → ¬ IsLegalReply (after_turns 5) place_nothing (Accepted number)
  -- The first receive after the sends takes a message: the first one, as it was sent.
  pub take_none : (arrived : ℕ) → ¬ IsLegalReply (after_turns 6) (take_by receiver) (NoMatch arrived)
  pub take_another : (m : Message) → m ≢ hello_message → ¬ IsLegalReply (after_turns 6) (take_by receiver) (Taken m)
  -- The second receive does not take it again, and the third takes none.
  pub take_again : ¬ IsLegalReply (after_turns 7) (take_by receiver) (Taken hello_message)
  pub take_third : (m : Message) → ¬ IsLegalReply (after_turns 8) (take_by receiver) (Taken m)

-- A body of 8,192 bytes is sent, and one of 8,193 bytes is refused. Two bodies of 8,192 bytes fill
-- the 16,384 bytes of the queue: after the first the second fits, and after both a body of one byte
-- does not fit, while an empty one still does.
abbrev pub send_of : List ℕ → Call
send_of text = Place (pos 0) sender (pos 1) text 0

abbrev pub start_of : List ℕ → SystemCall
start_of text = Msgsnd (pos 0) (pos 1) nowait text

abbrev pub with_first : List ℕ → History
with_first first = after_turns 1 ++ turn_of 1 0 (send_of first) (Accepted 0) ∷ []

abbrev pub with_both : List ℕ → List ℕ → History
with_both first second = with_first first ++ turn_of 1 3 (send_of second) (Accepted 1) ∷ []

pub record FillsExactly (first second : List ℕ) : Type 0 where
  pub starts : is_refused (start_of first) ≡ false
  pub longer_is_refused : (text : List ℕ) → length text ≡ MESSAGE_BYTES + 1 → is_refused (start_of text) ≡ true
  pub first_fits : IsLegalReply (after_turns 1) (send_of first) (Accepted 0)
  pub second_looks : IsLegalReply (with_first first) (look_for MESSAGE_BYTES) Fits
  pub second_fits : IsLegalReply (with_first first) (send_of second) (Accepted 1)
  pub byte_is_too_much : (text : List ℕ) → length text ≡ 1 →
      IsLegalReply (with_both first second) (send_of text) (Full 0)
  pub byte_is_not_placed : (text : List ℕ) (number : ℕ) → length text ≡ 1 →
      ¬ IsLegalReply (with_both first second) (send_of text) (Accepted number)
  pub nothing_fits : IsLegalReply (with_both first second) (send_of []) (Accepted 2)

abbrev pub ExactFit : Type 0
ExactFit =
    (first second : List ℕ) → length first ≡ MESSAGE_BYTES → length second ≡ MESSAGE_BYTES → FillsExactly first second
