-- What the answer law admits and refuses, at the send of "hello" in the worked run: the send
-- started at step number 2, looked, got a block, placed its body and returned 0.
use Rattle.std.specs.Prelude.{ℕ, pos, List, [], ◌∷◌, ◌++◌, true, Some, All}
use Rattle.sysv_model.specs.declared.errno.Errno.TheVariants.{EAGAIN}
use Rattle.sysv_model.specs.Message.{Message}
use Rattle.sysv_model.specs.History.{Actor, Remove, Fits, Accepted, Full, Discarded}
use Rattle.sysv_model.specs.Pool.{Reserve, Reserved}
use Rattle.sysv_model.specs.Turn.{Op, AtSlot, AtPool}
use Rattle.sysv_steps.specs.Call.{Sends}
use Rattle.sysv_steps.specs.State.{AtReserve, Zero, Refused, State, Goes, Over}
use Rattle.sysv_steps.specs.Played.{Plays}
use Rattle.sysv_core.specs.World.{World, Invocation, opening, with_actor, begun, preset_who, preset_cred, preset_begin}
use Rattle.sysv_core.specs.World.{preset_install, preset_settle, with_preset_turns}
use Rattle.sysv_core.specs.AnswerLaw.{Outcome, AreInTheirCalls, IsMade}
use Rattle.sysv_core.specs.WorkedRun.{hello, send_hello, place_hello, look_for, one_calls, one_ends, the_calls}
use Rattle.sysv_core.specs.WorkedRun.{the_turns, the_answers, of_16}

-- The call.
abbrev pub the_send : Invocation
the_send = one_calls 2 send_hello

-- The world after the run: every actor is idle.
abbrev pub the_end : World
the_end = record {
  turns = the_turns;
  calls = the_calls;
  actors = (opening of_16).actors;
  steps = 19;
  blocks = 128;
  generation = 0;
}

-- The state of the call after its look.
abbrev pub still_reserving : State Sends
still_reserving = Goes (AtReserve record {
  cred = the_send.cred;
  id = pos 0;
  mtype = pos 5;
  text = hello;
  nowait = true;
  released = 0;
  seen = true;
})

-- The same world, but actor 1 is still in that call, in that state.
abbrev pub going_on : World
going_on = record the_end {
  actors = with_actor (opening of_16).actors 1 (Some record { call = the_send; state = still_reserving });
}

-- A world in which the send is pending after one look for this number of bytes.
abbrev pub looking : ℕ → World
looking size = record {
  turns = with_preset_turns [] ++ record { who = the_send.who; op = AtSlot 0 (look_for size) Fits } ∷ [];
  calls = the_send ∷ [];
  actors = with_actor (opening of_16).actors 1 (Some record { call = the_send; state = still_reserving });
  steps = 4;
  blocks = 128;
  generation = 0;
}

-- The world after a look for 5 bytes, but the actor of this number is in that call.
abbrev pub looked_by : ℕ → World
looked_by actor = record (looking 5) {
  actors = with_actor (opening of_16).actors actor (Some record { call = the_send; state = still_reserving });
}

-- The look of the send; its reservation and its place follow.
abbrev pub look_fits : Op
look_fits = AtSlot 0 (look_for 5) Fits

abbrev pub gets_a_block : Op
gets_a_block = AtPool (Reserve 5) (Reserved 1)

abbrev pub accepts : ℕ → Op
accepts number = AtSlot 0 place_hello (Accepted number)

-- What the law admits and refuses.
pub record WorkedAnswers : Type 0 where
  -- The call plays its own turns to the ending that it has.
  pub plays : Plays (begun the_send) (look_fits ∷ gets_a_block ∷ accepts 0 ∷ []) (Over Zero)
  pub admitted : Outcome the_end the_answers the_send
  -- A send that found the queue full does not return 0.
  pub full_sent : ¬ Plays (begun the_send) (AtSlot 0 (look_for 5) (Full 0) ∷ []) (Over Zero)
  -- A call that is over has one ending, the one of its turns, and its actor is not in it.
  pub unanswered : ¬ Outcome the_end [] the_send
  pub answered_wrongly : ¬ Outcome the_end (one_ends 2 send_hello (Refused EAGAIN) ∷ []) the_send
  pub answered_twice : ¬ Outcome the_end (the_answers ++ one_ends 2 send_hello Zero ∷ []) the_send
  pub goes_on : ¬ Outcome going_on the_answers the_send
  -- A pending call requests room for the size of its own body, and for no other size.
  pub looks : Outcome (looking 5) [] the_send
  pub looks_otherwise : ¬ Outcome (looking 6) [] the_send
  -- An actor is in a call that it started: in no call that was not started, and in no other
  -- actor's.
  pub its_own : AreInTheirCalls (looking 5)
  pub not_started : ¬ AreInTheirCalls (record (looking 5) { calls = [] })
  pub of_another : ¬ AreInTheirCalls (looked_by 2)
  -- A turn that no call made is refused.
  pub by_nobody : (op : Op) → ¬ IsMade the_calls (record { who = Actor 3 0; op = op })
  -- A preset makes its three turns, and no others: no look, and no removal of its queue.
  pub by_preset : All (λ (op : Op). IsMade [] (record { who = preset_who; op = op }))
      (preset_begin ∷ preset_install ∷ preset_settle ∷ [])
  pub by_no_preset : ¬ IsMade the_calls (record { who = preset_who; op = look_fits })
  pub removed_by_no_preset : (messages : List Message) →
      ¬ IsMade the_calls
      (record { who = preset_who; op = AtSlot 0 (Remove (pos 0) preset_cred) (Discarded messages) })
