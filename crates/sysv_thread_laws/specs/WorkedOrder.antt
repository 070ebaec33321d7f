-- A worked order of three passes whose turns interleave. Pass 0 makes a queue. Pass 1 receives,
-- finds no message and waits. Pass 0 sends a message, and pass 1, whose wait is over, takes it. In
-- between, pass 2 lists the queue. Then pass 0 receives and is left at its wait, and at last stops
-- the service: it reads the row, and removes the queue as user 0. A last send of pass 1 is refused
-- at its start and makes no turn. At the end are calls that are not those of the order, and an
-- order that is not legal.
use Rattle.std.specs.Prelude.{ℕ, pos, true, false, List, [], ◌∷◌, ◌++◌, Some, take, codes}
use Rattle.sysv_model.specs.declared.attributes.Row.{Row}
use Rattle.sysv_model.specs.declared.cred.Cred.{Cred}
use Rattle.sysv_model.specs.declared.errno.Errno.TheVariants.{EINVAL, ENOMSG}
use Rattle.sysv_model.specs.declared.flags.Flags.{Flags}
use Rattle.sysv_model.specs.declared.flags.TheConstants.Flags.{IPC_NOWAIT, MSG_NOERROR}
use Rattle.sysv_model.specs.declared.limits.TheConstants.{IPC_PRIVATE}
use Rattle.sysv_model.specs.declared.selector.Selector.TheVariants.{Any}
use Rattle.sysv_model.specs.Message.{Message}
use Rattle.sysv_model.specs.History.{Install, Look, Place, Take, Remove, ReadRow, Installed, Fits, Accepted, NoMatch}
use Rattle.sysv_model.specs.History.{Taken, Discarded, Shown}
use Rattle.sysv_model.specs.Registry.{Begin, Settle, Forget, Made, Changed}
use Rattle.sysv_model.specs.Pool.{Reserve, Release, Reserved, Released}
use Rattle.sysv_model.specs.Turn.{Op, AtSlot, AtRegistry, AtPool}
use Rattle.sysv_objects.specs.LegalOp.{AreLegal}
use Rattle.sysv_steps.specs.Call.{Msgget, Msgsnd, Msgrcv, MsgctlRmid, Receives}
use Rattle.sysv_steps.specs.State.{Receiving, OnArrived, Id, Zero, Got, Refused, State, Waits, Over}
use Rattle.sysv_model.specs.Turns.{Numbered, turns_of}
use Rattle.sysv_thread_laws.specs.Order.{Called, AreAll}
use Rattle.sysv_thread_laws.specs.OrderIsRun.{IsRunWith}
use Rattle.sysv_thread_laws.specs.AtRest.{AreAtRest}

abbrev pub sender : Cred
sender = record { uid = 1000; gid = 1000; pid = 101 }

abbrev pub receiver : Cred
receiver = record { uid = 1000; gid = 1000; pid = 102 }

abbrev pub superuser : Cred
superuser = record { uid = 0; gid = 0; pid = 0 }

abbrev pub hello : List ℕ
hello = codes "hello"

abbrev pub hello_message : Message
hello_message = record { number = 0; sender = 101; mtype = pos 5; bytes = hello }

-- IPC_CREAT and mode 0600.
abbrev pub creating : Flags
creating = record { 0 = 896 }

-- ---- the turns

abbrev pub makes : Op
makes = AtRegistry (Begin IPC_PRIVATE creating) (Made (pos 0))

abbrev pub installs : Op
installs = AtSlot 0 (Install (pos 0) IPC_PRIVATE sender 896 10) (Installed true)

abbrev pub settles : Op
settles = AtRegistry (Settle (pos 0)) (Changed true)

abbrev pub finds_none : Op
finds_none = AtSlot 0 (Take (pos 0) receiver Any 100 true 11) (NoMatch 0)

abbrev pub looks : Op
looks = AtSlot 0 (Look (pos 0) sender 5) Fits

abbrev pub reserves : Op
reserves = AtPool (Reserve 5) (Reserved 1)

abbrev pub the_row : Row
the_row = record { id = pos 0; key = IPC_PRIVATE; uid = 1000; mode = 384; cbytes = 0; qnum = 0 }

abbrev pub reads_row : Op
reads_row = AtSlot 0 ReadRow (Shown (Some the_row))

abbrev pub places : Op
places = AtSlot 0 (Place (pos 0) sender (pos 5) hello 12) (Accepted 0)

abbrev pub takes : Op
takes = AtSlot 0 (Take (pos 0) receiver Any 100 true 13) (Taken hello_message)

abbrev pub finds_no_other : Op
finds_no_other = AtSlot 0 (Take (pos 0) sender Any 100 true 14) (NoMatch 1)

abbrev pub gives_back : Op
gives_back = AtPool (Release 1) Released

abbrev pub discards : Op
discards = AtSlot 0 (Remove (pos 0) superuser) (Discarded [])

abbrev pub forgets : Op
forgets = AtRegistry (Forget (pos 0)) (Changed true)

abbrev pub gives_back_none : Op
gives_back_none = AtPool (Release 0) Released

-- A turn made under this number.
abbrev pub by : ℕ → Op → Numbered
by number op = record { by = number; op = op }

-- The order of all turns.
abbrev pub the_order : List Numbered
the_order =
    by 0 makes ∷ by 0 installs ∷ by 0 settles
    ∷ by 1 finds_none
    ∷ by 0 looks ∷ by 0 reserves
    ∷ by 2 reads_row
    ∷ by 0 places
    ∷ by 1 takes
    ∷ by 0 finds_no_other ∷ by 0 reads_row
    ∷ by 1 gives_back
    ∷ by 0 discards ∷ by 0 forgets ∷ by 0 gives_back_none ∷ []

-- ---- the calls

abbrev pub the_get : Called
the_get = record {
  by = 0;
  cred = sender;
  asked = Msgget IPC_PRIVATE creating;
  released = 0;
  ops = makes ∷ installs ∷ settles ∷ [];
  state = Over (Id (pos 0));
}

abbrev pub the_send : Called
the_send = record {
  by = 0;
  cred = sender;
  asked = Msgsnd (pos 0) (pos 5) IPC_NOWAIT hello;
  released = 0;
  ops = looks ∷ reserves ∷ places ∷ [];
  state = Over Zero;
}

-- The receive of pass 1, in this state.
abbrev pub the_receive : State Receives → Called
the_receive state = record {
  by = 1;
  cred = receiver;
  asked = Msgrcv (pos 0) 100 (pos 0) MSG_NOERROR;
  released = 0;
  ops = finds_none ∷ takes ∷ gives_back ∷ [];
  state = state;
}

-- A send that is refused because its type is 0.
abbrev pub the_refused : Called
the_refused = record {
  by = 1;
  cred = receiver;
  asked = Msgsnd (pos 0) (pos 0) IPC_NOWAIT hello;
  released = 0;
  ops = [];
  state = Over (Refused EINVAL);
}

-- A receive that was left at its wait for a second message.
abbrev pub left_at : Receiving
left_at = record { cred = sender; id = pos 0; selector = Any; size = 100; noerror = true; nowait = false; seen = true }

abbrev pub the_left : Called
the_left = record {
  by = 0;
  cred = sender;
  asked = Msgrcv (pos 0) 100 (pos 0) MSG_NOERROR;
  released = 0;
  ops = finds_no_other ∷ [];
  state = Waits (OnArrived 2 left_at);
}

abbrev pub the_removal : Called
the_removal = record {
  by = 0;
  cred = superuser;
  asked = MsgctlRmid (pos 0);
  released = 0;
  ops = discards ∷ forgets ∷ gives_back_none ∷ [];
  state = Over Zero;
}

-- All calls, with this state of the receive of pass 1.
abbrev pub calls_with : State Receives → List Called
calls_with state = the_get ∷ the_receive state ∷ the_send ∷ the_left ∷ the_removal ∷ the_refused ∷ []

-- All calls of the order.
abbrev pub the_calls : List Called
the_calls = calls_with (Over (Got (pos 5) hello))

-- ---- what is so of them

pub record WorkedOrder : Type 0 where
  -- The order is legal, the calls are all that its passes made, and the order is a run with them.
  pub legal : AreLegal 0 128 (turns_of the_order)
  pub all : AreAll the_order the_calls
  pub run : IsRunWith 0 128 the_order the_calls
  -- At the end no call holds a block, and each row is settled and its queue is live.
  pub at_rest : AreAtRest 0 128 (turns_of the_order)
  -- The receive has no other result.
  pub answered_otherwise : ¬ AreAll the_order (calls_with (Over (Refused ENOMSG)))
  -- No call is left out, and no call precedes one that its pass made earlier.
  pub left_out : ¬ AreAll the_order
      (the_get ∷ the_receive (Over (Got (pos 5) hello)) ∷ the_left ∷ the_removal ∷ the_refused ∷ [])
  pub out_of_turn : ¬ AreAll the_order
      (the_send ∷ the_get ∷ the_receive (Over (Got (pos 5) hello)) ∷ the_left ∷ the_removal ∷ the_refused ∷ [])
  -- No message is taken before it was sent.
  pub taken_early : ¬ AreLegal 0 128 (turns_of (take 4 the_order ++ by 1 takes ∷ []))
