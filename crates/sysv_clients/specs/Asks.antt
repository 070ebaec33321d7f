-- What a command requests of a server (this project's programs): first a hello, and then the calls
-- of its task, in order. A call names its queue by the identifier that the msgget before it
-- returned. The rows that are requested are those of the slots that the reply to the hello states.
use Rattle.std.specs.Prelude.{ℕ, ℤ, Bool, true, false, List, [], ◌∷◌, Option, None, Some, map, min, if◌then◌else◌}
use Rattle.std.specs.List.{range_with_len}
use Rattle.std.specs.Int.RustNames.{bit_or}
use Rattle.sysv_clients.specs.declared.command.Command.{Command}
use Rattle.sysv_clients.specs.declared.command.Target.{Target}
use Rattle.sysv_clients.specs.declared.command.Target.TheVariants.{Id, Key, All}
use Rattle.sysv_clients.specs.declared.command.Making.{Making}
use Rattle.sysv_clients.specs.declared.command.Receipt.{Receipt}
use Rattle.sysv_clients.specs.declared.command.Task.{Task}
use Rattle.sysv_clients.specs.declared.command.Task.TheVariants.{List as Table, Show, Remove, Make, Send, Receive}
use Rattle.sysv_clients.specs.declared.command.TheConstants.{MAX_ROWS}
use Rattle.sysv_model.specs.declared.cred.Cred.{Cred}
use Rattle.sysv_model.specs.declared.flags.Flags.{Flags}
use Rattle.sysv_model.specs.declared.flags.TheConstants.Flags.{IPC_CREAT, IPC_EXCL, IPC_NOWAIT, MSG_EXCEPT}
use Rattle.sysv_model.specs.declared.flags.TheConstants.Flags.{MSG_NOERROR, USER_READ, USER_WRITE}
use Rattle.sysv_wire.specs.declared.frame.Version.{Version}
use Rattle.sysv_wire.specs.declared.frame.Version.TheVariants.{Two}
use Rattle.sysv_wire.specs.declared.request.Ask.{Ask}
use Rattle.sysv_wire.specs.declared.request.Ask.TheVariants.{Hello, Get, Snd, Rcv, Stat, Set, Rm, Row, Hold, Done, Back}
use Rattle.sysv_wire.specs.declared.request.Request.{Request}

-- A request of a client in this version.
abbrev pub request_in : Version → Ask → Request
request_in version ask = record { version = version; ask = ask }

-- A request of a client that holds no messages. All are of version 2.
abbrev pub request_of : Ask → Request
request_of ask = request_in Two ask

-- No flags.
abbrev pub no_flags : Flags
no_flags = record { 0 = 0 }

-- The flags with these bits besides others.
abbrev pub with_flags : Flags → ℕ → Flags
with_flags flags bits = record { 0 = bit_or flags.0 bits }

-- The flags to create a queue with mode 0600 if there is none.
abbrev pub flags_to_create : Flags
flags_to_create = record { 0 = bit_or (bit_or IPC_CREAT.0 USER_READ.0) USER_WRITE.0 }

-- The flags to make a queue of this mode, which must not exist.
abbrev pub flags_to_make : ℕ → Flags
flags_to_make mode = record { 0 = bit_or (bit_or IPC_CREAT.0 IPC_EXCL.0) mode }

-- The flags to find a queue: IPC_CREAT with a mode, or none.
abbrev pub flags_to_find : Bool → ℕ → Flags
flags_to_find create mode = if create then record { 0 = bit_or IPC_CREAT.0 mode } else no_flags

-- The flags of a send: IPC_NOWAIT or none.
abbrev pub flags_to_wait : Bool → Flags
flags_to_wait nowait = if nowait then IPC_NOWAIT else no_flags

-- The flags of a receive: those of IPC_NOWAIT, MSG_NOERROR and MSG_EXCEPT that the command has.
abbrev pub flags_to_receive : (nowait noerror except : Bool) → Flags
flags_to_receive nowait noerror except =
    let waits = flags_to_wait nowait in
    let cuts = if noerror then with_flags waits MSG_NOERROR.0 else waits in
    if except then with_flags cuts MSG_EXCEPT.0 else cuts

-- The requests for the rows of this number of slots, or of MAX_ROWS slots if that is fewer.
unfoldable pub row_asks : ℕ → List Ask
row_asks slots = map (λ slot. Row slot) (range_with_len 0 (min slots MAX_ROWS))

-- The requests of an ipcrm of one queue. An ipcrm of all queues is a session of its own.
abbrev pub remove_asks : Target → ℤ → List Ask
remove_asks (Id id) found = Rm id ∷ []
remove_asks (Key key) found = Get key no_flags ∷ Rm found ∷ []
remove_asks All found = []

-- The request that sets the limit of a new queue, if it is to be set.
abbrev pub limit_asks : Cred → Making → ℤ → Option ℕ → List Ask
limit_asks owner making found (Some qbytes) =
    Set found (record { uid = owner.uid; gid = owner.gid; mode = making.mode; qbytes = qbytes }) ∷ []
limit_asks owner making found None = []

-- The requests of an ipcmk of this user and group.
abbrev pub make_asks : Cred → Making → ℤ → List Ask
make_asks owner making found = Get making.key (flags_to_make making.mode) ∷ limit_asks owner making found making.qbytes

-- The request of a rcv that finds the queue.
abbrev pub find_ask : Receipt → Ask
find_ask receipt = Get receipt.key (flags_to_find receipt.create receipt.mode)

-- The request of a rcv that receives a message.
abbrev pub receive_ask : Receipt → ℤ → Ask
receive_ask receipt found =
    Rcv found receipt.size receipt.mtype (flags_to_receive receipt.nowait receipt.noerror receipt.except)

-- The request of a rcv that holds a message, for as long as the session lasts.
abbrev pub hold_ask : Receipt → ℤ → Ask
hold_ask receipt found =
    Hold found receipt.size receipt.mtype (flags_to_receive receipt.nowait receipt.noerror receipt.except) 0

-- The requests of a rcv of one message.
abbrev pub receive_asks : Receipt → ℤ → List Ask
receive_asks receipt found = find_ask receipt ∷ receive_ask receipt found ∷ []

-- The requests of a task of this user and group, after the hello.
abbrev pub task_asks : Cred → Task → ℕ → ℤ → List Ask
task_asks owner (Table format) slots found = row_asks slots
task_asks owner (Show id) slots found = Stat id ∷ []
task_asks owner (Remove target) slots found = remove_asks target found
task_asks owner (Make making) slots found = make_asks owner making found
task_asks owner (Send key text mtype nowait) slots found =
    Get key flags_to_create ∷ Snd found mtype (flags_to_wait nowait) ∷ []
task_asks owner (Receive receipt) slots found = receive_asks receipt found

-- All requests of a command, if the reply to its hello states this number of slots and its msgget
-- returns this identifier.
abbrev pub asks_of : Command → ℕ → ℤ → List Ask
asks_of command slots found = Hello command.cred ∷ task_asks command.cred command.task slots found

-- The request is a msgrcv.
abbrev pub is_receive : Ask → Bool
is_receive (Rcv id size mtype flags) = true
is_receive (Hello cred) = false
is_receive (Get key flags) = false
is_receive (Snd id mtype flags) = false
is_receive (Stat id) = false
is_receive (Set id to) = false
is_receive (Rm id) = false
is_receive (Row slot) = false
is_receive (Hold id size mtype flags seconds) = false
is_receive Done = false
is_receive Back = false

-- The body that a command sends.
abbrev pub text_of : Task → List ℕ
text_of (Table format) = []
text_of (Show id) = []
text_of (Remove target) = []
text_of (Make making) = []
text_of (Send key text mtype nowait) = text.now
text_of (Receive receipt) = []
