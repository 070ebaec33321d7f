-- An ipcrm of all queues (this project's programs): it requests the row of each slot, and removes
-- each queue that it finds there.
use Rattle.std.specs.Prelude.{◌≡◌, ◌⊎◌, ⊤, ℕ, ℤ, ◌+◌, Bool, true, false, List, [], ◌∷◌, ◌++◌, Option, None, Some}
use Rattle.std.specs.Prelude.{Result, Ok, Err, flat_map, fold, slice_get, if◌then◌else◌}
use Rattle.sysv_clients.specs.declared.clearing.Clearing.{Clearing}
use Rattle.sysv_clients.specs.declared.clearing.Refusal.{Refusal}
use Rattle.sysv_clients.specs.declared.fault.ClientFault.{ClientFault}
use Rattle.sysv_clients.specs.declared.fault.ClientFault.TheVariants as fault
use Rattle.sysv_clients.specs.Asks.{row_asks}
use Rattle.sysv_clients.specs.Calls.{BreaksPlan, Call, IsCallDone, Made, Plan}
use Rattle.sysv_clients.specs.Dialogue.{slots_after}
use Rattle.sysv_model.specs.declared.cred.Cred.{Cred}
use Rattle.sysv_model.specs.declared.errno.Errno.{Errno}
use Rattle.sysv_model.specs.declared.errno.Errno.TheVariants as error
use Rattle.sysv_wire.specs.declared.reply.ReplyContent.{ReplyContent}
use Rattle.sysv_wire.specs.declared.reply.ReplyContent.TheVariants as content
use Rattle.sysv_wire.specs.declared.request.Ask.{Ask}
use Rattle.sysv_wire.specs.declared.request.Ask.TheVariants.{Hello, Get, Snd, Rcv, Stat, Set, Rm, Row, Hold, Done, Back}

-- The clearing after the reply to the hello, which states the number of slots.
abbrev pub begun : ReplyContent → Clearing
begun answer = record { slots = slots_after 0 answer; slot = 0; found = None }

-- The identifier of the queue in a row that a reply states, if it is such a reply.
abbrev pub id_of_row : ReplyContent → Option ℤ
id_of_row (content.Row (Some row)) = Some row.id
id_of_row (content.Row None) = None
id_of_row (content.Refused why) = None
id_of_row content.Hello = None
id_of_row (content.HelloSlots slots) = None
id_of_row (content.Get id) = None
id_of_row content.Snd = None
id_of_row (content.Rcv mtype) = None
id_of_row (content.Stat stat) = None
id_of_row content.Set = None
id_of_row content.Rm = None
id_of_row content.Done = None
id_of_row content.Back = None
id_of_row (content.Hold mtype) = None

-- The clearing after one more reply: to a removal if a queue was found, and otherwise to the request
-- of a row.
abbrev pub move : (slots slot : ℕ) → Option ℤ → ReplyContent → Clearing
move slots slot (Some id) answer = record { slots = slots; slot = slot; found = None }
move slots slot None answer = record { slots = slots; slot = slot + 1; found = id_of_row answer }

abbrev pub moved : Clearing → ReplyContent → Clearing
moved clearing answer = move clearing.slots clearing.slot clearing.found answer

-- What is requested next: the removal of the queue that was found, or the row of the next slot.
abbrev pub ask_next : (slots slot : ℕ) → Option ℤ → Option Ask
ask_next slots slot (Some id) = Some (Rm id)
ask_next slots slot None = slice_get (row_asks slots) slot

abbrev pub clearing_ask : Clearing → Option Ask
clearing_ask clearing = ask_next clearing.slots clearing.slot clearing.found

-- What is requested after these calls.
abbrev pub clearing_plan : Cred → Plan
clearing_plan cred [] = Some (Hello cred)
clearing_plan cred (first ∷ more) =
    clearing_ask (fold (λ clearing call. moved clearing call.answer) (begun first.answer) more)

-- The request of a call was done, or it is a removal that the server refused.
abbrev pub IsTried : Call → Type 0
IsTried call = IsCallDone call
    ⊎ ((id : ℤ) × (why : Errno) × (call.ask ≡ Rm id) × (call.answer ≡ content.Refused why) × (call.given ≡ []))

-- The queue is gone: another client removed it.
abbrev pub is_gone : Errno → Bool
is_gone error.EINVAL = true
is_gone error.EIDRM = true
is_gone error.EPERM = false
is_gone error.ENOENT = false
is_gone error.E2BIG = false
is_gone error.EAGAIN = false
is_gone error.EACCES = false
is_gone error.EEXIST = false
is_gone error.ENOSPC = false
is_gone error.ENOMSG = false
is_gone error.EOVERFLOW = false

-- The refusal that is reported of a removal, none if the queue is gone.
abbrev pub refusal_by : ℤ → Errno → List Refusal
refusal_by id why = if is_gone why then [] else record { id = id; error = why } ∷ []

-- What became of a request with this outcome, and the refusals that were reported. A removal that
-- was refused has an answer too.
abbrev pub Tries : Ask → Result ReplyContent ClientFault → Result ReplyContent ClientFault →
    (before after : List Refusal) → Type 0
Tries ask outcome (Ok answer) before after =
    ((outcome ≡ Ok answer) × (after ≡ before))
    ⊎ ((id : ℤ) × (why : Errno) × (ask ≡ Rm id) × (outcome ≡ Err (fault.Refused why))
    × (answer ≡ content.Refused why) × (after ≡ before ++ refusal_by id why))
Tries ask outcome (Err given) before after =
    ((outcome ≡ Err given) × (after ≡ before))
    ⊎ ((id : ℤ) × (why : Errno) × (ask ≡ Rm id) × (outcome ≡ Err (fault.Refused why)) × (given ≡ fault.NoMemory))

-- What is reported of a request and the result in its reply: a removal that was refused.
abbrev pub refused_by : Ask → ReplyContent → List Refusal
refused_by (Rm id) answer = refusal_in id answer
  where
    refusal_in : ℤ → ReplyContent → List Refusal
    refusal_in id (content.Refused why) = refusal_by id why
    refusal_in id (content.Row row) = []
    refusal_in id content.Hello = []
    refusal_in id (content.HelloSlots slots) = []
    refusal_in id (content.Get got) = []
    refusal_in id content.Snd = []
    refusal_in id (content.Rcv mtype) = []
    refusal_in id (content.Stat stat) = []
    refusal_in id content.Set = []
    refusal_in id content.Rm = []
    refusal_in id content.Done = []
    refusal_in id content.Back = []
    refusal_in id (content.Hold mtype) = []
refused_by (Hello cred) answer = []
refused_by (Get key flags) answer = []
refused_by (Snd id mtype flags) answer = []
refused_by (Rcv id size mtype flags) answer = []
refused_by (Stat id) answer = []
refused_by (Set id to) answer = []
refused_by (Row slot) answer = []
refused_by (Hold id size mtype flags seconds) answer = []
refused_by Done answer = []
refused_by Back answer = []

-- What is reported of these calls, in order.
abbrev pub refusals_of : List Call → List Refusal
refusals_of calls = flat_map (λ call. refused_by call.ask call.answer) calls

-- What was reported by the end. If memory was refused, it lacks what memory was wanted for.
abbrev pub Reports : Result ⊤ ClientFault → List Refusal → (before after : List Refusal) → Type 0
Reports (Err fault.NoMemory) refusals before after = ⊤
Reports (Err fault.NoReply) refusals before after = after ≡ before ++ refusals
Reports (Err (fault.Refused why)) refusals before after = after ≡ before ++ refusals
Reports (Ok done) refusals before after = after ≡ before ++ refusals

-- How a session ends after these calls: all requests were made, or the next request ends it, or
-- memory was refused.
abbrev pub EndsClearing : Plan → List Call → Result ⊤ ClientFault → (left rest taken more : Option (List ℕ)) → Type 0
EndsClearing plan calls (Ok done) left rest taken more = (plan calls ≡ None) × (rest ≡ left) × (more ≡ taken)
EndsClearing plan calls (Err (fault.Refused error)) left rest taken more =
    BreaksPlan plan calls [] (fault.Refused error) left rest taken more
EndsClearing plan calls (Err fault.NoReply) left rest taken more =
    BreaksPlan plan calls [] fault.NoReply left rest taken more
EndsClearing plan calls (Err fault.NoMemory) left rest taken more = (rest ≡ left) × (more ≡ taken)

-- A session that ended this way. What was read is the replies to its requests, and then what ended
-- it. What was written is those requests, each whole except perhaps the last.
pub record ClearsAll (cred : Cred) (ended : Result ⊤ ClientFault) (left rest taken more : Option (List ℕ))
    (before after : List Refusal) :
    Type 0 where
  pub calls : List Call
  pub unread : Option (List ℕ)  -- what the reader had left after these calls
  pub written : Option (List ℕ)  -- what the writer had taken
  pub made : Made IsTried (clearing_plan cred) calls left unread taken written
  pub ends : EndsClearing (clearing_plan cred) calls ended unread rest written more
  pub reports : Reports ended (refusals_of calls) before after
