-- Why a client has no reply (this project's programs): a stream failed, as its count of failures
-- states, or the bytes that were read are no reply.
use Rattle.std.specs.Prelude.{◌≡◌, ◌⊎◌, ⊤, ℕ, ℤ, true, List, [], Option, Some, Result, Ok, Err}
use Rattle.std.specs.Io.KnownBytes.{Consumes, IsAtEnd}
use Rattle.sysv_clients.specs.declared.command.Command.{Command}
use Rattle.sysv_clients.specs.declared.fault.ClientFault.{ClientFault}
use Rattle.sysv_clients.specs.declared.fault.ClientFault.TheVariants as fault
use Rattle.sysv_clients.specs.Run.{Shows, shown_text, status_of}
use Rattle.sysv_clients.specs.Dialogue.{Exchange, IsOther, Conversed, Converses, answered_encoding, next_ask}
use Rattle.sysv_model.specs.declared.instrumented.Instrumented.{Instrumented}
use Rattle.sysv_model.specs.Instrumented.{failures_after, failures_of, stream_of}
use Rattle.sysv_wire.specs.declared.fault.Fault.{Fault}
use Rattle.sysv_wire.specs.declared.frame.Version.TheVariants.{Two}
use Rattle.sysv_wire.specs.declared.reply.ReplyContent.{ReplyContent}
use Rattle.sysv_wire.specs.declared.reply.Reply.{Reply}
use Rattle.sysv_wire.specs.declared.request.Ask.{Ask}
use Rattle.sysv_wire.specs.Faults.{Faults, is_read}
use Rattle.sysv_wire.specs.Frames.{IsUpTo}
use Rattle.sysv_wire.specs.Replies.{FitsReply, reply_encoding}
use Rattle.sysv_wire.specs.ReplyFaults.{ReplyFault}

-- What was read is no reply to a request: the input is at its end, or there is a fault, or it is
-- another reply. The reader's count of failures was `had` and is `has`: the reader failed if and
-- only if the fault is that it did.
abbrev pub Unheard : Ask → (had has : ℕ) → (left rest : Option (List ℕ)) → Type 0
Unheard ask had has left rest =
    (Consumes left rest [] × IsAtEnd rest × (has ≡ had))
    ⊎ ((fault : Fault) × Faults (ReplyFault Two) fault left rest × (has ≡ failures_after (is_read fault) had))
    ⊎ ((reply : Reply) × (text : List ℕ) × FitsReply reply text × IsOther ask reply
    × Consumes left rest (reply_encoding reply text) × IsUpTo Two reply.version × (has ≡ had))

-- What was read as the reply, by the reader's count of failures.
abbrev pub HeardBy : Ask → Result ReplyContent ClientFault → (had has : ℕ) → (left rest : Option (List ℕ)) → Type 0
HeardBy ask (Ok answer) had has left rest = has ≡ had
HeardBy ask (Err (fault.Refused error)) had has left rest = has ≡ had
HeardBy ask (Err fault.NoReply) had has left rest = Unheard ask had has left rest
HeardBy ask (Err fault.NoMemory) had has left rest = ⊥

-- There is no reply to a request: the writer failed and nothing was read, or what was read is no
-- reply to it.
abbrev pub Unanswered : Ask → (had has wrote writes : ℕ) → (left rest : Option (List ℕ)) → Type 0
Unanswered ask had has wrote writes left rest =
    ((writes ≡ failures_after true wrote) × (has ≡ had) × (rest ≡ left))
    ⊎ ((writes ≡ wrote) × Unheard ask had has left rest)

-- The result of a request, by the reader's and the writer's counts of failures.
abbrev pub ExchangedBy : Ask → Result ReplyContent ClientFault → (had has wrote writes : ℕ) →
    (left rest : Option (List ℕ)) → Type 0
ExchangedBy ask (Ok answer) had has wrote writes left rest = (has ≡ had) × (writes ≡ wrote)
ExchangedBy ask (Err (fault.Refused error)) had has wrote writes left rest = (has ≡ had) × (writes ≡ wrote)
ExchangedBy ask (Err fault.NoReply) had has wrote writes left rest = Unanswered ask had has wrote writes left rest
ExchangedBy ask (Err fault.NoMemory) had has wrote writes left rest = ⊥

-- A dialogue that ended this way, by the counts of failures. No stream failed unless there is no reply;
-- then the request after some exchanges has none.
abbrev pub Blames : Command → Result ⊤ ClientFault → (had has wrote writes : ℕ) → (left rest : Option (List ℕ)) → Type 0
Blames command (Ok done) had has wrote writes left rest = (has ≡ had) × (writes ≡ wrote)
Blames command (Err (fault.Refused error)) had has wrote writes left rest = (has ≡ had) × (writes ≡ wrote)
Blames command (Err fault.NoMemory) had has wrote writes left rest = (has ≡ had) × (writes ≡ wrote)
Blames command (Err fault.NoReply) had has wrote writes left rest =
    (exchanges : List Exchange) × (ask : Ask) × (unread : Option (List ℕ)) × Conversed command exchanges
    × Consumes left unread (answered_encoding exchanges)
    × (next_ask command exchanges ≡ Some ask) × Unanswered ask had has wrote writes unread rest

-- The streams of a client at one time: what the reader has left, what the writer and the screen
-- have taken, and how often the reader and the writer have failed.
pub record Streams : Type 0 where
  pub left : Option (List ℕ)
  pub taken : Option (List ℕ)
  pub shown : Option (List ℕ)
  pub failed_reads : ℕ
  pub failed_writes : ℕ

-- The streams of a client, by what each of their types has left or has taken.
abbrev pub streams_of : {R W S : Type 0} → (R → Option (List ℕ)) → (W → Option (List ℕ)) → (S → Option (List ℕ)) →
    Instrumented R → Instrumented W → S → Streams
streams_of remaining contents shown reader writer screen = record {
  left = remaining (stream_of reader);
  taken = contents (stream_of writer);
  shown = shown screen;
  failed_reads = failures_of reader;
  failed_writes = failures_of writer;
}

-- What a client that ended with this status did, as in `Runs`, and which stream failed.
pub record RunsBlaming (command : Command) (status : ℤ) (before after : Streams) : Type 0 where
  pub exchanges : List Exchange
  pub ended : Result ⊤ ClientFault
  pub converses : Converses command exchanges ended before.left after.left before.taken after.taken
  pub shows : Shows status (status_of ended) (shown_text command.task exchanges ended) before.shown after.shown
  pub blames : Blames command ended before.failed_reads after.failed_reads before.failed_writes after.failed_writes
      before.left after.left
