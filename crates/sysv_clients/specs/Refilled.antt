-- What a load leaves in a service that has none of the queues (this project's programs): a queue with the same key,
-- owner, mode, limit and messages. What a service has of a queue is the history of its slot: the turns that were made
-- there.
use Rattle.std.specs.Prelude.{◌≡◌, ◌⊎◌, ⊤, ℕ, ℤ, Bool, true, false, List, [], ◌∷◌, ◌++◌, map, None, Some}
use Rattle.sysv_clients.specs.declared.loading.Loading.{Loading}
use Rattle.sysv_clients.specs.Copies.{Message as Copy}
use Rattle.sysv_clients.specs.Loading.{MayLoad}
use Rattle.sysv_clients.specs.Restored.{IsKept, Kept, load_of, saved_of}
use Rattle.sysv_clients.specs.Sending.{Sent}
use Rattle.sysv_model.specs.declared.attributes.Attributes.{Attributes}
use Rattle.sysv_model.specs.declared.cred.Cred.{Cred}
use Rattle.sysv_model.specs.History.{Call, Install, Probe, Look, Place, Take, ReadStat, Set, Remove, ReadRow, Reply}
use Rattle.sysv_model.specs.History.{Accepted, Done, History, Installed}
use Rattle.sysv_model.specs.Live.{live}
use Rattle.sysv_model.specs.Message.{Message}
use Rattle.sysv_model.specs.Waiting.{accepted, delivered, discarded, waiting}
use Rattle.sysv_wire.specs.declared.request.Ask.{Ask}
use Rattle.sysv_wire.specs.declared.request.Ask.TheVariants as ask

-- The turns that change no queue.
abbrev pub only_reads : Call → Bool
only_reads (Probe id cred flags) = true
only_reads (Look id cred size) = true
only_reads (ReadStat id cred) = true
only_reads ReadRow = true
only_reads (Install id key cred mode now) = false
only_reads (Place id cred mtype bytes now) = false
only_reads (Take id cred selector size noerror now) = false
only_reads (Set id cred to now) = false
only_reads (Remove id cred) = false

-- The turn that carries out a request of this client: a msgget makes a queue under this identifier, a msgctl sets
-- its attributes, and a msgsnd adds a message.
abbrev pub CarriesOut : Cred → ℤ → Ask → (text : List ℕ) → Call → Reply → Type 0
CarriesOut cred id (ask.Get name flags) text call reply =
    (now : ℕ) × (call ≡ Install id name cred flags.0 now) × (reply ≡ Installed true)
CarriesOut cred id (ask.Set at to) text call reply = (now : ℕ) × (call ≡ Set at cred to now) × (reply ≡ Done)
CarriesOut cred id (ask.Snd at mtype flags) text call reply =
    (now : ℕ) × (number : ℕ) × (call ≡ Place at cred mtype text now) × (reply ≡ Accepted number)
CarriesOut cred id (ask.Hello who) text call reply = ⊥
CarriesOut cred id (ask.Rcv at size mtype flags) text call reply = ⊥
CarriesOut cred id (ask.Stat at) text call reply = ⊥
CarriesOut cred id (ask.Rm at) text call reply = ⊥
CarriesOut cred id (ask.Row slot) text call reply = ⊥
CarriesOut cred id (ask.Hold at size mtype flags seconds) text call reply = ⊥
CarriesOut cred id ask.Done text call reply = ⊥
CarriesOut cred id ask.Back text call reply = ⊥

-- These turns carry out these requests of this client, in order, among turns that change no queue.
abbrev pub AreCarriedOut : Cred → ℤ → List Sent → History → Type 0
AreCarriedOut cred id [] [] = ⊤
AreCarriedOut cred id (sent ∷ more) [] = ⊥
AreCarriedOut cred id [] (e ∷ rest) = (only_reads e.call ≡ true) × AreCarriedOut cred id [] rest
AreCarriedOut cred id (sent ∷ more) (e ∷ rest) =
    ((only_reads e.call ≡ true) × AreCarriedOut cred id (sent ∷ more) rest)
    ⊎ (CarriesOut cred id sent.ask sent.text e.call e.reply × AreCarriedOut cred id more rest)

-- No queue is live in this history, and none ever had a message under this identifier.
pub record IsVacant (id : ℤ) (h : History) : Type 0 where
  pub none : live h ≡ None
  pub accepts : accepted id h ≡ []
  pub delivers : delivered id h ≡ []
  pub discards : discarded id h ≡ []

-- A message without its number and its sender.
abbrev pub copy_of : Message → Copy
copy_of message = record { mtype = message.mtype; body = message.bytes }

-- The live queue of this history has this identifier, and is otherwise the one in the file. Its creator is the client,
-- so if the load does not adopt queues, it is the creator in the file too. The last processes and the times are not
-- those in the file, which has none.
pub record IsQueueAgain (loading : Loading) (id : ℤ) (kept : Kept) (h : History) : Type 0 where
  pub queue : Attributes
  pub is_live : live h ≡ Some queue
  pub has_id : queue.id ≡ id
  pub has_key : queue.key ≡ kept.stat.key
  pub owner : (queue.perm.uid ≡ kept.stat.perm.uid) × (queue.perm.gid ≡ kept.stat.perm.gid)
  pub mode : queue.perm.mode ≡ kept.stat.perm.mode
  pub limit : queue.qbytes ≡ kept.stat.qbytes
  pub creator : (queue.perm.cuid ≡ loading.cred.uid) × (queue.perm.cgid ≡ loading.cred.gid)
  pub same_creator : loading.adopt ≡ false → MayLoad loading (saved_of kept.id kept.stat)
      → queue.perm ≡ kept.stat.perm
  pub messages : map copy_of (waiting id h) ≡ kept.messages

-- Turns that carry out the requests of a load for a queue leave this queue, if none was there.
abbrev pub Refills : Type 0
Refills =
    (loading : Loading) (id : ℤ) (kept : Kept) (before turns : History) → IsKept kept → IsVacant id before
    → AreCarriedOut loading.cred id (load_of loading id kept) turns
    → IsQueueAgain loading id kept (before ++ turns)
