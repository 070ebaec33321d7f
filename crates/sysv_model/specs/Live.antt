-- The live queue of a history: its identifier and its attributes. They follow from the last install
-- that created a queue and the sets, places and takes that were granted after it (POSIX.1-2017,
-- msgget, msgsnd, msgrcv and msgctl, each DESCRIPTION).
use Rattle.std.specs.Prelude.{◌≡◌, ℕ, ℤ, ◌%◌, true, Option, Some, None, option_map, fold}
use Rattle.sysv_model.specs.declared.cred.Cred.{Cred}
use Rattle.sysv_model.specs.declared.attributes.Attributes.{Attributes}
use Rattle.sysv_model.specs.declared.attributes.SetTo.{SetTo}
use Rattle.sysv_model.specs.declared.limits.TheConstants.{QBYTES_AT_CREATION}
use Rattle.sysv_model.specs.History.{Call, Install, Place, Take, Set, Remove, Reply, Installed, Accepted, Taken, Done}
use Rattle.sysv_model.specs.History.{Discarded, Entry, History}

-- The permission bits of a mode: its low nine bits.
abbrev pub low_nine : ℕ → ℕ
low_nine mode = mode % 512

-- The attributes of a new queue. Owner and creator are the caller, the processes and times of the
-- last send and receive are 0, ctime is now, and qbytes is this profile's 16,384.
abbrev pub created : ℤ → ℤ → Cred → ℕ → ℕ → Attributes
created id key cred mode now = record {
  id = id;
  key = key;
  perm = record { uid = cred.uid; gid = cred.gid; cuid = cred.uid; cgid = cred.gid; mode = low_nine mode };
  qbytes = QBYTES_AT_CREATION;
  lspid = 0;
  lrpid = 0;
  stime = 0;
  rtime = 0;
  ctime = now;
}

-- The attributes after a send by this process.
abbrev pub sent_to : Cred → ℕ → Attributes → Attributes
sent_to cred now a = record a { lspid = cred.pid; stime = now }

-- The attributes after a receive by this process.
abbrev pub received_from : Cred → ℕ → Attributes → Attributes
received_from cred now a = record a { lrpid = cred.pid; rtime = now }

-- The attributes after an IPC_SET: owner, mode, qbytes and ctime change; the creator does not.
abbrev pub changed_to : SetTo → ℕ → Attributes → Attributes
changed_to to now a = record a {
  perm = record { uid = to.uid; gid = to.gid; cuid = a.perm.cuid; cgid = a.perm.cgid; mode = low_nine to.mode };
  qbytes = to.qbytes;
  ctime = now;
}

-- The live queue after one more turn. Only the turns listed here change it.
abbrev pub live_after : Option Attributes → Call → Reply → Option Attributes
live_after live (Install id key cred mode now) (Installed true) = Some (created id key cred mode now)
live_after live (Place id cred mtype bytes now) (Accepted number) = option_map (sent_to cred now) live
live_after live (Take id cred selector size noerror now) (Taken message) = option_map (received_from cred now) live
live_after live (Set id cred to now) Done = option_map (changed_to to now) live
live_after live (Remove id cred) (Discarded messages) = None
live_after live call reply = live

-- The live queue of a history, if there is one.
abbrev pub live : History → Option Attributes
live h = fold (λ (old : Option Attributes) (e : Entry). live_after old e.call e.reply) None h

-- A queue is live, and id is its identifier.
abbrev pub HasId : Option Attributes → ℤ → Type 0
HasId None id = ⊥
HasId (Some a) id = a.id ≡ id

-- After the history h, a queue is live under the identifier id.
abbrev pub IsLive : History → ℤ → Type 0
IsLive h id = HasId (live h) id
