-- What is reported of a live queue: its attributes with its numbers of queued bytes and messages
-- (POSIX.1-2017, msgctl, IPC_STAT), and its row in the list of queues (this profile's).
use Rattle.std.specs.Prelude.{List, length}
use Rattle.sysv_model.specs.declared.attributes.Attributes.{Attributes}
use Rattle.sysv_model.specs.declared.attributes.Stat.{Stat}
use Rattle.sysv_model.specs.declared.attributes.Row.{Row}
use Rattle.sysv_model.specs.Message.{Message}
use Rattle.sysv_queue.specs.Fits.{bytes_of}

-- The result of IPC_STAT for a queue with these messages and attributes.
abbrev pub stat_of : List Message → Attributes → Stat
stat_of messages a = record {
  key = a.key;
  perm = a.perm;
  cbytes = bytes_of messages;
  qnum = length messages;
  qbytes = a.qbytes;
  lspid = a.lspid;
  lrpid = a.lrpid;
  stime = a.stime;
  rtime = a.rtime;
  ctime = a.ctime;
}

-- The row of a queue with these messages and attributes.
abbrev pub row_of : List Message → Attributes → Row
row_of messages a = record {
  id = a.id;
  key = a.key;
  uid = a.perm.uid;
  mode = a.perm.mode;
  cbytes = bytes_of messages;
  qnum = length messages;
}
