-- The results of the slot's calls, as replies in its history (this profile's).
use Rattle.std.specs.Prelude.{ℕ, List, Result, Ok, Err, ⊤}
use Rattle.sysv_model.specs.Message.{Message}
use Rattle.sysv_model.specs.History.{Reply, Gone, Denied, Granted, Full, Fits, Accepted, NoMatch, TooLong, Taken, Told}
use Rattle.sysv_model.specs.History.{Done, Discarded, Refused}
use Rattle.sysv_model.specs.declared.attributes.Stat.{Stat}
use Rattle.sysv_model.specs.declared.errno.Errno.{Errno}
use Rattle.sysv_queue.specs.declared.slot.Probe.{Probe}
use Rattle.sysv_queue.specs.declared.slot.Probe.TheVariants as probe
use Rattle.sysv_queue.specs.declared.slot.Look.{Look}
use Rattle.sysv_queue.specs.declared.slot.Look.TheVariants as look
use Rattle.sysv_queue.specs.declared.slot.Unplaced.{Unplaced}
use Rattle.sysv_queue.specs.declared.slot.Unplaced.TheVariants as unplaced
use Rattle.sysv_queue.specs.declared.slot.PlaceRefused.{PlaceRefused}
use Rattle.sysv_queue.specs.declared.slot.TakeRefused.{TakeRefused}
use Rattle.sysv_queue.specs.declared.slot.TakeRefused.TheVariants as untaken

-- The result of probe.
abbrev pub probe_reply : Probe → Reply
probe_reply probe.Gone = Gone
probe_reply probe.Denied = Denied
probe_reply probe.Granted = Granted

-- The result of stat.
abbrev pub stat_reply : Result Stat Errno → Reply
stat_reply (Ok stat) = Told stat
stat_reply (Err why) = Refused why

-- The result of set.
abbrev pub set_reply : Result ⊤ Errno → Reply
set_reply (Ok done) = Done
set_reply (Err why) = Refused why

-- The result of remove, if these messages were queued.
abbrev pub remove_reply : {X : Type 0} → List Message → Result X Errno → Reply
remove_reply messages (Ok done) = Discarded messages
remove_reply messages (Err why) = Refused why

-- The result of look.
abbrev pub look_reply : Look → Reply
look_reply look.Gone = Gone
look_reply look.Denied = Denied
look_reply (look.Full freed) = Full freed
look_reply look.Fits = Fits

-- The cause of a refused place.
abbrev pub unplaced_reply : Unplaced → Reply
unplaced_reply unplaced.Gone = Gone
unplaced_reply unplaced.Denied = Denied
unplaced_reply (unplaced.Full freed) = Full freed

-- The result of place.
abbrev pub place_reply : Result ℕ PlaceRefused → Reply
place_reply (Ok number) = Accepted number
place_reply (Err refused) = unplaced_reply refused.why

-- The cause of a refused take.
abbrev pub untaken_reply : TakeRefused → Reply
untaken_reply untaken.Gone = Gone
untaken_reply untaken.Denied = Denied
untaken_reply (untaken.NoMatch arrived) = NoMatch arrived
untaken_reply untaken.TooLong = TooLong

-- The result of take.
abbrev pub take_reply : Result Message TakeRefused → Reply
take_reply (Ok m) = Taken m
take_reply (Err why) = untaken_reply why
