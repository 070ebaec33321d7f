-- The lines that a script prints, without the bytes of a message (this project's script language).
use Rattle.std.specs.Prelude.{ℕ, ◌/◌, ◌%◌, List, ◌++◌, codes}
use Rattle.std.specs.Fmt.{decimal, signed_decimal}
use Rattle.sysv_model.specs.Errors.{name_of}
use Rattle.sysv_model.specs.declared.attributes.Perm.{Perm}
use Rattle.sysv_model.specs.declared.attributes.Stat.{Stat}
use Rattle.sysv_script.specs.declared.names.Operation.{Operation}
use Rattle.sysv_script.specs.declared.names.Operation.TheVariants.{Get, Send, Receive, Stat as OfStat, Set as OfSet}
use Rattle.sysv_script.specs.declared.names.Operation.TheVariants.{Remove as OfRemove}
use Rattle.sysv_script.specs.declared.names.Step.{Step}
use Rattle.sysv_script.specs.declared.names.Step.TheVariants.{Begin, Install, Settle, Probe, Forget, Look, Reserve}
use Rattle.sysv_script.specs.declared.names.Step.TheVariants.{Place, Giveback, Take, Stat as AtStat, Set as AtSet}
use Rattle.sysv_script.specs.declared.names.Step.TheVariants.{Remove as AtRemove}
use Rattle.sysv_steps.specs.declared.outcome.Outcome.{Outcome}
use Rattle.sysv_steps.specs.declared.outcome.Outcome.TheVariants.{Id, Zero, Got, Stat as IsStat, Refused}
use Rattle.sysv_script.specs.declared.head.Head.{Head}
use Rattle.sysv_script.specs.declared.head.Head.TheVariants.{Answers, At, Waits, Busy, Idle, Worn, Bad}

-- The names of the six calls in a script.
abbrev pub operation_name : Operation → List ℕ
operation_name Get = codes "get"
operation_name Send = codes "snd"
operation_name Receive = codes "rcv"
operation_name OfStat = codes "stat"
operation_name OfSet = codes "set"
operation_name OfRemove = codes "rm"

-- The names of the steps.
abbrev pub step_name : Step → List ℕ
step_name Begin = codes "begin"
step_name Install = codes "install"
step_name Settle = codes "settle"
step_name Probe = codes "probe"
step_name Forget = codes "forget"
step_name Look = codes "look"
step_name Reserve = codes "reserve"
step_name Place = codes "place"
step_name Giveback = codes "giveback"
step_name Take = codes "take"
step_name AtStat = codes "stat"
step_name AtSet = codes "set"
step_name AtRemove = codes "remove"

-- The mode of a queue as three octal digits.
abbrev pub mode_text : ℕ → List ℕ
mode_text mode = decimal (mode / 64 % 8) ++ decimal (mode / 8 % 8) ++ decimal (mode % 8)

-- The owner, the creator and the mode of a queue.
unfoldable pub perm_text : Perm → List ℕ
perm_text p =
    codes "uid " ++ decimal p.uid ++ codes " gid " ++ decimal p.gid ++ codes " cuid " ++ decimal p.cuid
    ++ codes " cgid " ++ decimal p.cgid
    ++ codes " mode " ++ mode_text p.mode

-- The queued bytes and messages, the limit and the process numbers of a queue.
unfoldable pub counts_text : Stat → List ℕ
counts_text s =
    codes "bytes " ++ decimal s.cbytes ++ codes " num " ++ decimal s.qnum ++ codes " qbytes " ++ decimal s.qbytes
    ++ codes " lspid " ++ decimal s.lspid ++ codes " lrpid " ++ decimal s.lrpid

-- The times of a queue.
unfoldable pub times_text : Stat → List ℕ
times_text s =
    codes "stime " ++ decimal s.stime ++ codes " rtime " ++ decimal s.rtime ++ codes " ctime " ++ decimal s.ctime

-- All attributes of a queue.
abbrev pub stat_text : Stat → List ℕ
stat_text s = codes "key " ++ signed_decimal s.key ++ codes " " ++ perm_text s.perm ++ codes " " ++ counts_text s
    ++ codes " " ++ times_text s

-- The outcome of a call.
abbrev pub outcome_text : Outcome → List ℕ
outcome_text (Id id) = codes "= " ++ signed_decimal id
outcome_text Zero = codes "= 0"
outcome_text (Got mtype len) = codes "= " ++ decimal len ++ codes " type " ++ signed_decimal mtype ++ codes " ="
outcome_text (IsStat stat) = codes "= " ++ stat_text stat
outcome_text (Refused why) = codes "! " ++ name_of why

-- A line, without the bytes of a message.
abbrev pub head_text : Head → List ℕ
head_text (Answers actor operation outcome) =
    decimal actor ++ codes " " ++ operation_name operation ++ codes " " ++ outcome_text outcome
head_text (At actor operation step) =
    decimal actor ++ codes " " ++ operation_name operation ++ codes " at " ++ step_name step
head_text (Waits actor operation) = decimal actor ++ codes " " ++ operation_name operation ++ codes " waits"
head_text (Busy actor) = decimal actor ++ codes " busy"
head_text (Idle actor) = decimal actor ++ codes " idle"
head_text (Worn actor) = decimal actor ++ codes " worn"
head_text (Bad number) = codes "line " ++ decimal number ++ codes ": bad"
