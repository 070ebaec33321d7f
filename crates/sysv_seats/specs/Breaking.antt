-- What may break off a session on a connection (this project's profile): what its client's bytes and
-- the server's memory do not tell. A session that nothing breaks off ends as its input tells.
use Rattle.std.specs.Prelude.{◌≡◌, ⊤, Bool, true, Option, None, Some, IfSome, is_some}
use Rattle.sysv_session.specs.declared.served.End.{End}
use Rattle.sysv_session.specs.declared.served.End.TheVariants.{Ended, NoMemory, NoHello, Fault, Write, Bound, Left}
use Rattle.sysv_session.specs.declared.served.End.TheVariants.{Reset}
use Rattle.sysv_session.specs.declared.served.Served.{Served}
use Rattle.sysv_seats.specs.declared.callers.Callers.{Callers}
use Rattle.sysv_seats.specs.declared.limits.Limits.{Limits}
use Rattle.sysv_wire.specs.declared.fault.Fault.TheVariants.{Truncated, TooLong, BadOp, BadField, Read}

-- What may happen to a connection: a read of it may fail, a read may find that its client has reset it, a
-- write to it may fail, its client may leave a call that waits, and the server may cut it off under
-- these limits. A cut ends reading and writing too. The server lets in only these callers: a session with the hello of
-- another one ends with that.
pub record Breaks : Type 0 where
  pub reading : Bool
  pub resetting : Bool
  pub writing : Bool
  pub leaving : Bool
  pub limits : Limits
  pub callers : Callers

-- Everything may happen to the connection, except that the server cuts it off under no other limits than
-- these, and lets in no other callers.
abbrev pub any_under : Limits → Callers → Breaks
any_under limits callers = record {
  reading = true;
  resetting = true;
  writing = true;
  leaving = true;
  limits = limits;
  callers = callers;
}

-- A session on such a connection may end for this reason. It ends with a read that failed only if
-- reading may break off, with a reset only if a client may reset the connection, and with replies that
-- were not taken or a call that was left only if writing may break off.
abbrev pub MayEnd : Breaks → End → Type 0
MayEnd breaks Ended = ⊤
MayEnd breaks NoMemory = ⊤
MayEnd breaks NoHello = ⊤
MayEnd breaks (Fault Truncated) = ⊤
MayEnd breaks (Fault TooLong) = ⊤
MayEnd breaks (Fault BadOp) = ⊤
MayEnd breaks (Fault BadField) = ⊤
MayEnd breaks (Fault Read) = breaks.reading ≡ true
MayEnd breaks Write = breaks.writing ≡ true
MayEnd breaks Bound = ⊤
MayEnd breaks Left = breaks.writing ≡ true
MayEnd breaks Reset = breaks.resetting ≡ true

-- It may report this, if it reports anything.
abbrev pub MayTell : Breaks → Option Served → Type 0
MayTell breaks None = ⊤
MayTell breaks (Some served) = MayEnd breaks served.«end»

-- Reading and writing may break off.
abbrev pub MayBreak : Breaks → Type 0
MayBreak breaks = (breaks.reading ≡ true) × (breaks.writing ≡ true)

-- The reason for which a client has stopped is one for which its session may end. A client whose
-- connection takes no more replies has stopped, and writing may break off.
abbrev pub HasCause : Breaks → Option End → Bool → Type 0
HasCause breaks stopped broken = IfSome stopped (MayEnd breaks)
    × (broken ≡ true → (breaks.writing ≡ true) × (is_some stopped ≡ true))
