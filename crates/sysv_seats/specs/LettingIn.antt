-- Sessions on a connection that lets in some callers only (this project's profile). Each call of a session that is
-- let in is made with the credentials of one of these callers. Any other hello is answered with EPERM, and that is all
-- that its session does.
use Rattle.std.specs.Prelude.{◌≡◌, ◌≢◌, ◌⊎◌, ⊤, ℕ, true, false, List, [], ◌++◌, Option}
use Rattle.std.proofs.Common.{inl, inr}
use Rattle.std.specs.Io.KnownBytes.{Appends, Consumes}
use Rattle.sysv_keys.specs.declared.identifier.TheConstants.{SLOTS}
use Rattle.sysv_model.specs.declared.cred.Cred.{Cred}
use Rattle.sysv_model.specs.declared.errno.Errno.TheVariants.{EPERM}
use Rattle.sysv_session.specs.declared.served.End.{End}
use Rattle.sysv_session.specs.declared.served.End.TheVariants as «end»
use Rattle.sysv_session.specs.declared.served.Served.{Served}
use Rattle.sysv_session.specs.Calls.{Meaning}
use Rattle.sysv_session.specs.Input.{FitsHello, hello_encoding}
use Rattle.sysv_session.specs.Together.{ServesTogether}
use Rattle.sysv_service.specs.Ran.{Pass}
use Rattle.sysv_wire.specs.declared.frame.Op.TheVariants as op
use Rattle.sysv_wire.specs.declared.frame.Version.{Version}
use Rattle.sysv_wire.specs.declared.reply.Reply.{Reply as Answer}
use Rattle.sysv_wire.specs.declared.reply.ReplyContent.TheVariants as content
use Rattle.sysv_wire.specs.Frames.{op_number}
use Rattle.sysv_wire.specs.Replies.{reply_encoding}
use Rattle.sysv_seats.specs.declared.callers.Callers.{Callers}
use Rattle.sysv_seats.specs.Callers.{includes}
use Rattle.sysv_seats.specs.Held.{ServesHolding, holds_with}
use Rattle.sysv_seats.specs.Holding.{Timed, begun_with}

-- What the calls mean that these callers make: the credentials of each are those of one of them.
abbrev pub by_callers : {K : Type 0} → Callers → Meaning K → Meaning K
by_callers callers Means old cred request text outcome given new =
    (includes callers cred ≡ true) × Means old cred request text outcome given new

-- The reply to a hello of this version that is not let in, and its frame.
abbrev pub denial : Version → Answer
denial version = record { version = version; op = op_number op.Hello; result = content.Refused EPERM }

abbrev pub denial_frame : Version → List ℕ
denial_frame version = reply_encoding (denial version) []

-- So many bytes were sent of the answer to a hello of this version that was not let in, if its session ended
-- for this reason: all of them with `NoHello`, not all with `Write`, and none if memory was refused.
abbrev pub EndsDenied : Version → End → List ℕ → Type 0
EndsDenied version «end».NoHello sent = sent ≡ denial_frame version
EndsDenied version «end».Write sent =
    (later : List ℕ) × (sent ++ later ≡ denial_frame version) × (later ≢ [])
EndsDenied version «end».NoMemory sent = sent ≡ []
EndsDenied version why sent = ⊥

-- A session that reads versions up to the newest one, on a connection that lets in these callers.
module _ (newest : Version) (callers : Callers) where
  -- The session has no hello, or its hello states the credentials of a caller who is let in. All its calls are made
  -- with these.
  abbrev pub IsLetIn : {K : Type 0} (Means : Meaning K) (served : Served) (old new : K)
      (left rest taken more : Option (List ℕ)) →
      ServesTogether newest Means SLOTS served old new left rest taken more → Type 0
  IsLetIn Means served old new left rest taken more (inl stays) = ⊤
  IsLetIn Means served old new left rest taken more (inr converses) = includes callers converses.cred ≡ true

  -- The hello states the credentials of a caller who is not let in. No call was made, nothing more was taken up, and
  -- the hello was answered with EPERM, of which the connection took these bytes and no others.
  pub record IsDenied {K : Type 0} (served : Served) (old : K) (new : Timed K)
      (left rest taken more : Option (List ℕ)) : Type 0 where
    pub version : Version
    pub cred : Cred
    pub known : FitsHello newest version cred
    pub other : includes callers cred ≡ false
    pub reads : Consumes left rest (hello_encoding version cred)
    pub handler : new ≡ begun_with old
    pub sent : List ℕ
    pub writes : Appends taken more sent
    pub ends : EndsDenied version served.«end» sent
    pub tallies : served.tally ≡ record { written = 0; lost = 0 }
    pub counts : served.requests ≡ 1

  -- What a session that reported this did to its pass: it was let in, or it was denied.
  abbrev pub ServesFor : (ℕ → Type 0) → Type 0 → Served → (old : Pass) → (new : Timed Pass) →
      (left rest taken more : Option (List ℕ)) → Type 0
  ServesFor may may_leave served old new left rest taken more =
      ((serves : ServesHolding newest may may_leave served old new left rest taken more)
      × IsLetIn (holds_with may may_leave) served (begun_with old) serves.0 left rest taken more serves.1)
      ⊎ IsDenied served old new left rest taken more
