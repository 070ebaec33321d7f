-- What a pending session has done so far, when each reply is handed over before more is taken up (this
-- project's profile), and how it goes on from one request to the next.
use Rattle.std.specs.Prelude.{◌≡◌, ◌+◌, ⊤, ℕ, List, [], Option, Result, Ok, Err}
use Rattle.std.specs.Io.KnownBytes.{Appends}
use Rattle.sysv_session.specs.declared.served.End.{End}
use Rattle.sysv_session.specs.declared.session.Session.{Session}
use Rattle.sysv_session.specs.Calls.{Meaning}
use Rattle.sysv_session.specs.Gathered.{Gathered, all_bytes, messages_among}
use Rattle.sysv_session.specs.Session.{ServesBy}
use Rattle.sysv_session.specs.Pending.{Pending}
use Rattle.sysv_wire.specs.declared.frame.Version.{Version}

module _ (newest : Version) {K : Type 0} where
  -- The writer has taken all replies of the session whole, and nothing else. All messages in them
  -- count as written, and none is lost.
  pub record HandedOver (Means : Meaning K) (slots : ℕ) (session : Session) (old now : K)
      (left unread taken more : Option (List ℕ)) : Type 0 where
    pub replies : List Gathered
    pub pending : Pending newest Means slots session old now left unread replies
    pub writes : Appends taken more (all_bytes replies)
    pub quiet : replies ≡ [] → more ≡ taken
    pub tally : session.tally ≡ record { written = messages_among replies; lost = 0 }

  -- The session took up one request more and is still pending; or it is a whole session that ended
  -- for this reason.
  abbrev pub Proceeds : Meaning K → ℕ → Result ⊤ End → (few : ℕ) → Session → (old now : K) →
      (left rest taken more : Option (List ℕ)) → Type 0
  Proceeds Means slots (Ok done) few session old now left rest taken more =
      (session.requests ≡ few + 1) × HandedOver Means slots session old now left rest taken more
  Proceeds Means slots (Err why) few session old now left rest taken more =
      ServesBy newest Means slots why session.tally session.requests old now left rest taken more
