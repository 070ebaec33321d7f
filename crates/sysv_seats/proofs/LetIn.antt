-- A session whose caller is let in.
use Rattle.std.proofs.Common.{◌≡◌, ◌∙◌, ℕ, List, [], ◌∷◌, ◌++◌, Option, None, Some, true, refl, sym}
use Rattle.std.proofs.Common.{ap}
use Rattle.std.proofs.Common.{subst, arith, inl, inr, append_assoc}
use Rattle.std.specs.Prelude.{⊤}
use Rattle.std.specs.Io.KnownBytes.{Consumes}
use Rattle.sysv_keys.specs.declared.identifier.TheConstants.{SLOTS}
use Rattle.sysv_model.specs.declared.cred.Cred.{Cred}
use Rattle.sysv_session.specs.declared.served.Served.{Served}
use Rattle.sysv_session.specs.Calls.{Call, Leads}
use Rattle.sysv_session.specs.Input.{FitsHello, asked_encoding, hello_encoding, hello_of}
use Rattle.sysv_session.specs.Together.{ConversesTogether, ServesTogether}
use Rattle.sysv_service.specs.Ran.{Pass}
use Rattle.sysv_wire.specs.declared.frame.Version.{Version}
use Rattle.sysv_wire.specs.declared.request.Ask.{Ask}
use Rattle.sysv_wire.specs.declared.request.Ask.TheVariants.{Hello}
use Rattle.sysv_wire.specs.declared.request.Request.{Request}
use Rattle.sysv_wire.proofs.OneRequest.{one_request}
use Rattle.sysv_seats.specs.declared.callers.Callers.{Callers}
use Rattle.sysv_seats.specs.Callers.{includes}
use Rattle.sysv_seats.specs.Held.{holds_with}
use Rattle.sysv_seats.specs.Holding.{Timed}
use Rattle.sysv_seats.specs.LettingIn.{IsLetIn}
use Rattle.sysv_seats.specs.Sits.{IsKnown, means_for, zero_moment}

-- The caller of a session that takes up requests is let in.
pub known_cred : (newest : Version) (callers : Callers) (left : Option (List ℕ)) (caller : Option (Version × Cred))
    (version : Version) (cred : Cred) → caller ≡ Some (version, cred) → IsKnown newest callers left caller →
    includes callers cred ≡ true
known_cred newest callers left caller version cred is known = (subst (IsKnown newest callers left) is known).0

-- The credentials of a hello.
abbrev cred_in : Ask → Cred → Cred
cred_in (Hello cred) other = cred
cred_in ask other = other

-- Two hellos at the front of the same bytes state the same credentials.
same_cred : (newest : Version) (version version' : Version) (cred cred' : Cred) (input more : List ℕ)
    (unread behind : Option (List ℕ)) → FitsHello newest version cred → FitsHello newest version' cred' →
    Consumes (Some input) unread (hello_encoding version cred ++ more) →
    Consumes (Some input) behind (hello_encoding version' cred') → cred' ≡ cred
same_cred newest version version' cred cred' input more None behind known known' reads reads' = absurd reads
same_cred newest version version' cred cred' input more (Some rest) None known known' reads reads' = absurd reads'
same_cred newest version version' cred cred' input more (Some rest) (Some rest') known known' reads reads' =
    let same = sym reads' ∙ reads ∙ append_assoc (hello_encoding version cred) more rest in
    let one = one_request (hello_of version' cred') (hello_of version cred) [] [] rest' (more ++ rest) known'.0
    known.0 same in
    ap (λ (r : Request). cred_in r.ask cred) one.0

-- The same calls mean the same without the callers.
relaxed : (callers : Callers) (cred : Cred) (old : Timed Pass) (calls : List Call) (new : Timed Pass) →
    Leads (means_for callers) cred old calls new → Leads (holds_with zero_moment ⊤) cred old calls new
relaxed callers cred old [] new leads = leads
relaxed callers cred old (call ∷ calls) new leads =
    (leads.0, leads.1.1, relaxed callers cred leads.0 calls new leads.2)

module _ (newest : Version) (callers : Callers) (served : Served) (old new : Timed Pass)
    (rest taken more : Option (List ℕ)) where
  -- The session, whose calls are made by these callers, and the same one without them.
  abbrev Restricted : Option (List ℕ) → Type 0
  Restricted left = ConversesTogether newest (means_for callers) SLOTS served.«end» served.tally served.requests old new
      left rest taken more

  abbrev Plain : Option (List ℕ) → Type 0
  Plain left = ConversesTogether newest (holds_with zero_moment ⊤) SLOTS served.«end» served.tally served.requests old
      new left rest taken more

  -- A session that is let in.
  abbrev Lets : Option (List ℕ) → Type 0
  Lets left = (serves : ServesTogether newest (holds_with zero_moment ⊤) SLOTS served old new left rest taken more)
      × IsLetIn newest callers (holds_with zero_moment ⊤) served old new left rest taken more serves

  -- The session with these credentials.
  abbrev with_cred : (left : Option (List ℕ)) (d : Restricted left) (cred : Cred) → FitsHello newest d.version cred →
      Leads (holds_with zero_moment ⊤) cred old d.calls new →
      Consumes left d.unread (hello_encoding d.version cred ++ asked_encoding d.calls) → Plain left
  with_cred left d cred known leads reads = record {
    version = d.version;
    cred = cred;
    known = known;
    calls = d.calls;
    are_calls = d.are_calls;
    leads = leads;
    unread = d.unread;
    reads = reads;
    stopped = d.stopped;
    ends = d.ends;
    bounded = d.bounded;
    replies = d.replies;
    replied = d.replied;
    sent = d.sent;
    prefix = d.prefix;
    writes = d.writes;
    reports = d.reports;
    all = d.all;
    written = d.written;
    counts = d.counts;
  }

  -- Its hello states credentials that are let in.
  lets_own : (left : Option (List ℕ)) (d : Restricted left) → includes callers d.cred ≡ true → Lets left
  lets_own left d included =
      (inr (with_cred left d d.cred d.known (relaxed callers d.cred old d.calls new d.leads) d.reads), included)

  -- It made no call. If the input is not told, its hello may be any that is let in.
  lets_quiet : (left : Option (List ℕ)) (d : Restricted left) (caller : Version × Cred) → d.calls ≡ [] →
      IsKnown newest callers left (Some caller) → Lets left
  lets_quiet None d caller none known =
      let quiet = subst (λ (cs : List Call). Leads (means_for callers) d.cred old cs new) none d.leads in (
        inr (with_cred None d caller.1 ((known.1.0.0, d.known.0.1, d.known.0.2), d.known.1)
            (subst (λ (cs : List Call). Leads (holds_with zero_moment ⊤) caller.1 old cs new) (sym none) quiet) tt),
        known.0,
      )
  lets_quiet (Some input) d caller none known =
      lets_own (Some input) d
      (subst (λ (c : Cred). includes callers c ≡ true)
      (same_cred newest d.version caller.0 d.cred caller.1 input (asked_encoding d.calls) d.unread known.2.0 d.known
      known.1 d.reads known.2.1) known.0)

  lets_with : (left : Option (List ℕ)) (d : Restricted left) (caller : Version × Cred) (calls : List Call) →
      d.calls ≡ calls → IsKnown newest callers left (Some caller) → Lets left
  lets_with left d caller [] is known = lets_quiet left d caller is known
  lets_with left d caller (call ∷ calls) is known =
      lets_own left d (subst (λ (cs : List Call). Leads (means_for callers) d.cred old cs new) is d.leads).1.0

  -- What a session did whose calls are made by these callers.
  pub lets : (left : Option (List ℕ)) (caller : Option (Version × Cred)) → (caller ≡ None → served.requests ≡ 0) →
      IsKnown newest callers left caller →
      ServesTogether newest (means_for callers) SLOTS served old new left rest taken more → Lets left
  lets left caller counted known (inl stays) = (inl stays, tt)
  lets left None counted known (inr d) = absurd (omega (arith, counted refl, d.counts))
  lets left (Some caller) counted known (inr d) = lets_with left d caller d.calls refl known
