-- A session that a handler serves is one that its pass serves.
use Rattle.std.proofs.Common.{◌≡◌, ◌∙◌, ℕ, List, [], ◌∷◌, Option, ap, subst, inl, inr}
use Rattle.sysv_model.specs.declared.cred.Cred.{Cred}
use Rattle.sysv_session.specs.declared.served.Served.{Served}
use Rattle.sysv_session.specs.Calls.{Call, Leads, Meaning}
use Rattle.sysv_session.specs.Session.{Serves}
use Rattle.sysv_service.specs.Ran.{Pass}
use Rattle.sysv_wire.specs.declared.frame.Version.{Version}
use Rattle.sysv_seats.specs.Asked.{asks_with}

module _ {K S C : Type 0} (service : K → S) (clock : K → C) (pass : K → Pass) (may : C → ℕ → Type 0)
    (may_leave : Type 0) where
  -- The service and the clock are unchanged, and the pass changes as the calls of the service mean.
  abbrev pub ByPass : Meaning K
  ByPass old cred request text outcome given new = ((service new ≡ service old) × (clock new ≡ clock old))
      × asks_with (may (clock old)) may_leave (pass old) cred request text outcome given (pass new)

  leads : (cred : Cred) (old : K) (calls : List Call) (new : K) → Leads ByPass cred old calls new →
      (service new ≡ service old) × (clock new ≡ clock old)
      × Leads (asks_with (may (clock old)) may_leave) cred (pass old) calls (pass new)
  leads cred old [] new h = (ap service h, ap clock h, ap pass h)
  leads cred old (call ∷ calls) new h =
      let rest = leads cred h.0 calls new h.2 in
      let same = h.1.0 in
      let onward : Leads (asks_with (may (clock old)) may_leave) cred (pass h.0) calls (pass new) =
      subst (λ c. Leads (asks_with (may c) may_leave) cred (pass h.0) calls (pass new)) same.1 rest.2 in
      (rest.0 ∙ same.0, rest.1 ∙ same.1, (pass h.0, h.1.1, onward))

  pub serves : (newest : Version) (slots : ℕ) (served : Served) (old new : K) (left rest taken more : Option (List ℕ)) →
      Serves newest ByPass slots served old new left rest taken more →
      (service new ≡ service old) × (clock new ≡ clock old)
      × Serves newest (asks_with (may (clock old)) may_leave) slots served (pass old) (pass new) left rest taken more
  serves newest slots served old new left rest taken more h =
      elim h [
        | inl stays ↦ (
          ap service stays.handler,
          ap clock stays.handler,
          inl (record {
            handler = ap pass stays.handler;
            ends = stays.ends;
            writes = stays.writes;
            tallies = stays.tallies;
            counts = stays.counts;
          }),
        )
        | inr converses ↦
            let led = leads converses.cred old converses.calls new converses.leads in (
              led.0,
              led.1,
              inr (record {
                version = converses.version;
                cred = converses.cred;
                known = converses.known;
                calls = converses.calls;
                are_calls = converses.are_calls;
                leads = led.2;
                unread = converses.unread;
                reads = converses.reads;
                ends = converses.ends;
                replies = converses.replies;
                writes = converses.writes;
                tallies = converses.tallies;
                counts = converses.counts;
                bounded = converses.bounded;
              }),
            )
      ]
