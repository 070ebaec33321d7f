-- How a pending session goes on, whatever becomes of its replies.
use Rattle.std.proofs.Common.{◌≡◌, ℕ, ◌+◌, ◌≤◌, List, [], ◌∷◌, ◌++◌, length, Option, Some, Ok, sym, ap, subst}
use Rattle.std.proofs.Common.{◌∙◌, arith, inl, inr, append_assoc, append-nil}
use Rattle.std.specs.Io.KnownBytes.{Consumes}
use Rattle.std.proofs.KnownBytes.{Consumes-trans}
use Rattle.std.specs.List.{AllByRecursion}
use Rattle.sysv_model.specs.declared.cred.Cred.{Cred}
use Rattle.sysv_session.specs.declared.served.TheConstants.{SESSION_REQUESTS}
use Rattle.sysv_session.specs.declared.session.Session.{Session}
use Rattle.sysv_session.specs.declared.session.TakenUp.TheVariants.{Hello, Request as Asked}
use Rattle.sysv_session.specs.Answers.{IsAskedIn, IsReplied, MayAnswer}
use Rattle.sysv_session.specs.Calls.{Call, IsCall, Leads, Meaning}
use Rattle.sysv_session.specs.Gathered.{Gathered}
use Rattle.sysv_session.specs.Input.{FitsHello, asked_encoding, hello_encoding}
use Rattle.sysv_session.specs.Output.{AreReplied}
use Rattle.sysv_session.specs.TakenUp.{TakesUp}
use Rattle.sysv_session.specs.Pending.{Asking, Greets, Pending, greeting, replies_to, reply_to}
use Rattle.sysv_session.proofs.ListLemmas.{all_more, asked_more, leads_more, length_more}
use Rattle.sysv_session.proofs.TogetherLemmas.{replies_more}
use Rattle.sysv_wire.specs.declared.frame.Version.{Version}
use Rattle.sysv_wire.specs.declared.request.Request.{Request}
use Rattle.sysv_wire.specs.Requests.{request_encoding}

module _ (newest : Version) {K : Type 0} where
  -- This call was made after others, and its reply is not there yet.
  pub record Called (Means : Meaning K) (slots : ℕ) (call : Call) (session : Session) (old now : K)
      (left unread : Option (List ℕ)) (replies : List Gathered) : Type 0 where
    pub version : Version
    pub cred : Cred
    pub known : FitsHello newest version cred
    pub done : List Call
    pub are_calls : AllByRecursion (IsCall version) (done ++ call ∷ [])
    pub leads : Leads Means cred old (done ++ call ∷ []) now
    pub reads : Consumes left unread (hello_encoding version cred ++ asked_encoding (done ++ call ∷ []))
    pub replied : AreReplied done
    pub limit : session.newest ≡ newest
    pub caller : session.caller ≡ Some (version, cred)
    pub counts : session.requests ≡ 1 + length (done ++ call ∷ [])
    pub bounded : session.requests ≤ SESSION_REQUESTS
    pub gathered : replies ≡ replies_to version slots done

module _ (newest : Version) {K : Type 0} (Means : Meaning K) (slots : ℕ) where
  -- A hello is taken up.
  pub hello_taken : (version : Version) (session session' : Session) (old now : K)
      (left unread rest : Option (List ℕ)) (text : List ℕ) (replies : List Gathered) →
      Pending newest Means slots session old now left unread replies →
      TakesUp session session' (Ok (Hello version)) unread rest text →
      Greets newest version session' old now left rest replies
  hello_taken version session session' old now left unread rest text replies (inl fresh) takes = record {
    cred = takes.0;
    known = subst (λ (n : Version). FitsHello n version takes.0) fresh.limit takes.2.0;
    handler = fresh.handler;
    reads = subst (λ (l : Option (List ℕ)). Consumes l rest (hello_encoding version takes.0)) fresh.reads takes.2.1;
    limit = ap (λ (s : Session). s.newest) takes.3 ∙ fresh.limit;
    caller = ap (λ (s : Session). s.caller) takes.3;
    counts = ap (λ (s : Session). s.requests) takes.3;
    gathered = fresh.gathered;
  }
  hello_taken version session session' old now left unread rest text replies (inr greeted) takes =
      absurd (grind (arith, greeted.caller, takes.1))

  -- It has its reply.
  pub hello_replied : (version : Version) (session session' : Session) (old now : K) (left unread : Option (List ℕ))
      (replies : List Gathered) → Greets newest version session old now left unread replies →
      session'.newest ≡ session.newest → session'.caller ≡ session.caller →
      session'.requests ≡ session.requests →
      Pending newest Means slots session' old now left unread (replies ++ greeting version slots ∷ [])
  hello_replied version session session' old now left unread replies hello limit caller count = inr (record {
    version = version;
    cred = hello.cred;
    known = hello.known;
    calls = [];
    are_calls = tt;
    leads = hello.handler;
    reads = subst (Consumes left unread) (sym (append-nil (hello_encoding version hello.cred))) hello.reads;
    replied = tt;
    limit = limit ∙ hello.limit;
    caller = caller ∙ hello.caller;
    counts = omega (arith, count, hello.counts);
    bounded = omega (arith, count, hello.counts);
    gathered = ap (λ (l : List Gathered). l ++ greeting version slots ∷ []) hello.gathered;
  })

  -- A request is taken up.
  pub request_taken : (cred : Cred) (request : Request) (session session' : Session) (old now : K)
      (left unread rest : Option (List ℕ)) (text : List ℕ) (replies : List Gathered) →
      Pending newest Means slots session old now left unread replies →
      TakesUp session session' (Ok (Asked cred request)) unread rest text →
      Asking newest Means slots cred request text session' old now left rest replies
  request_taken cred request session session' old now left unread rest text replies (inl fresh) takes =
      absurd (grind (arith, fresh.caller, takes.1))
  request_taken cred request session session' old now left unread rest text replies (inr greeted) takes =
      let same_version : takes.0 ≡ greeted.version = grind (arith, greeted.caller, takes.1) in
      let same_cred : greeted.cred ≡ cred = grind (arith, greeted.caller, takes.1) in
      let count : session'.requests ≡ session.requests + 1 = ap (λ (s : Session). s.requests) takes.4 in
      record {
        version = greeted.version;
        known = subst (λ (c : Cred). FitsHello newest greeted.version c) same_cred greeted.known;
        calls = greeted.calls;
        are_calls = greeted.are_calls;
        leads = subst (λ (c : Cred). Leads Means c old greeted.calls now) same_cred greeted.leads;
        behind = unread;
        reads = subst (λ (c : Cred). Consumes left unread (hello_encoding greeted.version c
            ++ asked_encoding greeted.calls)) same_cred greeted.reads;
        asks = takes.3.0;
        asked = subst (λ (v : Version). IsAskedIn v request text) same_version takes.3.1;
        replied = greeted.replied;
        limit = ap (λ (s : Session). s.newest) takes.4 ∙ greeted.limit;
        caller = ap (λ (s : Session). s.caller) takes.4 ∙ greeted.caller
            ∙ ap (λ (c : Cred). Some (greeted.version, c)) same_cred;
        counts = omega (arith, count, greeted.counts);
        bounded = omega (arith, count, takes.2);
        gathered = greeted.gathered;
      }

  -- Its call is made.
  pub request_called : (cred : Cred) (call : Call) (session : Session) (old now new : K)
      (left unread : Option (List ℕ)) (replies : List Gathered) →
      Asking newest Means slots cred call.request call.text session old now left unread replies →
      Means now cred call.request call.text call.outcome call.given new →
      MayAnswer call.request.version call.request.ask call.outcome call.given →
      Called newest Means slots call session old new left unread replies
  request_called cred call session old now new left unread replies asking means may = record {
    version = asking.version;
    cred = cred;
    known = asking.known;
    done = asking.calls;
    are_calls = all_more (IsCall asking.version) asking.calls call asking.are_calls (asking.asked, may);
    leads = leads_more Means cred asking.calls call old now new asking.leads means;
    reads = subst (Consumes left unread)
        (append_assoc (hello_encoding asking.version cred) (asked_encoding asking.calls)
        (request_encoding call.request call.text)
        ∙ ap (λ (l : List ℕ). hello_encoding asking.version cred ++ l) (sym (asked_more asking.calls call)))
        (Consumes-trans left asking.behind unread _ _ asking.reads asking.asks);
    replied = asking.replied;
    limit = asking.limit;
    caller = asking.caller;
    counts = omega (arith, asking.counts, length_more asking.calls call);
    bounded = asking.bounded;
    gathered = asking.gathered;
  }

  -- It has its reply.
  pub call_replied : (call : Call) (session session' : Session) (old new : K) (left unread : Option (List ℕ))
      (replies : List Gathered) → Called newest Means slots call session old new left unread replies →
      IsReplied call.outcome → session'.newest ≡ session.newest → session'.caller ≡ session.caller →
      session'.requests ≡ session.requests →
      Pending newest Means slots session' old new left unread (replies ++ reply_to call ∷ [])
  call_replied call session session' old new left unread replies called replied limit caller count = inr (record {
    version = called.version;
    cred = called.cred;
    known = called.known;
    calls = called.done ++ call ∷ [];
    are_calls = called.are_calls;
    leads = called.leads;
    reads = called.reads;
    replied = all_more (λ (c : Call). IsReplied c.outcome) called.done call called.replied replied;
    limit = limit ∙ called.limit;
    caller = caller ∙ called.caller;
    counts = count ∙ called.counts;
    bounded = omega (arith, count, called.bounded);
    gathered = ap (λ (l : List Gathered). l ++ reply_to call ∷ []) called.gathered
        ∙ sym (replies_more called.version slots called.done call);
  })
