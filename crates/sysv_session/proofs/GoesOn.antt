-- How a conversation goes on, from its start to its end.
use Rattle.std.proofs.Common.{◌≡◌, ℕ, ◌+◌, ◌-◌, ◌^◌, ◌<◌, ◌≤◌, Bool, true, false, cond, List, [], ◌∷◌, ◌++◌, length}
use Rattle.std.proofs.Common.{take, Option, None}
use Rattle.std.proofs.Common.{Some, Ok, Err, refl, sym, ap, ap₂, subst, subst₂, ◌∙◌, arith, inl, inr}
use Rattle.std.proofs.Common.{add-zero, append-nil, length-append}
use Rattle.std.specs.Io.KnownBytes.{Appends, Consumes}
use Rattle.std.proofs.KnownBytes.{Consumes-nil}
use Rattle.sysv_model.specs.declared.cred.Cred.{Cred}
use Rattle.sysv_queue.specs.Tally.{Tallied, taken_in}
use Rattle.sysv_session.specs.declared.handler.RequestOutcome.{RequestOutcome}
use Rattle.sysv_session.specs.declared.handler.RequestOutcome.TheVariants.{Reply, Got, Left as WasLeft}
use Rattle.sysv_session.specs.declared.served.End.{End}
use Rattle.sysv_session.specs.declared.served.End.TheVariants.{Ended, NoMemory, NoHello, Fault, Write, Bound, Left}
use Rattle.sysv_session.specs.declared.served.End.TheVariants.{Reset}
use Rattle.sysv_session.specs.declared.served.TheConstants.{SESSION_REQUESTS}
use Rattle.sysv_session.specs.declared.session.Session.{Session}
use Rattle.sysv_session.specs.declared.session.TakenUp.TheVariants.{Hello, Request as Asked}
use Rattle.sysv_session.specs.Answers.{IsReplied, MayAnswer, messages_in}
use Rattle.sysv_session.specs.Calls.{Call, Meaning}
use Rattle.sysv_session.specs.Conversation.{HasRoom, Puts, Dialogue, gathered, report, reported, sent_on, with_outcome}
use Rattle.sysv_session.specs.Failing.{is_reset}
use Rattle.sysv_session.specs.Gathered.{Gathered, Gathers, all_bytes, ends_message, marks_from, messages_among}
use Rattle.sysv_session.specs.Gathered.{messages_passed, messages_within}
use Rattle.sysv_session.specs.Input.{hello_encoding}
use Rattle.sysv_session.specs.Outbox.{Mark, Unsent, at_end, with_frame}
use Rattle.sysv_session.specs.Output.{AreReplied, hello_frame}
use Rattle.sysv_session.specs.Stands.{Stands, StandsAsking, StandsGreeting, Stopped}
use Rattle.sysv_session.specs.Stands.{only_lost}
use Rattle.sysv_session.specs.TakenUp.{EndsHere, TakesRequest, TakesUp}
use Rattle.sysv_session.specs.Together.{IsStoppedWithin, Replied, Reports, ServesTogether, StopsAfter, StopsBefore}
use Rattle.sysv_session.specs.Together.{unread_at}
use Rattle.sysv_session.specs.Pending.{Fresh, Greeted, Pending, greeting, replies_to, reply_for, reply_to}
use Rattle.sysv_session.proofs.GatheredLemmas.{closes, gathers_message, gathers_none, gathers_on, gathers_reply}
use Rattle.sysv_session.proofs.ListLemmas.{all_more, few_messages, messages_more}
use Rattle.sysv_session.proofs.OutboxLemmas.{each_once, few_within}
use Rattle.sysv_session.proofs.TogetherLemmas.{fault_within, last_of_replies, replies_messages, stops_before}
use Rattle.sysv_session.proofs.PendingLemmas.{Called, call_replied, hello_replied, hello_taken, request_called}
use Rattle.sysv_session.proofs.PendingLemmas.{request_taken}
use Rattle.sysv_wire.specs.declared.fault.Fault.TheVariants.{Read}
use Rattle.sysv_wire.specs.declared.frame.Version.{Version}
use Rattle.sysv_wire.specs.declared.request.Request.{Request}

-- The same for an equal outbox and an equal tally.
regathered : (start : Tallied) (replies : List Gathered) (taken : List ℕ) (box box' : Unsent) (tally tally' : Tallied)
    → box' ≡ box → tally' ≡ tally → Gathers start replies taken box tally → Gathers start replies taken box' tally'
regathered start replies taken box box' tally tally' same equal old =
    subst₂ (λ (b : Unsent) (t : Tallied). Gathers start replies taken b t) (sym same) (sym equal) old

-- Each message among the replies is in the outbox or was counted.
each_counted : (lost : ℕ) (replies : List Gathered) (taken : List ℕ) (box : Unsent) (tally : Tallied) →
    Gathers (only_lost lost) replies taken box tally →
    taken_in tally + length box.marks ≡ lost + messages_among replies
each_counted lost replies taken box tally old =
    omega (
      arith,
      old.written,
      old.lost,
      ap (length {A = Mark}) old.marks,
      each_once (length taken) (marks_from 0 replies),
    )

few_replies : (version : Version) (slots : ℕ) (calls : List Call) (replies : List Gathered) →
    replies ≡ replies_to version slots calls → messages_among replies ≤ length calls
few_replies version slots calls replies are =
    omega (arith, ap messages_among are, replies_messages version slots calls, few_messages calls)

-- The reply of an outcome is gathered.
gathers_outcome : (start : Tallied) (replies : List Gathered) (taken : List ℕ) (box : Unsent) (tally : Tallied)
    (version : Version) (outcome : RequestOutcome) (given : List ℕ) → IsReplied outcome →
    Gathers start replies taken box tally →
    Gathers start (replies ++ reply_for version outcome given ∷ []) taken (with_outcome version outcome given box) tally
gathers_outcome start replies taken box tally version (Reply reply) given replied old =
    gathers_reply start replies taken box tally _ old
gathers_outcome start replies taken box tally version (Got delivery) given replied old =
    gathers_message start replies taken box tally version delivery given old
gathers_outcome start replies taken box tally version WasLeft given replied old = absurd replied

-- Why nothing was taken up, as what stops a session.
stops_after : (newest version : Version) (why : End) (requests : ℕ) (left rest : Option (List ℕ)) (text : List ℕ) →
    requests < SESSION_REQUESTS → TakesRequest newest version (Err why) left rest text →
    StopsAfter newest version why left rest × IsStoppedWithin why requests
stops_after newest version Ended requests left rest text few takes = (takes, few)
stops_after newest version NoMemory requests left rest text few takes = absurd takes
stops_after newest version NoHello requests left rest text few takes = absurd takes
stops_after newest version (Fault fault) requests left rest text few takes = (takes, fault_within fault requests few)
stops_after newest version Write requests left rest text few takes = absurd takes
stops_after newest version Bound requests left rest text few takes = absurd takes
stops_after newest version Left requests left rest text few takes = absurd takes
stops_after newest version Reset requests left rest text few takes = absurd takes

-- All requests have a reply, whatever stops the session, if it is none of these.
all_reply : (newest : Version) (why : End) (version : Version) (slots : ℕ) (calls : List Call)
    (left rest : Option (List ℕ))
    (text : List ℕ) (replies : List Gathered) → TakesRequest newest version (Err why) left rest text →
    AreReplied calls × (replies ≡ replies_to version slots calls) → Replied why version slots calls replies
all_reply newest Ended version slots calls left rest text replies takes all = all
all_reply newest NoMemory version slots calls left rest text replies takes all = absurd takes
all_reply newest NoHello version slots calls left rest text replies takes all = absurd takes
all_reply newest (Fault fault) version slots calls left rest text replies takes all = all
all_reply newest Write version slots calls left rest text replies takes all = absurd takes
all_reply newest Bound version slots calls left rest text replies takes all = absurd takes
all_reply newest Left version slots calls left rest text replies takes all = absurd takes
all_reply newest Reset version slots calls left rest text replies takes all = absurd takes

append_empty : (xs ys : List ℕ) → xs ++ ys ≡ [] → xs ≡ []
append_empty [] ys none = refl
append_empty (x ∷ xs) ys none = absurd (omega (arith, ap (length {A = ℕ}) none))

-- What is reported, by what was sent.
reports_of : (why : End) (bytes taken all : List ℕ) → all ≡ taken ++ bytes → Reports (reported why bytes) why taken all
reports_of why [] taken all is = inl (refl, sym (is ∙ append-nil taken))
reports_of why (byte ∷ more) taken all is = inr (
  refl,
  λ same. absurd (omega (arith, ap (length {A = ℕ}) (same ∙ is), length-append taken (byte ∷ more))),
)

-- Each message that was counted or is in the outbox is counted once.
all_at_end : (reset : Bool) (marks : List Mark) (tally : Tallied) →
    taken_in (at_end reset marks tally) ≡ taken_in tally + length marks
all_at_end true marks tally = omega arith
all_at_end false marks tally = omega (arith, few_within 0 marks)

none_at_end : (reset : Bool) (marks : List Mark) (tally : Tallied) → taken_in tally + length marks ≡ 0 →
    at_end reset marks tally ≡ record { written = 0; lost = 0 }
none_at_end reset marks tally none =
    let all = all_at_end reset marks tally in
    let written : (at_end reset marks tally).written ≡ 0 = omega (arith, all, none) in
    let lost : (at_end reset marks tally).lost ≡ 0 = omega (arith, all, none) in
    ap₂ (λ (w l : ℕ). let t : Tallied = record { written = w; lost = l } in t) written lost

-- The messages that count as written at the end are those whose frames were taken whole; but after a
-- reset none whose frame ends with the last byte that was taken.
written_at_end : (why : End) (version : Version) (slots : ℕ) (calls : List Call) (replies : List Gathered) (lost : ℕ)
    (taken : List ℕ) (box : Unsent) (tally : Tallied) → Replied why version slots calls replies →
    Gathers (only_lost lost) replies taken box tally →
    (at_end (is_reset why) box.marks tally).written + unread_at why (length taken) replies
    ≡ messages_within (length taken) replies
written_at_end Ended version slots calls replies lost taken box tally replied old =
    omega (arith, (closes false (only_lost lost) replies taken box tally old).written)
written_at_end NoMemory version slots calls replies lost taken box tally replied old =
    omega (arith, (closes false (only_lost lost) replies taken box tally old).written)
written_at_end NoHello version slots calls replies lost taken box tally replied old =
    omega (arith, (closes false (only_lost lost) replies taken box tally old).written)
written_at_end (Fault fault) version slots calls replies lost taken box tally replied old =
    omega (arith, (closes false (only_lost lost) replies taken box tally old).written)
written_at_end Write version slots calls replies lost taken box tally replied old =
    omega (arith, (closes false (only_lost lost) replies taken box tally old).written)
written_at_end Bound version slots calls replies lost taken box tally replied old =
    omega (arith, (closes false (only_lost lost) replies taken box tally old).written)
written_at_end Left version slots calls replies lost taken box tally replied old =
    omega (arith, (closes false (only_lost lost) replies taken box tally old).written)
written_at_end Reset version slots calls replies lost taken box tally replied old =
    let n = length taken in
    let last : messages_within n replies ≡ messages_passed n replies + cond (ends_message n replies) 1 0 =
    subst (λ (l : List Gathered). messages_within n l ≡ messages_passed n l + cond (ends_message n l) 1 0)
    (sym replied.1) (last_of_replies version slots calls n replied.0) in
    omega (arith, (closes true (only_lost lost) replies taken box tally old).written, last)

module _ (newest : Version) {K : Type 0} (Means : Meaning K) (slots : ℕ) where
  -- A new conversation stands.
  pub opens : (dialogue : Dialogue) (k : K) (left : Option (List ℕ)) → dialogue.session.newest ≡ newest →
      dialogue.session.caller ≡ None →
      dialogue.session.tally ≡ record { written = 0; lost = 0 } → dialogue.session.requests ≡ 0 →
      dialogue.unsent ≡ record { bytes = []; marks = [] } → Stands newest Means slots dialogue k k left left []
  opens dialogue k left limit caller tally counts unsent = record {
    replies = [];
    pending =
        inl (record { limit = limit; caller = caller; counts = counts; handler = refl; reads = refl; gathered = refl });
    gathers = regathered (only_lost 0) [] [] _ dialogue.unsent _ dialogue.session.tally unsent tally
        (gathers_none (only_lost 0));
  }

  -- A hello is taken up.
  pub takes_hello : (version : Version) (dialogue dialogue' : Dialogue) (old now : K)
      (left unread rest : Option (List ℕ))
      (taken text : List ℕ) → Stands newest Means slots dialogue old now left unread taken →
      TakesUp dialogue.session dialogue'.session (Ok (Hello version)) unread rest text →
      dialogue'.unsent ≡ dialogue.unsent →
      StandsGreeting newest version dialogue' old now left rest taken
  takes_hello version dialogue dialogue' old now left unread rest taken text stands takes same = record {
    replies = stands.replies;
    greets =
        hello_taken newest Means slots version dialogue.session dialogue'.session old now left unread rest text
        stands.replies
        stands.pending takes;
    gathers = regathered (only_lost 0) stands.replies taken dialogue.unsent dialogue'.unsent dialogue.session.tally
        dialogue'.session.tally same (ap (λ (s : Session). s.tally) takes.3) stands.gathers;
  }

  -- The reply to the hello is gathered.
  pub greets : (version : Version) (dialogue dialogue' : Dialogue) (old now : K) (left unread : Option (List ℕ))
      (taken : List ℕ)
      → StandsGreeting newest version dialogue old now left unread taken →
      dialogue' ≡ gathered (with_frame (hello_frame version slots)) dialogue →
      Stands newest Means slots dialogue' old now left unread taken
  greets version dialogue dialogue' old now left unread taken stands is =
      let replies = stands.replies ++ greeting version slots ∷ [] in
      record {
        replies = replies;
        pending =
            hello_replied newest Means slots version dialogue.session dialogue'.session old now left unread
            stands.replies
            stands.greets (ap (λ (t : Dialogue). t.session.newest) is) (ap (λ (t : Dialogue). t.session.caller) is)
            (ap (λ (t : Dialogue). t.session.requests) is);
        gathers = regathered (only_lost 0) replies taken _ dialogue'.unsent _ dialogue'.session.tally
            (ap (λ (t : Dialogue). t.unsent) is) (ap (λ (t : Dialogue). t.session.tally) is)
            (gathers_reply (only_lost 0) stands.replies taken dialogue.unsent dialogue.session.tally
            (hello_frame version slots) stands.gathers);
      }

  -- Memory was refused for the reply to the hello.
  pub greet_ends : (version : Version) (dialogue : Dialogue) (old now : K) (left unread : Option (List ℕ))
      (taken : List ℕ) →
      StandsGreeting newest version dialogue old now left unread taken →
      Stopped newest Means slots NoMemory dialogue old now left unread taken
  greet_ends version dialogue old now left unread taken stands =
      let hello = stands.greets in
      inr (record {
        version = version;
        cred = hello.cred;
        known = hello.known;
        calls = [];
        are_calls = tt;
        leads = hello.handler;
        unread = unread;
        reads = subst (Consumes left unread) (sym (append-nil (hello_encoding version hello.cred))) hello.reads;
        ends = refl;
        within = tt;
        replies = stands.replies;
        replied = inr (inl (refl, hello.gathered));
        lost = 0;
        gathers = stands.gathers;
        all = omega (arith, ap messages_among hello.gathered);
        counts = omega (arith, hello.counts);
        bounded = omega (arith, hello.counts);
      })

  -- A request is taken up.
  pub takes_request : (cred : Cred) (request : Request) (dialogue dialogue' : Dialogue) (old now : K)
      (left unread rest : Option (List ℕ)) (taken text : List ℕ) →
      Stands newest Means slots dialogue old now left unread taken →
      TakesUp dialogue.session dialogue'.session (Ok (Asked cred request)) unread rest text →
      dialogue'.unsent ≡ dialogue.unsent →
      StandsAsking newest Means slots cred request text dialogue' old now left rest taken
  takes_request cred request dialogue dialogue' old now left unread rest taken text stands takes same = record {
    replies = stands.replies;
    asking =
        request_taken newest Means slots cred request dialogue.session dialogue'.session old now left unread rest text
        stands.replies stands.pending takes;
    gathers = regathered (only_lost 0) stands.replies taken dialogue.unsent dialogue'.unsent dialogue.session.tally
        dialogue'.session.tally same (ap (λ (s : Session). s.tally) takes.4) stands.gathers;
  }

  -- One more call, whose outcome is there.
  module _ (cred : Cred) (request : Request) (text : List ℕ) (outcome : RequestOutcome) (given : List ℕ)
      (dialogue : Dialogue)
      (old now new : K) (left unread : Option (List ℕ)) (taken : List ℕ)
      (stands : StandsAsking newest Means slots cred request text dialogue old now left unread taken)
      (means : Means now cred request text outcome given new)
      (may : MayAnswer request.version request.ask outcome given) where
    abbrev call : Call
    call = record { request = request; text = text; outcome = outcome; given = given }

    called : Called newest Means slots call dialogue.session old new left unread stands.replies
    called =
        request_called newest Means slots cred call dialogue.session old now new left unread stands.replies
        stands.asking means
        may

    -- The reply is gathered.
    pub puts : (dialogue' : Dialogue) → Puts (Ok tt) request.version outcome given dialogue dialogue' →
        Stands newest Means slots dialogue' old new left unread taken
    puts dialogue' put = record {
      replies = stands.replies ++ reply_to call ∷ [];
      pending =
          call_replied newest Means slots call dialogue.session dialogue'.session old new left unread stands.replies
          called
          put.0 (ap (λ (t : Dialogue). t.session.newest) put.1) (ap (λ (t : Dialogue). t.session.caller) put.1)
          (ap (λ (t : Dialogue). t.session.requests) put.1);
      gathers = regathered (only_lost 0) (stands.replies ++ reply_to call ∷ []) taken _ dialogue'.unsent _
          dialogue'.session.tally (ap (λ (t : Dialogue). t.unsent) put.1) (ap (λ (t : Dialogue). t.session.tally) put.1)
          (gathers_outcome (only_lost 0) stands.replies taken dialogue.unsent dialogue.session.tally request.version
          outcome given put.0 stands.gathers);
    }

    -- It stops with this call, whose reply was not gathered.
    stops_asking : (why : End) (dialogue' : Dialogue) (lost : ℕ) → StopsAfter newest called.version why unread unread →
        IsStoppedWithin why dialogue'.session.requests →
        Replied why called.version slots (called.done ++ call ∷ []) stands.replies →
        dialogue'.unsent ≡ dialogue.unsent →
        dialogue'.session.requests ≡ dialogue.session.requests →
        dialogue'.session.tally
        ≡ record { written = dialogue.session.tally.written; lost = dialogue.session.tally.lost + lost } →
        messages_in outcome ≡ lost → Stopped newest Means slots why dialogue' old new left unread taken
    stops_asking why dialogue' lost ends within replied same count tally one = inr (record {
      version = called.version;
      cred = called.cred;
      known = called.known;
      calls = called.done ++ call ∷ [];
      are_calls = called.are_calls;
      leads = called.leads;
      unread = unread;
      reads = called.reads;
      ends = ends;
      within = within;
      replies = stands.replies;
      replied = replied;
      lost = lost;
      gathers = record {
        bytes = stands.gathers.bytes ∙ ap (λ (b : Unsent). taken ++ b.bytes) (sym same);
        marks = ap (λ (b : Unsent). b.marks) same ∙ stands.gathers.marks;
        written = ap (λ (t : Tallied). t.written) tally ∙ stands.gathers.written;
        lost = omega (arith, ap (λ (t : Tallied). t.lost) tally, stands.gathers.lost);
      };
      all = omega (
        arith,
        messages_more called.done call,
        one,
        ap messages_among called.gathered,
        replies_messages called.version slots called.done,
      );
      counts = count ∙ called.counts;
      bounded = omega (arith, count, called.bounded);
    })

    -- Memory was refused for the reply, or the call was left.
    pub put_ends : (why : End) (dialogue' : Dialogue) →
        Puts (Err why) request.version outcome given dialogue dialogue' →
        Stopped newest Means slots why dialogue' old new left unread taken
    put_ends NoMemory dialogue' put =
        stops_asking NoMemory dialogue' (messages_in outcome) refl tt
        (inr (inr (
          called.done,
          call,
          refl,
          all_more (λ (c : Call). IsReplied c.outcome) called.done call called.replied
              put.0,
          called.gathered,
        )))
        (ap (λ (t : Dialogue). t.unsent) put.1) (ap (λ (t : Dialogue). t.session.requests) put.1)
        (ap (λ (t : Dialogue). t.session.tally) put.1) refl
    put_ends Left dialogue' put =
        stops_asking Left dialogue' 0 refl tt
        (called.done, call, refl, put.0, (called.replied, called.gathered))
        (ap (λ (t : Dialogue). t.unsent) put.1) (ap (λ (t : Dialogue). t.session.requests) put.1)
        (ap (λ (t : Dialogue). t.session.tally) put.1
        ∙ ap (λ (n : ℕ). let t : Tallied = record { written = dialogue.session.tally.written; lost = n } in t)
        (sym (add-zero dialogue.session.tally.lost)))
        (ap messages_in put.0)
    put_ends Ended dialogue' put = absurd put
    put_ends NoHello dialogue' put = absurd put
    put_ends (Fault fault) dialogue' put = absurd put
    put_ends Write dialogue' put = absurd put
    put_ends Bound dialogue' put = absurd put
    put_ends Reset dialogue' put = absurd put

  -- The call is left.
  pub leaves : (cred : Cred) (request : Request) (text given : List ℕ) (dialogue : Dialogue) (old now new : K)
      (left unread : Option (List ℕ)) (taken : List ℕ)
      → StandsAsking newest Means slots cred request text dialogue old now left unread taken
      → Means now cred request text WasLeft given new → MayAnswer request.version request.ask WasLeft given
      → Stopped newest Means slots Left dialogue old new left unread taken
  leaves cred request text given dialogue old now new left unread taken stands means may =
      put_ends cred request text WasLeft given dialogue old now new left unread taken stands means may Left dialogue
      (refl, refl)

  -- It stops where it stands, after its hello.
  stops_greeted : (why : End) (dialogue dialogue' : Dialogue) (old now : K) (left unread rest : Option (List ℕ))
      (taken : List ℕ)
      (stands : Stands newest Means slots dialogue old now left unread taken)
      (greeted : Greeted newest Means slots dialogue.session old now left unread stands.replies)
      → StopsAfter newest greeted.version why unread rest → IsStoppedWithin why dialogue.session.requests
      → Replied why greeted.version slots greeted.calls stands.replies → dialogue' ≡ dialogue
      → Stopped newest Means slots why dialogue' old now left rest taken
  stops_greeted why dialogue dialogue' old now left unread rest taken stands greeted ends within replied same =
      let count : dialogue'.session.requests ≡ dialogue.session.requests =
      ap (λ (t : Dialogue). t.session.requests) same in
      inr (record {
        version = greeted.version;
        cred = greeted.cred;
        known = greeted.known;
        calls = greeted.calls;
        are_calls = greeted.are_calls;
        leads = greeted.leads;
        unread = unread;
        reads = greeted.reads;
        ends = ends;
        within = subst (IsStoppedWithin why) (sym count) within;
        replies = stands.replies;
        replied = replied;
        lost = 0;
        gathers = regathered (only_lost 0) stands.replies taken dialogue.unsent dialogue'.unsent dialogue.session.tally
            dialogue'.session.tally (ap (λ (t : Dialogue). t.unsent) same) (ap (λ (t : Dialogue). t.session.tally) same)
            stands.gathers;
        all = omega (
          arith,
          ap messages_among greeted.gathered,
          replies_messages greeted.version slots greeted.calls,
        );
        counts = count ∙ greeted.counts;
        bounded = omega (arith, count, greeted.bounded);
      })

  -- It stops before its hello.
  stops_fresh : (why : End) (dialogue dialogue' : Dialogue) (old now : K) (left unread rest : Option (List ℕ))
      (taken : List ℕ)
      (stands : Stands newest Means slots dialogue old now left unread taken)
      (fresh : Fresh newest dialogue.session old now left unread stands.replies)
      → StopsBefore newest why unread rest → dialogue' ≡ dialogue
      → Stopped newest Means slots why dialogue' old now left rest taken
  stops_fresh why dialogue dialogue' old now left unread rest taken stands fresh ends same = inl (record {
    handler = fresh.handler;
    ends = subst (λ (l : Option (List ℕ)). StopsBefore newest why l rest) fresh.reads ends;
    gathers = subst (λ (l : List Gathered). Gathers (only_lost 0) l taken dialogue'.unsent dialogue'.session.tally)
        fresh.gathered
        (regathered (only_lost 0) stands.replies taken dialogue.unsent dialogue'.unsent dialogue.session.tally
        dialogue'.session.tally (ap (λ (t : Dialogue). t.unsent) same) (ap (λ (t : Dialogue). t.session.tally) same)
        stands.gathers);
    counts = ap (λ (t : Dialogue). t.session.requests) same ∙ fresh.counts;
  })

  reads_stop_at : (why : End) (dialogue dialogue' : Dialogue) (old now : K) (left unread rest : Option (List ℕ))
      (taken text : List ℕ) (stands : Stands newest Means slots dialogue old now left unread taken)
      (greeted : Greeted newest Means slots dialogue.session old now left unread stands.replies) →
      dialogue' ≡ dialogue →
      EndsHere newest (Some (greeted.version, greeted.cred)) dialogue.session.requests why unread rest text →
      Stopped newest Means slots why dialogue' old now left rest taken
  reads_stop_at why dialogue dialogue' old now left unread rest taken text stands greeted same (inl bound) =
      let most : dialogue.session.requests ≡ SESSION_REQUESTS = omega (arith, bound.0, greeted.bounded) in
      subst (λ (w : End). Stopped newest Means slots w dialogue' old now left rest taken) (sym bound.1)
      (stops_greeted Bound dialogue dialogue' old now left unread rest taken stands greeted bound.2 most
      (greeted.replied, greeted.gathered) same)
  reads_stop_at why dialogue dialogue' old now left unread rest taken text stands greeted same (inr read) =
      let ends = stops_after newest greeted.version why dialogue.session.requests unread rest text read.0 read.1 in
      stops_greeted why dialogue dialogue' old now left unread rest taken stands greeted ends.0 ends.1
      (all_reply newest why greeted.version slots greeted.calls unread rest text stands.replies read.1
      (greeted.replied, greeted.gathered)) same

  limited : (why : End) (dialogue : Dialogue) (unread rest : Option (List ℕ)) (text : List ℕ) →
      dialogue.session.newest ≡ newest →
      EndsHere dialogue.session.newest dialogue.session.caller dialogue.session.requests why unread rest text →
      EndsHere newest dialogue.session.caller dialogue.session.requests why unread rest text
  limited why dialogue unread rest text limit here =
      subst (λ (n : Version). EndsHere n dialogue.session.caller dialogue.session.requests why unread rest text) limit
      here

  -- What it reads stops it.
  reads_stop : (why : End) (dialogue dialogue' : Dialogue) (old now : K) (left unread rest : Option (List ℕ))
      (taken text : List ℕ)
      (stands : Stands newest Means slots dialogue old now left unread taken) →
      Pending newest Means slots dialogue.session old now left unread stands.replies → dialogue' ≡ dialogue →
      EndsHere dialogue.session.newest dialogue.session.caller dialogue.session.requests why unread rest text →
      Stopped newest Means slots why dialogue' old now left rest taken
  reads_stop why dialogue dialogue' old now left unread rest taken text stands (inl fresh) same here =
      let ends =
      subst (λ (c : Option (Version × Cred)). EndsHere newest c dialogue.session.requests why unread rest text)
      fresh.caller (limited why dialogue unread rest text fresh.limit here) in
      stops_fresh why dialogue dialogue' old now left unread rest taken stands fresh
      (stops_before newest why unread rest ends.0) same
  reads_stop why dialogue dialogue' old now left unread rest taken text stands (inr greeted) same here =
      reads_stop_at why dialogue dialogue' old now left unread rest taken text stands greeted same
      (subst (λ (c : Option (Version × Cred)). EndsHere newest c dialogue.session.requests why unread rest text)
      greeted.caller (limited why dialogue unread rest text greeted.limit here))

  pub stops : (why : End) (dialogue dialogue' : Dialogue) (old now : K) (left unread rest : Option (List ℕ))
      (taken text : List ℕ)
      → Stands newest Means slots dialogue old now left unread taken →
      TakesUp dialogue.session dialogue'.session (Err why) unread rest text → dialogue'.unsent ≡ dialogue.unsent →
      Stopped newest Means slots why dialogue' old now left rest taken
  stops why dialogue dialogue' old now left unread rest taken text stands takes same =
      reads_stop why dialogue dialogue' old now left unread rest taken text stands stands.pending
      (ap₂ (λ (s : Session) (u : Unsent). let t : Dialogue = record { session = s; unsent = u } in t) takes.0 same)
      takes.1

  -- It stops without reading.
  stops_quiet : (why : End) (dialogue : Dialogue) (old now : K) (left unread : Option (List ℕ)) (taken : List ℕ)
      (stands : Stands newest Means slots dialogue old now left unread taken)
      → Pending newest Means slots dialogue.session old now left unread stands.replies
      → StopsBefore newest why unread unread
      → ((version : Version) → StopsAfter newest version why unread unread)
      → IsStoppedWithin why dialogue.session.requests
      → ((version : Version) (calls : List Call) (replies : List Gathered)
      → AreReplied calls × (replies ≡ replies_to version slots calls) → Replied why version slots calls replies)
      → Stopped newest Means slots why dialogue old now left unread taken
  stops_quiet why dialogue old now left unread taken stands (inl fresh) before after within all =
      stops_fresh why dialogue dialogue old now left unread unread taken stands fresh before refl
  stops_quiet why dialogue old now left unread taken stands (inr greeted) before after within all =
      stops_greeted why dialogue dialogue old now left unread unread taken stands greeted (after greeted.version) within
      (all greeted.version greeted.calls stands.replies (greeted.replied, greeted.gathered)) refl

  stops_waiting : (dialogue : Dialogue) (old now : K) (left unread : Option (List ℕ)) (taken : List ℕ) →
      0 < length dialogue.unsent.bytes → (stands : Stands newest Means slots dialogue old now left unread taken) →
      Pending newest Means slots dialogue.session old now left unread stands.replies →
      Stopped newest Means slots Write dialogue old now left unread taken
  stops_waiting dialogue old now left unread taken some stands (inl fresh) =
      absurd (omega (
        arith,
        some,
        ap (λ (l : List Gathered). length (all_bytes l)) fresh.gathered,
        ap (length {A = ℕ}) stands.gathers.bytes,
        length-append taken dialogue.unsent.bytes,
      ))
  stops_waiting dialogue old now left unread taken some stands (inr greeted) =
      stops_greeted Write dialogue dialogue old now left unread unread taken stands greeted refl tt
      (greeted.replied, greeted.gathered) refl

  -- Memory was refused for what it reads.
  pub stops_memory : (dialogue : Dialogue) (old now : K) (left unread : Option (List ℕ)) (taken : List ℕ)
      → Stands newest Means slots dialogue old now left unread taken
      → Stopped newest Means slots NoMemory dialogue old now left unread taken
  stops_memory dialogue old now left unread taken stands =
      stops_quiet NoMemory dialogue old now left unread taken stands stands.pending refl (λ v. refl) tt
      (λ v calls replies all. inl all)

  -- The connection cannot be read.
  pub stops_read : (dialogue : Dialogue) (old now : K) (left unread : Option (List ℕ)) (taken : List ℕ)
      → Stands newest Means slots dialogue old now left unread taken →
      Stopped newest Means slots (Fault Read) dialogue old now left unread taken
  stops_read dialogue old now left unread taken stands =
      stops_quiet (Fault Read) dialogue old now left unread taken stands stands.pending
      ([], Consumes-nil unread, tt, tt) (λ v. ([], Consumes-nil unread, tt, tt)) tt (λ v calls replies all. all)

  -- The client has reset the connection.
  pub stops_reset : (dialogue : Dialogue) (old now : K) (left unread : Option (List ℕ)) (taken : List ℕ)
      → Stands newest Means slots dialogue old now left unread taken
      → Stopped newest Means slots Reset dialogue old now left unread taken
  stops_reset dialogue old now left unread taken stands =
      stops_quiet Reset dialogue old now left unread taken stands stands.pending refl (λ v. refl) tt
      (λ v calls replies all. all)

  -- The connection takes no more, and some replies are left.
  pub stops_write : (dialogue : Dialogue) (old now : K) (left unread : Option (List ℕ)) (taken : List ℕ)
      → 0 < length dialogue.unsent.bytes → Stands newest Means slots dialogue old now left unread taken →
      Stopped newest Means slots Write dialogue old now left unread taken
  stops_write dialogue old now left unread taken some stands =
      stops_waiting dialogue old now left unread taken some stands stands.pending

  -- The connection takes n bytes more.
  gathers_sent : (lost : ℕ) (replies : List Gathered) (taken : List ℕ) (n : ℕ) (dialogue dialogue' : Dialogue) →
      n ≤ length dialogue.unsent.bytes → dialogue' ≡ sent_on n dialogue →
      Gathers (only_lost lost) replies taken dialogue.unsent dialogue.session.tally →
      Gathers (only_lost lost) replies (taken ++ take n dialogue.unsent.bytes) dialogue'.unsent dialogue'.session.tally
  gathers_sent lost replies taken n dialogue dialogue' fits is old =
      regathered (only_lost lost) replies (taken ++ take n dialogue.unsent.bytes) _ dialogue'.unsent _
      dialogue'.session.tally
      (ap (λ (t : Dialogue). t.unsent) is) (ap (λ (t : Dialogue). t.session.tally) is)
      (gathers_on (only_lost lost) replies taken dialogue.unsent dialogue.session.tally n fits old)

  -- What is pending does not depend on the tally.
  same_way : (dialogue dialogue' : Dialogue) (old now : K) (left unread : Option (List ℕ)) (replies : List Gathered) →
      dialogue'.session.newest ≡ dialogue.session.newest →
      dialogue'.session.caller ≡ dialogue.session.caller → dialogue'.session.requests ≡ dialogue.session.requests →
      Pending newest Means slots dialogue.session old now left unread replies →
      Pending newest Means slots dialogue'.session old now left unread replies
  same_way dialogue dialogue' old now left unread replies limit caller count (inl fresh) = inl (record {
    limit = limit ∙ fresh.limit;
    caller = caller ∙ fresh.caller;
    counts = count ∙ fresh.counts;
    handler = fresh.handler;
    reads = fresh.reads;
    gathered = fresh.gathered;
  })
  same_way dialogue dialogue' old now left unread replies limit caller count (inr greeted) = inr (record {
    version = greeted.version;
    cred = greeted.cred;
    known = greeted.known;
    calls = greeted.calls;
    are_calls = greeted.are_calls;
    leads = greeted.leads;
    reads = greeted.reads;
    replied = greeted.replied;
    limit = limit ∙ greeted.limit;
    caller = caller ∙ greeted.caller;
    counts = count ∙ greeted.counts;
    bounded = omega (arith, count, greeted.bounded);
    gathered = greeted.gathered;
  })

  pub sends : (n : ℕ) (dialogue dialogue' : Dialogue) (old now : K) (left unread : Option (List ℕ)) (taken : List ℕ) →
      n ≤ length dialogue.unsent.bytes → dialogue' ≡ sent_on n dialogue →
      Stands newest Means slots dialogue old now left unread taken →
      Stands newest Means slots dialogue' old now left unread (taken ++ take n dialogue.unsent.bytes)
  sends n dialogue dialogue' old now left unread taken fits is stands = record {
    replies = stands.replies;
    pending =
        same_way dialogue dialogue' old now left unread stands.replies (ap (λ (t : Dialogue). t.session.newest) is)
        (ap (λ (t : Dialogue). t.session.caller) is)
        (ap (λ (t : Dialogue). t.session.requests) is) stands.pending;
    gathers = gathers_sent 0 stands.replies taken n dialogue dialogue' fits is stands.gathers;
  }

  -- The same while a call is not over.
  pub sends_asking : (cred : Cred) (request : Request) (text : List ℕ) (n : ℕ) (dialogue dialogue' : Dialogue)
      (old now : K)
      (left unread : Option (List ℕ)) (taken : List ℕ) → n ≤ length dialogue.unsent.bytes →
      dialogue' ≡ sent_on n dialogue →
      StandsAsking newest Means slots cred request text dialogue old now left unread taken →
      StandsAsking newest Means slots cred request text dialogue' old now left unread
      (taken ++ take n dialogue.unsent.bytes)
  sends_asking cred request text n dialogue dialogue' old now left unread taken fits is stands =
      let count : dialogue'.session.requests ≡ dialogue.session.requests =
      ap (λ (t : Dialogue). t.session.requests) is in
      record {
        replies = stands.replies;
        asking = record {
          version = stands.asking.version;
          known = stands.asking.known;
          calls = stands.asking.calls;
          are_calls = stands.asking.are_calls;
          leads = stands.asking.leads;
          behind = stands.asking.behind;
          reads = stands.asking.reads;
          asks = stands.asking.asks;
          asked = stands.asking.asked;
          replied = stands.asking.replied;
          limit = ap (λ (t : Dialogue). t.session.newest) is ∙ stands.asking.limit;
          caller = ap (λ (t : Dialogue). t.session.caller) is ∙ stands.asking.caller;
          counts = count ∙ stands.asking.counts;
          bounded = omega (arith, count, stands.asking.bounded);
          gathered = stands.asking.gathered;
        };
        gathers = gathers_sent 0 stands.replies taken n dialogue dialogue' fits is stands.gathers;
      }

  -- The same once it stopped.
  pub sends_stopped : (why : End) (n : ℕ) (dialogue dialogue' : Dialogue) (old now : K) (left rest : Option (List ℕ))
      (taken : List ℕ) → n ≤ length dialogue.unsent.bytes → dialogue' ≡ sent_on n dialogue →
      Stopped newest Means slots why dialogue old now left rest taken →
      Stopped newest Means slots why dialogue' old now left rest (taken ++ take n dialogue.unsent.bytes)
  sends_stopped why n dialogue dialogue' old now left rest taken fits is (inl before) = inl (record {
    handler = before.handler;
    ends = before.ends;
    gathers = gathers_sent 0 [] taken n dialogue dialogue' fits is before.gathers;
    counts = ap (λ (t : Dialogue). t.session.requests) is ∙ before.counts;
  })
  sends_stopped why n dialogue dialogue' old now left rest taken fits is (inr after) =
      let count : dialogue'.session.requests ≡ dialogue.session.requests =
      ap (λ (t : Dialogue). t.session.requests) is in
      inr (record {
        version = after.version;
        cred = after.cred;
        known = after.known;
        calls = after.calls;
        are_calls = after.are_calls;
        leads = after.leads;
        unread = after.unread;
        reads = after.reads;
        ends = after.ends;
        within = subst (IsStoppedWithin why) (sym count) after.within;
        replies = after.replies;
        replied = after.replied;
        lost = after.lost;
        gathers = gathers_sent after.lost after.replies taken n dialogue dialogue' fits is after.gathers;
        all = after.all;
        counts = count ∙ after.counts;
        bounded = omega (arith, count, after.bounded);
      })

  few_pending : (dialogue : Dialogue) (old now : K) (left unread : Option (List ℕ)) (replies : List Gathered) →
      Pending newest Means slots dialogue.session old now left unread replies → messages_among replies < 2 ^ 32
  few_pending dialogue old now left unread replies (inl fresh) = omega (arith, ap messages_among fresh.gathered)
  few_pending dialogue old now left unread replies (inr greeted) =
      omega (
        arith,
        few_replies greeted.version slots greeted.calls replies greeted.gathered,
        greeted.counts,
        greeted.bounded,
      )

  -- The tally has room for each message in the outbox, and for one more.
  pub has_room : (dialogue : Dialogue) (old now : K) (left unread : Option (List ℕ)) (taken : List ℕ) →
      Stands newest Means slots dialogue old now left unread taken → HasRoom dialogue
  has_room dialogue old now left unread taken stands =
      omega (
        arith,
        each_counted 0 stands.replies taken dialogue.unsent dialogue.session.tally stands.gathers,
        few_pending dialogue old now left unread stands.replies stands.pending,
      )

  pub has_room_asking : (cred : Cred) (request : Request) (text : List ℕ) (dialogue : Dialogue) (old now : K)
      (left unread : Option (List ℕ)) (taken : List ℕ) →
      StandsAsking newest Means slots cred request text dialogue old now left unread taken →
      HasRoom dialogue × (taken_in dialogue.session.tally < 2 ^ 64 - 1)
  has_room_asking cred request text dialogue old now left unread taken stands =
      let each = each_counted 0 stands.replies taken dialogue.unsent dialogue.session.tally stands.gathers in
      let few = few_replies stands.asking.version slots stands.asking.calls stands.replies stands.asking.gathered in (
        omega (arith, each, few, stands.asking.counts, stands.asking.bounded),
        omega (arith, each, few, stands.asking.counts, stands.asking.bounded),
      )

  pub has_room_greeting : (version : Version) (dialogue : Dialogue) (old now : K) (left unread : Option (List ℕ))
      (taken : List ℕ) → StandsGreeting newest version dialogue old now left unread taken → HasRoom dialogue
  has_room_greeting version dialogue old now left unread taken stands =
      omega (
        arith,
        each_counted 0 stands.replies taken dialogue.unsent dialogue.session.tally stands.gathers,
        ap messages_among stands.greets.gathered,
      )

  pub has_room_stopped : (why : End) (dialogue : Dialogue) (old now : K) (left rest : Option (List ℕ))
      (taken : List ℕ) →
      Stopped newest Means slots why dialogue old now left rest taken → HasRoom dialogue
  has_room_stopped why dialogue old now left rest taken (inl before) =
      omega (arith, each_counted 0 [] taken dialogue.unsent dialogue.session.tally before.gathers)
  has_room_stopped why dialogue old now left rest taken (inr after) =
      omega (
        arith,
        each_counted after.lost after.replies taken dialogue.unsent dialogue.session.tally after.gathers,
        after.all,
        few_messages after.calls,
        after.counts,
        after.bounded,
      )

  -- It ends.
  pub ends : (why : End) (dialogue : Dialogue) (old now : K) (left rest before after : Option (List ℕ))
      (taken : List ℕ) →
      Stopped newest Means slots why dialogue old now left rest taken → Appends before after taken →
      ServesTogether newest Means slots (report why dialogue) old now left rest before after
  ends why dialogue old now left rest before after taken (inl none) writes =
      let nothing : taken ++ dialogue.unsent.bytes ≡ [] = sym none.gathers.bytes in
      let sent : taken ≡ [] = append_empty taken dialogue.unsent.bytes nothing in
      let empty : dialogue.unsent.bytes ≡ [] =
      sym (ap (λ (l : List ℕ). l ++ dialogue.unsent.bytes) sent) ∙ nothing in
      inl (record {
        handler = none.handler;
        ends = subst (λ (l : List ℕ). StopsBefore newest (reported why l) left rest) (sym empty) none.ends;
        writes = subst (Appends before after) sent writes;
        tallies = none_at_end (is_reset why) dialogue.unsent.marks dialogue.session.tally
            (each_counted 0 [] taken dialogue.unsent dialogue.session.tally none.gathers);
        counts = none.counts;
      })
  ends why dialogue old now left rest before after taken (inr stopped) writes =
      inr (record {
        version = stopped.version;
        cred = stopped.cred;
        known = stopped.known;
        calls = stopped.calls;
        are_calls = stopped.are_calls;
        leads = stopped.leads;
        unread = stopped.unread;
        reads = stopped.reads;
        stopped = why;
        ends = stopped.ends;
        bounded = stopped.within;
        replies = stopped.replies;
        replied = stopped.replied;
        sent = taken;
        prefix = (dialogue.unsent.bytes, stopped.gathers.bytes);
        writes = writes;
        reports = reports_of why dialogue.unsent.bytes taken (all_bytes stopped.replies) stopped.gathers.bytes;
        all = omega (
          arith,
          each_counted stopped.lost stopped.replies taken dialogue.unsent dialogue.session.tally stopped.gathers,
          all_at_end (is_reset why) dialogue.unsent.marks dialogue.session.tally,
          stopped.all,
        );
        written =
            written_at_end why stopped.version slots stopped.calls stopped.replies stopped.lost taken dialogue.unsent
            dialogue.session.tally stopped.replied stopped.gathers;
        counts = stopped.counts;
      })
