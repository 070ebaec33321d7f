-- A session that hands over each reply before it takes up more, from its start to its end.
use Rattle.std.proofs.Common.{◌≡◌, ℕ, ◌-◌, ◌<◌, ◌≤◌, ◌^◌, List, [], ◌∷◌, ◌++◌, length, Option, None, Some, Result, Ok}
use Rattle.std.proofs.Common.{Err}
use Rattle.std.proofs.Common.{refl, sym, ap, subst, subst₂, ◌∙◌, ◌+◌, arith, inl, inr, add-zero, append-nil}
use Rattle.std.proofs.Common.{length-append}
use Rattle.std.specs.Prelude.{⊤}
use Rattle.std.specs.Io.KnownBytes.{Appends, Consumes}
use Rattle.std.proofs.KnownBytes.{Appends-nil, Appends-trans}
use Rattle.std.specs.List.{concat}
use Rattle.sysv_model.specs.declared.cred.Cred.{Cred}
use Rattle.sysv_model.specs.Writing.{AppendsPrefix}
use Rattle.sysv_queue.specs.Tally.{Tallied, taken_in}
use Rattle.sysv_session.specs.declared.handler.RequestOutcome.{RequestOutcome}
use Rattle.sysv_session.specs.declared.handler.RequestOutcome.TheVariants.{Reply}
use Rattle.sysv_session.specs.declared.handler.RequestOutcome.TheVariants as outcomes
use Rattle.sysv_session.specs.declared.served.End.{End}
use Rattle.sysv_session.specs.declared.served.End.TheVariants.{Ended, NoMemory, NoHello, Fault, Write, Bound, Left}
use Rattle.sysv_session.specs.declared.served.End.TheVariants.{Reset}
use Rattle.sysv_session.specs.declared.served.TheConstants.{SESSION_REQUESTS}
use Rattle.sysv_session.specs.declared.session.Session.{Session}
use Rattle.sysv_session.specs.declared.session.TakenUp.TheVariants.{Hello, Request as Asked}
use Rattle.sysv_session.specs.Answers.{IsReplied, MayAnswer, messages_in}
use Rattle.sysv_session.specs.Calls.{Call, Meaning, messages_of}
use Rattle.sysv_session.specs.Gathered.{Gathered, all_bytes, marks_at, marks_from, messages_among}
use Rattle.sysv_session.specs.Input.{EndsAfter, EndsBefore, hello_encoding}
use Rattle.sysv_session.specs.Outbox.{Mark}
use Rattle.sysv_session.specs.Output.{AreReplied, Replies, Tallies, Writes, answered, frames_of, hello_frame}
use Rattle.sysv_session.specs.Output.{hello_reply}
use Rattle.sysv_session.specs.HandedOver.{HandedOver, Proceeds}
use Rattle.sysv_session.specs.Session.{IsBounded, ServesBy}
use Rattle.sysv_session.specs.TakenUp.{EndsHere, TakesRequest, TakesUp}
use Rattle.sysv_session.specs.Turn.{Answers, one_lost, one_written}
use Rattle.sysv_session.specs.Pending.{Greeted, Greets, Pending, replies_to, reply_for}
use Rattle.sysv_session.proofs.GatheredLemmas.{all_more as bytes_more, marks_more}
use Rattle.sysv_session.proofs.ListLemmas.{all_but_last, all_more, few_messages, frames_more, left_frames}
use Rattle.sysv_session.proofs.ListLemmas.{messages_more}
use Rattle.sysv_session.proofs.TogetherLemmas.{marks_in, replies_bytes, replies_messages, reply_bytes}
use Rattle.sysv_session.proofs.PendingLemmas.{Called, call_replied, hello_replied, hello_taken, request_called}
use Rattle.sysv_session.proofs.PendingLemmas.{request_taken}
use Rattle.sysv_wire.specs.declared.frame.Version.{Version}

-- One more reply has its message, if there is one.
among_more : (replies : List Gathered) (version : Version) (outcome : RequestOutcome) (given : List ℕ) →
    messages_among (replies ++ reply_for version outcome given ∷ []) ≡ messages_among replies + messages_in outcome
among_more replies version outcome given =
    let reply = reply_for version outcome given in
    let place = 0 + length (all_bytes (replies ++ reply ∷ [])) in
    omega (
      arith,
      ap (length {A = Mark}) (marks_more 0 replies reply),
      length-append (marks_from 0 replies) (marks_at place reply.message),
      marks_in place version outcome given,
    )

-- The writer takes one reply more.
writes_more : (replies : List Gathered) (reply : Gathered) (frame : List ℕ) (taken more most : Option (List ℕ)) →
    reply.frame ≡ frame → Appends taken more (all_bytes replies) → Appends more most frame →
    Appends taken most (all_bytes (replies ++ reply ∷ []))
writes_more replies reply frame taken more most same first second =
    subst (Appends taken most) (ap (λ (l : List ℕ). all_bytes replies ++ l) (sym same) ∙ sym (bytes_more replies reply))
    (Appends-trans taken more most (all_bytes replies) frame first second)

-- All messages so far were written.
all_told : (version : Version) (slots : ℕ) (calls : List Call) (replies : List Gathered) (tally : Tallied) →
    replies ≡ replies_to version slots calls → tally ≡ record { written = messages_among replies; lost = 0 } →
    tally ≡ record { written = messages_of calls; lost = 0 }
all_told version slots calls replies tally are told =
    told ∙ ap (λ (n : ℕ). let t : Tallied = record { written = n; lost = 0 } in t)
    (ap messages_among are ∙ replies_messages version slots calls)

all_written : (version : Version) (slots : ℕ) (calls : List Call) (replies : List Gathered)
    (taken more : Option (List ℕ)) → replies ≡ replies_to version slots calls →
    Appends taken more (all_bytes replies) → Appends taken more (concat (hello_frame version slots ∷ frames_of calls))
all_written version slots calls replies taken more are writes =
    subst (Appends taken more) (ap all_bytes are ∙ replies_bytes version slots calls) writes

-- The last message is lost.
lost_more : (calls : List Call) (call : Call) (before after : Tallied) → after ≡ one_lost call.outcome before
    → before ≡ record { written = messages_of calls; lost = 0 }
    → Tallies Write (calls ++ call ∷ []) after
lost_more calls call before after lost told =
    let e = lost ∙ ap (one_lost call.outcome) told in (
      omega (arith, ap taken_in e, messages_more calls call),
      ap (λ (t : Tallied). t.written) e ∙ ap messages_of (sym (all_but_last calls call)),
    )

-- The last call is left, and has no message.
left_more : (calls : List Call) (call : Call) (before after : Tallied) → call.outcome ≡ outcomes.Left
    → after ≡ before → before ≡ record { written = messages_of calls; lost = 0 }
    → Tallies Left (calls ++ call ∷ []) after
left_more calls call before after left same told =
    let e = same ∙ told in (
      omega (arith, ap taken_in e, messages_more calls call, ap messages_in left),
      ap (λ (t : Tallied). t.written) e ∙ ap messages_of (sym (all_but_last calls call)),
    )

module _ (newest : Version) {K : Type 0} (Means : Meaning K) (slots : ℕ) (old : K) (left taken : Option (List ℕ)) where
  -- A new session has nothing to hand over.
  pub begins : (session : Session) → session.newest ≡ newest → session.caller ≡ None →
      session.tally ≡ record { written = 0; lost = 0 } →
      session.requests ≡ 0 → HandedOver newest Means slots session old old left left taken taken
  begins session limit caller tally counts = record {
    replies = [];
    pending =
        inl (record { limit = limit; caller = caller; counts = counts; handler = refl; reads = refl; gathered = refl });
    writes = Appends-nil taken;
    quiet = λ none. refl;
    tally = tally;
  }

  few_messages_of : (session : Session) (now : K) (unread : Option (List ℕ)) (replies : List Gathered) →
      Pending newest Means slots session old now left unread replies → messages_among replies < 2 ^ 32
  few_messages_of session now unread replies (inl fresh) = omega (arith, ap messages_among fresh.gathered)
  few_messages_of session now unread replies (inr greeted) =
      omega (
        arith,
        ap messages_among greeted.gathered,
        replies_messages greeted.version slots greeted.calls,
        few_messages greeted.calls,
        greeted.counts,
        greeted.bounded,
      )

  -- The tally has room for one more message.
  pub has_room : (session : Session) (now : K) (unread more : Option (List ℕ)) →
      HandedOver newest Means slots session old now left unread taken more → taken_in session.tally < 2 ^ 64 - 1
  has_room session now unread more so_far =
      omega (
        arith,
        ap taken_in so_far.tally,
        few_messages_of session now unread so_far.replies so_far.pending,
      )

  most_requests : (session : Session) (now : K) (unread : Option (List ℕ)) (replies : List Gathered) →
      Pending newest Means slots session old now left unread replies → session.requests ≤ SESSION_REQUESTS
  most_requests session now unread replies (inl fresh) = omega (arith, fresh.counts)
  most_requests session now unread replies (inr greeted) = greeted.bounded

  -- It has had at most the maximum number of requests.
  pub few_requests : (session : Session) (now : K) (unread more : Option (List ℕ)) →
      HandedOver newest Means slots session old now left unread taken more → session.requests ≤ SESSION_REQUESTS
  few_requests session now unread more so_far = most_requests session now unread so_far.replies so_far.pending

  fresh_count : (session : Session) (now : K) (unread : Option (List ℕ)) (replies : List Gathered) →
      Pending newest Means slots session old now left unread replies → session.caller ≡ None → session.requests ≡ 0
  fresh_count session now unread replies (inl fresh) none = fresh.counts
  fresh_count session now unread replies (inr greeted) none = absurd (grind (arith, greeted.caller, none))

  module _ (session : Session) (now : K) (unread rest more : Option (List ℕ)) (text : List ℕ)
      (so_far : HandedOver newest Means slots session old now left unread taken more) where
    -- It ends where it stands, after its hello, and all calls have their replies.
    converses : (why : End) (greeted : Greeted newest Means slots session old now left unread so_far.replies) →
        EndsAfter newest greeted.version why unread rest → IsBounded why session.requests →
        (AreReplied greeted.calls → Replies why greeted.calls) →
        (Appends taken more (concat (hello_frame greeted.version slots ∷ frames_of greeted.calls)) →
        Writes why (hello_frame greeted.version slots ∷ frames_of greeted.calls) taken more) →
        answered why greeted.calls ≡ greeted.calls →
        ServesBy newest Means slots why session.tally session.requests old now left rest taken more
    converses why greeted ends bounded replies writes all =
        let told = all_told greeted.version slots greeted.calls so_far.replies session.tally greeted.gathered
        so_far.tally in
        inr (record {
          version = greeted.version;
          cred = greeted.cred;
          known = greeted.known;
          calls = greeted.calls;
          are_calls = greeted.are_calls;
          leads = greeted.leads;
          unread = unread;
          reads = greeted.reads;
          ends = ends;
          replies = replies greeted.replied;
          writes = writes (all_written greeted.version slots greeted.calls so_far.replies taken more greeted.gathered
              so_far.writes);
          tallies = (
            ap taken_in told ∙ add-zero _,
            ap (λ (t : Tallied). t.written) told ∙ ap messages_of (sym all),
          );
          counts = greeted.counts;
          bounded = bounded;
        })

    reads_stop_at : (why : End) (greeted : Greeted newest Means slots session old now left unread so_far.replies) →
        session.requests < SESSION_REQUESTS → TakesRequest newest greeted.version (Err why) unread rest text →
        ServesBy newest Means slots why session.tally session.requests old now left rest taken more
    reads_stop_at Ended greeted few takes = converses Ended greeted takes few (λ r. r) (λ w. w) refl
    reads_stop_at (Fault fault) greeted few takes = converses (Fault fault) greeted takes few (λ r. r) (λ w. w) refl
    reads_stop_at NoMemory greeted few takes = absurd takes
    reads_stop_at NoHello greeted few takes = absurd takes
    reads_stop_at Write greeted few takes = absurd takes
    reads_stop_at Bound greeted few takes = absurd takes
    reads_stop_at Left greeted few takes = absurd takes
    reads_stop_at Reset greeted few takes = absurd takes

    reads_stop : (why : End) (greeted : Greeted newest Means slots session old now left unread so_far.replies) →
        EndsHere newest (Some (greeted.version, greeted.cred)) session.requests why unread rest text →
        ServesBy newest Means slots why session.tally session.requests old now left rest taken more
    reads_stop why greeted (inl bound) =
        let most : session.requests ≡ SESSION_REQUESTS = omega (arith, bound.0, greeted.bounded) in
        subst (λ (w : End). ServesBy newest Means slots w session.tally session.requests old now left rest taken more)
        (sym bound.1) (converses Bound greeted bound.2 most (λ r. r) (λ w. w) refl)
    reads_stop why greeted (inr read) = reads_stop_at why greeted read.0 read.1

    limited : (why : End) → session.newest ≡ newest →
        EndsHere session.newest session.caller session.requests why unread rest text →
        EndsHere newest session.caller session.requests why unread rest text
    limited why limit here =
        subst (λ (n : Version). EndsHere n session.caller session.requests why unread rest text) limit here

    stops_at : (why : End) → Pending newest Means slots session old now left unread so_far.replies →
        EndsHere session.newest session.caller session.requests why unread rest text →
        ServesBy newest Means slots why session.tally session.requests old now left rest taken more
    stops_at why (inl fresh) here =
        let ends = subst (λ (c : Option (Version × Cred)). EndsHere newest c session.requests why unread rest text)
        fresh.caller (limited why fresh.limit here) in
        inl (record {
          handler = fresh.handler;
          ends = subst (λ (l : Option (List ℕ)). EndsBefore newest why l rest) fresh.reads ends.0;
          writes = so_far.quiet fresh.gathered;
          tallies = so_far.tally
              ∙ ap (λ (l : List Gathered). let t : Tallied = record { written = messages_among l; lost = 0 } in t)
              fresh.gathered;
          counts = fresh.counts;
        })
    stops_at why (inr greeted) here =
        reads_stop why greeted
        (subst (λ (c : Option (Version × Cred)). EndsHere newest c session.requests why unread rest text)
        greeted.caller (limited why greeted.limit here))

    -- What it reads stops it.
    pub stops : (why : End) (session' : Session) → TakesUp session session' (Err why) unread rest text →
        Proceeds newest Means slots (Err why) session.requests session' old now left rest taken more
    stops why session' takes =
        subst (λ (s : Session). ServesBy newest Means slots why s.tally s.requests old now left rest taken more)
        (sym takes.0)
        (stops_at why so_far.pending takes.1)

    -- It answers what it took up.
    module _ (mid new : Session) (most : Option (List ℕ)) (limit : new.newest ≡ mid.newest)
        (caller : new.caller ≡ mid.caller)
        (count : new.requests ≡ mid.requests) where
      serves_on : (version : Version) (outcome : RequestOutcome) (given : List ℕ) (next : K) →
          mid.tally ≡ session.tally → mid.requests ≡ session.requests + 1 →
          Pending newest Means slots new old next left rest (so_far.replies ++ reply_for version outcome given ∷ []) →
          Answers (Ok tt) version outcome given more most mid.tally new.tally →
          Proceeds newest Means slots (Ok tt) session.requests new old next left rest taken most
      serves_on version outcome given next kept one pending answers = (
        count ∙ one,
        record {
          replies = so_far.replies ++ reply_for version outcome given ∷ [];
          pending = pending;
          writes = writes_more so_far.replies (reply_for version outcome given) _ taken more most
              (reply_bytes version outcome given) so_far.writes answers.1;
          quiet = λ none. absurd (omega (
            arith,
            ap (length {A = Gathered}) none,
            length-append so_far.replies (reply_for version outcome given ∷ []),
          ));
          tally = answers.2 ∙ ap (one_written outcome) (kept ∙ so_far.tally)
              ∙ ap (λ (n : ℕ). let t : Tallied = record { written = n; lost = 0 } in t)
              (sym (among_more so_far.replies version outcome given));
        },
      )

      -- A hello.
      module _ (version : Version) (takes : TakesUp session mid (Ok (Hello version)) unread rest text) where
        hello : Greets newest version mid old now left rest so_far.replies
        hello =
            hello_taken newest Means slots version session mid old now left unread rest text so_far.replies
            so_far.pending
            takes

        pub answers_hello : (result : Result ⊤ End) →
            Answers result version (Reply (hello_reply version slots)) [] more most mid.tally new.tally →
            Proceeds newest Means slots result session.requests new old now left rest taken most
        answers_hello (Ok done) answers =
            serves_on version (Reply (hello_reply version slots)) [] now (ap (λ (s : Session). s.tally) takes.3)
            (omega (arith, hello.counts, fresh_count session now unread so_far.replies so_far.pending takes.1))
            (hello_replied newest Means slots version mid new old now left rest so_far.replies hello limit caller count)
            answers
        answers_hello (Err Write) answers =
            let told : new.tally ≡ record { written = messages_among so_far.replies; lost = 0 } =
            answers.2 ∙ ap (one_lost (Reply (hello_reply version slots)))
            (ap (λ (s : Session). s.tally) takes.3 ∙ so_far.tally) in
            inr (record {
              version = version;
              cred = hello.cred;
              known = hello.known;
              calls = [];
              are_calls = tt;
              leads = hello.handler;
              unread = rest;
              reads = subst (Consumes left rest) (sym (append-nil (hello_encoding version hello.cred))) hello.reads;
              ends = refl;
              replies = tt;
              writes = (
                [],
                hello_frame version slots,
                taken,
                refl,
                Appends-nil taken,
                subst (λ (m : Option (List ℕ)). AppendsPrefix m most (hello_frame version slots))
                    (so_far.quiet hello.gathered) answers.1,
              );
              tallies = (
                omega (arith, ap taken_in told, ap messages_among hello.gathered),
                omega (arith, ap (λ (t : Tallied). t.written) told, ap messages_among hello.gathered),
              );
              counts = count ∙ hello.counts;
              bounded = tt;
            })
        answers_hello (Err Left) answers = absurd (grind (arith, answers.0))
        answers_hello (Err Ended) answers = absurd answers
        answers_hello (Err NoMemory) answers = absurd answers
        answers_hello (Err NoHello) answers = absurd answers
        answers_hello (Err (Fault fault)) answers = absurd answers
        answers_hello (Err Bound) answers = absurd answers
        answers_hello (Err Reset) answers = absurd answers

      -- A request.
      module _ (cred : Cred) (call : Call) (next : K)
          (takes : TakesUp session mid (Ok (Asked cred call.request)) unread rest call.text)
          (means : Means now cred call.request call.text call.outcome call.given next)
          (may : MayAnswer call.request.version call.request.ask call.outcome call.given) where
        called : Called newest Means slots call mid old next left rest so_far.replies
        called =
            request_called newest Means slots cred call mid old now next left rest so_far.replies
            (request_taken newest Means slots cred call.request session mid old now left unread rest call.text
            so_far.replies
            so_far.pending takes) means may

        told : mid.tally ≡ record { written = messages_of called.done; lost = 0 }
        told =
            ap (λ (s : Session). s.tally) takes.4
            ∙ all_told called.version slots called.done so_far.replies session.tally called.gathered so_far.tally

        written : Appends taken more (concat (hello_frame called.version slots ∷ frames_of called.done))
        written =
            all_written called.version slots called.done so_far.replies taken more called.gathered so_far.writes

        -- It ends with this call.
        converses_last : (why : End) → EndsAfter newest called.version why rest rest →
            Replies why (called.done ++ call ∷ []) →
            Writes why (hello_frame called.version slots ∷ frames_of (called.done ++ call ∷ [])) taken most →
            Tallies why (called.done ++ call ∷ []) new.tally → IsBounded why new.requests →
            ServesBy newest Means slots why new.tally new.requests old next left rest taken most
        converses_last why ends replied writes tallies bounded = inr (record {
          version = called.version;
          cred = called.cred;
          known = called.known;
          calls = called.done ++ call ∷ [];
          are_calls = called.are_calls;
          leads = called.leads;
          unread = rest;
          reads = called.reads;
          ends = ends;
          replies = replied;
          writes = writes;
          tallies = tallies;
          counts = count ∙ called.counts;
          bounded = bounded;
        })

        pub answers_call : (result : Result ⊤ End) →
            Answers result call.request.version call.outcome call.given more most mid.tally new.tally →
            Proceeds newest Means slots result session.requests new old next left rest taken most
        answers_call (Ok done) answers =
            serves_on call.request.version call.outcome call.given next (ap (λ (s : Session). s.tally) takes.4)
            (ap (λ (s : Session). s.requests) takes.4)
            (call_replied newest Means slots call mid new old next left rest so_far.replies called answers.0 limit
            caller count)
            answers
        answers_call (Err Write) answers =
            converses_last Write refl
            (all_more (λ (c : Call). IsReplied c.outcome) called.done call called.replied answers.0) (
              hello_frame called.version slots ∷ frames_of called.done,
              _,
              more,
              ap (λ (l : List (List ℕ)). hello_frame called.version slots ∷ l) (frames_more called.done call),
              written,
              answers.1,
            )
            (lost_more called.done call mid.tally new.tally answers.2 told) tt
        answers_call (Err Left) answers =
            converses_last Left refl (called.done, call, refl, called.replied, answers.0)
            (subst₂ (Appends taken) (sym answers.1)
            (ap (λ (l : List ℕ). hello_frame called.version slots ++ l) (sym (left_frames called.done call answers.0)))
            written)
            (left_more called.done call mid.tally new.tally answers.0 answers.2 told) tt
        answers_call (Err Ended) answers = absurd answers
        answers_call (Err NoMemory) answers = absurd answers
        answers_call (Err NoHello) answers = absurd answers
        answers_call (Err (Fault fault)) answers = absurd answers
        answers_call (Err Bound) answers = absurd answers
        answers_call (Err Reset) answers = absurd answers
