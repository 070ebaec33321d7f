-- Replies as they are gathered, and a session whose writer took one after another.
use Rattle.std.proofs.Common.{◌≡◌, ◌≢◌, ℕ, ◌+◌, ◌-◌, ◌<◌, ◌≤◌, List, [], ◌∷◌, ◌++◌, length, take, map, Option, None}
use Rattle.std.proofs.Common.{Some}
use Rattle.std.proofs.Common.{Bool, true, false, nat_le, cond, refl, sym, ap, ap₂, subst, ◌∙◌, arith, inl, inr, ◌⊎◌}
use Rattle.std.proofs.Common.{append-nil, length-append}
use Rattle.std.proofs.lemmas.Bool.{cases_order}
use Rattle.std.proofs.lemmas.Bool.Decides.{nat_tests}
use Rattle.std.proofs.lemmas.List.{map-append, take_at}
use Rattle.std.proofs.lemmas.List.Sums.{sum_by-cons}
use Rattle.std.proofs.KnownBytes.{Appends-nil}
use Rattle.std.specs.Io.KnownBytes.{Appends}
use Rattle.std.specs.List.{AllByRecursion, concat}
use Rattle.sysv_queue.specs.Delivery.{Given}
use Rattle.sysv_queue.specs.Tally.{Tallied}
use Rattle.sysv_session.specs.declared.handler.RequestOutcome.{RequestOutcome}
use Rattle.sysv_session.specs.declared.handler.RequestOutcome.TheVariants.{Reply, Got, Left as WasLeft}
use Rattle.sysv_session.specs.declared.served.End.{End}
use Rattle.sysv_session.specs.declared.served.End.TheVariants.{Ended, NoMemory, NoHello, Fault, Write, Bound, Left}
use Rattle.sysv_session.specs.declared.served.End.TheVariants.{Reset}
use Rattle.sysv_session.specs.Answers.{IsReplied, is_message, message_reply, messages_in, outcome_encoding}
use Rattle.sysv_session.specs.Calls.{Call, Meaning, messages_of}
use Rattle.sysv_session.specs.Gathered.{Gathered, all_bytes, ends_message, has_end, marks_at, marks_from}
use Rattle.sysv_session.specs.Gathered.{messages_among, messages_passed, messages_within}
use Rattle.sysv_session.specs.Input.{EndsBefore}
use Rattle.sysv_session.specs.Outbox.{Mark, mark_at, passed, within}
use Rattle.sysv_session.specs.Output.{AreReplied, BreaksOff, frames_of, hello_frame}
use Rattle.sysv_session.specs.Session.{IsBounded, Converses}
use Rattle.sysv_session.specs.Together.{AreTogether, FailsEarly, IsStoppedWithin, Replied, StopsAfter, StopsBefore}
use Rattle.sysv_session.specs.Together.{ConversesTogether, unread_at}
use Rattle.sysv_session.specs.Pending.{greeting, replies_to, reply_for, reply_to}
use Rattle.sysv_session.proofs.GatheredLemmas.{all_more, breaks_off, breaks_off_far, marks_more, within-append}
use Rattle.sysv_session.proofs.ListLemmas.{all_but_last, concat_more, frames_more, left_frames}
use Rattle.sysv_session.proofs.OutboxLemmas.{first_passed, first_within}
use Rattle.sysv_wire.specs.declared.fault.Fault.{Fault as WireFault}
use Rattle.sysv_wire.specs.declared.fault.Fault.TheVariants.{Truncated, TooLong, BadOp, BadField, Read}
use Rattle.sysv_wire.specs.declared.frame.Version.{Version}
use Rattle.sysv_wire.specs.declared.reply.Reply.{Reply as Answer}
use Rattle.sysv_wire.specs.Frames.{frame}
use Rattle.sysv_wire.specs.Numbers.{u32_bytes}
use Rattle.sysv_wire.specs.Replies.{reply_encoding}

-- A reply has the bytes that are written for its outcome.
pub reply_bytes : (version : Version) (outcome : RequestOutcome) (given : List ℕ) →
    (reply_for version outcome given).frame ≡ outcome_encoding version outcome given
reply_bytes version (Reply reply) given = refl
reply_bytes version (Got delivery) given = refl
reply_bytes version WasLeft given = refl

pub calls_bytes : (calls : List Call) → all_bytes (map reply_to calls) ≡ concat (frames_of calls)
calls_bytes [] = refl
calls_bytes (call ∷ calls) =
    ap₂ (λ (a b : List ℕ). a ++ b) (reply_bytes call.request.version call.outcome call.given) (calls_bytes calls)

-- The frames of all replies are what a writer takes, one after another.
pub replies_bytes : (version : Version) (slots : ℕ) (calls : List Call) →
    all_bytes (replies_to version slots calls) ≡ concat (hello_frame version slots ∷ frames_of calls)
replies_bytes version slots calls = ap (λ (l : List ℕ). hello_frame version slots ++ l) (calls_bytes calls)

pub replies_more : (version : Version) (slots : ℕ) (calls : List Call) (call : Call) →
    replies_to version slots (calls ++ call ∷ []) ≡ replies_to version slots calls ++ reply_to call ∷ []
replies_more version slots calls call =
    ap (λ (l : List Gathered). greeting version slots ∷ l) (map-append reply_to calls (call ∷ []))

pub marks_in : (place : ℕ) (version : Version) (outcome : RequestOutcome) (given : List ℕ) →
    length (marks_at place (reply_for version outcome given).message) ≡ messages_in outcome
marks_in place version (Reply reply) given = refl
marks_in place version (Got delivery) given = refl
marks_in place version WasLeft given = refl

calls_marks : (start : ℕ) (calls : List Call) → length (marks_from start (map reply_to calls)) ≡ messages_of calls
calls_marks start [] = refl
calls_marks start (call ∷ calls) =
    let place = start + length (reply_to call).frame in
    let more : messages_of (call ∷ calls) ≡ messages_in call.outcome + messages_of calls =
    sum_by-cons (λ (c : Call). cond (is_message c.outcome) 1 0) call calls in
    omega (
      arith,
      length-append (marks_at place (reply_to call).message) (marks_from place (map reply_to calls)),
      marks_in place call.request.version call.outcome call.given,
      calls_marks place calls,
      more,
    )

-- The messages among the replies are those that the handler returned.
pub replies_messages : (version : Version) (slots : ℕ) (calls : List Call) →
    messages_among (replies_to version slots calls) ≡ messages_of calls
replies_messages version slots calls = calls_marks (0 + length (hello_frame version slots)) calls

one_within : (n place : ℕ) (message : Option Given) → place ≤ n →
    within n (marks_at place message) ≡ length (marks_at place message)
one_within n place None le = refl
one_within n place (Some given) le = grind (arith, nat_tests)

one_beyond : (n place : ℕ) (message : Option Given) → n < place → within n (marks_at place message) ≡ 0
one_beyond n place None lt = refl
one_beyond n place (Some given) lt = grind (arith, nat_tests)

-- All messages lie within the frames.
pub all_within : (n start : ℕ) (replies : List Gathered) → start + length (all_bytes replies) ≤ n →
    within n (marks_from start replies) ≡ length (marks_from start replies)
all_within n start [] le = refl
all_within n start (reply ∷ more) le =
    let place = start + length reply.frame in
    let long : length (all_bytes (reply ∷ more)) ≡ length reply.frame + length (all_bytes more) =
    length-append reply.frame (all_bytes more) in
    omega (
      arith,
      within-append n (marks_at place reply.message) (marks_from place more),
      length-append (marks_at place reply.message) (marks_from place more),
      one_within n place reply.message (omega (arith, le, long)),
      all_within n place more (omega (arith, le, long)),
    )

-- Of all but the last reply the frames were taken whole, and of the last it was not.
pub front_within : (n : ℕ) (front : List Gathered) (reply : Gathered) → length (all_bytes front) ≤ n →
    n < length (all_bytes (front ++ reply ∷ [])) →
    messages_within n (front ++ reply ∷ []) ≡ messages_among front
front_within n front reply le lt =
    let place = 0 + length (all_bytes (front ++ reply ∷ [])) in
    omega (
      arith,
      ap (within n) (marks_more 0 front reply),
      within-append n (marks_from 0 front) (marks_at place reply.message),
      all_within n 0 front (omega (arith, le)),
      one_beyond n place reply.message (omega (arith, lt)),
    )

-- A frame has bytes.
some_bytes : (reply : Answer) (text : List ℕ) → 0 < length (reply_encoding reply text)
unfolding frame u32_bytes
some_bytes reply text = omega arith

pub replied_bytes : (version : Version) (outcome : RequestOutcome) (given : List ℕ) → IsReplied outcome →
    0 < length (outcome_encoding version outcome given)
replied_bytes version (Reply reply) given replied = some_bytes reply given
replied_bytes version (Got delivery) given replied = some_bytes (message_reply version delivery.mtype) given
replied_bytes version WasLeft given replied = absurd replied

pub hello_bytes : (version : Version) (slots : ℕ) → 0 < length (hello_frame version slots)
hello_bytes version slots = some_bytes _ []

-- Each frame has bytes.
abbrev HaveBytes : List Gathered → Type 0
HaveBytes replies = AllByRecursion (λ (reply : Gathered). 0 < length reply.frame) replies

calls_have_bytes : (calls : List Call) → AreReplied calls → HaveBytes (map reply_to calls)
calls_have_bytes [] replied = tt
calls_have_bytes (call ∷ calls) replied = (
  subst (λ (l : List ℕ). 0 < length l) (sym (reply_bytes call.request.version call.outcome call.given))
      (replied_bytes call.request.version call.outcome call.given replied.0),
  calls_have_bytes calls replied.1,
)

-- No mark ends in the first n bytes.
record NoneWithin (n : ℕ) (marks : List Mark) : Type 0 where
  whole : within n marks ≡ 0
  passed : passed n marks ≡ 0
  ends : has_end n marks ≡ false

none_at : (n place : ℕ) (message : Option Given) (rest : List Mark) → n < place → NoneWithin n rest →
    NoneWithin n (marks_at place message ++ rest)
none_at n place None rest lt none = none
none_at n place (Some given) rest lt none =
    let out : nat_le place n ≡ false = grind (arith, nat_tests) in
    let behind : nat_le (1 + place) n ≡ false = grind (arith, nat_tests) in
    record {
      whole = omega (arith, first_within false n (mark_at place given) rest out, none.whole);
      passed = omega (arith, first_passed false n (mark_at place given) rest behind, none.passed);
      ends = grind (arith, nat_tests, none.ends);
    }

-- All frames end after their beginning.
none_from : (n start : ℕ) (replies : List Gathered) → n ≤ start → HaveBytes replies →
    NoneWithin n (marks_from start replies)
none_from n start [] le have = record { whole = refl; passed = refl; ends = refl }
none_from n start (reply ∷ more) le have =
    let place = start + length reply.frame in
    let behind : n < place = omega (arith, le, have.0) in
    none_at n place reply.message (marks_from place more) behind
    (none_from n place more (omega (arith, behind)) have.1)

-- At most one frame ends with the n-th byte.
abbrev OneEnds : ℕ → List Mark → Type 0
OneEnds n marks = within n marks ≡ passed n marks + cond (has_end n marks) 1 0

one_before : (n place : ℕ) (given : Given) (rest : List Mark) → place < n → OneEnds n rest →
    OneEnds n (mark_at place given ∷ rest)
one_before n place given rest lt one =
    let inside : nat_le place n ≡ true = grind (arith, nat_tests) in
    let behind : nat_le (1 + place) n ≡ true = grind (arith, nat_tests) in
    let same : has_end n (mark_at place given ∷ rest) ≡ has_end n rest = grind (arith, nat_tests) in
    omega (
      arith,
      first_within true n (mark_at place given) rest inside,
      first_passed true n (mark_at place given) rest behind,
      ap (λ (b : Bool). let m : ℕ = cond b 1 0 in m) same,
      one,
    )

one_here : (n place : ℕ) (given : Given) (rest : List Mark) → place ≡ n → NoneWithin n rest →
    OneEnds n (mark_at place given ∷ rest)
one_here n place given rest is none =
    let inside : nat_le place n ≡ true = grind (arith, nat_tests) in
    let behind : nat_le (1 + place) n ≡ false = grind (arith, nat_tests) in
    let same : has_end n (mark_at place given ∷ rest) ≡ true = grind (arith, nat_tests) in
    omega (
      arith,
      first_within true n (mark_at place given) rest inside,
      first_passed false n (mark_at place given) rest behind,
      ap (λ (b : Bool). let m : ℕ = cond b 1 0 in m) same,
      none.whole,
      none.passed,
    )

none_ends : (n : ℕ) (marks : List Mark) → NoneWithin n marks → OneEnds n marks
none_ends n marks none =
    omega (arith, none.whole, none.passed, ap (λ (b : Bool). let m : ℕ = cond b 1 0 in m) none.ends)

one_at : (n place : ℕ) (given : Given) (rest : List Mark) → (place ≡ n) ⊎ ((place < n) ⊎ (n < place)) →
    (n ≤ place → NoneWithin n rest) → OneEnds n rest → OneEnds n (mark_at place given ∷ rest)
one_at n place given rest (inl is) none one = one_here n place given rest is (none (omega (arith, is)))
one_at n place given rest (inr (inl lt)) none one = one_before n place given rest lt one
one_at n place given rest (inr (inr lt)) none one =
    none_ends n _ (none_at n place (Some given) rest lt (none (omega (arith, lt))))

one_more : (n place : ℕ) (message : Option Given) (rest : List Mark) → (n ≤ place → NoneWithin n rest) →
    OneEnds n rest → OneEnds n (marks_at place message ++ rest)
one_more n place None rest none one = one
one_more n place (Some given) rest none one =
    one_at n place given rest (cases_order place n) none one

one_ends : (n start : ℕ) (replies : List Gathered) → HaveBytes replies → OneEnds n (marks_from start replies)
one_ends n start [] have = refl
one_ends n start (reply ∷ more) have =
    let place = start + length reply.frame in
    one_more n place reply.message (marks_from place more) (λ le. none_from n place more le have.1)
    (one_ends n place more have.1)

-- Of the replies to these calls at most one message's frame ends with the n-th byte.
pub last_of_replies : (version : Version) (slots : ℕ) (calls : List Call) (n : ℕ) → AreReplied calls →
    messages_within n (replies_to version slots calls)
    ≡ messages_passed n (replies_to version slots calls) + cond (ends_message n (replies_to version slots calls)) 1 0
last_of_replies version slots calls n replied =
    one_ends n 0 (replies_to version slots calls) (hello_bytes version slots, calls_have_bytes calls replied)

-- What ends a session before its hello stops a conversation too.
pub stops_before : (newest : Version) (why : End) (left rest : Option (List ℕ)) → EndsBefore newest why left rest →
    StopsBefore newest why left rest
stops_before newest Ended left rest ends = ends
stops_before newest NoMemory left rest ends = ends
stops_before newest NoHello left rest ends = ends
stops_before newest (Fault fault) left rest ends = ends
stops_before newest Write left rest ends = ends
stops_before newest Bound left rest ends = ends
stops_before newest Left left rest ends = ends
stops_before newest Reset left rest ends = absurd ends

-- A writer took the first frames whole, and not all of the last.
pub record Broken (front : List (List ℕ)) (last : List ℕ) (old new : Option (List ℕ)) : Type 0 where
  pub sent : List ℕ
  pub rest : List ℕ
  pub whole : concat (front ++ last ∷ []) ≡ sent ++ rest
  pub some : 0 < length rest
  pub far : length (concat front) ≤ length sent
  pub writes : Appends old new sent

known_rest : (front : List (List ℕ)) (last xs ys sent rest : List ℕ) → concat (front ++ last ∷ []) ≡ sent ++ rest →
    ys ≡ xs ++ sent → Some ys ≢ Some (xs ++ concat (front ++ last ∷ [])) → 0 < length rest
known_rest front last xs ys sent [] whole grown not_all =
    absurd (not_all (ap Some (grown ∙ ap (λ (l : List ℕ). xs ++ l) (sym (whole ∙ append-nil sent)))))
known_rest front last xs ys sent (byte ∷ rest) whole grown not_all = omega arith

-- The frames before the last that the writer was given, and what it took of the last.
module _ (front : List (List ℕ)) (last : List ℕ) (old new : Option (List ℕ))
    (cut : BreaksOff (front ++ last ∷ []) old new) where
  same_length : length cut.0 ≡ length front
  same_length =
      omega (
        arith,
        ap (length {A = List ℕ}) cut.3,
        length-append front (last ∷ []),
        length-append cut.0 (cut.1 ∷ []),
      )

  same_front : cut.0 ≡ front
  same_front =
      sym (take_at cut.0 (cut.1 ∷ []) (length front) same_length)
      ∙ ap (take (length front)) (sym cut.3) ∙ take_at front (last ∷ []) (length front) refl

  whole_last : concat (front ++ last ∷ []) ≡ concat front ++ cut.1
  whole_last = ap concat cut.3 ∙ concat_more cut.0 cut.1 ∙ ap (λ (l : List (List ℕ)). concat l ++ cut.1) same_front

  last_bytes : length cut.1 ≡ length last
  last_bytes =
      omega (
        arith,
        ap (length {A = ℕ}) whole_last,
        ap (length {A = ℕ}) (concat_more front last),
        length-append (concat front) cut.1,
        length-append (concat front) last,
      )

  -- What the writer took, if it took this much.
  took_part : (sent rest : List ℕ) → concat (front ++ last ∷ []) ≡ sent ++ rest → 0 < length rest →
      length (concat cut.0) ≤ length sent → Appends old new sent → Broken front last old new
  took_part sent rest whole some far writes = record {
    sent = sent;
    rest = rest;
    whole = whole;
    some = some;
    far = omega (arith, far, ap (λ (l : List (List ℕ)). length (concat l)) same_front);
    writes = writes;
  }

pub broken : (front : List (List ℕ)) (last : List ℕ) (old new : Option (List ℕ)) → 0 < length last →
    ((before : List ℕ) → old ≡ Some before → new ≢ Some (before ++ concat (front ++ last ∷ []))) →
    BreaksOff (front ++ last ∷ []) old new → Broken front last old new
broken front last None new some not_all cut =
    took_part front last None new cut (concat front) cut.1 (whole_last front last None new cut)
    (omega (arith, some, last_bytes front last None new cut))
    (omega (arith, ap (λ (l : List (List ℕ)). length (concat l)) (same_front front last None new cut))) tt
broken front last (Some xs) None some not_all cut =
    absurd (breaks_off (front ++ last ∷ []) (Some xs) None cut).2
broken front last (Some xs) (Some ys) some not_all cut =
    let took = breaks_off (front ++ last ∷ []) (Some xs) (Some ys) cut in
    took_part front last (Some xs) (Some ys) cut took.0 took.1.0 took.1.1
    (known_rest front last xs ys took.0 took.1.0 took.1.1 took.2 (not_all xs refl))
    (breaks_off_far (front ++ last ∷ []) (Some xs) (Some ys) cut) took.2

last_after : (call : Call) (calls : List Call) →
    (calls ≡ []) ⊎ ((done : List Call) × (last : Call) × (calls ≡ done ++ last ∷ [])) →
    (call ∷ calls ≡ []) ⊎ ((done : List Call) × (last : Call) × (call ∷ calls ≡ done ++ last ∷ []))
last_after call calls (inl none) = inr ([], call, ap (λ (l : List Call). call ∷ l) none)
last_after call calls (inr some) = inr (call ∷ some.0, some.1, ap (λ (l : List Call). call ∷ l) some.2)

last_of : (calls : List Call) →
    (calls ≡ []) ⊎ ((done : List Call) × (last : Call) × (calls ≡ done ++ last ∷ []))
last_of [] = inl refl
last_of (call ∷ calls) = last_after call calls (last_of calls)

last_replied : (done : List Call) (last : Call) → AreReplied (done ++ last ∷ []) → IsReplied last.outcome
last_replied [] last all = all.0
last_replied (first ∷ done) last all = last_replied done last all.1

pub fault_within : (fault : WireFault) (requests : ℕ) → IsBounded (Fault fault) requests →
    IsStoppedWithin (Fault fault) requests
fault_within Truncated requests few = few
fault_within TooLong requests few = few
fault_within BadOp requests few = few
fault_within BadField requests few = few
fault_within Read requests few = tt

module _ (newest : Version) {K : Type 0} where
  -- All was sent: the replies to the hello and to these calls.
  whole : (Means : Meaning K) (slots : ℕ) (why : End) (tally : Tallied) (requests : ℕ) (old new : K)
      (left rest taken more : Option (List ℕ))
      (converses : Converses newest Means slots why tally requests old new left rest taken more) (done : List Call)
      → StopsAfter newest converses.version why converses.unread rest → IsStoppedWithin why requests
      → Replied why converses.version slots converses.calls (replies_to converses.version slots done)
      → Appends taken more (concat (hello_frame converses.version slots ∷ frames_of done))
      → tally.written ≡ messages_of done → ((n : ℕ) (l : List Gathered) → unread_at why n l ≡ 0)
      → ConversesTogether newest Means slots why tally requests old new left rest taken more
  whole Means slots why tally requests old new left rest taken more converses done ends bounded replied writes written
      read =
      let replies = replies_to converses.version slots done in
      record {
        version = converses.version;
        cred = converses.cred;
        known = converses.known;
        calls = converses.calls;
        are_calls = converses.are_calls;
        leads = converses.leads;
        unread = converses.unread;
        reads = converses.reads;
        stopped = why;
        ends = ends;
        bounded = bounded;
        replies = replies;
        replied = replied;
        sent = all_bytes replies;
        prefix = ([], sym (append-nil (all_bytes replies)));
        writes = subst (Appends taken more) (sym (replies_bytes converses.version slots done)) writes;
        reports = inl (refl, refl);
        all = converses.tallies.0;
        written = omega (
          arith,
          written,
          read (length (all_bytes replies)) replies,
          all_within (length (all_bytes replies)) 0 replies (omega arith),
          replies_messages converses.version slots done,
        );
        counts = converses.counts;
      }

  -- The writer failed at the last reply.
  failed : (Means : Meaning K) (slots : ℕ) (tally : Tallied) (requests : ℕ) (old new : K)
      (left rest taken more : Option (List ℕ))
      (converses : Converses newest Means slots Write tally requests old new left rest taken more)
      (front : List Gathered)
      (last : Gathered) (before : List (List ℕ))
      → replies_to converses.version slots converses.calls ≡ front ++ last ∷ []
      → all_bytes (front ++ last ∷ []) ≡ concat (before ++ last.frame ∷ []) → all_bytes front ≡ concat before
      → tally.written ≡ messages_among front → Broken before last.frame taken more
      → ConversesTogether newest Means slots Write tally requests old new left rest taken more
  failed Means slots tally requests old new left rest taken more converses front last before are bytes first written
      cut =
      let replies = replies_to converses.version slots converses.calls in
      let all : all_bytes replies ≡ cut.sent ++ cut.rest = ap all_bytes are ∙ bytes ∙ cut.whole in
      let long : length (all_bytes (front ++ last ∷ [])) ≡ length cut.sent + length cut.rest =
      ap (length {A = ℕ}) (bytes ∙ cut.whole) ∙ length-append cut.sent cut.rest in
      record {
        version = converses.version;
        cred = converses.cred;
        known = converses.known;
        calls = converses.calls;
        are_calls = converses.are_calls;
        leads = converses.leads;
        unread = converses.unread;
        reads = converses.reads;
        stopped = Write;
        ends = converses.ends;
        bounded = tt;
        replies = replies;
        replied = (converses.replies, refl);
        sent = cut.sent;
        prefix = (cut.rest, all);
        writes = cut.writes;
        reports = inr (
          refl,
          λ same. absurd (omega (
            arith,
            cut.some,
            ap (length {A = ℕ}) (same ∙ all),
            length-append cut.sent cut.rest,
          )),
        );
        all = converses.tallies.0;
        written = omega (
          arith,
          written,
          ap (messages_within (length cut.sent)) are,
          front_within (length cut.sent) front last
              (omega (arith, cut.far, ap (length {A = ℕ}) first)) (omega (arith, cut.some, long)),
        );
        counts = converses.counts;
      }

  fails : (Means : Meaning K) (slots : ℕ) (tally : Tallied) (requests : ℕ) (old new : K)
      (left rest taken more : Option (List ℕ))
      (converses : Converses newest Means slots Write tally requests old new left rest taken more)
      → FailsEarly Write (hello_frame converses.version slots ∷ frames_of converses.calls) taken more
      → (converses.calls ≡ []) ⊎ ((done : List Call) × (last : Call) × (converses.calls ≡ done ++ last ∷ []))
      → ConversesTogether newest Means slots Write tally requests old new left rest taken more
  fails Means slots tally requests old new left rest taken more converses early (inl none) =
      failed Means slots tally requests old new left rest taken more converses [] (greeting converses.version slots) []
      (rw none refl) (replies_bytes converses.version slots []) refl
      (converses.tallies.1 ∙ rw none refl)
      (broken [] (hello_frame converses.version slots) taken more (hello_bytes converses.version slots)
      (rw none at early refl) (rw none at converses.writes))
  fails Means slots tally requests old new left rest taken more converses early (inr some) =
      let version = converses.version in
      let done = some.0 in
      let last = some.1 in
      let frame = outcome_encoding last.request.version last.outcome last.given in
      let before = hello_frame version slots ∷ frames_of done in
      let same : (reply_to last).frame ≡ frame = reply_bytes last.request.version last.outcome last.given in
      let frames : hello_frame version slots ∷ frames_of converses.calls ≡ before ++ frame ∷ [] =
      ap (λ (l : List Call). hello_frame version slots ∷ frames_of l) some.2
      ∙ ap (λ (l : List (List ℕ)). hello_frame version slots ∷ l) (frames_more done last) in
      let cut : Broken before frame taken more =
      broken before frame taken more
      (replied_bytes last.request.version last.outcome last.given
      (last_replied done last (subst AreReplied some.2 converses.replies)))
      (subst (λ (l : List (List ℕ)). (known : List ℕ) → taken ≡ Some known → more ≢ Some (known ++ concat l)) frames
      (early refl))
      (subst (λ (l : List (List ℕ)). BreaksOff l taken more) frames converses.writes) in
      failed Means slots tally requests old new left rest taken more converses (replies_to version slots done)
      (reply_to last) before (ap (replies_to version slots) some.2 ∙ replies_more version slots done last)
      (all_more (replies_to version slots done) (reply_to last)
      ∙ ap (λ (l : List ℕ). l ++ (reply_to last).frame) (replies_bytes version slots done)
      ∙ sym (concat_more before (reply_to last).frame))
      (replies_bytes version slots done)
      (converses.tallies.1 ∙ ap (λ (l : List Call). messages_of (take (length l - 1) l)) some.2
      ∙ ap messages_of (all_but_last done last) ∙ sym (replies_messages version slots done))
      (subst (λ (l : List ℕ). Broken before l taken more) (sym same) cut)

  -- The last call was left.
  leaves : (Means : Meaning K) (slots : ℕ) (tally : Tallied) (requests : ℕ) (old new : K)
      (left rest taken more : Option (List ℕ))
      (converses : Converses newest Means slots Left tally requests old new left rest taken more)
      → ConversesTogether newest Means slots Left tally requests old new left rest taken more
  leaves Means slots tally requests old new left rest taken more converses =
      let version = converses.version in
      let done = converses.replies.0 in
      let last = converses.replies.1 in
      let is : converses.calls ≡ done ++ last ∷ [] = converses.replies.2 in
      let frames : concat (frames_of converses.calls) ≡ concat (frames_of done) =
      ap (λ (l : List Call). concat (frames_of l)) is ∙ left_frames done last converses.replies.4 in
      whole Means slots Left tally requests old new left rest taken more converses done converses.ends tt
      (done, last, is, converses.replies.4, (converses.replies.3, refl))
      (subst (λ (l : List ℕ). Appends taken more (hello_frame version slots ++ l)) frames converses.writes)
      (converses.tallies.1 ∙ ap (λ (l : List Call). messages_of (take (length l - 1) l)) is
      ∙ ap messages_of (all_but_last done last)) (λ n l. refl)

  converses_together : (Means : Meaning K) (slots : ℕ) (why : End) (tally : Tallied) (requests : ℕ) (old new : K)
      (left rest taken more : Option (List ℕ))
      (converses : Converses newest Means slots why tally requests old new left rest taken more)
      → FailsEarly why (hello_frame converses.version slots ∷ frames_of converses.calls) taken more
      → ConversesTogether newest Means slots why tally requests old new left rest taken more
  converses_together Means slots Ended tally requests old new left rest taken more converses early =
      whole Means slots Ended tally requests old new left rest taken more converses converses.calls converses.ends
      converses.bounded
      (converses.replies, refl) converses.writes converses.tallies.1 (λ n l. refl)
  converses_together Means slots NoMemory tally requests old new left rest taken more converses early =
      absurd converses.ends
  converses_together Means slots NoHello tally requests old new left rest taken more converses early =
      absurd converses.ends
  converses_together Means slots (Fault fault) tally requests old new left rest taken more converses early =
      whole Means slots (Fault fault) tally requests old new left rest taken more converses converses.calls
      converses.ends
      (fault_within fault requests converses.bounded) (converses.replies, refl) converses.writes converses.tallies.1
      (λ n l. refl)
  converses_together Means slots Write tally requests old new left rest taken more converses early =
      fails Means slots tally requests old new left rest taken more converses early (last_of converses.calls)
  converses_together Means slots Bound tally requests old new left rest taken more converses early =
      whole Means slots Bound tally requests old new left rest taken more converses converses.calls converses.ends
      converses.bounded
      (converses.replies, refl) converses.writes converses.tallies.1 (λ n l. refl)
  converses_together Means slots Left tally requests old new left rest taken more converses early =
      leaves Means slots tally requests old new left rest taken more converses
  converses_together Means slots Reset tally requests old new left rest taken more converses early =
      absurd converses.ends

  pub together : (Means : Meaning K) → AreTogether newest Means
  together Means slots served old new left rest taken more (inl stays) early = inl (record {
    handler = stays.handler;
    ends = stops_before newest served.«end» left rest stays.ends;
    writes = subst (λ (m : Option (List ℕ)). Appends taken m []) (sym stays.writes) (Appends-nil taken);
    tallies = stays.tallies;
    counts = stays.counts;
  })
  together Means slots served old new left rest taken more (inr converses) early =
      inr (converses_together Means slots served.«end» served.tally served.requests old new left rest taken more
      converses
      early)
