-- What the events of a client keep: how far its session is.
use Rattle.std.proofs.Common.{◌≡◌, ◌≢◌, ◌≤◌, ◌<◌, ℕ, List, [], ◌∷◌, ◌++◌}
use Rattle.std.proofs.Common.{length, take, Bool, Option, Result, Err}
use Rattle.std.proofs.Common.{None, Some, refl, sym, ap, ap₂, subst, subst₂, ◌∙◌, arith, inl, inr, append_assoc}
use Rattle.std.proofs.Common.{drop}
use Rattle.std.proofs.lemmas.List.{take-append-drop}
use Rattle.std.specs.Prelude.{◌==◌, ◌||◌, ◌&&◌, ⊤, IfSome, true, false, is_some, unwrap_or}
use Rattle.std.specs.Io.KnownBytes.{Appends, Consumes, Keeps as KeepsBytes, prepend_known}
use Rattle.std.proofs.lemmas.Bool.{ne_eqb}
use Rattle.std.proofs.KnownBytes.{Appends-kept, Appends-trans, Keeps-refl}
use Rattle.sysv_keys.specs.declared.identifier.TheConstants.{SLOTS}
use Rattle.sysv_model.specs.declared.cred.Cred.{Cred}
use Rattle.sysv_session.specs.declared.served.End.{End}
use Rattle.sysv_session.specs.declared.served.End.TheVariants.{Ended, NoMemory, NoHello, Fault, Write, Bound, Left}
use Rattle.sysv_session.specs.declared.served.End.TheVariants.{Reset}
use Rattle.sysv_session.specs.declared.handler.RequestOutcome.{RequestOutcome}
use Rattle.sysv_session.specs.declared.handler.RequestOutcome.TheVariants.{Left as WasLeft}
use Rattle.sysv_session.specs.declared.session.Session.{Session}
use Rattle.sysv_session.specs.declared.session.TakenUp.{TakenUp}
use Rattle.sysv_session.specs.Answers.{IsReplied}
use Rattle.sysv_queue.specs.Tally.{Tallied}
use Rattle.sysv_session.specs.Conversation.{HasRoom, Puts, Dialogue, reported, sent_on}
use Rattle.sysv_session.specs.Outbox.{Mark, beyond, more_written, passed}
use Rattle.sysv_session.specs.Stands.{Stands, StandsAsking}
use Rattle.sysv_session.specs.TakenUp.{EndsHere, TakesUp}
use Rattle.sysv_session.proofs.GoesOn.{leaves, sends, sends_asking, sends_stopped}
use Rattle.sysv_session.proofs.GoesOn.{stops_memory, stops_read, stops_reset}
use Rattle.sysv_session.proofs.GoesOn.{stops_write}
use Rattle.sysv_session.proofs.OutboxLemmas.{each_once}
use Rattle.sysv_service.specs.Ran.{Pass}
use Rattle.sysv_wire.specs.declared.fault.Fault.TheVariants.{Truncated, TooLong, BadOp, BadField, Read}
use Rattle.sysv_wire.specs.declared.frame.Version.{Version}
use Rattle.sysv_seats.specs.declared.parked.Parked.{Parked}
use Rattle.sysv_seats.specs.Breaking.{Breaks, HasCause, MayEnd}
use Rattle.sysv_seats.specs.declared.callers.Callers.{Callers}
use Rattle.sysv_seats.specs.Holding.{Holder, Timed, begun_with, timed}
use Rattle.sysv_seats.proofs.HeldPieces.{hold_left}
use Rattle.sysv_seats.proofs.LetIn.{known_cred}
use Rattle.sysv_seats.specs.Sits.{Arrives, GathersDenial, HasDenied, HasFrame, HasStopped, IsAt, IsBehind}
use Rattle.sysv_seats.specs.Sits.{IsCounted, IsFree, means_for}
use Rattle.sysv_seats.specs.Sits.{IsReady, end_at_close, is_finished, is_early}
use Rattle.sysv_seats.specs.Sits.{Keeps, KeepsWith, Sitting, broken_off, broken_off_for, stopped_for, with_input}
use Rattle.sysv_seats.specs.Sits.{zero_moment}
use Rattle.sysv_seats.specs.declared.non_blocking.Drained.TheVariants.{Took}
use Rattle.sysv_seats.specs.NonBlocking.{DrainAppends}

-- ---- what every client keeps

-- The tally has room for each message in the outbox.
pub has_room : (dialogue : Dialogue) (parked : Option Parked) → IsCounted dialogue parked → HasRoom dialogue
has_room dialogue parked counted = omega (arith, counted.0, counted.1)

-- The count, out of what every client keeps.
pub counted_of : {C : Type 0} (start size : ℕ) (input : List ℕ) (dialogue : Dialogue) (parked : Option Parked) →
    (start ≤ size) × HasFrame input parked × IsCounted dialogue parked × C → IsCounted dialogue parked
counted_of start size input dialogue parked (fits, frame, counted, cause) = counted

-- A conversation that has taken up nothing.
pub counted_none : (dialogue : Dialogue) → dialogue.session.tally ≡ record { written = 0; lost = 0 } →
    dialogue.session.requests ≡ 0 → dialogue.unsent ≡ record { bytes = []; marks = [] } → IsCounted dialogue None
counted_none dialogue tally requests unsent = (
  omega (
    arith,
    ap (λ t. t.written) tally,
    ap (λ t. t.lost) tally,
    ap (λ b. length b.marks) unsent,
    requests,
  ),
  omega (arith, requests),
  λ none. requests,
)

-- The connection took n bytes more.
pub counted_sent : (n : ℕ) (dialogue : Dialogue) (parked : Option Parked) → IsCounted dialogue parked →
    IsCounted (sent_on n dialogue) parked
counted_sent n dialogue parked counted =
    (omega (arith, counted.0, each_once n dialogue.unsent.marks), counted.1, counted.2)

-- A call that was parked is none any more.
pub counted_left : (dialogue : Dialogue) (parked : Parked) → IsCounted dialogue (Some parked) → IsCounted dialogue None
counted_left dialogue parked counted = (omega (arith, counted.0), counted.1, counted.2)

pub kept_sent : (start size : ℕ) (input : List ℕ) (dialogue : Dialogue) (parked : Option Parked) (dialogue' : Dialogue)
    (n : ℕ)
    (breaks breaks' : Breaks) (stopped : Option End) (broken : Bool) → dialogue' ≡ sent_on n dialogue →
    breaks' ≡ breaks →
    (start ≤ size) × HasFrame input parked × IsCounted dialogue parked × HasCause breaks stopped broken →
    (start ≤ size) × HasFrame input parked × IsCounted dialogue' parked × HasCause breaks' stopped broken
kept_sent start size input dialogue parked dialogue' n breaks breaks' stopped broken is same
    (fits, frame, counted, cause) = (
      fits,
      frame,
      subst (λ (t : Dialogue). IsCounted t parked) (sym is) (counted_sent n dialogue parked counted),
      subst (λ (b : Breaks). HasCause b stopped broken) (sym same) cause,
    )

-- ---- why a session ends

-- A call whose reply could not be gathered stops the client, and no call was left.
pub put_cause : (breaks : Breaks) (version : Version) (outcome : RequestOutcome) (given : List ℕ) (old new : Dialogue)
    (why : End) → IsReplied outcome → Puts (Err why) version outcome given old new → MayEnd breaks why
put_cause breaks version outcome given old new NoMemory replied put = tt
put_cause breaks version outcome given old new Left replied put =
    absurd (let left : IsReplied WasLeft = subst IsReplied put.0 replied in left)
put_cause breaks version outcome given old new Ended replied put = absurd put
put_cause breaks version outcome given old new NoHello replied put = absurd put
put_cause breaks version outcome given old new (Fault fault) replied put = absurd put
put_cause breaks version outcome given old new Write replied put = absurd put
put_cause breaks version outcome given old new Bound replied put = absurd put
put_cause breaks version outcome given old new Reset replied put = absurd put

-- What is read of the input stops the client for a reason in the input.
ends_cause : (breaks : Breaks) (newest : Version) (caller : Option (Version × Cred)) (requests : ℕ) (why : End)
    (left rest : Option (List ℕ)) (text : List ℕ) (is_end : Bool) → is_early why is_end ≡ false →
    EndsHere newest caller requests why left rest text → MayEnd breaks why
ends_cause breaks newest caller requests Ended left rest text is_end late here = tt
ends_cause breaks newest caller requests NoMemory left rest text is_end late here = tt
ends_cause breaks newest caller requests NoHello left rest text is_end late here = tt
ends_cause breaks newest caller requests (Fault Truncated) left rest text is_end late here = tt
ends_cause breaks newest caller requests (Fault TooLong) left rest text is_end late here = tt
ends_cause breaks newest caller requests (Fault BadOp) left rest text is_end late here = tt
ends_cause breaks newest caller requests (Fault BadField) left rest text is_end late here = tt
ends_cause breaks newest caller requests (Fault Read) left rest text is_end late here = absurd (cc late)
ends_cause breaks newest None requests Write left rest text is_end late here = absurd here.0
ends_cause breaks newest (Some caller) requests Write left rest text is_end late (inl bound) =
    absurd (let other : Write ≡ Bound = bound.1 in cc other)
ends_cause breaks newest (Some caller) requests Write left rest text is_end late (inr read) = absurd read.1
ends_cause breaks newest caller requests Bound left rest text is_end late here = tt
ends_cause breaks newest None requests Left left rest text is_end late here = absurd here.0
ends_cause breaks newest (Some caller) requests Left left rest text is_end late (inl bound) =
    absurd (let other : Left ≡ Bound = bound.1 in cc other)
ends_cause breaks newest (Some caller) requests Left left rest text is_end late (inr read) = absurd read.1
ends_cause breaks newest None requests Reset left rest text is_end late here = absurd here.0
ends_cause breaks newest (Some caller) requests Reset left rest text is_end late (inl bound) =
    absurd (let other : Reset ≡ Bound = bound.1 in cc other)
ends_cause breaks newest (Some caller) requests Reset left rest text is_end late (inr read) = absurd read.1

pub taken_cause : (breaks : Breaks) (old new : Session) (result : Result TakenUp End) (why : End)
    (left rest : Option (List ℕ)) (text : List ℕ) (is_end : Bool) → result ≡ Err why → is_early why is_end ≡ false →
    TakesUp old new result left rest text → MayEnd breaks why
taken_cause breaks old new result why left rest text is_end is late takes =
    let here = subst (λ (r : Result TakenUp End). TakesUp old new r left rest text) is takes in
    ends_cause breaks old.newest old.caller old.requests why left rest text is_end late here.1

-- A client that may be closed ends its session for a reason that there is.
reported_cause : (breaks : Breaks) (why : End) (bytes : List ℕ) → MayEnd breaks why →
    (bytes ≢ [] → breaks.writing ≡ true) → MayEnd breaks (reported why bytes)
reported_cause breaks why [] may lost = may
reported_cause breaks why (byte ∷ bytes) may lost =
    lost (λ none. absurd (omega (arith, ap (length {A = ℕ}) none)))

stopped_cause : (breaks : Breaks) (parked : Option Parked) (stopped : Option End) → IfSome stopped (MayEnd breaks) →
    is_some stopped ≡ true → MayEnd breaks (end_at_close parked stopped)
stopped_cause breaks parked None cause some = absurd (cc some)
stopped_cause breaks parked (Some why) cause some = cause

finished_cause : (breaks : Breaks) (parked : Option Parked) (stopped : Option End) (broken : Bool) (bytes : List ℕ) →
    HasCause breaks stopped broken →
    (broken || (is_some stopped && (length bytes == 0))) ≡ true →
    MayEnd breaks (reported (end_at_close parked stopped) bytes)
finished_cause breaks parked stopped true bytes cause done =
    reported_cause breaks (end_at_close parked stopped) bytes
    (stopped_cause breaks parked stopped cause.0 (cause.1 refl).1) (λ some. (cause.1 refl).0)
finished_cause breaks parked None false bytes cause done = absurd (cc done)
finished_cause breaks parked (Some why) false [] cause done = cause.0
finished_cause breaks parked (Some why) false (byte ∷ bytes) cause done =
    let some : (length (byte ∷ bytes) == 0) ≡ false =
    ne_eqb (length (byte ∷ bytes)) 0 (λ none. absurd (omega (arith, none))) in
    let no : false ≡ true = sym some ∙ done in
    absurd (cc no)

pub closing_cause : {T : Type 0} (breaks : Breaks) (client : Sitting T) →
    HasCause breaks client.stopped client.broken → is_finished client ≡ true →
    MayEnd breaks (reported (end_at_close client.parked client.stopped) client.dialogue.unsent.bytes)
closing_cause breaks client cause done =
    finished_cause breaks client.parked client.stopped client.broken client.dialogue.unsent.bytes cause done

-- ---- the input

-- What has arrived, and then what the connection has: the connection has the rest.
behind : (later : List ℕ) (more : Option (List ℕ)) → IsBehind (prepend_known later more) more
behind later None = (later, tt)
behind later (Some xs) = (later, refl)

-- Bytes were read and appended to those that had arrived.
same_unread : (input bytes : List ℕ) (old new : Option (List ℕ)) → Consumes old new bytes → (old ≡ None → new ≡ None) →
    prepend_known input old ≡ prepend_known (input ++ bytes) new
same_unread input bytes None None took none = refl
same_unread input bytes None (Some ys) took none = absurd (let no : Some ys ≡ None = none refl in cc)
same_unread input bytes (Some xs) None took none = absurd took
same_unread input bytes (Some xs) (Some ys) took none =
    ap (λ (l : List ℕ). let o : Option (List ℕ) = Some l in o)
    (ap (λ (l : List ℕ). input ++ l) took ∙ sym (append_assoc input bytes ys))

-- Bytes were read and dropped.
behind_read : (input bytes : List ℕ) (old new : Option (List ℕ)) → Consumes old new bytes →
    IsBehind (prepend_known input old) new
behind_read input bytes None new took = ([], tt)
behind_read input bytes (Some xs) None took = absurd took
behind_read input bytes (Some xs) (Some ys) took =
    (input ++ bytes, ap (λ (l : List ℕ). input ++ l) took ∙ sym (append_assoc input bytes ys))

-- No bytes were read.
pub none_read : (old new : Option (List ℕ)) → KeepsBytes old new → (old ≡ None → new ≡ None) → new ≡ old
none_read None new kept none = none refl
none_read (Some xs) None kept none = absurd kept
none_read (Some xs) (Some ys) kept none = ap (λ (l : List ℕ). let o : Option (List ℕ) = Some l in o) kept

some_bytes : (bytes : List ℕ) → bytes ≢ [] → 0 < length bytes
some_bytes [] some = absurd (some refl)
some_bytes (x ∷ xs) some = omega arith

-- Some bytes wait.
pub some_waits : (bytes : List ℕ) → (length bytes == 0) ≡ false → bytes ≢ []
some_waits [] waits = absurd (cc waits)
some_waits (x ∷ xs) waits = λ none. absurd (omega (arith, ap (length {A = ℕ}) none))

module _ {T : Type 0} (incoming outgoing : T → Option (List ℕ)) (callers : T → Callers) where
  -- The client with this connection.
  abbrev pub on : T → Sitting T → Sitting T
  on connection client = record {
    connection = connection;
    dialogue = client.dialogue;
    input = client.input;
    parked = client.parked;
    stopped = client.stopped;
    broken = client.broken;
  }

  -- The client, which has left its call. This is its input.
  abbrev pub left_with : List ℕ → Sitting T → Sitting T
  left_with input client = record {
    connection = client.connection;
    dialogue = client.dialogue;
    input = input;
    parked = None;
    stopped = Some Left;
    broken = client.broken;
  }

  -- One event after another.
  pub keeps_on : (old : Sitting T) (before : Holder Pass) (mid : Sitting T) (between : Holder Pass)
      (new : Sitting T) (after : Holder Pass) →
      KeepsWith incoming outgoing callers old before mid between → KeepsWith incoming outgoing callers mid between new
      after →
      KeepsWith incoming outgoing callers old before new after
  keeps_on old before mid between new after first second =
      λ late newest start origin sits. second late newest start origin (first late newest start origin sits)

  -- The fields of the client say the same.
  pub keeps_from : (old client new : Sitting T) → client ≡ old → Keeps incoming outgoing callers client new →
      Keeps incoming outgoing callers old new
  keeps_from old client new is keeps = subst (λ (c : Sitting T). Keeps incoming outgoing callers c new) is keeps

  pub keeps_with_from : (old client : Sitting T) (before : Holder Pass) (new : Sitting T) (after : Holder Pass) →
      client ≡ old →
      KeepsWith incoming outgoing callers client before new after → KeepsWith incoming outgoing callers old before new
      after
  keeps_with_from old client before new after is keeps =
      subst (λ (c : Sitting T). KeepsWith incoming outgoing callers c before new after) is keeps

  pub keeps_to : (old new last : Sitting T) → last ≡ new → Keeps incoming outgoing callers old new →
      Keeps incoming outgoing callers old last
  keeps_to old new last is keeps = subst (Keeps incoming outgoing callers old) (sym is) keeps

  pub keeps_then : (old mid new : Sitting T) → Keeps incoming outgoing callers old mid → Keeps incoming outgoing callers
      mid new →
      Keeps incoming outgoing callers old new
  keeps_then old mid new first second = λ now. keeps_on old now mid now new now (first now) (second now)

  -- ---- a client that is free

  is_ready : (newest : Version) (start : Pass) (origin : T) (client : Sitting T) (now : Timed Pass)
      (sent : List ℕ) → IsFree client →
      IsAt incoming outgoing callers newest start origin client now sent client.parked client.stopped →
      IsReady incoming outgoing callers newest start origin client now sent
  is_ready newest start origin client now sent free at =
      subst₂ (λ (p : Option Parked) (s : Option End). IsAt incoming outgoing callers newest start origin client now sent
      p
      s) free.0
      free.1 at

  pub is_at : (newest : Version) (start : Pass) (origin : T) (client : Sitting T) (now : Timed Pass) (sent : List ℕ) →
      IsFree client →
      IsReady incoming outgoing callers newest start origin client now sent →
      IsAt incoming outgoing callers newest start origin client now sent client.parked client.stopped
  is_at newest start origin client now sent free ready =
      subst₂ (λ (p : Option Parked) (s : Option End). IsAt incoming outgoing callers newest start origin client now sent
      p s)
      (sym free.0) (sym free.1) ready

  is_stopped : (newest : Version) (start : Pass) (origin : T) (client : Sitting T) (now : Timed Pass)
      (sent : List ℕ) (why : End) →
      client.parked ≡ None → HasStopped incoming outgoing callers newest start origin client now sent why →
      IsAt incoming outgoing callers newest start origin client now sent client.parked (Some why)
  is_stopped newest start origin client now sent why none stopped =
      subst (λ (p : Option Parked). IsAt incoming outgoing callers newest start origin client now sent p (Some why))
      (sym none) (inl stopped)

  -- A client whose hello was denied, with the same dialogue, whose connection has as much to be read.
  denied_same : (newest : Version) (start : Pass) (origin : T) (client new : Sitting T) (now : Timed Pass)
      (sent : List ℕ) (why : End) → incoming new.connection ≡ incoming client.connection →
      new.dialogue ≡ client.dialogue → HasDenied incoming outgoing callers newest start origin client now sent why →
      HasDenied incoming outgoing callers newest start origin new now sent why
  denied_same newest start origin client new now sent why same dialogue at = record {
    version = at.version;
    cred = at.cred;
    known = at.known;
    other = at.other;
    rest = at.rest;
    reads = at.reads;
    behind = subst (IsBehind at.rest) (sym same) at.behind;
    handler = at.handler;
    gathered = subst (λ (d : Dialogue). GathersDenial at.version why (sent ++ d.unsent.bytes)) (sym dialogue)
        at.gathered;
    marks = ap (λ (d : Dialogue). d.unsent.marks) dialogue ∙ at.marks;
    tallies = ap (λ (d : Dialogue). d.session.tally) dialogue ∙ at.tallies;
    counts = ap (λ (d : Dialogue). d.session.requests) dialogue ∙ at.counts;
  }

  -- The connection cannot be read.
  pub read_at : (newest : Version) (start : Pass) (origin : T) (client : Sitting T) (now : Timed Pass) (sent : List ℕ) →
      IsReady incoming outgoing callers newest start origin client now sent →
      HasStopped incoming outgoing callers newest start origin client now sent (Fault Read)
  read_at newest start origin client now sent ready = (
    prepend_known client.input (incoming client.connection),
    behind client.input (incoming client.connection),
    ready.0,
    ready.1,
    stops_read newest (means_for (callers origin)) SLOTS client.dialogue (begun_with start) ready.0 (incoming origin)
        (prepend_known client.input (incoming client.connection)) sent ready.2,
    ready.3,
  )

  pub stops_reading : (client : Sitting T) → IsFree client →
      Keeps incoming outgoing callers client (stopped_for (Fault Read) client)
  stops_reading client free = λ here late newest start origin sits. let now : Timed Pass = timed here late in record {
    sent = sits.sent;
    wrote = sits.wrote;
    same = sits.same;
    at = is_stopped newest start origin (stopped_for (Fault Read) client) now sits.sent (Fault Read) free.0
        (read_at newest start origin client now sits.sent (is_ready newest start origin client now sits.sent free
        sits.at));
  }

  -- The client has reset the connection.
  reset_at : (newest : Version) (start : Pass) (origin : T) (client : Sitting T) (now : Timed Pass) (sent : List ℕ) →
      IsReady incoming outgoing callers newest start origin client now sent →
      HasStopped incoming outgoing callers newest start origin client now sent Reset
  reset_at newest start origin client now sent ready = (
    prepend_known client.input (incoming client.connection),
    behind client.input (incoming client.connection),
    ready.0,
    ready.1,
    stops_reset newest (means_for (callers origin)) SLOTS client.dialogue (begun_with start) ready.0 (incoming origin)
        (prepend_known client.input (incoming client.connection)) sent ready.2,
    ready.3,
  )

  pub stops_resetting : (client : Sitting T) → IsFree client →
      Keeps incoming outgoing callers client (stopped_for Reset client)
  stops_resetting client free = λ here late newest start origin sits. let now : Timed Pass = timed here late in record {
    sent = sits.sent;
    wrote = sits.wrote;
    same = sits.same;
    at = is_stopped newest start origin (stopped_for Reset client) now sits.sent Reset free.0
        (reset_at newest start origin client now sits.sent (is_ready newest start origin client now sits.sent free
        sits.at));
  }

  -- The connection takes no more.
  pub stops_writing : (client : Sitting T) → IsFree client → client.dialogue.unsent.bytes ≢ [] →
      Keeps incoming outgoing callers client (stopped_for Write client)
  stops_writing client free some = λ here late newest start origin sits.
      let now : Timed Pass = timed here late in record {
        sent = sits.sent;
        wrote = sits.wrote;
        same = sits.same;
        at = let ready = is_ready newest start origin client now sits.sent free sits.at in
            is_stopped newest start origin (stopped_for Write client) now sits.sent Write free.0 (
              prepend_known client.input (incoming client.connection),
              behind client.input (incoming client.connection),
              ready.0,
              ready.1,
              stops_write newest (means_for (callers origin)) SLOTS client.dialogue (begun_with start) ready.0
                  (incoming origin) (prepend_known client.input (incoming client.connection)) sits.sent
                  (some_bytes client.dialogue.unsent.bytes some) ready.2,
              ready.3,
            );
      }

  -- Bytes were read and appended to the input.
  arrives_more : (client : Sitting T) (connection : T) (bytes : List ℕ) → IsFree client →
      Consumes (incoming client.connection) (incoming connection) bytes →
      (incoming client.connection ≡ None → incoming connection ≡ None) →
      (outgoing connection ≡ outgoing client.connection) × (callers connection ≡ callers client.connection) →
      Keeps incoming outgoing callers client (with_input (client.input ++ bytes) (on connection client))
  arrives_more client connection bytes free took none same = λ here late newest start origin sits.
      let now : Timed Pass = timed here late in record {
        sent = sits.sent;
        wrote = subst (λ (o : Option (List ℕ)). Appends (outgoing origin) o sits.sent) (sym same.0) sits.wrote;
        same = same.1 ∙ sits.same;
        at = let ready = is_ready newest start origin client now sits.sent free sits.at in
            is_at newest start origin (with_input (client.input ++ bytes) (on connection client)) now sits.sent free (
              ready.0,
              ready.1,
              subst (λ (o : Option (List ℕ)). Stands newest (means_for (callers origin)) SLOTS client.dialogue
                  (begun_with start) ready.0 (incoming origin) o sits.sent)
                  (same_unread client.input bytes (incoming client.connection) (incoming connection) took none) ready.2,
              ready.3,
            );
      }

  -- Bytes were read, and memory for them was refused.
  arrives_not : (client : Sitting T) (connection : T) (bytes : List ℕ) → IsFree client →
      Consumes (incoming client.connection) (incoming connection) bytes →
      (outgoing connection ≡ outgoing client.connection) × (callers connection ≡ callers client.connection) →
      Keeps incoming outgoing callers client (stopped_for NoMemory (on connection client))
  arrives_not client connection bytes free took same = λ here late newest start origin sits.
      let now : Timed Pass = timed here late in record {
        sent = sits.sent;
        wrote = subst (λ (o : Option (List ℕ)). Appends (outgoing origin) o sits.sent) (sym same.0) sits.wrote;
        same = same.1 ∙ sits.same;
        at = let ready = is_ready newest start origin client now sits.sent free sits.at in
            is_stopped newest start origin (stopped_for NoMemory (on connection client)) now sits.sent NoMemory free.0 (
              prepend_known client.input (incoming client.connection),
              behind_read client.input bytes (incoming client.connection) (incoming connection) took,
              ready.0,
              ready.1,
              stops_memory newest (means_for (callers origin)) SLOTS client.dialogue (begun_with start) ready.0
                  (incoming origin) (prepend_known client.input (incoming client.connection)) sits.sent ready.2,
              ready.3,
            );
      }

  -- Bytes were read.
  pub arrives : (client new : Sitting T) (connection : T) (bytes : List ℕ) → IsFree client →
      Consumes (incoming client.connection) (incoming connection) bytes →
      (incoming client.connection ≡ None → incoming connection ≡ None) →
      (outgoing connection ≡ outgoing client.connection) × (callers connection ≡ callers client.connection) → Arrives
      bytes (on connection client) new →
      Keeps incoming outgoing callers client new
  arrives client new connection bytes free took none same (inl is) =
      subst (Keeps incoming outgoing callers client) (sym is) (arrives_more client connection bytes free took none same)
  arrives client new connection bytes free took none same (inr is) =
      subst (Keeps incoming outgoing callers client) (sym is) (arrives_not client connection bytes free took same)

  -- The connection takes no more replies.
  broken_at : (newest : Version) (start : Pass) (origin : T) (client : Sitting T) (now : Timed Pass)
      (sent : List ℕ) (parked : Option Parked)
      (stopped : Option End) → IsAt incoming outgoing callers newest start origin client now sent parked stopped →
      IsAt incoming outgoing callers newest start origin (broken_off client) now sent parked stopped
  broken_at newest start origin client now sent None None at = at
  broken_at newest start origin client now sent (Some parked) None at = record {
    text = at.text;
    settled = at.settled;
    before = at.before;
    lapsed = at.lapsed;
    later = at.later;
    asking = at.asking;
    frame = at.frame;
    size = at.size;
    waits = at.waits;
    late = at.late;
    known = at.known;
  }
  broken_at newest start origin client now sent None (Some why) (inl at) = inl at
  broken_at newest start origin client now sent None (Some why) (inr at) =
      inr (denied_same newest start origin client (broken_off client) now sent why refl refl at)
  broken_at newest start origin client now sent (Some parked) (Some why) at = absurd at

  breaks : (client : Sitting T) → Keeps incoming outgoing callers client (broken_off client)
  breaks client = λ here late newest start origin sits. let now : Timed Pass = timed here late in record {
    sent = sits.sent;
    wrote = sits.wrote;
    same = sits.same;
    at = broken_at newest start origin client now sits.sent client.parked client.stopped sits.at;
  }

  -- The client is broken off: it stops for this reason, unless it has stopped.
  broken_at_last : (client : Sitting T) (why : End) (stopped : Option End) → client.stopped ≡ stopped →
      (client.stopped ≡ None → Keeps incoming outgoing callers client (stopped_for why client)) →
      Keeps incoming outgoing callers client (broken_off_for why client)
  broken_at_last client why None same stops =
      let last = stopped_for why client in
      let is : broken_off_for why client ≡ broken_off last = ap (λ (o : Option End). let s : Sitting T = record {
        connection = client.connection;
        dialogue = client.dialogue;
        input = client.input;
        parked = client.parked;
        stopped = Some (unwrap_or o why);
        broken = true;
      } in s) same in
      keeps_to client (broken_off last) (broken_off_for why client) is
      (keeps_then client last (broken_off last) (stops same) (breaks last))
  broken_at_last client why (Some other) same stops =
      let is : broken_off_for why client ≡ broken_off client = ap (λ (o : Option End). let s : Sitting T = record {
        connection = client.connection;
        dialogue = client.dialogue;
        input = client.input;
        parked = client.parked;
        stopped = o;
        broken = true;
      } in s) (ap (λ (o : Option End). let p : Option End = Some (unwrap_or o why) in p) same ∙ sym same) in
      keeps_to client (broken_off client) (broken_off_for why client) is (breaks client)

  pub breaks_reading : (old mid new : Sitting T) → Keeps incoming outgoing callers old mid → mid.parked ≡ None →
      new ≡ broken_off_for (Fault Read) mid → Keeps incoming outgoing callers old new
  breaks_reading old mid new keeps none is =
      keeps_to old (broken_off_for (Fault Read) mid) new is
      (keeps_then old mid (broken_off_for (Fault Read) mid) keeps
      (broken_at_last mid (Fault Read) mid.stopped refl (λ going. stops_reading mid (none, going))))

  pub breaks_writing : (old mid new : Sitting T) → Keeps incoming outgoing callers old mid → mid.parked ≡ None →
      mid.dialogue ≡ old.dialogue → old.dialogue.unsent.bytes ≢ [] → new ≡ broken_off_for Write mid →
      Keeps incoming outgoing callers old new
  breaks_writing old mid new keeps none same some is =
      let left = subst (λ (t : Dialogue). t.unsent.bytes ≢ []) (sym same) some in
      keeps_to old (broken_off_for Write mid) new is
      (keeps_then old mid (broken_off_for Write mid) keeps
      (broken_at_last mid Write mid.stopped refl (λ going. stops_writing mid (none, going) left)))

  pub free_as : (old client : Sitting T) → client ≡ old → IsFree old → IsFree client
  free_as old client view free =
      (ap (λ (c : Sitting T). c.parked) view ∙ free.0, ap (λ (c : Sitting T). c.stopped) view ∙ free.1)

  -- ---- any client

  -- The call is left.
  pub left_at : (newest : Version) (start : Pass) (origin : T) (client : Sitting T) (input : List ℕ) (now : Timed Pass)
      (sent : List ℕ)
      (parked : Parked) (stopped : Option End) →
      IsAt incoming outgoing callers newest start origin client now sent (Some parked) stopped →
      HasStopped incoming outgoing callers newest start origin (left_with input client) now sent Left
  left_at newest start origin client input now sent parked None waits =
      let told = hold_left zero_moment parked.request.version parked.cred ⊤ parked.request.ask waits.text
      waits.before.holder parked.waiting now.holder tt waits.waits in (
        prepend_known waits.later (incoming client.connection),
        behind waits.later (incoming client.connection),
        now,
        ([], refl),
        leaves newest (means_for (callers origin)) SLOTS parked.cred parked.request waits.text [] client.dialogue
            (begun_with start) waits.settled now (incoming origin)
            (prepend_known waits.later (incoming client.connection)) sent waits.asking (
              known_cred newest (callers origin) (incoming origin) client.dialogue.session.caller
                  waits.asking.asking.version parked.cred waits.asking.asking.caller waits.known,
              (waits.before, waits.lapsed, told, waits.late),
            ) refl,
        waits.known,
      )
  left_at newest start origin client input now sent parked (Some why) none = absurd none

  pub gives_up : (client : Sitting T) (input : List ℕ) (parked : Parked) → client.parked ≡ Some parked →
      Keeps incoming outgoing callers client (left_with input client)
  gives_up client input parked is = λ here late newest start origin sits.
      let now : Timed Pass = timed here late in record {
        sent = sits.sent;
        wrote = sits.wrote;
        same = sits.same;
        at = inl (left_at newest start origin client input now sits.sent parked client.stopped
            (subst (λ (p : Option Parked). IsAt incoming outgoing callers newest start origin client now sits.sent p
            client.stopped) is
            sits.at));
      }

  -- The connection took or gave nothing.
  turned_at : (newest : Version) (start : Pass) (origin : T) (client : Sitting T) (connection : T)
      (now : Timed Pass) (sent : List ℕ)
      (parked : Option Parked) (stopped : Option End) → incoming connection ≡ incoming client.connection →
      IsAt incoming outgoing callers newest start origin client now sent parked stopped →
      IsAt incoming outgoing callers newest start origin (on connection client) now sent parked stopped
  turned_at newest start origin client connection now sent None None same at = (
    at.0,
    at.1,
    subst (λ (o : Option (List ℕ)). Stands newest (means_for (callers origin)) SLOTS client.dialogue (begun_with start)
        at.0 (incoming origin) (prepend_known client.input o) sent) (sym same) at.2,
    at.3,
  )
  turned_at newest start origin client connection now sent (Some parked) None same at = record {
    text = at.text;
    settled = at.settled;
    before = at.before;
    lapsed = at.lapsed;
    later = at.later;
    asking = subst (λ (o : Option (List ℕ)). StandsAsking newest (means_for (callers origin)) SLOTS parked.cred
        parked.request
        at.text client.dialogue (begun_with start) at.settled (incoming origin) (prepend_known at.later o) sent)
        (sym same) at.asking;
    frame = at.frame;
    size = at.size;
    waits = at.waits;
    late = at.late;
    known = at.known;
  }
  turned_at newest start origin client connection now sent None (Some why) same (inl at) =
      inl (at.0, subst (λ (o : Option (List ℕ)). IsBehind at.0 o) (sym same) at.1, at.2, at.3, at.4, at.5)
  turned_at newest start origin client connection now sent None (Some why) same (inr at) =
      inr (denied_same newest start origin client (on connection client) now sent why same refl at)
  turned_at newest start origin client connection now sent (Some parked) (Some why) same at = absurd at

  pub turned : (client : Sitting T) (connection : T) → (incoming connection ≡ incoming client.connection) × (callers
      connection ≡ callers client.connection) →
      KeepsBytes (outgoing client.connection) (outgoing connection) →
      Keeps incoming outgoing callers client (on connection client)
  turned client connection same kept = λ here late newest start origin sits.
      let now : Timed Pass = timed here late in record {
        sent = sits.sent;
        wrote =
            Appends-kept (outgoing origin) (outgoing client.connection) (outgoing connection) sits.sent sits.wrote kept;
        same = same.1 ∙ sits.same;
        at = turned_at newest start origin client connection now sits.sent client.parked client.stopped same.0 sits.at;
      }

  -- A read returned nothing.
  pub unread_still : (client : Sitting T) (connection : T) →
      KeepsBytes (incoming client.connection) (incoming connection) →
      (incoming client.connection ≡ None → incoming connection ≡ None) →
      (outgoing connection ≡ outgoing client.connection) × (callers connection ≡ callers client.connection) → Keeps
      incoming outgoing callers client (on connection client)
  unread_still client connection kept none same =
      turned client connection (none_read (incoming client.connection) (incoming connection) kept none, same.1)
      (subst (λ (o : Option (List ℕ)). KeepsBytes (outgoing client.connection) o) (sym same.0)
      (Keeps-refl (outgoing client.connection)))

  -- One read, and then what is taken up.
  pub filled : (old client mid new : Sitting T) (connection : T) (bytes : List ℕ) (before after : Holder Pass) →
      client ≡ old → IsFree old → Consumes (incoming client.connection) (incoming connection) bytes →
      (incoming client.connection ≡ None → incoming connection ≡ None) →
      (outgoing connection ≡ outgoing client.connection) × (callers connection ≡ callers client.connection) → Arrives
      bytes (on connection client) mid →
      KeepsWith incoming outgoing callers mid before new after → KeepsWith incoming outgoing callers old before new
      after
  filled old client mid new connection bytes before after view free took none same arrived taken =
      keeps_with_from old client before new after view
      (keeps_on client before mid before new after
      (arrives client mid connection bytes (free_as old client view free) took none same arrived before) taken)

  -- Nothing more can be read.
  pub filled_last : (old client new : Sitting T) (connection : T) (before after : Holder Pass) → client ≡ old →
      KeepsBytes (incoming client.connection) (incoming connection) →
      (incoming client.connection ≡ None → incoming connection ≡ None) →
      (outgoing connection ≡ outgoing client.connection) × (callers connection ≡ callers client.connection) →
      KeepsWith incoming outgoing callers (on connection client) before new after →
      KeepsWith incoming outgoing callers old before new after
  filled_last old client new connection before after view kept none same taken =
      keeps_with_from old client before new after view
      (keeps_on client before (on connection client) before new after
      (unread_still client connection kept none same before) taken)

  pub filled_none : (old client : Sitting T) (connection : T) (now : Holder Pass) → client ≡ old →
      KeepsBytes (incoming client.connection) (incoming connection) →
      (incoming client.connection ≡ None → incoming connection ≡ None) →
      (outgoing connection ≡ outgoing client.connection) × (callers connection ≡ callers client.connection) →
      KeepsWith incoming outgoing callers old now (on connection client) now
  filled_none old client connection now view kept none same =
      keeps_with_from old client now (on connection client) now view
      (unread_still client connection kept none same now)

  pub filled_not : (why : End) → ((c : Sitting T) → IsFree c → Keeps incoming outgoing callers c (stopped_for why c)) →
      (old client new : Sitting T) (connection : T) (now : Holder Pass) → client ≡ old → IsFree old →
      KeepsBytes (incoming client.connection) (incoming connection) →
      (incoming client.connection ≡ None → incoming connection ≡ None) →
      (outgoing connection ≡ outgoing client.connection) × (callers connection ≡ callers client.connection) → new ≡
      stopped_for why (on connection client) →
      KeepsWith incoming outgoing callers old now new now
  filled_not why stops old client new connection now view free kept none same is =
      keeps_with_from old client now new now view
      (keeps_to client (stopped_for why (on connection client)) new is
      (keeps_then client (on connection client) (stopped_for why (on connection client))
      (unread_still client connection kept none same)
      (stops (on connection client) (free_as old client view free))) now)

  -- A turn: what is taken up, then the leave of a peer, then what changes nothing.
  pub turns : (old : Sitting T) (before : Holder Pass) (mid left new : Sitting T) (after : Holder Pass) →
      KeepsWith incoming outgoing callers old before mid after → Keeps incoming outgoing callers mid left → new ≡ left →
      KeepsWith incoming outgoing callers old before new after
  turns old before mid left new after taken keeps is =
      keeps_on old before mid after new after taken (keeps_to mid left new is keeps after)

  -- The connection took n bytes of the replies.
  abbrev pub with_sent : T → ℕ → Sitting T → Sitting T
  with_sent connection n client = record {
    connection = connection;
    dialogue = sent_on n client.dialogue;
    input = client.input;
    parked = client.parked;
    stopped = client.stopped;
    broken = client.broken;
  }

  -- A client whose hello was denied, once the connection took n bytes of the answer.
  denied_sent : (newest : Version) (start : Pass) (origin : T) (client : Sitting T) (connection : T) (n : ℕ)
      (now : Timed Pass) (sent : List ℕ) (why : End) → incoming connection ≡ incoming client.connection →
      HasDenied incoming outgoing callers newest start origin client now sent why →
      HasDenied incoming outgoing callers newest start origin (with_sent connection n client) now
      (sent ++ take n client.dialogue.unsent.bytes) why
  denied_sent newest start origin client connection n now sent why same at =
      let bytes = client.dialogue.unsent.bytes in
      record {
        version = at.version;
        cred = at.cred;
        known = at.known;
        other = at.other;
        rest = at.rest;
        reads = at.reads;
        behind = subst (IsBehind at.rest) (sym same) at.behind;
        handler = at.handler;
        gathered = subst (GathersDenial at.version why)
            (sym (append_assoc sent (take n bytes) (drop n bytes)
            ∙ ap (λ (l : List ℕ). sent ++ l) (take-append-drop n bytes))) at.gathered;
        marks = ap (beyond n) at.marks;
        tallies = ap₂ (λ (m : List Mark) (t : Tallied). more_written (passed n m) t) at.marks at.tallies;
        counts = at.counts;
      }

  drained_at : (newest : Version) (start : Pass) (origin : T) (client : Sitting T) (connection : T) (n : ℕ)
      (now : Timed Pass) (sent : List ℕ)
      (parked : Option Parked) (stopped : Option End) → n ≤ length client.dialogue.unsent.bytes →
      incoming connection ≡ incoming client.connection →
      IsAt incoming outgoing callers newest start origin client now sent parked stopped →
      IsAt incoming outgoing callers newest start origin (with_sent connection n client) now
      (sent ++ take n client.dialogue.unsent.bytes) parked stopped
  drained_at newest start origin client connection n now sent None None fits same at = (
    at.0,
    at.1,
    sends newest (means_for (callers origin)) SLOTS n client.dialogue (sent_on n client.dialogue) (begun_with start)
        at.0
        (incoming origin) (prepend_known client.input (incoming connection)) sent fits refl
        (subst (λ (o : Option (List ℕ)). Stands newest (means_for (callers origin)) SLOTS client.dialogue
        (begun_with start) at.0 (incoming origin) (prepend_known client.input o) sent) (sym same) at.2),
    at.3,
  )
  drained_at newest start origin client connection n now sent (Some parked) None fits same at = record {
    text = at.text;
    settled = at.settled;
    before = at.before;
    lapsed = at.lapsed;
    later = at.later;
    asking = sends_asking newest (means_for (callers origin)) SLOTS parked.cred parked.request at.text n client.dialogue
        (sent_on n client.dialogue) (begun_with start) at.settled (incoming origin)
        (prepend_known at.later (incoming connection))
        sent
        fits refl
        (subst (λ (o : Option (List ℕ)). StandsAsking newest (means_for (callers origin)) SLOTS parked.cred
        parked.request
        at.text client.dialogue (begun_with start) at.settled (incoming origin) (prepend_known at.later o) sent)
        (sym same)
        at.asking);
    frame = at.frame;
    size = at.size;
    waits = at.waits;
    late = at.late;
    known = at.known;
  }
  drained_at newest start origin client connection n now sent None (Some why) fits same (inr at) =
      inr (denied_sent newest start origin client connection n now sent why same at)
  drained_at newest start origin client connection n now sent None (Some why) fits same (inl at) = inl (
    at.0,
    subst (λ (o : Option (List ℕ)). IsBehind at.0 o) (sym same) at.1,
    at.2,
    at.3,
    sends_stopped newest (means_for (callers origin)) SLOTS why n client.dialogue (sent_on n client.dialogue)
        (begun_with start) at.2 (incoming origin) at.0 sent fits refl at.4,
    at.5,
  )
  drained_at newest start origin client connection n now sent (Some parked) (Some why) fits same at = absurd at

  pub drained : (client : Sitting T) (connection : T) (n : ℕ) → n ≤ length client.dialogue.unsent.bytes →
      (incoming connection ≡ incoming client.connection) × (callers connection ≡ callers client.connection) →
      Appends (outgoing client.connection) (outgoing connection) (take n client.dialogue.unsent.bytes) →
      Keeps incoming outgoing callers client (with_sent connection n client)
  drained client connection n fits same wrote = λ here late newest start origin sits.
      let now : Timed Pass = timed here late in record {
        sent = sits.sent ++ take n client.dialogue.unsent.bytes;
        wrote = Appends-trans (outgoing origin) (outgoing client.connection) (outgoing connection) sits.sent
            (take n client.dialogue.unsent.bytes) sits.wrote wrote;
        same = same.1 ∙ sits.same;
        at = drained_at newest start origin client connection n now sits.sent client.parked client.stopped fits
            same.0 sits.at;
      }

  abbrev pub with_dialogue : T → Dialogue → Sitting T → Sitting T
  with_dialogue connection dialogue client = record {
    connection = connection;
    dialogue = dialogue;
    input = client.input;
    parked = client.parked;
    stopped = client.stopped;
    broken = client.broken;
  }

  pub took : (client : Sitting T) (connection : T) (dialogue : Dialogue) (n : ℕ) (bytes : List ℕ) →
      bytes ≡ client.dialogue.unsent.bytes → dialogue ≡ sent_on n client.dialogue →
      (incoming connection ≡ incoming client.connection) × (callers connection ≡ callers client.connection) →
      DrainAppends (outgoing client.connection) (outgoing connection) (Took n) bytes →
      Keeps incoming outgoing callers client (with_dialogue connection dialogue client)
  took client connection dialogue n bytes all is same appends =
      keeps_to client (with_sent connection n client) (with_dialogue connection dialogue client)
      (ap (λ (t : Dialogue). with_dialogue connection t client) is)
      (drained client connection n (subst (λ (l : List ℕ). n ≤ length l) all appends.1.0) same
      (subst (λ (l : List ℕ). Appends (outgoing client.connection) (outgoing connection) (take n l)) all appends.2))
