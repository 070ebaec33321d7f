-- A buffer in front of a stream, and how a client's outcome becomes that of the program.
use Rattle.std.proofs.Common.{◌≡◌, ◌≢◌, ◌∙◌, ℕ, List, [], ◌∷◌, ◌++◌, Option, None, Some, ap, refl, subst, append-nil}
use Rattle.std.proofs.Common.{◌<◌, ◌≤◌, ◌⊎◌, ℤ, pos, inl, inr, length, sym, append_assoc, Result, Ok, Err}
use Rattle.std.specs.Prelude.{⊤, Bool, true, false}
use Rattle.std.specs.Borrow.{Bor}
use Rattle.std.proofs.Common.{◌==◌, if◌then◌else◌}
use Rattle.std.specs.declared.io.BufReader.{BufReader}
use Rattle.std.specs.declared.io.BufWriter.{BufWriter}
use Rattle.std.specs.declared.io.Error.{Error}
use Rattle.std.specs.declared.process.ExitCode.{ExitCode}
use Rattle.std.specs.Io.Buffered.{reader_buffer, reader_capacity, reader_inner, reader_remaining}
use Rattle.std.specs.Io.Buffered.{writer_buffer, writer_contents, writer_inner}
use Rattle.std.proofs.KnownBytes.{Appends-nil, Appends-trans, Consumes-nil}
use Rattle.std.specs.Io.KnownBytes.{Appends, Consumes, IsAtEnd, append_known, prepend_known}
use Rattle.sysv_clients.specs.declared.command.Command.{Command}
use Rattle.sysv_clients.specs.declared.command.Task.{Task}
use Rattle.sysv_clients.specs.declared.fault.ClientFault.{ClientFault}
use Rattle.sysv_clients.specs.declared.fault.ClientFault.TheVariants as fault
use Rattle.sysv_clients.specs.Asks.{no_flags, request_of}
use Rattle.sysv_clients.specs.Dialogue.{Exchange}
use Rattle.sysv_clients.specs.Faults.{fault_line}
use Rattle.sysv_clients.specs.Page.{page_text}
use Rattle.sysv_clients.specs.Run.{Runs, Shows, shown_text, status_of}
use Rattle.sysv_model.specs.declared.cred.Cred.{Cred}
use Rattle.sysv_model.specs.declared.flags.Flags.{Flags}
use Rattle.sysv_model.specs.declared.limits.TheConstants.{BODY_ROOM}
use Rattle.sysv_model.specs.Writing.{AppendsPrefix}
use Rattle.sysv_wire.specs.declared.request.Ask.TheVariants.{Get, Stat}
use Rattle.sysv_wire.specs.Requests.{request_encoding}
use Rattle.sysv_connect.specs.declared.contact.Contact.{Contact}
use Rattle.sysv_connect.specs.declared.contact.Contact.TheVariants.{Unused, Refused, Made}
use Rattle.sysv_connect.specs.declared.link.Unlinked.{Unlinked}
use Rattle.sysv_connect.specs.declared.link.Unlinked.TheVariants.{NoMemory, NoServer}
use Rattle.sysv_connect.specs.Bodies.{with_text}
use Rattle.sysv_connect.specs.Clients.{EndsPage, EndsRun, HasRun, HasRunFrom, IsBodyOf, IsLeft, ShowsPart, look_text}
use Rattle.sysv_connect.specs.Ends.{Fails, Succeeds}
use Rattle.sysv_connect.specs.declared.how.Telling.{Telling}
use Rattle.sysv_connect.specs.declared.how.Telling.TheVariants.{Line, Both, Sentence}
use Rattle.sysv_connect.specs.Telling.{Tells}
use Rattle.sysv_connect.specs.Visits.{IsUnlinked, Visited, contact_of, is_refused}

prepend_nothing : (known : Option (List ℕ)) → prepend_known [] known ≡ known
prepend_nothing None = refl
prepend_nothing (Some bytes) = refl

append_nothing : (known : Option (List ℕ)) → append_known known [] ≡ known
append_nothing None = refl
append_nothing (Some bytes) = ap Some (append-nil bytes)

-- A new buffer in front of a reader has left what the reader has.
pub new_reader : {T A : Type 0} (remaining : T → Option (List ℕ)) (buffered : BufReader T A) (reader : T)
    → reader_inner buffered ≡ reader → reader_buffer buffered ≡ [] → reader_capacity buffered ≡ 8192
    → reader_remaining remaining buffered ≡ remaining reader
new_reader remaining buffered reader is empty size =
    ap (λ n. if n == 0 then None else prepend_known (reader_buffer buffered) (remaining (reader_inner buffered))) size
    ∙ ap (λ bytes. prepend_known bytes (remaining (reader_inner buffered))) empty
    ∙ prepend_nothing (remaining (reader_inner buffered))
    ∙ ap remaining is

-- A new buffer in front of a writer has taken what the writer has.
pub new_writer : {T A : Type 0} (contents : T → Option (List ℕ)) (buffered : BufWriter T A) (writer : T)
    → writer_inner buffered ≡ writer → writer_buffer buffered ≡ []
    → writer_contents contents buffered ≡ contents writer
new_writer contents buffered writer is empty =
    ap (λ bytes. append_known (contents (writer_inner buffered)) bytes) empty
    ∙ append_nothing (contents (writer_inner buffered))
    ∙ ap contents is

-- What follows of a place without a connection and what follows of a connection, follows of a visit.
pub visited_so : {P C : Type 0} (Refuses : Error → Type 0) (place : P) (Unmade Failed : Bool → Type 0)
    (Did Done : C → Type 0) (contact : Contact P C) → ((refused : Bool) → Unmade refused → Failed refused)
    → ((connection : C) → Did connection → Done connection)
    → Visited Refuses place Unmade Did contact → Visited Refuses place Failed Done contact
visited_so Refuses place Unmade Failed Did Done (Unused same) f g h = (h.0, f false h.1)
visited_so Refuses place Unmade Failed Did Done (Refused why) f g h = (h.0, f true h.1)
visited_so Refuses place Unmade Failed Did Done (Made connection) f g h = g connection h

-- A place to which there is no connection is one without a connection.
pub not_linked : {P C : Type 0} (Refuses : Error → Type 0) (place : P) (Unmade : Bool → Type 0) (Did : C → Type 0)
    (unlinked : Unlinked P) (contact : Contact P C) → contact ≡ contact_of unlinked
    → IsUnlinked Refuses place unlinked → Unmade (is_refused unlinked) → Visited Refuses place Unmade Did contact
not_linked {P} {C} Refuses place Unmade Did unlinked contact is why unmade =
    subst (λ (c : Contact P C). Visited Refuses place Unmade Did c) (sym is) (by unlinked why unmade)
  where
    by : (u : Unlinked P) → IsUnlinked Refuses place u → Unmade (is_refused u)
        → Visited Refuses place Unmade Did (contact_of u)
    by (NoMemory same) w so = (w, so)
    by (NoServer error) w so = (w, so)

-- Nothing was written, which is a prefix of any bytes.
pub nothing_wrote : (known : Option (List ℕ)) (bytes : List ℕ) → AppendsPrefix known known bytes
nothing_wrote known bytes = ([], (bytes, refl), Appends-nil known)

-- All bytes are a prefix of them.
pub whole_prefix : (taken more : Option (List ℕ)) (bytes : List ℕ) → Appends taken more bytes →
    AppendsPrefix taken more bytes
whole_prefix taken more bytes wrote = (bytes, ([], sym (append-nil bytes)), wrote)

-- A prefix of some bytes is one of these and others.
longer_prefix : (taken more : Option (List ℕ)) (bytes others : List ℕ) → AppendsPrefix taken more bytes →
    AppendsPrefix taken more (bytes ++ others)
longer_prefix taken more bytes others (part, (rest, split), wrote) = (
  part,
  (rest ++ others, ap (λ (l : List ℕ). l ++ others) split ∙ append_assoc part rest others),
  wrote,
)

-- The whole list begins with this prefix.
abbrev IsPrefixOf : List ℕ → List ℕ → Type 0
IsPrefixOf prefix whole = (rest : List ℕ) × (whole ≡ prefix ++ rest)

-- A prefix of a prefix is one of the whole.
prefix_of_prefix : (taken more : Option (List ℕ)) (bytes whole : List ℕ) → IsPrefixOf bytes whole
    → AppendsPrefix taken more bytes → AppendsPrefix taken more whole
prefix_of_prefix taken more bytes whole (others, is) (part, (rest, split), wrote) = (
  part,
  (rest ++ others, is ∙ ap (λ (l : List ℕ). l ++ others) split ∙ append_assoc part rest others),
  wrote,
)

-- A prefix after all of the bytes before it.
prefix_after : (taken mid more : Option (List ℕ)) (bytes others : List ℕ) → Appends taken mid bytes →
    AppendsPrefix mid more others → AppendsPrefix taken more (bytes ++ others)
prefix_after taken mid more bytes others first (part, (rest, split), second) = (
  bytes ++ part,
  (rest, ap (λ (l : List ℕ). bytes ++ l) split ∙ sym (append_assoc bytes part rest)),
  Appends-trans taken mid more bytes part first second,
)

-- A look at a queue that ended with its first request.
pub looks_first : (key asked : ℤ) (flags : Flags) (taken more : Option (List ℕ)) → asked ≡ key → flags ≡ no_flags
    → AppendsPrefix taken more (request_encoding (request_of (Get asked flags)) [])
    → (found : ℤ) × AppendsPrefix taken more (look_text key found)
looks_first key asked flags taken more is none first = (
  pos 0,
  longer_prefix taken more (request_encoding (request_of (Get key no_flags)) [])
      (request_encoding (request_of (Stat (pos 0))) [] ++ [])
      (subst (λ (k : ℤ). AppendsPrefix taken more (request_encoding (request_of (Get k no_flags)) [])) is
      (subst (λ (f : Flags). AppendsPrefix taken more (request_encoding (request_of (Get asked f)) [])) none first)),
)

-- A look at a queue that made its second request.
pub looks_both : (key asked found : ℤ) (flags : Flags) (taken mid more : Option (List ℕ)) → asked ≡ key
    → flags ≡ no_flags
    → Appends taken mid (request_encoding (request_of (Get asked flags)) [])
    → AppendsPrefix mid more (request_encoding (request_of (Stat found)) [])
    → (id : ℤ) × AppendsPrefix taken more (look_text key id)
looks_both key asked found flags taken mid more is none first second = (
  found,
  prefix_after taken mid more (request_encoding (request_of (Get key no_flags)) [])
      (request_encoding (request_of (Stat found)) [] ++ [])
      (subst (λ (k : ℤ). Appends taken mid (request_encoding (request_of (Get k no_flags)) [])) is
      (subst (λ (f : Flags). Appends taken mid (request_encoding (request_of (Get asked f)) [])) none first))
      (longer_prefix mid more (request_encoding (request_of (Stat found)) []) [] second),
)

-- A part of what a client showed in its page is a part of what it shows.
part_of_page : (status : ℤ) (task : Task) (exchanges : List Exchange) (ended : Result ⊤ ClientFault) (page : List ℕ)
    (shown after : Option (List ℕ))
    → Shows status (status_of ended) (shown_text task exchanges ended) (Some []) (Some page)
    → AppendsPrefix shown after page → ShowsPart (page_text task exchanges) shown after
part_of_page status task exchanges (Ok done) page shown after (inl whole) part =
    inl (subst (AppendsPrefix shown after) whole.1 part)
part_of_page status task exchanges (Ok done) page shown after (inr (one, (text, of, is))) part =
    inl (prefix_of_prefix shown after page (page_text task exchanges)
    (subst (λ (l : List ℕ). IsPrefixOf l (page_text task exchanges)) (sym is) of) part)
part_of_page status task exchanges (Err why) page shown after (inl whole) part =
    inr (why, subst (AppendsPrefix shown after) whole.1 part)
part_of_page status task exchanges (Err why) page shown after (inr (one, (text, of, is))) part =
    inr (
      why,
      prefix_of_prefix shown after page (fault_line why)
          (subst (λ (l : List ℕ). IsPrefixOf l (fault_line why)) (sym is) of) part,
    )

-- A client that ended with status 0 had no fault, and its page is whole.
whole_page : (status : ℤ) (task : Task) (exchanges : List Exchange) (ended : Result ⊤ ClientFault) (page : List ℕ)
    → status ≡ pos 0
    → Shows status (status_of ended) (shown_text task exchanges ended) (Some []) (Some page)
    → (ended ≡ Ok tt) × (page ≡ page_text task exchanges)
whole_page status task exchanges (Ok tt) page zero (inl whole) = (refl, whole.1)
whole_page status task exchanges (Ok tt) page zero (inr part) = absurd (not_one (sym zero ∙ part.0))
  where
    not_one : pos 0 ≢ pos 1
    not_one is = cc
whole_page status task exchanges (Err why) page zero (inl whole) = absurd (not_one (sym zero ∙ whole.0))
  where
    not_one : pos 0 ≢ pos 1
    not_one is = cc
whole_page status task exchanges (Err why) page zero (inr part) = absurd (not_one (sym zero ∙ part.0))
  where
    not_one : pos 0 ≢ pos 1
    not_one is = cc

ends_run : (exit : ExitCode) (status : ℤ) (task : Task) (exchanges : List Exchange) (ended : Result ⊤ ClientFault)
    (page : List ℕ) (unread rest written more shown after : Option (List ℕ))
    → Shows status (status_of ended) (shown_text task exchanges ended) (Some []) (Some page)
    → EndsPage exit task status page unread rest written more shown after
    → EndsRun exit task ended (page_text task exchanges) unread rest written more shown after
ends_run exit status task exchanges ended page unread rest written more shown after shows
    (inl (success, zero, same, also, appends)) =
    let whole = whole_page status task exchanges ended page zero shows in
    inl (success, whole.0, same, also, subst (Appends shown after) whole.1 appends)
ends_run exit status task exchanges ended page unread rest written more shown after shows
    (inr (fails, left_so, inl part)) =
    inr (fails, left_so, part_of_page status task exchanges ended page shown after shows part)
ends_run exit status task exchanges ended page unread rest written more shown after shows
    (inr (fails, left_so, inr told)) = inr (fails, left_so, inr told)

-- A client ran, and the program ended by its page and its status.
pub has_run : (command : Command) (exit : ExitCode) (status same : ℤ) (before page text : List ℕ)
    (left unread rest taken written more shown after : Option (List ℕ))
    → same ≡ status → before ≡ [] → text ≡ page
    → Runs command status left unread taken written (Some before) (Some page)
    → EndsPage exit command.task same text unread rest written more shown after
    → HasRun command exit left rest taken more shown after
has_run command exit status same before page text left unread rest taken written more shown after is empty whole runs
    ends = record {
      exchanges = runs.exchanges;
      ended = runs.ended;
      unread = unread;
      written = written;
      converses = runs.converses;
      ends = ends_run exit status command.task runs.exchanges runs.ended page unread rest written more shown after
          (subst (λ (b : List ℕ).
          Shows status (status_of runs.ended) (shown_text command.task runs.exchanges runs.ended) (Some b)
          (Some page)) empty runs.shows)
          (subst (λ (t : List ℕ). EndsPage exit command.task status t unread rest written more shown after) whole
          (subst (λ (z : ℤ). EndsPage exit command.task z text unread rest written more shown after) is ends));
    }

-- A fault that was told by no more than its line has shown a prefix of that.
line_at_most : (telling : Telling) (line : List ℕ) (shown after : Option (List ℕ)) → Tells telling line shown after
    → AppendsPrefix shown after line
line_at_most Line line shown after told = told
line_at_most Both line shown after told = told
line_at_most Sentence line shown after told =
    subst (λ (now : Option (List ℕ)). AppendsPrefix shown now line) (sym told) (nothing_wrote shown line)

-- Memory was refused before anything was requested.
pub run_refused : (command : Command) (exit : ExitCode) (telling : Telling) (left taken shown after : Option (List ℕ))
    → Fails exit → Tells telling (fault_line fault.NoMemory) shown after
    → HasRun command exit left left taken taken shown after
run_refused command exit telling left taken shown after fails told = record {
  exchanges = [];
  ended = Err fault.NoMemory;
  unread = left;
  written = taken;
  converses = record {
    conversed = tt;
    unread = left;
    written = taken;
    reads = Consumes-nil left;
    writes = Appends-nil taken;
    ends = (refl, inl (refl, refl));
  };
  ends = inr (
    fails,
    inl (refl, refl),
    inr (fault.NoMemory, line_at_most telling (fault_line fault.NoMemory) shown after told),
  );
}

-- A client ran a task with a body from an input.
pub ran_from : (cred : Cred) (task : Task) (command : Command) (exit : ExitCode) (body : Bor (List ℕ)) (items : List ℕ)
    (size : ℕ) (left rest taken more fed unfed shown after : Option (List ℕ))
    → command.cred ≡ cred → command.task ≡ with_text task body → body.now ≡ items → size ≡ length items
    → Consumes fed unfed items → size ≤ BODY_ROOM
    → (size < BODY_ROOM → IsAtEnd unfed) → HasRun command exit left rest taken more shown after
    → HasRunFrom cred task exit left rest taken more fed unfed shown after
ran_from cred task command exit body items size left rest taken more fed unfed shown after is_cred is_task is_body long
    bytes few whole ran = (
      body,
      subst (λ l. IsBodyOf l fed unfed) (sym is_body) (
        bytes,
        subst (λ n. n ≤ BODY_ROOM) long few,
        subst (λ n. n < BODY_ROOM → IsAtEnd unfed) long whole,
      ),
      subst (λ t. HasRun (record { cred = cred; task = t }) exit left rest taken more shown after) is_task
          (subst (λ c. HasRun (record { cred = c; task = command.task }) exit left rest taken more shown after) is_cred
          ran),
    )
