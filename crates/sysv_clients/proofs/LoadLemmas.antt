-- A load in progress, and how it ends.
use Rattle.std.proofs.Common.{◌≡◌, ℕ, ℤ, pos, ◌+◌, ◌<◌, ◌≤◌, ◌^◌, List, [], ◌∷◌, ◌++◌, Option, None, Some, inl, inr}
use Rattle.std.proofs.Common.{Result, Ok, Err, refl, sym, ap, subst, ◌∙◌, length, append_assoc, append-nil, arith}
use Rattle.std.proofs.Common.{Bool, true, false, length-append, w32, w64, of_z, to_z, FitsSigned}
use Rattle.std.proofs.lemmas.Int.{to_z-of_z}
use Rattle.std.proofs.lemmas.List.Concat.{flat_map-append}
use Rattle.std.specs.Prelude.{⊤, ◌⊎◌, IfErr, OnOk, MatchOption, if◌then◌else◌}
use Rattle.std.specs.Int.RustNames.{bit_or}
use Rattle.std.specs.Io.KnownBytes.{Appends, Consumes, prepend_known}
use Rattle.std.proofs.KnownBytes.{Appends-nil, Appends-trans, Consumes-nil, Consumes-trans}
use Rattle.std.specs.declared.io.ErrorKind.{ErrorKind}
use Rattle.sysv_clients.specs.declared.fault.ClientFault.{ClientFault}
use Rattle.sysv_clients.specs.declared.fault.ClientFault.TheVariants as fault
use Rattle.sysv_clients.specs.declared.input_lines.Fetched.{Fetched}
use Rattle.sysv_clients.specs.declared.loading.Loading.{Loading}
use Rattle.sysv_clients.specs.declared.loading.Place.{Place}
use Rattle.sysv_clients.specs.declared.loading.Unfit.{Unfit}
use Rattle.sysv_clients.specs.declared.loading.Unfit.TheVariants as unfit
use Rattle.sysv_clients.specs.declared.loading.Unloaded.{Unloaded}
use Rattle.sysv_clients.specs.declared.loading.Unloaded.TheVariants.{Fault, Cut, Line, Many, Input}
use Rattle.sysv_clients.specs.declared.saved.Entry.{Entry}
use Rattle.sysv_clients.specs.declared.saved.Entry.TheVariants as entry
use Rattle.sysv_clients.specs.declared.saved.SavedQueue.{SavedQueue}
use Rattle.sysv_clients.specs.declared.sending.Cut.{Cut as ACut}
use Rattle.sysv_clients.specs.declared.sending.Sending.{Sending}
use Rattle.sysv_clients.specs.declared.sending.Unsent.{Unsent}
use Rattle.sysv_clients.specs.declared.sending.Unsent.TheVariants as unsent
use Rattle.sysv_clients.specs.declared.sending.TheConstants.{WINDOW}
use Rattle.sysv_clients.specs.declared.sending.Window.{Window}
use Rattle.sysv_clients.specs.declared.stated.TheConstants.{OBJECT_BYTES}
use Rattle.sysv_clients.specs.Asks.{flags_to_make, flags_to_wait, no_flags, request_of}
use Rattle.sysv_clients.specs.Calls.{Call, Each, IsCallDone, read_by, written_by}
use Rattle.sysv_clients.specs.Dialogue.{Exchanges, id_after}
use Rattle.sysv_clients.specs.Lines.{FailsBy, Fetches, HasNone, IsNext, is_line, is_nothing}
use Rattle.sysv_clients.specs.Loaded.{Checks, EndsAt, Finds, FindsQueue, FitsNext, IsAsked, IsCutLoad, IsNoEntry}
use Rattle.sysv_clients.specs.Loaded.{IsOfLine, IsUnfound, Loads, LoadsPart, MayBeAt, Passes, ReadsEntry, Stops}
use Rattle.sysv_clients.specs.Loaded.{StopsBy, TakesLine, TakesNext, one_taken}
use Rattle.sysv_clients.specs.Loading.{AreAllDone, AreTaken, EndsLoad, FailsLoadBy, IsDue, IsUnfit, LoadsAhead}
use Rattle.sysv_clients.specs.Loading.{LoadsAll, NamesFound, Notes}
use Rattle.sysv_clients.specs.Loading.{NamesNext, NamesQueue, Step, Takes, Wants}
use Rattle.sysv_clients.specs.Loading.{MayLoad, asks_in, find_ask, make_ask, outset, plain, send_of, set_ask}
use Rattle.sysv_clients.specs.Loading.{unknown_by, sending_to_load, unloaded_by, window_to_load}
use Rattle.sysv_clients.specs.Saved.{IsFormatLine, IsQueueLine, StatesEntry}
use Rattle.sysv_clients.specs.Sending.{HasReply, Sent, frames_of, send_ask, sent_by}
use Rattle.sysv_clients.specs.Window.{AreSnds, HearsCut, HearsDone, HearsSends, IsCut, IsSnd, PutsSend, empty, lost}
use Rattle.sysv_clients.specs.Window.{one_more}
use Rattle.sysv_clients.proofs.CallLemmas.{call_of, read_more, written_more}
use Rattle.sysv_clients.proofs.SendLemmas.{next_after, none_after, read_with, reads_there, same_written, sent_with}
use Rattle.sysv_clients.proofs.SendLemmas.{written_so}
use Rattle.sysv_clients.proofs.WindowLemmas.{all_answered, between, between_first, between_second, each_both, each_more}
use Rattle.sysv_clients.proofs.WindowLemmas.{frames_both, length_sent, no_replies, sent_both, snds_after, snds_before}
use Rattle.sysv_clients.proofs.WindowLemmas.{snds_both}
use Rattle.sysv_model.specs.declared.attributes.SetTo.{SetTo}
use Rattle.sysv_model.specs.declared.flags.Flags.{Flags}
use Rattle.sysv_model.specs.declared.flags.TheConstants.Flags.{IPC_CREAT}
use Rattle.sysv_model.specs.Writing.{AppendsPrefix}
use Rattle.sysv_wire.specs.declared.reply.ReplyContent.{ReplyContent}
use Rattle.sysv_wire.specs.declared.request.Ask.{Ask}
use Rattle.sysv_wire.specs.declared.request.Ask.TheVariants.{Hello, Get, Snd, Set}
use Rattle.sysv_wire.specs.Requests.{request_encoding}

-- A request that is no msgget names nothing.
not_get : (call : Call) (later : List Sent) → ((key : ℤ) (flags : Flags) → call.ask ≡ Get key flags → ⊥) →
    NamesNext call later
not_get call [] other = tt
not_get call (next ∷ more) other = λ key flags is. absurd (other key flags is)

snd_no_get : (ask : Ask) (key : ℤ) (flags : Flags) → IsSnd ask → ask ≡ Get key flags → ⊥
snd_no_get ask key flags snd is = cc (sym snd.3 ∙ is)

-- Sends name nothing.
snds_name : (calls : List Call) (later : List Sent) → AreSnds (sent_by calls) → NamesFound calls later
snds_name [] later all = tt
snds_name (one ∷ more) later all = (
  not_get one (sent_by more ++ later) (λ key flags is. snd_no_get one.ask key flags all.0 is),
  snds_name more later all.1,
)

-- What calls name, with more of them.
names_both : (calls more : List Call) (later : List Sent) → NamesFound calls (sent_by more ++ later)
    → NamesFound more later → NamesFound (calls ++ more) later
names_both [] more later first second = second
names_both (one ∷ others) more later first second = (
  subst (λ (l : List Sent). NamesNext one l)
      (sym (append_assoc (sent_by others) (sent_by more) later)
      ∙ ap (λ (l : List Sent). l ++ later) (sym (sent_both others more))) first.0,
  names_both others more later first.1 second,
)

-- One more line was taken.
takes_next : (loading : Loading) (start before after : Place) (steps : List Step) (step : Step)
    (fed mid rest : Option (List ℕ))
    → AreTaken loading start steps fed mid before → IsNext OBJECT_BYTES step.line mid rest
    → Takes loading before step after → AreTaken loading start (steps ++ step ∷ []) fed rest after
takes_next loading start before after [] step fed mid rest taken next takes = (
  rest,
  after,
  next_after OBJECT_BYTES step.line fed mid rest taken.0 next,
  subst (λ (p : Place). Takes loading p step after) taken.1 takes,
  (Consumes-nil rest, refl),
)
takes_next loading start before after (first ∷ others) step fed mid rest taken next takes = (
  taken.0,
  taken.1,
  taken.2,
  taken.3,
  takes_next loading taken.1 before after others step taken.0 mid rest taken.4 next takes,
)

asks_more : (steps : List Step) (step : Step) → asks_in (steps ++ step ∷ []) ≡ asks_in steps ++ step.asks
asks_more steps step =
    flat_map-append (λ (s : Step). s.asks) steps (step ∷ [])
    ∙ ap (λ (l : List Sent). asks_in steps ++ l) (append-nil step.asks)

-- More replies to sends were read.
hears_part : (loading : Loading) (left mid rest taken more most fed unloaded : Option (List ℕ)) (place : Place)
    (before after : Window) (so_far : LoadsPart loading left mid taken more fed unloaded place before [] None)
    → HearsDone so_far.waiting mid rest before after → Appends more most []
    → LoadsPart loading left rest taken most fed unloaded place after [] None
hears_part loading left mid rest taken more most fed unloaded place before after so_far heard kept =
    let parts = ap (λ (l : List Sent). length l) heard.split
    ∙ length-append (sent_by heard.calls) heard.others in
    let snds = snds_before (sent_by heard.calls) heard.others
    (subst (λ (l : List Sent). AreSnds l) heard.split so_far.snds) in
    record {
      hello = so_far.hello;
      calls = so_far.calls ++ heard.calls;
      steps = so_far.steps;
      waiting = heard.others;
      greets = so_far.greets;
      bare = so_far.bare;
      lines = so_far.lines;
      counted = so_far.counted;
      made = sym (sent_with so_far.calls heard.calls so_far.waiting heard.others heard.split) ∙ so_far.made;
      named = names_both so_far.calls heard.calls heard.others
          (subst (λ (l : List Sent). NamesFound so_far.calls l) heard.split so_far.named)
          (snds_name heard.calls heard.others snds);
      names = λ next later fits. names_both so_far.calls heard.calls (heard.others ++ next ∷ later)
          (subst (λ (l : List Sent). NamesFound so_far.calls l)
          (ap (λ (l : List Sent). l ++ next ∷ later) heard.split
          ∙ append_assoc (sent_by heard.calls) heard.others (next ∷ later)) (so_far.names next later fits))
          (snds_name heard.calls (heard.others ++ next ∷ later) snds);
      done = (so_far.done.0, each_both IsCallDone so_far.calls heard.calls so_far.done.1 heard.done);
      snds = heard.snds;
      reads = subst (Consumes left rest) (sym (read_with (so_far.hello ∷ []) so_far.calls heard.calls))
          (Consumes-trans left mid rest _ _ so_far.reads heard.reads);
      writes = subst (Appends taken most)
          (written_so (so_far.hello ∷ []) so_far.calls heard.calls so_far.waiting heard.others heard.split)
          (same_written taken more most _ so_far.writes kept);
      waits = heard.waits;
      few = omega (arith, parts, heard.waits, so_far.waits, so_far.few);
    }

-- No more sends are on their way than before.
fewer : (waiting : List Sent) (left rest : Option (List ℕ)) (before after : Window)
    (heard : HearsDone waiting left rest before after) → before.waiting ≡ length waiting
    → (after.waiting ≤ before.waiting) × (after.done + after.waiting ≡ before.done + before.waiting)
fewer waiting left rest before after heard waits =
    let parts = ap (λ (l : List Sent). length l) heard.split
    ∙ length-append (sent_by heard.calls) heard.others in
    let same = length_sent heard.calls in (
      omega (arith, parts, heard.waits, waits),
      omega (arith, parts, same, heard.waits, heard.many, waits),
    )

pub hears_load : (loading : Loading) (left mid rest taken more most fed unloaded : Option (List ℕ)) (place : Place)
    (before after : Window) (so_far : Loads loading left mid taken more fed unloaded place before)
    → HearsDone so_far.part.waiting mid rest before after → Appends more most []
    → Loads loading left rest taken most fed unloaded place after
hears_load loading left mid rest taken more most fed unloaded place before after so_far heard kept =
    let less = fewer so_far.part.waiting mid rest before after heard so_far.part.waits in
    record {
      part = hears_part loading left mid rest taken more most fed unloaded place before after so_far.part heard kept;
      may = so_far.may;
      many = less.1 ∙ so_far.many;
      idle = λ none. let before_none = so_far.idle none in omega (arith, less.0, before_none);
      early = elim so_far.early [
        | inl none ↦ inl (omega (arith, less.0, none))
        | inr late ↦ inr late
      ];
    }

-- A send ends the load.
pub cuts_load : (loading : Loading) (left mid rest taken more most fed unloaded unfed : Option (List ℕ))
    (place : Place) (before : Window) (cut : ACut)
    (so_far : LoadsPart loading left mid taken more fed unloaded place before [] None)
    → before.done + before.waiting ≡ place.lines
    → HearsCut so_far.waiting mid rest before cut → Appends more most []
    → LoadsAll loading (Err (Cut cut)) left rest taken most fed unfed
cuts_load loading left mid rest taken more most fed unloaded unfed place before cut so_far many heard kept =
    let calls = so_far.hello ∷ (so_far.calls ++ heard.calls) in
    let parts = ap (λ (l : List Sent). length l) heard.split
    ∙ length-append (sent_by heard.calls) heard.others in
    let same = length_sent heard.calls in
    let split = subst (λ (l : List Sent). AreSnds l) heard.split so_far.snds in
    let wrote : Appends taken most (written_by calls ++ frames_of heard.others) =
    subst (Appends taken most)
    (written_so (so_far.hello ∷ []) so_far.calls heard.calls so_far.waiting heard.others heard.split)
    (same_written taken more most _ so_far.writes kept) in
    record {
      steps = so_far.steps;
      place = place;
      calls = calls;
      waiting = heard.others;
      unread = heard.unread;
      written = between taken (written_by calls);
      unloaded = unloaded;
      lines = so_far.lines;
      hello = inr (so_far.hello, so_far.calls ++ heard.calls, refl, so_far.greets, so_far.bare);
      partial = [];
      made = sym (sent_with so_far.calls heard.calls so_far.waiting heard.others heard.split) ∙ so_far.made;
      counted = so_far.counted;
      named = names_both so_far.calls heard.calls heard.others
          (subst (λ (l : List Sent). NamesFound so_far.calls l) heard.split so_far.named)
          (snds_name heard.calls heard.others (snds_before (sent_by heard.calls) heard.others split));
      answered = each_both HasReply (so_far.hello ∷ so_far.calls) heard.calls
          (all_answered (so_far.hello ∷ so_far.calls) so_far.done) heard.answered;
      few = omega (arith, parts, so_far.waits, so_far.few);
      reads = subst (Consumes left heard.unread) (sym (read_with (so_far.hello ∷ []) so_far.calls heard.calls))
          (Consumes-trans left mid heard.unread _ _ so_far.reads heard.reads);
      writes = between_first taken (written_by calls);
      ends = inr (record {
        earlier_calls = so_far.hello ∷ so_far.calls;
        sends = heard.calls;
        split = refl;
        done = so_far.done;
        snds = split;
        earlier = before.done;
        own = heard.own;
        by = heard.by;
        counted = heard.counted;
        every = omega (arith, parts, same, many, so_far.counted, so_far.waits);
        whole = refl;
        unknown = heard.unknown;
        ends = no_replies heard.others heard.unread rest (between taken (written_by calls)) most heard.ends
            (between_second taken most (written_by calls) (frames_of heard.others) wrote);
      });
    }

none_left : (sents : List Sent) (n : ℕ) → n ≡ length sents → n ≡ 0 → sents ≡ []
none_left [] n same none = refl
none_left (one ∷ more) n same none = absurd (omega (arith, same, none))

-- One more request for a line was made, while no send was on its way.
pub asks_part : (loading : Loading) (ask : Ask) (answer : ReplyContent) (given : List ℕ)
    (left mid rest taken more most fed unloaded : Option (List ℕ)) (place : Place) (window : Window)
    (partial : List Sent) (found next : Option ℤ)
    (so_far : LoadsPart loading left mid taken more fed unloaded place window partial found) → window.waiting ≡ 0
    → FitsNext found (plain ask)
    → ((sent : Sent) (later : List Sent) → FitsNext next sent
    → NamesFound (call_of ask [] answer given ∷ []) (sent ∷ later))
    → Exchanges (request_encoding (request_of ask) []) ask (Ok answer) mid rest more most given
    → LoadsPart loading left rest taken most fed unloaded place window (partial ++ plain ask ∷ []) next
asks_part loading ask answer given left mid rest taken more most fed unloaded place window partial found next so_far
    none fits names exchange =
    let one = call_of ask [] answer given in
    let calls = so_far.hello ∷ so_far.calls in
    let idle = none_left so_far.waiting window.waiting so_far.waits none in
    record {
      hello = so_far.hello;
      calls = so_far.calls ++ one ∷ [];
      steps = so_far.steps;
      waiting = [];
      greets = so_far.greets;
      bare = so_far.bare;
      lines = so_far.lines;
      counted = so_far.counted;
      made = append-nil (sent_by (so_far.calls ++ one ∷ [])) ∙ sent_both so_far.calls (one ∷ [])
          ∙ ap (λ (l : List Sent). l ++ plain ask ∷ [])
          (sym (append-nil (sent_by so_far.calls))
          ∙ ap (λ (l : List Sent). sent_by so_far.calls ++ l) (sym idle) ∙ so_far.made)
          ∙ append_assoc (asks_in so_far.steps) partial (plain ask ∷ []);
      named = names_both so_far.calls (one ∷ []) []
          (subst (λ (l : List Sent). NamesFound so_far.calls (l ++ plain ask ∷ [])) idle
          (so_far.names (plain ask) [] fits))
          (tt, tt);
      names = λ sent later fit. names_both so_far.calls (one ∷ []) (sent ∷ later)
          (subst (λ (l : List Sent). NamesFound so_far.calls (l ++ plain ask ∷ sent ∷ later)) idle
          (so_far.names (plain ask) (sent ∷ later) fits))
          (names sent later fit);
      done = each_more IsCallDone calls one so_far.done exchange.1.1;
      snds = tt;
      reads = subst (Consumes left rest) (sym (read_more calls one))
          (Consumes-trans left mid rest _ _ so_far.reads exchange.1.0);
      writes = subst (Appends taken most)
          (ap (λ (l : List Sent). (written_by calls ++ frames_of l) ++ request_encoding (request_of ask) []) idle
          ∙ ap (λ (l : List ℕ). l ++ request_encoding (request_of ask) []) (append-nil (written_by calls))
          ∙ sym (written_more calls one) ∙ sym (append-nil (written_by (calls ++ one ∷ []))))
          (Appends-trans taken more most _ _ so_far.writes exchange.0);
      waits = none;
      few = omega (arith, none);
    }

-- A request for a line ends the load, while no send was on its way.
pub ends_asked : (loading : Loading) (ask : Ask) (cut : ACut) (line : List ℕ)
    (left mid rest taken more most fed unloaded unfed : Option (List ℕ)) (place : Place) (window : Window)
    (partial : List Sent) (found : Option ℤ)
    (so_far : LoadsPart loading left mid taken more fed unloaded place window partial found) → window.waiting ≡ 0
    → FitsNext found (plain ask) → IsDue loading place.lines → IsNext OBJECT_BYTES line unloaded unfed
    → Wants loading place line partial ask
    → cut.before ≡ place.lines → cut.after ≡ 0 → cut.unknown ≡ unknown_by cut.fault
    → Exchanges (request_encoding (request_of ask) []) ask (Err cut.fault) mid rest more most []
    → LoadsAll loading (Err (Cut cut)) left rest taken most fed unfed
ends_asked loading ask cut line left mid rest taken more most fed unloaded unfed place window partial found so_far none
    fits due next wants before after unknown exchange =
    let calls = so_far.hello ∷ so_far.calls in
    let idle = none_left so_far.waiting window.waiting so_far.waits none in
    record {
      steps = so_far.steps;
      place = place;
      calls = calls;
      waiting = [];
      unread = mid;
      written = more;
      unloaded = unloaded;
      lines = so_far.lines;
      hello = inr (so_far.hello, so_far.calls, refl, so_far.greets, so_far.bare);
      partial = partial;
      made = ap (λ (l : List Sent). sent_by so_far.calls ++ l) (sym idle) ∙ so_far.made;
      counted = so_far.counted;
      named = subst (λ (l : List Sent). NamesFound so_far.calls l) idle so_far.named;
      answered = all_answered calls so_far.done;
      few = omega arith;
      reads = so_far.reads;
      writes = subst (Appends taken more)
          (ap (λ (l : List Sent). written_by calls ++ frames_of l) idle ∙ append-nil (written_by calls))
          so_far.writes;
      ends = inl (record {
        line = line;
        ask = ask;
        next = next;
        due = due;
        wants = wants;
        named = subst (λ (l : List Sent). NamesFound so_far.calls (l ++ plain ask ∷ [])) idle
            (so_far.names (plain ask) [] fits);
        done = so_far.done;
        none = refl;
        before = before;
        after = after;
        unknown = unknown;
        ends = exchange;
      });
    }

-- One more send was written.
pub sends_part : (loading : Loading) (one : Sent) (left rest taken more most fed unloaded : Option (List ℕ))
    (place : Place) (window : Window) (partial : List Sent) (found : Option ℤ)
    (so_far : LoadsPart loading left rest taken more fed unloaded place window partial found)
    → IsSnd one.ask → FitsNext found one → window.waiting < window_to_load loading
    → Appends more most (request_encoding (request_of one.ask) one.text)
    → LoadsPart loading left rest taken most fed unloaded place (one_more window) (partial ++ one ∷ []) None
sends_part loading one left rest taken more most fed unloaded place window partial found so_far snd fits room wrote =
    let calls = so_far.hello ∷ so_far.calls in
    let frame = request_encoding (request_of one.ask) one.text in
    record {
      hello = so_far.hello;
      calls = so_far.calls;
      steps = so_far.steps;
      waiting = so_far.waiting ++ one ∷ [];
      greets = so_far.greets;
      bare = so_far.bare;
      lines = so_far.lines;
      counted = so_far.counted;
      made = sym (append_assoc (sent_by so_far.calls) so_far.waiting (one ∷ []))
          ∙ ap (λ (l : List Sent). l ++ one ∷ []) so_far.made
          ∙ append_assoc (asks_in so_far.steps) partial (one ∷ []);
      named = so_far.names one [] fits;
      names = λ next later fit. subst (λ (l : List Sent). NamesFound so_far.calls l)
          (sym (append_assoc so_far.waiting (one ∷ []) (next ∷ later))) (so_far.names one (next ∷ later) fits);
      done = so_far.done;
      snds = snds_both so_far.waiting (one ∷ []) so_far.snds (snd, tt);
      reads = so_far.reads;
      writes = subst (Appends taken most)
          (append_assoc (written_by calls) (frames_of so_far.waiting) frame
          ∙ ap (λ (l : List ℕ). written_by calls ++ l)
          (ap (λ (l : List ℕ). frames_of so_far.waiting ++ l) (sym (append-nil frame))
          ∙ sym (frames_both so_far.waiting (one ∷ []))))
          (Appends-trans taken more most _ _ so_far.writes wrote);
      waits = ap (λ (n : ℕ). n + 1) so_far.waits ∙ sym (length-append so_far.waiting (one ∷ []));
      few = omega (arith, room);
    }

-- The line was taken whose requests were made.
pub takes_part : (loading : Loading) (step : Step) (left rest taken more fed unloaded unfed : Option (List ℕ))
    (place after : Place) (window last : Window) (partial : List Sent)
    (so_far : LoadsPart loading left rest taken more fed unloaded place window partial None)
    → IsNext OBJECT_BYTES step.line unloaded unfed → Takes loading place step after → step.asks ≡ partial
    → after.lines ≡ place.lines + 1 → last.waiting ≡ window.waiting
    → LoadsPart loading left rest taken more fed unfed after last [] None
takes_part loading step left rest taken more fed unloaded unfed place after window last partial so_far next takes asks
    lines same = record {
      hello = so_far.hello;
      calls = so_far.calls;
      steps = so_far.steps ++ step ∷ [];
      waiting = so_far.waiting;
      greets = so_far.greets;
      bare = so_far.bare;
      lines = takes_next loading outset place after so_far.steps step fed unloaded unfed so_far.lines next takes;
      counted = length-append so_far.steps (step ∷ []) ∙ ap (λ (n : ℕ). n + 1) so_far.counted ∙ sym lines;
      made = so_far.made ∙ ap (λ (l : List Sent). asks_in so_far.steps ++ l) (sym asks)
          ∙ sym (asks_more so_far.steps step) ∙ sym (append-nil (asks_in (so_far.steps ++ step ∷ [])));
      named = so_far.named;
      names = so_far.names;
      done = so_far.done;
      snds = so_far.snds;
      reads = so_far.reads;
      writes = so_far.writes;
      waits = same ∙ so_far.waits;
      few = omega (arith, same, so_far.few);
    }

-- The writer failed in a send.
pub loses_part : (loading : Loading) (one : Sent) (step : Step)
    (left rest taken more most fed unloaded unfed : Option (List ℕ)) (place after : Place) (window : Window)
    (partial : List Sent) (found : Option ℤ)
    (so_far : LoadsPart loading left rest taken more fed unloaded place window partial found)
    → IsSnd one.ask → FitsNext found one → window.waiting < window_to_load loading
    → window.done + window.waiting ≡ place.lines
    → AppendsPrefix more most (request_encoding (request_of one.ask) one.text)
    → IsNext OBJECT_BYTES step.line unloaded unfed → Takes loading place step after
    → step.asks ≡ partial ++ one ∷ [] → after.lines ≡ place.lines + 1
    → LoadsAll loading (Err (Cut (lost (one_more window)))) left rest taken most fed unfed
loses_part loading one step left rest taken more most fed unloaded unfed place after window partial found so_far snd
    fits room many wrote next takes asks lines =
    let calls = so_far.hello ∷ so_far.calls in
    let frame = request_encoding (request_of one.ask) one.text in
    let whole = frames_of so_far.waiting in
    let long = length-append so_far.waiting (one ∷ []) in
    let counted : length (so_far.steps ++ step ∷ []) ≡ place.lines + 1 =
    length-append so_far.steps (step ∷ []) ∙ ap (λ (n : ℕ). n + 1) so_far.counted in
    record {
      steps = so_far.steps ++ step ∷ [];
      place = after;
      calls = calls;
      waiting = so_far.waiting ++ one ∷ [];
      unread = rest;
      written = between taken (written_by calls);
      unloaded = unfed;
      lines = takes_next loading outset place after so_far.steps step fed unloaded unfed so_far.lines next takes;
      hello = inr (so_far.hello, so_far.calls, refl, so_far.greets, so_far.bare);
      partial = [];
      made = sym (append_assoc (sent_by so_far.calls) so_far.waiting (one ∷ []))
          ∙ ap (λ (l : List Sent). l ++ one ∷ []) so_far.made
          ∙ append_assoc (asks_in so_far.steps) partial (one ∷ [])
          ∙ ap (λ (l : List Sent). asks_in so_far.steps ++ l) (sym asks)
          ∙ sym (asks_more so_far.steps step) ∙ sym (append-nil (asks_in (so_far.steps ++ step ∷ [])));
      counted = counted ∙ sym lines;
      named = so_far.names one [] fits;
      answered = all_answered calls so_far.done;
      few = omega (arith, room, so_far.waits, long);
      reads = so_far.reads;
      writes = between_first taken (written_by calls);
      ends = inr (record {
        earlier_calls = calls;
        sends = [];
        split = sym (append-nil calls);
        done = so_far.done;
        snds = snds_both so_far.waiting (one ∷ []) so_far.snds (snd, tt);
        earlier = window.done;
        own = 0;
        by = (tt, refl, refl, omega arith);
        counted = omega arith;
        every = omega (arith, counted, many, so_far.waits, long);
        whole = refl;
        unknown = ap (λ (n : ℕ). n + 1) so_far.waits ∙ sym long;
        ends = inr (inl (
          (
            whole ++ wrote.0,
            (
              wrote.1.0,
              frames_both so_far.waiting (one ∷ [])
                  ∙ ap (λ (l : List ℕ). whole ++ l) (append-nil frame ∙ wrote.1.1)
                  ∙ sym (append_assoc whole wrote.0 wrote.1.0),
            ),
            Appends-trans (between taken (written_by calls)) more most whole wrote.0
                (between_second taken more (written_by calls) whole so_far.writes) wrote.2,
          ),
          refl,
        ));
      });
    }

-- How a load ends that has no send on its way, and no reply that ends it.
abbrev EndsOnLines : Loading → Result ⊤ Unloaded → Place → List Step → List Call → (rest more : Option (List ℕ)) →
    (fed unfed : Option (List ℕ)) → Type 0
EndsOnLines loading ended place steps calls rest more fed unfed =
    EndsLoad loading ended place steps calls [] [] rest rest more more fed unfed

-- Every request has its reply, and the load ends.
settled : (loading : Loading) (ended : Result ⊤ Unloaded) (left rest taken more fed unloaded unfed : Option (List ℕ))
    (place : Place) (window : Window)
    (so_far : LoadsPart loading left rest taken more fed unloaded place window [] None) → window.waiting ≡ 0
    → ((calls : List Call) → Each IsCallDone calls
    → EndsOnLines loading ended place so_far.steps calls rest more unloaded unfed)
    → LoadsAll loading ended left rest taken more fed unfed
settled loading ended left rest taken more fed unloaded unfed place window so_far none ends =
    let calls = so_far.hello ∷ so_far.calls in
    let idle = none_left so_far.waiting window.waiting so_far.waits none in
    record {
      steps = so_far.steps;
      place = place;
      calls = calls;
      waiting = [];
      unread = rest;
      written = more;
      unloaded = unloaded;
      lines = so_far.lines;
      hello = inr (so_far.hello, so_far.calls, refl, so_far.greets, so_far.bare);
      partial = [];
      made = ap (λ (l : List Sent). sent_by so_far.calls ++ l) (sym idle) ∙ so_far.made;
      counted = so_far.counted;
      named = subst (λ (l : List Sent). NamesFound so_far.calls l) idle so_far.named;
      answered = all_answered calls so_far.done;
      few = omega arith;
      reads = so_far.reads;
      writes = subst (Appends taken more)
          (ap (λ (l : List Sent). written_by calls ++ frames_of l) idle ∙ append-nil (written_by calls))
          so_far.writes;
      ends = ends calls so_far.done;
    }

all_done : (calls : List Call) (rest more : Option (List ℕ)) → Each IsCallDone calls
    → AreAllDone calls [] [] rest rest more more
all_done calls rest more done = record { done = done; whole = refl; none = refl; read = refl; wrote = refl }

-- The load that stops has taken these lines.
pub record Taken (loading : Loading) (left rest taken more fed : Option (List ℕ)) (place : Place) (window : Window) :
    Type 0 where
  pub unloaded : Option (List ℕ)
  pub loads : Loads loading left rest taken more fed unloaded place window

pub taken_by : (loading : Loading) (ended : Result ⊤ Unloaded) (left rest taken more fed unfed : Option (List ℕ))
    (place : Place) (window : Window) → Stops loading ended left rest taken more fed unfed place window
    → Taken loading left rest taken more fed place window
taken_by loading (Ok tt) left rest taken more fed unfed place window stops =
    record { unloaded = stops.0; loads = stops.1 }
taken_by loading (Err (Line before why)) left rest taken more fed unfed place window stops =
    record { unloaded = stops.0; loads = stops.1 }
taken_by loading (Err Many) left rest taken more fed unfed place window stops =
    record { unloaded = unfed; loads = stops.0 }
taken_by loading (Err (Input why)) left rest taken more fed unfed place window stops =
    record { unloaded = stops.0; loads = stops.1 }
taken_by loading (Err (Cut cut)) left rest taken more fed unfed place window stops = absurd stops
taken_by loading (Err (Fault why)) left rest taken more fed unfed place window stops = absurd stops

-- The load ends like its lines, after all replies.
pub ends_lines : (loading : Loading) (ended : Result ⊤ Unloaded)
    (left mid rest taken more most fed unfed : Option (List ℕ)) (place : Place) (before after : Window)
    → Stops loading ended left mid taken more fed unfed place before
    → ((waiting : List Sent) → AreSnds waiting → before.waiting ≡ length waiting
    → HearsDone waiting mid rest before after)
    → Appends more most [] → after.waiting ≤ 0
    → LoadsAll loading ended left rest taken most fed unfed
ends_lines loading (Ok tt) left mid rest taken more most fed unfed place before after stops hears kept few =
    let so_far = stops.1.part in
    let part = hears_part loading left mid rest taken more most fed stops.0 place before after so_far
    (hears so_far.waiting so_far.snds so_far.waits) kept in
    let some : 1 ≤ place.lines = stops.2 in
    settled loading (Ok tt) left rest taken most fed stops.0 unfed place after part (omega (arith, few))
    (λ calls done. (all_done calls rest most done, omega (arith, some, part.counted), stops.3))
ends_lines loading (Err (Line lines why)) left mid rest taken more most fed unfed place before after stops hears kept
    few =
    let so_far = stops.1.part in
    let part = hears_part loading left mid rest taken more most fed stops.0 place before after so_far
    (hears so_far.waiting so_far.snds so_far.waits) kept in
    settled loading (Err (Line lines why)) left rest taken most fed stops.0 unfed place after part
    (omega (arith, few)) (λ calls done. (all_done calls rest most done, stops.2 ∙ sym part.counted, stops.3))
ends_lines loading (Err Many) left mid rest taken more most fed unfed place before after stops hears kept few =
    let so_far = stops.0.part in
    let part = hears_part loading left mid rest taken more most fed unfed place before after so_far
    (hears so_far.waiting so_far.snds so_far.waits) kept in
    settled loading (Err Many) left rest taken most fed unfed unfed place after part (omega (arith, few))
    (λ calls done. (all_done calls rest most done, refl, part.counted ∙ stops.1))
ends_lines loading (Err (Input why)) left mid rest taken more most fed unfed place before after stops hears kept few =
    let so_far = stops.1.part in
    let part = hears_part loading left mid rest taken more most fed stops.0 place before after so_far
    (hears so_far.waiting so_far.snds so_far.waits) kept in
    settled loading (Err (Input why)) left rest taken most fed stops.0 unfed place after part (omega (arith, few))
    (λ calls done. all_done calls rest most done)
ends_lines loading (Err (Cut cut)) left mid rest taken more most fed unfed place before after stops hears kept few =
    absurd stops
ends_lines loading (Err (Fault why)) left mid rest taken more most fed unfed place before after stops hears kept few =
    absurd stops

-- A send ends it.
pub cuts_by : (loading : Loading) (why : Unsent) (left mid rest taken more most fed unloaded unfed : Option (List ℕ))
    (place : Place) (before after : Window) (so_far : Loads loading left mid taken more fed unloaded place before)
    → HearsSends (Err why) so_far.part.waiting mid rest before after → Appends more most []
    → LoadsAll loading (Err (unloaded_by why)) left rest taken most fed unfed
cuts_by loading (unsent.Cut cut) left mid rest taken more most fed unloaded unfed place before after so_far heard kept =
    cuts_load loading left mid rest taken more most fed unloaded unfed place before cut so_far.part so_far.many heard
    kept
cuts_by loading (unsent.Fault why) left mid rest taken more most fed unloaded unfed place before after so_far heard
    kept = absurd heard
cuts_by loading (unsent.Long lines) left mid rest taken more most fed unloaded unfed place before after so_far heard
    kept = absurd heard
cuts_by loading (unsent.NoObject lines) left mid rest taken more most fed unloaded unfed place before after so_far heard
    kept = absurd heard
cuts_by loading (unsent.Memory lines) left mid rest taken more most fed unloaded unfed place before after so_far heard
    kept = absurd heard
cuts_by loading unsent.Many left mid rest taken more most fed unloaded unfed place before after so_far heard kept =
    absurd heard
cuts_by loading (unsent.Input why) left mid rest taken more most fed unloaded unfed place before after so_far heard
    kept = absurd heard

pub stops_by : (loading : Loading) (why : Unsent) (left mid rest taken more most fed unloaded unfed : Option (List ℕ))
    (place now : Place) (before after : Window)
    (so_far : Loads loading left mid taken more fed unloaded place before)
    → HearsSends (Err why) so_far.part.waiting mid rest before after → Appends more most []
    → StopsBy loading (unloaded_by why) left rest taken most fed unfed now after
stops_by loading (unsent.Cut cut) left mid rest taken more most fed unloaded unfed place now before after so_far heard
    kept = cuts_load loading left mid rest taken more most fed unloaded unfed place before cut so_far.part so_far.many
    heard kept
stops_by loading (unsent.Fault why) left mid rest taken more most fed unloaded unfed place now before after so_far heard
    kept = absurd heard
stops_by loading (unsent.Long lines) left mid rest taken more most fed unloaded unfed place now before after so_far
    heard kept = absurd heard
stops_by loading (unsent.NoObject lines) left mid rest taken more most fed unloaded unfed place now before after so_far
    heard kept = absurd heard
stops_by loading (unsent.Memory lines) left mid rest taken more most fed unloaded unfed place now before after so_far
    heard kept = absurd heard
stops_by loading unsent.Many left mid rest taken more most fed unloaded unfed place now before after so_far heard kept =
    absurd heard
stops_by loading (unsent.Input why) left mid rest taken more most fed unloaded unfed place now before after so_far heard
    kept = absurd heard

pub cut_of_line : (why : Unsent) → IsCut why → IsOfLine (unloaded_by why)
cut_of_line (unsent.Cut cut) is = tt
cut_of_line (unsent.Fault why) is = absurd is
cut_of_line (unsent.Long lines) is = tt
cut_of_line (unsent.NoObject lines) is = tt
cut_of_line (unsent.Memory lines) is = tt
cut_of_line unsent.Many is = absurd is
cut_of_line (unsent.Input why) is = absurd is

pub cut_of_load : (why : Unsent) → IsCut why → IsCutLoad (unloaded_by why)
cut_of_load (unsent.Cut cut) is = tt
cut_of_load (unsent.Fault why) is = absurd is
cut_of_load (unsent.Long lines) is = absurd is
cut_of_load (unsent.NoObject lines) is = absurd is
cut_of_load (unsent.Memory lines) is = absurd is
cut_of_load unsent.Many is = absurd is
cut_of_load (unsent.Input why) is = absurd is

-- The replies are read before a line that is no message.
record Idle (loading : Loading) (left rest taken more fed unloaded : Option (List ℕ)) (place : Place)
    (window : Window) : Type 0 where
  part : LoadsPart loading left rest taken more fed unloaded place window [] None
  none : window.waiting ≡ 0
  many : window.done + window.waiting ≡ place.lines

idle_after : (loading : Loading) (left mid rest taken more most fed unloaded : Option (List ℕ)) (place : Place)
    (before after : Window) (so_far : Loads loading left mid taken more fed unloaded place before)
    → HearsDone so_far.part.waiting mid rest before after → Appends more most [] → after.waiting ≤ 0
    → Idle loading left rest taken most fed unloaded place after
idle_after loading left mid rest taken more most fed unloaded place before after so_far heard kept few = record {
  part = hears_part loading left mid rest taken more most fed unloaded place before after so_far.part heard kept;
  none = omega (arith, few);
  many = (fewer so_far.part.waiting mid rest before after heard so_far.part.waits).1 ∙ so_far.many;
}

-- A line was taken for which no send is on its way.
taken_idle : (loading : Loading) (step : Step) (left rest taken more fed unloaded unfed : Option (List ℕ))
    (place after : Place) (window : Window) (partial : List Sent)
    (so_far : LoadsPart loading left rest taken more fed unloaded place window partial None)
    → window.waiting ≡ 0 → window.done + window.waiting ≡ place.lines
    → IsNext OBJECT_BYTES step.line unloaded unfed → Takes loading place step after → step.asks ≡ partial
    → after.lines ≡ place.lines + 1 → MayBeAt loading after
    → Loads loading left rest taken more fed unfed after (one_taken window)
taken_idle loading step left rest taken more fed unloaded unfed place after window partial so_far none many next takes
    asks lines may = record {
      part = takes_part loading step left rest taken more fed unloaded unfed place after window (one_taken window)
          partial so_far next takes asks lines refl;
      may = may;
      many = omega (arith, none, many, lines);
      idle = λ _. none;
      early = inl none;
    }

-- The line of a format was loaded.
pub format_taken : (loading : Loading) (line : List ℕ)
    (left mid rest taken more most fed unloaded unfed : Option (List ℕ)) (place : Place) (before after : Window)
    (so_far : Loads loading left mid taken more fed unloaded place before)
    → HearsDone so_far.part.waiting mid rest before after → Appends more most [] → after.waiting ≤ 0
    → IsDue loading place.lines → IsFormatLine line → IsNext OBJECT_BYTES line unloaded unfed
    → Loads loading left rest taken most fed unfed
    (record { lines = place.lines + 1; queue = None; found = None }) (one_taken after)
format_taken loading line left mid rest taken more most fed unloaded unfed place before after so_far heard kept few due
    is next =
    let idle = idle_after loading left mid rest taken more most fed unloaded place before after so_far heard kept few in
    taken_idle loading (record { line = line; entry = entry.Format; body = []; asks = [] }) left rest taken most fed
    unloaded unfed place (record { lines = place.lines + 1; queue = None; found = None }) after [] idle.part idle.none
    idle.many next
    (inr (record {
      due = due;
      first = λ _. refl;
      states = is;
      asks = (refl, refl, refl);
      lines = refl;
    })) refl refl tt

-- A queue is not loaded.
pub bars_queue : (loading : Loading) (queue : SavedQueue) (why : Unloaded) (line : List ℕ)
    (left mid rest taken more most fed unloaded unfed : Option (List ℕ)) (place : Place) (before after : Window)
    (so_far : Loads loading left mid taken more fed unloaded place before)
    → HearsDone so_far.part.waiting mid rest before after → Appends more most []
    → IsQueueLine line queue → IsNext OBJECT_BYTES line unloaded unfed
    → Checks loading place.lines queue (Err why)
    → StopsBy loading why left rest taken most fed unfed place after
bars_queue loading queue (Line lines unfit.Private) line left mid rest taken more most fed unloaded unfed place before
    after so_far heard kept is next bars = (
      unloaded,
      hears_load loading left mid rest taken more most fed unloaded place before after so_far heard kept,
      bars.0,
      (line, next, queue, inl is, bars.1),
    )
bars_queue loading queue (Line lines (unfit.Creator uid gid)) line left mid rest taken more most fed unloaded unfed
    place before after so_far heard kept is next bars = (
      unloaded,
      hears_load loading left mid rest taken more most fed unloaded place before after so_far heard kept,
      bars.0,
      (line, next, queue, inl is, bars.1.0, bars.1.1, bars.1.2),
    )
bars_queue loading queue (Line lines unfit.Long) line left mid rest taken more most fed unloaded unfed place before
    after so_far heard kept is next bars = absurd bars.1
bars_queue loading queue (Line lines unfit.Nothing) line left mid rest taken more most fed unloaded unfed place before
    after so_far heard kept is next bars = absurd bars.1
bars_queue loading queue (Line lines unfit.Format) line left mid rest taken more most fed unloaded unfed place before
    after so_far heard kept is next bars = absurd bars.1
bars_queue loading queue (Line lines unfit.NoQueue) line left mid rest taken more most fed unloaded unfed place before
    after so_far heard kept is next bars = absurd bars.1
bars_queue loading queue (Line lines unfit.Memory) line left mid rest taken more most fed unloaded unfed place before
    after so_far heard kept is next bars = absurd bars.1
bars_queue loading queue (Fault why) line left mid rest taken more most fed unloaded unfed place before after so_far
    heard kept is next bars = absurd bars
bars_queue loading queue (Cut cut) line left mid rest taken more most fed unloaded unfed place before after so_far heard
    kept is next bars = absurd bars
bars_queue loading queue Many line left mid rest taken more most fed unloaded unfed place before after so_far heard kept
    is next bars = absurd bars
bars_queue loading queue (Input why) line left mid rest taken more most fed unloaded unfed place before after so_far
    heard kept is next bars = absurd bars

-- A request for a line ends the load, however.
asked_stops : (loading : Loading) (ask : Ask) (why : Unloaded) (line : List ℕ)
    (left mid rest taken more most fed unloaded unfed : Option (List ℕ)) (place now : Place) (window last : Window)
    (partial : List Sent) (found : Option ℤ)
    (so_far : LoadsPart loading left mid taken more fed unloaded place window partial found) → window.waiting ≡ 0
    → FitsNext found (plain ask) → IsDue loading place.lines → IsNext OBJECT_BYTES line unloaded unfed
    → Wants loading place line partial ask
    → IsAsked place.lines ask (Err why) mid rest more most
    → StopsBy loading why left rest taken most fed unfed now last
asked_stops loading ask (Cut cut) line left mid rest taken more most fed unloaded unfed place now window last partial
    found so_far none fits due next wants asked =
    ends_asked loading ask cut line left mid rest taken more most fed unloaded unfed place window partial found so_far
    none fits due next wants asked.0 asked.1 asked.2 asked.3
asked_stops loading ask (Line lines why) line left mid rest taken more most fed unloaded unfed place now window last
    partial found so_far none fits due next wants asked = absurd asked
asked_stops loading ask (Fault why) line left mid rest taken more most fed unloaded unfed place now window last partial
    found so_far none fits due next wants asked = absurd asked
asked_stops loading ask Many line left mid rest taken more most fed unloaded unfed place now window last partial found
    so_far none fits due next wants asked = absurd asked
asked_stops loading ask (Input why) line left mid rest taken more most fed unloaded unfed place now window last partial
    found so_far none fits due next wants asked = absurd asked

-- The flags of the msgget that makes a queue.
abbrev pub flags_of : Loading → SavedQueue → Flags
flags_of loading queue =
    if loading.into then record { 0 = bit_or IPC_CREAT.0 queue.mode } else flags_to_make queue.mode

-- What the msgctl sets.
abbrev pub to_of : SavedQueue → SetTo
to_of queue = record { uid = queue.uid; gid = queue.gid; mode = queue.mode; qbytes = queue.qbytes }

set_no_get : (to : SetTo) (id key : ℤ) (flags : Flags) → Set id to ≡ Get key flags → ⊥
set_no_get to id key flags is = cc is

-- A msgget found this queue.
finds_part : (loading : Loading) (key id : ℤ) (flags : Flags)
    (left mid rest taken more most fed unloaded : Option (List ℕ)) (place : Place) (window : Window)
    (lines : ℕ) (so_far : LoadsPart loading left mid taken more fed unloaded place window [] None)
    → window.waiting ≡ 0 → IsAsked lines (Get key flags) (Ok id) mid rest more most
    → LoadsPart loading left rest taken most fed unloaded place window (plain (Get key flags) ∷ []) (Some id)
finds_part loading key id flags left mid rest taken more most fed unloaded place window lines so_far none asked =
    asks_part loading (Get key flags) asked.0 asked.1 left mid rest taken more most fed unloaded place window [] None
    (Some id) so_far none tt
    (λ sent later fit. (λ k f is. subst (λ (n : ℤ). NamesQueue n sent.ask) asked.2 fit, tt)) asked.3

-- The msgget of a queue's line ends the load.
pub make_stops : (loading : Loading) (queue : SavedQueue) (why : Unloaded) (line : List ℕ)
    (left mid rest end taken more most last fed unloaded unfed : Option (List ℕ)) (place : Place)
    (before after : Window) (so_far : Loads loading left mid taken more fed unloaded place before)
    → HearsDone so_far.part.waiting mid rest before after → Appends more most [] → after.waiting ≤ 0
    → IsDue loading place.lines → IsQueueLine line queue → IsNext OBJECT_BYTES line unloaded unfed
    → MayLoad loading queue → IsAsked place.lines (make_ask loading queue) (Err why) rest end most last
    → StopsBy loading why left end taken last fed unfed place after
make_stops loading queue why line left mid rest end taken more most last fed unloaded unfed place before after so_far
    heard kept few due is next may asked =
    let idle = idle_after loading left mid rest taken more most fed unloaded place before after so_far heard kept few in
    asked_stops loading (make_ask loading queue) why line left rest end taken most last fed unloaded unfed place place
    after after [] None idle.part idle.none tt due next (queue, may, inl (is, inl (refl, refl))) asked

-- The msgctl does.
pub set_stops : (loading : Loading) (queue : SavedQueue) (id : ℤ) (why : Unloaded) (line : List ℕ)
    (left mid rest end last taken more most wrote all fed unloaded unfed : Option (List ℕ)) (place : Place)
    (before after : Window) (so_far : Loads loading left mid taken more fed unloaded place before)
    → HearsDone so_far.part.waiting mid rest before after → Appends more most [] → after.waiting ≤ 0
    → IsDue loading place.lines → IsQueueLine line queue → IsNext OBJECT_BYTES line unloaded unfed
    → MayLoad loading queue → IsAsked place.lines (make_ask loading queue) (Ok id) rest end most wrote
    → IsAsked place.lines (set_ask queue id) (Err why) end last wrote all
    → StopsBy loading why left last taken all fed unfed place after
set_stops loading queue id why line left mid rest end last taken more most wrote all fed unloaded unfed place before
    after so_far heard kept few due is next may made asked =
    let idle = idle_after loading left mid rest taken more most fed unloaded place before after so_far heard kept few in
    asked_stops loading (set_ask queue id) why line left end last taken wrote all fed unloaded unfed place place after
    after (plain (make_ask loading queue) ∷ []) (Some id)
    (finds_part loading queue.key id (flags_of loading queue) left rest end taken most wrote fed unloaded place after
    place.lines idle.part idle.none made)
    idle.none (inl (to_of queue, refl)) due next (queue, may, inl (is, inr (id, refl, refl))) asked

-- The line of a queue was loaded.
pub queue_taken : (loading : Loading) (queue : SavedQueue) (id got : ℤ) (line body : List ℕ)
    (left mid rest end last taken more most wrote all fed unloaded unfed : Option (List ℕ)) (place : Place)
    (before after : Window) (so_far : Loads loading left mid taken more fed unloaded place before)
    → HearsDone so_far.part.waiting mid rest before after → Appends more most [] → after.waiting ≤ 0
    → IsDue loading place.lines → IsQueueLine line queue → (place.lines ≡ 0 → entry.Queue queue ≡ entry.Format)
    → IsNext OBJECT_BYTES line unloaded unfed
    → MayLoad loading queue → IsAsked place.lines (make_ask loading queue) (Ok id) rest end most wrote
    → IsAsked place.lines (set_ask queue id) (Ok got) end last wrote all
    → Loads loading left last taken all fed unfed
    (record { lines = place.lines + 1; queue = Some queue; found = Some id }) (one_taken after)
queue_taken loading queue id got line body left mid rest end last taken more most wrote all fed unloaded unfed place
    before after so_far heard kept few due is first next may made set =
    let idle = idle_after loading left mid rest taken more most fed unloaded place before after so_far heard kept few in
    let found = finds_part loading queue.key id (flags_of loading queue) left rest end taken most wrote fed unloaded
    place after place.lines idle.part idle.none made in
    let part = asks_part loading (set_ask queue id) set.0 set.1 left end last taken wrote all fed unloaded place after
    (plain (make_ask loading queue) ∷ []) (Some id) None found idle.none (inl (to_of queue, refl))
    (λ sent later fit. (λ k f is. absurd (set_no_get (to_of queue) id k f is), tt)) set.3 in
    let after_place : Place = record { lines = place.lines + 1; queue = Some queue; found = Some id } in
    taken_idle loading
    (record {
      line = line;
      entry = entry.Queue queue;
      body = body;
      asks = plain (make_ask loading queue) ∷ plain (set_ask queue id) ∷ [];
    })
    left last taken all fed unloaded unfed place after_place after
    (plain (make_ask loading queue) ∷ plain (set_ask queue id) ∷ []) part idle.none idle.many next
    (inr (record {
      due = due;
      first = first;
      states = is;
      asks = (may, id, refl, refl, refl);
      lines = refl;
    })) refl refl (queue, refl, may)

-- A fault of a request, whatever body it left.
pub bare_fault : (ask : Ask) (why : ClientFault) (given : List ℕ) (left rest taken more : Option (List ℕ))
    → Exchanges (request_encoding (request_of ask) []) ask (Err why) left rest taken more given
    → Exchanges (request_encoding (request_of ask) []) ask (Err why) left rest taken more []
bare_fault ask (fault.Refused error) given left rest taken more exchange = exchange
bare_fault ask fault.NoReply given left rest taken more exchange = exchange
bare_fault ask fault.NoMemory given left rest taken more exchange = absurd exchange

-- The queue of a message was found.
pub record FoundPart (loading : Loading) (left rest taken more fed unloaded : Option (List ℕ)) (place : Place)
    (window : Window) (id : ℤ) : Type 0 where
  pub partial : List Sent
  pub found : Option ℤ
  pub part : LoadsPart loading left rest taken more fed unloaded place window partial found
  pub queue : SavedQueue
  pub at : place.queue ≡ Some queue
  pub may : MayLoad loading queue
  pub fits : (mtype : ℤ) (body : List ℕ) → FitsNext found (send_of loading id mtype body)
  pub how : ((place.found ≡ Some id) × (partial ≡ []))
      ⊎ ((place.found ≡ None) × (partial ≡ plain (find_ask queue) ∷ []))

pub found_part : (loading : Loading) (id : ℤ) (left mid rest taken more most fed unloaded : Option (List ℕ))
    (place : Place) (window : Window)
    → Loads loading left mid taken more fed unloaded place window
    → FindsQueue loading place id mid rest more most
    → FoundPart loading left rest taken most fed unloaded place window id
found_part loading id left mid rest taken more most fed unloaded place window so_far (queue, at, may, inl known) =
    record {
      partial = [];
      found = None;
      part = subst (λ (r : Option (List ℕ)). LoadsPart loading left r taken most fed unloaded place window [] None)
          (sym known.1)
          (subst (λ (w : Option (List ℕ)). LoadsPart loading left mid taken w fed unloaded place window [] None)
          (sym known.2) so_far.part);
      queue = queue;
      at = at;
      may = may;
      fits = λ mtype body. tt;
      how = inl (known.0, refl);
    }
found_part loading id left mid rest taken more most fed unloaded place window so_far (queue, at, may, inr asked) =
    record {
      partial = plain (find_ask queue) ∷ [];
      found = Some id;
      part = finds_part loading queue.key id no_flags left mid rest taken more most fed unloaded place window
          place.lines so_far.part (so_far.idle asked.0) asked.1;
      queue = queue;
      at = at;
      may = may;
      fits = λ mtype body. inr (mtype, flags_to_wait loading.nowait, refl);
      how = inr (asked.0, refl);
    }

-- It was not.
pub find_stops : (loading : Loading) (why : Unloaded) (mtype : ℤ) (line body : List ℕ)
    (left mid rest taken more most fed unloaded unfed : Option (List ℕ)) (place : Place) (window : Window)
    → Loads loading left mid taken more fed unloaded place window
    → IsDue loading place.lines → StatesEntry line (entry.Message mtype) body → IsNext OBJECT_BYTES line unloaded unfed
    → Finds loading place (Err why) mid rest more most
    → StopsBy loading why left rest taken most fed unfed place window
find_stops loading (Cut cut) mtype line body left mid rest taken more most fed unloaded unfed place window so_far due
    states next finds =
    asked_stops loading (find_ask finds.0) (Cut cut) line left mid rest taken more most fed unloaded unfed place place
    window window [] None so_far.part (so_far.idle finds.3) tt due next
    (finds.0, finds.2, inr (mtype, body, states, finds.1, finds.3, refl, refl)) finds.4
find_stops loading (Line lines why) mtype line body left mid rest taken more most fed unloaded unfed place window so_far
    due states next finds = (
      unloaded,
      subst (λ (r : Option (List ℕ)). Loads loading left r taken most fed unloaded place window) (sym finds.2)
          (subst (λ (w : Option (List ℕ)). Loads loading left mid taken w fed unloaded place window) (sym finds.3)
          so_far),
      finds.0,
      unfound loading why mtype line body unloaded unfed place states next finds.1,
    )
  where
    unfound : (loading : Loading) (why : Unfit) (mtype : ℤ) (line body : List ℕ) (unloaded unfed : Option (List ℕ))
        (place : Place) → StatesEntry line (entry.Message mtype) body → IsNext OBJECT_BYTES line unloaded unfed
        → IsUnfound loading place why → IsUnfit loading place why unloaded unfed
    unfound loading unfit.NoQueue mtype line body unloaded unfed place states next is =
        (line, next, mtype, body, states, is)
    unfound loading unfit.Private mtype line body unloaded unfed place states next is =
        (line, next, is.0, inr is.1, is.2)
    unfound loading (unfit.Creator uid gid) mtype line body unloaded unfed place states next is =
        (line, next, is.0, inr is.1, is.2.0, is.2.1, is.2.2)
    unfound loading unfit.Long mtype line body unloaded unfed place states next is = absurd is
    unfound loading unfit.Nothing mtype line body unloaded unfed place states next is = absurd is
    unfound loading unfit.Format mtype line body unloaded unfed place states next is = absurd is
    unfound loading unfit.Memory mtype line body unloaded unfed place states next is = absurd is
find_stops loading (Fault why) mtype line body left mid rest taken more most fed unloaded unfed place window so_far due
    states next finds = absurd finds
find_stops loading Many mtype line body left mid rest taken more most fed unloaded unfed place window so_far due states
    next finds = absurd finds
find_stops loading (Input why) mtype line body left mid rest taken more most fed unloaded unfed place window so_far due
    states next finds = absurd finds

-- The place after a message's line.
abbrev pub after_message : Place → ℤ → Place
after_message place id = record { lines = place.lines + 1; queue = place.queue; found = Some id }

-- The line of a message, with its requests.
abbrev pub message_step : Loading → (id mtype : ℤ) → (line body : List ℕ) → (partial : List Sent) → Step
message_step loading id mtype line body partial =
    record {
      line = line;
      entry = entry.Message mtype;
      body = body;
      asks = partial ++ send_of loading id mtype body ∷ [];
    }

takes_message : (loading : Loading) (id mtype : ℤ) (line body : List ℕ)
    (left rest taken more fed unloaded : Option (List ℕ)) (place : Place) (window : Window)
    (found : FoundPart loading left rest taken more fed unloaded place window id)
    → IsDue loading place.lines → (place.lines ≡ 0 → entry.Message mtype ≡ entry.Format)
    → StatesEntry line (entry.Message mtype) body
    → Takes loading place (message_step loading id mtype line body found.partial) (after_message place id)
takes_message loading id mtype line body left rest taken more fed unloaded place window found due first states =
    let one = send_of loading id mtype body in
    inr (record {
      due = due;
      first = first;
      states = states;
      asks = (
        found.queue,
        id,
        found.at,
        found.may,
        found.at,
        refl,
        elim found.how [
          | inl known ↦ inl (known.0, ap (λ (l : List Sent). l ++ one ∷ []) known.1)
          | inr asked ↦ inr (asked.0, ap (λ (l : List Sent). l ++ one ∷ []) asked.1)
        ],
      );
      lines = refl;
    })

late : (loading : Loading) (mtype : ℤ) (lines : ℕ) → IsDue loading lines
    → (lines ≡ 0 → entry.Message mtype ≡ entry.Format) → loading.from ≤ lines + 1
late loading mtype lines (inl none) first = cc (first none)
late loading mtype lines (inr due) first = due

-- The send of a message was written.
pub message_taken : (loading : Loading) (id mtype : ℤ) (ask : Ask) (line body : List ℕ)
    (left mid rest taken more most last fed unloaded unfed : Option (List ℕ)) (place : Place) (window : Window)
    → Loads loading left mid taken more fed unloaded place window
    → FindsQueue loading place id mid rest more most
    → IsDue loading place.lines → (place.lines ≡ 0 → entry.Message mtype ≡ entry.Format)
    → StatesEntry line (entry.Message mtype) body → IsNext OBJECT_BYTES line unloaded unfed
    → window.waiting < window_to_load loading
    → ask ≡ Snd id mtype (flags_to_wait loading.nowait)
    → Appends most last (request_encoding (request_of ask) body)
    → Loads loading left rest taken last fed unfed (after_message place id) (one_more window)
message_taken loading id mtype ask line body left mid rest taken more most last fed unloaded unfed place window so_far
    finds due first states next room is wrote =
    let found = found_part loading id left mid rest taken more most fed unloaded place window so_far finds in
    let one = send_of loading id mtype body in
    let written : Appends most last (request_encoding (request_of one.ask) one.text) =
    subst (λ (a : Ask). Appends most last (request_encoding (request_of a) body)) is wrote in
    let part = sends_part loading one left rest taken most last fed unloaded place window found.partial found.found
    found.part (id, mtype, flags_to_wait loading.nowait, refl) (found.fits mtype body) room written in
    let many = so_far.many in
    record {
      part = takes_part loading (message_step loading id mtype line body found.partial) left rest taken last fed
          unloaded unfed place (after_message place id) (one_more window) (one_more window)
          (found.partial ++ one ∷ []) part next
          (takes_message loading id mtype line body left rest taken most fed unloaded place window found due first
          states) refl refl refl;
      may = (found.queue, found.at, found.may);
      many = omega (arith, many);
      idle = λ none. cc none;
      early = inr (late loading mtype place.lines due first);
    }

-- The same, where the body and the window are those that a search for the queue left.
pub message_sent : (loading : Loading) (id mtype : ℤ) (ask : Ask) (line body text : List ℕ)
    (left mid rest taken more most last fed unloaded unfed : Option (List ℕ)) (place at : Place)
    (window before after : Window)
    → Loads loading left mid taken more fed unloaded place window
    → FindsQueue loading place id mid rest more most
    → IsDue loading place.lines → StatesEntry line (entry.Message mtype) body
    → (place.lines ≡ 0 → entry.Message mtype ≡ entry.Format) → IsNext OBJECT_BYTES line unloaded unfed
    → window.waiting < window_to_load loading
    → ask ≡ Snd id mtype (flags_to_wait loading.nowait)
    → at ≡ place → text ≡ body → before ≡ window
    → PutsSend (Ok tt) (record { ask = ask; text = text }) most last before after
    → Loads loading left rest taken last fed unfed (after_message at id) after
message_sent loading id mtype ask line body text left mid rest taken more most last fed unloaded unfed place at window
    before after so_far finds due states first next room is same_place same_text same_window puts =
    let written : Appends most last (request_encoding (request_of ask) body) =
    subst (λ (t : List ℕ). Appends most last (request_encoding (request_of ask) t)) same_text puts.0 in
    subst (λ (w : Window). Loads loading left rest taken last fed unfed (after_message at id) w)
    (sym (puts.1 ∙ ap (λ (w : Window). one_more w) same_window))
    (subst (λ (p : Place). Loads loading left rest taken last fed unfed (after_message p id) (one_more window))
    (sym same_place)
    (message_taken loading id mtype ask line body left mid rest taken more most last fed unloaded unfed place window
    so_far finds due first states next room is written))

-- The writer failed in the send.
lost_part : (loading : Loading) (id mtype : ℤ) (ask : Ask) (line body : List ℕ)
    (left mid rest taken more most last fed unloaded unfed : Option (List ℕ)) (place : Place) (window : Window)
    → Loads loading left mid taken more fed unloaded place window
    → FindsQueue loading place id mid rest more most
    → IsDue loading place.lines → (place.lines ≡ 0 → entry.Message mtype ≡ entry.Format)
    → StatesEntry line (entry.Message mtype) body → IsNext OBJECT_BYTES line unloaded unfed
    → window.waiting < window_to_load loading
    → ask ≡ Snd id mtype (flags_to_wait loading.nowait)
    → AppendsPrefix most last (request_encoding (request_of ask) body)
    → LoadsAll loading (Err (Cut (lost (one_more window)))) left rest taken last fed unfed
lost_part loading id mtype ask line body left mid rest taken more most last fed unloaded unfed place window so_far finds
    due first states next room is wrote =
    let found = found_part loading id left mid rest taken more most fed unloaded place window so_far finds in
    let one = send_of loading id mtype body in
    let written : AppendsPrefix most last (request_encoding (request_of one.ask) one.text) =
    subst (λ (a : Ask). AppendsPrefix most last (request_encoding (request_of a) body)) is wrote in
    loses_part loading one (message_step loading id mtype line body found.partial) left rest taken most last fed
    unloaded unfed place (after_message place id) window found.partial found.found found.part
    (id, mtype, flags_to_wait loading.nowait, refl) (found.fits mtype body) room so_far.many written next
    (takes_message loading id mtype line body left rest taken most fed unloaded place window found due first states)
    refl refl

pub message_lost : (loading : Loading) (id mtype : ℤ) (ask : Ask) (why : Unsent) (line body text : List ℕ)
    (left mid rest taken more most last fed unloaded unfed : Option (List ℕ)) (place now : Place)
    (window before after : Window)
    → Loads loading left mid taken more fed unloaded place window
    → FindsQueue loading place id mid rest more most
    → IsDue loading place.lines → StatesEntry line (entry.Message mtype) body
    → (place.lines ≡ 0 → entry.Message mtype ≡ entry.Format) → IsNext OBJECT_BYTES line unloaded unfed
    → window.waiting < window_to_load loading
    → ask ≡ Snd id mtype (flags_to_wait loading.nowait)
    → text ≡ body → before ≡ window
    → PutsSend (Err why) (record { ask = ask; text = text }) most last before after
    → StopsBy loading (unloaded_by why) left rest taken last fed unfed now after
message_lost loading id mtype ask (unsent.Cut cut) line body text left mid rest taken more most last fed unloaded unfed
    place now window before after so_far finds due states first next room is same_text same_window puts =
    subst (λ (c : ACut). LoadsAll loading (Err (Cut c)) left rest taken last fed unfed)
    (sym (puts.1 ∙ ap (λ (w : Window). lost (one_more w)) same_window))
    (lost_part loading id mtype ask line body left mid rest taken more most last fed unloaded unfed place window so_far
    finds due first states next room is
    (subst (λ (t : List ℕ). AppendsPrefix most last (request_encoding (request_of ask) t)) same_text puts.0))
message_lost loading id mtype ask (unsent.Fault why) line body text left mid rest taken more most last fed unloaded
    unfed place now window before after so_far finds due states first next room is same_text same_window puts =
    absurd puts
message_lost loading id mtype ask (unsent.Long lines) line body text left mid rest taken more most last fed unloaded
    unfed place now window before after so_far finds due states first next room is same_text same_window puts =
    absurd puts
message_lost loading id mtype ask (unsent.NoObject lines) line body text left mid rest taken more most last fed unloaded
    unfed place now window before after so_far finds due states first next room is same_text same_window puts =
    absurd puts
message_lost loading id mtype ask (unsent.Memory lines) line body text left mid rest taken more most last fed unloaded
    unfed place now window before after so_far finds due states first next room is same_text same_window puts =
    absurd puts
message_lost loading id mtype ask unsent.Many line body text left mid rest taken more most last fed unloaded
    unfed place now window before after so_far finds due states first next room is same_text same_window puts =
    absurd puts
message_lost loading id mtype ask (unsent.Input why) line body text left mid rest taken more most last fed unloaded
    unfed place now window before after so_far finds due states first next room is same_text same_window puts =
    absurd puts

-- The request that sends a message.
pub snd_is : (loading : Loading) (sending : Sending) (ask : Ask) (id mtype : ℤ)
    → FitsSigned w32 id → FitsSigned w64 mtype → sending ≡ sending_to_load loading
    → ask ≡ send_ask sending (to_z w32 (of_z w32 id)) (to_z w64 (of_z w64 mtype))
    → ask ≡ Snd id mtype (flags_to_wait loading.nowait)
snd_is loading sending ask id mtype id_fits type_fits same is =
    is ∙ ap (λ (n : ℤ). send_ask sending n (to_z w64 (of_z w64 mtype))) (to_z-of_z w32 id id_fits)
    ∙ ap (λ (t : ℤ). send_ask sending id t) (to_z-of_z w64 mtype type_fits)
    ∙ ap (λ (s : Sending). send_ask s id mtype) same

-- The line states nothing that is loaded there.
pub entry_stops : (loading : Loading) (why : Unloaded) (line body : List ℕ)
    (left rest taken more fed unloaded unfed : Option (List ℕ)) (place : Place) (window : Window)
    → Loads loading left rest taken more fed unloaded place window → IsNext OBJECT_BYTES line unloaded unfed
    → ReadsEntry place.lines (Err why) line body
    → StopsBy loading why left rest taken more fed unfed place window
entry_stops loading (Line lines why) line body left rest taken more fed unloaded unfed place window so_far next reads =
    (unloaded, so_far, reads.0, unstated loading why line unloaded unfed place next reads.1)
  where
    unstated : (loading : Loading) (why : Unfit) (line : List ℕ) (unloaded unfed : Option (List ℕ)) (place : Place)
        → IsNext OBJECT_BYTES line unloaded unfed → IsNoEntry place.lines why line
        → IsUnfit loading place why unloaded unfed
    unstated loading unfit.Format line unloaded unfed place next is = (is.0, inr (line, next, is.1))
    unstated loading unfit.Nothing line unloaded unfed place next is = (is.0, line, next, is.1)
    unstated loading unfit.Memory line unloaded unfed place next is = (line, next)
    unstated loading unfit.Long line unloaded unfed place next is = absurd is
    unstated loading unfit.Private line unloaded unfed place next is = absurd is
    unstated loading (unfit.Creator uid gid) line unloaded unfed place next is = absurd is
    unstated loading unfit.NoQueue line unloaded unfed place next is = absurd is
entry_stops loading (Fault why) line body left rest taken more fed unloaded unfed place window so_far next reads =
    absurd reads
entry_stops loading (Cut cut) line body left rest taken more fed unloaded unfed place window so_far next reads =
    absurd reads
entry_stops loading Many line body left rest taken more fed unloaded unfed place window so_far next reads =
    absurd reads
entry_stops loading (Input why) line body left rest taken more fed unloaded unfed place window so_far next reads =
    absurd reads

pub entry_of_line : (lines : ℕ) (why : Unloaded) (line body : List ℕ) → ReadsEntry lines (Err why) line body
    → IsOfLine why
entry_of_line lines (Line before why) line body reads = tt
entry_of_line lines (Cut cut) line body reads = tt
entry_of_line lines (Fault why) line body reads = absurd reads
entry_of_line lines Many line body reads = absurd reads
entry_of_line lines (Input why) line body reads = absurd reads

-- No line was read.
pub fetch_stops : (loading : Loading) (why : Unsent) (line : List ℕ)
    (left rest taken more fed unloaded unfed : Option (List ℕ)) (place : Place) (window : Window)
    → Loads loading left rest taken more fed unloaded place window
    → Fetches OBJECT_BYTES place.lines (Err why) unloaded unfed line
    → StopsBy loading (unloaded_by why) left rest taken more fed unfed place window
fetch_stops loading (unsent.Long lines) line left rest taken more fed unloaded unfed place window so_far fetched =
    (unloaded, so_far, fetched.0, (line, fetched.1))
fetch_stops loading (unsent.Input why) line left rest taken more fed unloaded unfed place window so_far fetched =
    (unloaded, so_far)
fetch_stops loading (unsent.NoObject lines) line left rest taken more fed unloaded unfed place window so_far fetched =
    absurd fetched
fetch_stops loading (unsent.Memory lines) line left rest taken more fed unloaded unfed place window so_far fetched =
    absurd fetched
fetch_stops loading unsent.Many line left rest taken more fed unloaded unfed place window so_far fetched =
    absurd fetched
fetch_stops loading (unsent.Fault why) line left rest taken more fed unloaded unfed place window so_far fetched =
    absurd fetched
fetch_stops loading (unsent.Cut cut) line left rest taken more fed unloaded unfed place window so_far fetched =
    absurd fetched

pub fetch_fails : (why : Unsent) (failure : Option ErrorKind) → FailsBy {T = Fetched} (Err why) failure
    → FailsLoadBy (Err (unloaded_by why)) failure
fetch_fails (unsent.Input why) failure fails = fails
fetch_fails (unsent.Long lines) failure fails = tt
fetch_fails (unsent.NoObject lines) failure fails = tt
fetch_fails (unsent.Memory lines) failure fails = tt
fetch_fails unsent.Many failure fails = tt
fetch_fails (unsent.Fault why) failure fails = tt
fetch_fails (unsent.Cut cut) failure fails = tt

-- A line did not fail by the input.
pub line_fails : (why : Unloaded) (failure : Option ErrorKind) → IsOfLine why → FailsLoadBy (Err why) failure
line_fails (Line before why) failure is = tt
line_fails (Cut cut) failure is = tt
line_fails (Fault why) failure is = tt
line_fails Many failure is = tt
line_fails (Input why) failure is = absurd is

-- No line is left.
pub at_end : (loading : Loading) (result : Result Bool Unloaded) (fetched : Fetched) (line : List ℕ)
    (left rest taken more fed unloaded unfed : Option (List ℕ)) (place : Place) (window : Window)
    → Loads loading left rest taken more fed unloaded place window → HasNone unloaded unfed
    → EndsAt place.lines result
    → TakesNext loading result left rest taken more fed unfed place window
at_end loading (Ok true) fetched line left rest taken more fed unloaded unfed place window so_far none ends =
    cc ends.0
at_end loading (Ok false) fetched line left rest taken more fed unloaded unfed place window so_far none ends =
    (unloaded, so_far, ends.1, none)
at_end loading (Err (Line lines why)) fetched line left rest taken more fed unloaded unfed place window so_far none
    ends = (
      unloaded,
      so_far,
      ends.1 ∙ sym ends.0,
      subst (λ (u : Unfit). IsUnfit loading place u unloaded unfed) (sym ends.2) (ends.0, inl none),
    )
at_end loading (Err (Fault why)) fetched line left rest taken more fed unloaded unfed place window so_far none ends =
    absurd ends
at_end loading (Err (Cut cut)) fetched line left rest taken more fed unloaded unfed place window so_far none ends =
    absurd ends
at_end loading (Err Many) fetched line left rest taken more fed unloaded unfed place window so_far none ends =
    absurd ends
at_end loading (Err (Input why)) fetched line left rest taken more fed unloaded unfed place window so_far none ends =
    absurd ends

-- The queue of a place may be loaded, if it was made or found.
abbrev MayAt : Loading → Option SavedQueue → Option ℤ → Type 0
MayAt loading queue found =
    MatchOption found ⊤ (λ id. (own : SavedQueue) × (queue ≡ Some own) × MayLoad loading own)

-- The line was passed over.
pub passed : (loading : Loading) (line : List ℕ) (left rest taken more fed unloaded unfed : Option (List ℕ))
    (place after : Place) (window : Window)
    → Loads loading left rest taken more fed unloaded place window → IsNext OBJECT_BYTES line unloaded unfed
    → 1 ≤ place.lines → place.lines + 1 < loading.from
    → (after.lines ≡ place.lines + 1) × Notes line place after
    → Loads loading left rest taken more fed unfed after (one_taken window)
passed loading line left rest taken more fed unloaded unfed place after window so_far next some early (lines, notes) =
    let none : window.waiting ≡ 0 = elim so_far.early [
      | inl none ↦ none
      | inr late ↦ absurd (omega (arith, early, late))
    ] in
    taken_idle loading (record { line = line; entry = entry.Format; body = []; asks = [] }) left rest taken more fed
    unloaded unfed place after window [] so_far.part none so_far.many next
    (inl (some, early, refl, lines, notes)) refl lines
    (elim notes [
      | inl noted ↦ subst (λ (f : Option ℤ). MayAt loading after.queue f) (sym noted.3) tt
      | inr same ↦ subst (λ (f : Option ℤ). MayAt loading after.queue f) (sym same.2)
          (subst (λ (q : Option SavedQueue). MayAt loading q place.found) (sym same.1) so_far.may)
    ])

-- It was not, since memory for it was refused.
pub pass_stops : (loading : Loading) (why : Unloaded) (line : List ℕ)
    (left rest taken more fed unloaded unfed : Option (List ℕ)) (place after : Place) (window : Window)
    → Loads loading left rest taken more fed unloaded place window → IsNext OBJECT_BYTES line unloaded unfed
    → Passes (Err why) line place after
    → StopsBy loading why left rest taken more fed unfed after window
pass_stops loading (Line lines why) line left rest taken more fed unloaded unfed place after window so_far next passes =
    subst (λ (p : Place). StopsBy loading (Line lines why) left rest taken more fed unfed p window) (sym passes.2)
    (subst (λ (u : Unfit). StopsBy loading (Line lines u) left rest taken more fed unfed place window) (sym passes.1)
    (unloaded, so_far, passes.0, (line, next)))
pass_stops loading (Fault why) line left rest taken more fed unloaded unfed place after window so_far next passes =
    absurd passes
pass_stops loading (Cut cut) line left rest taken more fed unloaded unfed place after window so_far next passes =
    absurd passes
pass_stops loading Many line left rest taken more fed unloaded unfed place after window so_far next passes =
    absurd passes
pass_stops loading (Input why) line left rest taken more fed unloaded unfed place after window so_far next passes =
    absurd passes

pub passes_line : (loading : Loading) (result : Result ⊤ Unloaded) (line : List ℕ)
    (left rest taken more fed unloaded unfed : Option (List ℕ)) (place after : Place) (window now : Window)
    → Loads loading left rest taken more fed unloaded place window → IsNext OBJECT_BYTES line unloaded unfed
    → (1 ≤ place.lines) × (place.lines + 1 < loading.from) → Passes result line place after
    → OnOk result (now ≡ one_taken window) → IfErr result (λ _. now ≡ window)
    → TakesLine loading result left rest taken more fed unfed after now
passes_line loading (Ok tt) line left rest taken more fed unloaded unfed place after window now so_far next early passes
    grown same =
    subst (λ (w : Window). Loads loading left rest taken more fed unfed after w) (sym grown)
    (passed loading line left rest taken more fed unloaded unfed place after window so_far next early.0 early.1 passes)
passes_line loading (Err why) line left rest taken more fed unloaded unfed place after window now so_far next early
    passes grown same =
    subst (λ (w : Window). StopsBy loading why left rest taken more fed unfed after w) (sym same)
    (pass_stops loading why line left rest taken more fed unloaded unfed place after window so_far next passes)

-- Another line may follow the one that was taken, or it was the last.
pub took_next : (loading : Loading) (lines : ℕ) (more_lines : Bool) (fetched : Fetched) (line : List ℕ)
    (left rest taken more fed unloaded unfed : Option (List ℕ)) (place : Place) (window : Window)
    → Loads loading left rest taken more fed unfed place window → is_nothing fetched ≡ false
    → more_lines ≡ is_line fetched → Fetches OBJECT_BYTES lines (Ok fetched) unloaded unfed line → 1 ≤ place.lines
    → TakesNext loading (Ok more_lines) left rest taken more fed unfed place window
took_next loading lines true fetched line left rest taken more fed unloaded unfed place window so_far some is fetches
    long = so_far
took_next loading lines false fetched line left rest taken more fed unloaded unfed place window so_far some is fetches
    long = (unfed, so_far, long, none_after OBJECT_BYTES lines fetched unloaded unfed line some (sym is) fetches)

-- The hello was done.
pub begins : (loading : Loading) (answer : ReplyContent) (given : List ℕ) (left rest taken more fed : Option (List ℕ))
    → Exchanges (request_encoding (request_of (Hello loading.cred)) []) (Hello loading.cred) (Ok answer) left rest taken
    more given
    → Loads loading left rest taken more fed fed outset (record { id = pos 0; done = 0; waiting = 0 })
begins loading answer given left rest taken more fed exchange =
    let hello = call_of (Hello loading.cred) [] answer given in
    record {
      part = record {
        hello = hello;
        calls = [];
        steps = [];
        waiting = [];
        greets = refl;
        bare = refl;
        lines = (Consumes-nil fed, refl);
        counted = refl;
        made = refl;
        named = tt;
        names = λ next later fits. tt;
        done = (exchange.1.1, tt);
        snds = tt;
        reads = subst (Consumes left rest) (sym (read_more [] hello)) exchange.1.0;
        writes = subst (Appends taken more) (sym (append-nil (written_by (hello ∷ [])))) (subst (Appends taken more)
            (sym (written_more [] hello)) exchange.0);
        waits = refl;
        few = omega arith;
      };
      may = tt;
      many = refl;
      idle = λ _. refl;
      early = inl refl;
    }

-- It has a fault.
pub no_hello : (loading : Loading) (why : ClientFault) (given : List ℕ) (left rest taken more fed : Option (List ℕ))
    → Exchanges (request_encoding (request_of (Hello loading.cred)) []) (Hello loading.cred) (Err why) left rest taken
    more given
    → LoadsAll loading (Err (Fault why)) left rest taken more fed fed
no_hello loading why given left rest taken more fed exchange = record {
  steps = [];
  place = outset;
  calls = [];
  waiting = [];
  unread = left;
  written = taken;
  unloaded = fed;
  lines = (Consumes-nil fed, refl);
  hello = inl refl;
  partial = [];
  made = refl;
  counted = refl;
  named = tt;
  answered = tt;
  few = omega arith;
  reads = Consumes-nil left;
  writes = Appends-nil taken;
  ends = (
    refl,
    refl,
    refl,
    refl,
    refl,
    inr (bare_fault (Hello loading.cred) why given left rest taken more exchange),
  );
}

-- Memory is refused, and no request was made.
pub refused : (loading : Loading) (left taken fed : Option (List ℕ)) →
    LoadsAll loading (Err (Fault fault.NoMemory)) left left taken taken fed fed
refused loading left taken fed = record {
  steps = [];
  place = outset;
  calls = [];
  waiting = [];
  unread = left;
  written = taken;
  unloaded = fed;
  lines = (Consumes-nil fed, refl);
  hello = inl refl;
  partial = [];
  made = refl;
  counted = refl;
  named = tt;
  answered = tt;
  few = omega arith;
  reads = Consumes-nil left;
  writes = Appends-nil taken;
  ends = (refl, refl, refl, refl, refl, inl (refl, refl, refl));
}

-- Nothing was read further than the lines.
pub not_ahead : (loading : Loading) (ended : Result ⊤ Unloaded) (ahead : List ℕ)
    (left rest taken more fed unfed : Option (List ℕ)) → ahead ≡ []
    → LoadsAll loading ended left rest taken more fed unfed
    → LoadsAll loading ended left rest taken more fed (prepend_known ahead unfed)
not_ahead loading ended ahead left rest taken more fed unfed none all =
    subst (LoadsAll loading ended left rest taken more fed) (sym (reads_there ahead unfed none)) all

pub refused_ahead : (loading : Loading) (left taken fed : Option (List ℕ)) →
    LoadsAhead loading (Err (Fault fault.NoMemory)) left left taken taken fed fed
refused_ahead loading left taken fed = (
  [],
  not_ahead loading (Err (Fault fault.NoMemory)) [] left left taken taken fed fed refl (refused loading left taken fed),
)

-- A load that a request ended did not fail by its input.
pub fails_so : (result ended : Result ⊤ Unloaded) (failure : Option ErrorKind)
    → (result ≡ ended) ⊎ IfErr result IsCutLoad → FailsLoadBy ended failure → FailsLoadBy result failure
fails_so result ended failure (inl same) fails =
    subst (λ (r : Result ⊤ Unloaded). FailsLoadBy r failure) (sym same) fails
fails_so (Ok done) ended failure (inr cut) fails = tt
fails_so (Err (Cut cut)) ended failure (inr is) fails = tt
fails_so (Err (Line before why)) ended failure (inr is) fails = absurd is
fails_so (Err Many) ended failure (inr is) fails = absurd is
fails_so (Err (Input why)) ended failure (inr is) fails = absurd is
fails_so (Err (Fault why)) ended failure (inr is) fails = absurd is

-- The same request, however it is stated.
pub asked_as : (lines own : ℕ) (ask of : Ask) (r : Result ℤ Unloaded) (left rest taken more : Option (List ℕ))
    → lines ≡ own → ask ≡ of → IsAsked lines ask r left rest taken more → IsAsked own of r left rest taken more
asked_as lines own ask of r left rest taken more same is asked =
    subst (λ (n : ℕ). IsAsked n of r left rest taken more) same
    (subst (λ (a : Ask). IsAsked lines a r left rest taken more) is asked)

pub set_is : (queue : SavedQueue) (ask : Ask) (id : ℤ) → FitsSigned w32 id
    → ask ≡ set_ask queue (to_z w32 (of_z w32 id)) → ask ≡ set_ask queue id
set_is queue ask id fits is = is ∙ ap (λ (n : ℤ). set_ask queue n) (to_z-of_z w32 id fits)

pub check_of_line : (loading : Loading) (lines : ℕ) (queue : SavedQueue) (why : Unloaded)
    → Checks loading lines queue (Err why) → IsOfLine why
check_of_line loading lines queue (Line before why) checks = tt
check_of_line loading lines queue (Cut cut) checks = tt
check_of_line loading lines queue (Fault why) checks = absurd checks
check_of_line loading lines queue Many checks = absurd checks
check_of_line loading lines queue (Input why) checks = absurd checks

-- A window has space for a send.
pub has_room : (loading : Loading) → 0 < window_to_load loading
has_room loading = room loading.nowait
  where
    room : (nowait : Bool) → 0 < (if nowait then 1 else WINDOW)
    room true = omega arith
    room false = omega arith

-- The hello was done, and nothing was read further than the lines.
pub begins_there : (loading : Loading) (answer : ReplyContent) (given ahead : List ℕ) (place : Place)
    (window : Window) (left rest taken more fed : Option (List ℕ)) → place ≡ outset → window ≡ empty → ahead ≡ []
    → Exchanges (request_encoding (request_of (Hello loading.cred)) []) (Hello loading.cred) (Ok answer) left rest taken
    more given
    → Loads loading left rest taken more fed (prepend_known ahead fed) place window
begins_there loading answer given ahead place window left rest taken more fed at_first free none exchange =
    subst (λ (k : Option (List ℕ)). Loads loading left rest taken more fed k place window)
    (sym (reads_there ahead fed none))
    (subst (λ (p : Place). Loads loading left rest taken more fed fed p window) (sym at_first)
    (subst (λ (w : Window). Loads loading left rest taken more fed fed outset w) (sym free)
    (begins loading answer given left rest taken more fed exchange)))

-- A load that no request ended.
pub stops_fit : (loading : Loading) (why : Unloaded) (left rest taken more fed unfed : Option (List ℕ)) (place : Place)
    (window : Window) → (IsCutLoad why → ⊥) → StopsBy loading why left rest taken more fed unfed place window
    → window.done + window.waiting ≡ place.lines
stops_fit loading (Cut cut) left rest taken more fed unfed place window still stops = absurd (still tt)
stops_fit loading (Line lines why) left rest taken more fed unfed place window still stops = stops.1.many
stops_fit loading (Input why) left rest taken more fed unfed place window still stops = stops.1.many
stops_fit loading Many left rest taken more fed unfed place window still stops = absurd stops
stops_fit loading (Fault why) left rest taken more fed unfed place window still stops = absurd stops

pub not_cut : (why : Unloaded) → ((cut : ACut) → why ≡ Cut cut → ⊥) → IsCutLoad why → ⊥
not_cut (Cut cut) other is = other cut refl
not_cut (Line lines why) other is = is
not_cut (Input why) other is = is
not_cut Many other is = is
not_cut (Fault why) other is = is

pub stops_of : (loading : Loading) (why : Unloaded) (left rest taken more fed unfed : Option (List ℕ)) (place : Place)
    (window : Window) → (IsCutLoad why → ⊥) → StopsBy loading why left rest taken more fed unfed place window
    → Stops loading (Err why) left rest taken more fed unfed place window
stops_of loading (Cut cut) left rest taken more fed unfed place window still stops = absurd (still tt)
stops_of loading (Line lines why) left rest taken more fed unfed place window still stops = stops
stops_of loading (Input why) left rest taken more fed unfed place window still stops = stops
stops_of loading Many left rest taken more fed unfed place window still stops = absurd stops
stops_of loading (Fault why) left rest taken more fed unfed place window still stops = absurd stops

-- The same, where the code keeps the identifier in 32 bits.
pub message_as : (loading : Loading) (id : ℤ) (left rest taken more fed unfed : Option (List ℕ)) (place : Place)
    (window : Window) → FitsSigned w32 id
    → Loads loading left rest taken more fed unfed (after_message place id) window
    → Loads loading left rest taken more fed unfed (after_message place (to_z w32 (of_z w32 id))) window
message_as loading id left rest taken more fed unfed place window fits so_far =
    subst (λ (n : ℤ). Loads loading left rest taken more fed unfed (after_message place n) window)
    (sym (to_z-of_z w32 id fits)) so_far
