-- A session of sends in progress, and how it ends.
use Rattle.std.proofs.Common.{◌≡◌, ℕ, ℤ, pos, List, [], ◌∷◌, ◌++◌, Option, None, Some, Ok, Err, inl, inr, refl, sym, ap}
use Rattle.std.proofs.Common.{w32, w64, of_z, to_z, FitsSigned}
use Rattle.std.proofs.lemmas.Int.{to_z-of_z}
use Rattle.std.proofs.Common.{Result, true, false, subst, ◌∙◌, length, suc, ◌+◌, ◌<◌, append_assoc}
use Rattle.std.proofs.Common.{◌≤◌, append-nil, arith}
use Rattle.std.proofs.lemmas.List.{length-append, map-append}
use Rattle.std.proofs.lemmas.List.Concat.{flat_map-append}
use Rattle.std.specs.Prelude.{⊤, ◌⊎◌, IfErr, OnOk, Bool, if◌then◌else◌}
use Rattle.sysv_clients.specs.declared.sending.TheConstants.{WINDOW}
use Rattle.std.specs.declared.io.ErrorKind.{ErrorKind}
use Rattle.std.specs.Io.KnownBytes.{Appends, Consumes, Keeps, append_known, prepend_known}
use Rattle.std.proofs.KnownBytes.{Appends-nil, Appends-trans, Consumes-nil, Consumes-trans}
use Rattle.sysv_clients.specs.declared.fault.ClientFault.{ClientFault}
use Rattle.sysv_clients.specs.declared.fault.ClientFault.TheVariants.{Refused, NoReply, NoMemory}
use Rattle.sysv_clients.specs.declared.sending.Cut.{Cut as ACut}
use Rattle.sysv_clients.specs.declared.sending.Sending.{Sending}
use Rattle.sysv_clients.specs.declared.sending.Unsent.{Unsent}
use Rattle.sysv_clients.specs.declared.sending.Unsent.TheVariants.{Fault, Cut, Long, NoObject, Memory, Many, Input}
use Rattle.sysv_clients.specs.declared.sending.Window.{Window}
use Rattle.sysv_clients.specs.declared.sending.Wording.{Wording}
use Rattle.sysv_clients.specs.declared.input_lines.Fetched.{Fetched}
use Rattle.sysv_clients.specs.declared.input_lines.Fetched.TheVariants.{Line, Last, Nothing}
use Rattle.sysv_clients.specs.Asks.{flags_to_wait, request_of}
use Rattle.sysv_clients.specs.Calls.{BreaksPlan, Call, Each, IsCallDone, Made, id_in, read_by, written_by}
use Rattle.sysv_clients.specs.Lines.{FailsBy, Fetches, HasNone, IsNext, is_line, is_nothing}
use Rattle.sysv_clients.specs.Sending.{SendsAhead, AreDone, AreSends, EndsReplies, EndsSends, HasReply, IsNextSend}
use Rattle.sysv_clients.specs.Sending.{SendsAll, Sent, a_send, find_to_send, frames_of, opening_plan, send_ask, sent_by}
use Rattle.sysv_clients.specs.Sending.{window_of}
use Rattle.sysv_clients.specs.Stated.{States, line_most}
use Rattle.sysv_clients.specs.Dialogue.{Exchanges, HasNoReply, Hears, IsDone, id_after, reply_to}
use Rattle.sysv_clients.specs.Window.{AreSnds, Drains, EndsCut, EndsLines, HearsCut, HearsDone, HearsSends, IsCut}
use Rattle.sysv_clients.specs.Window.{Opens, ReadsMessage, Sends, lost}
use Rattle.sysv_clients.proofs.CallLemmas.{call_of, done_more, none_made}
use Rattle.sysv_clients.proofs.WindowLemmas.{all_answered, between, between_first, between_second, cut_by, each_both}
use Rattle.sysv_clients.proofs.WindowLemmas.{frames_both, frames_of_calls, length_sent, no_replies, read_both}
use Rattle.sysv_clients.proofs.WindowLemmas.{sent_both, snds_after, written_both}
use Rattle.sysv_model.specs.Writing.{AppendsPrefix}
use Rattle.sysv_wire.specs.declared.reply.ReplyContent.{ReplyContent}
use Rattle.sysv_wire.specs.declared.request.Ask.{Ask}
use Rattle.sysv_wire.specs.declared.request.Ask.TheVariants.{Hello}
use Rattle.sysv_wire.specs.Replies.{reply_encoding}
use Rattle.sysv_wire.specs.Requests.{request_encoding}

-- A request that is this one.
as_ask : (ask of : Ask) (text : List ℕ) (r : Result ReplyContent ClientFault) (left rest taken more : Option (List ℕ))
    (given : List ℕ) → ask ≡ of
    → Exchanges (request_encoding (request_of ask) text) ask r left rest taken more given
    → Exchanges (request_encoding (request_of of) text) of r left rest taken more given
as_ask ask of text r left rest taken more given is exchange =
    subst (λ (a : Ask). Exchanges (request_encoding (request_of a) text) a r left rest taken more given) is exchange

-- The hello was done.
greets : (sending : Sending) (welcome : ReplyContent) (given text : List ℕ) (left rest taken more : Option (List ℕ))
    → Exchanges (request_encoding (request_of (Hello sending.cred)) text) (Hello sending.cred) (Ok welcome) left rest
    taken more given
    → Made IsCallDone (opening_plan sending) (call_of (Hello sending.cred) text welcome given ∷ []) left rest taken more
greets sending welcome given text left rest taken more exchange =
    done_more (opening_plan sending) [] (Hello sending.cred) text welcome given left left rest taken taken more
    (none_made IsCallDone (opening_plan sending) left taken) refl exchange

pub opens : (sending : Sending) (welcome got : ReplyContent) (greeted given text : List ℕ)
    (left mid rest taken more most : Option (List ℕ)) (ask : Ask)
    → Exchanges (request_encoding (request_of (Hello sending.cred)) text) (Hello sending.cred) (Ok welcome) left mid
    taken more greeted
    → ask ≡ find_to_send sending
    → Exchanges (request_encoding (request_of ask) text) ask (Ok got) mid rest more most given
    → Opens sending (Ok (record { id = id_after (id_after (pos 0) welcome) got; done = 0; waiting = 0 })) left rest
    taken most
opens sending welcome got greeted given text left mid rest taken more most ask hello is find =
    let one = call_of (Hello sending.cred) text welcome greeted in
    let two = call_of (find_to_send sending) text got given in (
      one ∷ two ∷ [],
      done_more (opening_plan sending) (one ∷ []) (find_to_send sending) text got given left mid rest taken more most
          (greets sending welcome greeted text left mid taken more hello) refl
          (as_ask ask (find_to_send sending) text (Ok got) mid rest more most given is find),
      refl,
      refl,
      refl,
      refl,
    )

-- A fault in what was read or written last.
breaks_by : (sending : Sending) (opened : List Call) (why : ClientFault) (ask : Ask) (text given : List ℕ)
    (left rest taken more : Option (List ℕ)) → opening_plan sending opened ≡ Some ask → text ≡ []
    → Exchanges (request_encoding (request_of ask) text) ask (Err why) left rest taken more given
    → BreaksPlan (opening_plan sending) opened [] why left rest taken more
breaks_by sending opened (Refused error) ask text given left rest taken more next is exchange = (
  ask,
  next,
  subst (λ (l : List ℕ).
      Exchanges (request_encoding (request_of ask) l) ask (Err (Refused error)) left rest taken more []) is exchange,
)
breaks_by sending opened NoReply ask text given left rest taken more next is exchange = (
  ask,
  next,
  subst (λ (l : List ℕ). Exchanges (request_encoding (request_of ask) l) ask (Err NoReply) left rest taken more []) is
      exchange,
)
breaks_by sending opened NoMemory ask text given left rest taken more next is exchange = absurd exchange

-- The hello has a fault.
pub no_hello : (sending : Sending) (why : ClientFault) (given text : List ℕ) (left rest taken more : Option (List ℕ))
    → text ≡ []
    → Exchanges (request_encoding (request_of (Hello sending.cred)) text) (Hello sending.cred) (Err why) left rest
    taken more given
    → Opens sending (Err why) left rest taken more
no_hello sending why given text left rest taken more is exchange = (
  [],
  left,
  taken,
  none_made IsCallDone (opening_plan sending) left taken,
  breaks_by sending [] why (Hello sending.cred) text given left rest taken more refl is exchange,
)

-- The request that finds the queue has a fault.
pub not_found : (sending : Sending) (welcome : ReplyContent) (why : ClientFault) (greeted given text : List ℕ)
    (left mid rest taken more most : Option (List ℕ)) (ask : Ask)
    → text ≡ []
    → Exchanges (request_encoding (request_of (Hello sending.cred)) text) (Hello sending.cred) (Ok welcome) left mid
    taken more greeted
    → ask ≡ find_to_send sending
    → Exchanges (request_encoding (request_of ask) text) ask (Err why) mid rest more most given
    → Opens sending (Err why) left rest taken most
not_found sending welcome why greeted given text left mid rest taken more most ask is hello is_find find = (
  call_of (Hello sending.cred) text welcome greeted ∷ [],
  mid,
  more,
  greets sending welcome greeted text left mid taken more hello,
  breaks_by sending (call_of (Hello sending.cred) text welcome greeted ∷ []) why (find_to_send sending) text given
      mid rest more most refl is
      (as_ask ask (find_to_send sending) text (Err why) mid rest more most given is_find find),
)

-- A request before the first send ends the session.
pub unopened : (sending : Sending) (why : ClientFault) (left rest taken more fed : Option (List ℕ))
    → Opens sending (Err why) left rest taken more
    → SendsAll sending (Err (Fault why)) left rest taken more fed fed
unopened sending (Refused error) left rest taken more fed (opened, unread, written, made, breaks) = record {
  opened = opened;
  sends = [];
  waiting = [];
  unread = unread;
  written = written;
  unsent = fed;
  follows = made.follows;
  answered = tt;
  few = omega arith;
  reads = subst (λ l. Consumes left unread (read_by l)) (sym (append-nil opened)) made.reads;
  writes = subst (λ l. Appends taken written (written_by l)) (sym (append-nil opened)) made.writes;
  lines = Consumes-nil fed;
  ends = (record { no_sends = refl; none = refl; breaks = breaks }, refl);
}
unopened sending NoReply left rest taken more fed (opened, unread, written, made, breaks) = record {
  opened = opened;
  sends = [];
  waiting = [];
  unread = unread;
  written = written;
  unsent = fed;
  follows = made.follows;
  answered = tt;
  few = omega arith;
  reads = subst (λ l. Consumes left unread (read_by l)) (sym (append-nil opened)) made.reads;
  writes = subst (λ l. Appends taken written (written_by l)) (sym (append-nil opened)) made.writes;
  lines = Consumes-nil fed;
  ends = (record { no_sends = refl; none = refl; breaks = breaks }, refl);
}
unopened sending NoMemory left rest taken more fed (opened, unread, written, made, breaks) = absurd breaks.2

-- Memory is refused, and no request was made.
pub refused : (sending : Sending) (left taken fed : Option (List ℕ)) →
    SendsAll sending (Err (Fault NoMemory)) left left taken taken fed fed
refused sending left taken fed = record {
  opened = [];
  sends = [];
  waiting = [];
  unread = left;
  written = taken;
  unsent = fed;
  follows = tt;
  answered = tt;
  few = omega arith;
  reads = Consumes-nil left;
  writes = Appends-nil taken;
  lines = Consumes-nil fed;
  ends = (record { no_calls = refl; no_sends = refl; none = refl; read = refl; wrote = refl }, refl);
}

-- The queue was found, and no line was sent yet.
pub begins : (sending : Sending) (window : Window) (left rest taken more fed : Option (List ℕ))
    → Opens sending (Ok window) left rest taken more
    → Sends sending left rest taken more fed fed window
begins sending window left rest taken more fed (opened, made, found, is, none, free) = record {
  opened = opened;
  sends = [];
  waiting = [];
  follows = made.follows;
  found = found;
  id = is;
  done = tt;
  reads = subst (λ l. Consumes left rest (read_by l)) (sym (append-nil opened)) made.reads;
  writes = subst (Appends taken more) (sym (append-nil (written_by (opened ++ []))))
      (subst (λ l. Appends taken more (written_by l)) (sym (append-nil opened)) made.writes);
  lines = Consumes-nil fed;
  many = none;
  waits = free;
  few = omega (arith, free);
}

-- The next line after nothing more was read.
pub next_after : (most : ℕ) (text : List ℕ) (fed mid rest : Option (List ℕ)) → Consumes fed mid []
    → IsNext most text mid rest → IsNext most text fed rest
next_after most text fed mid rest none (is, inl whole) =
    (is, inl (Consumes-trans fed mid rest [] (text ++ 10 ∷ []) none whole))
next_after most text fed mid rest none (is, inr last) =
    (is, inr (last.0, Consumes-trans fed mid rest [] text none last.1, last.2))

sends_next : (sending : Sending) (found : ℤ) (sents : List Sent) (one : Sent) (fed mid rest : Option (List ℕ))
    → AreSends sending found sents fed mid → IsNextSend sending found one mid rest
    → AreSends sending found (sents ++ one ∷ []) fed rest
sends_next sending found [] one fed mid rest none next = (
  rest,
  record {
    line = next.line;
    mtype = next.mtype;
    next = next_after (line_most sending.wording) next.line fed mid rest none next.next;
    states = next.states;
    is = next.is;
  },
  Consumes-nil rest,
)
sends_next sending found (first ∷ others) one fed mid rest lines next =
    (lines.0, lines.1, sends_next sending found others one lines.0 mid rest lines.2 next)

frames_more : (sents : List Sent) (one : Sent) →
    frames_of (sents ++ one ∷ []) ≡ frames_of sents ++ request_encoding (request_of one.ask) one.text
frames_more sents one =
    flat_map-append (λ (sent : Sent). request_encoding (request_of sent.ask) sent.text) sents (one ∷ [])
    ∙ ap (λ l. frames_of sents ++ l) (append-nil (request_encoding (request_of one.ask) one.text))

-- A request to the queue that was found.
to_found : (sending : Sending) (own found : ℤ) (one : Sent) (left rest : Option (List ℕ)) → own ≡ found
    → IsNextSend sending own one left rest → IsNextSend sending found one left rest
to_found sending own found one left rest same next =
    subst (λ (id : ℤ). IsNextSend sending id one left rest) same next

-- One more send was written.
pub sends_more : (sending : Sending) (one : Sent) (left rest taken more most fed unsent now : Option (List ℕ))
    (window : Window)
    → Sends sending left rest taken more fed unsent window → IsNextSend sending window.id one unsent now
    → window.waiting < window_of sending
    → Appends more most (request_encoding (request_of one.ask) one.text)
    → Sends sending left rest taken most fed now
    (record { id = window.id; done = window.done; waiting = window.waiting + 1 })
sends_more sending one left rest taken more most fed unsent now window so_far next room wrote =
    let found = id_in so_far.opened in
    let calls = so_far.opened ++ so_far.sends in
    record {
      opened = so_far.opened;
      sends = so_far.sends;
      waiting = so_far.waiting ++ one ∷ [];
      follows = so_far.follows;
      found = so_far.found;
      id = so_far.id;
      done = so_far.done;
      reads = so_far.reads;
      writes = subst (Appends taken most)
          (append_assoc (written_by calls) (frames_of so_far.waiting) (request_encoding (request_of one.ask) one.text)
          ∙ ap (λ l. written_by calls ++ l) (sym (frames_more so_far.waiting one)))
          (Appends-trans taken more most _ _ so_far.writes wrote);
      lines = subst (λ l. AreSends sending found l fed now)
          (append_assoc (sent_by so_far.sends) so_far.waiting (one ∷ []))
          (sends_next sending found (sent_by so_far.sends ++ so_far.waiting) one fed unsent now so_far.lines
          (to_found sending window.id found one unsent now so_far.id next));
      many = so_far.many;
      waits = ap (λ (n : ℕ). n + 1) so_far.waits ∙ sym (length-append so_far.waiting (one ∷ []));
      few = omega (arith, room);
    }

-- Requests that the lines want are sends.
are_snds : (sending : Sending) (found : ℤ) (sents : List Sent) (fed rest : Option (List ℕ))
    → AreSends sending found sents fed rest → AreSnds sents
are_snds sending found [] fed rest lines = tt
are_snds sending found (first ∷ more) fed rest lines = (
  (found, lines.1.mtype, flags_to_wait sending.nowait, lines.1.is),
  are_snds sending found more lines.0 rest lines.2,
)

-- Those on their way are.
pub on_way : (sending : Sending) (left rest taken more fed unsent : Option (List ℕ)) (window : Window)
    (so_far : Sends sending left rest taken more fed unsent window) → AreSnds so_far.waiting
on_way sending left rest taken more fed unsent window so_far =
    snds_after (sent_by so_far.sends) so_far.waiting
    (are_snds sending (id_in so_far.opened) (sent_by so_far.sends ++ so_far.waiting) fed unsent so_far.lines)

-- What was written, if some of the sends on their way have their replies.
pub written_so : (opened sends calls : List Call) (waiting others : List Sent) → waiting ≡ sent_by calls ++ others
    → written_by (opened ++ sends) ++ frames_of waiting
    ≡ written_by (opened ++ (sends ++ calls)) ++ frames_of others
written_so opened sends calls waiting others split =
    ap (λ (l : List Sent). written_by (opened ++ sends) ++ frames_of l) split
    ∙ ap (λ l. written_by (opened ++ sends) ++ l)
    (frames_both (sent_by calls) others ∙ ap (λ l. l ++ frames_of others) (frames_of_calls calls))
    ∙ sym (append_assoc (written_by (opened ++ sends)) (written_by calls) (frames_of others))
    ∙ ap (λ l. l ++ frames_of others)
    (sym (written_both (opened ++ sends) calls) ∙ ap written_by (append_assoc opened sends calls))

pub read_with : (opened sends calls : List Call) →
    read_by (opened ++ (sends ++ calls)) ≡ read_by (opened ++ sends) ++ read_by calls
read_with opened sends calls =
    ap read_by (sym (append_assoc opened sends calls)) ∙ read_both (opened ++ sends) calls

-- The same requests, of which more have their replies.
pub sent_with : (sends calls : List Call) (waiting others : List Sent) → waiting ≡ sent_by calls ++ others
    → sent_by sends ++ waiting ≡ sent_by (sends ++ calls) ++ others
sent_with sends calls waiting others split =
    ap (λ (l : List Sent). sent_by sends ++ l) split
    ∙ sym (append_assoc (sent_by sends) (sent_by calls) others)
    ∙ ap (λ (l : List Sent). l ++ others) (sym (sent_both sends calls))

-- Nothing more was written.
pub same_written : (taken more most : Option (List ℕ)) (bytes : List ℕ) → Appends taken more bytes
    → Appends more most [] → Appends taken most bytes
same_written taken more most bytes wrote kept =
    subst (Appends taken most) (append-nil bytes) (Appends-trans taken more most bytes [] wrote kept)

-- More replies were read.
pub hears_sends : (sending : Sending) (left mid rest taken more most fed unsent : Option (List ℕ))
    (before after : Window) (so_far : Sends sending left mid taken more fed unsent before)
    → HearsDone so_far.waiting mid rest before after → Appends more most []
    → Sends sending left rest taken most fed unsent after
hears_sends sending left mid rest taken more most fed unsent before after so_far heard kept =
    let found = id_in so_far.opened in
    let parts = ap (λ (l : List Sent). length l) heard.split
    ∙ length-append (sent_by heard.calls) heard.others in
    record {
      opened = so_far.opened;
      sends = so_far.sends ++ heard.calls;
      waiting = heard.others;
      follows = so_far.follows;
      found = so_far.found;
      id = heard.id ∙ so_far.id;
      done = each_both IsCallDone so_far.sends heard.calls so_far.done heard.done;
      reads = subst (Consumes left rest) (sym (read_with so_far.opened so_far.sends heard.calls))
          (Consumes-trans left mid rest _ _ so_far.reads heard.reads);
      writes = subst (Appends taken most)
          (written_so so_far.opened so_far.sends heard.calls so_far.waiting heard.others heard.split)
          (same_written taken more most _ so_far.writes kept);
      lines = subst (λ l. AreSends sending found l fed unsent)
          (sent_with so_far.sends heard.calls so_far.waiting heard.others heard.split) so_far.lines;
      many = let both = length-append so_far.sends heard.calls in
          omega (arith, both, heard.many, so_far.many);
      waits = heard.waits;
      few = omega (arith, parts, heard.waits, so_far.waits, so_far.few);
    }

-- A send ends the session.
pub cuts_sends : (sending : Sending) (left mid rest taken more most fed unsent : Option (List ℕ)) (before : Window)
    (cut : ACut) (so_far : Sends sending left mid taken more fed unsent before)
    → HearsCut so_far.waiting mid rest before cut → Appends more most []
    → EndsCut sending (Cut cut) left rest taken most fed
cuts_sends sending left mid rest taken more most fed unsent before cut so_far heard kept unfed =
    let found = id_in so_far.opened in
    let sends = so_far.sends ++ heard.calls in
    let calls = so_far.opened ++ sends in
    let parts = ap (λ (l : List Sent). length l) heard.split
    ∙ length-append (sent_by heard.calls) heard.others in
    let wrote : Appends taken most (written_by calls ++ frames_of heard.others) =
    subst (Appends taken most)
    (written_so so_far.opened so_far.sends heard.calls so_far.waiting heard.others heard.split)
    (same_written taken more most _ so_far.writes kept) in
    let later = between_second taken most (written_by calls) (frames_of heard.others) wrote in
    record {
      opened = so_far.opened;
      sends = sends;
      waiting = heard.others;
      unread = heard.unread;
      written = between taken (written_by calls);
      unsent = unsent;
      follows = so_far.follows;
      answered = each_both HasReply so_far.sends heard.calls (all_answered so_far.sends so_far.done) heard.answered;
      few = omega (arith, parts, so_far.waits, so_far.few);
      reads = subst (Consumes left heard.unread) (sym (read_with so_far.opened so_far.sends heard.calls))
          (Consumes-trans left mid heard.unread _ _ so_far.reads heard.reads);
      writes = between_first taken (written_by calls);
      lines = subst (λ l. AreSends sending found l fed unsent)
          (sent_with so_far.sends heard.calls so_far.waiting heard.others heard.split) so_far.lines;
      ends = record {
        found = so_far.found;
        by = cut_by cut.fault cut so_far.sends heard.calls cut.before heard.own so_far.done
            (omega (arith, heard.counted, so_far.many)) heard.by;
        unknown = heard.unknown;
        ends = no_replies heard.others heard.unread rest (between taken (written_by calls)) most heard.ends later;
      };
    }

-- The replies to the sends on their way were read, as the window says.
pub drains : (sending : Sending) (result : Result ⊤ Unsent) (keep : ℕ)
    (left mid rest taken more most fed unsent : Option (List ℕ)) (before after : Window)
    (so_far : Sends sending left mid taken more fed unsent before)
    → HearsSends result so_far.waiting mid rest before after → Appends more most []
    → OnOk result (after.waiting ≤ keep)
    → Drains sending result keep left rest taken most fed unsent before after
drains sending (Ok tt) keep left mid rest taken more most fed unsent before after so_far heard kept few =
    let parts = ap (λ (l : List Sent). length l) heard.split
    ∙ length-append (sent_by heard.calls) heard.others in
    let same = length_sent heard.calls in (
      hears_sends sending left mid rest taken more most fed unsent before after so_far heard kept,
      few,
      omega (arith, parts, same, heard.many, heard.waits, so_far.waits),
    )
drains sending (Err (Cut cut)) keep left mid rest taken more most fed unsent before after so_far heard kept few =
    cuts_sends sending left mid rest taken more most fed unsent before cut so_far heard kept
drains sending (Err (Fault why)) keep left mid rest taken more most fed unsent before after so_far heard kept few =
    absurd heard
drains sending (Err (Long lines)) keep left mid rest taken more most fed unsent before after so_far heard kept few =
    absurd heard
drains sending (Err (NoObject lines)) keep left mid rest taken more most fed unsent before after so_far heard kept few =
    absurd heard
drains sending (Err (Memory lines)) keep left mid rest taken more most fed unsent before after so_far heard kept few =
    absurd heard
drains sending (Err Many) keep left mid rest taken more most fed unsent before after so_far heard kept few =
    absurd heard
drains sending (Err (Input why)) keep left mid rest taken more most fed unsent before after so_far heard kept few =
    absurd heard

-- The writer failed in a send.
pub loses_write : (sending : Sending) (one : Sent) (left rest taken more most fed unsent now : Option (List ℕ))
    (window : Window)
    → Sends sending left rest taken more fed unsent window → IsNextSend sending window.id one unsent now
    → window.waiting < window_of sending
    → AppendsPrefix more most (request_encoding (request_of one.ask) one.text)
    → EndsCut sending
    (Cut (lost (record { id = window.id; done = window.done; waiting = window.waiting + 1 })))
    left rest taken most fed
loses_write sending one left rest taken more most fed unsent now window so_far next room wrote unfed =
    let found = id_in so_far.opened in
    let calls = so_far.opened ++ so_far.sends in
    let whole = frames_of so_far.waiting in
    record {
      opened = so_far.opened;
      sends = so_far.sends;
      waiting = so_far.waiting ++ one ∷ [];
      unread = rest;
      written = between taken (written_by calls);
      unsent = now;
      follows = so_far.follows;
      answered = all_answered so_far.sends so_far.done;
      few = omega (arith, room, so_far.waits, length-append so_far.waiting (one ∷ []));
      reads = so_far.reads;
      writes = between_first taken (written_by calls);
      lines = subst (λ l. AreSends sending found l fed now)
          (append_assoc (sent_by so_far.sends) so_far.waiting (one ∷ []))
          (sends_next sending found (sent_by so_far.sends ++ so_far.waiting) one fed unsent now so_far.lines
          (to_found sending window.id found one unsent now so_far.id next));
      ends = record {
        found = so_far.found;
        by = (so_far.done, so_far.many, refl, omega arith);
        unknown = ap (λ (n : ℕ). n + 1) so_far.waits ∙ sym (length-append so_far.waiting (one ∷ []));
        ends = inr (inl (
          (
            whole ++ wrote.0,
            (
              wrote.1.0,
              frames_more so_far.waiting one ∙ ap (λ l. whole ++ l) wrote.1.1
                  ∙ sym (append_assoc whole wrote.0 wrote.1.0),
            ),
            Appends-trans (between taken (written_by calls)) more most whole wrote.0
                (between_second taken more (written_by calls) whole so_far.writes) wrote.2,
          ),
          refl,
        ));
      };
    }

-- No send is on its way, and the session ends.
settled : (sending : Sending) (ended : Result ⊤ Unsent) (left rest taken more fed unsent unfed : Option (List ℕ))
    (window : Window) (so_far : Sends sending left rest taken more fed unsent window) → window.waiting ≡ 0
    → EndsSends sending ended so_far.opened so_far.sends [] rest rest more more unsent unfed
    → SendsAll sending ended left rest taken more fed unfed
settled sending ended left rest taken more fed unsent unfed window so_far none ends =
    let calls = so_far.opened ++ so_far.sends in
    let found = id_in so_far.opened in
    let nothing = empty so_far.waiting (sym so_far.waits ∙ none) in
    record {
      opened = so_far.opened;
      sends = so_far.sends;
      waiting = [];
      unread = rest;
      written = more;
      unsent = unsent;
      follows = so_far.follows;
      answered = all_answered so_far.sends so_far.done;
      few = omega arith;
      reads = so_far.reads;
      writes = subst (Appends taken more) (append-nil (written_by calls))
          (subst (λ (l : List Sent). Appends taken more (written_by calls ++ frames_of l)) nothing so_far.writes);
      lines = subst (λ (l : List Sent). AreSends sending found (sent_by so_far.sends ++ l) fed unsent) nothing
          so_far.lines;
      ends = ends;
    }
  where
    empty : (sents : List Sent) → length sents ≡ 0 → sents ≡ []
    empty [] is = refl
    empty (one ∷ others) is = absurd (omega (arith, is))

-- Each send was done.
are_done : (sending : Sending) (left rest taken more fed unsent : Option (List ℕ)) (window : Window)
    (so_far : Sends sending left rest taken more fed unsent window)
    → AreDone sending so_far.opened so_far.sends [] rest rest more more
are_done sending left rest taken more fed unsent window so_far = record {
  found = so_far.found;
  done = so_far.done;
  none = refl;
  read = refl;
  wrote = refl;
}

-- The lines of the input end, and every send has its reply.
pub finishes : (sending : Sending) (ended : Result ⊤ Unsent) (lines : ℕ)
    (left rest taken more fed unsent unfed : Option (List ℕ)) (window : Window)
    → Sends sending left rest taken more fed unsent window → window.waiting ≡ 0 → window.done ≡ lines
    → EndsLines sending.wording ended lines unsent unfed
    → SendsAll sending ended left rest taken more fed unfed
finishes sending (Ok done) lines left rest taken more fed unsent unfed window so_far none all ends =
    settled sending (Ok done) left rest taken more fed unsent unfed window so_far none
    (are_done sending left rest taken more fed unsent window so_far, ends)
finishes sending (Err (Long before)) lines left rest taken more fed unsent unfed window so_far none all ends =
    settled sending (Err (Long before)) left rest taken more fed unsent unfed window so_far none
    (are_done sending left rest taken more fed unsent window so_far, ends.0 ∙ sym all ∙ so_far.many, ends.1, ends.2)
finishes sending (Err (NoObject before)) lines left rest taken more fed unsent unfed window so_far none all ends =
    settled sending (Err (NoObject before)) left rest taken more fed unsent unfed window so_far none (
      are_done sending left rest taken more fed unsent window so_far,
      ends.0 ∙ sym all ∙ so_far.many,
      ends.1,
      ends.2,
      ends.3,
    )
finishes sending (Err (Memory before)) lines left rest taken more fed unsent unfed window so_far none all ends =
    settled sending (Err (Memory before)) left rest taken more fed unsent unfed window so_far none
    (are_done sending left rest taken more fed unsent window so_far, ends.0 ∙ sym all ∙ so_far.many, ends.1, ends.2)
finishes sending (Err Many) lines left rest taken more fed unsent unfed window so_far none all ends =
    settled sending (Err Many) left rest taken more fed unsent unfed window so_far none
    (are_done sending left rest taken more fed unsent window so_far, ends.0, sym so_far.many ∙ all ∙ ends.1)
finishes sending (Err (Input why)) lines left rest taken more fed unsent unfed window so_far none all ends =
    settled sending (Err (Input why)) left rest taken more fed unsent unfed window so_far none
    (are_done sending left rest taken more fed unsent window so_far)
finishes sending (Err (Fault why)) lines left rest taken more fed unsent unfed window so_far none all ends =
    absurd ends
finishes sending (Err (Cut cut)) lines left rest taken more fed unsent unfed window so_far none all ends =
    absurd ends

prepends_nothing : (known : Option (List ℕ)) → prepend_known [] known ≡ known
prepends_nothing None = refl
prepends_nothing (Some bytes) = refl

-- Nothing was read further than the lines.
pub not_ahead : (sending : Sending) (ended : Result ⊤ Unsent) (ahead : List ℕ)
    (left rest taken more fed unfed : Option (List ℕ)) → ahead ≡ []
    → SendsAll sending ended left rest taken more fed unfed
    → SendsAll sending ended left rest taken more fed (prepend_known ahead unfed)
not_ahead sending ended ahead left rest taken more fed unfed none all =
    subst (λ (l : List ℕ). SendsAll sending ended left rest taken more fed (prepend_known l unfed)) (sym none)
    (subst (SendsAll sending ended left rest taken more fed) (sym (prepends_nothing unfed)) all)

-- Nothing was read further than the lines, and none was sent yet.
pub begins_there : (sending : Sending) (ahead : List ℕ) (left rest taken more fed : Option (List ℕ)) (window : Window)
    → ahead ≡ [] → Sends sending left rest taken more fed fed window
    → Sends sending left rest taken more fed (prepend_known ahead fed) window
begins_there sending ahead left rest taken more fed window none so_far =
    subst (λ (l : List ℕ). Sends sending left rest taken more fed (prepend_known l fed) window) (sym none)
    (subst (λ (known : Option (List ℕ)). Sends sending left rest taken more fed known window)
    (sym (prepends_nothing fed)) so_far)

-- The same bytes were read ahead.
pub same_ahead : (sending : Sending) (ahead same : List ℕ) (left rest taken more fed unread : Option (List ℕ))
    (window : Window) → ahead ≡ same → Sends sending left rest taken more fed (prepend_known same unread) window
    → Sends sending left rest taken more fed (prepend_known ahead unread) window
same_ahead sending ahead same left rest taken more fed unread window is so_far =
    subst (λ (l : List ℕ). Sends sending left rest taken more fed (prepend_known l unread) window) (sym is) so_far

pub reads_there : (ahead : List ℕ) (known : Option (List ℕ)) → ahead ≡ [] → prepend_known ahead known ≡ known
reads_there ahead known none = ap (λ (l : List ℕ). prepend_known l known) none ∙ prepends_nothing known

-- What was read is the next line.
pub is_next : (most lines : ℕ) (fetched : Fetched) (left rest : Option (List ℕ)) (text : List ℕ)
    → is_nothing fetched ≡ false
    → Fetches most lines (Ok fetched) left rest text → IsNext most text left rest
is_next most lines Line left rest text is h = (h.0, inl h.1)
is_next most lines Last left rest text is h = (h.0, inr (h.1, h.2, h.3))
is_next most lines Nothing left rest text is h = cc

-- The message that the next line states is sent.
pub next_send : (sending : Sending) (found mtype : ℤ) (ask : Ask) (line text : List ℕ) (left rest : Option (List ℕ))
    → IsNext (line_most sending.wording) line left rest → States sending.wording line mtype text
    → FitsSigned w32 found → FitsSigned w64 mtype
    → ask ≡ send_ask sending (to_z w32 (of_z w32 found)) (to_z w64 (of_z w64 mtype))
    → IsNextSend sending found (record { ask = ask; text = text }) left rest
next_send sending found mtype ask line text left rest next states id_fits type_fits is = record {
  line = line;
  mtype = mtype;
  next = next;
  states = states;
  is = is ∙ ap (λ (id : ℤ). send_ask sending id (to_z w64 (of_z w64 mtype))) (to_z-of_z w32 found id_fits)
      ∙ ap (λ (t : ℤ). send_ask sending found t) (to_z-of_z w64 mtype type_fits);
}

-- Nothing was read.
pub none_left : (most lines : ℕ) (fetched : Fetched) (left rest : Option (List ℕ)) (text : List ℕ)
    → is_nothing fetched ≡ true
    → Fetches most lines (Ok fetched) left rest text → HasNone left rest
none_left most lines Nothing left rest text is h = h.1
none_left most lines Line left rest text is h = cc
none_left most lines Last left rest text is h = cc

-- The last line was read.
pub none_after : (most lines : ℕ) (fetched : Fetched) (left rest : Option (List ℕ)) (text : List ℕ)
    → is_nothing fetched ≡ false
    → is_line fetched ≡ false → Fetches most lines (Ok fetched) left rest text → HasNone rest rest
none_after most lines Last left rest text some is h = (Consumes-nil rest, h.3)
none_after most lines Line left rest text some is h = cc
none_after most lines Nothing left rest text some is h = cc

-- No line was read: the next one is too long, or the input could not be read.
pub ends_unread : (wording : Wording) (why : Unsent) (lines read : ℕ) (left rest : Option (List ℕ)) (text : List ℕ)
    → read ≡ lines
    → Fetches (line_most wording) read (Err why) left rest text → EndsLines wording (Err why) lines left rest
ends_unread wording (Long before) lines read left rest text same h = (h.0 ∙ same, text, h.1)
ends_unread wording (Input why) lines read left rest text same h = tt
ends_unread wording (NoObject before) lines read left rest text same h = absurd h
ends_unread wording (Memory before) lines read left rest text same h = absurd h
ends_unread wording Many lines read left rest text same h = absurd h
ends_unread wording (Fault why) lines read left rest text same h = absurd h
ends_unread wording (Cut cut) lines read left rest text same h = absurd h

-- The next line states no message, or memory for it was refused.
pub ends_unstated : (wording : Wording) (why : Unsent) (lines read : ℕ) (line text : List ℕ)
    (left rest : Option (List ℕ)) → read ≡ lines → IsNext (line_most wording) line left rest
    → ReadsMessage wording read (Err why) line text → EndsLines wording (Err why) lines left rest
ends_unstated wording (NoObject before) lines read line text left rest same next h =
    (h.0 ∙ same, line, next, h.1)
ends_unstated wording (Memory before) lines read line text left rest same next h = (h ∙ same, line, next)
ends_unstated wording (Long before) lines read line text left rest same next h = absurd h
ends_unstated wording (Input why) lines read line text left rest same next h = absurd h
ends_unstated wording Many lines read line text left rest same next h = absurd h
ends_unstated wording (Fault why) lines read line text left rest same next h = absurd h
ends_unstated wording (Cut cut) lines read line text left rest same next h = absurd h

-- An input whose next line states no message was read.
pub fails_unstated : (wording : Wording) (why : Unsent) (lines : ℕ) (line text : List ℕ) (failure : Option ErrorKind)
    → ReadsMessage wording lines (Err why) line text → FailsBy {T = ⊤} (Err why) failure
fails_unstated wording (NoObject before) lines line text failure h = tt
fails_unstated wording (Memory before) lines line text failure h = tt
fails_unstated wording (Long before) lines line text failure h = tt
fails_unstated wording (Input why) lines line text failure h = absurd h
fails_unstated wording Many lines line text failure h = tt
fails_unstated wording (Fault why) lines line text failure h = tt
fails_unstated wording (Cut cut) lines line text failure h = tt

-- A session that a send ended did not fail by its input.
pub fails_so : (result ended : Result ⊤ Unsent) (failure : Option ErrorKind)
    → (result ≡ ended) ⊎ IfErr result IsCut → FailsBy ended failure → FailsBy result failure
fails_so result ended failure (inl same) fails =
    subst (λ (r : Result ⊤ Unsent). FailsBy r failure) (sym same) fails
fails_so (Ok done) ended failure (inr cut) fails = tt
fails_so (Err (Cut cut)) ended failure (inr is) fails = tt
fails_so (Err (Long before)) ended failure (inr is) fails = absurd is
fails_so (Err (NoObject before)) ended failure (inr is) fails = absurd is
fails_so (Err (Memory before)) ended failure (inr is) fails = absurd is
fails_so (Err Many) ended failure (inr is) fails = absurd is
fails_so (Err (Input why)) ended failure (inr is) fails = absurd is
fails_so (Err (Fault why)) ended failure (inr is) fails = absurd is

-- A window has space for a send.
pub has_space : (waiting : ℕ) (sending : Sending) → waiting ≡ 0 → waiting < window_of sending
has_space waiting sending none = space sending.nowait
  where
    space : (nowait : Bool) → waiting < (if nowait then 1 else WINDOW)
    space true = omega (arith, none)
    space false = omega (arith, none)

-- Memory is refused, and nothing was read.
pub refused_ahead : (sending : Sending) (left taken fed : Option (List ℕ)) →
    SendsAhead sending (Err (Fault NoMemory)) left left taken taken fed fed
refused_ahead sending left taken fed = (
  [],
  not_ahead sending (Err (Fault NoMemory)) [] left left taken taken fed fed refl (refused sending left taken fed),
)
