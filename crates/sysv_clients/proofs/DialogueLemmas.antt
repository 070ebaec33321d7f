-- A dialogue in progress, and how it ends.
use Rattle.std.proofs.Common.{◌≡◌, ℕ, ℤ, pos, ◌+◌, ◌*◌, List, [], ◌∷◌, ◌++◌, length, Option, None, Some, Ok, Err, cond}
use Rattle.std.proofs.Common.{ltb, refl, sym, ap, subst, ◌∙◌, ◌⊎◌, inl, inr, ◌<◌, ◌≤◌, true, arith, append_assoc}
use Rattle.std.proofs.Common.{append-nil, length-append}
use Rattle.std.proofs.lemmas.Bool.Decides.{nat_tests}
use Rattle.std.proofs.lemmas.List.Concat.{flat_map-append}
use Rattle.std.proofs.lemmas.List.Sums.{fold-append}
use Rattle.std.specs.Prelude.{⊤, slice_get}
use Rattle.std.specs.Io.KnownBytes.{Appends, Consumes}
use Rattle.std.proofs.KnownBytes.{Appends-nil, Appends-trans, Consumes-nil, Consumes-trans}
use Rattle.sysv_clients.specs.declared.command.Command.{Command}
use Rattle.sysv_clients.specs.declared.command.Task.{Task}
use Rattle.sysv_clients.specs.declared.command.Format.TheVariants.{Table as AsTable, Json}
use Rattle.sysv_clients.specs.declared.command.Task.TheVariants.{List as Table, Show, Remove, Make, Send, Receive}
use Rattle.sysv_clients.specs.declared.fault.ClientFault.{ClientFault}
use Rattle.sysv_clients.specs.declared.fault.ClientFault.TheVariants.{Refused, NoReply, NoMemory}
use Rattle.sysv_clients.specs.Asks.{asks_of, is_receive, request_of, text_of}
use Rattle.sysv_clients.specs.Blame.{Blames, ExchangedBy, Streams, RunsBlaming}
use Rattle.sysv_clients.specs.Faults.{fault_line}
use Rattle.sysv_clients.specs.Page.{answer_most, answer_text, answers_text, page_text, task_head}
use Rattle.sysv_clients.specs.Style.{grows, style_of}
use Rattle.sysv_clients.specs.Run.{Runs, Shows, ConversesThrough}
use Rattle.sysv_clients.specs.Table.{table_head}
use Rattle.sysv_clients.specs.Dialogue.{EndsDialogue, Exchange, Exchanges, Follows, IsDone, Conversed}
use Rattle.sysv_clients.specs.Dialogue.{answered_encoding}
use Rattle.sysv_clients.specs.Dialogue.{AreNext, StandAt, ask_encoding, asked_encoding, asks_encoding, found_in}
use Rattle.sysv_clients.specs.Dialogue.{id_after}
use Rattle.sysv_clients.specs.Dialogue.{next_ask, on_way_most, reply_to, slots_after, slots_in}
use Rattle.sysv_wire.specs.declared.frame.Version.TheVariants.{Two}
use Rattle.sysv_wire.specs.declared.reply.ReplyContent.{ReplyContent}
use Rattle.sysv_wire.specs.declared.reply.ReplyContent.TheVariants as content
use Rattle.sysv_wire.specs.declared.request.Ask.{Ask}
use Rattle.sysv_wire.specs.declared.request.Ask.TheVariants as asks
use Rattle.sysv_wire.specs.Frames.{op_number}
use Rattle.sysv_wire.specs.Replies.{IsAnswer, gives_text, reply_encoding}
use Rattle.sysv_wire.specs.Requests.{op_of, request_encoding}

-- The maximum number of bytes that are collected of this number of exchanges. A message is in the
-- third exchange at the earliest.
abbrev pub page_most : ℕ → ℕ
page_most place = 55 + 256 * place + cond (ltb 2 place) 49200 0

-- This number of exchanges was made, and this page was collected of them.
pub record Conversing (command : Command) (left rest taken more : Option (List ℕ)) (page : List ℕ) (place slots : ℕ)
    (id : ℤ) : Type 0 where
  pub exchanges : List Exchange
  pub conversed : Conversed command exchanges
  pub reads : Consumes left rest (answered_encoding exchanges)
  pub writes : Appends taken more (asked_encoding command exchanges)
  pub collects : page ≡ page_text command.task exchanges
  pub counts : place ≡ length exchanges
  pub tells : slots ≡ slots_in exchanges
  pub finds : id ≡ found_in exchanges

pub begins : (command : Command) (left taken : Option (List ℕ)) (page : List ℕ) → page ≡ task_head command.task →
    Conversing command left left taken taken page 0 0 (pos 0)
begins command left taken page head = record {
  exchanges = [];
  conversed = tt;
  reads = Consumes-nil left;
  writes = Appends-nil taken;
  collects = head ∙ sym (append-nil (task_head command.task));
  counts = refl;
  tells = refl;
  finds = refl;
}

answered_more : (exchanges : List Exchange) (one : Exchange) →
    answered_encoding (exchanges ++ one ∷ [])
    ≡ answered_encoding exchanges ++ reply_encoding (reply_to one.ask one.answer) one.given
answered_more exchanges one =
    flat_map-append (λ (e : Exchange). reply_encoding (reply_to e.ask e.answer) e.given) exchanges (one ∷ [])
    ∙ ap (λ l. answered_encoding exchanges ++ l) (append-nil (reply_encoding (reply_to one.ask one.answer) one.given))

asked_more : (command : Command) (exchanges : List Exchange) (one : Exchange) →
    asked_encoding command (exchanges ++ one ∷ []) ≡ asked_encoding command exchanges ++ ask_encoding command one.ask
asked_more command exchanges one =
    flat_map-append (λ (e : Exchange). ask_encoding command e.ask) exchanges (one ∷ [])
    ∙ ap (λ l. asked_encoding command exchanges ++ l) (append-nil (ask_encoding command one.ask))

page_more : (command : Command) (exchanges : List Exchange) (one : Exchange) →
    page_text command.task (exchanges ++ one ∷ [])
    ≡ page_text command.task exchanges ++ answer_text (style_of command.task) one.answer one.given
page_more command exchanges one =
    ap (λ l. task_head command.task ++ l)
    (flat_map-append (λ (e : Exchange). answer_text (style_of command.task) e.answer e.given) exchanges (one ∷ [])
    ∙ ap (λ l. answers_text (style_of command.task) exchanges ++ l)
    (append-nil (answer_text (style_of command.task) one.answer one.given)))
    ∙ sym (append_assoc (task_head command.task) (answers_text (style_of command.task) exchanges)
    (answer_text (style_of command.task) one.answer one.given))

found_more : (exchanges : List Exchange) (one : Exchange) →
    found_in (exchanges ++ one ∷ []) ≡ id_after (found_in exchanges) one.answer
found_more exchanges one =
    fold-append (λ (found : ℤ) (e : Exchange). id_after found e.answer) (pos 0) exchanges (one ∷ [])

slots_more : (exchanges : List Exchange) (one : Exchange) →
    slots_in (exchanges ++ one ∷ []) ≡ slots_after (slots_in exchanges) one.answer
slots_more exchanges one = fold-append (λ (slots : ℕ) (e : Exchange). slots_after slots e.answer) 0 exchanges (one ∷ [])

length_more : (exchanges : List Exchange) (one : Exchange) → length (exchanges ++ one ∷ []) ≡ length exchanges + 1
length_more exchanges one = length-append exchanges (one ∷ [])

-- One more exchange at the end.
follows_more : (command : Command) (before exchanges : List Exchange) (one : Exchange)
    → Follows command before exchanges → next_ask command (before ++ exchanges) ≡ Some one.ask
    → IsDone one.ask one.answer one.given → Follows command before (exchanges ++ one ∷ [])
follows_more command before [] one follows next done =
    (ap (next_ask command) (sym (append-nil before)) ∙ next, done, tt)
follows_more command before (first ∷ others) one follows next done = (
  follows.0,
  follows.1,
  follows_more command (before ++ first ∷ []) others one follows.2
      (ap (next_ask command) (append_assoc before (first ∷ []) others) ∙ next) done,
)

-- The request at this place is what the command requests next.
is_next : (command : Command) (left rest taken more : Option (List ℕ)) (page : List ℕ) (place slots : ℕ) (id : ℤ)
    (found : Option Ask)
    → (so_far : Conversing command left rest taken more page place slots id)
    → found ≡ slice_get (asks_of command slots id) place → next_ask command so_far.exchanges ≡ found
is_next command left rest taken more page place slots id found so_far asked =
    sym (asked ∙ ap (λ (i : ℤ). slice_get (asks_of command slots i) place) so_far.finds
    ∙ ap (λ (s : ℕ). slice_get (asks_of command s (found_in so_far.exchanges)) place) so_far.tells
    ∙ ap (λ (n : ℕ). slice_get (asks_of command (slots_in so_far.exchanges) (found_in so_far.exchanges)) n)
    so_far.counts)

-- One more exchange.
pub goes_on : (command : Command) (ask : Ask) (answer : ReplyContent) (given : List ℕ)
    (left mid rest taken more most : Option (List ℕ)) (page text : List ℕ) (place slots : ℕ) (id : ℤ)
    → Conversing command left mid taken more page place slots id → Some ask ≡ slice_get (asks_of command slots id) place
    → text ≡ text_of command.task
    → Exchanges (request_encoding (request_of ask) text) ask (Ok answer) mid rest more most given
    → Conversing command left rest taken most (page ++ answer_text (style_of command.task) answer given) (place + 1)
    (slots_after slots answer)
    (id_after id answer)
goes_on command ask answer given left mid rest taken more most page text place slots id so_far asked sent exchange =
    let one : Exchange = record { ask = ask; answer = answer; given = given } in
    let before = so_far.exchanges in
    let frame : Appends more most (ask_encoding command ask) =
    subst (λ (l : List ℕ). Appends more most (request_encoding (request_of ask) l)) sent exchange.0 in
    record {
      exchanges = before ++ one ∷ [];
      conversed = follows_more command [] before one so_far.conversed
          (is_next command left mid taken more page place slots id (Some ask) so_far asked) exchange.1.1;
      reads = subst (Consumes left rest) (sym (answered_more before one))
          (Consumes-trans left mid rest _ _ so_far.reads exchange.1.0);
      writes = subst (Appends taken most) (sym (asked_more command before one))
          (Appends-trans taken more most _ _ so_far.writes frame);
      collects = ap (λ l. l ++ answer_text (style_of command.task) answer given) so_far.collects
          ∙ sym (page_more command before one);
      counts = ap (λ n. n + 1) so_far.counts ∙ sym (length_more before one);
      tells = ap (λ (s : ℕ). slots_after s answer) so_far.tells ∙ sym (slots_more before one);
      finds = ap (λ (i : ℤ). id_after i answer) so_far.finds ∙ sym (found_more before one);
    }

-- All requests were made.
pub finishes : (command : Command) (left rest taken more : Option (List ℕ)) (page : List ℕ) (place slots : ℕ) (id : ℤ)
    (done : ⊤)
    → Conversing command left rest taken more page place slots id → None ≡ slice_get (asks_of command slots id) place
    → ConversesThrough command (Ok done) page left rest taken more
finishes command left rest taken more page place slots id done so_far asked = (
  so_far.exchanges,
  record {
    conversed = so_far.conversed;
    unread = rest;
    written = more;
    reads = so_far.reads;
    writes = so_far.writes;
    ends = (is_next command left rest taken more page place slots id None so_far asked, refl, refl);
  },
  so_far.collects,
)

-- The requests at this place are what the command requests next.
pub are_next : (command : Command) (left rest taken more : Option (List ℕ)) (page : List ℕ) (place slots : ℕ) (id : ℤ)
    (asks : List Ask)
    → (so_far : Conversing command left rest taken more page place slots id)
    → StandAt (asks_of command slots id) place asks → AreNext command so_far.exchanges asks
are_next command left rest taken more page place slots id asks so_far stand =
    subst (λ (n : ℕ). StandAt (asks_of command (slots_in so_far.exchanges) (found_in so_far.exchanges)) n asks)
    so_far.counts
    (subst (λ (s : ℕ). StandAt (asks_of command s (found_in so_far.exchanges)) place asks) so_far.tells
    (subst (λ (i : ℤ). StandAt (asks_of command slots i) place asks) so_far.finds stand))

-- Any command may have one request on its way.
pub one_on_way : (task : Task) → 1 ≤ on_way_most task
one_on_way (Table format) = omega arith
one_on_way (Show id) = omega arith
one_on_way (Remove target) = omega arith
one_on_way (Make making) = omega arith
one_on_way (Send key text mtype nowait) = omega arith
one_on_way (Receive receipt) = omega arith

-- A fault in what was read or written last.
ends_by : (command : Command) (exchanges : List Exchange) (why : ClientFault) (ask : Ask) (ahead : List Ask)
    (text given : List ℕ) (left rest taken more : Option (List ℕ))
    → AreNext command exchanges (ask ∷ ahead) → length (ask ∷ ahead) ≤ on_way_most command.task
    → text ≡ text_of command.task
    → Exchanges (asks_encoding (ask ∷ ahead) text) ask (Err why) left rest taken more given
    → EndsDialogue command exchanges (Err why) left rest taken more
ends_by command exchanges (Refused error) ask ahead text given left rest taken more next few sent exchange = (
  ask,
  ahead,
  next,
  few,
  subst (λ (l : List ℕ).
      Exchanges (asks_encoding (ask ∷ ahead) l) ask (Err (Refused error)) left rest taken more []) sent exchange,
)
ends_by command exchanges NoReply ask ahead text given left rest taken more next few sent exchange = (
  ask,
  ahead,
  next,
  few,
  subst (λ (l : List ℕ). Exchanges (asks_encoding (ask ∷ ahead) l) ask (Err NoReply) left rest taken more []) sent
      exchange,
)
ends_by command exchanges NoMemory ask ahead text given left rest taken more next few sent exchange = absurd exchange

-- The next request ends the dialogue, and these requests after it were written with it.
pub breaks_ahead : (command : Command) (why : ClientFault) (ask : Ask) (ahead : List Ask) (given : List ℕ)
    (left mid rest taken more most : Option (List ℕ)) (page last text : List ℕ) (place slots : ℕ) (id : ℤ)
    → Conversing command left mid taken more page place slots id
    → StandAt (asks_of command slots id) place (ask ∷ ahead) → length (ask ∷ ahead) ≤ on_way_most command.task
    → text ≡ text_of command.task
    → Exchanges (asks_encoding (ask ∷ ahead) text) ask (Err why) mid rest more most given
    → ConversesThrough command (Err why) last left rest taken most
breaks_ahead command why ask ahead given left mid rest taken more most page last text place slots id so_far stand few
    sent exchange = (
      so_far.exchanges,
      record {
        conversed = so_far.conversed;
        unread = mid;
        written = more;
        reads = so_far.reads;
        writes = so_far.writes;
        ends = ends_by command so_far.exchanges why ask ahead text given mid rest more most
            (are_next command left mid taken more page place slots id (ask ∷ ahead) so_far stand) few sent exchange;
      },
      tt,
    )

pub breaks_off : (command : Command) (why : ClientFault) (ask : Ask) (given : List ℕ)
    (left mid rest taken more most : Option (List ℕ)) (page last text : List ℕ) (place slots : ℕ) (id : ℤ)
    → Conversing command left mid taken more page place slots id → Some ask ≡ slice_get (asks_of command slots id) place
    → text ≡ text_of command.task
    → Exchanges (request_encoding (request_of ask) text) ask (Err why) mid rest more most given
    → ConversesThrough command (Err why) last left rest taken most
breaks_off command why ask given left mid rest taken more most page last text place slots id so_far asked sent
    exchange =
    breaks_ahead command why ask [] given left mid rest taken more most page last text place slots id so_far
    (sym asked, tt) (one_on_way command.task) sent
    (subst (λ (frame : List ℕ). Exchanges frame ask (Err why) mid rest more most given)
    (sym (append-nil (request_encoding (request_of ask) text))) exchange)

-- Memory for the line of a row is refused, and these requests after it were written with it.
pub no_line_ahead : (command : Command) (ask : Ask) (answer : ReplyContent) (given : List ℕ) (ahead : List Ask)
    (left mid rest taken more most all : Option (List ℕ)) (page last text : List ℕ) (place slots : ℕ) (id : ℤ)
    → Conversing command left mid taken more page place slots id → Some ask ≡ slice_get (asks_of command slots id) place
    → text ≡ text_of command.task
    → Exchanges (request_encoding (request_of ask) text) ask (Ok answer) mid rest more most given
    → grows (style_of command.task) answer ≡ true
    → StandAt (asks_of command (slots_after slots answer) (id_after id answer)) (place + 1) ahead
    → length ahead < on_way_most command.task → Appends most all (asks_encoding ahead (text_of command.task))
    → ConversesThrough command (Err NoMemory) last left rest taken all
unfolding goes_on
no_line_ahead command ask answer given ahead left mid rest taken more most all page last text place slots id so_far
    asked sent exchange row stand few wrote =
    let one : Exchange = record { ask = ask; answer = answer; given = given } in
    let before = so_far.exchanges in
    let after = goes_on command ask answer given left mid rest taken more most page text place slots id so_far asked
    sent exchange in
    let next = are_next command left rest taken most _ (place + 1) (slots_after slots answer) (id_after id answer) ahead
    after stand in (
      before ++ one ∷ [],
      record {
        conversed = after.conversed;
        unread = rest;
        written = most;
        reads = after.reads;
        writes = after.writes;
        ends = (refl, inr ((before, one, refl, row), ahead, next, few, wrote));
      },
      tt,
    )

-- Memory for the line of a row is refused.
pub no_line : (command : Command) (ask : Ask) (answer : ReplyContent) (given : List ℕ)
    (left mid rest taken more most : Option (List ℕ)) (page last text : List ℕ) (place slots : ℕ) (id : ℤ)
    → Conversing command left mid taken more page place slots id → Some ask ≡ slice_get (asks_of command slots id) place
    → text ≡ text_of command.task
    → Exchanges (request_encoding (request_of ask) text) ask (Ok answer) mid rest more most given
    → grows (style_of command.task) answer ≡ true
    → ConversesThrough command (Err NoMemory) last left rest taken most
no_line command ask answer given left mid rest taken more most page last text place slots id so_far asked sent exchange
    row =
    no_line_ahead command ask answer given [] left mid rest taken more most most page last text place slots id so_far
    asked sent exchange row tt (one_on_way command.task) (Appends-nil most)

-- Memory is refused, and no request was made.
pub refused : (command : Command) (status : ℤ) (left taken shown after : Option (List ℕ))
    → Shows status (pos 1) (fault_line NoMemory) shown after
    → Runs command status left left taken taken shown after
refused command status left taken shown after shows = record {
  exchanges = [];
  ended = Err NoMemory;
  converses = record {
    conversed = tt;
    unread = left;
    written = taken;
    reads = Consumes-nil left;
    writes = Appends-nil taken;
    ends = (refl, inl (refl, refl));
  };
  shows = shows;
}

-- Only a receive has a reply with a message.
answers_receive : (ask : Ask) (mtype : ℤ) → IsAnswer Two (op_number (op_of ask)) (content.Rcv mtype) →
    is_receive ask ≡ true
answers_receive (asks.Rcv id size wanted flags) mtype fits = refl
answers_receive (asks.Hello cred) mtype fits = absurd (omega (arith, fits))
answers_receive (asks.Get key flags) mtype fits = absurd (omega (arith, fits))
answers_receive (asks.Snd id sent flags) mtype fits = absurd (omega (arith, fits))
answers_receive (asks.Stat id) mtype fits = absurd (omega (arith, fits))
answers_receive (asks.Set id to) mtype fits = absurd (omega (arith, fits))
answers_receive (asks.Rm id) mtype fits = absurd (omega (arith, fits))
answers_receive (asks.Row slot) mtype fits = absurd (omega (arith, fits))
answers_receive (asks.Hold id size wanted flags seconds) mtype fits = absurd (omega (arith, fits))
answers_receive asks.Done mtype fits = absurd (omega (arith, fits))
answers_receive asks.Back mtype fits = absurd (omega (arith, fits))

-- The maximum number of bytes that a result adds, by the number of exchanges before it.
most_at : (place : ℕ) (ask : Ask) (answer : ReplyContent) → IsAnswer Two (op_number (op_of ask)) answer
    → (is_receive ask ≡ true → place ≡ 2)
    → (answer_most answer ≤ 256) ⊎ ((answer_most answer ≡ 49200) × (place ≡ 2))
most_at place ask (content.Rcv mtype) fits third = inr (refl, third (answers_receive ask mtype fits))
most_at place ask (content.Row row) fits third = inl (omega arith)
most_at place ask (content.Refused error) fits third = inl (omega arith)
most_at place ask content.Hello fits third = inl (omega arith)
most_at place ask (content.HelloSlots slots) fits third = inl (omega arith)
most_at place ask (content.Get id) fits third = inl (omega arith)
most_at place ask content.Snd fits third = inl (omega arith)
most_at place ask (content.Stat stat) fits third = inl (omega arith)
most_at place ask content.Set fits third = inl (omega arith)
most_at place ask content.Rm fits third = inl (omega arith)
most_at place ask content.Done fits third = inl (omega arith)
most_at place ask content.Back fits third = inl (omega arith)
most_at place ask (content.Hold mtype) fits third = inl (omega arith)

page_most_more : (place : ℕ) → page_most place + 256 ≤ page_most (place + 1)
page_most_more place = grind (arith, nat_tests)

-- A message is in the third exchange.
third_one : (place : ℕ) (ask : Ask) (answer : ReplyContent) → IsAnswer Two (op_number (op_of ask)) answer →
    op_number (op_of ask) ≤ 7 → (is_receive ask ≡ true → place ≡ 2) → gives_text answer ≡ true → place ≡ 2
third_one place ask (content.Rcv mtype) fits spoken third gives = third (answers_receive ask mtype fits)
third_one place ask (content.Row row) fits spoken third gives = absurd cc
third_one place ask (content.Refused error) fits spoken third gives = absurd cc
third_one place ask content.Hello fits spoken third gives = absurd cc
third_one place ask (content.HelloSlots slots) fits spoken third gives = absurd cc
third_one place ask (content.Get id) fits spoken third gives = absurd cc
third_one place ask content.Snd fits spoken third gives = absurd cc
third_one place ask (content.Stat stat) fits spoken third gives = absurd cc
third_one place ask content.Set fits spoken third gives = absurd cc
third_one place ask content.Rm fits spoken third gives = absurd cc
third_one place ask content.Done fits spoken third gives = absurd cc
third_one place ask content.Back fits spoken third gives = absurd cc
third_one place ask (content.Hold mtype) fits spoken third gives = absurd (omega (arith, fits, spoken))

-- There is space for a message.
pub has_room : (place : ℕ) (ask : Ask) (answer : ReplyContent) (given : List ℕ) (held : ℕ) → IsDone ask answer given
    → (is_receive ask ≡ true → place ≡ 2) → held ≤ page_most place → gives_text answer ≡ true
    → held + 6 * 8192 + 48 ≤ 49767
has_room place ask answer given held done third room gives =
    let at : held ≤ page_most 2 =
    subst (λ (n : ℕ). held ≤ page_most n) (third_one place ask answer done.fits.0 done.fits.3 third gives) room in
    omega (arith, at)

-- What is collected stays within its bound.
pub stays_within : (place : ℕ) (ask : Ask) (answer : ReplyContent) (given : List ℕ) (held more : ℕ)
    → IsDone ask answer given → (is_receive ask ≡ true → place ≡ 2) → held ≤ page_most place
    → more ≤ held + answer_most answer → more ≤ page_most (place + 1)
stays_within place ask answer given held more done third room grown =
    elim (most_at place ask answer done.fits.0 third) [
      | inl small ↦ omega (arith, page_most_more place)
      | inr big ↦
          let at : held ≤ page_most 2 = subst (λ (n : ℕ). held ≤ page_most n) big.1 room in
          let fits : more ≤ page_most 3 = omega (arith, at, big.0) in
          subst (λ (n : ℕ). more ≤ page_most (n + 1)) (sym big.1) fits
    ]

-- The head before the lines is short.
pub short_head : (task : Task) (page : List ℕ) → page ≡ task_head task → length page ≤ 55
unfolding table_head
short_head (Table AsTable) page same = omega (arith, ap length same)
short_head (Table Json) page same = omega (arith, ap length same)
short_head (Show id) page same = omega (arith, ap length same)
short_head (Remove target) page same = omega (arith, ap length same)
short_head (Make making) page same = omega (arith, ap length same)
short_head (Send key text mtype nowait) page same = omega (arith, ap length same)
short_head (Receive receipt) page same = omega (arith, ap length same)

-- A dialogue that a fault ends, by the counts of failures.
blames : (command : Command) (why : ClientFault) (ask : Ask) (had has wrote writes : ℕ)
    (left mid rest taken more : Option (List ℕ)) (page : List ℕ) (place slots : ℕ) (id : ℤ)
    → Conversing command left mid taken more page place slots id → Some ask ≡ slice_get (asks_of command slots id) place
    → ExchangedBy ask (Err why) had has wrote writes mid rest
    → Blames command (Err why) had has wrote writes left rest
blames command (Refused error) ask had has wrote writes left mid rest taken more page place slots id so_far asked
    found = found
blames command NoMemory ask had has wrote writes left mid rest taken more page place slots id so_far asked found =
    absurd found
blames command NoReply ask had has wrote writes left mid rest taken more page place slots id so_far asked found = (
  so_far.exchanges,
  ask,
  mid,
  so_far.conversed,
  so_far.reads,
  is_next command left mid taken more page place slots id (Some ask) so_far asked,
  found,
)

pub blamed : (command : Command) (why : ClientFault) (ask : Ask) (had held has wrote written writes : ℕ)
    (left mid rest taken more : Option (List ℕ)) (page : List ℕ) (place slots : ℕ) (id : ℤ)
    → Conversing command left mid taken more page place slots id → Some ask ≡ slice_get (asks_of command slots id) place
    → held ≡ had → written ≡ wrote
    → ExchangedBy ask (Err why) held has written writes mid rest
    → Blames command (Err why) had has wrote writes left rest
blamed command why ask had held has wrote written writes left mid rest taken more page place slots id so_far asked reads
    writ found =
    blames command why ask had has wrote writes left mid rest taken more page place slots id so_far asked
    (subst (λ (n : ℕ). ExchangedBy ask (Err why) n has wrote writes mid rest) reads
    (subst (λ (n : ℕ). ExchangedBy ask (Err why) held has n writes mid rest) writ found))

pub runs_of : (command : Command) (status : ℤ) (before after : Streams) → RunsBlaming command status before after
    → Runs command status before.left after.left before.taken after.taken before.shown after.shown
runs_of command status before after runs =
    record { exchanges = runs.exchanges; ended = runs.ended; converses = runs.converses; shows = runs.shows }

pub refused_so : (command : Command) (status : ℤ) (before : Streams) (shown : Option (List ℕ))
    → Shows status (pos 1) (fault_line NoMemory) before.shown shown
    → RunsBlaming command status before (record before { shown = shown })
unfolding refused
refused_so command status before shown shows = record {
  exchanges = [];
  ended = Err NoMemory;
  converses = (refused command status before.left before.taken before.shown shown shows).converses;
  shows = shows;
  blames = (refl, refl);
}
