-- An ipcs that requests several rows together.
use Rattle.std.proofs.Common.{◌≡◌, ℕ, zero, suc, ℤ, pos, ◌+◌, ◌-◌, List, [], ◌∷◌, ◌++◌, length, Option, None, Some, Ok}
use Rattle.std.proofs.Common.{Err}
use Rattle.std.proofs.Common.{refl, sym, ap, subst, ◌∙◌, inl, inr, ◌<◌, ◌≤◌, min, true, arith, append_assoc, append-nil}
use Rattle.std.proofs.lemmas.List.FromFn.{length-map-range_with_len, get_or-map-range_with_len}
use Rattle.std.proofs.lemmas.Option.{slice_get_past, slice_get_read}
use Rattle.std.specs.Prelude.{⊤, slice_get}
use Rattle.std.specs.Io.KnownBytes.{Appends}
use Rattle.std.proofs.KnownBytes.{Appends-nil, Appends-trans}
use Rattle.sysv_clients.specs.declared.command.Command.{Command}
use Rattle.sysv_clients.specs.declared.command.Task.{Task}
use Rattle.sysv_clients.specs.declared.command.Task.TheVariants.{List as Table, Show, Remove, Make, Send, Receive}
use Rattle.sysv_clients.specs.declared.fault.ClientFault.{ClientFault}
use Rattle.sysv_clients.specs.declared.fault.ClientFault.TheVariants.{Refused, NoReply, NoMemory}
use Rattle.sysv_clients.specs.declared.style.Style.{Style}
use Rattle.sysv_clients.specs.Asks.{asks_of, is_receive, request_of, row_asks, task_asks, text_of}
use Rattle.sysv_clients.specs.Blame.{Blames, ExchangedBy, HeardBy}
use Rattle.sysv_clients.specs.Page.{answer_text}
use Rattle.sysv_clients.specs.Rows.{rows_from, rows_encoding}
use Rattle.sysv_clients.specs.Run.{ConversesThrough}
use Rattle.sysv_clients.specs.Style.{grows, style_of}
use Rattle.sysv_clients.specs.Dialogue.{Exchanges, Hears, StandAt, asked_encoding, asks_encoding, id_after, on_way_most}
use Rattle.sysv_clients.specs.Dialogue.{slots_after}
use Rattle.sysv_model.specs.Writing.{AppendsPrefix}
use Rattle.sysv_wire.specs.declared.frame.Version.TheVariants.{Two}
use Rattle.sysv_wire.specs.declared.reply.ReplyContent.{ReplyContent}
use Rattle.sysv_wire.specs.declared.reply.ReplyContent.TheVariants as content
use Rattle.sysv_wire.specs.declared.request.Ask.{Ask}
use Rattle.sysv_wire.specs.declared.request.Ask.TheVariants.{Hello, Row}
use Rattle.sysv_wire.specs.Frames.{op_number}
use Rattle.sysv_wire.specs.Replies.{IsAnswer}
use Rattle.sysv_wire.specs.Requests.{op_of, request_encoding}
use Rattle.sysv_clients.proofs.WindowLemmas.{between, between_first, between_second}
use Rattle.sysv_clients.proofs.DialogueLemmas.{Conversing, blamed, breaks_ahead, finishes, goes_on, no_line_ahead}

-- The request for the row of a slot is in its place.
pub row_at : (rows slots slot : ℕ) → rows ≡ min slots 32768 → slot < rows →
    slice_get (row_asks slots) slot ≡ Some (Row slot)
unfolding row_asks
row_at rows slots slot same within =
    slice_get_read (row_asks slots) rows slot (Row slot)
    (same ∙ sym (length-map-range_with_len (λ (s : ℕ). Row s) 0 (min slots 32768))) within
    (sym (get_or-map-range_with_len (λ (s : ℕ). Row s) 0 (min slots 32768) slot slot (Row slot)
    (subst (λ (n : ℕ). slot < n) same within) (omega arith)))

-- No request for a row is behind the last.
pub row_past : (rows slots slot : ℕ) → rows ≡ min slots 32768 → rows ≤ slot →
    slice_get (row_asks slots) slot ≡ None
unfolding row_asks
row_past rows slots slot same behind =
    let past : length (row_asks slots) ≤ slot =
    omega (arith, length-map-range_with_len (λ (s : ℕ). Row s) 0 (min slots 32768), same, behind) in
    slice_get_past (row_asks slots) slot past

-- A task that requests several rows together is an ipcs.
lists : (command : Command) (slots : ℕ) (id : ℤ) (task : Task) → on_way_most task ≡ 256 →
    task_asks command.cred task slots id ≡ row_asks slots
lists command slots id (Table format) list = refl
lists command slots id (Show queue) list = absurd (omega (arith, list))
lists command slots id (Remove target) list = absurd (omega (arith, list))
lists command slots id (Make making) list = absurd (omega (arith, list))
lists command slots id (Send key text mtype nowait) list = absurd (omega (arith, list))
lists command slots id (Receive receipt) list = absurd (omega (arith, list))

-- The requests after the hello are those for the rows.
after_hello : (command : Command) (slots : ℕ) (id : ℤ) (slot : ℕ) → on_way_most command.task ≡ 256 →
    slice_get (asks_of command slots id) (slot + 1) ≡ slice_get (row_asks slots) slot
after_hello command slots id slot list =
    let next : slot + 1 ≡ suc slot = omega arith in
    ap (λ (n : ℕ). slice_get (asks_of command slots id) n) next
    ∙ ap (λ (l : List Ask). slice_get l slot) (lists command slots id command.task list)

rows_stand : (command : Command) (slots : ℕ) (id : ℤ) (count slot : ℕ) → on_way_most command.task ≡ 256
    → slot + count ≤ min slots 32768 → StandAt (asks_of command slots id) (slot + 1) (rows_from count slot)
rows_stand command slots id zero slot list within = tt
rows_stand command slots id (suc count) slot list within = (
  after_hello command slots id slot list
      ∙ row_at (min slots 32768) slots slot refl (omega (arith, within)),
  rows_stand command slots id count (slot + 1) list (omega (arith, within)),
)

rows_many : (count slot : ℕ) → length (rows_from count slot) ≡ count
rows_many zero slot = refl
rows_many (suc count) slot = ap suc (rows_many count (slot + 1))

-- The first of some rows, and the others.
pub rows_split : (slot to : ℕ) → slot < to →
    rows_from (to - slot) slot ≡ Row slot ∷ rows_from (to - (slot + 1)) (slot + 1)
rows_split slot to within =
    let more : to - slot ≡ suc (to - (slot + 1)) = omega (arith, within) in
    ap (λ (n : ℕ). rows_from n slot) more

pub encoding_split : (slot to : ℕ) (text : List ℕ) → slot < to →
    rows_encoding slot to text
    ≡ request_encoding (request_of (Row slot)) text ++ rows_encoding (slot + 1) to text
encoding_split slot to text within = ap (λ (l : List Ask). asks_encoding l text) (rows_split slot to within)

pub encoding_none : (slot to : ℕ) (text : List ℕ) → to ≤ slot → rows_encoding slot to text ≡ []
encoding_none slot to text past =
    let none : to - slot ≡ 0 = omega (arith, past) in
    ap (λ (n : ℕ). asks_encoding (rows_from n slot) text) none

-- The requests up to a slot were written, and those from there on are to be written.
pub record Writing (from slot to : ℕ) (text : List ℕ) (taken more : Option (List ℕ)) : Type 0 where
  pub done : List ℕ
  pub wrote : Appends taken more done
  pub whole : rows_encoding from to text ≡ done ++ rows_encoding slot to text

pub starts_writing : (from to : ℕ) (text : List ℕ) (taken : Option (List ℕ)) → Writing from from to text taken taken
starts_writing from to text taken = record { done = []; wrote = Appends-nil taken; whole = refl }

pub writes_more : (from slot to : ℕ) (text : List ℕ) (taken more most : Option (List ℕ)) → slot < to
    → Writing from slot to text taken more → Appends more most (request_encoding (request_of (Row slot)) text)
    → Writing from (slot + 1) to text taken most
writes_more from slot to text taken more most within so_far wrote =
    let frame = request_encoding (request_of (Row slot)) text in
    record {
      done = so_far.done ++ frame;
      wrote = Appends-trans taken more most _ _ so_far.wrote wrote;
      whole = so_far.whole ∙ ap (λ (l : List ℕ). so_far.done ++ l) (encoding_split slot to text within)
          ∙ sym (append_assoc so_far.done frame (rows_encoding (slot + 1) to text));
    }

pub wrote_all : (from slot to : ℕ) (text : List ℕ) (taken more most : Option (List ℕ)) → to ≤ slot
    → Writing from slot to text taken more → Appends more most [] → Appends taken most (rows_encoding from to text)
wrote_all from slot to text taken more most past so_far kept =
    let whole : rows_encoding from to text ≡ so_far.done ++ [] =
    so_far.whole ∙ ap (λ (l : List ℕ). so_far.done ++ l) (encoding_none slot to text past) in
    subst (Appends taken most) (sym whole) (Appends-trans taken more most so_far.done [] so_far.wrote kept)

pub wrote_part : (from slot to : ℕ) (text : List ℕ) (taken more most : Option (List ℕ)) → slot < to
    → Writing from slot to text taken more
    → AppendsPrefix more most (request_encoding (request_of (Row slot)) text)
    → AppendsPrefix taken most (rows_encoding from to text)
wrote_part from slot to text taken more most within so_far (part, (rest, split), wrote) =
    let frame = request_encoding (request_of (Row slot)) text in
    let others = rows_encoding (slot + 1) to text in (
      so_far.done ++ part,
      (
        rest ++ others,
        so_far.whole ∙ ap (λ (l : List ℕ). so_far.done ++ l)
            (encoding_split slot to text within ∙ ap (λ (l : List ℕ). l ++ others) split
            ∙ append_assoc part rest others)
            ∙ sym (append_assoc so_far.done part (rest ++ others)),
      ),
      Appends-trans taken more most _ _ so_far.wrote wrote,
    )

-- The requests on their way are continued.
pub goes_ahead : (slot sent now : ℕ) (text : List ℕ) (before taken more : Option (List ℕ)) → sent ≤ slot
    → Appends taken more (rows_encoding slot now text) → Appends before taken (rows_encoding slot sent text)
    → Appends before more (rows_encoding slot now text)
goes_ahead slot sent now text before taken more none wrote front =
    Appends-trans before taken more [] (rows_encoding slot now text)
    (subst (Appends before taken) (encoding_none slot sent text none) front) wrote

-- The rows of the slots before this one were read and collected, and the requests for those to
-- before another slot are on their way.
pub record Listing (command : Command) (left rest taken more : Option (List ℕ)) (page : List ℕ)
    (slot sent slots : ℕ) : Type 0 where
  pub written : Option (List ℕ)
  pub id : ℤ
  pub conversing : Conversing command left rest taken written page (slot + 1) slots id
  pub ahead : Appends written more (rows_encoding slot sent (text_of command.task))

-- A hello has a reply that shows nothing.
welcome_text : (cred : _) (style : Style) (answer : ReplyContent) (given : List ℕ) →
    IsAnswer Two (op_number (op_of (Hello cred))) answer → answer_text style answer given ≡ []
welcome_text cred style content.Hello given fits = refl
welcome_text cred style (content.HelloSlots slots) given fits = refl
welcome_text cred style (content.Refused error) given fits = refl
welcome_text cred style (content.Get id) given fits = absurd (omega (arith, fits))
welcome_text cred style content.Snd given fits = refl
welcome_text cred style (content.Rcv mtype) given fits = absurd (omega (arith, fits))
welcome_text cred style (content.Stat stat) given fits = absurd (omega (arith, fits))
welcome_text cred style content.Set given fits = refl
welcome_text cred style content.Rm given fits = refl
welcome_text cred style content.Done given fits = refl
welcome_text cred style content.Back given fits = refl
welcome_text cred style (content.Hold mtype) given fits = refl
welcome_text cred style (content.Row None) given fits = refl
welcome_text cred style (content.Row (Some row)) given fits = absurd (omega (arith, fits.0))

-- The hello was done, and no row is requested yet.
pub lists_from : (command : Command) (answer : ReplyContent) (given : List ℕ)
    (left rest taken more : Option (List ℕ)) (page text : List ℕ)
    → Conversing command left left taken taken page 0 0 (pos 0) → text ≡ text_of command.task
    → Exchanges (request_encoding (request_of (Hello command.cred)) text) (Hello command.cred) (Ok answer) left rest
    taken more given
    → Listing command left rest taken more page 0 0 (slots_after 0 answer)
lists_from command answer given left rest taken more page text begun sent exchange =
    let shown : page ++ answer_text (style_of command.task) answer given ≡ page =
    ap (λ (l : List ℕ). page ++ l)
    (welcome_text command.cred (style_of command.task) answer given exchange.1.1.fits.0) ∙ append-nil page in
    record {
      written = more;
      id = id_after (pos 0) answer;
      conversing = subst (λ (l : List ℕ).
          Conversing command left rest taken more l 1 (slots_after 0 answer) (id_after (pos 0) answer)) shown
          (goes_on command (Hello command.cred) answer given left left rest taken taken more page text 0 0 (pos 0) begun
          refl sent exchange);
      ahead = Appends-nil more;
    }

-- The reply to the request for a row changes neither the number of slots nor the identifier.
row_answer : (slot slots : ℕ) (id : ℤ) (answer : ReplyContent) → IsAnswer Two (op_number (op_of (Row slot))) answer →
    (slots_after slots answer ≡ slots) × (id_after id answer ≡ id)
row_answer slot slots id (content.Row row) fits = (refl, refl)
row_answer slot slots id (content.Refused error) fits = (refl, refl)
row_answer slot slots id content.Hello fits = (refl, refl)
row_answer slot slots id (content.HelloSlots told) fits = absurd (omega (arith, fits))
row_answer slot slots id (content.Get found) fits = absurd (omega (arith, fits))
row_answer slot slots id content.Snd fits = (refl, refl)
row_answer slot slots id (content.Rcv mtype) fits = (refl, refl)
row_answer slot slots id (content.Stat stat) fits = (refl, refl)
row_answer slot slots id content.Set fits = (refl, refl)
row_answer slot slots id content.Rm fits = (refl, refl)
row_answer slot slots id content.Done fits = (refl, refl)
row_answer slot slots id content.Back fits = (refl, refl)
row_answer slot slots id (content.Hold mtype) fits = (refl, refl)

-- The request for a row is no msgrcv.
pub no_receive : (slot place : ℕ) → is_receive (Row slot) ≡ true → place ≡ 2
no_receive slot place is = absurd cc

-- The next request, as the command makes it.
row_next : (command : Command) (slots : ℕ) (id : ℤ) (slot : ℕ) → on_way_most command.task ≡ 256
    → slot < min slots 32768 → Some (Row slot) ≡ slice_get (asks_of command slots id) (slot + 1)
row_next command slots id slot list within =
    sym (after_hello command slots id slot list ∙ row_at (min slots 32768) slots slot refl within)

-- More rows were requested.
pub asks_more : (command : Command) (left rest taken more most : Option (List ℕ)) (page text : List ℕ)
    (slot sent now slots : ℕ) → text ≡ text_of command.task
    → ((before : Option (List ℕ)) → Appends before more (rows_encoding slot sent text)
    → Appends before most (rows_encoding slot now text))
    → Listing command left rest taken more page slot sent slots
    → Listing command left rest taken most page slot now slots
asks_more command left rest taken more most page text slot sent now slots same wrote so_far = record {
  written = so_far.written;
  id = so_far.id;
  conversing = so_far.conversing;
  ahead = subst (λ (l : List ℕ). Appends so_far.written most (rows_encoding slot now l)) same
      (wrote so_far.written
      (subst (λ (l : List ℕ). Appends so_far.written more (rows_encoding slot sent l)) (sym same) so_far.ahead));
}

-- What was written of the next request, and of those behind it.
next_ahead : (command : Command) (left rest taken more : Option (List ℕ)) (page : List ℕ) (slot sent slots : ℕ)
    (so_far : Listing command left rest taken more page slot sent slots) → slot < sent
    → Appends so_far.written more (request_encoding (request_of (Row slot)) (text_of command.task)
    ++ rows_encoding (slot + 1) sent (text_of command.task))
next_ahead command left rest taken more page slot sent slots so_far within =
    subst (Appends so_far.written more) (encoding_split slot sent (text_of command.task) within) so_far.ahead

-- One more row was read.
pub hears_row : (command : Command) (answer : ReplyContent) (given : List ℕ)
    (left mid rest taken more : Option (List ℕ)) (page : List ℕ) (slot sent slots : ℕ)
    → on_way_most command.task ≡ 256 → slot < sent → sent ≤ min slots 32768
    → Listing command left mid taken more page slot sent slots → Hears (Row slot) (Ok answer) mid rest given
    → Listing command left rest taken more (page ++ answer_text (style_of command.task) answer given) (slot + 1) sent
    slots
hears_row command answer given left mid rest taken more page slot sent slots list within few so_far heard =
    let text = text_of command.task in
    let frame = request_encoding (request_of (Row slot)) text in
    let both = next_ahead command left mid taken more page slot sent slots so_far within in
    let shown = page ++ answer_text (style_of command.task) answer given in
    let next = goes_on command (Row slot) answer given left mid rest taken so_far.written
    (between so_far.written frame) page text (slot + 1) slots so_far.id so_far.conversing
    (row_next command slots so_far.id slot list (omega (arith, within, few))) refl
    (between_first so_far.written frame, heard) in
    let same = row_answer slot slots so_far.id answer heard.1.fits.0 in
    record {
      written = between so_far.written frame;
      id = so_far.id;
      conversing = subst (λ (s : ℕ).
          Conversing command left rest taken (between so_far.written frame) shown (slot + 1 + 1) s so_far.id) same.0
          (subst (λ (i : ℤ). Conversing command left rest taken (between so_far.written frame) shown (slot + 1 + 1)
          (slots_after slots answer) i) same.1 next);
      ahead = between_second so_far.written more frame (rows_encoding (slot + 1) sent text) both;
    }

hears_none : (frame : List ℕ) (ask : Ask) (why : ClientFault) (left rest taken more : Option (List ℕ))
    (given : List ℕ) → Appends taken more frame → Hears ask (Err why) left rest given
    → Exchanges frame ask (Err why) left rest taken more given
hears_none frame ask (Refused error) left rest taken more given wrote heard = (wrote, heard)
hears_none frame ask NoReply left rest taken more given wrote heard = inr (wrote, heard)
hears_none frame ask NoMemory left rest taken more given wrote heard = absurd heard

-- A fault ends the dialogue at a row, with the requests for the rows to before a slot written at least in
-- part.
ends_at_row : (command : Command) (why : ClientFault) (given : List ℕ) (left mid rest taken more most : Option (List ℕ))
    (page last : List ℕ) (slot to slots : ℕ) (id : ℤ)
    → on_way_most command.task ≡ 256 → slot < to → to ≤ min slots 32768 → to ≤ slot + 256
    → Conversing command left mid taken more page (slot + 1) slots id
    → Exchanges (rows_encoding slot to (text_of command.task)) (Row slot) (Err why) mid rest more most given
    → ConversesThrough command (Err why) last left rest taken most
ends_at_row command why given left mid rest taken more most page last slot to slots id list within bound few conversing
    exchange =
    let ahead = rows_from (to - (slot + 1)) (slot + 1) in
    let split = rows_split slot to within in
    breaks_ahead command why (Row slot) ahead given left mid rest taken more most page last (text_of command.task)
    (slot + 1) slots id conversing
    (subst (StandAt (asks_of command slots id) (slot + 1)) split
    (rows_stand command slots id (to - slot) slot list (omega (arith, within, bound))))
    (omega (arith, rows_many (to - (slot + 1)) (slot + 1), list, few, within)) refl
    (subst (λ (l : List Ask). Exchanges (asks_encoding l (text_of command.task)) (Row slot) (Err why) mid rest more most
    given) split exchange)

-- There is no row in what was read.
pub loses_row : (command : Command) (why : ClientFault) (given : List ℕ) (left mid rest taken more : Option (List ℕ))
    (page last : List ℕ) (slot sent slots : ℕ)
    → on_way_most command.task ≡ 256 → slot < sent → sent ≤ min slots 32768 → sent ≤ slot + 256
    → Listing command left mid taken more page slot sent slots → Hears (Row slot) (Err why) mid rest given
    → ConversesThrough command (Err why) last left rest taken more
loses_row command why given left mid rest taken more page last slot sent slots list within bound few so_far heard =
    ends_at_row command why given left mid rest taken so_far.written more page last slot sent slots so_far.id list
    within bound few so_far.conversing
    (hears_none (rows_encoding slot sent (text_of command.task)) (Row slot) why mid rest so_far.written more given
    so_far.ahead heard)

-- The writer failed.
pub cannot_ask : (command : Command) (left mid taken more most : Option (List ℕ)) (page last text : List ℕ)
    (slot sent now slots : ℕ) → on_way_most command.task ≡ 256 → slot < now → now ≤ min slots 32768
    → now ≤ slot + 256 → sent ≡ slot → text ≡ text_of command.task
    → Listing command left mid taken more page slot sent slots
    → AppendsPrefix more most (rows_encoding slot now text)
    → ConversesThrough command (Err NoReply) last left mid taken most
cannot_ask command left mid taken more most page last text slot sent now slots list within bound few none same so_far
    (part, split, wrote) =
    let front : Appends so_far.written more [] =
    subst (Appends so_far.written more)
    (encoding_none slot sent (text_of command.task) (omega (arith, none))) so_far.ahead in
    ends_at_row command NoReply [] left mid mid taken so_far.written most page last slot now slots so_far.id list
    within bound few so_far.conversing
    (subst (λ (l : List ℕ).
    Exchanges (rows_encoding slot now l) (Row slot) (Err NoReply) mid mid so_far.written most []) same
    (inl ((part, split, Appends-trans so_far.written more most [] part front wrote), refl)))

-- Memory for the line of a row is refused.
pub lacks_row : (command : Command) (answer : ReplyContent) (given : List ℕ)
    (left mid rest taken more : Option (List ℕ)) (page last : List ℕ) (slot sent slots : ℕ)
    → on_way_most command.task ≡ 256 → slot < sent → sent ≤ min slots 32768 → sent ≤ slot + 256
    → Listing command left mid taken more page slot sent slots → Hears (Row slot) (Ok answer) mid rest given
    → grows (style_of command.task) answer ≡ true
    → ConversesThrough command (Err NoMemory) last left rest taken more
lacks_row command answer given left mid rest taken more page last slot sent slots list within bound few so_far heard
    row =
    let text = text_of command.task in
    let frame = request_encoding (request_of (Row slot)) text in
    let both = next_ahead command left mid taken more page slot sent slots so_far within in
    let same = row_answer slot slots so_far.id answer heard.1.fits.0 in
    let ahead = rows_from (sent - (slot + 1)) (slot + 1) in
    let stand : StandAt (asks_of command slots so_far.id) (slot + 1 + 1) ahead =
    rows_stand command slots so_far.id (sent - (slot + 1)) (slot + 1) list (omega (arith, within, bound)) in
    no_line_ahead command (Row slot) answer given ahead left mid rest taken so_far.written
    (between so_far.written frame) more page last text (slot + 1) slots so_far.id so_far.conversing
    (row_next command slots so_far.id slot list (omega (arith, within, bound))) refl
    (between_first so_far.written frame, heard) row
    (subst (λ (s : ℕ). StandAt (asks_of command s (id_after so_far.id answer)) (slot + 1 + 1) ahead) (sym same.0)
    (subst (λ (i : ℤ). StandAt (asks_of command slots i) (slot + 1 + 1) ahead) (sym same.1) stand))
    (omega (arith, rows_many (sent - (slot + 1)) (slot + 1), list, few, within))
    (between_second so_far.written more frame (rows_encoding (slot + 1) sent text) both)

-- All rows were read.
pub lists_all : (command : Command) (left rest taken more : Option (List ℕ)) (page : List ℕ) (slot sent slots : ℕ)
    (done : ⊤) → on_way_most command.task ≡ 256 → sent ≤ slot → min slots 32768 ≤ slot
    → Listing command left rest taken more page slot sent slots
    → ConversesThrough command (Ok done) page left rest taken more
lists_all command left rest taken more page slot sent slots done list none past so_far =
    let kept : Appends so_far.written more [] =
    subst (Appends so_far.written more) (encoding_none slot sent (text_of command.task) none) so_far.ahead in
    let conversing = so_far.conversing in
    let whole : Conversing command left rest taken more page (slot + 1) slots so_far.id =
    record {
      exchanges = conversing.exchanges;
      conversed = conversing.conversed;
      reads = conversing.reads;
      writes = subst (Appends taken more) (append-nil (asked_encoding command conversing.exchanges))
          (Appends-trans taken so_far.written more (asked_encoding command conversing.exchanges) [] conversing.writes
          kept);
      collects = conversing.collects;
      counts = conversing.counts;
      tells = conversing.tells;
      finds = conversing.finds;
    } in
    finishes command left rest taken more page (slot + 1) slots so_far.id done whole
    (sym (after_hello command slots so_far.id slot list ∙ row_past (min slots 32768) slots slot refl past))

-- What was read as the reply to a row, by the counts of failures.
pub heard_exchanged : (ask : Ask) (why : ClientFault) (had has wrote : ℕ) (left rest : Option (List ℕ))
    → HeardBy ask (Err why) had has left rest → ExchangedBy ask (Err why) had has wrote wrote left rest
heard_exchanged ask (Refused error) had has wrote left rest heard = (heard, refl)
heard_exchanged ask NoReply had has wrote left rest heard = inr (refl, heard)
heard_exchanged ask NoMemory had has wrote left rest heard = absurd heard

-- A dialogue that a fault at a row ends, by the counts of failures.
pub row_blamed : (command : Command) (why : ClientFault) (had held has wrote written writes : ℕ)
    (left mid rest taken more : Option (List ℕ)) (page : List ℕ) (slot sent slots : ℕ)
    → on_way_most command.task ≡ 256 → slot < min slots 32768
    → Listing command left mid taken more page slot sent slots → held ≡ had → written ≡ wrote
    → ExchangedBy (Row slot) (Err why) held has written writes mid rest
    → Blames command (Err why) had has wrote writes left rest
row_blamed command why had held has wrote written writes left mid rest taken more page slot sent slots list within
    so_far reads writ found =
    blamed command why (Row slot) had held has wrote written writes left mid rest taken so_far.written page (slot + 1)
    slots so_far.id so_far.conversing (row_next command slots so_far.id slot list within) reads writ found

-- What was written whole was written as a prefix of itself.
pub wrote_whole : (taken more : Option (List ℕ)) (frames : List ℕ) → Appends taken more frames →
    AppendsPrefix taken more frames
wrote_whole taken more frames wrote = (frames, ([], sym (append-nil frames)), wrote)
