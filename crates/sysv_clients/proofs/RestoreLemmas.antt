-- A load of a file of queues makes these queues, and sends their messages.
use Rattle.std.proofs.Common.{◌≡◌, ◌≢◌, ◌≤◌, ◌+◌, ◌∙◌, ◌⊎◌, ℕ, suc, ℤ, pos, true, false, List, [], ◌∷◌, ◌++◌, length}
use Rattle.std.proofs.Common.{map, flat_map, Option, None, Some, Result, Ok, Err, OnOk, inl, inr, refl, sym, ap, ap₂}
use Rattle.std.proofs.Common.{subst, arith, append_assoc, append-nil, bit_or, codes, if◌then◌else◌}
use Rattle.std.proofs.lemmas.Fmt.{decimal_digit}
use Rattle.std.proofs.lemmas.List.Elements.{All-head, All-tail}
use Rattle.std.specs.Prelude.{⊤}
use Rattle.std.specs.Io.KnownBytes.{Consumes}
use Rattle.json.specs.Lex.{Lexeme, between, colon, comma, fresh, lex, punctuate, token, tokens}
use Rattle.json.specs.Print.{IsNumber}
use Rattle.json.specs.Text.{content}
use Rattle.json.specs.Token.{begin_object, end_object, number, string}
use Rattle.json.proofs.Printed.Decimals.{IsNumber-signed_decimal}
use Rattle.json.proofs.Printed.Numbers.{lex-number}
use Rattle.json.proofs.Printed.Utf8.{IsUtf8-are_ascii}
use Rattle.sysv_clients.specs.declared.loading.Loading.{Loading}
use Rattle.sysv_clients.specs.declared.loading.Place.{Place}
use Rattle.sysv_clients.specs.declared.loading.Unfit.{Unfit}
use Rattle.sysv_clients.specs.declared.loading.Unfit.TheVariants as unfit
use Rattle.sysv_clients.specs.declared.loading.Unloaded.{Unloaded}
use Rattle.sysv_clients.specs.declared.loading.Unloaded.TheVariants.{Fault, Cut, Line, Many, Input}
use Rattle.sysv_clients.specs.declared.saved.Entry.{Entry}
use Rattle.sysv_clients.specs.declared.saved.Entry.TheVariants as entry
use Rattle.sysv_clients.specs.declared.saved.SavedQueue.{SavedQueue}
use Rattle.sysv_clients.specs.declared.stated.TheConstants.{OBJECT_BYTES}
use Rattle.sysv_clients.specs.Asks.{flags_to_make}
use Rattle.sysv_clients.specs.Calls.{Call}
use Rattle.sysv_clients.specs.Copies.{AreMessages, IsMessage, Message, objects_of}
use Rattle.sysv_clients.specs.Dialogue.{id_after}
use Rattle.sysv_clients.specs.Lines.{HasNoEnd, HasNone, IsNext, IsTooLong}
use Rattle.sysv_clients.specs.Loading.{AreTaken, Asks, EndsLoad, IsUnfit, LoadsAll, MayLoad, NamesFound, NamesQueue}
use Rattle.sysv_clients.specs.Loading.{Step, Takes, Wants, WantsOfQueue, asks_in, line_calls, make_ask, outset, plain}
use Rattle.sysv_clients.specs.Loading.{send_of, set_ask}
use Rattle.sysv_clients.specs.Object.{object_line}
use Rattle.sysv_clients.specs.Restored.{AreKept, IsKept, IsNoLine, IsRestored, Kept, MayAllLoad, RestoresFile, file_of}
use Rattle.sysv_clients.specs.Restored.{found_by, found_ids, kept_text, loads_of, saved_of}
use Rattle.sysv_clients.specs.Saved.{IsFormatLine, IsQueueLine, StatesEntry, format_line, format_tokens, queue_text}
use Rattle.sysv_clients.specs.Sending.{Sent, sent_by}
use Rattle.sysv_clients.proofs.CopyLemmas.{next_is, no_next, read_back}
use Rattle.sysv_clients.proofs.OneEntryLemmas.{one_entry}
use Rattle.sysv_clients.proofs.QueueLineLemmas.{mild_end, queue_back}
use Rattle.sysv_model.specs.declared.attributes.SetTo.{SetTo}
use Rattle.sysv_model.specs.declared.flags.Flags.{Flags}
use Rattle.sysv_model.specs.declared.flags.TheConstants.Flags.{IPC_CREAT}
use Rattle.sysv_wire.specs.declared.request.Ask.{Ask}
use Rattle.sysv_wire.specs.declared.request.Ask.TheVariants.{Get, Set, Snd}

-- ---- the first line

abbrev format_text : List ℕ
format_text = codes "{\"format\":\"sysvmsg-queues\",\"version\":1}"

lex_format : (r : List ℕ) → lex between (codes "{\"format\":\"sysvmsg-queues\",\"version\":" ++ r)
    ≡ token begin_object ∷ token (string (codes "format")) ∷ colon ∷ token (string (codes "sysvmsg-queues")) ∷ comma
    ∷ token (string (codes "version")) ∷ colon ∷ lex between r
unfolding lex content
lex_format r = refl

lex_close : lex between (125 ∷ []) ≡ token end_object ∷ []
unfolding lex
lex_close = refl

one_is_number : IsNumber (codes "1")
one_is_number =
    subst IsNumber (decimal_digit 1 (omega arith)) (IsNumber-signed_decimal (pos 1) (omega arith))

format_punctuated : punctuate fresh (token begin_object ∷ token (string (codes "format")) ∷ colon
    ∷ token (string (codes "sysvmsg-queues")) ∷ comma ∷ token (string (codes "version")) ∷ colon
    ∷ token (number (codes "1")) ∷ token end_object ∷ []) ≡ format_tokens
unfolding punctuate
format_punctuated = refl

format_read : tokens format_text ≡ format_tokens
format_read =
    ap (punctuate fresh) (lex_format (codes "1" ++ 125 ∷ [])
    ∙ ap (λ (l : List Lexeme).
    token begin_object ∷ token (string (codes "format")) ∷ colon ∷ token (string (codes "sysvmsg-queues")) ∷ comma
    ∷ token (string (codes "version")) ∷ colon ∷ l)
    (lex-number (codes "1") (125 ∷ []) one_is_number refl ∙ ap (λ (l : List Lexeme). token (number (codes "1")) ∷ l)
    lex_close))
    ∙ format_punctuated

format_is : IsFormatLine format_text
format_is = record { utf8 = IsUtf8-are_ascii format_text refl; object = format_read }

format_ends : HasNoEnd format_text
format_ends = mild_end format_text refl

-- ---- lines of a file

-- A line that a file has, with its entry, and the rest of the file.
record IsLineOf (text : List ℕ) (own : Entry) (body more : List ℕ) : Type 0 where
  line : List ℕ
  here : text ≡ line ++ 10 ∷ more
  none : HasNoEnd line
  short : length line ≤ OBJECT_BYTES
  states : StatesEntry line own body

message_line : (message : Message) (more : List ℕ) → IsMessage message
    → IsLineOf (object_line message.mtype message.body ++ more) (entry.Message message.mtype) message.body more
message_line message more is =
    let own = read_back message is in record {
      line = own.text;
      here = ap (λ (l : List ℕ). l ++ more) own.line ∙ append_assoc own.text (10 ∷ []) more;
      none = own.fits.0;
      short = own.fits.1;
      states = own.states;
    }

queue_line : (kept : Kept) (more : List ℕ) → IsKept kept
    → IsLineOf (queue_text kept.id kept.stat ++ more) (entry.Queue (saved_of kept.id kept.stat)) [] more
queue_line kept more is =
    let own = queue_back kept.id kept.stat is.0 in record {
      line = own.text;
      here = ap (λ (l : List ℕ). l ++ more) own.line ∙ append_assoc own.text (10 ∷ []) more;
      none = own.fits.0;
      short = own.fits.1;
      states = own.states;
    }

first_line : (more : List ℕ) → IsLineOf (format_line ++ more) entry.Format [] more
unfolding format_line
first_line more = record {
  line = format_text;
  here = append_assoc format_text (10 ∷ []) more;
  none = format_ends;
  short = omega arith;
  states = format_is;
}

-- The next line of an input that begins with this line.
record IsThisLine (own : Entry) (body more : List ℕ) (line : List ℕ) (mid : Option (List ℕ)) : Type 0 where
  left : mid ≡ Some more
  states : StatesEntry line own body

this_line : (text : List ℕ) (own : Entry) (body more line : List ℕ) (mid : Option (List ℕ))
    → IsLineOf text own body more → IsNext OBJECT_BYTES line (Some text) mid → IsThisLine own body more line mid
this_line text own body more line mid at next =
    let found = next_is OBJECT_BYTES at.line line more mid at.none
    (subst (λ (l : List ℕ). IsNext OBJECT_BYTES line (Some l) mid) at.here next) in
    record { left = found.1; states = subst (λ (l : List ℕ). StatesEntry l own body) (sym found.0) at.states }

-- ---- the lines of queues

-- What is left of a file: messages of a queue, and further queues.
abbrev pub rest_text : List Message → List Kept → List ℕ
rest_text messages queues = objects_of messages ++ flat_map kept_text queues

-- The requests that they want. The messages are those of the queue with this identifier.
abbrev pub rest_asks : Loading → ℤ → List Message → List ℤ → List Kept → List Sent
rest_asks loading id messages ids queues =
    map (λ (m : Message). send_of loading id m.mtype m.body) messages ++ loads_of loading ids queues

-- The queue of these messages is open at the place.
abbrev pub IsOpen : Place → ℤ → List Message → Type 0
IsOpen place id [] = ⊤
IsOpen place id (message ∷ more) = (place.found ≡ Some id) × (queue : SavedQueue) × (place.queue ≡ Some queue)

-- The queue of the place may be loaded.
abbrev pub MayAt : Loading → Place → Type 0
MayAt loading place = (queue : SavedQueue) → place.queue ≡ Some queue → MayLoad loading queue

abbrev zeros : List Kept → List ℤ
zeros [] = []
zeros (kept ∷ more) = pos 0 ∷ zeros more

zeros_each : (queues : List Kept) → length (zeros queues) ≡ length queues
zeros_each [] = refl
zeros_each (kept ∷ more) = ap suc (zeros_each more)

-- What was taken of the lines, and what is left.
pub record Taken (loading : Loading) (id : ℤ) (messages : List Message) (queues : List Kept) (asks : List Sent)
    (rest : Option (List ℕ)) (after : Place) : Type 0 where
  pub ids : List ℤ
  pub each : length ids ≡ length queues
  pub open_id : ℤ
  pub open_messages : List Message
  pub later_ids : List ℤ
  pub later : List Kept
  pub later_each : length later_ids ≡ length later
  pub left : rest ≡ Some (rest_text open_messages later)
  pub splits : rest_asks loading id messages ids queues
      ≡ asks ++ rest_asks loading open_id open_messages later_ids later
  pub is_open : IsOpen after open_id open_messages
  pub may : MayAt loading after
  pub lines : 1 ≤ after.lines
  pub are_messages : AreMessages open_messages
  pub are_kept : AreKept later
  pub may_later : MayAllLoad loading queues → MayAllLoad loading later

-- No line was taken.
none_taken : (loading : Loading) (before : Place) (id : ℤ) (messages : List Message) (queues : List Kept)
    (rest : Option (List ℕ)) → AreMessages messages → AreKept queues → 1 ≤ before.lines → IsOpen before id messages
    → MayAt loading before → Consumes (Some (rest_text messages queues)) rest []
    → Taken loading id messages queues [] rest before
none_taken loading before id messages queues None are kept lines opened may read = absurd read
none_taken loading before id messages queues (Some text) are kept lines opened may read = record {
  ids = zeros queues;
  each = zeros_each queues;
  open_id = id;
  open_messages = messages;
  later_ids = zeros queues;
  later = queues;
  later_each = zeros_each queues;
  left = ap Some (sym read);
  splits = refl;
  is_open = opened;
  may = may;
  lines = lines;
  are_messages = are;
  are_kept = kept;
  may_later = λ all. all;
}

-- Another line was taken before, of a message.
message_taken : (loading : Loading) (id : ℤ) (message : Message) (messages : List Message) (queues : List Kept)
    (asks : List Sent) (own : List Sent) (rest : Option (List ℕ)) (after : Place)
    → own ≡ send_of loading id message.mtype message.body ∷ [] → Taken loading id messages queues asks rest after
    → Taken loading id (message ∷ messages) queues (own ++ asks) rest after
message_taken loading id message messages queues asks own rest after is so_far = record {
  ids = so_far.ids;
  each = so_far.each;
  open_id = so_far.open_id;
  open_messages = so_far.open_messages;
  later_ids = so_far.later_ids;
  later = so_far.later;
  later_each = so_far.later_each;
  left = so_far.left;
  splits = ap (λ (l : List Sent). send_of loading id message.mtype message.body ∷ l) so_far.splits
      ∙ ap (λ (l : List Sent). (l ++ asks) ++ rest_asks loading so_far.open_id so_far.open_messages so_far.later_ids
      so_far.later) (sym is);
  is_open = so_far.is_open;
  may = so_far.may;
  lines = so_far.lines;
  are_messages = so_far.are_messages;
  are_kept = so_far.are_kept;
  may_later = so_far.may_later;
}

-- One of a queue.
queue_taken : (loading : Loading) (id found : ℤ) (kept : Kept) (queues : List Kept) (asks own : List Sent)
    (rest : Option (List ℕ)) (after : Place)
    → own ≡ plain (make_ask loading (saved_of kept.id kept.stat))
    ∷ plain (set_ask (saved_of kept.id kept.stat) found) ∷ []
    → Taken loading found kept.messages queues asks rest after
    → Taken loading id [] (kept ∷ queues) (own ++ asks) rest after
queue_taken loading id found kept queues asks own rest after is so_far =
    let queue = saved_of kept.id kept.stat in
    let left = rest_asks loading so_far.open_id so_far.open_messages so_far.later_ids so_far.later in record {
      ids = found ∷ so_far.ids;
      each = ap suc so_far.each;
      open_id = so_far.open_id;
      open_messages = so_far.open_messages;
      later_ids = so_far.later_ids;
      later = so_far.later;
      later_each = so_far.later_each;
      left = so_far.left;
      splits =
          ap (λ (l : List Sent). plain (make_ask loading queue) ∷ plain (set_ask queue found) ∷ l) so_far.splits
          ∙ ap (λ (l : List Sent). (l ++ asks) ++ left) (sym is);
      is_open = so_far.is_open;
      may = so_far.may;
      lines = so_far.lines;
      are_messages = so_far.are_messages;
      are_kept = so_far.are_kept;
      may_later = λ all. so_far.may_later all.1;
    }

-- What a line that is loaded leaves, by its entry.
record OfMessage (loading : Loading) (before : Place) (mtype : ℤ) (body : List ℕ) (id : ℤ) (asks : List Sent)
    (after : Place) : Type 0 where
  asked : asks ≡ send_of loading id mtype body ∷ []
  found : after.found ≡ Some id
  queue : SavedQueue
  at : after.queue ≡ Some queue
  may : MayAt loading after

some_same : {X : Type 0} (a b : X) → (let x : Option X = Some a in let y : Option X = Some b in x ≡ y) → a ≡ b
some_same a b same = cc same

none_some : {X : Type 0} (P : Type 0) (a : X) → (let x : Option X = None in let y : Option X = Some a in x ≡ y) → P
none_some P a same = absurd (cc same)

may_at : (loading : Loading) (place : Place) (queue : SavedQueue) → place.queue ≡ Some queue → MayLoad loading queue
    → MayAt loading place
may_at loading place queue is may other same =
    subst (MayLoad loading) (some_same queue other (sym is ∙ same)) may

of_message : (loading : Loading) (before : Place) (mtype : ℤ) (body : List ℕ) (id : ℤ) (asks : List Sent)
    (after : Place) → before.found ≡ Some id → Asks loading before (entry.Message mtype) body asks after
    → OfMessage loading before mtype body id asks after
of_message loading before mtype body id asks after opened (queue, found, at, may, stays, finds, inl is) =
    let same : found ≡ id = some_same found id (sym is.0 ∙ opened) in record {
      asked = subst (λ (i : ℤ). asks ≡ send_of loading i mtype body ∷ []) same is.1;
      found = finds ∙ ap Some same;
      queue = queue;
      at = stays;
      may = may_at loading after queue stays may;
    }
of_message loading before mtype body id asks after opened (queue, found, at, may, stays, finds, inr is) =
    none_some _ id (sym is.0 ∙ opened)

-- The line that was taken is the next one of the file, and is loaded.
record TakesThis (loading : Loading) (before : Place) (own : Entry) (body more : List ℕ) (step : Step)
    (mid : Option (List ℕ)) (place : Place) : Type 0 where
  left : mid ≡ Some more
  asks : Asks loading before own body step.asks place
  lines : place.lines ≡ before.lines + 1

-- A message of this body has the requests of its own.
asks_by : (loading : Loading) (before : Place) (one own : Entry) (text body : List ℕ) (asks : List Sent) (place : Place)
    → one ≡ own → (line : List ℕ) → StatesEntry line one text → StatesEntry line own body
    → Asks loading before one text asks place → Asks loading before own body asks place
asks_by loading before one own text body asks place same line first second has =
    by_entry own (subst (λ (e : Entry). StatesEntry line e text) same first) second
    (subst (λ (e : Entry). Asks loading before e text asks place) same has)
  where
    by_entry : (e : Entry) → StatesEntry line e text → StatesEntry line e body → Asks loading before e text asks place
        → Asks loading before e body asks place
    by_entry entry.Format one two has = has
    by_entry (entry.Queue queue) one two has = has
    by_entry (entry.Message mtype) one two has =
        let bodies : text ≡ body = (one_entry line (entry.Message mtype) (entry.Message mtype) text body one two).1 in
        subst (λ (b : List ℕ). Asks loading before (entry.Message mtype) b asks place) bodies has

takes_this : (loading : Loading) (before : Place) (text : List ℕ) (own : Entry) (body more : List ℕ) (step : Step)
    (mid : Option (List ℕ)) (place : Place) → (1 ≤ before.lines → loading.from ≤ before.lines + 1)
    → IsLineOf text own body more → IsNext OBJECT_BYTES step.line (Some text) mid → Takes loading before step place
    → TakesThis loading before own body more step mid place
takes_this loading before text own body more step mid place from at next (inl passed) =
    absurd (omega (arith, passed.1, from passed.0))
takes_this loading before text own body more step mid place from at next (inr loaded) =
    let this = this_line text own body more step.line mid at next in
    let same = (one_entry step.line step.entry own step.body body loaded.states this.states).0 in record {
      left = this.left;
      asks = asks_by loading before step.entry own step.body body step.asks place same step.line loaded.states
          this.states loaded.asks;
      lines = loaded.lines;
    }

late : (loading : Loading) (place : Place) → loading.from ≤ 2 → 1 ≤ place.lines → loading.from ≤ place.lines + 1
late loading place from lines = omega (arith, from, lines)

opens : (place : Place) (id : ℤ) (queue : SavedQueue) (messages : List Message) → place.found ≡ Some id
    → place.queue ≡ Some queue → IsOpen place id messages
opens place id queue [] found at = tt
opens place id queue (first ∷ others) found at = (found, queue, at)

-- The lines that were taken.
each_taken : (loading : Loading) (before : Place) (id : ℤ) (messages : List Message) (queues : List Kept)
    (steps : List Step) (rest : Option (List ℕ)) (after : Place) → loading.from ≤ 2 → AreMessages messages
    → AreKept queues → 1 ≤ before.lines → IsOpen before id messages → MayAt loading before
    → AreTaken loading before steps (Some (rest_text messages queues)) rest after
    → Taken loading id messages queues (asks_in steps) rest after
each_taken loading before id messages queues [] rest after from are kept lines opened may (read, same) =
    subst (λ (p : Place). Taken loading id messages queues [] rest p) (sym same)
    (none_taken loading before id messages queues rest are kept lines opened may read)
each_taken loading before id [] [] (step ∷ more) rest after from are kept lines opened may
    (mid, place, next, takes, later) = absurd (no_next OBJECT_BYTES step.line mid next)
each_taken loading before id (message ∷ messages) queues (step ∷ more) rest after from are kept lines opened may
    (mid, place, next, takes, later) =
    let text = rest_text messages queues in
    let this = takes_this loading before (rest_text (message ∷ messages) queues) (entry.Message message.mtype)
    message.body text step mid place (late loading before from)
    (subst (λ (l : List ℕ). IsLineOf l (entry.Message message.mtype) message.body text)
    (sym (append_assoc (object_line message.mtype message.body) (objects_of messages) (flat_map kept_text queues)))
    (message_line message text are.0)) next takes in
    let sent = of_message loading before message.mtype message.body id step.asks place opened.0 this.asks in
    message_taken loading id message messages queues (asks_in more) step.asks rest after sent.asked
    (each_taken loading place id messages queues more rest after from are.1 kept
    (omega (arith, this.lines)) (opens place id sent.queue messages sent.found sent.at) sent.may
    (subst (λ (m : Option (List ℕ)). AreTaken loading place more m rest after) this.left later))
each_taken loading before id [] (kept ∷ queues) (step ∷ more) rest after from are (is, others) lines opened may
    (mid, place, next, takes, later) =
    let text = rest_text kept.messages queues in
    let this = takes_this loading before (rest_text [] (kept ∷ queues)) (entry.Queue (saved_of kept.id kept.stat)) []
    text step mid place (late loading before from)
    (subst (λ (l : List ℕ). IsLineOf l (entry.Queue (saved_of kept.id kept.stat)) [] text)
    (sym (append_assoc (queue_text kept.id kept.stat) (objects_of kept.messages) (flat_map kept_text queues)))
    (queue_line kept text is)) next takes in
    let found = this.asks.1 in
    queue_taken loading id found kept queues (asks_in more) step.asks rest after this.asks.2
    (each_taken loading place found kept.messages queues more rest after from is.1 others
    (omega (arith, this.lines)) (opens place found (saved_of kept.id kept.stat) kept.messages this.asks.4 this.asks.3)
    (may_at loading place (saved_of kept.id kept.stat) this.asks.3 this.asks.0)
    (subst (λ (m : Option (List ℕ)). AreTaken loading place more m rest after) this.left later))

-- ---- what comes next

-- The file is at its end.
record AtEnd (place : Place) (asks : List Sent) (text : List ℕ) : Type 0 where
  none : text ≡ []
  wants : asks ≡ []
  lines : 1 ≤ place.lines

-- Its first line is next.
record AtFormat (place : Place) (text : List ℕ) : Type 0 where
  more : List ℕ
  line : IsLineOf text entry.Format [] more
  lines : place.lines ≡ 0
  queue : place.queue ≡ None

-- A message is next.
record AtMessage (place : Place) (text : List ℕ) : Type 0 where
  message : Message
  more : List ℕ
  id : ℤ
  line : IsLineOf text (entry.Message message.mtype) message.body more
  found : place.found ≡ Some id
  queue : SavedQueue
  at : place.queue ≡ Some queue
  lines : 1 ≤ place.lines

-- A queue is next.
record AtQueue (loading : Loading) (place : Place) (may : Type 0) (asks : List Sent) (text : List ℕ) : Type 0 where
  kept : Kept
  more : List ℕ
  id : ℤ
  others : List Sent
  line : IsLineOf text (entry.Queue (saved_of kept.id kept.stat)) [] more
  wants : asks ≡ plain (make_ask loading (saved_of kept.id kept.stat))
      ∷ plain (set_ask (saved_of kept.id kept.stat) id) ∷ others
  may_next : may → MayLoad loading (saved_of kept.id kept.stat)
  lines : 1 ≤ place.lines

-- What comes next in a file, and the requests that it and later lines want.
abbrev Ahead : Loading → Place → (may : Type 0) → List Sent → List ℕ → Type 0
Ahead loading place may asks text =
    AtEnd place asks text ⊎ (AtFormat place text ⊎ (AtMessage place text ⊎ AtQueue loading place may asks text))

ahead_of : (loading : Loading) (place : Place) (id : ℤ) (messages : List Message) (ids : List ℤ) (queues : List Kept)
    → length ids ≡ length queues → AreMessages messages → AreKept queues → 1 ≤ place.lines
    → IsOpen place id messages
    → Ahead loading place (MayAllLoad loading queues) (rest_asks loading id messages ids queues)
    (rest_text messages queues)
ahead_of loading place id [] ids [] each are kept lines opened =
    inl (record { none = refl; wants = refl; lines = lines })
ahead_of loading place id (message ∷ messages) ids queues each are kept lines opened =
    inr (inr (inl (record {
      message = message;
      more = rest_text messages queues;
      id = id;
      line = subst (λ (l : List ℕ). IsLineOf l (entry.Message message.mtype) message.body (rest_text messages queues))
          (sym (append_assoc (object_line message.mtype message.body) (objects_of messages)
          (flat_map kept_text queues)))
          (message_line message (rest_text messages queues) are.0);
      found = opened.0;
      queue = opened.1;
      at = opened.2;
      lines = lines;
    })))
ahead_of loading place id [] [] (kept ∷ queues) each are is lines opened = absurd (omega (arith, each))
ahead_of loading place id [] (one ∷ ids) (kept ∷ queues) each are is lines opened =
    inr (inr (inr (record {
      kept = kept;
      more = rest_text kept.messages queues;
      id = one;
      others = rest_asks loading one kept.messages ids queues;
      line = subst (λ (l : List ℕ). IsLineOf l (entry.Queue (saved_of kept.id kept.stat)) []
          (rest_text kept.messages queues))
          (sym (append_assoc (queue_text kept.id kept.stat) (objects_of kept.messages) (flat_map kept_text queues)))
          (queue_line kept (rest_text kept.messages queues) is.0);
      wants = refl;
      may_next = λ may. may.0;
      lines = lines;
    })))

-- A line states one thing.
queue_as_format : (P : Type 0) (line : List ℕ) (queue : SavedQueue) (body : List ℕ)
    → StatesEntry line entry.Format body → IsQueueLine line queue → P
queue_as_format P line queue body one two = apart_format P queue (one_entry line entry.Format (entry.Queue queue) body
    body one two).0
  where
    apart_format : (P : Type 0) (queue : SavedQueue) → entry.Format ≡ entry.Queue queue → P
    apart_format P queue same = absurd (cc same)

queue_as_message : (P : Type 0) (line : List ℕ) (queue : SavedQueue) (mtype : ℤ) (body : List ℕ)
    → StatesEntry line (entry.Message mtype) body → IsQueueLine line queue → P
queue_as_message P line queue mtype body one two =
    apart_message P queue mtype (one_entry line (entry.Message mtype) (entry.Queue queue) body body one two).0
  where
    apart_message : (P : Type 0) (queue : SavedQueue) (mtype : ℤ) → entry.Message mtype ≡ entry.Queue queue → P
    apart_message P queue mtype same = absurd (cc same)

message_as_format : (P : Type 0) (line : List ℕ) (mtype : ℤ) (body text : List ℕ)
    → StatesEntry line entry.Format body → StatesEntry line (entry.Message mtype) text → P
message_as_format P line mtype body text one two =
    apart_both P mtype (one_entry line entry.Format (entry.Message mtype) body text one two).0
  where
    apart_both : (P : Type 0) (mtype : ℤ) → entry.Format ≡ entry.Message mtype → P
    apart_both P mtype same = absurd (cc same)

same_queue : (line : List ℕ) (queue other : SavedQueue) → IsQueueLine line queue → IsQueueLine line other
    → queue ≡ other
same_queue line queue other one two =
    inner queue other (one_entry line (entry.Queue queue) (entry.Queue other) [] [] one two).0
  where
    inner : (queue other : SavedQueue) → entry.Queue queue ≡ entry.Queue other → queue ≡ other
    inner queue other same = cc same

-- ---- how a load ends

-- The requests that are left begin with those of a line that is not loaded whole.
abbrev LeavesMore : List Sent → List Sent → Type 0
LeavesMore asks partial = (later : List Sent) × (asks ≡ partial ++ later)

queue_more : (loading : Loading) (queue own : SavedQueue) (id : ℤ) (others asks partial : List Sent) (ask : Ask)
    → queue ≡ own → asks ≡ plain (make_ask loading own) ∷ plain (set_ask own id) ∷ others
    → WantsOfQueue loading queue partial ask → LeavesMore asks partial
queue_more loading queue own id others asks partial ask same is (inl none) =
    (asks, ap (λ (l : List Sent). l ++ asks) (sym none.0))
queue_more loading queue own id others asks partial ask same is (inr (found, made, asked)) = (
  plain (set_ask own id) ∷ others,
  is ∙ ap (λ (q : SavedQueue). plain (make_ask loading q) ∷ plain (set_ask own id) ∷ others) (sym same)
      ∙ ap (λ (l : List Sent). l ++ plain (set_ask own id) ∷ others) (sym made),
)

wants_more : (loading : Loading) (place : Place) (may : Type 0) (asks : List Sent) (text line : List ℕ)
    (mid : Option (List ℕ)) (partial : List Sent) (ask : Ask) → Ahead loading place may asks text
    → IsNext OBJECT_BYTES line (Some text) mid → Wants loading place line partial ask → LeavesMore asks partial
wants_more loading place may asks text line mid partial ask (inl at) next wants =
    absurd (no_next OBJECT_BYTES line mid (subst (λ (l : List ℕ). IsNext OBJECT_BYTES line (Some l) mid) at.none next))
wants_more loading place may asks text line mid partial ask (inr (inl at)) next (queue, loads, inl (is, of)) =
    queue_as_format _ line queue [] (this_line text entry.Format [] at.more line mid at.line next).states is
wants_more loading place may asks text line mid partial ask (inr (inl at)) next
    (queue, loads, inr (mtype, body, states, there, none, partly, asked)) =
    message_as_format _ line mtype [] body (this_line text entry.Format [] at.more line mid at.line next).states states
wants_more loading place may asks text line mid partial ask (inr (inr (inl at))) next (queue, loads, inl (is, of)) =
    queue_as_message _ line queue at.message.mtype at.message.body
    (this_line text (entry.Message at.message.mtype) at.message.body at.more line mid at.line next).states is
wants_more loading place may asks text line mid partial ask (inr (inr (inl at))) next
    (queue, loads, inr (mtype, body, states, there, none, partly, asked)) =
    none_some _ at.id (sym none ∙ at.found)
wants_more loading place may asks text line mid partial ask (inr (inr (inr at))) next (queue, loads, inl (is, of)) =
    let own = saved_of at.kept.id at.kept.stat in
    let this = this_line text (entry.Queue own) [] at.more line mid at.line next in
    queue_more loading queue own at.id at.others asks partial ask (same_queue line queue own is this.states) at.wants of
wants_more loading place may asks text line mid partial ask (inr (inr (inr at))) next
    (queue, loads, inr (mtype, body, states, there, none, partly, asked)) =
    let own = saved_of at.kept.id at.kept.stat in
    let this = this_line text (entry.Queue own) [] at.more line mid at.line next in
    queue_as_message _ line own mtype body states this.states

-- A line is not longer than the bytes before its LF.
before_end : (own text more rest : List ℕ) → HasNoEnd text → own ++ 10 ∷ more ≡ text ++ rest
    → length text ≤ length own
before_end own [] more rest none same = omega arith
before_end [] (byte ∷ text) more rest none same =
    absurd (All-head (λ (b : ℕ). b ≢ 10) byte text none (first_byte 10 byte more (text ++ rest) same))
  where
    first_byte : (a b : ℕ) (x y : List ℕ) → a ∷ x ≡ b ∷ y → b ≡ a
    first_byte a b x y same = cc same
before_end (one ∷ own) (byte ∷ text) more rest none same =
    omega (
      arith,
      before_end own text more rest (All-tail (λ (b : ℕ). b ≢ 10) byte text none)
          (rest_bytes one byte (own ++ 10 ∷ more) (text ++ rest) same),
    )
  where
    rest_bytes : (a b : ℕ) (x y : List ℕ) → a ∷ x ≡ b ∷ y → x ≡ y
    rest_bytes a b x y same = cc same

fits_line : (P : Type 0) (text : List ℕ) (own : Entry) (body more long : List ℕ) (mid : Option (List ℕ))
    → IsLineOf text own body more → IsTooLong OBJECT_BYTES long (Some text) mid → P
fits_line P text own body more long None at (none, size, read) = absurd read
fits_line P text own body more long (Some rest) at (none, size, read) =
    let most = before_end at.line long more rest none (sym at.here ∙ read) in
    absurd (omega (arith, most, size, at.short))

too_long : (P : Type 0) (loading : Loading) (place : Place) (may : Type 0) (asks : List Sent) (text long : List ℕ)
    (mid : Option (List ℕ)) → Ahead loading place may asks text → IsTooLong OBJECT_BYTES long (Some text) mid → P
too_long P loading place may asks text long None (inl at) (none, size, read) = absurd read
too_long P loading place may asks text [] (Some rest) (inl at) (none, size, read) = absurd (omega (arith, size))
too_long P loading place may asks text (byte ∷ long) (Some rest) (inl at) (none, size, read) =
    empty_first P byte (long ++ rest) (sym at.none ∙ read)
  where
    empty_first : (P : Type 0) (byte : ℕ) (x : List ℕ) → [] ≡ byte ∷ x → P
    empty_first P byte x same = absurd (cc same)
too_long P loading place may asks text long mid (inr (inl at)) is =
    fits_line P text entry.Format [] at.more long mid at.line is
too_long P loading place may asks text long mid (inr (inr (inl at))) is =
    fits_line P text (entry.Message at.message.mtype) at.message.body at.more long mid at.line is
too_long P loading place may asks text long mid (inr (inr (inr at))) is =
    fits_line P text (entry.Queue (saved_of at.kept.id at.kept.stat)) [] at.more long mid at.line is

-- What the next line states.
record IsStated (line : List ℕ) : Type 0 where
  own : Entry
  body : List ℕ
  states : StatesEntry line own body

stated : (loading : Loading) (place : Place) (may : Type 0) (asks : List Sent) (text line : List ℕ)
    (mid : Option (List ℕ)) → Ahead loading place may asks text → IsNext OBJECT_BYTES line (Some text) mid
    → IsStated line
stated loading place may asks text line mid (inl at) next =
    absurd (no_next OBJECT_BYTES line mid (subst (λ (l : List ℕ). IsNext OBJECT_BYTES line (Some l) mid) at.none next))
stated loading place may asks text line mid (inr (inl at)) next = record {
  own = entry.Format;
  body = [];
  states = (this_line text entry.Format [] at.more line mid at.line next).states;
}
stated loading place may asks text line mid (inr (inr (inl at))) next = record {
  own = entry.Message at.message.mtype;
  body = at.message.body;
  states = (this_line text (entry.Message at.message.mtype) at.message.body at.more line mid at.line next).states;
}
stated loading place may asks text line mid (inr (inr (inr at))) next = record {
  own = entry.Queue (saved_of at.kept.id at.kept.stat);
  body = [];
  states = (this_line text (entry.Queue (saved_of at.kept.id at.kept.stat)) [] at.more line mid at.line next).states;
}

-- A file that has a line is not at its end.
has_line : (P : Type 0) (text : List ℕ) (own : Entry) (body more : List ℕ) (mid : Option (List ℕ))
    → IsLineOf text own body more → HasNone (Some text) mid → P
has_line P text own body more None at none = absurd none.0
has_line P text own body more (Some rest) at none =
    not_none P at.line more (sym at.here ∙ none.0 ∙ none.1)
  where
    not_none : (P : Type 0) (line more : List ℕ) → line ++ 10 ∷ more ≡ [] → P
    not_none P [] more same = absurd (cc same)
    not_none P (byte ∷ line) more same = absurd (cc same)

-- Nothing is wanted at the end.
wants_none : (loading : Loading) (place : Place) (may : Type 0) (asks : List Sent) (text : List ℕ)
    (mid : Option (List ℕ)) → 1 ≤ place.lines → Ahead loading place may asks text → HasNone (Some text) mid
    → asks ≡ []
wants_none loading place may asks text mid lines (inl at) none = at.wants
wants_none loading place may asks text mid lines (inr (inl at)) none =
    has_line _ text entry.Format [] at.more mid at.line none
wants_none loading place may asks text mid lines (inr (inr (inl at))) none =
    has_line _ text (entry.Message at.message.mtype) at.message.body at.more mid at.line none
wants_none loading place may asks text mid lines (inr (inr (inr at))) none =
    has_line _ text (entry.Queue (saved_of at.kept.id at.kept.stat)) [] at.more mid at.line none

-- The queue of a next line may be loaded.
may_line : (loading : Loading) (place : Place) (may : Type 0) (asks : List Sent) (text line : List ℕ)
    (mid : Option (List ℕ)) (queue : SavedQueue) → Ahead loading place may asks text → may
    → IsNext OBJECT_BYTES line (Some text) mid → IsQueueLine line queue → MayLoad loading queue
may_line loading place may asks text line mid queue (inl at) all next is =
    absurd (no_next OBJECT_BYTES line mid (subst (λ (l : List ℕ). IsNext OBJECT_BYTES line (Some l) mid) at.none next))
may_line loading place may asks text line mid queue (inr (inl at)) all next is =
    queue_as_format _ line queue [] (this_line text entry.Format [] at.more line mid at.line next).states is
may_line loading place may asks text line mid queue (inr (inr (inl at))) all next is =
    queue_as_message _ line queue at.message.mtype at.message.body
    (this_line text (entry.Message at.message.mtype) at.message.body at.more line mid at.line next).states is
may_line loading place may asks text line mid queue (inr (inr (inr at))) all next is =
    let own = saved_of at.kept.id at.kept.stat in
    let this = this_line text (entry.Queue own) [] at.more line mid at.line next in
    subst (MayLoad loading) (sym (same_queue line queue own is this.states)) (at.may_next all)

may_queue : (loading : Loading) (place : Place) (may : Type 0) (asks : List Sent) (text line : List ℕ)
    (mid : Option (List ℕ)) (queue : SavedQueue) → Ahead loading place may asks text → may → MayAt loading place
    → IsNext OBJECT_BYTES line (Some text) mid → IsQueueLine line queue ⊎ (place.queue ≡ Some queue)
    → MayLoad loading queue
may_queue loading place may asks text line mid queue ahead all at next (inl is) =
    may_line loading place may asks text line mid queue ahead all next is
may_queue loading place may asks text line mid queue ahead all at next (inr is) = at queue is

-- A message has a queue.
has_queue : (P : Type 0) (loading : Loading) (place : Place) (may : Type 0) (asks : List Sent) (text line : List ℕ)
    (mid : Option (List ℕ)) (mtype : ℤ) (body : List ℕ) → Ahead loading place may asks text
    → IsNext OBJECT_BYTES line (Some text) mid → StatesEntry line (entry.Message mtype) body → place.queue ≡ None → P
has_queue P loading place may asks text line mid mtype body (inl at) next states none =
    absurd (no_next OBJECT_BYTES line mid (subst (λ (l : List ℕ). IsNext OBJECT_BYTES line (Some l) mid) at.none next))
has_queue P loading place may asks text line mid mtype body (inr (inl at)) next states none =
    message_as_format P line mtype [] body (this_line text entry.Format [] at.more line mid at.line next).states states
has_queue P loading place may asks text line mid mtype body (inr (inr (inl at))) next states none =
    none_some P at.queue (sym none ∙ at.at)
has_queue P loading place may asks text line mid mtype body (inr (inr (inr at))) next states none =
    let own = saved_of at.kept.id at.kept.stat in
    queue_as_message P line own mtype body states
    (this_line text (entry.Queue own) [] at.more line mid at.line next).states

-- The first line states the format.
is_format : (P : Type 0) (loading : Loading) (place : Place) (may : Type 0) (asks : List Sent) (text line : List ℕ)
    (mid : Option (List ℕ)) → Ahead loading place may asks text → place.lines ≡ 0
    → IsNext OBJECT_BYTES line (Some text) mid → ¬ IsFormatLine line → P
is_format P loading place may asks text line mid (inl at) at_first next denied =
    absurd (omega (arith, at_first, at.lines))
is_format P loading place may asks text line mid (inr (inl at)) at_first next denied =
    absurd (denied (this_line text entry.Format [] at.more line mid at.line next).states)
is_format P loading place may asks text line mid (inr (inr (inl at))) at_first next denied =
    absurd (omega (arith, at_first, at.lines))
is_format P loading place may asks text line mid (inr (inr (inr at))) at_first next denied =
    absurd (omega (arith, at_first, at.lines))

has_format : (P : Type 0) (loading : Loading) (place : Place) (may : Type 0) (asks : List Sent) (text : List ℕ)
    (mid : Option (List ℕ)) → Ahead loading place may asks text → place.lines ≡ 0 → HasNone (Some text) mid → P
has_format P loading place may asks text mid (inl at) at_first none = absurd (omega (arith, at_first, at.lines))
has_format P loading place may asks text mid (inr (inl at)) at_first none =
    has_line P text entry.Format [] at.more mid at.line none
has_format P loading place may asks text mid (inr (inr (inl at))) at_first none =
    absurd (omega (arith, at_first, at.lines))
has_format P loading place may asks text mid (inr (inr (inr at))) at_first none =
    absurd (omega (arith, at_first, at.lines))

-- No line ends the load.
no_line : (loading : Loading) (place : Place) (may : Type 0) (asks : List Sent) (text : List ℕ) (mid : Option (List ℕ))
    (before : ℕ) (why : Unfit) → Ahead loading place may asks text → may → MayAt loading place
    → IsUnfit loading place why (Some text) mid → IsNoLine (Err (Line before why))
no_line loading place may asks text mid before unfit.Memory ahead all at is = tt
no_line loading place may asks text mid before unfit.Long ahead all at (long, is) =
    too_long _ loading place may asks text long mid ahead is
no_line loading place may asks text mid before unfit.Nothing ahead all at (lines, line, next, none) =
    let own = stated loading place may asks text line mid ahead next in none own.own own.body own.states
no_line loading place may asks text mid before unfit.Format ahead all at (at_first, inl none) =
    has_format _ loading place may asks text mid ahead at_first none
no_line loading place may asks text mid before unfit.Format ahead all at (at_first, inr (line, next, denied)) =
    is_format _ loading place may asks text line mid ahead at_first next denied
no_line loading place may asks text mid before unfit.Private ahead all at (line, next, queue, is, at_first) =
    (may_queue loading place may asks text line mid queue ahead all at next is).0 at_first
no_line loading place may asks text mid before (unfit.Creator uid gid) ahead all at
    (line, next, queue, is, same_uid, same_gid, other) =
    true_false _ (sym (may_queue loading place may asks text line mid queue ahead all at next is).1 ∙ other)
  where
    true_false : (P : Type 0) → true ≡ false → P
    true_false P same = absurd (cc same)
no_line loading place may asks text mid before unfit.NoQueue ahead all at (line, next, mtype, body, states, none) =
    has_queue _ loading place may asks text line mid mtype body ahead next states none

-- ---- a load

-- The requests so far, and how the load ended.
record Ends (loading : Loading) (may : Type 0) (ended : Result ⊤ Unloaded) (asks partial : List Sent) : Type 0 where
  more : LeavesMore asks partial
  all : OnOk ended (more.0 ≡ [])
  readable : may → IsNoLine ended

whole_ends : (loading : Loading) (may : Type 0) (ended : Result ⊤ Unloaded) (asks partial : List Sent) → partial ≡ []
    → OnOk ended (asks ≡ []) → (may → IsNoLine ended) → Ends loading may ended asks partial
whole_ends loading may ended asks partial none all readable = record {
  more = (asks, ap (λ (l : List Sent). l ++ asks) (sym none));
  all = all;
  readable = readable;
}

ends : (loading : Loading) (place : Place) (may : Type 0) (ended : Result ⊤ Unloaded) (asks : List Sent) (text : List ℕ)
    (steps : List Step) (calls : List Call) (partial waiting : List Sent)
    (left rest taken more unfed : Option (List ℕ)) → (1 ≤ length steps → 1 ≤ place.lines)
    → Ahead loading place may asks text → MayAt loading place
    → EndsLoad loading ended place steps calls partial waiting left rest taken more (Some text) unfed
    → Ends loading may ended asks partial
ends loading place may (Ok done) asks text steps calls partial waiting left rest taken more unfed lines ahead at end =
    whole_ends loading may (Ok done) asks partial end.0.whole
    (wants_none loading place may asks text unfed (lines end.1) ahead end.2) (λ all. tt)
ends loading place may (Err (Line before why)) asks text steps calls partial waiting left rest taken more unfed lines
    ahead at end =
    whole_ends loading may (Err (Line before why)) asks partial end.0.whole tt
    (λ all. no_line loading place may asks text unfed before why ahead all at end.2)
ends loading place may (Err Many) asks text steps calls partial waiting left rest taken more unfed lines ahead at end =
    whole_ends loading may (Err Many) asks partial end.0.whole tt (λ all. tt)
ends loading place may (Err (Input why)) asks text steps calls partial waiting left rest taken more unfed lines ahead at
    end =
    whole_ends loading may (Err (Input why)) asks partial end.whole tt (λ all. tt)
ends loading place may (Err (Fault why)) asks text steps calls partial waiting left rest taken more unfed lines ahead at
    end =
    whole_ends loading may (Err (Fault why)) asks partial end.2 tt (λ all. tt)
ends loading place may (Err (Cut cut)) asks text steps calls partial waiting left rest taken more unfed lines ahead at
    (inr send) =
    whole_ends loading may (Err (Cut cut)) asks partial send.whole tt (λ all. tt)
ends loading place may (Err (Cut cut)) asks text steps calls partial waiting left rest taken more unfed lines ahead at
    (inl queue) = record {
      more = wants_more loading place may asks text queue.line unfed partial queue.ask ahead queue.next queue.wants;
      all = tt;
      readable = λ all. tt;
    }

-- The requests are those of the queues.
record Restores (loading : Loading) (queues : List Kept) (ended : Result ⊤ Unloaded) (sents : List Sent) :
    Type 0 where
  ids : List ℤ
  later : List Sent
  each : length ids ≡ length queues
  requests : loads_of loading ids queues ≡ sents ++ later
  all : OnOk ended (later ≡ [])
  readable : MayAllLoad loading queues → IsNoLine ended

restored_by : (loading : Loading) (queues : List Kept) (ended : Result ⊤ Unloaded) (sents asks left partial : List Sent)
    (ids : List ℤ) → length ids ≡ length queues → loads_of loading ids queues ≡ asks ++ left
    → sents ≡ asks ++ partial → Ends loading (MayAllLoad loading queues) ended left partial
    → Restores loading queues ended sents
restored_by loading queues ended sents asks left partial ids each splits made how = record {
  ids = ids;
  later = how.more.0;
  each = each;
  requests = splits ∙ ap (λ (l : List Sent). asks ++ l) how.more.1 ∙ sym (append_assoc asks partial how.more.0)
      ∙ ap (λ (l : List Sent). l ++ how.more.0) (sym made);
  all = how.all;
  readable = how.readable;
}

may_then : (loading : Loading) (first second : Type 0) (ended : Result ⊤ Unloaded) (asks partial : List Sent)
    → (first → second) → Ends loading second ended asks partial → Ends loading first ended asks partial
may_then loading first second ended asks partial leads how = record {
  more = how.more;
  all = how.all;
  readable = λ may. how.readable (leads may);
}

after_steps : (loading : Loading) (queues : List Kept) (ended : Result ⊤ Unloaded) (steps : List Step) (place : Place)
    (calls : List Call) (sents partial waiting : List Sent) (unloaded left rest taken more unfed : Option (List ℕ))
    → AreKept queues → loading.from ≤ 2 → AreTaken loading outset steps (Some (file_of queues)) unloaded place
    → sents ≡ asks_in steps ++ partial
    → EndsLoad loading ended place steps calls partial waiting left rest taken more unloaded unfed
    → Restores loading queues ended sents
after_steps loading queues ended [] place calls sents partial waiting None left rest taken more unfed kept from
    (read, same) made end = absurd read
after_steps loading queues ended [] place calls sents partial waiting (Some text) left rest taken more unfed kept from
    (read, same) made end =
    let asks = loads_of loading (zeros queues) queues in
    let ahead : Ahead loading outset (MayAllLoad loading queues) asks (file_of queues) =
    inr (inl (record {
      more = flat_map kept_text queues;
      line = first_line (flat_map kept_text queues);
      lines = refl;
      queue = refl;
    })) in
    restored_by loading queues ended sents [] asks partial (zeros queues) (zeros_each queues) refl made
    (ends loading outset (MayAllLoad loading queues) ended asks (file_of queues) [] calls partial waiting left rest
    taken more unfed (λ some. absurd (omega (arith, some))) ahead (λ queue is. none_some _ queue is)
    (subst (λ (t : List ℕ). EndsLoad loading ended outset [] calls partial waiting left rest taken more (Some t) unfed)
    (sym read) (subst (λ (p : Place).
    EndsLoad loading ended p [] calls partial waiting left rest taken more (Some text) unfed) same end)))
after_steps loading queues ended (step ∷ steps) place calls sents partial waiting unloaded left rest taken more unfed
    kept from (mid, second, next, takes, later) made end =
    let text = flat_map kept_text queues in
    let this = takes_this loading outset (file_of queues) entry.Format [] text step mid second
    (λ some. absurd (omega (arith, some))) (first_line text) next takes in
    let so_far = each_taken loading second (pos 0) [] queues steps unloaded place from tt kept
    (omega (arith, this.lines)) tt (λ queue is. none_some _ queue (sym this.asks.1 ∙ is))
    (subst (λ (m : Option (List ℕ)). AreTaken loading second steps m unloaded place) this.left later) in
    let asks = rest_asks loading so_far.open_id so_far.open_messages so_far.later_ids so_far.later in
    let ahead = ahead_of loading place so_far.open_id so_far.open_messages so_far.later_ids so_far.later
    so_far.later_each so_far.are_messages so_far.are_kept so_far.lines so_far.is_open in
    restored_by loading queues ended sents (asks_in steps) asks partial so_far.ids so_far.each so_far.splits
    (made ∙ ap (λ (l : List Sent). (l ++ asks_in steps) ++ partial) this.asks.0)
    (may_then loading (MayAllLoad loading queues) (MayAllLoad loading so_far.later) ended asks partial so_far.may_later
    (ends loading place (MayAllLoad loading so_far.later) ended asks
    (rest_text so_far.open_messages so_far.later) (step ∷ steps) calls partial waiting left rest taken more unfed
    (λ some. so_far.lines) ahead so_far.may
    (subst (λ (m : Option (List ℕ)).
    EndsLoad loading ended place (step ∷ steps) calls partial waiting left rest taken more m unfed) so_far.left end)))

-- ---- the identifiers

-- The calls that made these requests.
record AreMadeBy (first : Sent) (more : List Sent) (calls : List Call) : Type 0 where
  call : Call
  later : List Call
  are : calls ≡ call ∷ later
  asked : call.ask ≡ first.ask
  others : sent_by later ≡ more

made_by : (first : Sent) (more : List Sent) (calls : List Call) → sent_by calls ≡ first ∷ more
    → AreMadeBy first more calls
made_by first more [] same = no_sent first more same
  where
    no_sent : (first : Sent) (more : List Sent) → [] ≡ first ∷ more → AreMadeBy first more []
    no_sent first more same = absurd (cc same)
made_by first more (call ∷ later) same = record {
  call = call;
  later = later;
  are = refl;
  asked = first_ask (record { ask = call.ask; text = call.text }) first (sent_by later) more same;
  others = others_same (record { ask = call.ask; text = call.text }) first (sent_by later) more same;
}
  where
    first_ask : (a b : Sent) (x y : List Sent) → a ∷ x ≡ b ∷ y → a.ask ≡ b.ask
    first_ask a b x y same = let whole : a ≡ b = cc same in ap (λ (s : Sent). s.ask) whole

    others_same : (a b : Sent) (x y : List Sent) → a ∷ x ≡ b ∷ y → x ≡ y
    others_same a b x y same = cc same

-- A request for a queue names its identifier.
named_id : (found id : ℤ) (to : SetTo) (next : Ask) → next ≡ Set id to → NamesQueue found next → found ≡ id
named_id found id to next is (inl (other, same)) = one_id found id other to (sym same ∙ is)
  where
    one_id : (a b : ℤ) (x y : SetTo) → Set a x ≡ Set b y → a ≡ b
    one_id a b x y same = cc same
named_id found id to next is (inr (mtype, flags, same)) = no_set found id mtype flags to (sym same ∙ is)
  where
    no_set : (a b : ℤ) (mtype : ℤ) (flags : Flags) (y : SetTo) → Snd a mtype flags ≡ Set b y → a ≡ b
    no_set a b mtype flags y same = absurd (cc same)

-- The sends of a queue find none.
after_sends : (loading : Loading) (id : ℤ) (messages : List Message) (more : List Sent) (calls : List Call)
    → sent_by calls ≡ map (λ (m : Message). send_of loading id m.mtype m.body) messages ++ more
    → NamesFound calls []
    → (later : List Call) × (sent_by later ≡ more) × NamesFound later [] × (found_ids calls ≡ found_ids later)
after_sends loading id [] more calls same named = (calls, same, named, refl)
after_sends loading id (message ∷ messages) more calls same named =
    let made = made_by (send_of loading id message.mtype message.body)
    (map (λ (m : Message). send_of loading id m.mtype m.body) messages ++ more) calls same in
    let rest = after_sends loading id messages more made.later made.others
    (subst (λ (l : List Call). NamesFound l []) made.are named).1 in (
      rest.0,
      rest.1,
      rest.2,
      ap found_ids made.are
          ∙ ap (λ (a : Ask). found_by a made.call.answer ++ found_ids made.later) made.asked ∙ rest.3,
    )

-- The queue of a msgget and a msgctl.
found_queue : (queue : SavedQueue) (id : ℤ) (name : ℤ) (flags : Flags) (more : List Sent) (first : Call)
    (later : List Call) → first.ask ≡ Get name flags → sent_by later ≡ plain (set_ask queue id) ∷ more
    → NamesFound (first ∷ later) [] → id_after (pos 0) first.answer ≡ id
found_queue queue id name flags more first [] asked same named =
    no_sent (id_after (pos 0) first.answer) id (plain (set_ask queue id)) more same
  where
    no_sent : (a b : ℤ) (s : Sent) (more : List Sent) → [] ≡ s ∷ more → a ≡ b
    no_sent a b s more same = absurd (cc same)
found_queue queue id name flags more first (second ∷ later) asked same named =
    named_id (id_after (pos 0) first.answer) id
    (record { uid = queue.uid; gid = queue.gid; mode = queue.mode; qbytes = queue.qbytes }) second.ask
    (second_ask (record { ask = second.ask; text = second.text }) (plain (set_ask queue id)) (sent_by later) more same)
    (named.0 name flags asked)
  where
    second_ask : (a b : Sent) (x y : List Sent) → a ∷ x ≡ b ∷ y → a.ask ≡ b.ask
    second_ask a b x y same = let whole : a ≡ b = cc same in ap (λ (s : Sent). s.ask) whole

-- The identifiers of its calls.
queue_found : (queue : SavedQueue) (id name : ℤ) (flags : Flags) (calls later rest : List Call) (first second : Call)
    → calls ≡ first ∷ later → later ≡ second ∷ rest → first.ask ≡ Get name flags → second.ask ≡ set_ask queue id
    → found_ids calls ≡ id_after (pos 0) first.answer ∷ found_ids rest
queue_found queue id name flags calls later rest first second one two asked set =
    ap found_ids one
    ∙ ap (λ (l : List Call). found_by first.ask first.answer ++ found_ids l) two
    ∙ ap (λ (a : Ask). found_by a first.answer ++ found_ids (second ∷ rest)) asked
    ∙ ap (λ (a : Ask). id_after (pos 0) first.answer ∷ (found_by a second.answer ++ found_ids rest)) set

-- The flags of a msgget that makes this queue.
abbrev flags_to_load : Loading → SavedQueue → Flags
flags_to_load loading queue =
    if loading.into then record { 0 = bit_or IPC_CREAT.0 queue.mode } else flags_to_make queue.mode

ids_returned : (loading : Loading) (ids : List ℤ) (queues : List Kept) (calls : List Call)
    → length ids ≡ length queues → sent_by calls ≡ loads_of loading ids queues → NamesFound calls []
    → ids ≡ found_ids calls
ids_returned loading [] [] [] each same named = refl
ids_returned loading [] [] (call ∷ calls) each same named =
    no_call (record { ask = call.ask; text = call.text }) (sent_by calls) _ _ same
  where
    no_call : (s : Sent) (more : List Sent) (x y : List ℤ) → s ∷ more ≡ [] → x ≡ y
    no_call s more x y same = absurd (cc same)
ids_returned loading (id ∷ ids) [] calls each same named = absurd (omega (arith, each))
ids_returned loading [] (kept ∷ queues) calls each same named = absurd (omega (arith, each))
ids_returned loading (id ∷ ids) (kept ∷ queues) calls each same named =
    let queue = saved_of kept.id kept.stat in
    let more = loads_of loading ids queues in
    let sends = map (λ (m : Message). send_of loading id m.mtype m.body) kept.messages ++ more in
    let one = made_by (plain (make_ask loading queue)) (plain (set_ask queue id) ∷ sends) calls same in
    let first = subst (λ (l : List Call). NamesFound l []) one.are named in
    let two = made_by (plain (set_ask queue id)) sends one.later one.others in
    let second = subst (λ (l : List Call). NamesFound l []) two.are first.1 in
    let found = found_queue queue id queue.key (flags_to_load loading queue) sends one.call one.later one.asked
    one.others first in
    let rest = after_sends loading id kept.messages more two.later two.others second.1 in
    let later = ids_returned loading ids queues rest.0 (omega (arith, each)) rest.1 rest.2 in
    ap₂ (λ (i : ℤ) (l : List ℤ). i ∷ l) (sym found) (later ∙ sym rest.3)
    ∙ sym (queue_found queue id queue.key (flags_to_load loading queue) calls one.later two.later one.call two.call
    one.are two.are one.asked two.asked)

all_returned : (loading : Loading) (queues : List Kept) (ended : Result ⊤ Unloaded) (place : Place) (steps : List Step)
    (calls every : List Call) (partial waiting : List Sent) (left rest taken more fed unfed : Option (List ℕ))
    (restores : Restores loading queues ended (sent_by calls ++ waiting)) → NamesFound calls waiting
    → EndsLoad loading ended place steps every partial waiting left rest taken more fed unfed
    → OnOk ended (restores.ids ≡ found_ids calls)
all_returned loading queues (Ok done) place steps calls every partial waiting left rest taken more fed unfed restores
    named end =
    let none = end.0.none in
    let same : sent_by calls ≡ loads_of loading restores.ids queues =
    sym (restores.requests ∙ ap (λ (l : List Sent). (sent_by calls ++ waiting) ++ l) restores.all
    ∙ append-nil (sent_by calls ++ waiting) ∙ ap (λ (l : List Sent). sent_by calls ++ l) none
    ∙ append-nil (sent_by calls)) in
    ids_returned loading restores.ids queues calls restores.each same
    (subst (λ (l : List Sent). NamesFound calls l) none named)
all_returned loading queues (Err why) place steps calls every partial waiting left rest taken more fed unfed restores
    named end = tt

pub restores_text : (queues : List Kept) (bytes : List ℕ) → bytes ≡ file_of queues → AreKept queues
    → (loading : Loading) (ended : Result ⊤ Unloaded) (left rest taken more unfed : Option (List ℕ))
    (load : LoadsAll loading ended left rest taken more (Some bytes) unfed) → loading.from ≤ 2
    → IsRestored loading queues ended (line_calls load.calls) load.waiting
restores_text queues bytes is kept loading ended left rest taken more unfed load from =
    let calls = line_calls load.calls in
    let so = after_steps loading queues ended load.steps load.place load.calls (sent_by calls ++ load.waiting)
    load.partial load.waiting load.unloaded load.unread rest load.written more unfed kept from
    (subst (λ (t : List ℕ). AreTaken loading outset load.steps (Some t) load.unloaded load.place) is load.lines)
    load.made load.ends in record {
      ids = so.ids;
      later = so.later;
      each = so.each;
      requests = so.requests;
      all = so.all;
      returned = all_returned loading queues ended load.place load.steps calls load.calls load.partial load.waiting
          load.unread rest load.written more load.unloaded unfed so load.named load.ends;
      readable = so.readable;
    }

pub restores : (queues : List Kept) → AreKept queues → RestoresFile queues
restores queues kept loading ended left rest taken more unfed load from =
    restores_text queues (file_of queues) refl kept loading ended left rest taken more unfed load from
