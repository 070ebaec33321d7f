-- A session that holds messages in progress, and how it ends.
use Rattle.std.proofs.Common.{◌≡◌, ℕ, pos, ◌+◌, ◌<◌, List, [], ◌∷◌, ◌++◌, length, Option, None}
use Rattle.std.proofs.Common.{Result, Ok, Err, inl, inr, refl, sym, ap, subst, ◌∙◌, append_assoc, append-nil, arith}
use Rattle.std.proofs.lemmas.List.{length-append}
use Rattle.std.specs.Prelude.{⊤}
use Rattle.std.proofs.lemmas.List.Concat.{flat_map-append}
use Rattle.std.specs.Io.KnownBytes.{Appends, Consumes}
use Rattle.std.proofs.KnownBytes.{Appends-nil, Appends-trans, Consumes-trans}
use Rattle.sysv_clients.specs.declared.fault.ClientFault.{ClientFault}
use Rattle.sysv_clients.specs.declared.fault.ClientFault.TheVariants.{Refused, NoReply, NoMemory}
use Rattle.sysv_clients.specs.declared.holding.Unheld.{Unheld}
use Rattle.sysv_clients.specs.declared.holding.Unheld.TheVariants.{Fault, Screen, Undone}
use Rattle.sysv_clients.specs.declared.stream.Receiving.{Receiving}
use Rattle.sysv_clients.specs.declared.stream.Unshown.{Unshown}
use Rattle.sysv_clients.specs.declared.style.Style.{Style}
use Rattle.sysv_clients.specs.Asks.{find_ask, hold_ask, request_in}
use Rattle.sysv_clients.specs.Calls.{Call, FollowsPlan, IsCallDoneIn, MadeIn, read_in, written_in}
use Rattle.sysv_clients.specs.Dialogue.{ExchangesIn, id_after, reply_in}
use Rattle.sysv_clients.specs.Holding.{AreRounds, EndsHolds, FailsAtHeld, FindsToHold, HoldsAll, HoldsOne, IsHeld}
use Rattle.sysv_clients.specs.Holding.{IsRound, IsUndone, Round, calls_of, frame_in_three, held_text, holding_ask}
use Rattle.sysv_clients.specs.Holding.{rounds_text, text_by}
use Rattle.sysv_clients.specs.Stream.{count_of, finding_plan}
use Rattle.sysv_clients.specs.Style.{style_of_receipt}
use Rattle.sysv_clients.proofs.CallLemmas.{call_of, done_more_in, none_made_in, read_more_in, written_more_in}
use Rattle.sysv_model.specs.Writing.{AppendsPrefix}
use Rattle.sysv_wire.specs.declared.frame.Version.TheVariants.{Three}
use Rattle.sysv_wire.specs.declared.reply.ReplyContent.{ReplyContent}
use Rattle.sysv_wire.specs.declared.request.Ask.{Ask}
use Rattle.sysv_wire.specs.declared.request.Ask.TheVariants.{Done, Hello}
use Rattle.sysv_wire.specs.Replies.{reply_encoding}
use Rattle.sysv_wire.specs.Requests.{request_encoding}

-- The frame of a request with a body, as the code writes it.
abbrev pub frame : Ask → List ℕ → List ℕ
frame ask text = request_encoding (request_in Three ask) text

-- A request that is this one.
as_ask : (ask of : Ask) (text given : List ℕ) (r : Result ReplyContent ClientFault)
    (left rest taken more : Option (List ℕ)) → ask ≡ of
    → ExchangesIn Three (frame ask text) ask r left rest taken more given
    → ExchangesIn Three (frame of text) of r left rest taken more given
as_ask ask of text given r left rest taken more is exchange =
    subst (λ (a : Ask). ExchangesIn Three (frame a text) a r left rest taken more given) is exchange

-- The hello was done.
greets : (receiving : Receiving) (welcome : ReplyContent) (given text : List ℕ)
    (left rest taken more : Option (List ℕ))
    → ExchangesIn Three (frame (Hello receiving.cred) text) (Hello receiving.cred) (Ok welcome) left rest taken more
    given
    → MadeIn Three (IsCallDoneIn Three) (finding_plan receiving)
    (call_of (Hello receiving.cred) text welcome given ∷ []) left rest taken more
greets receiving welcome given text left rest taken more exchange =
    done_more_in Three (finding_plan receiving) [] (Hello receiving.cred) text welcome given left left rest taken taken
    more (none_made_in Three (IsCallDoneIn Three) (finding_plan receiving) left taken) refl exchange

-- The queue was found.
pub finds : (receiving : Receiving) (welcome got : ReplyContent) (greeted given text : List ℕ)
    (left mid rest taken more most : Option (List ℕ)) (ask : Ask)
    → ExchangesIn Three (frame (Hello receiving.cred) text) (Hello receiving.cred) (Ok welcome) left mid taken more
    greeted
    → ask ≡ find_ask receiving.receipt
    → ExchangesIn Three (frame ask text) ask (Ok got) mid rest more most given
    → FindsToHold receiving (Ok (hold_ask receiving.receipt (id_after (id_after (pos 0) welcome) got))) left rest taken
    most
finds receiving welcome got greeted given text left mid rest taken more most ask hello is find =
    let one = call_of (Hello receiving.cred) text welcome greeted in
    let two = call_of (find_ask receiving.receipt) text got given in (
      one ∷ two ∷ [],
      done_more_in Three (finding_plan receiving) (one ∷ []) (find_ask receiving.receipt) text got given left mid rest
          taken more most (greets receiving welcome greeted text left mid taken more hello) refl
          (as_ask ask (find_ask receiving.receipt) text given (Ok got) mid rest more most is find),
      refl,
      refl,
    )

-- A request that sends no body has a fault.
pub unanswered : (ask : Ask) (why : ClientFault) (text given : List ℕ) (left rest taken more : Option (List ℕ))
    → text ≡ [] → ExchangesIn Three (frame ask text) ask (Err why) left rest taken more given
    → ExchangesIn Three (frame_in_three ask) ask (Err why) left rest taken more []
unanswered ask (Refused error) text given left rest taken more is exchange =
    subst (λ (l : List ℕ). ExchangesIn Three (frame ask l) ask (Err (Refused error)) left rest taken more []) is
    exchange
unanswered ask NoReply text given left rest taken more is exchange =
    subst (λ (l : List ℕ). ExchangesIn Three (frame ask l) ask (Err NoReply) left rest taken more []) is exchange
unanswered ask NoMemory text given left rest taken more is exchange = absurd exchange

-- The hello has a fault.
pub no_hello : (receiving : Receiving) (why : ClientFault) (given text : List ℕ)
    (left rest taken more : Option (List ℕ)) → text ≡ []
    → ExchangesIn Three (frame (Hello receiving.cred) text) (Hello receiving.cred) (Err why) left rest taken more given
    → FindsToHold receiving (Err why) left rest taken more
no_hello receiving why given text left rest taken more is exchange = (
  [],
  left,
  taken,
  none_made_in Three (IsCallDoneIn Three) (finding_plan receiving) left taken,
  (Hello receiving.cred, refl, unanswered (Hello receiving.cred) why text given left rest taken more is exchange),
)

-- The request that finds the queue has a fault.
pub not_found : (receiving : Receiving) (welcome : ReplyContent) (why : ClientFault) (greeted given text : List ℕ)
    (left mid rest taken more most : Option (List ℕ)) (ask : Ask) → text ≡ []
    → ExchangesIn Three (frame (Hello receiving.cred) text) (Hello receiving.cred) (Ok welcome) left mid taken more
    greeted
    → ask ≡ find_ask receiving.receipt
    → ExchangesIn Three (frame ask text) ask (Err why) mid rest more most given
    → FindsToHold receiving (Err why) left rest taken most
not_found receiving welcome why greeted given text left mid rest taken more most ask is hello is_find find =
    let one = call_of (Hello receiving.cred) text welcome greeted in (
      one ∷ [],
      mid,
      more,
      greets receiving welcome greeted text left mid taken more hello,
      (
        find_ask receiving.receipt,
        refl,
        unanswered (find_ask receiving.receipt) why text given mid rest more most is
            (as_ask ask (find_ask receiving.receipt) text given (Err why) mid rest more most is_find find),
      ),
    )

-- A message was held.
is_held : (ask : Ask) (answer : ReplyContent) (text given : List ℕ) (left rest taken more : Option (List ℕ))
    → text ≡ [] → ExchangesIn Three (frame ask text) ask (Ok answer) left rest taken more given
    → IsHeld ask (call_of ask text answer given) left rest taken more
is_held ask answer text given left rest taken more is exchange = record {
  made = (refl, is, exchange.1.1);
  reads = subst (Consumes left rest) (sym (append-nil (reply_encoding (reply_in Three ask answer) given)))
      exchange.1.0;
  writes = subst (Appends taken more) (sym (append-nil (frame ask text))) exchange.0;
}

-- A message was held, shown and done.
pub holds_one : (style : Style) (ask : Ask) (answer finished : ReplyContent) (text given last : List ℕ)
    (left mid rest taken more most shown after : Option (List ℕ)) → text ≡ []
    → ExchangesIn Three (frame ask text) ask (Ok answer) left mid taken more given
    → Appends shown after (held_text style answer given)
    → ExchangesIn Three (frame Done text) Done (Ok finished) mid rest more most last
    → HoldsOne style ask (Ok tt) left rest taken most shown after
holds_one style ask answer finished text given last left mid rest taken more most shown after is hold show done =
    let one = call_of ask text answer given in
    let two = call_of Done text finished last in
    let held = is_held ask answer text given left mid taken more is hold in (
      record { held = one; done = two },
      (held.made, (refl, is, done.1.1)),
      subst (Consumes left rest) (sym (read_more_in Three (one ∷ []) two))
          (Consumes-trans left mid rest _ _ held.reads done.1.0),
      subst (Appends taken most) (sym (written_more_in Three (one ∷ []) two))
          (Appends-trans taken more most _ _ held.writes done.0),
      show,
    )

-- A message was held and shown, and its done has a fault.
pub undone : (style : Style) (ask : Ask) (answer : ReplyContent) (why : ClientFault) (text given last : List ℕ)
    (left mid rest taken more most shown after : Option (List ℕ)) → text ≡ []
    → ExchangesIn Three (frame ask text) ask (Ok answer) left mid taken more given
    → Appends shown after (held_text style answer given)
    → ExchangesIn Three (frame Done text) Done (Err why) mid rest more most last
    → HoldsOne style ask (Err (Undone why)) left rest taken most shown after
undone style ask answer why text given last left mid rest taken more most shown after is hold show done = record {
  held = call_of ask text answer given;
  unread = mid;
  written = more;
  holds = is_held ask answer text given left mid taken more is hold;
  shows = show;
  breaks = unanswered Done why text last mid rest more most is done;
}

-- A message was held, and the screen failed at it.
pub fails_at : (style : Style) (ask : Ask) (answer : ReplyContent) (unshown : Unshown) (text given : List ℕ)
    (left rest taken more shown after : Option (List ℕ)) → text ≡ []
    → ExchangesIn Three (frame ask text) ask (Ok answer) left rest taken more given
    → AppendsPrefix shown after (held_text style answer given)
    → HoldsOne style ask (Err (Screen unshown)) left rest taken more shown after
fails_at style ask answer unshown text given left rest taken more shown after is hold show = record {
  held = call_of ask text answer given;
  holds = is_held ask answer text given left rest taken more is hold;
  shows = show;
}

-- The hold has a fault.
pub not_held : (style : Style) (ask : Ask) (why : ClientFault) (text given : List ℕ)
    (left rest taken more shown : Option (List ℕ)) → text ≡ []
    → ExchangesIn Three (frame ask text) ask (Err why) left rest taken more given
    → HoldsOne style ask (Err (Fault why)) left rest taken more shown shown
not_held style ask why text given left rest taken more shown is hold =
    (unanswered ask why text given left rest taken more is hold, refl)

-- The queue was found, and messages were held, shown and done; this number of others is owed.
pub record Holds (receiving : Receiving) (ask : Ask) (owed : ℕ) (left rest taken more shown after : Option (List ℕ)) :
    Type 0 where
  pub opened : List Call
  pub rounds : List Round
  pub follows : FollowsPlan (IsCallDoneIn Three) (finding_plan receiving) [] opened
  pub found : finding_plan receiving opened ≡ None
  pub is_ask : ask ≡ holding_ask receiving opened
  pub are : AreRounds ask rounds
  pub counts : length rounds + owed ≡ count_of receiving
  pub reads : Consumes left rest (read_in Three (opened ++ calls_of rounds))
  pub writes : Appends taken more (written_in Three (opened ++ calls_of rounds))
  pub shows : Appends shown after (rounds_text (style_of_receipt receiving.receipt) rounds)

-- The queue was found.
pub begins : (receiving : Receiving) (ask : Ask) (owed : ℕ) (left rest taken more shown : Option (List ℕ))
    → FindsToHold receiving (Ok ask) left rest taken more → owed ≡ count_of receiving
    → Holds receiving ask owed left rest taken more shown shown
begins receiving ask owed left rest taken more shown (opened, made, found, is_ask) count = record {
  opened = opened;
  rounds = [];
  follows = made.follows;
  found = found;
  is_ask = is_ask;
  are = tt;
  counts = omega (arith, count);
  reads = subst (λ (l : List Call). Consumes left rest (read_in Three l)) (sym (append-nil opened)) made.reads;
  writes = subst (λ (l : List Call). Appends taken more (written_in Three l)) (sym (append-nil opened)) made.writes;
  shows = Appends-nil shown;
}

rounds_more : (ask : Ask) (rounds : List Round) (round : Round) → AreRounds ask rounds → IsRound ask round
    → AreRounds ask (rounds ++ round ∷ [])
rounds_more ask [] round are is = (is, tt)
rounds_more ask (first ∷ others) round are is = (are.0, rounds_more ask others round are.1 is)

-- The calls of one more message come last.
calls_more : (opened : List Call) (rounds : List Round) (round : Round) →
    opened ++ calls_of (rounds ++ round ∷ []) ≡ (opened ++ calls_of rounds) ++ calls_of (round ∷ [])
calls_more opened rounds round =
    ap (λ (l : List Call). opened ++ l)
    (flat_map-append (λ (r : Round). r.held ∷ r.done ∷ []) rounds (round ∷ []))
    ∙ sym (append_assoc opened (calls_of rounds) (calls_of (round ∷ [])))

reads_both : (first second : List Call) → read_in Three (first ++ second) ≡ read_in Three first ++ read_in Three second
reads_both first second =
    flat_map-append (λ (e : Call). reply_encoding (reply_in Three e.ask e.answer) e.given) first second

writes_both : (first second : List Call) →
    written_in Three (first ++ second) ≡ written_in Three first ++ written_in Three second
writes_both first second =
    flat_map-append (λ (e : Call). request_encoding (request_in Three e.ask) e.text) first second

text_more : (style : Style) (rounds : List Round) (round : Round) →
    rounds_text style (rounds ++ round ∷ []) ≡ rounds_text style rounds ++ text_by style round.held
text_more style rounds round =
    flat_map-append (λ (r : Round). text_by style r.held) rounds (round ∷ [])
    ∙ ap (λ (l : List ℕ). rounds_text style rounds ++ l) (append-nil (text_by style round.held))

-- One more message.
pub holds_more : (receiving : Receiving) (style : Style) (ask : Ask) (owed fewer : ℕ)
    (left mid rest taken more most shown after later : Option (List ℕ))
    → style ≡ style_of_receipt receiving.receipt
    → Holds receiving ask owed left mid taken more shown after → fewer + 1 ≡ owed
    → HoldsOne style ask (Ok tt) mid rest more most after later
    → Holds receiving ask fewer left rest taken most shown later
holds_more receiving style ask owed fewer left mid rest taken more most shown after later is so_far less
    (round, is_round, read, write, show) =
    let calls = so_far.opened ++ calls_of so_far.rounds in
    let new = calls_of (round ∷ []) in record {
      opened = so_far.opened;
      rounds = so_far.rounds ++ round ∷ [];
      follows = so_far.follows;
      found = so_far.found;
      is_ask = so_far.is_ask;
      are = rounds_more ask so_far.rounds round so_far.are is_round;
      counts = ap (λ (n : ℕ). n + fewer) (length-append so_far.rounds (round ∷ []))
          ∙ omega (arith, less, so_far.counts);
      reads = subst (Consumes left rest)
          (sym (ap (read_in Three) (calls_more so_far.opened so_far.rounds round) ∙ reads_both calls new))
          (Consumes-trans left mid rest _ _ so_far.reads read);
      writes = subst (Appends taken most)
          (sym (ap (written_in Three) (calls_more so_far.opened so_far.rounds round) ∙ writes_both calls new))
          (Appends-trans taken more most _ _ so_far.writes write);
      shows = subst (Appends shown later)
          (sym (text_more (style_of_receipt receiving.receipt) so_far.rounds round))
          (Appends-trans shown after later _ _ so_far.shows
          (subst (λ (s : Style). Appends after later (text_by s round.held)) is show));
    }

-- The session ends after these messages.
ends : (receiving : Receiving) (ask : Ask) (owed : ℕ) (ended : Result ⊤ Unheld)
    (left mid rest taken more most shown after later : Option (List ℕ))
    → (so_far : Holds receiving ask owed left mid taken more shown after)
    → EndsHolds receiving ended so_far.opened so_far.rounds mid rest more most after later
    → HoldsAll receiving ended left rest taken most shown later
ends receiving ask owed ended left mid rest taken more most shown after later so_far how = record {
  opened = so_far.opened;
  rounds = so_far.rounds;
  unread = mid;
  written = more;
  showed = after;
  follows = so_far.follows;
  are = subst (λ (a : Ask). AreRounds a so_far.rounds) so_far.is_ask so_far.are;
  owed = let counts = so_far.counts in omega (arith, counts);
  reads = so_far.reads;
  writes = so_far.writes;
  shows = so_far.shows;
  ends = how;
}

-- No more messages are owed.
pub all_done : (receiving : Receiving) (ask : Ask) (owed : ℕ) (left rest taken more shown after : Option (List ℕ))
    → Holds receiving ask owed left rest taken more shown after → owed ≡ 0
    → HoldsAll receiving (Ok tt) left rest taken more shown after
all_done receiving ask owed left rest taken more shown after so_far none =
    let counts = so_far.counts in
    ends receiving ask owed (Ok tt) left rest rest taken more more shown after after so_far
    (so_far.found, omega (arith, counts, none), refl, refl, refl)

-- The next message ends the session.
pub ends_at_next : (receiving : Receiving) (style : Style) (ask : Ask) (owed : ℕ) (why : Unheld)
    (left mid rest taken more most shown after later : Option (List ℕ))
    → style ≡ style_of_receipt receiving.receipt
    → Holds receiving ask owed left mid taken more shown after → 0 < owed
    → HoldsOne style ask (Err why) mid rest more most after later
    → HoldsAll receiving (Err why) left rest taken most shown later
ends_at_next receiving style ask owed (Fault (Refused error)) left mid rest taken more most shown after later is so_far
    some next =
    let counts = so_far.counts in
    ends receiving ask owed (Err (Fault (Refused error))) left mid rest taken more most shown after later so_far
    (inr (
      so_far.found,
      omega (arith, counts, some),
      subst (λ (a : Ask). HoldsOne style a (Err (Fault (Refused error))) mid rest more most after later) so_far.is_ask
          next,
    ))
ends_at_next receiving style ask owed (Fault NoReply) left mid rest taken more most shown after later is so_far some
    next =
    let counts = so_far.counts in
    ends receiving ask owed (Err (Fault NoReply)) left mid rest taken more most shown after later so_far
    (inr (
      so_far.found,
      omega (arith, counts, some),
      subst (λ (a : Ask). HoldsOne style a (Err (Fault NoReply)) mid rest more most after later) so_far.is_ask next,
    ))
ends_at_next receiving style ask owed (Fault NoMemory) left mid rest taken more most shown after later is so_far some
    next = absurd next.0
ends_at_next receiving style ask owed (Screen unshown) left mid rest taken more most shown after later is so_far some
    next =
    let counts = so_far.counts in
    ends receiving ask owed (Err (Screen unshown)) left mid rest taken more most shown after later so_far (
      so_far.found,
      omega (arith, counts, some),
      subst (λ (s : Style). FailsAtHeld s (holding_ask receiving so_far.opened) mid rest more most after later) is
          (subst (λ (a : Ask). FailsAtHeld style a mid rest more most after later) so_far.is_ask next),
    )
ends_at_next receiving style ask owed (Undone why) left mid rest taken more most shown after later is so_far some
    next =
    let counts = so_far.counts in
    ends receiving ask owed (Err (Undone why)) left mid rest taken more most shown after later so_far (
      so_far.found,
      omega (arith, counts, some),
      subst (λ (s : Style). IsUndone s (holding_ask receiving so_far.opened) why mid rest more most after later) is
          (subst (λ (a : Ask). IsUndone style a why mid rest more most after later) so_far.is_ask next),
    )

-- The session ends before the first hold.
breaks_before : (receiving : Receiving) (why : ClientFault) (opened : List Call)
    (left mid rest taken more most shown : Option (List ℕ))
    → MadeIn Three (IsCallDoneIn Three) (finding_plan receiving) opened left mid taken more
    → EndsHolds receiving (Err (Fault why)) opened [] mid rest more most shown shown
    → HoldsAll receiving (Err (Fault why)) left rest taken most shown shown
breaks_before receiving why opened left mid rest taken more most shown made how = record {
  opened = opened;
  rounds = [];
  unread = mid;
  written = more;
  showed = shown;
  follows = made.follows;
  are = tt;
  owed = omega (arith);
  reads = subst (λ (l : List Call). Consumes left mid (read_in Three l)) (sym (append-nil opened)) made.reads;
  writes = subst (λ (l : List Call). Appends taken more (written_in Three l)) (sym (append-nil opened)) made.writes;
  shows = Appends-nil shown;
  ends = how;
}

-- A request before the first hold ends the session.
pub unfound : (receiving : Receiving) (why : ClientFault) (left rest taken more shown : Option (List ℕ))
    → FindsToHold receiving (Err why) left rest taken more
    → HoldsAll receiving (Err (Fault why)) left rest taken more shown shown
unfound receiving (Refused error) left rest taken more shown (opened, unread, written, made, breaks) =
    breaks_before receiving (Refused error) opened left unread rest taken written more shown made
    (inl (record { no_rounds = refl; breaks = breaks; showed = refl }))
unfound receiving NoReply left rest taken more shown (opened, unread, written, made, breaks) =
    breaks_before receiving NoReply opened left unread rest taken written more shown made
    (inl (record { no_rounds = refl; breaks = breaks; showed = refl }))
unfound receiving NoMemory left rest taken more shown (opened, unread, written, made, breaks) = absurd breaks.2

-- Memory was refused.
pub unbegun : (receiving : Receiving) (left taken shown : Option (List ℕ))
    → HoldsAll receiving (Err (Fault NoMemory)) left left taken taken shown shown
unbegun receiving left taken shown =
    breaks_before receiving NoMemory [] left left left taken taken taken shown
    (none_made_in Three (IsCallDoneIn Three) (finding_plan receiving) left taken)
    (record { no_calls = refl; no_rounds = refl; read = refl; wrote = refl; showed = refl })
