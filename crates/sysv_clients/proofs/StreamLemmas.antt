-- A session of several messages in progress, and how it ends.
use Rattle.std.proofs.Common.{◌≡◌, ℕ, zero, suc, pos, ◌+◌, ◌-◌, ◌<◌, ◌≤◌, List, [], ◌∷◌, ◌++◌, Option, None}
use Rattle.std.proofs.Common.{Some, length}
use Rattle.std.proofs.Common.{Ok, Err, ◌⊎◌, inl, inr, refl, sym, ap, subst, ◌∙◌, append_assoc, append-nil, arith}
use Rattle.std.proofs.lemmas.List.{length-append}
use Rattle.std.proofs.lemmas.List.Concat.{flat_map-append}
use Rattle.std.specs.Io.KnownBytes.{Appends, Consumes}
use Rattle.std.proofs.KnownBytes.{Appends-nil, Appends-trans, Consumes-nil, Consumes-trans}
use Rattle.sysv_clients.specs.declared.fault.ClientFault.{ClientFault}
use Rattle.sysv_clients.specs.declared.fault.ClientFault.TheVariants.{Refused, NoReply, NoMemory}
use Rattle.sysv_clients.specs.declared.stream.Receiving.{Receiving}
use Rattle.sysv_clients.specs.declared.stream.Stop.TheVariants.{Fault, Screen}
use Rattle.sysv_clients.specs.declared.stream.Taking.{Taking}
use Rattle.sysv_clients.specs.declared.stream.Unshown.{Unshown}
use Rattle.sysv_clients.specs.declared.style.Style.{Style}
use Rattle.sysv_clients.specs.Asks.{find_ask, receive_ask, request_of}
use Rattle.sysv_clients.specs.Calls.{BreaksPlan, Call, Each, IsCallDone, Made, read_by, written_by}
use Rattle.sysv_clients.specs.Stream.{AreTakenByScreen, EndsTakes, EndsTaking, IsRefusedIn, IsReplied, IsUnshown}
use Rattle.sysv_clients.specs.Stream.{StopsAtLast, TakesAll, ahead_of}
use Rattle.sysv_clients.specs.Stream.{count_of, finding_plan, received_text, repeated_encoding, shown_by, taking_ask}
use Rattle.sysv_clients.specs.Style.{style_of_receipt}
use Rattle.sysv_clients.specs.Taking.{Finds, IsTaken, MeetsFault, ShowsBut, ShowsPart, Stops, Takes, TakesBut}
use Rattle.sysv_clients.specs.Taking.{ended_by, first_fault}
use Rattle.sysv_clients.specs.Dialogue.{Exchanges, HasNoReply, IsDone, id_after, reply_to}
use Rattle.sysv_clients.proofs.CallLemmas.{call_of, done_more, none_made, written_more}
use Rattle.sysv_clients.proofs.WindowLemmas.{between, between_first, between_second, each_more, read_so}
use Rattle.sysv_model.specs.declared.errno.Errno.{Errno}
use Rattle.sysv_model.specs.Writing.{AppendsPrefix}
use Rattle.sysv_wire.specs.declared.reply.ReplyContent.{ReplyContent}
use Rattle.sysv_wire.specs.declared.reply.ReplyContent.TheVariants as content
use Rattle.sysv_wire.specs.declared.request.Ask.{Ask}
use Rattle.sysv_wire.specs.declared.request.Ask.TheVariants.{Hello}
use Rattle.sysv_wire.specs.Replies.{reply_encoding}
use Rattle.sysv_wire.specs.Requests.{request_encoding}

-- A request that is this one.
as_ask : (ask of : Ask) (text given : List ℕ) (r : _) (left rest taken more : Option (List ℕ)) → ask ≡ of
    → Exchanges (request_encoding (request_of ask) text) ask r left rest taken more given
    → Exchanges (request_encoding (request_of of) text) of r left rest taken more given
as_ask ask of text given r left rest taken more is exchange =
    subst (λ (a : Ask). Exchanges (request_encoding (request_of a) text) a r left rest taken more given) is exchange

-- The hello was done.
greets : (receiving : Receiving) (welcome : ReplyContent) (given text : List ℕ)
    (left rest taken more : Option (List ℕ))
    → Exchanges (request_encoding (request_of (Hello receiving.cred)) text) (Hello receiving.cred) (Ok welcome) left
    rest taken more given
    → Made IsCallDone (finding_plan receiving) (call_of (Hello receiving.cred) text welcome given ∷ []) left rest taken
    more
greets receiving welcome given text left rest taken more exchange =
    done_more (finding_plan receiving) [] (Hello receiving.cred) text welcome given left left rest taken taken more
    (none_made IsCallDone (finding_plan receiving) left taken) refl exchange

-- The queue was found.
pub finds : (receiving : Receiving) (welcome got : ReplyContent) (greeted given text : List ℕ)
    (left mid rest taken more most : Option (List ℕ)) (ask : Ask) (owed : ℕ)
    → Exchanges (request_encoding (request_of (Hello receiving.cred)) text) (Hello receiving.cred) (Ok welcome) left mid
    taken more greeted
    → ask ≡ find_ask receiving.receipt
    → Exchanges (request_encoding (request_of ask) text) ask (Ok got) mid rest more most given
    → owed ≡ count_of receiving
    → Finds receiving (Ok (record {
      ask = receive_ask receiving.receipt (id_after (id_after (pos 0) welcome) got);
      owed = owed;
      waiting = 0;
    })) left rest taken most
finds receiving welcome got greeted given text left mid rest taken more most ask owed hello is find count =
    let one = call_of (Hello receiving.cred) text welcome greeted in
    let two = call_of (find_ask receiving.receipt) text got given in (
      one ∷ two ∷ [],
      done_more (finding_plan receiving) (one ∷ []) (find_ask receiving.receipt) text got given left mid rest taken more
          most (greets receiving welcome greeted text left mid taken more hello) refl
          (as_ask ask (find_ask receiving.receipt) text given (Ok got) mid rest more most is find),
      refl,
      refl,
      count,
      refl,
    )

-- A fault in what was read or written last.
breaks_by : (receiving : Receiving) (opened : List Call) (why : ClientFault) (ask : Ask) (text given : List ℕ)
    (left rest taken more : Option (List ℕ)) → finding_plan receiving opened ≡ Some ask → text ≡ []
    → Exchanges (request_encoding (request_of ask) text) ask (Err why) left rest taken more given
    → BreaksPlan (finding_plan receiving) opened [] why left rest taken more
breaks_by receiving opened (Refused error) ask text given left rest taken more next is exchange = (
  ask,
  next,
  subst (λ (l : List ℕ).
      Exchanges (request_encoding (request_of ask) l) ask (Err (Refused error)) left rest taken more []) is exchange,
)
breaks_by receiving opened NoReply ask text given left rest taken more next is exchange = (
  ask,
  next,
  subst (λ (l : List ℕ). Exchanges (request_encoding (request_of ask) l) ask (Err NoReply) left rest taken more []) is
      exchange,
)
breaks_by receiving opened NoMemory ask text given left rest taken more next is exchange = absurd exchange

-- The hello has a fault.
pub no_hello : (receiving : Receiving) (why : ClientFault) (given text : List ℕ)
    (left rest taken more : Option (List ℕ)) → text ≡ []
    → Exchanges (request_encoding (request_of (Hello receiving.cred)) text) (Hello receiving.cred) (Err why) left rest
    taken more given
    → Finds receiving (Err why) left rest taken more
no_hello receiving why given text left rest taken more is exchange = (
  [],
  left,
  taken,
  none_made IsCallDone (finding_plan receiving) left taken,
  breaks_by receiving [] why (Hello receiving.cred) text given left rest taken more refl is exchange,
)

-- The request that finds the queue has a fault.
pub not_found : (receiving : Receiving) (welcome : ReplyContent) (why : ClientFault) (greeted given text : List ℕ)
    (left mid rest taken more most : Option (List ℕ)) (ask : Ask) → text ≡ []
    → Exchanges (request_encoding (request_of (Hello receiving.cred)) text) (Hello receiving.cred) (Ok welcome) left mid
    taken more greeted
    → ask ≡ find_ask receiving.receipt
    → Exchanges (request_encoding (request_of ask) text) ask (Err why) mid rest more most given
    → Finds receiving (Err why) left rest taken most
not_found receiving welcome why greeted given text left mid rest taken more most ask is hello is_find find =
    let one = call_of (Hello receiving.cred) text welcome greeted in (
      one ∷ [],
      mid,
      more,
      greets receiving welcome greeted text left mid taken more hello,
      breaks_by receiving (one ∷ []) why (find_ask receiving.receipt) text given mid rest more most refl is
          (as_ask ask (find_ask receiving.receipt) text given (Err why) mid rest more most is_find find),
    )

-- A request before the first receive ends the session.
pub unfound : (page : List ℕ) (receiving : Receiving) (why : ClientFault)
    (left rest taken more shown : Option (List ℕ)) → page ≡ [] → Finds receiving (Err why) left rest taken more
    → TakesBut page receiving (Err (Fault why)) left rest taken more shown shown
unfound page receiving (Refused error) left rest taken more shown is (opened, unread, written, made, breaks) = record {
  opened = opened;
  takes = [];
  waiting = 0;
  unread = unread;
  written = written;
  follows = made.follows;
  replied = tt;
  few = omega arith;
  owed = omega arith;
  reads = subst (λ l. Consumes left unread (read_by l)) (sym (append-nil opened)) made.reads;
  writes = subst (λ l. Appends taken written (written_by l)) (sym (append-nil opened)) made.writes;
  ends = inl (record { no_takes = refl; none = refl; breaks = breaks });
  shows = ([], sym is, Appends-nil shown);
  alone = λ one. is;
}
unfound page receiving NoReply left rest taken more shown is (opened, unread, written, made, breaks) = record {
  opened = opened;
  takes = [];
  waiting = 0;
  unread = unread;
  written = written;
  follows = made.follows;
  replied = tt;
  few = omega arith;
  owed = omega arith;
  reads = subst (λ l. Consumes left unread (read_by l)) (sym (append-nil opened)) made.reads;
  writes = subst (λ l. Appends taken written (written_by l)) (sym (append-nil opened)) made.writes;
  ends = inl (record { no_takes = refl; none = refl; breaks = breaks });
  shows = ([], sym is, Appends-nil shown);
  alone = λ one. is;
}
unfound page receiving NoMemory left rest taken more shown is (opened, unread, written, made, breaks) = absurd breaks.2

-- Memory is refused, and no request was made.
pub refused : (receiving : Receiving) (left taken shown : Option (List ℕ))
    → TakesAll receiving (Err (Fault NoMemory)) left left taken taken shown shown
refused receiving left taken shown = record {
  opened = [];
  takes = [];
  waiting = 0;
  unread = left;
  written = taken;
  follows = tt;
  replied = tt;
  few = omega arith;
  owed = omega arith;
  reads = Consumes-nil left;
  writes = Appends-nil taken;
  ends = record { no_calls = refl; no_takes = refl; none = refl; read = refl; wrote = refl };
  shows = Appends-nil shown;
  at_once = tt;
}

-- The queue was found, and nothing was received yet.
pub begins : (page : List ℕ) (receiving : Receiving) (taking : Taking) (left rest taken more shown : Option (List ℕ))
    → page ≡ [] → Finds receiving (Ok taking) left rest taken more
    → Takes page receiving left rest taken more shown shown taking
begins page receiving taking left rest taken more shown empty (opened, made, found, is, count, none) = record {
  opened = opened;
  takes = [];
  follows = made.follows;
  found = found;
  ask = is;
  took = tt;
  reads = subst (λ l. Consumes left rest (read_by l)) (sym (append-nil opened)) made.reads;
  writes = subst (λ (n : ℕ).
      Appends taken more (written_by (opened ++ []) ++ repeated_encoding (taking_ask receiving opened) n)) (sym none)
      (subst (Appends taken more) (sym (append-nil (written_by (opened ++ []))))
      (subst (λ l. Appends taken more (written_by l)) (sym (append-nil opened)) made.writes));
  shows = ([], sym empty, Appends-nil shown);
  alone = λ one. empty;
  owes = omega (arith, count);
  due = omega (arith, none);
  few = omega (arith, none);
}

-- The frames of some requests and of others.
repeated_more : (ask : Ask) (count more : ℕ) →
    repeated_encoding ask (count + more) ≡ repeated_encoding ask count ++ repeated_encoding ask more
repeated_more ask zero more =
    let none : 0 + more ≡ more = omega arith in ap (repeated_encoding ask) none
repeated_more ask (suc count) more =
    let next : suc count + more ≡ suc (count + more) = omega arith in
    let frame = request_encoding (request_of ask) [] in
    ap (repeated_encoding ask) next ∙ ap (λ (l : List ℕ). frame ++ l) (repeated_more ask count more)
    ∙ sym (append_assoc frame (repeated_encoding ask count) (repeated_encoding ask more))

-- More receives were written.
pub asks_more : (page : List ℕ) (receiving : Receiving) (left rest taken more most shown after : Option (List ℕ))
    (taking now : Taking)
    (added : ℕ)
    → Takes page receiving left rest taken more shown after taking → now.ask ≡ taking.ask → now.owed ≡ taking.owed
    → now.waiting ≡ taking.waiting + added → now.waiting ≤ taking.owed → now.waiting ≤ ahead_of receiving
    → Appends more most (repeated_encoding taking.ask added)
    → Takes page receiving left rest taken most shown after now
asks_more page receiving left rest taken more most shown after taking now added so_far same owes many due few wrote =
    let ask = taking_ask receiving so_far.opened in
    let calls = so_far.opened ++ so_far.takes in
    let frames = repeated_encoding ask taking.waiting in
    record {
      opened = so_far.opened;
      takes = so_far.takes;
      follows = so_far.follows;
      found = so_far.found;
      ask = same ∙ so_far.ask;
      took = so_far.took;
      reads = so_far.reads;
      writes = subst (Appends taken most)
          (append_assoc (written_by calls) frames (repeated_encoding ask added)
          ∙ ap (λ (l : List ℕ). written_by calls ++ l)
          (sym (ap (repeated_encoding ask) many ∙ repeated_more ask taking.waiting added)))
          (Appends-trans taken more most _ _ so_far.writes
          (subst (λ (a : Ask). Appends more most (repeated_encoding a added)) so_far.ask wrote));
      shows = so_far.shows;
      alone = so_far.alone;
      owes = omega (arith, so_far.owes, owes);
      due = omega (arith, due, owes);
      few = few;
    }

shown_more : (style : Style) (calls : List Call) (one : Call) →
    shown_by style (calls ++ one ∷ []) ≡ shown_by style calls ++ received_text style one.answer one.given
shown_more style calls one =
    flat_map-append (λ (e : Call). received_text style e.answer e.given) calls (one ∷ [])
    ∙ ap (λ l. shown_by style calls ++ l) (append-nil (received_text style one.answer one.given))

-- A message in this style.
pub as_shown : (page now : List ℕ) (style of : Style) (answer : ReplyContent) (given : List ℕ)
    (shown after : Option (List ℕ)) → style ≡ of
    → ShowsBut now (page ++ received_text style answer given) shown after
    → ShowsBut now (page ++ received_text of answer given) shown after
as_shown page now style of answer given shown after is shows =
    subst (λ (s : Style). ShowsBut now (page ++ received_text s answer given) shown after) is shows

pub as_part : (page : List ℕ) (style of : Style) (answer : ReplyContent) (given : List ℕ)
    (shown after : Option (List ℕ)) → style ≡ of
    → ShowsPart (page ++ received_text style answer given) shown after
    → ShowsPart (page ++ received_text of answer given) shown after
as_part page style of answer given shown after is shows =
    subst (λ (s : Style). ShowsPart (page ++ received_text s answer given) shown after) is shows

-- The frames of the calls with one more, and of the receives after it.
written_so : (opened takes : List Call) (ask : Ask) (answer : ReplyContent) (given : List ℕ) (count : ℕ) →
    written_by (opened ++ takes) ++ repeated_encoding ask (suc count)
    ≡ written_by (opened ++ (takes ++ call_of ask [] answer given ∷ [])) ++ repeated_encoding ask count
written_so opened takes ask answer given count =
    let one = call_of ask [] answer given in
    sym (append_assoc (written_by (opened ++ takes)) (request_encoding (request_of ask) [])
    (repeated_encoding ask count))
    ∙ ap (λ l. l ++ repeated_encoding ask count)
    (sym (written_more (opened ++ takes) one) ∙ ap written_by (append_assoc opened takes (one ∷ [])))

-- One more receive has a reply.
writes_so : (taken more : Option (List ℕ)) (opened takes : List Call) (ask : Ask) (answer : ReplyContent)
    (given : List ℕ) (waiting fewer : ℕ) → waiting ≡ fewer + 1
    → Appends taken more (written_by (opened ++ takes) ++ repeated_encoding ask waiting)
    → Appends taken more
    (written_by (opened ++ (takes ++ call_of ask [] answer given ∷ [])) ++ repeated_encoding ask fewer)
writes_so taken more opened takes ask answer given waiting fewer some wrote =
    let next : waiting ≡ suc fewer = omega (arith, some) in
    subst (Appends taken more)
    (ap (λ (n : ℕ). written_by (opened ++ takes) ++ repeated_encoding ask n) next
    ∙ written_so opened takes ask answer given fewer) wrote

reads_so : (left mid rest : Option (List ℕ)) (opened takes : List Call) (ask of : Ask) (answer : ReplyContent)
    (given : List ℕ) → of ≡ ask → Consumes left mid (read_by (opened ++ takes))
    → Consumes mid rest (reply_encoding (reply_to of answer) given)
    → Consumes left rest (read_by (opened ++ (takes ++ call_of ask [] answer given ∷ [])))
reads_so left mid rest opened takes ask of answer given is before read =
    subst (Consumes left rest) (sym (read_so opened takes (call_of ask [] answer given)))
    (Consumes-trans left mid rest _ _ before
    (subst (λ (a : Ask). Consumes mid rest (reply_encoding (reply_to a answer) given)) is read))

-- A prefix of some bytes is one of these and others.
longer_prefix : (taken more : Option (List ℕ)) (bytes others : List ℕ) → AppendsPrefix taken more bytes →
    AppendsPrefix taken more (bytes ++ others)
longer_prefix taken more bytes others (part, (rest, split), wrote) = (
  part,
  (rest ++ others, ap (λ (l : List ℕ). l ++ others) split ∙ append_assoc part rest others),
  wrote,
)

-- A prefix after all of the bytes before it.
prefix_after : (taken mid more : Option (List ℕ)) (bytes others : List ℕ) → Appends taken mid bytes →
    AppendsPrefix mid more others → AppendsPrefix taken more (bytes ++ others)
prefix_after taken mid more bytes others first (part, (rest, split), second) = (
  bytes ++ part,
  (rest, ap (λ (l : List ℕ). bytes ++ l) split ∙ sym (append_assoc bytes part rest)),
  Appends-trans taken mid more bytes part first second,
)

-- More was collected or shown.
but_more : (page now text more : List ℕ) (shown so after : Option (List ℕ)) → ShowsBut page text shown so
    → ShowsBut now (page ++ more) so after → ShowsBut now (text ++ more) shown after
but_more page now text more shown so after (part, split, shows) (next, joined, adds) = (
  part ++ next,
  ap (λ (l : List ℕ). l ++ more) split ∙ append_assoc part page more ∙ ap (λ (l : List ℕ). part ++ l) joined
      ∙ sym (append_assoc part next now),
  Appends-trans shown so after part next shows adds,
)

-- The page is the same, and so is what was shown.
but_same : (page now text : List ℕ) (shown so after : Option (List ℕ)) → now ≡ page → after ≡ so
    → ShowsBut page text shown so → ShowsBut now text shown after
but_same page now text shown so after same kept shows =
    subst (λ (l : List ℕ). ShowsBut l text shown after) (sym same)
    (subst (λ (s : Option (List ℕ)). ShowsBut page text shown s) (sym kept) shows)

-- The screen failed at the page and more.
part_more : (page text more : List ℕ) (shown so after : Option (List ℕ)) → ShowsBut page text shown so
    → ShowsPart (page ++ more) so after → ShowsPart (text ++ more) shown after
part_more page text more shown so after (part, split, shows) (some, fails) =
    let whole : part ++ (page ++ more) ≡ text ++ more =
    sym (append_assoc part page more) ∙ ap (λ (l : List ℕ). l ++ more) (sym split) in (
      subst (λ (l : List ℕ). 0 < length l) whole (omega (arith, some, length-append part (page ++ more))),
      subst (AppendsPrefix shown after) whole (prefix_after shown so after part (page ++ more) shows fails),
    )

-- More was collected, and then all of it was shown.
pub but_whole : (page text more whole now : List ℕ) (shown so after : Option (List ℕ)) → ShowsBut page text shown so
    → whole ≡ page ++ more → now ≡ [] → Appends so after whole → ShowsBut now (text ++ more) shown after
but_whole page text more whole now shown so after (part, split, shows) is none adds = (
  part ++ whole,
  ap (λ (l : List ℕ). l ++ more) split ∙ append_assoc part page more ∙ ap (λ (l : List ℕ). part ++ l) (sym is)
      ∙ sym (append-nil (part ++ whole)) ∙ ap (λ (l : List ℕ). (part ++ whole) ++ l) (sym none),
  Appends-trans shown so after part whole shows adds,
)

-- More was collected, and then the screen failed.
pub part_whole : (page text more whole : List ℕ) (shown so after : Option (List ℕ)) → ShowsBut page text shown so
    → whole ≡ page ++ more → ShowsPart whole so after → ShowsPart (text ++ more) shown after
part_whole page text more whole shown so after shows is fails =
    part_more page text more shown so after shows (subst (λ (l : List ℕ). ShowsPart l so after) is fails)

-- The screen failed before more was collected.
pub part_longer : (text more : List ℕ) (shown after : Option (List ℕ)) → ShowsPart text shown after →
    ShowsPart (text ++ more) shown after
part_longer text more shown after (some, fails) =
    (omega (arith, some, length-append text more), longer_prefix shown after text more fails)

shows_so : (page now : List ℕ) (shown so after : Option (List ℕ)) (style : Style) (takes : List Call) (one : Call)
    → ShowsBut page (shown_by style takes) shown so
    → ShowsBut now (page ++ received_text style one.answer one.given) so after
    → ShowsBut now (shown_by style (takes ++ one ∷ [])) shown after
shows_so page now shown so after style takes one before shows =
    subst (λ (l : List ℕ). ShowsBut now l shown after) (sym (shown_more style takes one))
    (but_more page now (shown_by style takes) (received_text style one.answer one.given) shown so after before shows)

part_so : (page : List ℕ) (shown so after : Option (List ℕ)) (style : Style) (takes : List Call) (one : Call)
    → ShowsBut page (shown_by style takes) shown so
    → ShowsPart (page ++ received_text style one.answer one.given) so after
    → ShowsPart (shown_by style (takes ++ one ∷ [])) shown after
part_so page shown so after style takes one before shows =
    subst (λ (l : List ℕ). ShowsPart l shown after) (sym (shown_more style takes one))
    (part_more page (shown_by style takes) (received_text style one.answer one.given) shown so after before shows)

-- A receive that was refused shows nothing.
same_so : (page now : List ℕ) (shown so after : Option (List ℕ)) (style : Style) (takes : List Call) (one : Call)
    → received_text style one.answer one.given ≡ [] → now ≡ page → after ≡ so
    → ShowsBut page (shown_by style takes) shown so
    → ShowsBut now (shown_by style (takes ++ one ∷ [])) shown after
same_so page now shown so after style takes one none same kept before =
    subst (λ (l : List ℕ). ShowsBut now l shown after)
    (sym (shown_more style takes one ∙ ap (λ (l : List ℕ). shown_by style takes ++ l) none
    ∙ append-nil (shown_by style takes)))
    (but_same page now (shown_by style takes) shown so after same kept before)

-- A receive that is alone has no others.
only_one : (ahead waiting fewer : ℕ) → ahead ≡ 1 → waiting ≤ ahead → waiting ≡ fewer + 1 → fewer ≡ 0
only_one ahead waiting fewer single few some = omega (arith, single, few, some)

-- One more message was received and shown.
pub takes_more : (page now : List ℕ) (receiving : Receiving) (answer : ReplyContent) (given : List ℕ)
    (left mid rest taken more shown so after : Option (List ℕ)) (taking : Taking) (owed fewer : ℕ)
    → Takes page receiving left mid taken more shown so taking → taking.waiting ≡ fewer + 1 → taking.owed ≡ owed + 1
    → Consumes mid rest (reply_encoding (reply_to taking.ask answer) given) → IsDone taking.ask answer given
    → ShowsBut now (page ++ received_text (style_of_receipt receiving.receipt) answer given) so after
    → (fewer ≡ 0 → page ≡ [] → now ≡ [])
    → Takes now receiving left rest taken more shown after
    (record { ask = taking.ask; owed = owed; waiting = fewer })
takes_more page now receiving answer given left mid rest taken more shown so after taking owed fewer so_far some due
    read done shows clears =
    let ask = taking_ask receiving so_far.opened in
    let one = call_of ask [] answer given in
    record {
      opened = so_far.opened;
      takes = so_far.takes ++ one ∷ [];
      follows = so_far.follows;
      found = so_far.found;
      ask = so_far.ask;
      took = each_more (IsTaken ask) so_far.takes one so_far.took
          (refl, refl, subst (λ (a : Ask). IsDone a answer given) so_far.ask done);
      reads = reads_so left mid rest so_far.opened so_far.takes ask taking.ask answer given so_far.ask so_far.reads
          read;
      writes = writes_so taken more so_far.opened so_far.takes ask answer given taking.waiting fewer some
          so_far.writes;
      shows = shows_so page now shown so after (style_of_receipt receiving.receipt) so_far.takes one so_far.shows shows;
      alone = λ single. clears (only_one (ahead_of receiving) taking.waiting fewer single so_far.few some)
          (so_far.alone single);
      owes = omega (arith, so_far.owes, due, length-append so_far.takes (one ∷ []));
      due = omega (arith, so_far.due, some, due);
      few = omega (arith, so_far.few, some);
    }

all_replied : (ask : Ask) (takes : List Call) → Each (IsTaken ask) takes → Each (IsReplied ask) takes
all_replied ask [] each = tt
all_replied ask (one ∷ others) each = ((each.0.0, each.0.1, inl each.0.2), all_replied ask others each.1)

all_done : (ask : Ask) (takes : List Call) → Each (IsTaken ask) takes → Each IsCallDone takes
all_done ask [] each = tt
all_done ask (one ∷ others) each = (each.0.2, all_done ask others each.1)

-- A prefix of nothing is nothing.
nothing_wrote : (taken more : Option (List ℕ)) → AppendsPrefix taken more [] → Appends taken more []
nothing_wrote taken more ([], prefix, wrote) = wrote
nothing_wrote taken more (byte ∷ others, (rest, split), wrote) = absurd cc

-- All bytes are a prefix of them.
pub whole_prefix : (taken more : Option (List ℕ)) (bytes : List ℕ) → Appends taken more bytes →
    AppendsPrefix taken more bytes
whole_prefix taken more bytes wrote = (bytes, ([], sym (append-nil bytes)), wrote)

-- One more request was written.
pub one_more_wrote : (ask : Ask) (text : List ℕ) (count : ℕ) (taken mid more : Option (List ℕ)) → text ≡ []
    → Appends taken mid (repeated_encoding ask count)
    → Appends mid more (request_encoding (request_of ask) text)
    → Appends taken more (repeated_encoding ask (count + 1))
one_more_wrote ask text count taken mid more none before wrote =
    let frame = request_encoding (request_of ask) [] in
    subst (Appends taken more)
    (ap (λ (l : List ℕ). repeated_encoding ask count ++ l) (sym (append-nil frame))
    ∙ sym (repeated_more ask count 1))
    (Appends-trans taken mid more (repeated_encoding ask count) frame before
    (subst (λ (l : List ℕ). Appends mid more (request_encoding (request_of ask) l)) none wrote))

-- The writer failed in one of the requests.
pub wrote_part : (ask : Ask) (text : List ℕ) (count all : ℕ) (taken mid more : Option (List ℕ)) → text ≡ []
    → count < all → Appends taken mid (repeated_encoding ask count)
    → AppendsPrefix mid more (request_encoding (request_of ask) text)
    → AppendsPrefix taken more (repeated_encoding ask all)
wrote_part ask text count all taken mid more none within before wrote =
    let frame = request_encoding (request_of ask) [] in
    let others = all - (count + 1) in
    let whole : all ≡ count + suc others = omega (arith, within) in
    subst (AppendsPrefix taken more) (sym (ap (repeated_encoding ask) whole ∙ repeated_more ask count (suc others)))
    (prefix_after taken mid more (repeated_encoding ask count) (frame ++ repeated_encoding ask others) before
    (longer_prefix mid more frame (repeated_encoding ask others)
    (subst (λ (l : List ℕ). AppendsPrefix mid more (request_encoding (request_of ask) l)) none wrote)))

-- All requests were written, and then flushed.
pub wrote_all : (ask : Ask) (count all : ℕ) (taken mid more : Option (List ℕ)) → count ≡ all
    → Appends taken mid (repeated_encoding ask count) → Appends mid more []
    → Appends taken more (repeated_encoding ask all)
wrote_all ask count all taken mid more same before kept =
    subst (λ (n : ℕ). Appends taken more (repeated_encoding ask n)) same
    (subst (Appends taken more) (append-nil (repeated_encoding ask count))
    (Appends-trans taken mid more (repeated_encoding ask count) [] before kept))

-- What was written of the receives without a reply, behind the calls.
pub record Parted (taken more : Option (List ℕ)) (calls : List ℕ) (ask : Ask) (waiting : ℕ) : Type 0 where
  pub written : Option (List ℕ)
  pub writes : Appends taken written calls
  pub left : ((waiting ≡ 0) × (more ≡ written))
      ⊎ ((1 ≤ waiting) × AppendsPrefix written more (repeated_encoding ask waiting))

parts : (taken mid more : Option (List ℕ)) (calls : List ℕ) (ask : Ask) (waiting unwritten count : ℕ)
    → count ≡ waiting + unwritten → Appends taken mid (calls ++ repeated_encoding ask waiting)
    → AppendsPrefix mid more (repeated_encoding ask unwritten)
    → Parted taken more calls ask count
parts taken mid more calls ask waiting unwritten zero is wrote breaks =
    let none : waiting ≡ 0 = omega (arith, is) in
    let all : unwritten ≡ 0 = omega (arith, is) in
    let front : Appends taken mid (calls ++ []) =
    subst (λ (n : ℕ). Appends taken mid (calls ++ repeated_encoding ask n)) none wrote in
    let back : Appends mid more [] =
    nothing_wrote mid more (subst (λ (n : ℕ). AppendsPrefix mid more (repeated_encoding ask n)) all breaks) in
    record {
      written = more;
      writes = subst (Appends taken more) (append-nil calls)
          (subst (Appends taken more) (append-nil (calls ++ []))
          (Appends-trans taken mid more (calls ++ []) [] front back));
      left = inl (refl, refl);
    }
parts taken mid more calls ask waiting unwritten (suc count) is wrote breaks =
    let frames = repeated_encoding ask waiting in
    record {
      written = between taken calls;
      writes = between_first taken calls;
      left = inr (
        omega arith,
        subst (AppendsPrefix (between taken calls) more)
            (sym (ap (repeated_encoding ask) is ∙ repeated_more ask waiting unwritten))
            (prefix_after (between taken calls) mid more frames (repeated_encoding ask unwritten)
            (between_second taken mid calls frames wrote) breaks),
      );
    }

-- All messages came.
pub finishes : (page : List ℕ) (receiving : Receiving) (left rest taken more shown after : Option (List ℕ))
    (taking : Taking)
    → Takes page receiving left rest taken more shown after taking → taking.owed ≡ 0
    → TakesBut page receiving (Ok tt) left rest taken more shown after
finishes page receiving left rest taken more shown after taking so_far none =
    let ask = taking_ask receiving so_far.opened in
    let calls = so_far.opened ++ so_far.takes in
    let free : taking.waiting ≡ 0 = omega (arith, none, so_far.due) in
    record {
      opened = so_far.opened;
      takes = so_far.takes;
      waiting = 0;
      unread = rest;
      written = more;
      follows = so_far.follows;
      replied = all_replied ask so_far.takes so_far.took;
      few = omega arith;
      owed = omega (arith, so_far.owes);
      reads = so_far.reads;
      writes = subst (Appends taken more) (append-nil (written_by calls))
          (subst (λ (n : ℕ). Appends taken more (written_by calls ++ repeated_encoding ask n)) free so_far.writes);
      ends = record {
        found = so_far.found;
        done = all_done ask so_far.takes so_far.took;
        all = omega (arith, so_far.owes, none);
        none = refl;
        read = refl;
        wrote = refl;
      };
      shows = so_far.shows;
      alone = so_far.alone;
    }

-- What was read is no reply to a receive.
pub loses : (page now : List ℕ) (receiving : Receiving)
    (left mid rest taken more shown after so : Option (List ℕ)) (taking : Taking)
    → Takes page receiving left mid taken more shown after taking → 0 < taking.waiting → now ≡ page → so ≡ after
    → HasNoReply taking.ask mid rest
    → TakesBut now receiving (Err (Fault NoReply)) left rest taken more shown so
loses page now receiving left mid rest taken more shown after so taking so_far some same kept none =
    let ask = taking_ask receiving so_far.opened in
    let calls = so_far.opened ++ so_far.takes in
    record {
      opened = so_far.opened;
      takes = so_far.takes;
      waiting = taking.waiting;
      unread = mid;
      written = between taken (written_by calls);
      follows = so_far.follows;
      replied = all_replied ask so_far.takes so_far.took;
      few = so_far.few;
      owed = omega (arith, so_far.owes, so_far.due);
      reads = so_far.reads;
      writes = between_first taken (written_by calls);
      ends = inr (record {
        found = so_far.found;
        by = (all_done ask so_far.takes so_far.took, some);
        ends = inr (inr (inl (
          between_second taken more (written_by calls) (repeated_encoding ask taking.waiting) so_far.writes,
          subst (λ (a : Ask). HasNoReply a mid rest) so_far.ask none,
        )));
      });
      shows = but_same page now (shown_by (style_of_receipt receiving.receipt) so_far.takes) shown after so same kept
          so_far.shows;
      alone = λ single. same ∙ so_far.alone single;
    }

-- The writer failed in more receives.
pub stops_writing : (page : List ℕ) (receiving : Receiving)
    (left rest taken more most shown after : Option (List ℕ)) (taking : Taking)
    (added : ℕ) → Takes page receiving left rest taken more shown after taking → 0 < added
    → taking.waiting + added ≤ taking.owed → taking.waiting + added ≤ ahead_of receiving
    → AppendsPrefix more most (repeated_encoding taking.ask added)
    → Stops page receiving NoReply left rest taken most shown after taking.ask taking.waiting
stops_writing page receiving left rest taken more most shown after taking added so_far some due few wrote =
    let ask = taking_ask receiving so_far.opened in
    record {
      opened = so_far.opened;
      takes = so_far.takes;
      unwritten = added;
      written = more;
      follows = so_far.follows;
      found = so_far.found;
      asks = so_far.ask;
      replied = all_replied ask so_far.takes so_far.took;
      meets = (all_done ask so_far.takes so_far.took, some);
      reads = so_far.reads;
      writes = so_far.writes;
      breaks = subst (λ (a : Ask). AppendsPrefix more most (repeated_encoding a added)) so_far.ask wrote;
      shows = so_far.shows;
      alone = so_far.alone;
      owed = omega (arith, so_far.owes, due);
      few = few;
    }

-- A receive was refused.
pub stops_at : (page now : List ℕ) (receiving : Receiving) (error : Errno)
    (left mid rest taken more shown after so : Option (List ℕ))
    (taking : Taking) (fewer : ℕ)
    → Takes page receiving left mid taken more shown after taking → taking.waiting ≡ fewer + 1 → now ≡ page → so ≡ after
    → Consumes mid rest (reply_encoding (reply_to taking.ask (content.Refused error)) [])
    → Stops now receiving (Refused error) left rest taken more shown so taking.ask fewer
stops_at page now receiving error left mid rest taken more shown after so taking fewer so_far some same kept read =
    let ask = taking_ask receiving so_far.opened in
    let style = style_of_receipt receiving.receipt in
    let one = call_of ask [] (content.Refused error) [] in
    record {
      opened = so_far.opened;
      takes = so_far.takes ++ one ∷ [];
      unwritten = 0;
      written = more;
      follows = so_far.follows;
      found = so_far.found;
      asks = so_far.ask;
      replied = each_more (IsReplied ask) so_far.takes one (all_replied ask so_far.takes so_far.took)
          (refl, refl, inr (error, (refl, refl)));
      meets = record {
        first = so_far.takes;
        one = one;
        later = [];
        split = refl;
        done = all_done ask so_far.takes so_far.took;
        refused = (refl, refl);
        few = omega (arith, so_far.few, some);
      };
      reads = reads_so left mid rest so_far.opened so_far.takes ask taking.ask (content.Refused error) [] so_far.ask
          so_far.reads read;
      writes = writes_so taken more so_far.opened so_far.takes ask (content.Refused error) [] taking.waiting fewer some
          so_far.writes;
      breaks = whole_prefix more more [] (Appends-nil more);
      shows = same_so page now shown after so style so_far.takes one refl same kept so_far.shows;
      alone = λ single. same ∙ so_far.alone single;
      owed = omega (arith, so_far.owes, so_far.due, some, length-append so_far.takes (one ∷ []));
      few = omega (arith, so_far.few, some);
    }

-- The receives without a reply, if nothing more was read.
ends_all : (ask : Ask) (left taken more : Option (List ℕ)) (count : ℕ)
    → ((count ≡ 0) × (more ≡ taken))
    ⊎ ((1 ≤ count) × AppendsPrefix taken more (repeated_encoding ask count))
    → EndsTaking ask count left left taken more
ends_all ask left taken more count (inl (none, same)) = inl (none, refl, same)
ends_all ask left taken more count (inr (some, wrote)) = inr (inl (wrote, refl))

-- If no receive is on its way, nothing was written of one.
none_left : (waiting : ℕ) (taken more : Option (List ℕ)) (Part : Type 0) → waiting ≡ 0
    → ((waiting ≡ 0) × (more ≡ taken)) ⊎ ((1 ≤ waiting) × Part) → more ≡ taken
none_left waiting taken more Part none (inl (same, wrote)) = wrote
none_left waiting taken more Part none (inr (some, part)) = absurd (not_some waiting none some)
  where
    not_some : (count : ℕ) → count ≡ 0 → 1 ≤ count → ⊥
    not_some count none some = omega (arith, none, some)

-- The screen failed at the message of a receive that was alone.
at_last : (page : List ℕ) (style : Style) (takes : List Call) (one : Call) (waiting : ℕ)
    (rest taken more shown so after : Option (List ℕ)) (Part : Type 0) → page ≡ [] → waiting ≡ 0
    → ((waiting ≡ 0) × (more ≡ taken)) ⊎ ((1 ≤ waiting) × Part)
    → ShowsBut page (shown_by style takes) shown so
    → ShowsPart (page ++ received_text style one.answer one.given) so after
    → StopsAtLast style (takes ++ one ∷ []) waiting rest rest taken more shown after
at_last page style takes one waiting rest taken more shown so after Part empty free left (part, is, adds)
    (bytes, fails) =
    record {
      before = takes;
      last = one;
      split = refl;
      none = free;
      read = refl;
      wrote = none_left waiting taken more Part free left;
      mid = so;
      showed = subst (Appends shown so) (sym (is ∙ ap (λ (l : List ℕ). part ++ l) empty ∙ append-nil part)) adds;
      shows = subst (λ (l : List ℕ). AppendsPrefix so after (l ++ received_text style one.answer one.given)) empty
          fails;
    }

-- The screen failed at a message.
pub unshown : (page : List ℕ) (receiving : Receiving) (answer : ReplyContent) (given : List ℕ)
    (left mid rest taken more shown so after : Option (List ℕ)) (taking : Taking) (fewer : ℕ) (told : Unshown)
    → Takes page receiving left mid taken more shown so taking → taking.waiting ≡ fewer + 1
    → Consumes mid rest (reply_encoding (reply_to taking.ask answer) given) → IsDone taking.ask answer given
    → ShowsPart (page ++ received_text (style_of_receipt receiving.receipt) answer given) so after
    → TakesAll receiving (Err (Screen told)) left rest taken more shown after
unshown page receiving answer given left mid rest taken more shown so after taking fewer told so_far some read done
    shows =
    let ask = taking_ask receiving so_far.opened in
    let style = style_of_receipt receiving.receipt in
    let one = call_of ask [] answer given in
    let takes = so_far.takes ++ one ∷ [] in
    let is_done = subst (λ (a : Ask). IsDone a answer given) so_far.ask done in
    let part = part_so page shown so after style so_far.takes one so_far.shows shows in
    let parted = parts taken more more (written_by (so_far.opened ++ takes)) ask fewer 0 fewer (omega arith)
    (writes_so taken more so_far.opened so_far.takes ask answer given taking.waiting fewer some so_far.writes)
    (whole_prefix more more [] (Appends-nil more)) in
    record {
      opened = so_far.opened;
      takes = takes;
      waiting = fewer;
      unread = rest;
      written = parted.written;
      follows = so_far.follows;
      replied = each_more (IsReplied ask) so_far.takes one (all_replied ask so_far.takes so_far.took)
          (refl, refl, inl is_done);
      few = omega (arith, so_far.few, some);
      owed = omega (arith, so_far.owes, so_far.due, some, length-append so_far.takes (one ∷ []));
      reads = reads_so left mid rest so_far.opened so_far.takes ask taking.ask answer given so_far.ask so_far.reads
          read;
      writes = parted.writes;
      ends = record {
        found = so_far.found;
        some = part.0;
        by = inl (each_more IsCallDone so_far.takes one (all_done ask so_far.takes so_far.took) is_done);
        ends = ends_all ask rest parted.written more fewer parted.left;
      };
      shows = part.1;
      at_once = λ single. at_last page style so_far.takes one fewer rest parted.written more shown so after
          (AppendsPrefix parted.written more (repeated_encoding ask fewer)) (so_far.alone single)
          (only_one (ahead_of receiving) taking.waiting fewer single so_far.few some) parted.left so_far.shows shows;
    }

-- A later receive has a reply, after one that was refused.
refused_more : (error : Errno) (ahead waiting fewer : ℕ) (takes : List Call) (one : Call) → waiting ≡ fewer + 1
    → IsRefusedIn error ahead waiting takes → IsRefusedIn error ahead fewer (takes ++ one ∷ [])
refused_more error ahead waiting fewer takes one some is = record {
  first = is.first;
  one = is.one;
  later = is.later ++ one ∷ [];
  split = ap (λ (l : List Call). l ++ one ∷ []) is.split ∙ append_assoc is.first (is.one ∷ is.later) (one ∷ []);
  done = is.done;
  refused = is.refused;
  few = omega (arith, is.few, some, length-append is.later (one ∷ []));
}

meets_more : (why : ClientFault) (ahead waiting fewer unwritten : ℕ) (takes : List Call) (one : Call)
    → waiting ≡ fewer + 1 → IsCallDone one → MeetsFault why ahead waiting unwritten takes
    → MeetsFault why ahead fewer unwritten (takes ++ one ∷ [])
meets_more (Refused error) ahead waiting fewer unwritten takes one some done meets =
    refused_more error ahead (waiting + unwritten) (fewer + unwritten) takes one (omega (arith, some)) meets
meets_more NoReply ahead waiting fewer unwritten takes one some done meets =
    (each_more IsCallDone takes one meets.0 done, meets.1)
meets_more NoMemory ahead waiting fewer unwritten takes one some done meets = absurd meets

-- After a fault no receive is on its way that was alone.
none_waits : (why : ClientFault) (ahead waiting fewer unwritten : ℕ) (takes : List Call) → ahead ≡ 1
    → MeetsFault why ahead waiting unwritten takes → waiting + unwritten ≤ ahead → waiting ≡ fewer + 1 → ⊥
none_waits (Refused error) ahead waiting fewer unwritten takes single meets few some =
    omega (arith, single, meets.few, some)
none_waits NoReply ahead waiting fewer unwritten takes single meets few some =
    omega (arith, single, meets.1, few, some)
none_waits NoMemory ahead waiting fewer unwritten takes single meets few some = absurd meets

-- After a fault, one more message was received and shown.
pub stops_more : (page now : List ℕ) (receiving : Receiving) (why : ClientFault) (answer : ReplyContent)
    (given : List ℕ)
    (left mid rest taken more shown so after : Option (List ℕ)) (ask : Ask) (waiting fewer : ℕ)
    → Stops page receiving why left mid taken more shown so ask waiting → waiting ≡ fewer + 1
    → Consumes mid rest (reply_encoding (reply_to ask answer) given) → IsDone ask answer given
    → ShowsBut now (page ++ received_text (style_of_receipt receiving.receipt) answer given) so after
    → Stops now receiving why left rest taken more shown after ask fewer
stops_more page now receiving why answer given left mid rest taken more shown so after ask waiting fewer so_far some
    read done shows =
    let of = taking_ask receiving so_far.opened in
    let one = call_of of [] answer given in
    let is_done = subst (λ (a : Ask). IsDone a answer given) so_far.asks done in
    record {
      opened = so_far.opened;
      takes = so_far.takes ++ one ∷ [];
      unwritten = so_far.unwritten;
      written = so_far.written;
      follows = so_far.follows;
      found = so_far.found;
      asks = so_far.asks;
      replied = each_more (IsReplied of) so_far.takes one so_far.replied (refl, refl, inl is_done);
      meets = meets_more why (ahead_of receiving) waiting fewer so_far.unwritten so_far.takes one some is_done
          so_far.meets;
      reads = reads_so left mid rest so_far.opened so_far.takes of ask answer given so_far.asks so_far.reads read;
      writes = writes_so taken so_far.written so_far.opened so_far.takes of answer given waiting fewer some
          so_far.writes;
      breaks = so_far.breaks;
      shows = shows_so page now shown so after (style_of_receipt receiving.receipt) so_far.takes one so_far.shows shows;
      alone = λ single. absurd (none_waits why (ahead_of receiving) waiting fewer so_far.unwritten so_far.takes single
          so_far.meets so_far.few some);
      owed = omega (arith, so_far.owed, some, length-append so_far.takes (one ∷ []));
      few = omega (arith, so_far.few, some);
    }

meets_refusal : (why : ClientFault) (error : Errno) (ahead waiting fewer unwritten : ℕ) (takes : List Call) (one : Call)
    → waiting ≡ fewer + 1 → waiting + unwritten ≤ ahead → (one.answer ≡ content.Refused error) × (one.given ≡ [])
    → MeetsFault why ahead waiting unwritten takes
    → MeetsFault (first_fault why error) ahead fewer unwritten (takes ++ one ∷ [])
meets_refusal (Refused first) error ahead waiting fewer unwritten takes one some few is meets =
    refused_more first ahead (waiting + unwritten) (fewer + unwritten) takes one (omega (arith, some)) meets
meets_refusal NoReply error ahead waiting fewer unwritten takes one some few is meets = record {
  first = takes;
  one = one;
  later = [];
  split = refl;
  done = meets.0;
  refused = is;
  few = omega (arith, some, few);
}
meets_refusal NoMemory error ahead waiting fewer unwritten takes one some few is meets = absurd meets

-- After a fault, one more receive was refused.
pub stops_again : (page now : List ℕ) (receiving : Receiving) (why : ClientFault) (error : Errno)
    (left mid rest taken more shown so after : Option (List ℕ)) (ask : Ask) (waiting fewer : ℕ)
    → Stops page receiving why left mid taken more shown so ask waiting → waiting ≡ fewer + 1 → now ≡ page → after ≡ so
    → Consumes mid rest (reply_encoding (reply_to ask (content.Refused error)) [])
    → Stops now receiving (first_fault why error) left rest taken more shown after ask fewer
stops_again page now receiving why error left mid rest taken more shown so after ask waiting fewer so_far some same
    kept read =
    let of = taking_ask receiving so_far.opened in
    let one = call_of of [] (content.Refused error) [] in
    record {
      opened = so_far.opened;
      takes = so_far.takes ++ one ∷ [];
      unwritten = so_far.unwritten;
      written = so_far.written;
      follows = so_far.follows;
      found = so_far.found;
      asks = so_far.asks;
      replied = each_more (IsReplied of) so_far.takes one so_far.replied (refl, refl, inr (error, (refl, refl)));
      meets = meets_refusal why error (ahead_of receiving) waiting fewer so_far.unwritten so_far.takes one some
          so_far.few (refl, refl) so_far.meets;
      reads = reads_so left mid rest so_far.opened so_far.takes of ask (content.Refused error) [] so_far.asks
          so_far.reads read;
      writes = writes_so taken so_far.written so_far.opened so_far.takes of (content.Refused error) [] waiting fewer
          some so_far.writes;
      breaks = so_far.breaks;
      shows = same_so page now shown so after (style_of_receipt receiving.receipt) so_far.takes one refl same kept
          so_far.shows;
      alone = λ single. same ∙ so_far.alone single;
      owed = omega (arith, so_far.owed, some, length-append so_far.takes (one ∷ []));
      few = omega (arith, so_far.few, some);
    }

-- How a session ends that met this fault.
ends_so : (receiving : Receiving) (why : ClientFault) (opened takes : List Call) (waiting unwritten count : ℕ)
    (left rest taken more : Option (List ℕ)) → count ≡ waiting + unwritten → finding_plan receiving opened ≡ None
    → MeetsFault why (ahead_of receiving) waiting unwritten takes
    → EndsTaking (taking_ask receiving opened) count left rest taken more
    → EndsTakes receiving (Err (Fault why)) opened takes count left rest taken more
ends_so receiving (Refused error) opened takes waiting unwritten count left rest taken more is found meets ends =
    inr (record {
      found = found;
      by = subst (λ (n : ℕ). IsRefusedIn error (ahead_of receiving) n takes) (sym is) meets;
      ends = ends;
    })
ends_so receiving NoReply opened takes waiting unwritten count left rest taken more is found meets ends =
    inr (record { found = found; by = (meets.0, omega (arith, is, meets.1)); ends = ends })
ends_so receiving NoMemory opened takes waiting unwritten count left rest taken more is found meets ends =
    absurd meets

-- After a fault, what was read is no reply.
pub stops_lost : (page now : List ℕ) (receiving : Receiving) (why : ClientFault)
    (left mid rest taken more shown after so : Option (List ℕ))
    (ask : Ask) (waiting : ℕ)
    → Stops page receiving why left mid taken more shown after ask waiting → 0 < waiting → now ≡ page → so ≡ after
    → HasNoReply ask mid rest
    → TakesBut now receiving (Err (Fault why)) left rest taken more shown so
stops_lost page now receiving why left mid rest taken more shown after so ask waiting so_far some same kept none =
    let of = taking_ask receiving so_far.opened in
    let calls = so_far.opened ++ so_far.takes in
    let count = waiting + so_far.unwritten in
    let frames = repeated_encoding of waiting in
    let front = between_second taken so_far.written (written_by calls) frames so_far.writes in
    record {
      opened = so_far.opened;
      takes = so_far.takes;
      waiting = count;
      unread = mid;
      written = between taken (written_by calls);
      follows = so_far.follows;
      replied = so_far.replied;
      few = so_far.few;
      owed = so_far.owed;
      reads = so_far.reads;
      writes = between_first taken (written_by calls);
      ends = ends_so receiving why so_far.opened so_far.takes waiting so_far.unwritten count mid rest
          (between taken (written_by calls)) more refl so_far.found so_far.meets
          (ends_lost of mid rest (between taken (written_by calls)) so_far.written more waiting so_far.unwritten some
          front so_far.breaks (subst (λ (a : Ask). HasNoReply a mid rest) so_far.asks none));
      shows = but_same page now (shown_by (style_of_receipt receiving.receipt) so_far.takes) shown after so same kept
          so_far.shows;
      alone = λ single. same ∙ so_far.alone single;
    }
  where
    ends_lost : (ask : Ask) (left rest taken mid more : Option (List ℕ)) (waiting unwritten : ℕ) → 0 < waiting
        → Appends taken mid (repeated_encoding ask waiting)
        → AppendsPrefix mid more (repeated_encoding ask unwritten) → HasNoReply ask left rest
        → EndsTaking ask (waiting + unwritten) left rest taken more
    ends_lost ask left rest taken mid more waiting zero some front breaks none =
        let same : waiting ≡ waiting + 0 = omega arith in
        let whole : Appends taken more (repeated_encoding ask waiting) =
        subst (Appends taken more) (append-nil (repeated_encoding ask waiting))
        (Appends-trans taken mid more (repeated_encoding ask waiting) [] front (nothing_wrote mid more breaks)) in
        inr (inr (inl (subst (λ (n : ℕ). Appends taken more (repeated_encoding ask n)) same whole, none)))
    ends_lost ask left rest taken mid more waiting (suc unwritten) some front breaks none = inr (inr (inr (
      omega (arith, some),
      subst (AppendsPrefix taken more) (sym (repeated_more ask waiting (suc unwritten)))
          (prefix_after taken mid more (repeated_encoding ask waiting) (repeated_encoding ask (suc unwritten)) front
          breaks),
      none,
    )))

-- After a fault, each receive on its way has a reply.
pub stops_all : (page : List ℕ) (receiving : Receiving) (why : ClientFault)
    (left rest taken more shown after : Option (List ℕ))
    (ask : Ask) (waiting : ℕ)
    → Stops page receiving why left rest taken more shown after ask waiting → waiting ≡ 0
    → TakesBut page receiving (Err (Fault why)) left rest taken more shown after
stops_all page receiving why left rest taken more shown after ask waiting so_far none =
    let of = taking_ask receiving so_far.opened in
    let calls = so_far.opened ++ so_far.takes in
    let parted = parts taken so_far.written more (written_by calls) of waiting so_far.unwritten so_far.unwritten
    (omega (arith, none)) so_far.writes so_far.breaks in
    record {
      opened = so_far.opened;
      takes = so_far.takes;
      waiting = so_far.unwritten;
      unread = rest;
      written = parted.written;
      follows = so_far.follows;
      replied = so_far.replied;
      few = omega (arith, so_far.few);
      owed = omega (arith, so_far.owed);
      reads = so_far.reads;
      writes = parted.writes;
      ends = ends_so receiving why so_far.opened so_far.takes waiting so_far.unwritten so_far.unwritten rest rest
          parted.written more (omega (arith, none)) so_far.found so_far.meets
          (ends_all of rest parted.written more so_far.unwritten parted.left);
      shows = so_far.shows;
      alone = so_far.alone;
    }

by_screen : (why : ClientFault) (ahead waiting unwritten : ℕ) (takes : List Call)
    → MeetsFault why ahead waiting unwritten takes → AreTakenByScreen ahead (waiting + unwritten) takes
by_screen (Refused error) ahead waiting unwritten takes meets = inr (error, meets)
by_screen NoReply ahead waiting unwritten takes meets = inl meets.0
by_screen NoMemory ahead waiting unwritten takes meets = absurd meets

-- After a fault, the screen failed at a message.
pub stops_unshown : (page : List ℕ) (receiving : Receiving) (why : ClientFault) (answer : ReplyContent) (given : List ℕ)
    (left mid rest taken more shown so after : Option (List ℕ)) (ask : Ask) (waiting fewer : ℕ) (told : Unshown)
    → Stops page receiving why left mid taken more shown so ask waiting → waiting ≡ fewer + 1
    → Consumes mid rest (reply_encoding (reply_to ask answer) given) → IsDone ask answer given
    → ShowsPart (page ++ received_text (style_of_receipt receiving.receipt) answer given) so after
    → TakesAll receiving (Err (Screen told)) left rest taken more shown after
stops_unshown page receiving why answer given left mid rest taken more shown so after ask waiting fewer told so_far some
    read done shows =
    let of = taking_ask receiving so_far.opened in
    let style = style_of_receipt receiving.receipt in
    let one = call_of of [] answer given in
    let takes = so_far.takes ++ one ∷ [] in
    let is_done = subst (λ (a : Ask). IsDone a answer given) so_far.asks done in
    let count = fewer + so_far.unwritten in
    let part = part_so page shown so after style so_far.takes one so_far.shows shows in
    let parted = parts taken so_far.written more (written_by (so_far.opened ++ takes)) of fewer so_far.unwritten count
    refl
    (writes_so taken so_far.written so_far.opened so_far.takes of answer given waiting fewer some so_far.writes)
    so_far.breaks in
    record {
      opened = so_far.opened;
      takes = takes;
      waiting = count;
      unread = rest;
      written = parted.written;
      follows = so_far.follows;
      replied = each_more (IsReplied of) so_far.takes one so_far.replied (refl, refl, inl is_done);
      few = omega (arith, so_far.few, some);
      owed = omega (arith, so_far.owed, some, length-append so_far.takes (one ∷ []));
      reads = reads_so left mid rest so_far.opened so_far.takes of ask answer given so_far.asks so_far.reads read;
      writes = parted.writes;
      ends = record {
        found = so_far.found;
        some = part.0;
        by = by_screen why (ahead_of receiving) fewer so_far.unwritten takes
            (meets_more why (ahead_of receiving) waiting fewer so_far.unwritten so_far.takes one some is_done
            so_far.meets);
        ends = ends_all of rest parted.written more count parted.left;
      };
      shows = part.1;
      at_once = λ single. absurd (none_waits why (ahead_of receiving) waiting fewer so_far.unwritten so_far.takes single
          so_far.meets so_far.few some);
    }

-- All of the page was shown.
but_shown : (page text : List ℕ) (shown so after : Option (List ℕ)) → ShowsBut page text shown so
    → Appends so after page → Appends shown after text
but_shown page text shown so after (part, split, shows) adds =
    subst (Appends shown after) (sym split) (Appends-trans shown so after part page shows adds)

-- The screen failed at the page.
but_failed : (page text : List ℕ) (shown so after : Option (List ℕ)) → ShowsBut page text shown so
    → ShowsPart page so after → ShowsPart text shown after
but_failed page text shown so after (part, split, shows) (some, fails) = (
  subst (λ (l : List ℕ). 0 < length l) (sym split) (omega (arith, some, length-append part page)),
  subst (AppendsPrefix shown after) (sym split) (prefix_after shown so after part page shows fails),
)

-- The messages of a session that ended were shown.
shown_all : (page : List ℕ) (receiving : Receiving) (fault : Option ClientFault)
    (left rest taken more shown so after : Option (List ℕ))
    → TakesBut page receiving (ended_by fault) left rest taken more shown so → Appends so after page
    → TakesAll receiving (ended_by fault) left rest taken more shown after
shown_all page receiving None left rest taken more shown so after all adds = record {
  opened = all.opened;
  takes = all.takes;
  waiting = all.waiting;
  unread = all.unread;
  written = all.written;
  follows = all.follows;
  replied = all.replied;
  few = all.few;
  owed = all.owed;
  reads = all.reads;
  writes = all.writes;
  ends = all.ends;
  shows = but_shown page (shown_by (style_of_receipt receiving.receipt) all.takes) shown so after all.shows adds;
  at_once = tt;
}
shown_all page receiving (Some why) left rest taken more shown so after all adds = record {
  opened = all.opened;
  takes = all.takes;
  waiting = all.waiting;
  unread = all.unread;
  written = all.written;
  follows = all.follows;
  replied = all.replied;
  few = all.few;
  owed = all.owed;
  reads = all.reads;
  writes = all.writes;
  ends = all.ends;
  shows = but_shown page (shown_by (style_of_receipt receiving.receipt) all.takes) shown so after all.shows adds;
  at_once = tt;
}

pub shown_done : (page : List ℕ) (receiving : Receiving) (left rest taken more shown so after : Option (List ℕ))
    → TakesBut page receiving (ended_by None) left rest taken more shown so → Appends so after page
    → TakesAll receiving (Ok tt) left rest taken more shown after
shown_done page receiving left rest taken more shown so after all adds =
    shown_all page receiving None left rest taken more shown so after all adds

pub shown_fault : (page : List ℕ) (receiving : Receiving) (why : ClientFault)
    (left rest taken more shown so after : Option (List ℕ))
    → TakesBut page receiving (ended_by (Some why)) left rest taken more shown so → Appends so after page
    → TakesAll receiving (Err (Fault why)) left rest taken more shown after
shown_fault page receiving why left rest taken more shown so after all adds =
    shown_all page receiving (Some why) left rest taken more shown so after all adds

-- Something was shown of the receives, so there is one.
no_takes_shown : (style : Style) (takes : List Call) → takes ≡ [] → 0 < length (shown_by style takes) → ⊥
no_takes_shown style takes none some =
    let nothing : 0 < 0 = subst (λ (l : List Call). 0 < length (shown_by style l)) none some in omega (arith, nothing)

-- How a session that ended without a failure of the screen ends if the screen fails at what is left.
ends_unshown : (receiving : Receiving) (fault : Option ClientFault) (opened takes : List Call) (waiting : ℕ)
    (left rest taken more : Option (List ℕ)) → 0 < length (shown_by (style_of_receipt receiving.receipt) takes)
    → EndsTakes receiving (ended_by fault) opened takes waiting left rest taken more
    → IsUnshown receiving opened takes waiting left rest taken more
ends_unshown receiving None opened takes waiting left rest taken more some ends = record {
  found = ends.found;
  some = some;
  by = inl ends.done;
  ends = inl (ends.none, ends.read, ends.wrote);
}
ends_unshown receiving (Some (Refused error)) opened takes waiting left rest taken more some (inl breaks) =
    absurd (no_takes_shown (style_of_receipt receiving.receipt) takes breaks.no_takes some)
ends_unshown receiving (Some (Refused error)) opened takes waiting left rest taken more some (inr stopped) = record {
  found = stopped.found;
  some = some;
  by = inr (error, stopped.by);
  ends = stopped.ends;
}
ends_unshown receiving (Some NoReply) opened takes waiting left rest taken more some (inl breaks) =
    absurd (no_takes_shown (style_of_receipt receiving.receipt) takes breaks.no_takes some)
ends_unshown receiving (Some NoReply) opened takes waiting left rest taken more some (inr stopped) = record {
  found = stopped.found;
  some = some;
  by = inl stopped.by.0;
  ends = stopped.ends;
}
ends_unshown receiving (Some NoMemory) opened takes waiting left rest taken more some ends =
    absurd (no_takes_shown (style_of_receipt receiving.receipt) takes ends.no_takes some)

no_page : (page : List ℕ) → page ≡ [] → 0 < length page → ⊥
no_page page none some =
    let nothing : 0 < 0 = subst (λ (l : List ℕ). 0 < length l) none some in omega (arith, nothing)

-- The screen failed at the messages that were left.
pub closes_unshown : (page : List ℕ) (receiving : Receiving) (fault : Option ClientFault) (told : Unshown)
    (left rest taken more shown so after : Option (List ℕ))
    → TakesBut page receiving (ended_by fault) left rest taken more shown so → ShowsPart page so after
    → TakesAll receiving (Err (Screen told)) left rest taken more shown after
closes_unshown page receiving fault told left rest taken more shown so after all fails =
    let text = shown_by (style_of_receipt receiving.receipt) all.takes in
    let part = but_failed page text shown so after all.shows fails in
    record {
      opened = all.opened;
      takes = all.takes;
      waiting = all.waiting;
      unread = all.unread;
      written = all.written;
      follows = all.follows;
      replied = all.replied;
      few = all.few;
      owed = all.owed;
      reads = all.reads;
      writes = all.writes;
      ends = ends_unshown receiving fault all.opened all.takes all.waiting all.unread rest all.written more part.0
          all.ends;
      shows = part.1;
      at_once = λ single. absurd (no_page page (all.alone single) fails.0);
    }
