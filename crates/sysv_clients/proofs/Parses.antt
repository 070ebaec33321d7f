-- A client shows what its input makes of its command.
use Rattle.std.proofs.Common.{◌≡◌, ◌≢◌, ◌≤◌, ℕ, ℤ, pos, List, [], ◌∷◌, ◌++◌, Option, None, Some, Result, Ok, Err, refl}
use Rattle.std.proofs.Common.{zero, suc, length, map, min, sym, ap, subst, ◌∙◌, ◌⊎◌, inl, inr, arith, append_assoc}
use Rattle.std.proofs.Common.{append-nil}
use Rattle.std.specs.Prelude.{⊤, slice_get}
use Rattle.std.specs.List.{AllByRecursion, range_with_len}
use Rattle.std.specs.Io.KnownBytes.{Consumes, IsAtEnd}
use Rattle.sysv_clients.specs.declared.command.Command.{Command}
use Rattle.sysv_clients.specs.declared.fault.ClientFault.{ClientFault}
use Rattle.sysv_clients.specs.declared.fault.ClientFault.TheVariants as fault
use Rattle.sysv_clients.specs.declared.command.Making.{Making}
use Rattle.sysv_clients.specs.declared.command.Target.TheVariants.{Id, Key, All}
use Rattle.sysv_clients.specs.declared.command.Task.{Task}
use Rattle.sysv_clients.specs.declared.command.Task.TheVariants.{List as Table, Show, Remove, Make, Send, Receive}
use Rattle.sysv_clients.specs.declared.command.TheConstants.{MAX_ROWS}
use Rattle.sysv_clients.specs.Asks.{asks_of, limit_asks, row_asks, task_asks}
use Rattle.sysv_clients.specs.Parse.{EndsOn, IsNoReplyTo, Makes, ShowsParse, ShowsFault}
use Rattle.sysv_clients.specs.Faults.{fault_line}
use Rattle.sysv_clients.specs.Run.{Runs, Shows, shown_text, status_of}
use Rattle.sysv_clients.specs.Dialogue.{EndsDialogue, Exchange, Follows, HasNoReply, IsDone, IsOther, answered_encoding}
use Rattle.sysv_clients.specs.Dialogue.{found_in, next_ask, reply_to, slots_in}
use Rattle.sysv_model.specs.declared.cred.Cred.{Cred}
use Rattle.sysv_model.specs.declared.errno.Errno.{Errno}
use Rattle.sysv_model.specs.declared.errno.Errno.TheVariants.{EPERM, ENOENT, E2BIG, EAGAIN, EACCES, EEXIST, EINVAL}
use Rattle.sysv_model.specs.declared.errno.Errno.TheVariants.{ENOSPC, ENOMSG, EIDRM, EOVERFLOW}
use Rattle.sysv_model.specs.Errors.{number_of}
use Rattle.sysv_wire.specs.declared.fault.Fault.{Fault}
use Rattle.sysv_wire.specs.declared.fault.Fault.TheVariants.{Truncated, TooLong, BadOp, BadField, Read}
use Rattle.sysv_wire.specs.declared.frame.Version.TheVariants.{Two}
use Rattle.sysv_wire.specs.declared.reply.ReplyContent.{ReplyContent}
use Rattle.sysv_wire.specs.declared.reply.ReplyContent.TheVariants as content
use Rattle.sysv_wire.specs.declared.reply.Reply.{Reply}
use Rattle.sysv_wire.specs.declared.request.Ask.{Ask}
use Rattle.sysv_wire.specs.declared.request.Ask.TheVariants.{Row}
use Rattle.sysv_wire.specs.Faults.{Faults}
use Rattle.sysv_wire.specs.Frames.{IsUpTo, op_number}
use Rattle.sysv_wire.specs.OneAnswer.{OneAnswerToReplies, ReplyAt}
use Rattle.sysv_wire.specs.OneEncoding.{OneReply}
use Rattle.sysv_wire.specs.Replies.{FitsReply, error_number, reply_encoding}
use Rattle.sysv_wire.specs.ReplyFaults.{ReplyFault}
use Rattle.sysv_wire.specs.Requests.{op_of}

one_reply : (a b : Reply) →
    (let x : Result (Option Reply) Fault = Ok (Some a) in let y : Result (Option Reply) Fault = Ok (Some b) in x ≡ y) →
    a ≡ b
one_reply a b same = cc

apart_none : (a : Reply) →
    (let x : Result (Option Reply) Fault = Ok (Some a) in let y : Result (Option Reply) Fault = Ok None in x ≡ y) → ⊥
apart_none a same = cc

apart_fault : (a : Reply) (why : Fault) →
    (let x : Result (Option Reply) Fault = Ok (Some a) in let y : Result (Option Reply) Fault = Err why in x ≡ y) → ⊥
apart_fault a why same = cc

same_refusal : (a b : Errno)
    → (let x : ReplyContent = content.Refused a in let y : ReplyContent = content.Refused b in x ≡ y)
    → (let x : Result ⊤ ClientFault = Err (fault.Refused a) in
    let y : Result ⊤ ClientFault = Err (fault.Refused b) in
    x ≡ y)
same_refusal a b same =
    let e : a ≡ b = cc in ap (λ (x : Errno). let r : Result ⊤ ClientFault = Err (fault.Refused x) in r) e

-- The reply of an exchange is at the start of the input.
stands : (e : Exchange) (behind input : List ℕ) → IsDone e.ask e.answer e.given
    → input ≡ reply_encoding (reply_to e.ask e.answer) e.given ++ behind
    → ReplyAt Two input (Ok (Some (reply_to e.ask e.answer)))
stands e behind input done front = (e.given, behind, done.fits, front, omega arith)

error_above : (error : Errno) → number_of error ≢ 0
error_above EPERM same = absurd (omega (arith, same))
error_above ENOENT same = absurd (omega (arith, same))
error_above E2BIG same = absurd (omega (arith, same))
error_above EAGAIN same = absurd (omega (arith, same))
error_above EACCES same = absurd (omega (arith, same))
error_above EEXIST same = absurd (omega (arith, same))
error_above EINVAL same = absurd (omega (arith, same))
error_above ENOSPC same = absurd (omega (arith, same))
error_above ENOMSG same = absurd (omega (arith, same))
error_above EIDRM same = absurd (omega (arith, same))
error_above EOVERFLOW same = absurd (omega (arith, same))

same_ask : (command : Command) (exchanges : List Exchange) (a b : Ask) → next_ask command exchanges ≡ Some a →
    next_ask command exchanges ≡ Some b → a ≡ b
same_ask command exchanges a b x y = let e : Some a ≡ Some b = sym x ∙ y in cc

-- A reply to a request that was done is no reply with an error.
no_refusal : (one : OneAnswerToReplies Two) (e : Exchange) (ask : Ask) (error : Errno) (input : List ℕ)
    → IsDone e.ask e.answer e.given → ReplyAt Two input (Ok (Some (reply_to e.ask e.answer)))
    → ReplyAt Two input (Ok (Some (reply_to ask (content.Refused error)))) → ⊥
no_refusal one e ask error input done here there =
    let same : e.answer ≡ content.Refused error = ap (λ (r : Reply). r.result)
    (one_reply (reply_to e.ask e.answer) (reply_to ask (content.Refused error)) (one input _ _ here there)) in
    error_above error (sym (ap error_number same) ∙ done.done)

-- A reply to the request is not another reply.
not_other : (ask : Ask) (answer : ReplyContent) (reply : Reply) → reply_to ask answer ≡ reply → IsOther ask reply → ⊥
not_other ask answer reply same (inl version) = version (sym (ap (λ (r : Reply). r.version) same))
not_other ask answer reply same (inr op) = op (sym (ap (λ (r : Reply). r.op) same))

is_reply : (one : OneAnswerToReplies Two) (e : Exchange) (ask : Ask) (answer : Result (Option Reply) Fault)
    (input : List ℕ)
    → ask ≡ e.ask → ReplyAt Two input (Ok (Some (reply_to e.ask e.answer)))
    → ReplyAt Two input answer → IsNoReplyTo ask answer → ⊥
is_reply one e ask (Ok (Some reply)) input same here there other =
    not_other e.ask e.answer reply (one_reply (reply_to e.ask e.answer) reply (one input _ _ here there))
    (subst (λ (a : Ask). IsOther a reply) same other)
is_reply one e ask (Ok None) input same here there other =
    apart_none (reply_to e.ask e.answer) (one input _ _ here there)
is_reply one e ask (Err why) input same here there other =
    apart_fault (reply_to e.ask e.answer) why (one input _ _ here there)

-- If an exchange is next, the dialogue does not end.
goes_on : (one : OneAnswerToReplies Two) (command : Command) (before : List Exchange) (e : Exchange)
    (ended : Result ⊤ ClientFault) (input : List ℕ) → next_ask command before ≡ Some e.ask
    → IsDone e.ask e.answer e.given → ReplyAt Two input (Ok (Some (reply_to e.ask e.answer)))
    → EndsOn command before ended input → ⊥
goes_on one command before e (Ok done) input next is_done here ends = let no : None ≡ Some e.ask = sym ends ∙ next in cc
goes_on one command before e (Err (fault.Refused error)) input next is_done here ends =
    no_refusal one e ends.0 error input is_done here ends.2
goes_on one command before e (Err fault.NoReply) input next is_done here ends =
    is_reply one e ends.0 ends.1 input (same_ask command before ends.0 e.ask ends.2 next) here ends.4 ends.3
goes_on one command before e (Err fault.NoMemory) input next is_done here ends = absurd ends

same_exchange : (e m : Exchange) → e.ask ≡ m.ask → e.answer ≡ m.answer → e.given ≡ m.given → e ≡ m
same_exchange e m asks answers givens =
    ap (λ (x : Ask). let one : Exchange = record { ask = x; answer = e.answer; given = e.given } in one) asks
    ∙ ap (λ (x : ReplyContent). let one : Exchange = record { ask = m.ask; answer = x; given = e.given } in one) answers
    ∙ ap (λ (x : List ℕ). let one : Exchange = record { ask = m.ask; answer = m.answer; given = x } in one) givens

-- The exchanges that remain of those that an input makes, after those that were made.
pub record Agrees (command : Command) (made all before : List Exchange) (behind rest : List ℕ) : Type 0 where
  pub more : List Exchange
  pub parts : all ≡ made ++ more
  pub follows : Follows command (before ++ made) more
  pub left : behind ≡ answered_encoding more ++ rest

agree : (one : OneAnswerToReplies Two) (encoded : OneReply) (command : Command) (before made all whole : List Exchange)
    (ended : Result ⊤ ClientFault) (input behind rest : List ℕ)
    → Follows command before made → Follows command before all → input ≡ answered_encoding made ++ behind
    → input ≡ answered_encoding all ++ rest
    → whole ≡ before ++ all → EndsOn command whole ended rest → Agrees command made all before behind rest
agree one encoded command before [] all whole ended input behind rest made_so all_so a b full ends =
    record {
      more = all;
      parts = refl;
      follows = subst (λ (l : List Exchange). Follows command l all) (sym (append-nil before)) all_so;
      left = sym a ∙ b;
    }
agree one encoded command before (e ∷ es) [] whole ended input behind rest made_so all_so a b full ends =
    let here = stands e (answered_encoding es ++ behind) rest made_so.1
    (sym b ∙ a ∙ append_assoc (reply_encoding (reply_to e.ask e.answer) e.given) (answered_encoding es) behind) in
    absurd (goes_on one command before e ended rest made_so.0 made_so.1 here
    (subst (λ (l : List Exchange). EndsOn command l ended rest) (full ∙ append-nil before) ends))
agree one encoded command before (e ∷ es) (m ∷ ms) whole ended input behind rest made_so all_so a b full ends =
    let asks : e.ask ≡ m.ask = same_ask command before e.ask m.ask made_so.0 all_so.0 in
    let front : reply_encoding (reply_to e.ask e.answer) e.given ++ (answered_encoding es ++ behind)
    ≡ reply_encoding (reply_to m.ask m.answer) m.given ++ (answered_encoding ms ++ rest) =
    sym (append_assoc (reply_encoding (reply_to e.ask e.answer) e.given) (answered_encoding es) behind) ∙ sym a ∙ b
    ∙ append_assoc (reply_encoding (reply_to m.ask m.answer) m.given) (answered_encoding ms) rest in
    let same = encoded (reply_to e.ask e.answer) (reply_to m.ask m.answer) e.given m.given
    (answered_encoding es ++ behind) (answered_encoding ms ++ rest) made_so.1.fits all_so.1.fits front in
    let answers : e.answer ≡ m.answer = ap (λ (r : Reply). r.result) same.0 in
    let givens : e.given ≡ m.given = made_so.1.text ∙ same.1 ∙ sym all_so.1.text in
    let exchanges : e ≡ m = same_exchange e m asks answers givens in
    let rest_so : Follows command (before ++ e ∷ []) ms =
    subst (λ (x : Exchange). Follows command (before ++ x ∷ []) ms) (sym exchanges) all_so.2 in
    let full_so : whole ≡ (before ++ e ∷ []) ++ ms =
    full ∙ ap (λ (x : Exchange). before ++ (x ∷ ms)) (sym exchanges) ∙ sym (append_assoc before (e ∷ []) ms) in
    let others = agree one encoded command (before ++ e ∷ []) es ms whole ended (answered_encoding es ++ behind) behind
    rest made_so.2 rest_so refl same.2 full_so ends in
    record {
      more = others.more;
      parts = ap (λ (l : List Exchange). m ∷ l) others.parts
          ∙ ap (λ (x : Exchange). x ∷ (es ++ others.more)) (sym exchanges);
      follows =
          subst (λ (l : List Exchange). Follows command l others.more) (append_assoc before (e ∷ []) es) others.follows;
      left = others.left;
    }

-- The first remaining exchange would be next.
first_left : (made all before : List Exchange) (m : Exchange) (ms : List Exchange) (behind rest : List ℕ)
    → behind ≡ answered_encoding (m ∷ ms) ++ rest → IsDone m.ask m.answer m.given
    → ReplyAt Two behind (Ok (Some (reply_to m.ask m.answer)))
first_left made all before m ms behind rest left done =
    stands m (answered_encoding ms ++ rest) behind done
    (left ∙ append_assoc (reply_encoding (reply_to m.ask m.answer) m.given) (answered_encoding ms) rest)

no_next : (command : Command) (exchanges : List Exchange) (ask : Ask) → next_ask command exchanges ≡ None →
    next_ask command exchanges ≡ Some ask → ⊥
no_next command exchanges ask none some = let e : None ≡ Some ask = sym none ∙ some in cc

-- The dialogue that was made is the whole of what the input makes.
pub record IsWhole (made all : List Exchange) (was ended : Result ⊤ ClientFault) : Type 0 where
  pub exchanges : all ≡ made
  pub ending : ended ≡ was

all_asked : (command : Command) (made all more : List Exchange) (ended : Result ⊤ ClientFault) (done : ⊤)
    (behind rest : List ℕ) → next_ask command made ≡ None → all ≡ made ++ more
    → Follows command made more → EndsOn command all ended rest → IsWhole made all (Ok done) ended
all_asked command made all (m ∷ ms) ended done behind rest none parts follows ends =
    absurd (no_next command made m.ask none follows.0)
all_asked command made all [] (Ok tt) done behind rest none parts follows ends =
    record { exchanges = parts ∙ append-nil made; ending = refl }
all_asked command made all [] (Err (fault.Refused error)) done behind rest none parts follows ends =
    absurd (no_next command made ends.0 none (ap (next_ask command) (sym (parts ∙ append-nil made)) ∙ ends.1))
all_asked command made all [] (Err fault.NoReply) done behind rest none parts follows ends =
    absurd (no_next command made ends.0 none (ap (next_ask command) (sym (parts ∙ append-nil made)) ∙ ends.2))
all_asked command made all [] (Err fault.NoMemory) done behind rest none parts follows ends = absurd ends

-- A reply to the request is not a lack of a reply to it.
is_answer : (one : OneAnswerToReplies Two) (ask other : Ask) (told : ReplyContent)
    (answer : Result (Option Reply) Fault)
    (input : List ℕ) → other ≡ ask → ReplyAt Two input (Ok (Some (reply_to ask told)))
    → ReplyAt Two input answer → IsNoReplyTo other answer → ⊥
is_answer one ask other told (Ok (Some reply)) input same here there denies =
    not_other ask told reply (one_reply (reply_to ask told) reply (one input _ _ here there))
    (subst (λ (a : Ask). IsOther a reply) same denies)
is_answer one ask other told (Ok None) input same here there denies =
    apart_none (reply_to ask told) (one input _ _ here there)
is_answer one ask other told (Err why) input same here there denies =
    apart_fault (reply_to ask told) why (one input _ _ here there)

refused : (one : OneAnswerToReplies Two) (command : Command) (made all more : List Exchange)
    (ended : Result ⊤ ClientFault)
    (ask : Ask) (error : Errno) (behind rest : List ℕ)
    → next_ask command made ≡ Some ask → ReplyAt Two behind (Ok (Some (reply_to ask (content.Refused error))))
    → all ≡ made ++ more → Follows command made more
    → behind ≡ answered_encoding more ++ rest → EndsOn command all ended rest
    → IsWhole made all (Err (fault.Refused error)) ended
refused one command made all (m ∷ ms) ended ask error behind rest next here parts follows left ends =
    absurd (no_refusal one m ask error behind follows.1 (first_left made all made m ms behind rest left follows.1) here)
refused one command made all [] (Ok done) ask error behind rest next here parts follows left ends =
    absurd (no_next command made ask (ap (next_ask command) (sym (parts ∙ append-nil made)) ∙ ends) next)
refused one command made all [] (Err (fault.Refused other)) ask error behind rest next here parts follows left ends =
    let there =
    subst (λ (l : List ℕ). ReplyAt Two l (Ok (Some (reply_to ends.0 (content.Refused other))))) (sym left) ends.2 in
    let answers = ap (λ (r : Reply). r.result)
    (one_reply (reply_to ends.0 (content.Refused other)) (reply_to ask (content.Refused error))
    (one behind _ _ there here)) in
    record { exchanges = parts ∙ append-nil made; ending = same_refusal other error answers }
refused one command made all [] (Err fault.NoReply) ask error behind rest next here parts follows left ends =
    let asked : ends.0 ≡ ask =
    same_ask command made ends.0 ask (ap (next_ask command) (sym (parts ∙ append-nil made)) ∙ ends.2) next in
    absurd (is_answer one ask ends.0 (content.Refused error) ends.1 behind asked here
    (subst (λ (l : List ℕ). ReplyAt Two l ends.1) (sym left) ends.4) ends.3)
refused one command made all [] (Err fault.NoMemory) ask error behind rest next here parts follows left ends =
    absurd ends

unanswered : (one : OneAnswerToReplies Two) (command : Command) (made all more : List Exchange)
    (ended : Result ⊤ ClientFault) (ask : Ask) (heard : Result (Option Reply) Fault) (behind rest : List ℕ)
    → next_ask command made ≡ Some ask → ReplyAt Two behind heard → IsNoReplyTo ask heard → all ≡ made ++ more
    → Follows command made more
    → behind ≡ answered_encoding more ++ rest → EndsOn command all ended rest
    → IsWhole made all (Err fault.NoReply) ended
unanswered one command made all (m ∷ ms) ended ask heard behind rest next here denies parts follows left ends =
    absurd (is_reply one m ask heard behind (same_ask command made ask m.ask next follows.0)
    (first_left made all made m ms behind rest left follows.1) here denies)
unanswered one command made all [] (Ok done) ask heard behind rest next here denies parts follows left ends =
    absurd (no_next command made ask (ap (next_ask command) (sym (parts ∙ append-nil made)) ∙ ends) next)
unanswered one command made all [] (Err (fault.Refused other)) ask heard behind rest next here denies parts follows left
    ends =
    let asked : ask ≡ ends.0 =
    same_ask command made ask ends.0 next (ap (next_ask command) (sym (parts ∙ append-nil made)) ∙ ends.1) in
    absurd (is_answer one ends.0 ask (content.Refused other) heard behind asked
    (subst (λ (l : List ℕ). ReplyAt Two l (Ok (Some (reply_to ends.0 (content.Refused other))))) (sym left) ends.2) here
    denies)
unanswered one command made all [] (Err fault.NoReply) ask heard behind rest next here denies parts follows left ends =
    record { exchanges = parts ∙ append-nil made; ending = refl }
unanswered one command made all [] (Err fault.NoMemory) ask heard behind rest next here denies parts follows left ends =
    absurd ends

-- What is read is in the input, or nothing is stated because the reader failed.
Heard : Ask → List ℕ → Type 0
Heard ask behind = ((heard : Result (Option Reply) Fault) × ReplyAt Two behind heard × IsNoReplyTo ask heard) ⊎ ⊤

fault_heard : (ask : Ask) (why : Fault) (behind : List ℕ) (rest : Option (List ℕ)) →
    Faults (ReplyFault Two) why (Some behind) rest → Heard ask behind
unfolding Heard
fault_heard ask why behind None found = absurd found.1
fault_heard ask Truncated behind (Some left) found =
    let whole : behind ≡ found.0 = found.1 ∙ ap (λ (l : List ℕ). found.0 ++ l) found.3 ∙ append-nil found.0 in
    inl (Err Truncated, subst (λ (l : List ℕ). ReplyFault Two Truncated l) (sym whole) found.2, tt)
fault_heard ask TooLong behind (Some left) found = inl (Err TooLong, (found.0, left, found.2, found.1), tt)
fault_heard ask BadOp behind (Some left) found = inl (Err BadOp, (found.0, left, found.2, found.1), tt)
fault_heard ask BadField behind (Some left) found = inl (Err BadField, (found.0, left, found.2, found.1), tt)
fault_heard ask Read behind (Some left) found = inr tt

at_end : (ask : Ask) (behind : List ℕ) (rest : Option (List ℕ)) → Consumes (Some behind) rest [] → IsAtEnd rest →
    Heard ask behind
unfolding Heard
at_end ask behind None took ended = absurd took
at_end ask behind (Some left) took ended = inl (Ok None, took ∙ ended, tt)

other_reply : (ask : Ask) (behind : List ℕ) (rest : Option (List ℕ)) (reply : Reply) (text : List ℕ)
    → FitsReply reply text → IsOther ask reply → Consumes (Some behind) rest (reply_encoding reply text)
    → IsUpTo Two reply.version → Heard ask behind
unfolding Heard
other_reply ask behind None reply text fits differs took known = absurd took
other_reply ask behind (Some left) reply text fits differs took known =
    inl (Ok (Some reply), (text, left, fits, took, known), differs)

heard_none : (ask : Ask) (behind : List ℕ) (rest : Option (List ℕ)) → HasNoReply ask (Some behind) rest →
    Heard ask behind
heard_none ask behind rest (inl quiet) = at_end ask behind rest quiet.0 quiet.1
heard_none ask behind rest (inr (inl found)) = fault_heard ask found.0 behind rest found.1
heard_none ask behind rest (inr (inr found)) = other_reply ask behind rest found.0 found.1 found.2 found.3 found.4
    found.5

-- The operation is one of version 2.
abbrev IsSpoken : Ask → Type 0
IsSpoken ask = op_number (op_of ask) ≤ 7

spoken_rows : (slots : List ℕ) → AllByRecursion IsSpoken (map (λ slot. Row slot) slots)
spoken_rows [] = tt
spoken_rows (slot ∷ slots) = (omega arith, spoken_rows slots)

spoken_limit : (owner : Cred) (making : Making) (found : ℤ) (qbytes : Option ℕ) →
    AllByRecursion IsSpoken (limit_asks owner making found qbytes)
spoken_limit owner making found None = tt
spoken_limit owner making found (Some qbytes) = (omega arith, tt)

spoken_task : (owner : Cred) (task : Task) (slots : ℕ) (found : ℤ) →
    AllByRecursion IsSpoken (task_asks owner task slots found)
unfolding row_asks
spoken_task owner (Table format) slots found = spoken_rows (range_with_len 0 (min slots MAX_ROWS))
spoken_task owner (Show id) slots found = (omega arith, tt)
spoken_task owner (Remove (Id id)) slots found = (omega arith, tt)
spoken_task owner (Remove (Key key)) slots found = (omega arith, (omega arith, tt))
spoken_task owner (Remove All) slots found = tt
spoken_task owner (Make making) slots found = (omega arith, spoken_limit owner making found making.qbytes)
spoken_task owner (Send key text mtype nowait) slots found = (omega arith, (omega arith, tt))
spoken_task owner (Receive receipt) slots found = (omega arith, (omega arith, tt))

spoken_at : (asks : List Ask) (place : ℕ) (ask : Ask) → AllByRecursion IsSpoken asks → slice_get asks place ≡ Some ask →
    IsSpoken ask
spoken_at [] place ask all is = absurd cc
spoken_at (first ∷ asks) zero ask all is = let same : first ≡ ask = cc in subst IsSpoken same all.0
spoken_at (first ∷ asks) (suc place) ask all is = spoken_at asks place ask all.1 is

-- A command makes only requests of version 2.
spoken_next : (command : Command) (exchanges : List Exchange) (ask : Ask) → next_ask command exchanges ≡ Some ask →
    IsSpoken ask
spoken_next command exchanges ask is =
    spoken_at (asks_of command (slots_in exchanges) (found_in exchanges)) (length exchanges) ask
    (omega arith, spoken_task command.cred command.task (slots_in exchanges) (found_in exchanges)) is

refusal_heard : (ask : Ask) (error : Errno) (behind : List ℕ) (rest : Option (List ℕ)) → IsSpoken ask
    → Consumes (Some behind) rest (reply_encoding (reply_to ask (content.Refused error)) [])
    → ReplyAt Two behind (Ok (Some (reply_to ask (content.Refused error))))
refusal_heard ask error behind None spoken took = absurd took
refusal_heard ask error behind (Some left) spoken took =
    ([], left, (omega (arith, spoken), tt, omega arith, omega (arith, spoken)), took, omega arith)

-- A dialogue that ended with no reply or with no memory. The dialogue that was made is the whole of what
-- the input makes, or it was cut this way.
abbrev pub IsCut : Result ⊤ ClientFault → Type 0
IsCut was = (was ≡ Err fault.NoReply) ⊎ (was ≡ Err fault.NoMemory)

unheard : (one : OneAnswerToReplies Two) (command : Command) (made all more : List Exchange)
    (ended : Result ⊤ ClientFault)
    (ask : Ask) (behind rest : List ℕ)
    → next_ask command made ≡ Some ask → Heard ask behind → all ≡ made ++ more → Follows command made more
    → behind ≡ answered_encoding more ++ rest → EndsOn command all ended rest
    → IsWhole made all (Err fault.NoReply) ended ⊎ IsCut (Err fault.NoReply)
unfolding Heard
unheard one command made all more ended ask behind rest next (inl heard) parts follows left ends =
    inl (unanswered one command made all more ended ask heard.0 behind rest next heard.1 heard.2 parts follows left
    ends)
unheard one command made all more ended ask behind rest next (inr failed) parts follows left ends = inr (inl refl)

ends_as_made : (one : OneAnswerToReplies Two) (command : Command) (made all more : List Exchange)
    (was ended : Result ⊤ ClientFault) (behind rest : List ℕ) (left taken written : Option (List ℕ))
    → EndsDialogue command made was (Some behind) left taken written → all ≡ made ++ more → Follows command made more
    → behind ≡ answered_encoding more ++ rest → EndsOn command all ended rest → IsWhole made all was ended ⊎ IsCut was
ends_as_made one command made all more (Ok done) ended behind rest left taken written ends parts follows same on =
    inl (all_asked command made all more ended done behind rest ends.0 parts follows on)
ends_as_made one command made all more (Err (fault.Refused error)) ended behind rest left taken written ends parts
    follows same on =
    inl (refused one command made all more ended ends.0 error behind rest ends.2.0
    (refusal_heard ends.0 error behind left (spoken_next command made ends.0 ends.2.0) ends.4.1) parts follows same on)
ends_as_made one command made all more (Err fault.NoReply) ended behind rest left taken written
    (ask, ahead, next, few, inl unwritten) parts follows same on = inr (inl refl)
ends_as_made one command made all more (Err fault.NoReply) ended behind rest left taken written
    (ask, ahead, next, few, inr heard) parts follows same on =
    unheard one command made all more ended ask behind rest next.0 (heard_none ask behind left heard.1) parts follows
    same on
ends_as_made one command made all more (Err fault.NoMemory) ended behind rest left taken written ends parts follows same
    on = inr (inr refl)

made_of : (one : OneAnswerToReplies Two) (encoded : OneReply) (command : Command) (made all : List Exchange)
    (was ended : Result ⊤ ClientFault) (input : List ℕ) (unread left taken written : Option (List ℕ))
    → Follows command [] made → Consumes (Some input) unread (answered_encoding made)
    → EndsDialogue command made was unread left taken written → Makes command input all ended
    → IsWhole made all was ended ⊎ IsCut was
made_of one encoded command made all was ended input None left taken written conversed reads ends makes = absurd reads
made_of one encoded command made all was ended input (Some behind) left taken written conversed reads ends makes =
    let agrees = agree one encoded command [] made all all ended input behind makes.rest conversed makes.conversed reads
    makes.replies refl makes.ends in
    ends_as_made one command made all agrees.more was ended behind makes.rest left taken written ends agrees.parts
    agrees.follows agrees.left makes.ends

-- The line of a fault was shown, or a prefix of it.
shows_fault : (why : ClientFault) (status : ℤ) (shown after : Option (List ℕ)) →
    Shows status (pos 1) (fault_line why) shown after → ShowsFault why status shown after
shows_fault why status shown after (inl whole) =
    (whole.0, (fault_line why, ([], sym (append-nil (fault_line why))), whole.1))
shows_fault why status shown after (inr part) = part

shown_as_made : (command : Command) (made all : List Exchange) (was ended : Result ⊤ ClientFault) (status : ℤ)
    (shown after : Option (List ℕ))
    → Shows status (status_of was) (shown_text command.task made was) shown after
    → IsWhole made all was ended ⊎ IsCut was → ShowsParse command all ended status shown after
shown_as_made command made all was ended status shown after shows (inl whole) =
    inl (subst (λ (e : Result ⊤ ClientFault). Shows status (status_of e) (shown_text command.task all e) shown after)
    (sym whole.ending)
    (subst (λ (l : List Exchange). Shows status (status_of was) (shown_text command.task l was) shown after)
    (sym whole.exchanges) shows))
shown_as_made command made all was ended status shown after shows (inr (inl cut)) =
    inr (inl (shows_fault fault.NoReply status shown after
    (subst (λ (e : Result ⊤ ClientFault). Shows status (status_of e) (shown_text command.task made e) shown after) cut
    shows)))
shown_as_made command made all was ended status shown after shows (inr (inr cut)) =
    inr (inr (shows_fault fault.NoMemory status shown after
    (subst (λ (e : Result ⊤ ClientFault). Shows status (status_of e) (shown_text command.task made e) shown after) cut
    shows)))

-- A client shows what its input makes of its command.
pub shows_parse : OneAnswerToReplies Two → OneReply
    → (command : Command) (status : ℤ) (left rest taken more shown after : Option (List ℕ))
    → Runs command status left rest taken more shown after
    → (input : List ℕ) (all : List Exchange) (ended : Result ⊤ ClientFault) → left ≡ Some input
    → Makes command input all ended → ShowsParse command all ended status shown after
shows_parse one encoded command status left rest taken more shown after runs input all ended known makes =
    let converses = runs.converses in
    let reads =
    subst (λ (l : Option (List ℕ)). Consumes l converses.unread (answered_encoding runs.exchanges)) known
    converses.reads in
    shown_as_made command runs.exchanges all runs.ended ended status shown after runs.shows
    (made_of one encoded command runs.exchanges all runs.ended ended input converses.unread rest converses.written more
    converses.conversed reads converses.ends makes)
