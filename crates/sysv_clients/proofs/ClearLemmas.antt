-- A removal of all queues in progress, and how it ends.
use Rattle.std.proofs.Common.{◌≡◌, ℕ, ℤ, List, [], ◌∷◌, ◌++◌, Option, None, Some, Result, Ok, Err, inl, inr, refl}
use Rattle.std.proofs.Common.{sym, ap, subst, ◌∙◌, append_assoc, append-nil, arith}
use Rattle.std.proofs.lemmas.List.Concat.{flat_map-append}
use Rattle.std.proofs.lemmas.List.Sums.{fold-append}
use Rattle.std.specs.Prelude.{⊤, fold}
use Rattle.std.specs.Io.KnownBytes.{Appends, Consumes}
use Rattle.sysv_clients.specs.declared.clearing.Clearing.{Clearing}
use Rattle.sysv_clients.specs.declared.clearing.Refusal.{Refusal}
use Rattle.sysv_clients.specs.declared.fault.ClientFault.{ClientFault}
use Rattle.sysv_clients.specs.declared.fault.ClientFault.TheVariants.{Refused, NoReply, NoMemory}
use Rattle.sysv_clients.specs.Asks.{request_of}
use Rattle.sysv_clients.specs.Calls.{Call, Made}
use Rattle.sysv_clients.specs.Clearing.{ClearsAll, EndsClearing, IsTried, Reports, Tries, begun, clearing_ask}
use Rattle.sysv_clients.specs.Clearing.{clearing_plan, moved, refusal_by, refusals_of, refused_by}
use Rattle.sysv_clients.specs.Dialogue.{Exchanges, reply_to}
use Rattle.sysv_clients.proofs.CallLemmas.{call_of, none_made, one_more}
use Rattle.sysv_model.specs.declared.cred.Cred.{Cred}
use Rattle.sysv_model.specs.declared.errno.Errno.{Errno}
use Rattle.sysv_model.specs.declared.errno.Errno.TheVariants as error
use Rattle.sysv_wire.specs.declared.reply.ReplyContent.{ReplyContent}
use Rattle.sysv_wire.specs.declared.reply.ReplyContent.TheVariants as content
use Rattle.sysv_wire.specs.declared.request.Ask.{Ask}
use Rattle.sysv_wire.specs.declared.request.Ask.TheVariants.{Hello, Get, Snd, Rcv, Stat, Set, Rm, Row, Hold, Done, Back}
use Rattle.sysv_wire.specs.Replies.{error_number, reply_encoding}
use Rattle.sysv_wire.specs.Requests.{request_encoding}

-- The hello was done, and these calls followed it.
pub record Clears (cred : Cred) (left rest taken more : Option (List ℕ)) (before reported : List Refusal)
    (clearing : Clearing) : Type 0 where
  pub first : Call
  pub calls : List Call
  pub made : Made IsTried (clearing_plan cred) (first ∷ calls) left rest taken more
  pub is_at : clearing ≡ fold (λ (c : Clearing) (call : Call). moved c call.answer) (begun first.answer) calls
  pub reports : reported ≡ before ++ refusals_of (first ∷ calls)

-- An error has a number above 0.
pub no_refusal : (why : Errno) → ¬ (error_number (content.Refused why) ≡ 0)
no_refusal error.EPERM is = absurd (omega (arith, is))
no_refusal error.ENOENT is = absurd (omega (arith, is))
no_refusal error.E2BIG is = absurd (omega (arith, is))
no_refusal error.EAGAIN is = absurd (omega (arith, is))
no_refusal error.EACCES is = absurd (omega (arith, is))
no_refusal error.EEXIST is = absurd (omega (arith, is))
no_refusal error.EINVAL is = absurd (omega (arith, is))
no_refusal error.ENOSPC is = absurd (omega (arith, is))
no_refusal error.ENOMSG is = absurd (omega (arith, is))
no_refusal error.EIDRM is = absurd (omega (arith, is))
no_refusal error.EOVERFLOW is = absurd (omega (arith, is))

-- Of a removal that was done nothing is reported.
removed : (id : ℤ) (answer : ReplyContent) → error_number answer ≡ 0 → refused_by (Rm id) answer ≡ []
removed id (content.Refused why) is = absurd (no_refusal why is)
removed id (content.Row row) is = refl
removed id content.Hello is = refl
removed id (content.HelloSlots slots) is = refl
removed id (content.Get got) is = refl
removed id content.Snd is = refl
removed id (content.Rcv mtype) is = refl
removed id (content.Stat stat) is = refl
removed id content.Set is = refl
removed id content.Rm is = refl
removed id content.Done is = refl
removed id content.Back is = refl
removed id (content.Hold mtype) is = refl

-- Of a request that was done nothing is reported.
done : (ask : Ask) (answer : ReplyContent) → error_number answer ≡ 0 → refused_by ask answer ≡ []
done (Rm id) answer is = removed id answer is
done (Hello cred) answer is = refl
done (Get key flags) answer is = refl
done (Snd id mtype flags) answer is = refl
done (Rcv id size mtype flags) answer is = refl
done (Stat id) answer is = refl
done (Set id to) answer is = refl
done (Row slot) answer is = refl
done (Hold id size mtype flags seconds) answer is = refl
done Done answer is = refl
done Back answer is = refl

refusals_more : (calls : List Call) (one : Call) →
    refusals_of (calls ++ one ∷ []) ≡ refusals_of calls ++ refused_by one.ask one.answer
refusals_more calls one =
    flat_map-append (λ (e : Call). refused_by e.ask e.answer) calls (one ∷ [])
    ∙ ap (λ l. refusals_of calls ++ l) (append-nil (refused_by one.ask one.answer))

-- What is reported after one more call.
reports_more : (calls : List Call) (one : Call) (before so reported : List Refusal) → so ≡ before ++ refusals_of calls
    → reported ≡ so ++ refused_by one.ask one.answer → reported ≡ before ++ refusals_of (calls ++ one ∷ [])
reports_more calls one before so reported old new =
    new ∙ ap (λ l. l ++ refused_by one.ask one.answer) old
    ∙ append_assoc before (refusals_of calls) (refused_by one.ask one.answer)
    ∙ ap (λ l. before ++ l) (sym (refusals_more calls one))

pub opens : (cred : Cred) (welcome : ReplyContent) (given text : List ℕ) (left rest taken more : Option (List ℕ))
    (before : List Refusal)
    → Exchanges (request_encoding (request_of (Hello cred)) text) (Hello cred) (Ok welcome) left rest taken more given
    → Clears cred left rest taken more before before (begun welcome)
opens cred welcome given text left rest taken more before exchange = record {
  first = call_of (Hello cred) text welcome given;
  calls = [];
  made = one_more IsTried (clearing_plan cred) [] (call_of (Hello cred) text welcome given) left left rest taken taken
      more (none_made IsTried (clearing_plan cred) left taken) refl (inl exchange.1.1) exchange.0 exchange.1.0;
  is_at = refl;
  reports = sym (append-nil before);
}

-- The request is the next of the plan.
is_next : (cred : Cred) (left rest taken more : Option (List ℕ)) (before reported : List Refusal) (clearing : Clearing)
    (found : Option Ask) → (so_far : Clears cred left rest taken more before reported clearing)
    → found ≡ clearing_ask clearing → clearing_plan cred (so_far.first ∷ so_far.calls) ≡ found
is_next cred left rest taken more before reported clearing found so_far asked =
    sym (asked ∙ ap clearing_ask so_far.is_at)

-- One more call.
grows : (cred : Cred) (one : Call) (left mid rest taken more most : Option (List ℕ)) (before so reported : List Refusal)
    (clearing : Clearing)
    → Clears cred left mid taken more before so clearing → Some one.ask ≡ clearing_ask clearing → IsTried one
    → Appends more most (request_encoding (request_of one.ask) one.text)
    → Consumes mid rest (reply_encoding (reply_to one.ask one.answer) one.given)
    → reported ≡ so ++ refused_by one.ask one.answer
    → Clears cred left rest taken most before reported (moved clearing one.answer)
grows cred one left mid rest taken more most before so reported clearing so_far asked tried written read new = record {
  first = so_far.first;
  calls = so_far.calls ++ one ∷ [];
  made = one_more IsTried (clearing_plan cred) (so_far.first ∷ so_far.calls) one left mid rest taken more most
      so_far.made (is_next cred left mid taken more before so clearing (Some one.ask) so_far asked) tried written read;
  is_at = ap (λ (c : Clearing). moved c one.answer) so_far.is_at
      ∙ sym (fold-append (λ (c : Clearing) (call : Call). moved c call.answer) (begun so_far.first.answer) so_far.calls
      (one ∷ []));
  reports = reports_more (so_far.first ∷ so_far.calls) one before so reported so_far.reports new;
}

-- One more request was done.
after_done : (cred : Cred) (ask : Ask) (answer : ReplyContent) (given text : List ℕ)
    (left mid rest taken more most : Option (List ℕ)) (before so reported : List Refusal) (clearing : Clearing)
    → Clears cred left mid taken more before so clearing → Some ask ≡ clearing_ask clearing
    → Exchanges (request_encoding (request_of ask) text) ask (Ok answer) mid rest more most given → reported ≡ so
    → Clears cred left rest taken most before reported (moved clearing answer)
after_done cred ask answer given text left mid rest taken more most before so reported clearing so_far asked exchange
    same =
    grows cred (call_of ask text answer given) left mid rest taken more most before so reported clearing so_far asked
    (inl exchange.1.1) exchange.0 exchange.1.0
    (same ∙ sym (append-nil so) ∙ ap (λ l. so ++ l) (sym (done ask answer exchange.1.1.done)))

-- A removal was refused.
after_refused : (cred : Cred) (ask : Ask) (outcome : Result ReplyContent ClientFault) (answer : ReplyContent) (id : ℤ)
    (why : Errno) (given text : List ℕ)
    (left mid rest taken more most : Option (List ℕ)) (before so reported : List Refusal) (clearing : Clearing)
    → Clears cred left mid taken more before so clearing → Some ask ≡ clearing_ask clearing
    → Exchanges (request_encoding (request_of ask) text) ask outcome mid rest more most given
    → ask ≡ Rm id → outcome ≡ Err (Refused why) → answer ≡ content.Refused why → reported ≡ so ++ refusal_by id why
    → Clears cred left rest taken most before reported (moved clearing answer)
after_refused cred ask outcome answer id why given text left mid rest taken more most before so reported clearing so_far
    asked exchange is_rm refuses is_refused new =
    let read = subst (λ (o : Result ReplyContent ClientFault).
    Exchanges (request_encoding (request_of ask) text) ask o mid rest more most given) refuses exchange in
    let says : refusal_by id why ≡ refused_by ask answer =
    sym (ap (λ (x : Ask). refused_by x answer) is_rm ∙ ap (λ (a : ReplyContent). refused_by (Rm id) a) is_refused) in
    grows cred (call_of ask text answer []) left mid rest taken more most before so reported clearing so_far asked
    (inr (id, why, is_rm, is_refused, refl)) read.0
    (subst (λ (a : ReplyContent). Consumes mid rest (reply_encoding (reply_to ask a) [])) (sym is_refused) read.1)
    (new ∙ ap (λ l. so ++ l) says)

pub goes_on : (cred : Cred) (ask : Ask) (outcome : Result ReplyContent ClientFault) (answer : ReplyContent)
    (given text : List ℕ) (left mid rest taken more most : Option (List ℕ)) (before so reported : List Refusal)
    (clearing : Clearing)
    → Clears cred left mid taken more before so clearing → Some ask ≡ clearing_ask clearing
    → Exchanges (request_encoding (request_of ask) text) ask outcome mid rest more most given
    → Tries ask outcome (Ok answer) so reported
    → Clears cred left rest taken most before reported (moved clearing answer)
goes_on cred ask outcome answer given text left mid rest taken more most before so reported clearing so_far asked
    exchange (inl tried) =
    after_done cred ask answer given text left mid rest taken more most before so reported clearing so_far asked
    (subst (λ (o : Result ReplyContent ClientFault).
    Exchanges (request_encoding (request_of ask) text) ask o mid rest more most given) tried.0 exchange) tried.1
goes_on cred ask outcome answer given text left mid rest taken more most before so reported clearing so_far asked
    exchange (inr t) =
    after_refused cred ask outcome answer t.0 t.1 given text left mid rest taken more most before so reported clearing
    so_far asked exchange t.2 t.3 t.4 t.5

-- All requests were made.
pub finishes : (cred : Cred) (finished : ⊤) (left rest taken more : Option (List ℕ)) (before reported : List Refusal)
    (clearing : Clearing)
    → Clears cred left rest taken more before reported clearing → None ≡ clearing_ask clearing
    → ClearsAll cred (Ok finished) left rest taken more before reported
finishes cred finished left rest taken more before reported clearing so_far asked = record {
  calls = so_far.first ∷ so_far.calls;
  unread = rest;
  written = more;
  made = so_far.made;
  ends = (is_next cred left rest taken more before reported clearing None so_far asked, refl, refl);
  reports = so_far.reports;
}

-- A fault in what was read or written last.
ends_by : (cred : Cred) (calls : List Call) (why : ClientFault) (ask : Ask) (text given : List ℕ)
    (left rest taken more : Option (List ℕ)) → clearing_plan cred calls ≡ Some ask → text ≡ []
    → Exchanges (request_encoding (request_of ask) text) ask (Err why) left rest taken more given
    → EndsClearing (clearing_plan cred) calls (Err why) left rest taken more
ends_by cred calls (Refused error) ask text given left rest taken more next is exchange = (
  ask,
  next,
  subst (λ (l : List ℕ).
      Exchanges (request_encoding (request_of ask) l) ask (Err (Refused error)) left rest taken more []) is exchange,
)
ends_by cred calls NoReply ask text given left rest taken more next is exchange = (
  ask,
  next,
  subst (λ (l : List ℕ). Exchanges (request_encoding (request_of ask) l) ask (Err NoReply) left rest taken more []) is
      exchange,
)
ends_by cred calls NoMemory ask text given left rest taken more next is exchange = absurd exchange

-- What is reported before a fault.
reports_by : (why : ClientFault) (refusals before after : List Refusal) → after ≡ before ++ refusals →
    Reports (Err why) refusals before after
reports_by (Refused error) refusals before after is = is
reports_by NoReply refusals before after is = is
reports_by NoMemory refusals before after is = tt

pub breaks_off : (cred : Cred) (ask : Ask) (outcome : Result ReplyContent ClientFault) (why : ClientFault)
    (given text : List ℕ) (left mid rest taken more most : Option (List ℕ)) (before so reported : List Refusal)
    (clearing : Clearing)
    → Clears cred left mid taken more before so clearing → Some ask ≡ clearing_ask clearing → text ≡ []
    → Exchanges (request_encoding (request_of ask) text) ask outcome mid rest more most given
    → Tries ask outcome (Err why) so reported
    → ClearsAll cred (Err why) left rest taken most before reported
breaks_off cred ask outcome why given text left mid rest taken more most before so reported clearing so_far asked is
    exchange (inl tried) = record {
      calls = so_far.first ∷ so_far.calls;
      unread = mid;
      written = more;
      made = so_far.made;
      ends = ends_by cred (so_far.first ∷ so_far.calls) why ask text given mid rest more most
          (is_next cred left mid taken more before so clearing (Some ask) so_far asked) is
          (subst (λ (o : Result ReplyContent ClientFault).
          Exchanges (request_encoding (request_of ask) text) ask o mid rest more most given) tried.0 exchange);
      reports = reports_by why (refusals_of (so_far.first ∷ so_far.calls)) before reported (tried.1 ∙ so_far.reports);
    }
breaks_off cred ask outcome why given text left mid rest taken more most before so reported clearing so_far asked is
    exchange (inr t) =
    let more_so = after_refused cred ask outcome (content.Refused t.1) t.0 t.1 given text left mid rest taken more most
    before so (so ++ refusal_by t.0 t.1) clearing so_far asked exchange t.2 t.3 refl refl in
    subst (λ (w : ClientFault). ClearsAll cred (Err w) left rest taken most before reported) (sym t.4)
    (record {
      calls = more_so.first ∷ more_so.calls;
      unread = rest;
      written = most;
      made = more_so.made;
      ends = (refl, refl);
      reports = tt;
    })

-- The hello has a fault.
pub no_hello : (cred : Cred) (why : ClientFault) (given text : List ℕ) (left rest taken more : Option (List ℕ))
    (before : List Refusal) → text ≡ []
    → Exchanges (request_encoding (request_of (Hello cred)) text) (Hello cred) (Err why) left rest taken more given
    → ClearsAll cred (Err why) left rest taken more before before
no_hello cred why given text left rest taken more before is exchange = record {
  calls = [];
  unread = left;
  written = taken;
  made = none_made IsTried (clearing_plan cred) left taken;
  ends = ends_by cred [] why (Hello cred) text given left rest taken more refl is exchange;
  reports = reports_by why [] before before (sym (append-nil before));
}

-- Memory is refused, and no request was made.
pub refused : (cred : Cred) (left taken : Option (List ℕ)) (before : List Refusal) →
    ClearsAll cred (Err NoMemory) left left taken taken before before
refused cred left taken before = record {
  calls = [];
  unread = left;
  written = taken;
  made = none_made IsTried (clearing_plan cred) left taken;
  ends = (refl, refl);
  reports = tt;
}
