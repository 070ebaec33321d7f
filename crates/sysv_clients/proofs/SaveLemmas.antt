-- A save in progress, and how it ends.
use Rattle.std.proofs.Common.{◌≡◌, ◌≢◌, ℕ, ℤ, ◌+◌, ◌-◌, ◌*◌, ◌<◌, ◌≤◌, zero, suc, List, [], ◌∷◌, ◌++◌, Option, None}
use Rattle.std.proofs.Common.{Some}
use Rattle.std.proofs.Common.{Result, Ok, Err, inl, inr, refl, sym, ap, subst, ◌∙◌, append_assoc, append-nil, arith}
use Rattle.std.proofs.lemmas.List.Concat.{flat_map-append}
use Rattle.std.proofs.lemmas.List.Sums.{fold-append}
use Rattle.std.specs.Prelude.{⊤, Bool, true, false, fold, length, OnErr, OnOk}
use Rattle.std.specs.Io.KnownBytes.{Appends, Consumes}
use Rattle.std.proofs.KnownBytes.{Appends-nil, Appends-trans}
use Rattle.sysv_clients.specs.declared.clearing.Refusal.{Refusal}
use Rattle.sysv_clients.specs.declared.command.TheConstants.{MAX_ROWS}
use Rattle.sysv_clients.specs.declared.fault.ClientFault.{ClientFault}
use Rattle.sysv_clients.specs.declared.fault.ClientFault.TheVariants.{Refused, NoReply, NoMemory}
use Rattle.sysv_clients.specs.declared.holding.Unheld.{Unheld}
use Rattle.sysv_clients.specs.declared.holding.Unheld.TheVariants.{Fault, Screen, Undone}
use Rattle.sysv_clients.specs.declared.saving.Saving.{Saving}
use Rattle.sysv_clients.specs.declared.saving.Stage.{Stage}
use Rattle.sysv_clients.specs.declared.saving.Step.{Step}
use Rattle.sysv_clients.specs.declared.saving.Step.TheVariants as step
use Rattle.sysv_clients.specs.declared.stream.Unshown.{Unshown}
use Rattle.sysv_clients.specs.Calls.{Call, MadeIn}
use Rattle.sysv_clients.specs.Saved.{format_line}
use Rattle.sysv_clients.specs.Clearing.{id_of_row}
use Rattle.sysv_clients.specs.Dialogue.{ExchangesIn, reply_in}
use Rattle.sysv_clients.specs.Saving.{EndsSave, IsOfQueue, IsTried, ReportsAll, SavesAll, Tries, after_hold, after_row}
use Rattle.sysv_clients.specs.Saving.{SyncsAll, SyncsText, after_find, after_stat, ask_next, begun, move, moved}
use Rattle.sysv_clients.specs.Saving.{refusal_of, reported_by, reports_of, saved_by, saved_text, saving_ask}
use Rattle.sysv_clients.specs.Saving.{saving_plan, text_of_call}
use Rattle.sysv_clients.proofs.CallLemmas.{call_of, none_made_in, one_more_in}
use Rattle.sysv_clients.proofs.ClearLemmas.{no_refusal}
use Rattle.sysv_clients.proofs.HoldLemmas.{frame, unanswered}
use Rattle.sysv_model.specs.declared.errno.Errno.{Errno}
use Rattle.sysv_model.specs.declared.limits.TheConstants.{MESSAGE_BYTES}
use Rattle.sysv_model.specs.Writing.{AppendsPrefix}
use Rattle.sysv_wire.specs.declared.frame.Version.TheVariants.{Three}
use Rattle.sysv_wire.specs.declared.reply.ReplyContent.{ReplyContent}
use Rattle.sysv_wire.specs.declared.reply.ReplyContent.TheVariants as content
use Rattle.sysv_wire.specs.declared.request.Ask.{Ask}
use Rattle.sysv_wire.specs.declared.request.Ask.TheVariants.{Hello}
use Rattle.sysv_wire.specs.Replies.{error_number, reply_encoding}

-- The hello was done, and these calls followed it.
pub record Requests (saving : Saving) (left rest taken more : Option (List ℕ)) (before reported : List Refusal)
    (stage : Stage) (first : Call) (calls : List Call) : Type 0 where
  pub made : MadeIn Three IsTried (saving_plan saving) (first ∷ calls) left rest taken more
  pub is_at : stage ≡ fold (λ (s : Stage) (call : Call). moved s call.answer) (begun saving first.answer) calls
  pub reports : reported ≡ before ++ reports_of (first ∷ calls)

-- They were made, and their lines were written.
pub record Saves (saving : Saving) (left rest taken more shown after : Option (List ℕ)) (before reported : List Refusal)
    (stage : Stage) : Type 0 where
  pub first : Call
  pub calls : List Call
  pub requests : Requests saving left rest taken more before reported stage first calls
  pub shows : Appends shown after (saved_text (first ∷ calls))

-- Of a request that was done nothing is reported.
done : (ask : Ask) (answer : ReplyContent) → error_number answer ≡ 0 → reported_by ask answer ≡ []
done ask (content.Refused why) is = absurd (no_refusal why is)
done ask (content.Row row) is = refl
done ask content.Hello is = refl
done ask (content.HelloSlots slots) is = refl
done ask (content.Get got) is = refl
done ask content.Snd is = refl
done ask (content.Rcv mtype) is = refl
done ask (content.Stat stat) is = refl
done ask content.Set is = refl
done ask content.Rm is = refl
done ask content.Done is = refl
done ask content.Back is = refl
done ask (content.Hold mtype) is = refl

reports_more : (calls : List Call) (one : Call) (before so reported : List Refusal) → so ≡ before ++ reports_of calls
    → reported ≡ so ++ reported_by one.ask one.answer → reported ≡ before ++ reports_of (calls ++ one ∷ [])
reports_more calls one before so reported old new =
    new ∙ ap (λ l. l ++ reported_by one.ask one.answer) old
    ∙ append_assoc before (reports_of calls) (reported_by one.ask one.answer)
    ∙ ap (λ l. before ++ l) (sym (flat_map-append (λ (e : Call). reported_by e.ask e.answer) calls (one ∷ [])
    ∙ ap (λ l. reports_of calls ++ l) (append-nil (reported_by one.ask one.answer))))

text_more : (calls : List Call) (one : Call) → saved_text (calls ++ one ∷ []) ≡ saved_text calls ++ saved_by one
text_more calls one =
    flat_map-append saved_by calls (one ∷ []) ∙ ap (λ l. saved_text calls ++ l) (append-nil (saved_by one))

-- The request is the next of the plan.
is_next : (saving : Saving) (left rest taken more : Option (List ℕ)) (before reported : List Refusal) (stage : Stage)
    (first : Call) (calls : List Call) (found : Option Ask)
    → Requests saving left rest taken more before reported stage first calls
    → found ≡ saving_ask saving stage → saving_plan saving (first ∷ calls) ≡ found
is_next saving left rest taken more before reported stage first calls found so_far asked =
    sym (asked ∙ ap (saving_ask saving) so_far.is_at)

greets : (saving : Saving) (welcome : ReplyContent) (given text : List ℕ) (left rest taken more : Option (List ℕ))
    (before : List Refusal)
    → ExchangesIn Three (frame (Hello saving.cred) text) (Hello saving.cred) (Ok welcome) left rest taken more given
    → Requests saving left rest taken more before before (begun saving welcome)
    (call_of (Hello saving.cred) text welcome given) []
greets saving welcome given text left rest taken more before exchange = record {
  made = one_more_in Three IsTried (saving_plan saving) [] (call_of (Hello saving.cred) text welcome given) left left
      rest taken
      taken more (none_made_in Three IsTried (saving_plan saving) left taken) refl (inl exchange.1.1) exchange.0
      exchange.1.0;
  is_at = refl;
  reports = sym (append-nil before)
      ∙ ap (λ l. before ++ (l ++ [])) (sym (done (Hello saving.cred) welcome exchange.1.1.done));
}

-- The hello was done, and its line was written.
pub opens : (saving : Saving) (welcome : ReplyContent) (given text : List ℕ)
    (left rest taken more shown after : Option (List ℕ)) (before : List Refusal)
    → ExchangesIn Three (frame (Hello saving.cred) text) (Hello saving.cred) (Ok welcome) left rest taken more given
    → Appends shown after (text_of_call (Hello saving.cred) welcome given)
    → Saves saving left rest taken more shown after before before (begun saving welcome)
opens saving welcome given text left rest taken more shown after before exchange show = record {
  first = call_of (Hello saving.cred) text welcome given;
  calls = [];
  requests = greets saving welcome given text left rest taken more before exchange;
  shows = subst (Appends shown after) (sym (append-nil (text_of_call (Hello saving.cred) welcome given))) show;
}

-- One more call.
grows : (saving : Saving) (one : Call) (left mid rest taken more most : Option (List ℕ))
    (before so reported : List Refusal)
    (stage : Stage) (first : Call) (calls : List Call)
    → Requests saving left mid taken more before so stage first calls → Some one.ask ≡ saving_ask saving stage
    → IsTried one
    → Appends more most (frame one.ask one.text)
    → Consumes mid rest (reply_encoding (reply_in Three one.ask one.answer) one.given)
    → reported ≡ so ++ reported_by one.ask one.answer
    → Requests saving left rest taken most before reported (moved stage one.answer) first (calls ++ one ∷ [])
grows saving one left mid rest taken more most before so reported stage first calls so_far asked tried written read
    new =
    record {
      made = one_more_in Three IsTried (saving_plan saving) (first ∷ calls) one left mid rest taken more most
          so_far.made (is_next saving left mid taken more before so stage first calls (Some one.ask) so_far asked) tried
          written read;
      is_at = ap (λ (s : Stage). moved s one.answer) so_far.is_at
          ∙ sym (fold-append (λ (s : Stage) (call : Call). moved s call.answer) (begun saving first.answer) calls
          (one ∷ []));
      reports = reports_more (first ∷ calls) one before so reported so_far.reports new;
    }

-- The text of a request of a queue that was refused is empty.
no_text : (id : ℤ) (ask : Ask) (why : Errno) (given : List ℕ) → IsOfQueue id ask →
    text_of_call ask (content.Refused why) given ≡ []
no_text id ask why given (inl is) = ap (λ (a : Ask). text_of_call a (content.Refused why) given) is
no_text id ask why given (inr is) = ap (λ (a : Ask). text_of_call a (content.Refused why) given) is.4

-- One more call, with what its line is: that of the result and the body which were read.
pub record Grown (saving : Saving) (ask : Ask) (answer : ReplyContent) (given : List ℕ)
    (left rest taken more : Option (List ℕ)) (before reported : List Refusal) (stage : Stage) (first : Call)
    (calls : List Call) : Type 0 where
  pub one : Call
  pub requests : Requests saving left rest taken more before reported (moved stage answer) first (calls ++ one ∷ [])
  pub same_text : saved_by one ≡ text_of_call ask answer given

-- One more request was done.
after_done : (saving : Saving) (ask : Ask) (answer : ReplyContent) (given text : List ℕ)
    (left mid rest taken more most : Option (List ℕ)) (before so reported : List Refusal) (stage : Stage)
    (first : Call) (calls : List Call)
    → Requests saving left mid taken more before so stage first calls → Some ask ≡ saving_ask saving stage
    → ExchangesIn Three (frame ask text) ask (Ok answer) mid rest more most given → reported ≡ so
    → Grown saving ask answer given left rest taken most before reported stage first calls
after_done saving ask answer given text left mid rest taken more most before so reported stage first calls so_far asked
    exchange same = record {
      one = call_of ask text answer given;
      requests = grows saving (call_of ask text answer given) left mid rest taken more most before so reported stage
          first calls so_far asked (inl exchange.1.1) exchange.0 exchange.1.0
          (same ∙ sym (append-nil so) ∙ ap (λ l. so ++ l) (sym (done ask answer exchange.1.1.done)));
      same_text = refl;
    }

-- A request of a queue was refused.
after_refused : (saving : Saving) (ask : Ask) (outcome : Result ReplyContent ClientFault) (answer : ReplyContent)
    (id : ℤ)
    (why : Errno) (given text : List ℕ) (left mid rest taken more most : Option (List ℕ))
    (before so reported : List Refusal) (stage : Stage) (first : Call) (calls : List Call)
    → Requests saving left mid taken more before so stage first calls → Some ask ≡ saving_ask saving stage
    → ExchangesIn Three (frame ask text) ask outcome mid rest more most given
    → IsOfQueue id ask → outcome ≡ Err (Refused why) → answer ≡ content.Refused why
    → reported ≡ so ++ refusal_of ask why
    → Grown saving ask answer given left rest taken most before reported stage first calls
after_refused saving ask outcome answer id why given text left mid rest taken more most before so reported stage first
    calls so_far asked exchange of refuses is_refused new =
    let read = subst (λ (o : Result ReplyContent ClientFault).
    ExchangesIn Three (frame ask text) ask o mid rest more most given) refuses exchange in record {
      one = call_of ask text answer [];
      requests = grows saving (call_of ask text answer []) left mid rest taken more most before so reported stage first
          calls so_far asked (inr (id, why, of, is_refused, refl)) read.0
          (subst (λ (a : ReplyContent). Consumes mid rest (reply_encoding (reply_in Three ask a) []))
          (sym is_refused) read.1)
          (new ∙ ap (λ l. so ++ l) (sym (ap (λ (a : ReplyContent). reported_by ask a) is_refused)));
      same_text = ap (λ (a : ReplyContent). text_of_call ask a []) is_refused ∙ no_text id ask why [] of
          ∙ sym (ap (λ (a : ReplyContent). text_of_call ask a given) is_refused ∙ no_text id ask why given of);
    }

-- One more request has an answer.
answers : (saving : Saving) (ask : Ask) (outcome : Result ReplyContent ClientFault) (answer : ReplyContent)
    (given text : List ℕ) (left mid rest taken more most : Option (List ℕ)) (before so reported : List Refusal)
    (stage : Stage) (first : Call) (calls : List Call)
    → Requests saving left mid taken more before so stage first calls → Some ask ≡ saving_ask saving stage
    → ExchangesIn Three (frame ask text) ask outcome mid rest more most given
    → Tries ask outcome (Ok answer) so reported
    → Grown saving ask answer given left rest taken most before reported stage first calls
answers saving ask outcome answer given text left mid rest taken more most before so reported stage first calls so_far
    asked exchange (inl tried) =
    after_done saving ask answer given text left mid rest taken more most before so reported stage first calls so_far
    asked (subst (λ (o : Result ReplyContent ClientFault).
    ExchangesIn Three (frame ask text) ask o mid rest more most given) tried.0 exchange) tried.1
answers saving ask outcome answer given text left mid rest taken more most before so reported stage first calls so_far
    asked exchange (inr t) =
    after_refused saving ask outcome answer t.0 t.1 given text left mid rest taken more most before so reported stage
    first calls so_far asked exchange t.2 t.3 t.4 t.5

-- One more request has an answer, and its line was written.
pub goes_on : (saving : Saving) (ask : Ask) (outcome : Result ReplyContent ClientFault) (answer : ReplyContent)
    (given text : List ℕ) (left mid rest taken more most shown had after : Option (List ℕ))
    (before so reported : List Refusal) (stage : Stage)
    → Saves saving left mid taken more shown had before so stage → Some ask ≡ saving_ask saving stage
    → ExchangesIn Three (frame ask text) ask outcome mid rest more most given
    → Tries ask outcome (Ok answer) so reported
    → Appends had after (text_of_call ask answer given)
    → Saves saving left rest taken most shown after before reported (moved stage answer)
goes_on saving ask outcome answer given text left mid rest taken more most shown had after before so reported stage
    so_far asked exchange tried show =
    let grown = answers saving ask outcome answer given text left mid rest taken more most before so reported stage
    so_far.first so_far.calls so_far.requests asked exchange tried in record {
      first = so_far.first;
      calls = so_far.calls ++ grown.one ∷ [];
      requests = grown.requests;
      shows = subst (Appends shown after) (sym (text_more (so_far.first ∷ so_far.calls) grown.one))
          (Appends-trans shown had after _ _ so_far.shows
          (subst (Appends had after) (sym grown.same_text) show));
    }

-- One more request has an answer, and the screen failed at its line.
pub fails_at : (saving : Saving) (ask : Ask) (outcome : Result ReplyContent ClientFault) (answer : ReplyContent)
    (unshown : Unshown) (given text : List ℕ) (left mid rest taken more most shown had after : Option (List ℕ))
    (before so reported : List Refusal) (stage : Stage)
    → Saves saving left mid taken more shown had before so stage → Some ask ≡ saving_ask saving stage
    → ExchangesIn Three (frame ask text) ask outcome mid rest more most given
    → Tries ask outcome (Ok answer) so reported
    → text_of_call ask answer given ≢ [] → AppendsPrefix had after (text_of_call ask answer given)
    → SavesAll saving (Err (Screen unshown)) left rest taken most shown after before reported
fails_at saving ask outcome answer unshown given text left mid rest taken more most shown had after before so reported
    stage so_far asked exchange tried some show =
    let grown = answers saving ask outcome answer given text left mid rest taken more most before so reported stage
    so_far.first so_far.calls so_far.requests asked exchange tried in record {
      calls = so_far.first ∷ (so_far.calls ++ grown.one ∷ []);
      unread = rest;
      written = most;
      made = grown.requests.made;
      ends = record {
        before = so_far.first ∷ so_far.calls;
        last = grown.one;
        split = refl;
        mid = had;
        shows = so_far.shows;
        line = subst (λ (l : List ℕ). l ≢ []) (sym grown.same_text) some;
        part = subst (AppendsPrefix had after) (sym grown.same_text) show;
        read = refl;
        wrote = refl;
      };
      reports = grown.requests.reports;
    }

-- The hello was done, and the screen failed at its line.
pub fails_first : (saving : Saving) (welcome : ReplyContent) (unshown : Unshown) (given text : List ℕ)
    (left rest taken more shown after : Option (List ℕ)) (before : List Refusal)
    → ExchangesIn Three (frame (Hello saving.cred) text) (Hello saving.cred) (Ok welcome) left rest taken more given
    → text_of_call (Hello saving.cred) welcome given ≢ []
    → AppendsPrefix shown after (text_of_call (Hello saving.cred) welcome given)
    → SavesAll saving (Err (Screen unshown)) left rest taken more shown after before before
fails_first saving welcome unshown given text left rest taken more shown after before exchange some show =
    let greeted = greets saving welcome given text left rest taken more before exchange in record {
      calls = call_of (Hello saving.cred) text welcome given ∷ [];
      unread = rest;
      written = more;
      made = greeted.made;
      ends = record {
        before = [];
        last = call_of (Hello saving.cred) text welcome given;
        split = refl;
        mid = shown;
        shows = Appends-nil shown;
        line = some;
        part = show;
        read = refl;
        wrote = refl;
      };
      reports = greeted.reports;
    }

-- All requests were made.
pub finishes : (saving : Saving) (finished : ⊤) (left rest taken more shown after : Option (List ℕ))
    (before reported : List Refusal) (stage : Stage)
    → Saves saving left rest taken more shown after before reported stage → None ≡ saving_ask saving stage
    → SavesAll saving (Ok finished) left rest taken more shown after before reported
finishes saving finished left rest taken more shown after before reported stage so_far asked = record {
  calls = so_far.first ∷ so_far.calls;
  unread = rest;
  written = more;
  made = so_far.requests.made;
  ends = (
    is_next saving left rest taken more before reported stage so_far.first so_far.calls None so_far.requests asked,
    refl,
    refl,
    so_far.shows,
  );
  reports = so_far.requests.reports;
}

-- What is reported before a fault.
reports_by : (why : ClientFault) (refusals before after : List Refusal) → after ≡ before ++ refusals →
    ReportsAll (Err (Fault why)) refusals before after
reports_by (Refused error) refusals before after is = is
reports_by NoReply refusals before after is = is
reports_by NoMemory refusals before after is = tt

-- A fault in what was read or written last.
ends_by : (saving : Saving) (calls : List Call) (why : ClientFault) (ask : Ask) (text given : List ℕ)
    (left rest taken more shown after : Option (List ℕ)) → saving_plan saving calls ≡ Some ask → text ≡ []
    → ExchangesIn Three (frame ask text) ask (Err why) left rest taken more given
    → Appends shown after (saved_text calls)
    → EndsSave saving (Err (Fault why)) calls left rest taken more shown after
ends_by saving calls (Refused error) ask text given left rest taken more shown after next is exchange show =
    ((ask, next, unanswered ask (Refused error) text given left rest taken more is exchange), show)
ends_by saving calls NoReply ask text given left rest taken more shown after next is exchange show =
    ((ask, next, unanswered ask NoReply text given left rest taken more is exchange), show)
ends_by saving calls NoMemory ask text given left rest taken more shown after next is exchange show = absurd exchange

-- A request has a fault, or memory is refused for its refusal.
breaks_with : (saving : Saving) (ask : Ask) (outcome : Result ReplyContent ClientFault) (why : ClientFault)
    (given text : List ℕ) (left mid rest taken more most shown after : Option (List ℕ))
    (before so reported : List Refusal) (stage : Stage)
    → Saves saving left mid taken more shown after before so stage → Some ask ≡ saving_ask saving stage → text ≡ []
    → ExchangesIn Three (frame ask text) ask outcome mid rest more most given
    → Tries ask outcome (Err (Fault why)) so reported
    → SavesAll saving (Err (Fault why)) left rest taken most shown after before reported
breaks_with saving ask outcome why given text left mid rest taken more most shown after before so reported stage so_far
    asked is exchange (inl tried) = record {
      calls = so_far.first ∷ so_far.calls;
      unread = mid;
      written = more;
      made = so_far.requests.made;
      ends = ends_by saving (so_far.first ∷ so_far.calls) why ask text given mid rest more most shown after
          (is_next saving left mid taken more before so stage so_far.first so_far.calls (Some ask) so_far.requests
          asked)
          is (subst (λ (o : Result ReplyContent ClientFault).
          ExchangesIn Three (frame ask text) ask o mid rest more most given) tried.0 exchange) so_far.shows;
      reports = reports_by why (reports_of (so_far.first ∷ so_far.calls)) before reported
          (tried.1 ∙ so_far.requests.reports);
    }
breaks_with saving ask outcome why given text left mid rest taken more most shown after before so reported stage so_far
    asked is exchange (inr t) =
    let grown = after_refused saving ask outcome (content.Refused t.1) t.0 t.1 given text left mid rest taken more most
    before so (so ++ refusal_of ask t.1) stage so_far.first so_far.calls so_far.requests asked exchange t.2 t.3 refl
    refl in
    subst (λ (w : ClientFault). SavesAll saving (Err (Fault w)) left rest taken most shown after before reported)
    (sym t.4)
    (record {
      calls = so_far.first ∷ (so_far.calls ++ grown.one ∷ []);
      unread = rest;
      written = most;
      made = grown.requests.made;
      ends = (
        refl,
        refl,
        subst (Appends shown after)
            (sym (text_more (so_far.first ∷ so_far.calls) grown.one
            ∙ ap (λ l. saved_text (so_far.first ∷ so_far.calls) ++ l)
            (grown.same_text ∙ no_text t.0 ask t.1 given t.2)
            ∙ append-nil (saved_text (so_far.first ∷ so_far.calls)))) so_far.shows,
      );
      reports = tt;
    })

-- A done has a fault.
undone : (saving : Saving) (ask : Ask) (outcome : Result ReplyContent ClientFault) (why : ClientFault)
    (given text : List ℕ) (left mid rest taken more most shown after : Option (List ℕ))
    (before so reported : List Refusal) (stage : Stage)
    → Saves saving left mid taken more shown after before so stage → Some ask ≡ saving_ask saving stage → text ≡ []
    → ExchangesIn Three (frame ask text) ask outcome mid rest more most given
    → Tries ask outcome (Err (Undone why)) so reported
    → SavesAll saving (Err (Undone why)) left rest taken most shown after before reported
undone saving ask outcome why given text left mid rest taken more most shown after before so reported stage so_far asked
    is exchange tried =
    let next = is_next saving left mid taken more before so stage so_far.first so_far.calls (Some ask) so_far.requests
    asked in record {
      calls = so_far.first ∷ so_far.calls;
      unread = mid;
      written = more;
      made = so_far.requests.made;
      ends = (
        next ∙ ap (λ (a : Ask). Some a) tried.0,
        (
          (
            ask,
            next,
            unanswered ask why text given mid rest more most is
                (subst (λ (o : Result ReplyContent ClientFault).
                ExchangesIn Three (frame ask text) ask o mid rest more most given) tried.1 exchange),
          ),
          so_far.shows,
        ),
      );
      reports = tried.2 ∙ so_far.requests.reports;
    }

-- A request ends the save.
pub breaks_off : (saving : Saving) (ask : Ask) (outcome : Result ReplyContent ClientFault) (why : Unheld)
    (given text : List ℕ) (left mid rest taken more most shown after : Option (List ℕ))
    (before so reported : List Refusal) (stage : Stage)
    → Saves saving left mid taken more shown after before so stage → Some ask ≡ saving_ask saving stage → text ≡ []
    → ExchangesIn Three (frame ask text) ask outcome mid rest more most given
    → Tries ask outcome (Err why) so reported
    → SavesAll saving (Err why) left rest taken most shown after before reported
breaks_off saving ask outcome (Fault why) given text left mid rest taken more most shown after before so reported stage
    so_far asked is exchange tried =
    breaks_with saving ask outcome why given text left mid rest taken more most shown after before so reported stage
    so_far asked is exchange tried
breaks_off saving ask outcome (Undone why) given text left mid rest taken more most shown after before so reported stage
    so_far asked is exchange tried =
    undone saving ask outcome why given text left mid rest taken more most shown after before so reported stage so_far
    asked is exchange tried
breaks_off saving ask outcome (Screen unshown) given text left mid rest taken more most shown after before so reported
    stage so_far asked is exchange tried = absurd tried

-- The hello has a fault.
pub no_hello : (saving : Saving) (why : ClientFault) (given text : List ℕ)
    (left rest taken more shown : Option (List ℕ)) (before : List Refusal) → text ≡ []
    → ExchangesIn Three (frame (Hello saving.cred) text) (Hello saving.cred) (Err why) left rest taken more given
    → SavesAll saving (Err (Fault why)) left rest taken more shown shown before before
no_hello saving why given text left rest taken more shown before is exchange = record {
  calls = [];
  unread = left;
  written = taken;
  made = none_made_in Three IsTried (saving_plan saving) left taken;
  ends = ends_by saving [] why (Hello saving.cred) text given left rest taken more shown shown refl is exchange
      (Appends-nil shown);
  reports = reports_by why [] before before (sym (append-nil before));
}

-- Memory is refused, and no request was made.
pub refused : (saving : Saving) (left taken shown : Option (List ℕ)) (before : List Refusal) →
    SavesAll saving (Err (Fault NoMemory)) left left taken taken shown shown before before
refused saving left taken shown before = record {
  calls = [];
  unread = left;
  written = taken;
  made = none_made_in Three IsTried (saving_plan saving) left taken;
  ends = (refl, refl, Appends-nil shown);
  reports = tt;
}

-- The body of a message that is held is short.
pub short : (ask : Ask) (outcome : Result ReplyContent ClientFault) (answer : ReplyContent) (given text : List ℕ)
    (left rest taken more : Option (List ℕ)) (so reported : List Refusal)
    → ExchangesIn Three (frame ask text) ask outcome left rest taken more given
    → Tries ask outcome (Ok answer) so reported → (mtype : ℤ) → answer ≡ content.Hold mtype
    → length given ≤ MESSAGE_BYTES
short ask outcome answer given text left rest taken more so reported exchange (inl tried) mtype is =
    (subst (λ (o : Result ReplyContent ClientFault).
    ExchangesIn Three (frame ask text) ask o left rest taken more given) tried.0 exchange).1.1.fits.2
short ask outcome answer given text left rest taken more so reported exchange (inr t) mtype is =
    absurd (no_refusal t.1 (ap error_number (sym t.4 ∙ is)))

-- What is left to do at a step of a slot.
abbrev pub weight : Step → ℕ
weight (step.Find key) = 2
weight step.Row = 0
weight (step.Stat id) = 1
weight (step.Hold id) = 0
weight (step.Done id) = 1

find_weight : (answer : ReplyContent) → weight (after_find answer) < 2
find_weight (content.Get id) = omega arith
find_weight answer = omega arith

row_weight : (found : Option ℤ) → weight (after_row found) < 2
row_weight (Some id) = omega arith
row_weight None = omega arith

stat_weight : (id : ℤ) (answer : ReplyContent) → weight (after_stat id answer) < 1
stat_weight id (content.Stat stat) = omega arith
stat_weight id answer = omega arith

hold_weight : (id : ℤ) (answer : ReplyContent) → weight (after_hold id answer) < 2
hold_weight id (content.Hold mtype) = omega arith
hold_weight id answer = omega arith

-- How much is left to do at a stage: a stat may follow a row, and a done a hold.
abbrev pub to_do : Stage → ℕ
to_do stage = 2 * (MAX_ROWS - stage.slot) + (2 * stage.owed + weight stage.step)

less_at : (saving : Saving) (slots slot owed : ℕ) (s : Step) (ask : Ask) (answer : ReplyContent)
    → Some ask ≡ ask_next saving slots slot owed s → (s ≡ step.Row → slot < MAX_ROWS)
    → to_do (move slots slot owed s answer)
    < to_do (record { slots = slots; slot = slot; step = s; owed = owed })
less_at saving slots slot owed (step.Find key) ask answer asked few = omega (arith, find_weight answer)
less_at saving slots slot owed step.Row ask answer asked few =
    omega (arith, few refl, row_weight (id_of_row answer))
less_at saving slots slot owed (step.Stat id) ask answer asked few = omega (arith, stat_weight id answer)
less_at saving slots slot zero (step.Hold id) ask answer asked few = absurd (cc asked)
less_at saving slots slot (suc owed) (step.Hold id) ask answer asked few = omega (arith, hold_weight id answer)
less_at saving slots slot owed (step.Done id) ask answer asked few = omega arith

-- After a reply there is less to do.
pub less_to_do : (saving : Saving) (stage after : Stage) (ask : Ask) (answer : ReplyContent)
    → Some ask ≡ saving_ask saving stage → (stage.step ≡ step.Row → stage.slot < MAX_ROWS)
    → after ≡ moved stage answer → to_do after < to_do stage
less_to_do saving stage after ask answer asked few is =
    subst (λ (s : Stage). to_do s < to_do stage) (sym is)
    (less_at saving stage.slots stage.slot stage.owed stage.step ask answer asked few)

-- ---- what is synced

off : {P : Type 0} → false ≡ true → P
off is = absurd (cc is)

-- The line of the format was written, and is synced.
pub first_synced : (saving : Saving) (welcome : ReplyContent) (given : List ℕ)
    (had synced shown after : Option (List ℕ)) → (syncs : Bool)
    → SyncsText syncs (text_of_call (Hello saving.cred) welcome given) had synced shown after → syncs ≡ true
    → synced ≡ after
unfolding format_line
first_synced saving welcome given had synced shown after true syncs on = syncs
first_synced saving welcome given had synced shown after false syncs on = off on

-- What was written is synced after one more text.
pub still_synced : (syncs : Bool) (text : List ℕ) (had synced shown after : Option (List ℕ))
    → SyncsText syncs text had synced shown after → (syncs ≡ true → had ≡ shown) → syncs ≡ true → synced ≡ after
still_synced true [] had synced shown after syncs was on = syncs (was refl)
still_synced true (byte ∷ more) had synced shown after syncs was on = syncs
still_synced false text had synced shown after syncs was on = off on

-- There is no text, and nothing was written.
pub quiet : (syncs : Bool) (text : List ℕ) (synced shown : Option (List ℕ)) → text ≡ []
    → SyncsText syncs text synced synced shown shown
quiet true [] synced shown is = λ was. was
quiet true (byte ∷ more) synced shown is = absurd (cc is)
quiet false text synced shown is = tt

text_synced : (syncs : Bool) (text : List ℕ) (had synced shown after : Option (List ℕ))
    → (syncs ≡ true → synced ≡ after) → SyncsText syncs text had synced shown after
text_synced true [] had synced shown after is = λ was. is refl
text_synced true (byte ∷ more) had synced shown after is = is refl
text_synced false text had synced shown after is = tt

-- A text was written and synced, unless the screen failed.
pub written_synced : (result : Result ⊤ Unshown) (syncs : Bool) (text : List ℕ)
    (had synced shown after : Option (List ℕ)) → OnOk result (syncs ≡ true → synced ≡ after)
    → OnOk result (SyncsText syncs text had synced shown after)
written_synced (Ok done) syncs text had synced shown after is = text_synced syncs text had synced shown after is
written_synced (Err unshown) syncs text had synced shown after is = tt

-- The screen failed only at a text.
pub failed_at_text : (result : Result ⊤ Unshown) (page text : List ℕ) → page ≡ text → 0 < length page
    → OnErr result (text ≢ [])
failed_at_text (Ok done) page text same some = tt
failed_at_text (Err unshown) [] text same some = absurd (omega (arith, some))
failed_at_text (Err unshown) (byte ∷ more) text same some = λ none. absurd (cc (same ∙ none))

-- The screen failed, and a save that ends by that says nothing of what is synced.
pub no_output : (saving : Saving) (unshown : Unshown) (shown after synced : Option (List ℕ))
    → SyncsAll saving (Err (Screen unshown)) shown after synced
no_output saving unshown shown after synced on fine = absurd (cc fine)
