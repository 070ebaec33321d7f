-- Calls of a plan, one more of them, and what ends a session.
use Rattle.std.proofs.Common.{◌≡◌, ℕ, ℤ, pos, ◌+◌, List, [], ◌∷◌, ◌++◌, length, Option, Some, Ok}
use Rattle.std.proofs.Common.{sym, ap, subst, ◌∙◌, append_assoc, append-nil, length-append}
use Rattle.std.proofs.lemmas.List.Concat.{flat_map-append}
use Rattle.std.proofs.lemmas.List.Sums.{fold-append}
use Rattle.std.specs.Io.KnownBytes.{Appends, Consumes}
use Rattle.std.proofs.KnownBytes.{Appends-nil, Appends-trans, Consumes-nil, Consumes-trans}
use Rattle.sysv_clients.specs.Asks.{request_in, request_of}
use Rattle.sysv_clients.specs.Calls.{Call, FollowsPlan, IsCallDone, IsCallDoneIn, Made, MadeIn, Plan, id_in}
use Rattle.sysv_clients.specs.Calls.{read_by, read_in, written_by, written_in}
use Rattle.sysv_clients.specs.Dialogue.{Exchanges, ExchangesIn, id_after, reply_in, reply_to}
use Rattle.sysv_wire.specs.declared.frame.Version.{Version}
use Rattle.sysv_wire.specs.declared.frame.Version.TheVariants.{Two}
use Rattle.sysv_wire.specs.declared.reply.ReplyContent.{ReplyContent}
use Rattle.sysv_wire.specs.declared.request.Ask.{Ask}
use Rattle.sysv_wire.specs.Replies.{reply_encoding}
use Rattle.sysv_wire.specs.Requests.{request_encoding}

-- A call that was done.
abbrev pub call_of : Ask → List ℕ → ReplyContent → List ℕ → Call
call_of ask text answer given = record { ask = ask; text = text; answer = answer; given = given }

pub none_made_in : (version : Version) (Passes : Call → Type 0) (plan : Plan) (left taken : Option (List ℕ)) →
    MadeIn version Passes plan [] left left taken taken
none_made_in version Passes plan left taken =
    record { follows = tt; reads = Consumes-nil left; writes = Appends-nil taken }

pub none_made : (Passes : Call → Type 0) (plan : Plan) (left taken : Option (List ℕ)) →
    Made Passes plan [] left left taken taken
none_made Passes plan left taken = none_made_in Two Passes plan left taken

pub read_more_in : (version : Version) (calls : List Call) (one : Call) →
    read_in version (calls ++ one ∷ [])
    ≡ read_in version calls ++ reply_encoding (reply_in version one.ask one.answer) one.given
read_more_in version calls one =
    flat_map-append (λ (e : Call). reply_encoding (reply_in version e.ask e.answer) e.given) calls (one ∷ [])
    ∙ ap (λ l. read_in version calls ++ l) (append-nil (reply_encoding (reply_in version one.ask one.answer) one.given))

pub read_more : (calls : List Call) (one : Call) →
    read_by (calls ++ one ∷ []) ≡ read_by calls ++ reply_encoding (reply_to one.ask one.answer) one.given
read_more calls one = read_more_in Two calls one

pub written_more_in : (version : Version) (calls : List Call) (one : Call) →
    written_in version (calls ++ one ∷ [])
    ≡ written_in version calls ++ request_encoding (request_in version one.ask) one.text
written_more_in version calls one =
    flat_map-append (λ (e : Call). request_encoding (request_in version e.ask) e.text) calls (one ∷ [])
    ∙ ap (λ l. written_in version calls ++ l) (append-nil (request_encoding (request_in version one.ask) one.text))

pub written_more : (calls : List Call) (one : Call) →
    written_by (calls ++ one ∷ []) ≡ written_by calls ++ request_encoding (request_of one.ask) one.text
written_more calls one = written_more_in Two calls one

pub id_more : (calls : List Call) (one : Call) → id_in (calls ++ one ∷ []) ≡ id_after (id_in calls) one.answer
id_more calls one = fold-append (λ (found : ℤ) (e : Call). id_after found e.answer) (pos 0) calls (one ∷ [])

pub length_more : (calls : List Call) (one : Call) → length (calls ++ one ∷ []) ≡ length calls + 1
length_more calls one = length-append calls (one ∷ [])

-- One more call at the end.
follows_more : (Passes : Call → Type 0) (plan : Plan) (before calls : List Call) (one : Call)
    → FollowsPlan Passes plan before calls → plan (before ++ calls) ≡ Some one.ask
    → Passes one → FollowsPlan Passes plan before (calls ++ one ∷ [])
follows_more Passes plan before [] one follows next passes =
    (ap plan (sym (append-nil before)) ∙ next, passes, tt)
follows_more Passes plan before (first ∷ others) one follows next passes = (
  follows.0,
  follows.1,
  follows_more Passes plan (before ++ first ∷ []) others one follows.2
      (ap plan (append_assoc before (first ∷ []) others) ∙ next) passes,
)

-- One more call, whose request was written and whose reply was read.
pub one_more_in : (version : Version) (Passes : Call → Type 0) (plan : Plan) (calls : List Call) (one : Call)
    (left mid rest taken more most : Option (List ℕ))
    → MadeIn version Passes plan calls left mid taken more → plan calls ≡ Some one.ask → Passes one
    → Appends more most (request_encoding (request_in version one.ask) one.text)
    → Consumes mid rest (reply_encoding (reply_in version one.ask one.answer) one.given)
    → MadeIn version Passes plan (calls ++ one ∷ []) left rest taken most
one_more_in version Passes plan calls one left mid rest taken more most made next passes written read = record {
  follows = follows_more Passes plan [] calls one made.follows next passes;
  reads = subst (Consumes left rest) (sym (read_more_in version calls one))
      (Consumes-trans left mid rest _ _ made.reads read);
  writes = subst (Appends taken most) (sym (written_more_in version calls one))
      (Appends-trans taken more most _ _ made.writes written);
}

pub one_more : (Passes : Call → Type 0) (plan : Plan) (calls : List Call) (one : Call)
    (left mid rest taken more most : Option (List ℕ))
    → Made Passes plan calls left mid taken more → plan calls ≡ Some one.ask → Passes one
    → Appends more most (request_encoding (request_of one.ask) one.text)
    → Consumes mid rest (reply_encoding (reply_to one.ask one.answer) one.given)
    → Made Passes plan (calls ++ one ∷ []) left rest taken most
one_more Passes plan calls one left mid rest taken more most made next passes written read =
    one_more_in Two Passes plan calls one left mid rest taken more most made next passes written read

-- One more call, which was done.
pub done_more_in : (version : Version) (plan : Plan) (calls : List Call) (ask : Ask) (text : List ℕ)
    (answer : ReplyContent) (given : List ℕ) (left mid rest taken more most : Option (List ℕ))
    → MadeIn version (IsCallDoneIn version) plan calls left mid taken more → plan calls ≡ Some ask
    → ExchangesIn version (request_encoding (request_in version ask) text) ask (Ok answer) mid rest more most given
    → MadeIn version (IsCallDoneIn version) plan (calls ++ call_of ask text answer given ∷ []) left rest taken most
done_more_in version plan calls ask text answer given left mid rest taken more most made next exchange =
    one_more_in version (IsCallDoneIn version) plan calls (call_of ask text answer given) left mid rest taken more most
    made next exchange.1.1 exchange.0 exchange.1.0

pub done_more : (plan : Plan) (calls : List Call) (ask : Ask) (text : List ℕ) (answer : ReplyContent) (given : List ℕ)
    (left mid rest taken more most : Option (List ℕ))
    → Made IsCallDone plan calls left mid taken more → plan calls ≡ Some ask
    → Exchanges (request_encoding (request_of ask) text) ask (Ok answer) mid rest more most given
    → Made IsCallDone plan (calls ++ call_of ask text answer given ∷ []) left rest taken most
done_more plan calls ask text answer given left mid rest taken more most made next exchange =
    done_more_in Two plan calls ask text answer given left mid rest taken more most made next exchange
