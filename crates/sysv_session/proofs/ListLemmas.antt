-- One more call at the end.
use Rattle.std.proofs.Common.{◌≡◌, ℕ, ◌+◌, ◌-◌, ◌≤◌, List, [], ◌∷◌, ◌++◌, length, take, cond, refl, sym, ap, subst, ◌∙◌}
use Rattle.std.proofs.Common.{arith, append-nil, length-append}
use Rattle.std.proofs.lemmas.List.{map-append, take_at}
use Rattle.std.proofs.lemmas.List.Concat.{flat_map-append}
use Rattle.std.proofs.lemmas.List.Folds.{concat-append}
use Rattle.std.proofs.lemmas.List.Sums.{sum_by_push, count_by-le-length}
use Rattle.std.specs.List.{AllByRecursion, concat}
use Rattle.sysv_model.specs.declared.cred.Cred.{Cred}
use Rattle.sysv_session.specs.declared.handler.RequestOutcome.{RequestOutcome}
use Rattle.sysv_session.specs.declared.handler.RequestOutcome.TheVariants.{Left}
use Rattle.sysv_session.specs.Answers.{is_message, messages_in, outcome_encoding}
use Rattle.sysv_session.specs.Calls.{Call, Leads, Meaning, messages_of}
use Rattle.sysv_session.specs.Input.{asked_encoding}
use Rattle.sysv_session.specs.Output.{frames_of}
use Rattle.sysv_wire.specs.Requests.{request_encoding}

pub all_more : {A : Type 0} (P : A → Type 0) (xs : List A) (x : A) → AllByRecursion P xs → P x →
    AllByRecursion P (xs ++ x ∷ [])
all_more P [] x all one = (one, tt)
all_more P (y ∷ ys) x all one = (all.0, all_more P ys x all.1 one)

pub leads_more : {K : Type 0} (Means : Meaning K) (cred : Cred) (calls : List Call) (call : Call) (a b c : K)
    → Leads Means cred a calls b
    → Means b cred call.request call.text call.outcome call.given c → Leads Means cred a (calls ++ call ∷ []) c
leads_more {K} Means cred [] call a b c leads means =
    (c, subst (λ (k : K). Means k cred call.request call.text call.outcome call.given c) leads means, refl)
leads_more Means cred (first ∷ calls) call a b c leads means =
    (leads.0, leads.1, leads_more Means cred calls call leads.0 b c leads.2 means)

pub asked_more : (calls : List Call) (call : Call) →
    asked_encoding (calls ++ call ∷ []) ≡ asked_encoding calls ++ request_encoding call.request call.text
asked_more calls call =
    flat_map-append (λ (c : Call). request_encoding c.request c.text) calls (call ∷ [])
    ∙ ap (λ l. asked_encoding calls ++ l) (append-nil (request_encoding call.request call.text))

pub frames_more : (calls : List Call) (call : Call) →
    frames_of (calls ++ call ∷ [])
    ≡ frames_of calls ++ outcome_encoding call.request.version call.outcome call.given ∷ []
frames_more calls call =
    map-append (λ (c : Call). outcome_encoding c.request.version c.outcome c.given) calls (call ∷ [])

pub concat_more : (frames : List (List ℕ)) (frame : List ℕ) → concat (frames ++ frame ∷ []) ≡ concat frames ++ frame
concat_more frames frame = concat-append frames (frame ∷ []) ∙ ap (λ l. concat frames ++ l) (append-nil frame)

-- A last call that was left has no bytes.
pub left_frames : (calls : List Call) (call : Call) → call.outcome ≡ Left →
    concat (frames_of (calls ++ call ∷ [])) ≡ concat (frames_of calls)
left_frames calls call left =
    ap concat (frames_more calls call) ∙ concat_more (frames_of calls) _
    ∙ ap (λ (o : RequestOutcome). concat (frames_of calls) ++ outcome_encoding call.request.version o call.given) left
    ∙ append-nil (concat (frames_of calls))

pub messages_more : (calls : List Call) (call : Call) →
    messages_of (calls ++ call ∷ []) ≡ messages_of calls + messages_in call.outcome
messages_more calls call = sum_by_push (λ (c : Call). cond (is_message c.outcome) 1 0) calls call

pub few_messages : (calls : List Call) → messages_of calls ≤ length calls
few_messages calls = count_by-le-length (λ (c : Call). is_message c.outcome) calls

pub length_more : (calls : List Call) (call : Call) → length (calls ++ call ∷ []) ≡ length calls + 1
length_more calls call = length-append calls (call ∷ [])

pub all_but_last : (calls : List Call) (call : Call) →
    take (length (calls ++ call ∷ []) - 1) (calls ++ call ∷ []) ≡ calls
all_but_last calls call = take_at calls (call ∷ []) _
    (let e : length calls ≡ length calls + 1 - 1 = omega arith in e ∙ ap (λ n. n - 1) (sym (length_more calls call)))
