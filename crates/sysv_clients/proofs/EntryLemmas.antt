-- What a line of a file of queues states.
use Rattle.std.proofs.Common.{◌≡◌, ◌∙◌, ℕ, ℤ, List, [], ◌∷◌, ◌++◌, Option, None, Some, Result, Ok, Err, codes, sym, ap}
use Rattle.std.proofs.Common.{arith, inl, inr, refl, subst}
use Rattle.std.specs.Prelude.{◌⊎◌, MatchOption}
use Rattle.base64.specs.Engines.{standard}
use Rattle.base64.specs.GeneralPurpose.{encode_of}
use Rattle.json.specs.Lex.{tokens}
use Rattle.json.specs.Token.{Token, begin_object, end_object, key}
use Rattle.sysv_clients.specs.declared.loading.Unfit.{Unfit}
use Rattle.sysv_clients.specs.declared.loading.Unfit.TheVariants as unfit
use Rattle.sysv_clients.specs.declared.loading.Unloaded.{Unloaded}
use Rattle.sysv_clients.specs.declared.loading.Unloaded.TheVariants.{Fault, Cut, Line, Many, Input}
use Rattle.sysv_clients.specs.declared.saved.Entry.{Entry}
use Rattle.sysv_clients.specs.declared.saved.Entry.TheVariants.{Format, Queue, Message}
use Rattle.sysv_clients.specs.declared.saved.SavedQueue.{SavedQueue}
use Rattle.sysv_clients.specs.Loaded.{Admits, IsNoEntry, IsNoFormat, IsNotAdmitted, ReadsEntry}
use Rattle.sysv_clients.specs.Saved.{IsFormatLine, IsQueueLine, StatesEntry, StatesNothing, format_tokens}
use Rattle.sysv_clients.specs.Saved.{number_member, string_member}
use Rattle.sysv_clients.specs.Stated.{IsObjectOf, coded_member, text_member, type_member}
use Rattle.sysv_clients.proofs.SavedLemmas.{name_of}

-- The first byte of the key that comes first, after the beginning of an object.
abbrev first_byte : List Token → ℕ
first_byte (key (first ∷ more) ∷ rest) = first
first_byte other = 0

within : (one two : List Token) → begin_object ∷ one ≡ begin_object ∷ two → one ≡ two
within one two same = cc

-- The line of a queue or of a message does not state the format.
other_first : (one two : List Token) (n m : ℕ) → first_byte one ≡ n → first_byte two ≡ m → (n ≡ m → ⊥)
    → begin_object ∷ one ≡ begin_object ∷ two → ⊥
other_first one two n m is other differ same =
    differ (sym is ∙ ap first_byte (within one two same) ∙ other)

queue_no_format : (line : List ℕ) (queue : SavedQueue) → IsQueueLine line queue → IsFormatLine line → ⊥
queue_no_format line queue is format =
    other_first (name_of is.1.values)
    (string_member (codes "format") (codes "sysvmsg-queues")
    ++ (number_member (codes "version") (codes "1") ++ end_object ∷ []))
    107 102 refl refl (λ same. omega (arith, same)) (sym is.1.object ∙ format.object)

object_no_format : (digits text : List ℕ) (member rest : List Token) (all : List Token)
    → (member ≡ text_member text) ⊎ (member ≡ coded_member text) → all ≡ begin_object ∷ (member ++ rest)
    → all ≡ format_tokens → ⊥
object_no_format digits text member rest all (inl is) object format =
    other_first (text_member text ++ rest)
    (string_member (codes "format") (codes "sysvmsg-queues")
    ++ (number_member (codes "version") (codes "1") ++ end_object ∷ []))
    98 102 refl refl (λ same. omega (arith, same))
    (ap (λ (m : List Token). begin_object ∷ (m ++ rest)) (sym is) ∙ sym object ∙ format)
object_no_format digits text member rest all (inr is) object format =
    other_first (coded_member text ++ rest)
    (string_member (codes "format") (codes "sysvmsg-queues")
    ++ (number_member (codes "version") (codes "1") ++ end_object ∷ []))
    98 102 refl refl (λ same. omega (arith, same))
    (ap (λ (m : List Token). begin_object ∷ (m ++ rest)) (sym is) ∙ sym object ∙ format)

message_no_format : (line : List ℕ) (mtype : ℤ) (body : List ℕ) → IsObjectOf line mtype body → IsFormatLine line → ⊥
message_no_format line mtype body is format =
    elim is.object [
      | inl first ↦ other_first (type_member is.digits ++ (is.member ++ end_object ∷ []))
          (string_member (codes "format") (codes "sysvmsg-queues")
          ++ (number_member (codes "version") (codes "1") ++ end_object ∷ []))
          116 102 refl refl (λ same. omega (arith, same)) (sym first ∙ format.object)
      | inr second ↦ elim is.has_body [
        | inl plain ↦ object_no_format is.digits body is.member (type_member is.digits ++ end_object ∷ [])
            (tokens line) (inl plain) second format.object
        | inr coded ↦ object_no_format is.digits (encode_of standard body) is.member
            (type_member is.digits ++ end_object ∷ []) (tokens line) (inr coded.1) second format.object
      ]
    ]

-- A line that states no message, no queue and no format states nothing.
pub nothing_else : (line : List ℕ) → ((mtype : ℤ) (body : List ℕ) → IsObjectOf line mtype body → ⊥)
    → ((queue : SavedQueue) → IsQueueLine line queue → ⊥) → (IsFormatLine line → ⊥)
    → (entry : Entry) (body : List ℕ) → StatesEntry line entry body → ⊥
nothing_else line message queue format Format body states = format states
nothing_else line message queue format (Queue own) body states = queue own states
nothing_else line message queue format (Message mtype) body states = message mtype body states

-- What a line states does not state the format.
no_format : (line body : List ℕ) (found : Option Entry)
    → MatchOption found (StatesNothing line) (λ entry. StatesEntry line entry body) → IsNoFormat found
    → IsFormatLine line → ⊥
no_format line body None states other format = states Format [] format
no_format line body (Some Format) states other format = absurd other
no_format line body (Some (Queue queue)) states other format = queue_no_format line queue states format
no_format line body (Some (Message mtype)) states other format = message_no_format line mtype body states format

-- What was read of a line.
pub admitted : (lines : ℕ) (found : Option Entry) (result : Result Entry Unloaded) (own line body : List ℕ) → own ≡ line
    → MatchOption found (StatesNothing own) (λ entry. StatesEntry own entry body) → Admits lines found result
    → ReadsEntry lines result line body
admitted lines found result own line body same states admits =
    here lines found result line body
    (subst (λ (l : List ℕ). MatchOption found (StatesNothing l) (λ entry. StatesEntry l entry body)) same states) admits
  where
    unread : (lines : ℕ) (found : Option Entry) (why : Unfit) (line body : List ℕ)
        → MatchOption found (StatesNothing line) (λ entry. StatesEntry line entry body)
        → IsNotAdmitted lines found why → IsNoEntry lines why line
    unread lines found unfit.Format line body states is = (is.0, λ format. no_format line body found states is.1 format)
    unread lines found unfit.Nothing line body states is = (
      is.0,
      subst (λ (f : Option Entry). MatchOption f (StatesNothing line) (λ entry. StatesEntry line entry body)) is.1
          states,
    )
    unread lines found unfit.Memory line body states is = absurd is
    unread lines found unfit.Long line body states is = absurd is
    unread lines found unfit.Private line body states is = absurd is
    unread lines found (unfit.Creator uid gid) line body states is = absurd is
    unread lines found unfit.NoQueue line body states is = absurd is

    here : (lines : ℕ) (found : Option Entry) (result : Result Entry Unloaded) (line body : List ℕ)
        → MatchOption found (StatesNothing line) (λ entry. StatesEntry line entry body) → Admits lines found result
        → ReadsEntry lines result line body
    here lines found (Ok entry) line body states admits = (
      subst (λ (f : Option Entry). MatchOption f (StatesNothing line) (λ e. StatesEntry line e body)) admits.0 states,
      admits.1,
    )
    here lines found (Err (Line before why)) line body states admits =
        (admits.0, unread lines found why line body states admits.1)
    here lines found (Err (Fault why)) line body states admits = absurd admits
    here lines found (Err (Cut cut)) line body states admits = absurd admits
    here lines found (Err Many) line body states admits = absurd admits
    here lines found (Err (Input why)) line body states admits = absurd admits
