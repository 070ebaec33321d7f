-- Requests that break off, and whole requests.
use Rattle.std.proofs.Common.{◌≡◌, ℕ, ◌+◌, ◌-◌, ◌≤◌, List, [], ◌∷◌, ◌++◌, length, get_or, Option, Some, Ok, refl, sym}
use Rattle.std.proofs.Common.{ap, subst, ◌∙◌, append_assoc, append-nil, cond, true, false, MatchBool, arith}
use Rattle.std.proofs.Common.{length-append, inr}
use Rattle.std.specs.Io.KnownBytes.{Consumes}
use Rattle.std.proofs.KnownBytes.{Consumes-trans}
use Rattle.sysv_wire.specs.declared.fault.Fault.{Fault}
use Rattle.sysv_wire.specs.declared.fault.Fault.TheVariants.{Truncated, TooLong, BadOp, BadField, Read}
use Rattle.sysv_wire.specs.declared.frame.Op.{Op}
use Rattle.sysv_wire.specs.declared.frame.TheConstants.{MAX_REQUEST}
use Rattle.sysv_wire.specs.declared.frame.Version.{Version}
use Rattle.sysv_wire.specs.Faults.{Faults, Breaks, IsShorter, RequestFault}
use Rattle.sysv_wire.specs.Frames.{HasOp, Knows, op_number, version_number, frame}
use Rattle.sysv_wire.specs.Numbers.{u32_bytes, i32_bytes, i64_bytes}
use Rattle.sysv_wire.specs.Reading.{ReadsRequest}
use Rattle.sysv_wire.specs.Requests.{FitsAsk, IsRequestLength, fields_len, ask_fields, ask_text, has_text, op_of}
use Rattle.sysv_wire.specs.Requests.{request_encoding}
use Rattle.sysv_wire.specs.declared.request.Ask.{Ask}
use Rattle.sysv_wire.specs.declared.request.Ask.TheVariants.{Hello, Get, Snd, Rcv, Stat, Set, Rm, Row, Hold, Done, Back}
use Rattle.sysv_wire.proofs.StreamLemmas.{Faults-after}

-- A part of the rest that is too short is a rest that is too short.
breaks_later : (n m : ℕ) (done : List ℕ) (fault : Fault) → length done + n ≤ m → (taken : List ℕ) →
    Breaks (IsShorter n) fault taken → Breaks (IsShorter m) fault (done ++ taken)
breaks_later n m done Truncated fits taken why = omega (arith, length-append done taken)
breaks_later n m done Read fits taken why = tt
breaks_later n m done TooLong fits taken why = absurd why
breaks_later n m done BadOp fits taken why = absurd why
breaks_later n m done BadField fits taken why = absurd why

pub broken_later : (n m : ℕ) (done : List ℕ) (fault : Fault) (a b c : Option (List ℕ)) → length done + n ≤ m →
    Consumes a b done → Faults (Breaks (IsShorter n)) fault b c → Faults (Breaks (IsShorter m)) fault a c
broken_later n m done fault a b c fits first second =
    Faults-after (Breaks (IsShorter n)) (Breaks (IsShorter m)) fault a b c done first second
    (breaks_later n m done fault fits)

breaks_request : (newest : Version) (n : ℕ) (version : Version) (op : Op) (fault : Fault) → n ≤ MAX_REQUEST
    → IsRequestLength op n → Knows newest version op → (taken : List ℕ) → Breaks (IsShorter (n - 2)) fault taken
    → RequestFault newest fault (u32_bytes n ++ (version_number version ∷ op_number op ∷ taken))
breaks_request newest n version op Truncated most wanted known taken why =
    inr (n, version, op, taken, most, wanted, omega arith, refl, known)
breaks_request newest n version op Read most wanted known taken why = tt
breaks_request newest n version op TooLong most wanted known taken why = absurd why
breaks_request newest n version op BadOp most wanted known taken why = absurd why
breaks_request newest n version op BadField most wanted known taken why = absurd why

-- A head of two bytes, and the bytes after it.
head_then : (n : ℕ) (version : Version) (op : Op) (byte number : ℕ) (head taken : List ℕ) → head ≡ byte ∷ number ∷ []
    → version_number version ≡ byte → op_number op ≡ number
    → (u32_bytes n ++ head) ++ taken ≡ u32_bytes n ++ (version_number version ∷ op_number op ∷ taken)
head_then n version op byte number head taken h v o =
    append_assoc (u32_bytes n) head taken
    ∙ ap (λ l. u32_bytes n ++ (l ++ taken))
    (h ∙ ap (λ x. x ∷ number ∷ []) (sym v) ∙ ap (λ x. version_number version ∷ x ∷ []) (sym o))

pub request_broken : (newest : Version) (n : ℕ) (version : Version) (op : Op) (byte number : ℕ) (head : List ℕ)
    (fault : Fault)
    (a b c : Option (List ℕ)) → head ≡ byte ∷ number ∷ [] → version_number version ≡ byte → op_number op ≡ number
    → n ≤ MAX_REQUEST → IsRequestLength op n → Knows newest version op → Consumes a b (u32_bytes n ++ head)
    → Faults (Breaks (IsShorter (n - 2))) fault b c → Faults (RequestFault newest) fault a c
request_broken newest n version op byte number head fault a b c h v o most wanted known first second =
    Faults-after (Breaks (IsShorter (n - 2))) (RequestFault newest) fault a b c (u32_bytes n ++ head) first second
    (λ taken why.
    subst (RequestFault newest fault) (sym (head_then n version op byte number head taken h v o))
    (breaks_request newest n version op fault most wanted known taken why))

pub frame_whole : (n : ℕ) (content : List ℕ) → n ≡ length content → u32_bytes n ++ content ≡ frame content
unfolding frame
frame_whole n content e = ap (λ m. u32_bytes m ++ content) e

pub request_whole : (n : ℕ) (version : Version) (op : Op) (byte number : ℕ) (head rest : List ℕ)
    (a b c : Option (List ℕ)) → head ≡ byte ∷ number ∷ [] → version_number version ≡ byte → op_number op ≡ number
    → n ≡ 2 + length rest → Consumes a b (u32_bytes n ++ head) → Consumes b c rest
    → Consumes a c (frame (version_number version ∷ op_number op ∷ rest))
request_whole n version op byte number head rest a b c h v o len first second =
    subst (Consumes a c)
    (head_then n version op byte number head rest h v o
    ∙ frame_whole n (version_number version ∷ op_number op ∷ rest) (omega arith))
    (Consumes-trans a b c (u32_bytes n ++ head) rest first second)

-- A list of length two is its two bytes.
pub pair_is : (head : List ℕ) → length head ≡ 2 → head ≡ get_or head 0 0 ∷ get_or head 1 0 ∷ []
pair_is [] e = absurd (omega (arith, e))
pair_is (a ∷ []) e = absurd (omega (arith, e))
pair_is (a ∷ b ∷ []) e = refl
pair_is (a ∷ b ∷ d ∷ rest) e = absurd (omega (arith, e))

-- The head of a frame and its fields, and then its body.
pub encoded_head : (version number : ℕ) (fields text : List ℕ) →
    (u32_bytes (2 + length fields + length text) ++ (version ∷ number ∷ fields)) ++ text
    ≡ frame (version ∷ number ∷ (fields ++ text))
encoded_head version number fields text =
    append_assoc (u32_bytes (2 + length fields + length text)) (version ∷ number ∷ fields) text
    ∙ frame_whole (2 + length fields + length text) (version ∷ number ∷ (fields ++ text))
    (omega (arith, length-append fields text))

pub length-ask_fields : (a : Ask) → length (ask_fields a) ≡ fields_len (op_of a)
unfolding ask_fields u32_bytes i32_bytes i64_bytes
length-ask_fields (Hello c) = refl
length-ask_fields (Get key f) = refl
length-ask_fields (Snd id mtype f) = refl
length-ask_fields (Rcv id size mtype f) = refl
length-ask_fields (Stat id) = refl
length-ask_fields (Set id t) = refl
length-ask_fields (Rm id) = refl
length-ask_fields (Row slot) = refl
length-ask_fields (Hold id size mtype f x) = refl
length-ask_fields Done = refl
length-ask_fields Back = refl

-- The body in a request fits in a `Body`.
text_short : (a : Ask) (text : List ℕ) (n : ℕ) → text ≡ ask_text (op_of a) text →
    n ≡ 2 + length (ask_fields a ++ ask_text (op_of a) text) → n ≤ 8274 → length text ≤ 8256
text_short (Snd i t f) text n empty len most =
    omega (arith, len, most, length-append (ask_fields (Snd i t f)) text, length-ask_fields (Snd i t f))
text_short (Hello c) text n empty len most = let none = ap length empty in omega (arith, none)
text_short (Get k f) text n empty len most = let none = ap length empty in omega (arith, none)
text_short (Rcv i s t f) text n empty len most = let none = ap length empty in omega (arith, none)
text_short (Stat i) text n empty len most = let none = ap length empty in omega (arith, none)
text_short (Set i t) text n empty len most = let none = ap length empty in omega (arith, none)
text_short (Rm i) text n empty len most = let none = ap length empty in omega (arith, none)
text_short (Row i) text n empty len most = let none = ap length empty in omega (arith, none)
text_short (Hold i s t f x) text n empty len most = let none = ap length empty in omega (arith, none)
text_short Done text n empty len most = let none = ap length empty in omega (arith, none)
text_short Back text n empty len most = let none = ap length empty in omega (arith, none)

pub request_read : (newest : Version) (ask : Ask) (n : ℕ) (version : Version) (op : Op) (byte number : ℕ)
    (head text : List ℕ)
    (a b c : Option (List ℕ)) → head ≡ byte ∷ number ∷ [] → version_number version ≡ byte → op_number op ≡ number
    → n ≤ 8274 → Knows newest version op → FitsAsk ask → n ≡ 2 + length (ask_fields ask ++ ask_text op text)
    → op_of ask ≡ op
    → text ≡ ask_text op text → Consumes a b (u32_bytes n ++ head) → Consumes b c (ask_fields ask ++ ask_text op text)
    → ReadsRequest newest a c (Ok (Some record { version = version; ask = ask })) text
request_read newest ask n version op byte number head text a b c h v o most known fits len same empty first second = (
  subst (λ x. Consumes a c (frame (version_number version ∷ op_number x ∷ (ask_fields ask ++ ask_text x text))))
      (sym same)
      (request_whole n version op byte number head (ask_fields ask ++ ask_text op text) a b c h v o len first second),
  (
    fits,
    text_short ask text n (subst (λ x. text ≡ ask_text x text) (sym same) empty)
        (subst (λ x. n ≡ 2 + length (ask_fields ask ++ ask_text x text)) (sym same) len) most,
    subst (HasOp version) (sym same) known.1,
  ),
  subst (λ x. text ≡ ask_text x text) (sym same) empty,
  known.0,
)

-- The head and the body of a request are its encoding.
pub request_is : (version : Version) (ask : Ask) (op : Op) (fields text head : List ℕ) → op ≡ op_of ask
    → fields ≡ ask_fields ask
    → head
    ≡ u32_bytes (2 + length fields + length (ask_text op text)) ++ (version_number version ∷ op_number op ∷ fields)
    → head ++ ask_text op text ≡ request_encoding record { version = version; ask = ask } text
request_is version ask op fields text head o f h =
    ap (λ l. l ++ ask_text op text) h ∙ encoded_head (version_number version) (op_number op) fields (ask_text op text)
    ∙ ap (λ l. frame (version_number version ∷ op_number op ∷ (l ++ ask_text op text))) f
    ∙ ap (λ x. frame (version_number version ∷ op_number x ∷ (ask_fields ask ++ ask_text x text))) o

-- The same for an operation with a body, and for one without.
pub request_with_text : (version : Version) (ask : Ask) (op : Op) (fields text head bytes : List ℕ) (size : ℕ)
    → op ≡ op_of ask → fields ≡ ask_fields ask → has_text op ≡ true
    → bytes ≡ head → size ≡ length text
    → head ≡ u32_bytes (2 + length fields + size) ++ (version_number version ∷ op_number op ∷ fields)
    → bytes ++ text ≡ request_encoding record { version = version; ask = ask } text
request_with_text version ask op fields text head bytes size o f has b s h =
    let kept : ask_text op text ≡ text = ap (λ x. cond x text []) has in
    let all : head
    ≡ u32_bytes (2 + length fields + length (ask_text op text)) ++ (version_number version ∷ op_number op ∷ fields) =
    rw kept (rw (← s) h) in
    ap (λ l. l ++ text) b ∙ ap (λ l. head ++ l) (sym kept) ∙ request_is version ask op fields text head o f all

pub request_without_text : (version : Version) (ask : Ask) (op : Op) (fields text head bytes : List ℕ) → op ≡ op_of ask
    → fields ≡ ask_fields ask → has_text op ≡ false
    → bytes ≡ head → head ≡ u32_bytes (2 + length fields + 0) ++ (version_number version ∷ op_number op ∷ fields)
    → bytes ≡ request_encoding record { version = version; ask = ask } text
request_without_text version ask op fields text head bytes o f has b h =
    let none : ask_text op text ≡ [] = ap (λ x. cond x text []) has in
    let all : head
    ≡ u32_bytes (2 + length fields + length (ask_text op text)) ++ (version_number version ∷ op_number op ∷ fields) =
    rw none h in
    b ∙ sym (append-nil head) ∙ ap (λ l. head ++ l) (sym none) ∙ request_is version ask op fields text head o f all

-- A request with a body is at least as long as its head and its fields.
pub text_length : (op : Op) (n : ℕ) → has_text op ≡ true → IsRequestLength op n → 2 + fields_len op ≤ n
text_length op n has wanted = subst (λ b. MatchBool b (2 + fields_len op ≤ n) (n ≡ 2 + fields_len op)) has wanted
