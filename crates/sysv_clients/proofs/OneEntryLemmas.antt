-- A line of a file states at most one thing.
use Rattle.std.proofs.Common.{◌≡◌, ◌∙◌, ◌⊎◌, ℕ, zero, suc, ℤ, pos, List, [], ◌∷◌, refl, sym, ap, subst, inl, inr, arith}
use Rattle.std.specs.Int.{w32, cast_signed}
use Rattle.std.specs.Str.Parse.{digits_value}
use Rattle.json.specs.Lex.{tokens}
use Rattle.json.specs.Token.{Token, key, number, string}
use Rattle.sysv_clients.specs.declared.saved.Entry.TheVariants.{Format, Queue, Message}
use Rattle.sysv_clients.specs.declared.saved.SavedQueue.{SavedQueue}
use Rattle.sysv_clients.specs.Restored.{StatesOneEntry}
use Rattle.sysv_clients.specs.Saved.{IsFormatLine, IsQueueIn, IsQueueLine, Values, queue_tokens}
use Rattle.sysv_clients.specs.Stated.{IsObjectOf, IsObjectWith, StatesBody, object_tokens, type_member}
use Rattle.sysv_clients.specs.Words.{IsHexKey, IsId, IsPerms}
use Rattle.sysv_clients.proofs.CopyLemmas.{states_one}
use Rattle.sysv_words.specs.Words.{IsNat32}

-- The first byte of an object's first name.
abbrev mark : List Token → ℕ
mark (first ∷ key (byte ∷ name) ∷ rest) = byte
mark rest = 0

format_mark : (line : List ℕ) → IsFormatLine line → mark (tokens line) ≡ 102
format_mark line is = ap mark is.object

queue_mark : (line : List ℕ) (queue : SavedQueue) → IsQueueLine line queue → mark (tokens line) ≡ 107
queue_mark line queue is = ap mark is.1.object

member_mark : (all member : List Token) (digits body : List ℕ) → StatesBody member body
    → all ≡ object_tokens member (type_member digits) → mark all ≡ 98
member_mark all member digits body (inl text) is =
    ap mark is ∙ ap (λ (m : List Token). mark (object_tokens m (type_member digits))) text
member_mark all member digits body (inr coded) is =
    ap mark is ∙ ap (λ (m : List Token). mark (object_tokens m (type_member digits))) coded.1

with_mark : (all member : List Token) (digits body : List ℕ) → StatesBody member body → IsObjectWith all digits member
    → (mark all ≡ 116) ⊎ (mark all ≡ 98)
with_mark all member digits body has (inl is) = inl (ap mark is)
with_mark all member digits body has (inr is) = inr (member_mark all member digits body has is)

object_mark : (line : List ℕ) (mtype : ℤ) (body : List ℕ) → IsObjectOf line mtype body
    → (mark (tokens line) ≡ 116) ⊎ (mark (tokens line) ≡ 98)
object_mark line mtype body is = with_mark (tokens line) is.member is.digits body is.has_body is.object

-- A mark is none of the others.
apart : (P : Type 0) (m : ℕ) → (m ≡ 102) ⊎ (m ≡ 107) → (m ≡ 116) ⊎ (m ≡ 98) → P
apart P m (inl one) (inl other) = absurd (omega (arith, one, other))
apart P m (inl one) (inr other) = absurd (omega (arith, one, other))
apart P m (inr one) (inl other) = absurd (omega (arith, one, other))
apart P m (inr one) (inr other) = absurd (omega (arith, one, other))

-- The values in the tokens of a queue.
record SameValues (v w : Values) : Type 0 where
  key : v.key ≡ w.key
  msqid : v.msqid ≡ w.msqid
  uid : v.uid ≡ w.uid
  gid : v.gid ≡ w.gid
  cuid : v.cuid ≡ w.cuid
  cgid : v.cgid ≡ w.cgid
  perms : v.perms ≡ w.perms
  qbytes : v.qbytes ≡ w.qbytes
  bytes : v.bytes ≡ w.bytes
  messages : v.messages ≡ w.messages

-- The value of the string or the number in this place.
abbrev value_at : ℕ → List Token → List ℕ
value_at n [] = []
value_at zero (string text ∷ rest) = text
value_at zero (number digits ∷ rest) = digits
value_at zero (other ∷ rest) = []
value_at (suc n) (token ∷ rest) = value_at n rest

same_values : (v w : Values) → queue_tokens v ≡ queue_tokens w → SameValues v w
same_values v w same = record {
  key = ap (value_at 2) same;
  msqid = ap (value_at 4) same;
  uid = ap (value_at 6) same;
  gid = ap (value_at 8) same;
  cuid = ap (value_at 10) same;
  cgid = ap (value_at 12) same;
  perms = ap (value_at 14) same;
  qbytes = ap (value_at 16) same;
  bytes = ap (value_at 18) same;
  messages = ap (value_at 20) same;
}

one_key : (word other : List ℕ) (a b : ℤ) → word ≡ other → IsHexKey word a → IsHexKey other b → a ≡ b
one_key word other a b same one two =
    let digits : one.0 ≡ two.0 = tail (sym one.1 ∙ same ∙ two.1) in
    one.4 ∙ ap (λ (d : List ℕ). cast_signed w32 (digits_value 16 d)) digits ∙ sym two.4
  where
    tail : {x y : List ℕ} → 48 ∷ 120 ∷ x ≡ 48 ∷ 120 ∷ y → x ≡ y
    tail {x} {y} same = cc same

one_id : (word other : List ℕ) (a b : ℤ) → word ≡ other → IsId word a → IsId other b → a ≡ b
one_id word other a b same one two = sym (subst (λ (w : List ℕ). IsId w a) same one).0.0.1 ∙ two.0.0.1

one_nat : (word other : List ℕ) (a b : ℕ) → word ≡ other → IsNat32 word a → IsNat32 other b → a ≡ b
one_nat word other a b same one two =
    let both : pos a ≡ pos b = sym (subst (λ (w : List ℕ). IsNat32 w a) same one).0.1 ∙ two.0.1 in cc both

one_mode : (word other : List ℕ) (a b : ℕ) → word ≡ other → IsPerms word a → IsPerms other b → a ≡ b
one_mode word other a b same one two = one.2 ∙ ap (digits_value 8) same ∙ sym two.2

-- The queue with these values.
abbrev made : (name id : ℤ) (uid gid cuid cgid mode qbytes cbytes qnum : ℕ) → SavedQueue
made name id uid gid cuid cgid mode qbytes cbytes qnum = record {
  key = name;
  id = id;
  uid = uid;
  gid = gid;
  cuid = cuid;
  cgid = cgid;
  mode = mode;
  qbytes = qbytes;
  cbytes = cbytes;
  qnum = qnum;
}

-- Queues with the same values are the same.
alike : (a b : SavedQueue) → a.key ≡ b.key → a.id ≡ b.id → a.uid ≡ b.uid → a.gid ≡ b.gid → a.cuid ≡ b.cuid
    → a.cgid ≡ b.cgid → a.mode ≡ b.mode → a.qbytes ≡ b.qbytes → a.cbytes ≡ b.cbytes → a.qnum ≡ b.qnum → a ≡ b
alike a b e0 e1 e2 e3 e4 e5 e6 e7 e8 e9 =
    ap (λ (x : ℤ). made x a.id a.uid a.gid a.cuid a.cgid a.mode a.qbytes a.cbytes a.qnum) e0
    ∙ ap (λ (x : ℤ). made b.key x a.uid a.gid a.cuid a.cgid a.mode a.qbytes a.cbytes a.qnum) e1
    ∙ ap (λ (x : ℕ). made b.key b.id x a.gid a.cuid a.cgid a.mode a.qbytes a.cbytes a.qnum) e2
    ∙ ap (λ (x : ℕ). made b.key b.id b.uid x a.cuid a.cgid a.mode a.qbytes a.cbytes a.qnum) e3
    ∙ ap (λ (x : ℕ). made b.key b.id b.uid b.gid x a.cgid a.mode a.qbytes a.cbytes a.qnum) e4
    ∙ ap (λ (x : ℕ). made b.key b.id b.uid b.gid b.cuid x a.mode a.qbytes a.cbytes a.qnum) e5
    ∙ ap (λ (x : ℕ). made b.key b.id b.uid b.gid b.cuid b.cgid x a.qbytes a.cbytes a.qnum) e6
    ∙ ap (λ (x : ℕ). made b.key b.id b.uid b.gid b.cuid b.cgid b.mode x a.cbytes a.qnum) e7
    ∙ ap (λ (x : ℕ). made b.key b.id b.uid b.gid b.cuid b.cgid b.mode b.qbytes x a.qnum) e8
    ∙ ap (λ (x : ℕ). made b.key b.id b.uid b.gid b.cuid b.cgid b.mode b.qbytes b.cbytes x) e9

one_queue : (all : List Token) (a b : SavedQueue) → IsQueueIn all a → IsQueueIn all b → a ≡ b
one_queue all a b one two =
    let v = one.values in
    let w = two.values in
    let same = same_values v w (sym one.object ∙ two.object) in
    let e0 : a.key ≡ b.key = one_key v.key w.key a.key b.key same.key one.has_key two.has_key in
    let e1 : a.id ≡ b.id = one_id v.msqid w.msqid a.id b.id same.msqid one.has_id two.has_id in
    let e2 : a.uid ≡ b.uid = one_nat v.uid w.uid a.uid b.uid same.uid one.has_uid two.has_uid in
    let e3 : a.gid ≡ b.gid = one_nat v.gid w.gid a.gid b.gid same.gid one.has_gid two.has_gid in
    let e4 : a.cuid ≡ b.cuid = one_nat v.cuid w.cuid a.cuid b.cuid same.cuid one.has_cuid two.has_cuid in
    let e5 : a.cgid ≡ b.cgid = one_nat v.cgid w.cgid a.cgid b.cgid same.cgid one.has_cgid two.has_cgid in
    let e6 : a.mode ≡ b.mode = one_mode v.perms w.perms a.mode b.mode same.perms one.has_mode two.has_mode in
    let e7 : a.qbytes ≡ b.qbytes =
    one_nat v.qbytes w.qbytes a.qbytes b.qbytes same.qbytes one.has_qbytes two.has_qbytes in
    let e8 : a.cbytes ≡ b.cbytes =
    one_nat v.bytes w.bytes a.cbytes b.cbytes same.bytes one.has_bytes two.has_bytes in
    let e9 : a.qnum ≡ b.qnum =
    one_nat v.messages w.messages a.qnum b.qnum same.messages one.has_messages two.has_messages in
    alike a b e0 e1 e2 e3 e4 e5 e6 e7 e8 e9

pub one_entry : (line : List ℕ) → StatesOneEntry line
one_entry line Format Format body text one two = (refl, tt)
one_entry line (Queue a) (Queue b) body text one two = (ap Queue (one_queue (tokens line) a b one.1 two.1), tt)
one_entry line (Message mtype) (Message other) body text one two =
    let same = states_one line mtype other body text one two in
    (ap Message same.0, same.1)
one_entry line Format (Queue queue) body text one two =
    absurd (omega (arith, format_mark line one, queue_mark line queue two))
one_entry line (Queue queue) Format body text one two =
    absurd (omega (arith, format_mark line two, queue_mark line queue one))
one_entry line Format (Message other) body text one two =
    apart _ (mark (tokens line)) (inl (format_mark line one)) (object_mark line other text two)
one_entry line (Message mtype) Format body text one two =
    apart _ (mark (tokens line)) (inl (format_mark line two)) (object_mark line mtype body one)
one_entry line (Queue queue) (Message other) body text one two =
    apart _ (mark (tokens line)) (inr (queue_mark line queue one)) (object_mark line other text two)
one_entry line (Message mtype) (Queue queue) body text one two =
    apart _ (mark (tokens line)) (inr (queue_mark line queue two)) (object_mark line mtype body one)
