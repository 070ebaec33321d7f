-- The line of a queue in a file is read back.
use Rattle.std.proofs.Common.{◌≡◌, ◌≢◌, ◌<◌, ◌≤◌, ◌+◌, ◌*◌, ◌/◌, ◌%◌, ◌∙◌, ◌&&◌, not, ltb, ℕ, zero, suc, ℤ, pos, negsuc}
use Rattle.std.proofs.Common.{Bool, true, false, List, [], ◌∷◌, ◌++◌, length, slice_index, get_or, Option, Some, refl}
use Rattle.std.proofs.Common.{sym, ap, ap₂, subst, arith, append_assoc, length-append, codes, decimal, ◌^◌, ◌==◌, ◌≤ℤ◌}
use Rattle.std.proofs.Common.{flat_map, inl, inr}
use Rattle.std.proofs.lemmas.Bool.{and_from, and_parts, cases_eq, le-ltb, lt-ltb, ltb-false, ltb-true, ne_eqb, not-true}
use Rattle.std.proofs.lemmas.Bool.{eqb-true}
use Rattle.std.proofs.lemmas.Fmt.{decimal_by_steps, decimal_digit, decimal_is_IsNumeral, first_decimal}
use Rattle.std.proofs.lemmas.Fmt.{length-decimal-le}
use Rattle.std.proofs.lemmas.List.Elements.{All-cons, All-nil}
use Rattle.std.proofs.lemmas.Int.{ints, to_z-of_z}
use Rattle.std.proofs.lemmas.Nat.{be_bytes_4}
use Rattle.std.specs.Char.{digit_value}
use Rattle.std.specs.Fmt.{signed_decimal}
use Rattle.std.specs.Int.{w32, cast_signed, cast_unsigned, to_be_bytes}
use Rattle.std.specs.Int.RustNames.{FitsSigned}
use Rattle.std.specs.Str.Parse.{AllDigits, digits_value, digits_value_after}
use Rattle.json.specs.Lex.{Lexeme, between, colon, comma, fresh, in_string, lex, punctuate, string_token, token, tokens}
use Rattle.json.specs.Print.{IsNumber}
use Rattle.json.specs.Text.{content, plain}
use Rattle.json.specs.Token.{begin_object, end_object, key, number, string}
use Rattle.json.specs.Word.{ends_word}
use Rattle.json.proofs.Printed.Decimals.{IsNumber-signed_decimal}
use Rattle.json.proofs.Printed.Numbers.{lex-number}
use Rattle.json.proofs.Printed.Utf8.{IsUtf8-are_ascii, are_ascii}
use Rattle.sysv_clients.specs.Lines.{HasNoEnd}
use Rattle.sysv_clients.specs.Restored.{IsQueueReadBack, IsServed}
use Rattle.sysv_clients.specs.Saved.{Values, number_text, queue_text, queue_tokens, saved_counts, saved_perm}
use Rattle.sysv_clients.specs.Table.{glyph, hex_byte, key_text, mode_text}
use Rattle.sysv_clients.specs.Words.{IsHexKey, IsId, IsPerms}
use Rattle.sysv_clients.proofs.JsonLemmas.{are_plain, content-json, is_plain, lex-json, plain_text}
use Rattle.sysv_model.specs.declared.attributes.Stat.{Stat as Attributes}
use Rattle.sysv_words.specs.Words.{IsNat32, IsNumeralOf}

-- ---- the tokens of a line

-- A member whose value is a number, and what follows it.
number_read : (before name digits rest : List ℕ) (more : List Lexeme)
    → ((r : List ℕ) → lex between (before ++ r) ≡ comma ∷ token (string name) ∷ colon ∷ lex between r)
    → IsNumber digits → ends_word rest ≡ true → lex between rest ≡ more
    → lex between (before ++ (digits ++ rest)) ≡ comma ∷ token (string name) ∷ colon ∷ token (number digits) ∷ more
number_read before name digits rest more opens is_number ended later =
    opens (digits ++ rest)
    ∙ ap (λ (l : List Lexeme). comma ∷ token (string name) ∷ colon ∷ l)
    (lex-number digits rest is_number ended ∙ ap (λ (l : List Lexeme). token (number digits) ∷ l) later)

-- A string, and what follows it.
text_read : (text rest : List ℕ) (more : List Lexeme) → are_plain text ≡ true → lex between rest ≡ more
    → token (string_token (content plain (text ++ 34 ∷ rest))) ∷ lex in_string (text ++ 34 ∷ rest)
    ≡ token (string text) ∷ more
text_read text rest more own later =
    let same = plain_text text own in
    let read : content plain (text ++ 34 ∷ rest) ≡ Some text =
    ap (λ (l : List ℕ). content plain (l ++ 34 ∷ rest)) (sym same) ∙ content-json text rest in
    let lexed : lex in_string (text ++ 34 ∷ rest) ≡ lex between rest =
    ap (λ (l : List ℕ). lex in_string (l ++ 34 ∷ rest)) (sym same) ∙ lex-json text rest in
    ap₂ (λ (o : Option (List ℕ)) (l : List Lexeme). token (string_token o) ∷ l) read (lexed ∙ later)

opens_key : (r : List ℕ) → lex between (codes "{\"key\":\"" ++ r)
    ≡ token begin_object ∷ token (string (codes "key")) ∷ colon ∷ token (string_token (content plain r))
    ∷ lex in_string r
unfolding lex content
opens_key r = refl

opens_msqid : (r : List ℕ) → lex between (codes ",\"msqid\":" ++ r)
    ≡ comma ∷ token (string (codes "msqid")) ∷ colon ∷ lex between r
unfolding lex content
opens_msqid r = refl

opens_uid : (r : List ℕ) → lex between (codes ",\"uid\":" ++ r)
    ≡ comma ∷ token (string (codes "uid")) ∷ colon ∷ lex between r
unfolding lex content
opens_uid r = refl

opens_gid : (r : List ℕ) → lex between (codes ",\"gid\":" ++ r)
    ≡ comma ∷ token (string (codes "gid")) ∷ colon ∷ lex between r
unfolding lex content
opens_gid r = refl

opens_cuid : (r : List ℕ) → lex between (codes ",\"cuid\":" ++ r)
    ≡ comma ∷ token (string (codes "cuid")) ∷ colon ∷ lex between r
unfolding lex content
opens_cuid r = refl

opens_cgid : (r : List ℕ) → lex between (codes ",\"cgid\":" ++ r)
    ≡ comma ∷ token (string (codes "cgid")) ∷ colon ∷ lex between r
unfolding lex content
opens_cgid r = refl

opens_perms : (r : List ℕ) → lex between (codes ",\"perms\":\"" ++ r)
    ≡ comma ∷ token (string (codes "perms")) ∷ colon ∷ token (string_token (content plain r)) ∷ lex in_string r
unfolding lex content
opens_perms r = refl

opens_qbytes : (r : List ℕ) → lex between (codes ",\"qbytes\":" ++ r)
    ≡ comma ∷ token (string (codes "qbytes")) ∷ colon ∷ lex between r
unfolding lex content
opens_qbytes r = refl

opens_bytes : (r : List ℕ) → lex between (codes ",\"bytes\":" ++ r)
    ≡ comma ∷ token (string (codes "bytes")) ∷ colon ∷ lex between r
unfolding lex content
opens_bytes r = refl

opens_messages : (r : List ℕ) → lex between (codes ",\"messages\":" ++ r)
    ≡ comma ∷ token (string (codes "messages")) ∷ colon ∷ lex between r
unfolding lex content
opens_messages r = refl

closes : lex between (125 ∷ []) ≡ token end_object ∷ []
unfolding lex
closes = refl

-- The line with these values, from each part on.
abbrev counts_text : Values → List ℕ
counts_text v =
    codes ",\"qbytes\":" ++ (v.qbytes ++ (codes ",\"bytes\":" ++ (v.bytes ++ (codes ",\"messages\":" ++ (v.messages
    ++ 125 ∷ [])))))

abbrev owner_text : Values → List ℕ
owner_text v =
    codes ",\"uid\":" ++ (v.uid ++ (codes ",\"gid\":" ++ (v.gid ++ (codes ",\"cuid\":" ++ (v.cuid
    ++ (codes ",\"cgid\":" ++ (v.cgid ++ (codes ",\"perms\":\"" ++ (v.perms ++ 34 ∷ counts_text v)))))))))

abbrev line_text : Values → List ℕ
line_text v =
    codes "{\"key\":\"" ++ (v.key ++ 34 ∷ (codes ",\"msqid\":" ++ (v.msqid ++ owner_text v)))

-- The values are those of their kinds.
record AreRead (v : Values) : Type 0 where
  key : are_plain v.key ≡ true
  msqid : IsNumber v.msqid
  uid : IsNumber v.uid
  gid : IsNumber v.gid
  cuid : IsNumber v.cuid
  cgid : IsNumber v.cgid
  perms : are_plain v.perms ≡ true
  qbytes : IsNumber v.qbytes
  bytes : IsNumber v.bytes
  messages : IsNumber v.messages

-- What the lexer makes of each part.
abbrev number_lexemes : (name digits : List ℕ) → List Lexeme → List Lexeme
number_lexemes name digits more = comma ∷ token (string name) ∷ colon ∷ token (number digits) ∷ more

abbrev counts_lexemes : Values → List Lexeme
counts_lexemes v =
    number_lexemes (codes "qbytes") v.qbytes (number_lexemes (codes "bytes") v.bytes
    (number_lexemes (codes "messages") v.messages (token end_object ∷ [])))

abbrev owner_lexemes : Values → List Lexeme
owner_lexemes v =
    number_lexemes (codes "uid") v.uid (number_lexemes (codes "gid") v.gid (number_lexemes (codes "cuid") v.cuid
    (number_lexemes (codes "cgid") v.cgid
    (comma ∷ token (string (codes "perms")) ∷ colon ∷ token (string v.perms) ∷ counts_lexemes v))))

abbrev line_lexemes : Values → List Lexeme
line_lexemes v =
    token begin_object ∷ token (string (codes "key")) ∷ colon ∷ token (string v.key)
    ∷ number_lexemes (codes "msqid") v.msqid (owner_lexemes v)

lex_counts : (v : Values) → AreRead v → lex between (counts_text v) ≡ counts_lexemes v
lex_counts v are =
    number_read (codes ",\"qbytes\":") (codes "qbytes") v.qbytes _ _ opens_qbytes are.qbytes refl
    (number_read (codes ",\"bytes\":") (codes "bytes") v.bytes _ _ opens_bytes are.bytes refl
    (number_read (codes ",\"messages\":") (codes "messages") v.messages _ _ opens_messages are.messages refl closes))

lex_perms : (v : Values) → AreRead v →
    lex between (codes ",\"perms\":\"" ++ (v.perms ++ 34 ∷ counts_text v))
    ≡ comma ∷ token (string (codes "perms")) ∷ colon ∷ token (string v.perms) ∷ counts_lexemes v
lex_perms v are =
    opens_perms (v.perms ++ 34 ∷ counts_text v)
    ∙ ap (λ (l : List Lexeme). comma ∷ token (string (codes "perms")) ∷ colon ∷ l)
    (text_read v.perms (counts_text v) (counts_lexemes v) are.perms (lex_counts v are))

lex_owner : (v : Values) → AreRead v → lex between (owner_text v) ≡ owner_lexemes v
lex_owner v are =
    number_read (codes ",\"uid\":") (codes "uid") v.uid _ _ opens_uid are.uid refl
    (number_read (codes ",\"gid\":") (codes "gid") v.gid _ _ opens_gid are.gid refl
    (number_read (codes ",\"cuid\":") (codes "cuid") v.cuid _ _ opens_cuid are.cuid refl
    (number_read (codes ",\"cgid\":") (codes "cgid") v.cgid _ _ opens_cgid are.cgid refl (lex_perms v are))))

lex_line : (v : Values) → AreRead v → lex between (line_text v) ≡ line_lexemes v
lex_line v are =
    opens_key (v.key ++ 34 ∷ (codes ",\"msqid\":" ++ (v.msqid ++ owner_text v)))
    ∙ ap (λ (l : List Lexeme). token begin_object ∷ token (string (codes "key")) ∷ colon ∷ l)
    (text_read v.key (codes ",\"msqid\":" ++ (v.msqid ++ owner_text v))
    (number_lexemes (codes "msqid") v.msqid (owner_lexemes v)) are.key
    (number_read (codes ",\"msqid\":") (codes "msqid") v.msqid _ _ opens_msqid are.msqid refl (lex_owner v are)))

punctuated : (v : Values) → punctuate fresh (line_lexemes v) ≡ queue_tokens v
unfolding punctuate
punctuated v = refl

tokens_line : (v : Values) → AreRead v → tokens (line_text v) ≡ queue_tokens v
tokens_line v are = ap (punctuate fresh) (lex_line v are) ∙ punctuated v

-- ---- the bytes of a line

-- The byte is a printable character of ASCII, or DEL.
abbrev pub is_mild : ℕ → Bool
is_mild byte = not (ltb byte 32) && ltb byte 128

abbrev pub are_mild : List ℕ → Bool
are_mild [] = true
are_mild (byte ∷ rest) = is_mild byte && are_mild rest

mild-append : (first second : List ℕ) → are_mild first ≡ true → are_mild second ≡ true
    → are_mild (first ++ second) ≡ true
mild-append [] second mild more = more
mild-append (byte ∷ first) second mild more =
    let parts = and_parts (is_mild byte) (are_mild first) mild in
    and_from (is_mild byte) (are_mild (first ++ second)) parts.0 (mild-append first second parts.1 more)

mild_is : (byte : ℕ) → 32 ≤ byte → byte < 128 → is_mild byte ≡ true
mild_is byte low high = rw (le-ltb byte 32 low, lt-ltb byte 128 high) refl

mild_at : (byte : ℕ) → is_mild byte ≡ true → (32 ≤ byte) × (byte < 128)
mild_at byte mild =
    let parts = and_parts (not (ltb byte 32)) (ltb byte 128) mild in
    (ltb-false byte 32 (not-true (ltb byte 32) parts.0), ltb-true byte 128 parts.1)

pub mild_end : (bytes : List ℕ) → are_mild bytes ≡ true → HasNoEnd bytes
mild_end [] mild = All-nil (λ (byte : ℕ). byte ≢ 10)
mild_end (byte ∷ rest) mild =
    let parts = and_parts (is_mild byte) (are_mild rest) mild in
    let big = (mild_at byte parts.0).0 in
    All-cons (λ (b : ℕ). b ≢ 10) byte rest (λ is. omega (arith, is, big)) (mild_end rest parts.1)

mild_ascii : (bytes : List ℕ) → are_mild bytes ≡ true → are_ascii bytes ≡ true
mild_ascii [] mild = refl
mild_ascii (byte ∷ rest) mild =
    let parts = and_parts (is_mild byte) (are_mild rest) mild in
    and_from (ltb byte 128) (are_ascii rest) (lt-ltb byte 128 (mild_at byte parts.0).1) (mild_ascii rest parts.1)

-- Bytes that a line may have, and at most this number.
record IsFine (text : List ℕ) (most : ℕ) : Type 0 where
  mild : are_mild text ≡ true
  short : length text ≤ most

fine-append : (first second : List ℕ) (one two : ℕ) → IsFine first one → IsFine second two
    → IsFine (first ++ second) (one + two)
fine-append first second one two a b = record {
  mild = mild-append first second a.mild b.mild;
  short = omega (arith, length-append first second, a.short, b.short);
}

fine_decimal : (n : ℕ) → n < 10000000000 → IsFine (decimal n) 10
fine_decimal n small = record {
  mild = decimal_by_steps (λ (m : ℕ) (digits : List ℕ). are_mild digits ≡ true)
      (λ m one. rw (mild_is (48 + m) (omega arith) (omega (arith, one))) refl)
      (λ m digits more mild. mild-append digits ((48 + m % 10) ∷ []) mild
      (rw (mild_is (48 + m % 10) (omega arith) (omega arith)) refl)) n (omega (arith, small));
  short = length-decimal-le 10 n (omega arith) (omega (arith, small)) (omega (arith, small));
}

-- The values have few bytes.
record AreFine (v : Values) : Type 0 where
  key : IsFine v.key 10
  msqid : IsFine v.msqid 10
  uid : IsFine v.uid 10
  gid : IsFine v.gid 10
  cuid : IsFine v.cuid 10
  cgid : IsFine v.cgid 10
  perms : IsFine v.perms 10
  qbytes : IsFine v.qbytes 10
  bytes : IsFine v.bytes 10
  messages : IsFine v.messages 10

-- A name of a member, a value, and what follows.
fine_member : (before value rest : List ℕ) (most : ℕ) → IsFine before 20 → IsFine value 10 → IsFine rest most
    → IsFine (before ++ (value ++ rest)) (30 + most)
fine_member before value rest most one two three =
    let whole = fine-append before (value ++ rest) 20 (10 + most) one (fine-append value rest 10 most two three) in
    record { mild = whole.mild; short = omega (arith, whole.short) }

fine_quote : (rest : List ℕ) (most : ℕ) → IsFine rest most → IsFine (34 ∷ rest) (1 + most)
fine_quote rest most fine = record { mild = fine.mild; short = omega (arith, fine.short) }

fine_counts : (v : Values) → AreFine v → IsFine (counts_text v) 91
fine_counts v are =
    fine_member (codes ",\"qbytes\":") v.qbytes _ 61 (record { mild = refl; short = omega arith }) are.qbytes
    (fine_member (codes ",\"bytes\":") v.bytes _ 31 (record { mild = refl; short = omega arith }) are.bytes
    (fine_member (codes ",\"messages\":") v.messages (125 ∷ []) 1 (record { mild = refl; short = omega arith })
    are.messages (record { mild = refl; short = omega arith })))

fine_owner : (v : Values) → AreFine v → IsFine (owner_text v) 242
fine_owner v are =
    fine_member (codes ",\"uid\":") v.uid _ 212 (record { mild = refl; short = omega arith }) are.uid
    (fine_member (codes ",\"gid\":") v.gid _ 182 (record { mild = refl; short = omega arith }) are.gid
    (fine_member (codes ",\"cuid\":") v.cuid _ 152 (record { mild = refl; short = omega arith }) are.cuid
    (fine_member (codes ",\"cgid\":") v.cgid _ 122 (record { mild = refl; short = omega arith }) are.cgid
    (fine_member (codes ",\"perms\":\"") v.perms (34 ∷ counts_text v) 92
    (record { mild = refl; short = omega arith }) are.perms (fine_quote (counts_text v) 91 (fine_counts v are))))))

fine_line : (v : Values) → AreFine v → IsFine (line_text v) 303
fine_line v are =
    fine_member (codes "{\"key\":\"") v.key _ 273 (record { mild = refl; short = omega arith }) are.key
    (fine_quote (codes ",\"msqid\":" ++ (v.msqid ++ owner_text v)) 272
    (fine_member (codes ",\"msqid\":") v.msqid (owner_text v) 242 (record { mild = refl; short = omega arith })
    are.msqid (fine_owner v are)))

-- ---- the values of a queue

abbrev values_of : (id : ℤ) → Attributes → Values
values_of id s = record {
  key = key_text s.key;
  msqid = signed_decimal id;
  uid = decimal s.perm.uid;
  gid = decimal s.perm.gid;
  cuid = decimal s.perm.cuid;
  cgid = decimal s.perm.cgid;
  perms = mode_text s.perm.mode;
  qbytes = decimal s.qbytes;
  bytes = decimal s.cbytes;
  messages = decimal s.qnum;
}

-- Texts without their parentheses, before what follows.
past_two : (name digits more last all : List ℕ) → more ++ last ≡ all
    → (name ++ (digits ++ more)) ++ last ≡ name ++ (digits ++ all)
past_two name digits more last all is =
    append_assoc name (digits ++ more) last
    ∙ ap (λ (l : List ℕ). name ++ l) (append_assoc digits more last ∙ ap (λ (l : List ℕ). digits ++ l) is)

past_number : (name digits more last all : List ℕ) → more ++ last ≡ all
    → (number_text name digits ++ more) ++ last ≡ name ++ (digits ++ all)
unfolding number_text
past_number name digits more last all is =
    ap (λ (l : List ℕ). l ++ last) (append_assoc name digits more) ∙ past_two name digits more last all is

number_then : (name digits more all : List ℕ) → more ≡ all → number_text name digits ++ more ≡ name ++ (digits ++ all)
unfolding number_text
number_then name digits more all is = append_assoc name digits more ∙ ap (λ (l : List ℕ). name ++ (digits ++ l)) is

-- The line and its LF, from each part on.
abbrev counts_end : Values → List ℕ
counts_end v =
    codes "\",\"qbytes\":" ++ (v.qbytes ++ (codes ",\"bytes\":" ++ (v.bytes ++ (codes ",\"messages\":" ++ (v.messages
    ++ 125 ∷ 10 ∷ [])))))

abbrev owner_end : Values → List ℕ
owner_end v =
    codes ",\"uid\":" ++ (v.uid ++ (codes ",\"gid\":" ++ (v.gid ++ (codes ",\"cuid\":" ++ (v.cuid
    ++ (codes ",\"cgid\":" ++ (v.cgid ++ (codes ",\"perms\":\"" ++ (v.perms ++ counts_end v)))))))))

abbrev line_end : Values → List ℕ
line_end v = codes "{\"key\":\"" ++ (v.key ++ (codes "\",\"msqid\":" ++ (v.msqid ++ owner_end v)))

text_counts : (v : Values) → (34 ∷ counts_text v) ++ 10 ∷ [] ≡ counts_end v
text_counts v =
    past_two (codes "\",\"qbytes\":") v.qbytes _ (10 ∷ []) _
    (past_two (codes ",\"bytes\":") v.bytes _ (10 ∷ []) _
    (past_two (codes ",\"messages\":") v.messages (125 ∷ []) (10 ∷ []) (125 ∷ 10 ∷ []) refl))

text_owner : (v : Values) → owner_text v ++ 10 ∷ [] ≡ owner_end v
text_owner v =
    past_two (codes ",\"uid\":") v.uid _ (10 ∷ []) _
    (past_two (codes ",\"gid\":") v.gid _ (10 ∷ []) _
    (past_two (codes ",\"cuid\":") v.cuid _ (10 ∷ []) _
    (past_two (codes ",\"cgid\":") v.cgid _ (10 ∷ []) _
    (past_two (codes ",\"perms\":\"") v.perms (34 ∷ counts_text v) (10 ∷ []) (counts_end v) (text_counts v)))))

text_line : (v : Values) → line_text v ++ 10 ∷ [] ≡ line_end v
text_line v =
    past_two (codes "{\"key\":\"") v.key _ (10 ∷ []) _
    (past_two (codes "\",\"msqid\":") v.msqid (owner_text v) (10 ∷ []) (owner_end v) (text_owner v))

counts_is : (id : ℤ) (s : Attributes) → saved_counts s ≡ counts_end (values_of id s)
unfolding saved_counts
counts_is id s =
    number_then (codes "\",\"qbytes\":") (decimal s.qbytes) _ _
    (number_then (codes ",\"bytes\":") (decimal s.cbytes) _ _
    (number_then (codes ",\"messages\":") (decimal s.qnum) (125 ∷ 10 ∷ []) (125 ∷ 10 ∷ []) refl))

owner_is : (id : ℤ) (s : Attributes) → saved_perm s.perm ++ saved_counts s ≡ owner_end (values_of id s)
unfolding saved_perm
owner_is id s =
    past_number (codes ",\"uid\":") (decimal s.perm.uid) _ (saved_counts s) _
    (past_number (codes ",\"gid\":") (decimal s.perm.gid) _ (saved_counts s) _
    (past_number (codes ",\"cuid\":") (decimal s.perm.cuid) _ (saved_counts s) _
    (past_number (codes ",\"cgid\":") (decimal s.perm.cgid) _ (saved_counts s) _
    (append_assoc (codes ",\"perms\":\"") (mode_text s.perm.mode) (saved_counts s)
    ∙ ap (λ (l : List ℕ). codes ",\"perms\":\"" ++ (mode_text s.perm.mode ++ l)) (counts_is id s)))))

as_line : (id : ℤ) (s : Attributes) → queue_text id s ≡ line_text (values_of id s) ++ 10 ∷ []
unfolding queue_text
as_line id s =
    ap (λ (l : List ℕ).
    codes "{\"key\":\"" ++ (key_text s.key ++ (codes "\",\"msqid\":" ++ (signed_decimal id ++ l))))
    (owner_is id s)
    ∙ sym (text_line (values_of id s))

-- ---- numbers

no_minus : (n : ℕ) → n < 10000000000 → (slice_index (decimal n) 0 == 45) ≡ false
no_minus zero small = ap (λ (l : List ℕ). slice_index l 0 == 45) (decimal_digit 0 (omega arith))
no_minus (suc n) small =
    ne_eqb (slice_index (decimal (suc n)) 0) 45
    (λ is. omega (arith, is, first_decimal (suc n) (omega arith) (omega (arith, small))))

numeral_of : (n : ℕ) → n < 10000000000 → IsNumeralOf (decimal n) (pos n)
numeral_of n small =
    let numeral = decimal_is_IsNumeral n (omega (arith, small)) in
    let plain = no_minus n small in
    (rw plain numeral.0, rw plain (ap pos numeral.1))

nat32 : (n : ℕ) → n < 2 ^ 32 → IsNat32 (decimal n) n
nat32 n small = (numeral_of n (omega (arith, small)), omega (arith, small))

is_number : (n : ℕ) → n < 10000000000 → IsNumber (decimal n)
is_number n small = IsNumber-signed_decimal (pos n) (omega (arith, small))

-- An identifier, from 0 on.
record IsIdText (id : ℤ) : Type 0 where
  number : IsNumber (signed_decimal id)
  fine : IsFine (signed_decimal id) 10
  states : IsId (signed_decimal id) id

id_text : (id : ℤ) → pos 0 ≤ℤ id → FitsSigned w32 id → IsIdText id
id_text (pos n) least most =
    let small : n < 2147483648 = omega (arith, ints, most.sfits) in
    record {
      number = is_number n (omega (arith, small));
      fine = fine_decimal n (omega (arith, small));
      states = ((numeral_of n (omega (arith, small)), most), least);
    }
id_text (negsuc n) least most = absurd (omega (arith, ints, least))

-- ---- digits of other bases

abbrev glyphs_below : ℕ → Bool
glyphs_below zero = true
glyphs_below (suc n) =
    ((digit_value (glyph n) == n) && (is_plain (glyph n) && is_mild (glyph n))) && glyphs_below n

-- The character of a digit has its value.
record IsGlyph (digit : ℕ) : Type 0 where
  value : digit_value (glyph digit) ≡ digit
  own : is_plain (glyph digit) ≡ true
  mild : is_mild (glyph digit) ≡ true

glyph_below : (n : ℕ) → glyphs_below n ≡ true → (x : ℕ) → x < n → IsGlyph x
glyph_below zero all x small = absurd (omega (arith, small))
glyph_below (suc n) all x small =
    let parts = and_parts ((digit_value (glyph n) == n) && (is_plain (glyph n) && is_mild (glyph n))) (glyphs_below n)
    all in
    elim (cases_eq x n) [
      | inl same ↦
          let own = and_parts (digit_value (glyph n) == n) (is_plain (glyph n) && is_mild (glyph n)) parts.0 in
          let others = and_parts (is_plain (glyph n)) (is_mild (glyph n)) own.1 in
          subst IsGlyph (sym same)
          (record { value = eqb-true (digit_value (glyph n)) n own.0; own = others.0; mild = others.1 })
      | inr differs ↦ glyph_below n parts.1 x (omega (arith, small, differs))
    ]

all_glyphs : glyphs_below 16 ≡ true
all_glyphs = refl

a_glyph : (digit : ℕ) → digit < 16 → IsGlyph digit
a_glyph digit small = glyph_below 16 all_glyphs digit small

-- Digits that have these values.
abbrev hex_digits : List ℕ → List ℕ
hex_digits [] = []
hex_digits (digit ∷ rest) = glyph digit ∷ hex_digits rest

abbrev AreBelow : ℕ → List ℕ → Type 0
AreBelow base [] = Unit {0}
AreBelow base (digit ∷ rest) = (digit < base) × AreBelow base rest

abbrev value_after : (base before : ℕ) → List ℕ → ℕ
value_after base before [] = before
value_after base before (digit ∷ rest) = value_after base (before * base + digit) rest

hex_value : (base before : ℕ) (ds : List ℕ) → base ≤ 16 → AreBelow base ds
    → digits_value_after base before (hex_digits ds) ≡ value_after base before ds
hex_value base before [] most below = refl
hex_value base before (digit ∷ rest) most below =
    let one = a_glyph digit (omega (arith, most, below.0)) in
    ap (λ (d : ℕ). digits_value_after base (before * base + d) (hex_digits rest)) one.value
    ∙ hex_value base (before * base + digit) rest most below.1

hex_all : (base : ℕ) (ds : List ℕ) → base ≤ 16 → AreBelow base ds → AllDigits base (hex_digits ds)
hex_all base [] most below = tt
hex_all base (digit ∷ rest) most below =
    let one = a_glyph digit (omega (arith, most, below.0)) in
    (omega (arith, one.value, below.0), hex_all base rest most below.1)

hex_plain : (base : ℕ) (ds : List ℕ) → base ≤ 16 → AreBelow base ds → are_plain (hex_digits ds) ≡ true
hex_plain base [] most below = refl
hex_plain base (digit ∷ rest) most below =
    and_from (is_plain (glyph digit)) (are_plain (hex_digits rest))
    (a_glyph digit (omega (arith, most, below.0))).own (hex_plain base rest most below.1)

hex_mild : (base : ℕ) (ds : List ℕ) → base ≤ 16 → AreBelow base ds → are_mild (hex_digits ds) ≡ true
hex_mild base [] most below = refl
hex_mild base (digit ∷ rest) most below =
    and_from (is_mild (glyph digit)) (are_mild (hex_digits rest))
    (a_glyph digit (omega (arith, most, below.0))).mild (hex_mild base rest most below.1)

-- ---- a key

-- The eight digits of 32 bits.
abbrev nibbles : ℕ → List ℕ
nibbles n =
    n / 16777216 / 16 ∷ n / 16777216 % 16 ∷ n / 65536 % 256 / 16 ∷ n / 65536 % 256 % 16
    ∷ n / 256 % 256 / 16 ∷ n / 256 % 256 % 16 ∷ n % 256 / 16 ∷ n % 256 % 16 ∷ []

four_bytes : (n : ℕ) → n < 2 ^ 32 →
    to_be_bytes w32 n ≡ n / 16777216 ∷ n / 65536 % 256 ∷ n / 256 % 256 ∷ n % 256 ∷ []
four_bytes n small =
    be_bytes_4 (n / 16777216 ∷ n / 65536 % 256 ∷ n / 256 % 256 ∷ n % 256 ∷ []) n refl (each n small) (omega arith)
  where
    each : (n : ℕ) → n < 2 ^ 32 → (i : ℕ) →
        get_or (n / 16777216 ∷ n / 65536 % 256 ∷ n / 256 % 256 ∷ n % 256 ∷ []) i 0 < 256
    each n small zero = omega (arith, small)
    each n small (suc zero) = omega arith
    each n small (suc (suc zero)) = omega arith
    each n small (suc (suc (suc zero))) = omega arith
    each n small (suc (suc (suc (suc i)))) = omega arith

byte_below : (byte : ℕ) (rest : List ℕ) → byte < 256 → AreBelow 16 rest
    → AreBelow 16 (byte / 16 ∷ byte % 16 ∷ rest)
byte_below byte rest small below = (omega (arith, small), (omega arith, below))

nibbles_below : (n : ℕ) → n < 2 ^ 32 → AreBelow 16 (nibbles n)
nibbles_below n small =
    let last = n % 256 / 16 ∷ n % 256 % 16 ∷ [] in
    let low = n / 256 % 256 / 16 ∷ n / 256 % 256 % 16 ∷ last in
    let most = n / 65536 % 256 / 16 ∷ n / 65536 % 256 % 16 ∷ low in
    byte_below (n / 16777216) most (omega (arith, small))
    (byte_below (n / 65536 % 256) low (omega arith)
    (byte_below (n / 256 % 256) last (omega arith) (byte_below (n % 256) [] (omega arith) tt)))

nibbles_value : (n : ℕ) → n < 2 ^ 32 → value_after 16 0 (nibbles n) ≡ n
nibbles_value n small = omega (arith, small)

bits_small : (key : ℤ) → FitsSigned w32 key → cast_unsigned w32 key < 2 ^ 32
bits_small (pos n) fits = omega (arith, fits.sfits)
bits_small (negsuc n) fits = omega arith

key_digits : (name : ℤ) → FitsSigned w32 name →
    key_text name ≡ codes "0x" ++ hex_digits (nibbles (cast_unsigned w32 name))
unfolding key_text
key_digits name fits =
    ap (λ (bytes : List ℕ). codes "0x" ++ flat_map hex_byte bytes)
    (four_bytes (cast_unsigned w32 name) (bits_small name fits))

-- A key.
record IsKeyText (name : ℤ) : Type 0 where
  own : are_plain (key_text name) ≡ true
  fine : IsFine (key_text name) 10
  states : IsHexKey (key_text name) name

a_key : (name : ℤ) → FitsSigned w32 name → IsKeyText name
a_key name fits =
    let n = cast_unsigned w32 name in
    let small = bits_small name fits in
    let below = nibbles_below n small in
    let same = key_digits name fits in
    let value : digits_value 16 (hex_digits (nibbles n)) ≡ n =
    hex_value 16 0 (nibbles n) (omega arith) below ∙ nibbles_value n small in
    record {
      own = rw same (hex_plain 16 (nibbles n) (omega arith) below);
      fine = rw same (record { mild = hex_mild 16 (nibbles n) (omega arith) below; short = omega arith });
      states = (
        hex_digits (nibbles n),
        same,
        (omega arith, hex_all 16 (nibbles n) (omega arith) below),
        omega arith,
        sym (to_z-of_z w32 name fits) ∙ ap (cast_signed w32) (sym value),
      );
    }

-- ---- a mode

abbrev octals : ℕ → List ℕ
octals mode = mode / 64 % 8 ∷ mode / 8 % 8 ∷ mode % 8 ∷ []

octals_below : (mode : ℕ) → AreBelow 8 (octals mode)
octals_below mode = (omega arith, (omega arith, (omega arith, tt)))

octal_glyph : (digit : ℕ) → digit < 8 → glyph digit ≡ 48 + digit
octal_glyph digit small = rw (lt-ltb digit 10 (omega (arith, small))) refl

mode_digits : (mode : ℕ) → mode_text mode ≡ hex_digits (octals mode)
mode_digits mode =
    rw (
      octal_glyph (mode / 64 % 8) (omega arith),
      octal_glyph (mode / 8 % 8) (omega arith),
      octal_glyph (mode % 8) (omega arith),
    ) refl

record IsModeText (mode : ℕ) : Type 0 where
  own : are_plain (mode_text mode) ≡ true
  fine : IsFine (mode_text mode) 10
  states : IsPerms (mode_text mode) mode

a_mode : (mode : ℕ) → mode ≤ 511 → IsModeText mode
a_mode mode nine =
    let below = octals_below mode in
    let same = mode_digits mode in
    let value : digits_value 8 (hex_digits (octals mode)) ≡ mode =
    hex_value 8 0 (octals mode) (omega arith) below ∙ omega (arith, nine) in
    record {
      own = subst (λ (l : List ℕ). are_plain l ≡ true) (sym same) (hex_plain 8 (octals mode) (omega arith) below);
      fine = record {
        mild = subst (λ (l : List ℕ). are_mild l ≡ true) (sym same) (hex_mild 8 (octals mode) (omega arith) below);
        short = omega arith;
      };
      states = (
        (omega arith, subst (AllDigits 8) (sym same) (hex_all 8 (octals mode) (omega arith) below)),
        refl,
        sym value ∙ ap (digits_value 8) (sym same),
      );
    }

-- ---- a queue

few : (n : ℕ) → n < 2 ^ 32 → n < 10000000000
few n small = omega (arith, small)

are_read : (id : ℤ) (s : Attributes) → IsServed id s → AreRead (values_of id s)
are_read id s is = record {
  key = (a_key s.key is.fits.key).own;
  msqid = (id_text id is.least is.most).number;
  uid = is_number s.perm.uid (few s.perm.uid is.fits.perm.uid);
  gid = is_number s.perm.gid (few s.perm.gid is.fits.perm.gid);
  cuid = is_number s.perm.cuid (few s.perm.cuid is.fits.perm.cuid);
  cgid = is_number s.perm.cgid (few s.perm.cgid is.fits.perm.cgid);
  perms = (a_mode s.perm.mode is.nine).own;
  qbytes = is_number s.qbytes (few s.qbytes is.fits.qbytes);
  bytes = is_number s.cbytes (few s.cbytes is.fits.cbytes);
  messages = is_number s.qnum (few s.qnum is.fits.qnum);
}

are_fine : (id : ℤ) (s : Attributes) → IsServed id s → AreFine (values_of id s)
are_fine id s is = record {
  key = (a_key s.key is.fits.key).fine;
  msqid = (id_text id is.least is.most).fine;
  uid = fine_decimal s.perm.uid (few s.perm.uid is.fits.perm.uid);
  gid = fine_decimal s.perm.gid (few s.perm.gid is.fits.perm.gid);
  cuid = fine_decimal s.perm.cuid (few s.perm.cuid is.fits.perm.cuid);
  cgid = fine_decimal s.perm.cgid (few s.perm.cgid is.fits.perm.cgid);
  perms = (a_mode s.perm.mode is.nine).fine;
  qbytes = fine_decimal s.qbytes (few s.qbytes is.fits.qbytes);
  bytes = fine_decimal s.cbytes (few s.cbytes is.fits.cbytes);
  messages = fine_decimal s.qnum (few s.qnum is.fits.qnum);
}

pub queue_back : (id : ℤ) (s : Attributes) → IsServed id s → IsQueueReadBack id s
queue_back id s is =
    let v = values_of id s in
    let fine = fine_line v (are_fine id s is) in
    record {
      text = line_text v;
      line = as_line id s;
      fits = (mild_end (line_text v) fine.mild, omega (arith, fine.short));
      states = (
        IsUtf8-are_ascii (line_text v) (mild_ascii (line_text v) fine.mild),
        record {
          values = v;
          object = tokens_line v (are_read id s is);
          has_key = (a_key s.key is.fits.key).states;
          has_id = (id_text id is.least is.most).states;
          has_uid = nat32 s.perm.uid is.fits.perm.uid;
          has_gid = nat32 s.perm.gid is.fits.perm.gid;
          has_cuid = nat32 s.perm.cuid is.fits.perm.cuid;
          has_cgid = nat32 s.perm.cgid is.fits.perm.cgid;
          has_mode = (a_mode s.perm.mode is.nine).states;
          has_qbytes = nat32 s.qbytes is.fits.qbytes;
          has_bytes = nat32 s.cbytes is.fits.cbytes;
          has_messages = nat32 s.qnum is.fits.qnum;
        },
      );
    }
