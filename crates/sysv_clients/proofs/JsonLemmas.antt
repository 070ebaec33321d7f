-- The bytes of a JSON string are read back: what the grammar of the kit's crate makes of them.
use Rattle.std.proofs.Common.{◌≡◌, ◌≢◌, ◌<◌, ◌≤◌, ◌+◌, ◌*◌, ◌/◌, ◌%◌, ◌∙◌, ℕ, zero, suc, Bool, true, false, cond}
use Rattle.std.proofs.Common.{◌&&◌, ◌||◌, ◌==◌, not, ltb, List, [], ◌∷◌, ◌++◌, length, get_or, slice_index, replicate}
use Rattle.std.proofs.Common.{Option, None, Some, inl, inr, refl, sym, ap, ap₂, subst, arith, append_assoc}
use Rattle.std.proofs.Common.{append-nil, IsUtf8}
use Rattle.std.proofs.lemmas.Bool.{and_from, and_parts, cases_eq, cases_lt, eqb-false, eqb-true, false≢true, le-ltb}
use Rattle.std.proofs.lemmas.Bool.{lt-leb, lt-ltb, ltb-false, ne_eqb, not-true, or_parts}
use Rattle.std.proofs.lemmas.Str.{IsUtf8-append, IsUtf8-encode, IsUtf8-nil, encode_ascii, inside_one}
use lib.Utf8.{encode, encodes, scalar, scalars}
use Rattle.base64.specs.Engines.{standard}
use Rattle.base64.specs.GeneralPurpose.{IsBytes, encode_of}
use Rattle.base64.specs.Rfc4648.{encode_symbols, padding_len}
use Rattle.json.specs.Lex.{Lexeme, Mode, between, in_string, lex, lex_byte, operator, other, space}
use Rattle.json.specs.Text.{code_unit, content, plain, prepend, short_escape}
use Rattle.json.specs.Word.{is_operator, is_space}
use Rattle.json.proofs.Printed.Utf8.{IsUtf8-are_ascii, are_ascii}
use Rattle.sysv_clients.specs.Object.{json_byte, json_text}
use Rattle.sysv_clients.specs.Table.{glyph}

-- What the grammar makes of a byte in a string, whatever follows it.
record Passes (byte : ℕ) : Type 0 where
  read : (r : List ℕ) → content plain (json_byte byte ++ r) ≡ prepend (byte ∷ []) (content plain r)
  lexed : (r : List ℕ) → lex in_string (json_byte byte ++ r) ≡ lex in_string r

-- The byte represents itself in a string.
abbrev pub is_plain : ℕ → Bool
is_plain byte = not ((byte == 34) || (byte == 92) || ltb byte 32)

plain_parts : (byte : ℕ) → is_plain byte ≡ true → (byte ≢ 34) × (byte ≢ 92) × (32 ≤ byte)
plain_parts byte own =
    let none = or_parts ((byte == 34) || (byte == 92)) (ltb byte 32) (not-true _ own) in
    let tests = or_parts (byte == 34) (byte == 92) none.0 in
    (eqb-false byte 34 tests.0, eqb-false byte 92 tests.1, ltb-false byte 32 none.1)

stays : (o s : Bool) (byte : ℕ) (r : List ℕ) (k : Mode → List Lexeme) →
    lex_byte in_string (cond o operator (cond s space other)) byte r k ≡ k in_string
stays true s byte r k = refl
stays false true byte r k = refl
stays false false byte r k = refl

-- The lexer passes over it.
passed : (byte : ℕ) (r : List ℕ) → byte ≢ 34 → byte ≢ 92 → lex in_string (byte ∷ r) ≡ lex in_string r
unfolding lex
passed byte r no_quote no_backslash =
    rw (ne_eqb byte 34 no_quote, ne_eqb byte 92 no_backslash)
    (stays (is_operator byte) (is_space byte) byte r (λ (m : Mode). lex m r))

-- The escape of a control character.
abbrev escape : (high low : ℕ) → List ℕ
escape high low = 92 ∷ 117 ∷ 48 ∷ 48 ∷ high ∷ low ∷ []

read_escape : (high low byte : ℕ) (r : List ℕ) → code_unit 48 48 high low ≡ Some byte → byte < 128
    → content plain (escape high low ++ r) ≡ prepend (byte ∷ []) (content plain r)
unfolding content
read_escape high low byte r unit small =
    rw (
      unit,
      lt-leb 0xd800 byte (omega (arith, small)),
      lt-leb 0xdc00 byte (omega (arith, small)),
      encode_ascii byte small,
    ) refl

lex_zeros : (r : List ℕ) → lex in_string (92 ∷ 117 ∷ 48 ∷ 48 ∷ r) ≡ lex in_string r
unfolding lex
lex_zeros r = refl

lex_escape : (high low : ℕ) (r : List ℕ) → is_plain high ≡ true → is_plain low ≡ true
    → lex in_string (escape high low ++ r) ≡ lex in_string r
lex_escape high low r one two =
    let first = plain_parts high one in
    let second = plain_parts low two in
    lex_zeros (high ∷ low ∷ r) ∙ passed high (low ∷ r) first.0 first.1 ∙ passed low r second.0 second.1

abbrev is_unit : Option ℕ → ℕ → Bool
is_unit (Some unit) byte = unit == byte
is_unit None byte = false

unit_is : (unit : Option ℕ) (byte : ℕ) → is_unit unit byte ≡ true → unit ≡ Some byte
unit_is (Some unit) byte is = ap Some (eqb-true unit byte is)
unit_is None byte is = absurd (false≢true is)

-- The escape of this byte is that of this byte.
abbrev is_escaped : ℕ → Bool
is_escaped byte = is_unit (code_unit 48 48 (glyph (byte / 16)) (glyph (byte % 16))) byte
    && (is_plain (glyph (byte / 16)) && is_plain (glyph (byte % 16)))

abbrev escaped_below : ℕ → Bool
escaped_below zero = true
escaped_below (suc n) = is_escaped n && escaped_below n

escaped : (n : ℕ) → escaped_below n ≡ true → (x : ℕ) → x < n → is_escaped x ≡ true
escaped zero all x small = absurd (omega (arith, small))
escaped (suc n) all x small =
    let parts = and_parts (is_escaped n) (escaped_below n) all in
    elim (cases_eq x n) [
      | inl same ↦ rw same parts.0
      | inr differs ↦ escaped n parts.1 x (omega (arith, small, differs))
    ]

all_controls : escaped_below 32 ≡ true
unfolding code_unit
all_controls = refl

control_text : (byte : ℕ) → byte < 32 → json_byte byte ≡ escape (glyph (byte / 16)) (glyph (byte % 16))
unfolding json_byte
control_text byte small =
    rw (
      ne_eqb byte 34 (λ e. omega (arith, e, small)),
      ne_eqb byte 92 (λ e. omega (arith, e, small)),
      lt-ltb byte 32 small,
    ) refl

control : (byte : ℕ) → byte < 32 → Passes byte
control byte small =
    let high = glyph (byte / 16) in
    let low = glyph (byte % 16) in
    let whole = and_parts (is_unit (code_unit 48 48 high low) byte) (is_plain high && is_plain low)
    (escaped 32 all_controls byte small) in
    let plains = and_parts (is_plain high) (is_plain low) whole.1 in
    let same = control_text byte small in
    record {
      read = λ r. rw same
          (read_escape high low byte r (unit_is (code_unit 48 48 high low) byte whole.0) (omega (arith, small)));
      lexed = λ r. rw same (lex_escape high low r plains.0 plains.1);
    }

quote : Passes 34
unfolding json_byte content lex short_escape
quote = record { read = λ r. refl; lexed = λ r. refl }

backslash : Passes 92
unfolding json_byte content lex short_escape
backslash = record { read = λ r. refl; lexed = λ r. refl }

-- A byte that represents itself.
pub itself : (byte : ℕ) → byte ≢ 34 → byte ≢ 92 → 32 ≤ byte → json_byte byte ≡ byte ∷ []
unfolding json_byte
itself byte no_quote no_backslash high =
    rw (ne_eqb byte 34 no_quote, ne_eqb byte 92 no_backslash, le-ltb byte 32 high) refl

any_other : (byte : ℕ) → byte ≢ 34 → byte ≢ 92 → 32 ≤ byte → Passes byte
unfolding content
any_other byte no_quote no_backslash high =
    let same = itself byte no_quote no_backslash high in
    record {
      read = λ r. rw (same, ne_eqb byte 34 no_quote, ne_eqb byte 92 no_backslash, le-ltb byte 32 high) refl;
      lexed = λ r. rw same (passed byte r no_quote no_backslash);
    }

passes : (byte : ℕ) → Passes byte
passes byte = elim (cases_eq byte 34) [
  | inl is ↦ subst Passes (sym is) quote
  | inr no_quote ↦ elim (cases_eq byte 92) [
    | inl is ↦ subst Passes (sym is) backslash
    | inr no_backslash ↦ elim (cases_lt byte 32) [
      | inl small ↦ control byte small
      | inr high ↦ any_other byte no_quote no_backslash high
    ]
  ]
]

-- A string is read back.
pub content-json : (text r : List ℕ) → content plain (json_text text ++ 34 ∷ r) ≡ Some text
unfolding content
content-json [] r = refl
content-json (byte ∷ text) r =
    ap (content plain) (append_assoc (json_byte byte) (json_text text) (34 ∷ r))
    ∙ (passes byte).read (json_text text ++ 34 ∷ r)
    ∙ ap (prepend (byte ∷ [])) (content-json text r)

-- The lexer passes over it.
pub lex-json : (text r : List ℕ) → lex in_string (json_text text ++ 34 ∷ r) ≡ lex between r
unfolding lex
lex-json [] r = refl
lex-json (byte ∷ text) r =
    ap (lex in_string) (append_assoc (json_byte byte) (json_text text) (34 ∷ r))
    ∙ (passes byte).lexed (json_text text ++ 34 ∷ r)
    ∙ lex-json text r

-- ---- bytes of a line

-- The bytes are 32 or more.
abbrev pub are_high : List ℕ → Bool
are_high [] = true
are_high (byte ∷ rest) = not (ltb byte 32) && are_high rest

pub high-append : (first second : List ℕ) → are_high first ≡ true → are_high second ≡ true
    → are_high (first ++ second) ≡ true
high-append [] second high more = more
high-append (byte ∷ first) second high more =
    let parts = and_parts (not (ltb byte 32)) (are_high first) high in
    and_from (not (ltb byte 32)) (are_high (first ++ second)) parts.0 (high-append first second parts.1 more)

abbrev escapes_below : ℕ → Bool
escapes_below zero = true
escapes_below (suc n) = (are_high (json_byte n) && are_ascii (json_byte n)) && escapes_below n

escape_below : (n : ℕ) → escapes_below n ≡ true → (x : ℕ) → x < n →
    (are_high (json_byte x) ≡ true) × (are_ascii (json_byte x) ≡ true)
escape_below zero all x small = absurd (omega (arith, small))
escape_below (suc n) all x small =
    let parts = and_parts (are_high (json_byte n) && are_ascii (json_byte n)) (escapes_below n) all in
    elim (cases_eq x n) [
      | inl same ↦ rw same (and_parts (are_high (json_byte n)) (are_ascii (json_byte n)) parts.0)
      | inr differs ↦ escape_below n parts.1 x (omega (arith, small, differs))
    ]

all_escapes : escapes_below 128 ≡ true
unfolding json_byte
all_escapes = refl

high_byte : (byte : ℕ) → are_high (json_byte byte) ≡ true
high_byte byte = elim (cases_lt byte 128) [
  | inl small ↦ (escape_below 128 all_escapes byte small).0
  | inr big ↦
      rw (
        itself byte (λ e. omega (arith, e, big)) (λ e. omega (arith, e, big)) (omega (arith, big)),
        le-ltb byte 32 (omega (arith, big)),
      ) refl
]

pub high-json : (text : List ℕ) → are_high (json_text text) ≡ true
high-json [] = refl
high-json (byte ∷ text) = high-append (json_byte byte) (json_text text) (high_byte byte) (high-json text)

json-append : (first second : List ℕ) → json_text (first ++ second) ≡ json_text first ++ json_text second
json-append [] second = refl
json-append (byte ∷ first) second =
    ap (λ (l : List ℕ). json_byte byte ++ l) (json-append first second)
    ∙ sym (append_assoc (json_byte byte) (json_text first) (json_text second))

json_high : (text : List ℕ) → ((k : ℕ) → k < length text → 128 ≤ get_or text k 0) → json_text text ≡ text
json_high [] high = refl
json_high (byte ∷ text) high =
    let big : 128 ≤ byte = high 0 (omega arith) in
    ap₂ (λ (a b : List ℕ). a ++ b)
    (itself byte (λ e. omega (arith, e, big)) (λ e. omega (arith, e, big)) (omega (arith, big)))
    (json_high text (λ k in_text. high (suc k) (omega (arith, in_text))))

one_char : (c : ℕ) → scalar c ≡ true → IsUtf8 (json_text (encode c))
one_char c ok = elim (cases_lt c 128) [
  | inl small ↦ rw (encode_ascii c small, append-nil (json_byte c))
      (IsUtf8-are_ascii (json_byte c) (escape_below 128 all_escapes c small).1)
  | inr big ↦
      let high : (k : ℕ) → k < length (encode c) → 128 ≤ get_or (encode c) k 0 =
      λ k in_char. elim (cases_lt (get_or (encode c) k 0) 128) [
        | inl low ↦ absurd (omega (arith, big, inside_one c [] (encode c) k (sym (append-nil (encode c))) in_char low))
        | inr h ↦ h
      ] in
      subst IsUtf8 (sym (json_high (encode c) high)) (IsUtf8-encode c ok)
]

all_chars : (cs : List ℕ) → scalars cs ≡ true → IsUtf8 (json_text (encodes cs))
all_chars [] ok = IsUtf8-nil
all_chars (c ∷ cs) ok =
    let parts = and_parts (scalar c) (scalars cs) ok in
    subst IsUtf8 (sym (json-append (encode c) (encodes cs)))
    (IsUtf8-append (json_text (encode c)) (json_text (encodes cs)) (one_char c parts.0) (all_chars cs parts.1))

-- The string of a text is UTF-8 if the text is.
pub IsUtf8-json : (text : List ℕ) → IsUtf8 text → IsUtf8 (json_text text)
IsUtf8-json text utf8 = subst (λ (l : List ℕ). IsUtf8 (json_text l)) utf8.1.1 (all_chars utf8.0 utf8.1.0)

-- ---- base64

-- The bytes represent themselves.
abbrev pub are_plain : List ℕ → Bool
are_plain [] = true
are_plain (byte ∷ rest) = is_plain byte && are_plain rest

plain-append : (first second : List ℕ) → are_plain first ≡ true → are_plain second ≡ true
    → are_plain (first ++ second) ≡ true
plain-append [] second own more = more
plain-append (byte ∷ first) second own more =
    let parts = and_parts (is_plain byte) (are_plain first) own in
    and_from (is_plain byte) (are_plain (first ++ second)) parts.0 (plain-append first second parts.1 more)

plain_at : (bytes : List ℕ) (i : ℕ) → are_plain bytes ≡ true → i < length bytes → is_plain (slice_index bytes i) ≡ true
plain_at [] i own within = absurd (omega (arith, within))
plain_at (byte ∷ rest) zero own within = (and_parts (is_plain byte) (are_plain rest) own).0
plain_at (byte ∷ rest) (suc i) own within =
    plain_at rest i (and_parts (is_plain byte) (are_plain rest) own).1 (omega (arith, within))

-- Bytes that represent themselves are the string of themselves.
pub plain_text : (bytes : List ℕ) → are_plain bytes ≡ true → json_text bytes ≡ bytes
plain_text [] own = refl
plain_text (byte ∷ rest) own =
    let parts = and_parts (is_plain byte) (are_plain rest) own in
    let its = plain_parts byte parts.0 in
    ap₂ (λ (a b : List ℕ). a ++ b)
    (itself byte its.0 its.1 its.2)
    (plain_text rest parts.1)

-- The symbols of base64.
abbrev pub table : List ℕ
table = standard.encode_table

symbols : are_plain table ≡ true
symbols = refl

symbol : (i : ℕ) → i < 64 → is_plain (slice_index table i) ≡ true
symbol i small = plain_at table i symbols small

rest_bytes : (byte : ℕ) (rest : List ℕ) → IsBytes (byte ∷ rest) → IsBytes rest
rest_bytes byte rest bytes = λ i. bytes (suc i)

-- The symbols of three, two and one bytes.
plain_three : (a b c : ℕ) (rest : List ℕ) → a < 256 → b < 256 → c < 256 → are_plain rest ≡ true → are_plain (
    slice_index table (a / 4) ∷ slice_index table (a % 4 * 16 + b / 16)
    ∷ slice_index table (b % 16 * 4 + c / 64) ∷ slice_index table (c % 64) ∷ rest) ≡ true
plain_three a b c rest small_a small_b small_c own =
    rw (
      symbol (a / 4) (omega (arith, small_a)),
      symbol (a % 4 * 16 + b / 16) (omega (arith, small_b)),
      symbol (b % 16 * 4 + c / 64) (omega (arith, small_c)),
      symbol (c % 64) (omega arith),
    ) own

plain_symbols : (m : List ℕ) → IsBytes m → are_plain (encode_symbols table m) ≡ true
unfolding encode_symbols
plain_symbols [] bytes = refl
plain_symbols (a ∷ []) bytes =
    rw (
      symbol (a / 4) (omega (arith, bytes 0)),
      symbol (a % 4 * 16) (omega arith),
    ) refl
plain_symbols (a ∷ b ∷ []) bytes =
    rw (
      symbol (a / 4) (omega (arith, bytes 0)),
      symbol (a % 4 * 16 + b / 16) (omega (arith, bytes 1)),
      symbol (b % 16 * 4) (omega arith),
    ) refl
plain_symbols (a ∷ b ∷ c ∷ rest) bytes =
    plain_three a b c (encode_symbols table rest) (bytes 0) (bytes 1) (bytes 2)
    (plain_symbols rest (λ i. bytes (suc (suc (suc i)))))

plain_padding : (count : ℕ) → are_plain (replicate count 61) ≡ true
plain_padding zero = refl
plain_padding (suc count) = plain_padding count

-- An encoding is the string of itself.
pub json-coded : (body : List ℕ) → IsBytes body → json_text (encode_of standard body) ≡ encode_of standard body
json-coded body bytes = plain_text (encode_of standard body)
    (plain-append (encode_symbols table body) (replicate (padding_len (length body)) 61)
    (plain_symbols body bytes) (plain_padding (padding_len (length body))))
