-- What a rcv prints of a message is read back, and a snd that reads what it prints copies a queue.
use Rattle.std.proofs.Common.{◌≡◌, ◌≢◌, ◌<◌, ◌≤◌, ◌+◌, ◌%◌, ◌∙◌, ◌==◌, not, ltb, ℕ, ℤ, pos}
use Rattle.std.proofs.Common.{Bool, true, false, List, [], ◌∷◌, ◌++◌, length, slice_index, replicate, Option, Some}
use Rattle.std.proofs.Common.{None, inl, inr, refl, sym, ap, ap₂, subst, arith, append_assoc, append-nil}
use Rattle.std.proofs.Common.{length-append, codes, IsUtf8, decimal, ◌^◌}
use Rattle.std.proofs.lemmas.Bool.{and_parts, false≢true, le-ltb, ltb-false, ne_eqb, not-true}
use Rattle.std.proofs.lemmas.Fmt.{IsAscii-decimal, decimal_by_steps, decimal_is_IsNumeral, first_decimal}
use Rattle.std.proofs.lemmas.Fmt.{length-decimal-le}
use Rattle.std.proofs.lemmas.List.{length-replicate}
use Rattle.std.proofs.lemmas.List.Elements.{All-cons, All-head, All-nil, All-tail}
use Rattle.std.proofs.lemmas.Int.{ints}
use Rattle.std.proofs.lemmas.Str.{IsUtf8-append, IsUtf8-from_ascii, IsUtf8-from_is_utf8, is_utf8-from_IsUtf8}
use Rattle.std.specs.Io.KnownBytes.{Consumes}
use Rattle.std.specs.Str.{is_utf8}
use Rattle.base64.specs.Engines.{standard}
use Rattle.base64.specs.GeneralPurpose.{IsBytes, encode_of}
use Rattle.base64.specs.Rfc4648.{encode_symbols, padding_len}
use Rattle.base64.proofs.EngineFacts.{IsAscii-encode_of}
use Rattle.base64.proofs.RoundTrip.{length-encode_symbols}
use Rattle.json.specs.Lex.{Lexeme, between, colon, comma, fresh, in_string, lex, punctuate, string_token, token, tokens}
use Rattle.json.specs.Print.{IsNumber}
use Rattle.json.specs.Text.{content, plain}
use Rattle.json.specs.Token.{Token, begin_object, end_object, key, number, string}
use Rattle.json.proofs.Printed.Decimals.{IsNumber-signed_decimal}
use Rattle.json.proofs.Printed.Numbers.{lex-number}
use Rattle.json.proofs.Printed.Utf8.{IsUtf8-are_ascii, are_ascii}
use Rattle.sysv_clients.specs.declared.sending.Sending.{Sending}
use Rattle.sysv_clients.specs.declared.sending.Wording.{Wording}
use Rattle.sysv_clients.specs.declared.sending.Wording.TheVariants.{Objects}
use Rattle.sysv_clients.specs.declared.stated.TheConstants.{OBJECT_BYTES}
use Rattle.sysv_clients.specs.Copies.{AreCopied, AreMessages, IsCopied, IsMessage, IsReadBack, Message, StatesOne}
use Rattle.sysv_clients.specs.Copies.{objects_of}
use Rattle.sysv_clients.specs.Lines.{HasNoEnd, HasNone, IsNext}
use Rattle.sysv_clients.specs.Object.{body_member, json_text, object_line}
use Rattle.sysv_clients.specs.Sending.{AreSends, IsNextSend, Sent, send_ask}
use Rattle.sysv_clients.specs.Stated.{IsObjectOf, IsObjectWith, States, StatesBody, coded_member, line_most}
use Rattle.sysv_clients.specs.Stated.{object_tokens, text_member, type_member}
use Rattle.sysv_clients.specs.Words.{IsType}
use Rattle.sysv_clients.proofs.JsonLemmas.{IsUtf8-json, are_high, content-json, high-append, high-json, json-coded}
use Rattle.sysv_clients.proofs.JsonLemmas.{lex-json, table}
use Rattle.sysv_clients.proofs.ObjectLemmas.{member_bytes, member_text, text_most}
use Rattle.sysv_clients.proofs.StatedLemmas.{one_body, other_key}
use Rattle.sysv_model.specs.declared.limits.TheConstants.{MESSAGE_BYTES}
use Rattle.sysv_wire.specs.declared.request.Ask.{Ask}
use Rattle.sysv_words.specs.Words.{IsInt64}

-- ---- the tokens of a line

-- A line with these digits, this beginning of the other member and these bytes of its string.
abbrev line_of : (digits member text : List ℕ) → List ℕ
line_of digits member text = codes "{\"type\":" ++ (digits ++ (member ++ (text ++ 34 ∷ 125 ∷ [])))

lex_type : (r : List ℕ) → lex between (codes "{\"type\":" ++ r)
    ≡ token begin_object ∷ token (string (codes "type")) ∷ colon ∷ lex between r
unfolding lex content
lex_type r = refl

lex_body : (r : List ℕ) → lex between (codes ",\"body\":\"" ++ r)
    ≡ comma ∷ token (string (codes "body")) ∷ colon ∷ token (string_token (content plain r)) ∷ lex in_string r
unfolding lex content
lex_body r = refl

lex_coded : (r : List ℕ) → lex between (codes ",\"base64\":\"" ++ r)
    ≡ comma ∷ token (string (codes "base64")) ∷ colon ∷ token (string_token (content plain r)) ∷ lex in_string r
unfolding lex content
lex_coded r = refl

lex_end : lex between (125 ∷ []) ≡ token end_object ∷ []
unfolding lex
lex_end = refl

punctuated : (first second digits text : List ℕ) →
    punctuate fresh (token begin_object ∷ token (string first) ∷ colon ∷ token (number digits) ∷ comma
    ∷ token (string second) ∷ colon ∷ token (string text) ∷ token end_object ∷ [])
    ≡ object_tokens (key first ∷ number digits ∷ []) (key second ∷ string text ∷ [])
unfolding punctuate
punctuated first second digits text = refl

-- The lexemes of the string and of what follows it.
string_read : (text : List ℕ) →
    token (string_token (content plain (json_text text ++ 34 ∷ 125 ∷ [])))
    ∷ lex in_string (json_text text ++ 34 ∷ 125 ∷ [])
    ≡ token (string text) ∷ token end_object ∷ []
string_read text =
    ap₂ (λ (o : Option (List ℕ)) (l : List Lexeme). token (string_token o) ∷ l) (content-json text (125 ∷ []))
    (lex-json text (125 ∷ []) ∙ lex_end)

tokens_text : (digits text : List ℕ) → IsNumber digits →
    tokens (line_of digits (codes ",\"body\":\"") (json_text text))
    ≡ object_tokens (type_member digits) (text_member text)
tokens_text digits text is_number =
    ap (punctuate fresh)
    (lex_type (digits ++ (codes ",\"body\":\"" ++ (json_text text ++ 34 ∷ 125 ∷ [])))
    ∙ ap (λ (l : List Lexeme). token begin_object ∷ token (string (codes "type")) ∷ colon ∷ l)
    (lex-number digits (codes ",\"body\":\"" ++ (json_text text ++ 34 ∷ 125 ∷ [])) is_number refl
    ∙ ap (λ (l : List Lexeme). token (number digits) ∷ l)
    (lex_body (json_text text ++ 34 ∷ 125 ∷ [])
    ∙ ap (λ (l : List Lexeme). comma ∷ token (string (codes "body")) ∷ colon ∷ l) (string_read text))))
    ∙ punctuated (codes "type") (codes "body") digits text

tokens_coded : (digits text : List ℕ) → IsNumber digits →
    tokens (line_of digits (codes ",\"base64\":\"") (json_text text))
    ≡ object_tokens (type_member digits) (coded_member text)
tokens_coded digits text is_number =
    ap (punctuate fresh)
    (lex_type (digits ++ (codes ",\"base64\":\"" ++ (json_text text ++ 34 ∷ 125 ∷ [])))
    ∙ ap (λ (l : List Lexeme). token begin_object ∷ token (string (codes "type")) ∷ colon ∷ l)
    (lex-number digits (codes ",\"base64\":\"" ++ (json_text text ++ 34 ∷ 125 ∷ [])) is_number refl
    ∙ ap (λ (l : List Lexeme). token (number digits) ∷ l)
    (lex_coded (json_text text ++ 34 ∷ 125 ∷ [])
    ∙ ap (λ (l : List Lexeme). comma ∷ token (string (codes "base64")) ∷ colon ∷ l) (string_read text))))
    ∙ punctuated (codes "type") (codes "base64") digits text

-- ---- the bytes of a line

no_end : (bytes : List ℕ) → are_high bytes ≡ true → HasNoEnd bytes
no_end [] high = All-nil (λ (byte : ℕ). byte ≢ 10)
no_end (byte ∷ rest) high =
    let parts = and_parts (not (ltb byte 32)) (are_high rest) high in
    let big : 32 ≤ byte = ltb-false byte 32 (not-true (ltb byte 32) parts.0) in
    All-cons (λ (b : ℕ). b ≢ 10) byte rest (λ is. omega (arith, is, big)) (no_end rest parts.1)

high_digit : (digit : ℕ) → are_high ((48 + digit) ∷ []) ≡ true
high_digit digit = rw (le-ltb (48 + digit) 32 (omega arith)) refl

high_decimal : (n : ℕ) → n < 2 ^ 64 → are_high (decimal n) ≡ true
high_decimal n small =
    decimal_by_steps (λ (m : ℕ) (digits : List ℕ). are_high digits ≡ true) (λ m one. high_digit m)
    (λ m digits more high. high-append digits ((48 + m % 10) ∷ []) high (high_digit (m % 10))) n small

-- What a line needs besides its tokens: UTF-8, no LF and few bytes.
record IsFit (line : List ℕ) : Type 0 where
  utf8 : IsUtf8 line
  high : are_high line ≡ true
  short : length line ≤ OBJECT_BYTES

fit : (n : ℕ) (member text : List ℕ) → n ≤ 9223372036854775807 → are_ascii member ≡ true → are_high member ≡ true
    → length member ≤ 11 → IsUtf8 text → are_high text ≡ true → length text ≤ 49152
    → IsFit (line_of (decimal n) member text)
fit n member text small ascii high few utf8 high_text short =
    let after = text ++ 34 ∷ 125 ∷ [] in
    let after_utf8 = IsUtf8-append text (34 ∷ 125 ∷ []) utf8 (IsUtf8-are_ascii (34 ∷ 125 ∷ []) refl) in
    let after_high = high-append text (34 ∷ 125 ∷ []) high_text refl in
    let digits_utf8 = IsUtf8-from_ascii (decimal n) (IsAscii-decimal n (omega (arith, small))) in
    let digits_few : length (decimal n) ≤ 19 =
    length-decimal-le 19 n (omega arith) (omega (arith, small)) (omega (arith, small)) in
    record {
      utf8 = IsUtf8-append (codes "{\"type\":") (decimal n ++ (member ++ after))
          (IsUtf8-are_ascii (codes "{\"type\":") refl)
          (IsUtf8-append (decimal n) (member ++ after) digits_utf8
          (IsUtf8-append member after (IsUtf8-are_ascii member ascii) after_utf8));
      high = high-append (codes "{\"type\":") (decimal n ++ (member ++ after)) refl
          (high-append (decimal n) (member ++ after) (high_decimal n (omega (arith, small)))
          (high-append member after high after_high));
      short = omega (
        arith,
        length-append (decimal n) (member ++ after),
        length-append member after,
        length-append text (34 ∷ 125 ∷ []),
        digits_few,
        few,
        short,
      );
    }

-- ---- a message is read back

has_number : (n : ℕ) → 1 ≤ n → n ≤ 9223372036854775807 → IsInt64 (decimal n) (pos n)
has_number n some small =
    let numeral = decimal_is_IsNumeral n (omega (arith, small)) in
    let first : 48 < slice_index (decimal n) 0 = first_decimal n (omega (arith, some)) (omega (arith, small)) in
    let plain : (slice_index (decimal n) 0 == 45) ≡ false =
    ne_eqb (slice_index (decimal n) 0) 45 (λ is. omega (arith, is, first)) in
    ((rw plain numeral.0, rw plain (ap pos numeral.1)), record { sfits = omega (arith, small) })

has_type : (n : ℕ) → 1 ≤ n → n ≤ 9223372036854775807 → IsType (decimal n) (pos n)
has_type n some small = (has_number n some small, omega (arith, ints, some))

-- The object is the line and an LF.
as_line : (n : ℕ) (body member text : List ℕ) → body_member body ≡ member ++ (text ++ codes "\"")
    → object_line (pos n) body ≡ line_of (decimal n) member text ++ 10 ∷ []
unfolding object_line
as_line n body member text is =
    let inner : body_member body ++ 125 ∷ 10 ∷ [] ≡ (member ++ (text ++ 34 ∷ 125 ∷ [])) ++ 10 ∷ [] =
    ap (λ (l : List ℕ). l ++ 125 ∷ 10 ∷ []) is
    ∙ append_assoc member (text ++ 34 ∷ []) (125 ∷ 10 ∷ [])
    ∙ ap (λ (l : List ℕ). member ++ l) (append_assoc text (34 ∷ []) (125 ∷ 10 ∷ [])
    ∙ sym (append_assoc text (34 ∷ 125 ∷ []) (10 ∷ [])))
    ∙ sym (append_assoc member (text ++ 34 ∷ 125 ∷ []) (10 ∷ [])) in
    ap (λ (l : List ℕ). codes "{\"type\":" ++ (decimal n ++ l)) inner
    ∙ ap (λ (l : List ℕ). codes "{\"type\":" ++ l)
    (sym (append_assoc (decimal n) (member ++ (text ++ 34 ∷ 125 ∷ [])) (10 ∷ [])))

is_number : (n : ℕ) → n ≤ 9223372036854775807 → IsNumber (decimal n)
is_number n small = IsNumber-signed_decimal (pos n) (omega (arith, small))

-- A body that is UTF-8.
text_back : (n : ℕ) (body : List ℕ) → 1 ≤ n → n ≤ 9223372036854775807 → length body ≤ MESSAGE_BYTES → IsUtf8 body
    → IsReadBack (record { mtype = pos n; body = body })
text_back n body some small short utf8 =
    let fits = fit n (codes ",\"body\":\"") (json_text body) small refl refl (omega arith) (IsUtf8-json body utf8)
    (high-json body) (omega (arith, text_most body, short)) in
    record {
      text = line_of (decimal n) (codes ",\"body\":\"") (json_text body);
      line = as_line n body (codes ",\"body\":\"") (json_text body) (member_text body utf8);
      fits = (no_end (line_of (decimal n) (codes ",\"body\":\"") (json_text body)) fits.high, fits.short);
      states = record {
        digits = decimal n;
        member = text_member body;
        utf8 = fits.utf8;
        object = inl (tokens_text (decimal n) body (is_number n small));
        has_type = has_type n some small;
        has_body = inl refl;
        short = short;
      };
    }

-- How long an encoding is.
coded_most : (body : List ℕ) → length body ≤ MESSAGE_BYTES → length (encode_of standard body) ≤ 49152
coded_most body short =
    omega (
      arith,
      length-append (encode_symbols table body) (replicate (padding_len (length body)) 61),
      length-encode_symbols table body,
      length-replicate {A = ℕ} (padding_len (length body)) 61,
      short,
    )

-- Any other body.
bytes_back : (n : ℕ) (body : List ℕ) → 1 ≤ n → n ≤ 9223372036854775807 → length body ≤ MESSAGE_BYTES → IsBytes body
    → ¬ IsUtf8 body → IsReadBack (record { mtype = pos n; body = body })
bytes_back n body some small short bytes other =
    let coded = encode_of standard body in
    let same : json_text coded ≡ coded = json-coded body bytes in
    let fits = fit n (codes ",\"base64\":\"") coded small refl refl (omega arith)
    (IsUtf8-from_ascii coded (IsAscii-encode_of standard body))
    (subst (λ (l : List ℕ). are_high l ≡ true) same (high-json coded)) (coded_most body short) in
    record {
      text = line_of (decimal n) (codes ",\"base64\":\"") coded;
      line = as_line n body (codes ",\"base64\":\"") coded (member_bytes body other);
      fits = (no_end (line_of (decimal n) (codes ",\"base64\":\"") coded) fits.high, fits.short);
      states = record {
        digits = decimal n;
        member = coded_member coded;
        utf8 = fits.utf8;
        object = inl (subst (λ (l : List ℕ). tokens (line_of (decimal n) (codes ",\"base64\":\"") l)
            ≡ object_tokens (type_member (decimal n)) (coded_member coded)) same
            (tokens_coded (decimal n) coded (is_number n small)));
        has_type = has_type n some small;
        has_body = inr (bytes, refl);
        short = short;
      };
    }

back : (n : ℕ) (body : List ℕ) → 1 ≤ n → n ≤ 9223372036854775807 → length body ≤ MESSAGE_BYTES → IsBytes body
    → IsReadBack (record { mtype = pos n; body = body })
back n body some small short bytes = elim (is_utf8 body) as (λ (b : Bool). is_utf8 body ≡ b
    → IsReadBack (record { mtype = pos n; body = body })) [
      | true ↦ λ is. text_back n body some small short (IsUtf8-from_is_utf8 body is)
      | false ↦ λ is. bytes_back n body some small short bytes
          (λ utf8. false≢true (sym is ∙ is_utf8-from_IsUtf8 body utf8))
    ] refl

pub read_back : (message : Message) → IsMessage message → IsReadBack message
read_back message is =
    subst (λ (t : ℤ). IsReadBack (record { mtype = t; body = message.body })) (sym is.typed)
    (back is.number message.body is.some is.fits is.short is.bytes)

-- ---- a line states one message

-- The digits of the type in an object, and its other member.
abbrev digits_in : List Token → List ℕ
digits_in (first ∷ key name ∷ number digits ∷ rest) = digits
digits_in (first ∷ key name ∷ string text ∷ key other ∷ number digits ∷ rest) = digits
digits_in rest = []

abbrev member_in : List Token → List Token
member_in (first ∷ key name ∷ number digits ∷ one ∷ two ∷ rest) = one ∷ two ∷ []
member_in (first ∷ key name ∷ string text ∷ rest) = key name ∷ string text ∷ []
member_in rest = []

-- A member with a string.
abbrev IsString : List Token → Type 0
IsString member = (name text : List ℕ) × (member ≡ key name ∷ string text ∷ [])

is_string : (member : List Token) (body : List ℕ) → StatesBody member body → IsString member
is_string member body (inl is) = (codes "body", body, is)
is_string member body (inr (bytes, is)) = (codes "base64", encode_of standard body, is)

parts_in : (all member : List Token) (digits : List ℕ) → IsString member → IsObjectWith all digits member
    → (digits ≡ digits_in all) × (member ≡ member_in all)
parts_in all member digits (name, text, is) (inl object) =
    let whole = object ∙ ap (object_tokens (type_member digits)) is in
    (sym (ap digits_in whole), is ∙ sym (ap member_in whole))
parts_in all member digits (name, text, is) (inr object) =
    let whole = object ∙ ap (λ (m : List Token). object_tokens m (type_member digits)) is in
    (sym (ap digits_in whole), is ∙ sym (ap member_in whole))

same_body : (member : List Token) (body other : List ℕ) → StatesBody member body → StatesBody member other
    → body ≡ other
same_body member body other (inl own) (inl one) =
    let same : text_member body ≡ text_member other = sym own ∙ one in cc same
same_body member body other (inl own) (inr (bytes, one)) =
    other_key (body ≡ other) (text_member body) (coded_member (encode_of standard other)) 111 97 refl refl
    (λ same. omega (arith, same)) (sym own ∙ one)
same_body member body other (inr (bytes, own)) (inl one) =
    other_key (body ≡ other) (coded_member (encode_of standard body)) (text_member other) 97 111 refl refl
    (λ same. omega (arith, same)) (sym own ∙ one)
same_body member body other (inr (bytes, own)) (inr (others, one)) =
    let same : coded_member (encode_of standard body) ≡ coded_member (encode_of standard other) = sym own ∙ one in
    one_body body other bytes others (cc same)

pub states_one : (line : List ℕ) → StatesOne line
states_one line mtype other body text one two =
    let own = parts_in (tokens line) one.member one.digits (is_string one.member body one.has_body) one.object in
    let its = parts_in (tokens line) two.member two.digits (is_string two.member text two.has_body) two.object in
    let typed = subst (λ (d : List ℕ). IsType d mtype) (own.0 ∙ sym its.0) one.has_type in (
      sym typed.0.0.1 ∙ two.has_type.0.0.1,
      same_body two.member body text
          (subst (λ (m : List Token). StatesBody m body) (own.1 ∙ sym its.1) one.has_body) two.has_body,
    )

-- ---- the lines of a queue

has_end : (text more : List ℕ) → ¬ HasNoEnd (text ++ 10 ∷ more)
has_end [] more none = All-head (λ (byte : ℕ). byte ≢ 10) 10 more none refl
has_end (byte ∷ text) more none =
    has_end text more (All-tail (λ (b : ℕ). b ≢ 10) byte (text ++ 10 ∷ more) none)

one_line : (own line more rest : List ℕ) → HasNoEnd own → HasNoEnd line → own ++ 10 ∷ more ≡ line ++ 10 ∷ rest
    → (line ≡ own) × (rest ≡ more)
one_line [] [] more rest none no_other same = (refl, cc)
one_line [] (byte ∷ line) more rest none no_other same =
    absurd (All-head (λ (b : ℕ). b ≢ 10) byte line no_other (cc same))
one_line (byte ∷ own) [] more rest none no_other same =
    absurd (All-head (λ (b : ℕ). b ≢ 10) byte own none (cc same))
one_line (byte ∷ own) (other ∷ line) more rest none no_other same =
    let first : other ≡ byte = cc same in
    let later : own ++ 10 ∷ more ≡ line ++ 10 ∷ rest = cc same in
    let found = one_line own line more rest (All-tail (λ (b : ℕ). b ≢ 10) byte own none)
    (All-tail (λ (b : ℕ). b ≢ 10) other line no_other) later in
    (ap₂ (λ (b : ℕ) (l : List ℕ). b ∷ l) first found.0, found.1)

-- The next line of an input that begins with this one.
pub next_is : (most : ℕ) (own line more : List ℕ) (mid : Option (List ℕ)) → HasNoEnd own
    → IsNext most line (Some (own ++ 10 ∷ more)) mid → (line ≡ own) × (mid ≡ Some more)
next_is most own line more None none (fits, inl read) = absurd read
next_is most own line more None none (fits, inr (some, read, end)) = absurd read
next_is most own line more (Some rest) none (fits, inl read) =
    let found = one_line own line more rest none fits.0 (read ∙ append_assoc line (10 ∷ []) rest) in
    (found.0, ap Some found.1)
next_is most own line more (Some rest) none (fits, inr (some, read, end)) =
    let whole : own ++ 10 ∷ more ≡ line = read ∙ ap (λ (l : List ℕ). line ++ l) end ∙ append-nil line in
    absurd (has_end own more (subst HasNoEnd (sym whole) fits.0))

-- An input at its end has no next line.
pub no_next : (most : ℕ) (line : List ℕ) (mid : Option (List ℕ)) → ¬ IsNext most line (Some []) mid
no_next most line None (fits, inl read) = read
no_next most line None (fits, inr (some, read, end)) = read
no_next most [] (Some rest) (fits, inl read) = cc read
no_next most (byte ∷ line) (Some rest) (fits, inl read) = cc read
no_next most [] (Some rest) (fits, inr (some, read, end)) = some refl
no_next most (byte ∷ line) (Some rest) (fits, inr (some, read, end)) = cc read

one_left : (message : Message) (more : List Message) (end : Option (List ℕ)) →
    ¬ HasNone (Some (objects_of (message ∷ more))) end
unfolding object_line
one_left message more None none = none.0
one_left message more (Some rest) none =
    let same = none.0 ∙ none.1 in cc same

-- Something is left of an input that has a further object.
none_left : (later : List Message) (rest end : Option (List ℕ)) → rest ≡ Some (objects_of later) → HasNone rest end
    → later ≡ []
none_left [] rest end is none = refl
none_left (message ∷ more) rest end is none =
    absurd (one_left message more end (subst (λ (r : Option (List ℕ)). HasNone r end) is none))

-- Nothing more was sent.
stops : (sending : Sending) (found : ℤ) (messages : List Message) (rest : Option (List ℕ))
    → Consumes (Some (objects_of messages)) rest [] → IsCopied sending found messages [] rest
stops sending found messages None read = absurd read
stops sending found messages (Some rest) read = record {
  first = [];
  later = messages;
  split = refl;
  sends = refl;
  left = ap Some (sym read);
  all = λ end none. none_left messages (Some rest) end (ap Some (sym read)) none;
}

-- One message more was sent before these.
copied_more : (sending : Sending) (found : ℤ) (message : Message) (messages : List Message) (sent : Sent)
    (sents : List Sent) (rest : Option (List ℕ))
    → sent ≡ record { ask = send_ask sending found message.mtype; text = message.body }
    → IsCopied sending found messages sents rest
    → IsCopied sending found (message ∷ messages) (sent ∷ sents) rest
copied_more sending found message messages sent sents rest is so_far = record {
  first = message ∷ so_far.first;
  later = so_far.later;
  split = ap (λ (l : List Message). message ∷ l) so_far.split;
  sends = ap₂ (λ (s : Sent) (l : List Sent). s ∷ l) is so_far.sends;
  left = so_far.left;
  all = so_far.all;
}

-- The request sends the message of the line.
is_sent : (sending : Sending) (found : ℤ) (message : Message) (sent : Sent) (own : List ℕ) (mid : Option (List ℕ))
    (left : Option (List ℕ)) → sending.wording ≡ Objects → IsObjectOf own message.mtype message.body
    → (next : IsNextSend sending found sent left mid) → next.line ≡ own
    → sent ≡ record { ask = send_ask sending found message.mtype; text = message.body }
is_sent sending found message sent own mid left is states next same =
    let objects : IsObjectOf next.line next.mtype sent.text =
    subst (λ (w : Wording). States w next.line next.mtype sent.text) is next.states in
    let one = states_one own next.mtype message.mtype sent.text message.body
    (subst (λ (l : List ℕ). IsObjectOf l next.mtype sent.text) same objects) states in
    ap₂ (λ (a : Ask) (t : List ℕ). record { ask = a; text = t })
    (next.is ∙ ap (send_ask sending found) one.0) one.1

pub are_copied : (messages : List Message) → AreMessages messages → AreCopied messages
are_copied messages are sending found [] rest is sends = stops sending found messages rest sends
are_copied [] are sending found (sent ∷ more) rest is (mid, next, later) =
    absurd (no_next (line_most sending.wording) next.line mid next.next)
are_copied (message ∷ messages) are sending found (sent ∷ more) rest is (mid, next, later) =
    let own = read_back message are.0 in
    let here : objects_of (message ∷ messages) ≡ own.text ++ 10 ∷ objects_of messages =
    ap (λ (l : List ℕ). l ++ objects_of messages) own.line
    ∙ append_assoc own.text (10 ∷ []) (objects_of messages) in
    let at = next_is (line_most sending.wording) own.text next.line (objects_of messages) mid own.fits.0
    (subst (λ (l : List ℕ). IsNext (line_most sending.wording) next.line (Some l) mid) here next.next) in
    copied_more sending found message messages sent more rest
    (is_sent sending found message sent own.text mid (Some (objects_of (message ∷ messages))) is own.states next at.0)
    (are_copied messages are.1 sending found more rest is
    (subst (λ (m : Option (List ℕ)). AreSends sending found more m rest) at.1 later))
