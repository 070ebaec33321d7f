-- What the tokens of a line say of the message that it states.
use Rattle.std.proofs.Common.{◌≡◌, ◌≤◌, ◌<◌, ◌∙◌, ℕ, ℤ, Bool, true, false, List, ◌∷◌, ◌++◌, Err, inl, inr}
use Rattle.std.proofs.Common.{length, refl, sym, ap, subst, arith}
use Rattle.std.specs.Bool.{MatchBool}
use Rattle.base64.specs.declared.decode.DecodeError.{DecodeError}
use Rattle.base64.specs.Engines.{standard}
use Rattle.base64.specs.GeneralPurpose.{IsBytes, IsStrict, decode_of, encode_of}
use Rattle.base64.proofs.EngineFacts.{decode_of-encode_of}
use Rattle.json.specs.Lex.{tokens}
use Rattle.json.specs.Token.{Token, begin_object, key}
use Rattle.sysv_clients.specs.declared.stated.Part.{Part}
use Rattle.sysv_clients.specs.declared.stated.Part.TheVariants.{Digits, Body}
use Rattle.sysv_clients.specs.declared.stated.Stated.TheVariants.{Text, Coded}
use Rattle.sysv_clients.specs.Stated.{HasNoMember, HasNoMembers, IsObjectOf, IsObjectWith, StatesBody}
use Rattle.sysv_clients.specs.Stated.{coded_member, member_tokens, text_member, type_member}
use Rattle.sysv_model.specs.declared.limits.TheConstants.{MESSAGE_BYTES}

-- The second byte of the key that comes first. The keys of an object differ in it.
abbrev pub second_byte : List Token → ℕ
second_byte (key (first ∷ second ∷ more) ∷ rest) = second
second_byte other = 0

-- Two members with different keys are not the same.
pub other_key : (P : Type 0) (first second : List Token) (n m : ℕ) → second_byte first ≡ n → second_byte second ≡ m
    → (n ≡ m → ⊥) → first ≡ second → P
other_key P first second n m one two differ same =
    absurd (differ (sym one ∙ ap second_byte same ∙ two))

after : (token : Token) (first second : List Token) → token ∷ first ≡ token ∷ second → first ≡ second
after token first second same = cc

-- No member begins the object.
pub no_first : (all rest : List Token) → all ≡ begin_object ∷ rest → HasNoMember rest → HasNoMembers all
no_first all rest begins none digits text = (
  λ object. elim object [
    | inl is ↦ (none digits _).0 (after begin_object rest _ (sym begins ∙ is))
    | inr is ↦ (none text _).1 (after begin_object rest _ (sym begins ∙ is))
  ],
  λ object. elim object [
    | inl is ↦ (none digits _).0 (after begin_object rest _ (sym begins ∙ is))
    | inr is ↦ (none text _).2 (after begin_object rest _ (sym begins ∙ is))
  ],
)

-- A member that states a type or a body comes first, and this rest follows.
abbrev After : Part → (rest all : List Token) → Type 0
After first rest all = all ≡ member_tokens first ++ rest

-- What follows a member of an object that comes first and states a type.
after_type : (first : Part) (rest all more : List Token) (digits : List ℕ) → After first rest all
    → all ≡ type_member digits ++ more → rest ≡ more
after_type (Digits own) rest all more digits begins is = cc
after_type (Body (Text own)) rest all more digits begins is =
    other_key (rest ≡ more) (text_member own.now ++ rest) (type_member digits ++ more) 111 121 refl refl
    (λ same. omega (arith, same)) (sym begins ∙ is)
after_type (Body (Coded own)) rest all more digits begins is =
    other_key (rest ≡ more) (coded_member own.now ++ rest) (type_member digits ++ more) 97 121 refl refl
    (λ same. omega (arith, same)) (sym begins ∙ is)

-- What follows one that states a body as a string.
after_text : (first : Part) (rest all more : List Token) (text : List ℕ) → After first rest all
    → all ≡ text_member text ++ more → rest ≡ more
after_text (Digits own) rest all more text begins is =
    other_key (rest ≡ more) (type_member own.now ++ rest) (text_member text ++ more) 121 111 refl refl
    (λ same. omega (arith, same)) (sym begins ∙ is)
after_text (Body (Text own)) rest all more text begins is = cc
after_text (Body (Coded own)) rest all more text begins is =
    other_key (rest ≡ more) (coded_member own.now ++ rest) (text_member text ++ more) 97 111 refl refl
    (λ same. omega (arith, same)) (sym begins ∙ is)

-- What follows one that states a body in base64.
after_coded : (first : Part) (rest all more : List Token) (text : List ℕ) → After first rest all
    → all ≡ coded_member text ++ more → rest ≡ more
after_coded (Digits own) rest all more text begins is =
    other_key (rest ≡ more) (type_member own.now ++ rest) (coded_member text ++ more) 121 97 refl refl
    (λ same. omega (arith, same)) (sym begins ∙ is)
after_coded (Body (Text own)) rest all more text begins is =
    other_key (rest ≡ more) (text_member own.now ++ rest) (coded_member text ++ more) 111 97 refl refl
    (λ same. omega (arith, same)) (sym begins ∙ is)
after_coded (Body (Coded own)) rest all more text begins is = cc

-- No member follows the first one of the object.
pub no_second : (all mid rest : List Token) (first : Part) → all ≡ begin_object ∷ mid → After first rest mid
    → HasNoMember rest → HasNoMembers all
no_second all mid rest first begins is_first none digits text =
    let within : (more : List Token) → all ≡ begin_object ∷ more → mid ≡ more =
    λ more is. after begin_object mid more (sym begins ∙ is) in (
      λ object. elim object [
        | inl is ↦ (none text _).1 (after_type first rest mid _ digits is_first (within _ is))
        | inr is ↦ (none digits _).0 (after_text first rest mid _ text is_first (within _ is))
      ],
      λ object. elim object [
        | inl is ↦ (none text _).2 (after_type first rest mid _ digits is_first (within _ is))
        | inr is ↦ (none digits _).0 (after_coded first rest mid _ text is_first (within _ is))
      ],
    )

-- A line whose tokens are not those of an object with a type and a body states no message.
pub no_object : (all : List Token) (own line : List ℕ) → all ≡ tokens own → own ≡ line → HasNoMembers all
    → (mtype : ℤ) (body : List ℕ) → IsObjectOf line mtype body → ⊥
no_object all own line are same none mtype body object =
    let here = subst (λ (l : List Token). IsObjectWith l object.digits object.member)
    (sym (are ∙ ap tokens same)) object.object in
    elim object.has_body [
      | inl is ↦ (none object.digits body).0
          (subst (λ (m : List Token). IsObjectWith all object.digits m) is here)
      | inr is ↦ (none object.digits (encode_of standard body)).1
          (subst (λ (m : List Token). IsObjectWith all object.digits m) is.1 here)
    ]

-- The engine of the standard alphabet decodes nothing but encodings.
pub strict : IsStrict standard
strict = (refl, refl)

-- An encoding is that of one list of bytes.
pub one_body : (body other : List ℕ) → IsBytes body → IsBytes other → encode_of standard body ≡ encode_of standard other
    → body ≡ other
one_body body other bytes others same =
    let decoded = sym (decode_of-encode_of standard body refl bytes)
    ∙ ap (decode_of standard) same
    ∙ decode_of-encode_of standard other refl others in
    cc decoded

-- A member in base64 states the bytes that it encodes, and no other body.
pub one_coded : (P : Type 0) (coded bytes other : List ℕ) → coded ≡ encode_of standard bytes → IsBytes bytes
    → (bytes ≡ other → P) → StatesBody (coded_member coded) other → P
one_coded P coded bytes other is own then (inl plain) =
    other_key P (coded_member coded) (text_member other) 97 111 refl refl (λ same. omega (arith, same)) plain
one_coded P coded bytes other is own then (inr (others, same)) =
    then (one_body bytes other own others (sym is ∙ (cc same)))

-- What was put as the body of a member in base64.
pub put_coded : (is_put : Bool) (coded bytes text : List ℕ) → coded ≡ encode_of standard bytes → IsBytes bytes
    → MatchBool is_put ((text ≡ bytes) × (length text ≤ MESSAGE_BYTES)) (MESSAGE_BYTES < length bytes)
    → MatchBool is_put (StatesBody (coded_member coded) text × (length text ≤ MESSAGE_BYTES))
    ((other : List ℕ) → StatesBody (coded_member coded) other → MESSAGE_BYTES < length other)
put_coded true coded bytes text is own put = (
  inr (
    subst IsBytes (sym put.0) own,
    ap coded_member (is ∙ ap (encode_of standard) (sym put.0)),
  ),
  put.1,
)
put_coded false coded bytes text is own put =
    λ other states. one_coded (MESSAGE_BYTES < length other) coded bytes other is own
    (λ same. subst (λ (l : List ℕ). MESSAGE_BYTES < length l) same put) states

-- A string that is no base64 states no body.
pub not_coded : (P : Type 0) (coded other : List ℕ) (why : DecodeError) → decode_of standard coded ≡ Err why
    → StatesBody (coded_member coded) other → P
not_coded P coded other why failed (inl plain) =
    other_key P (coded_member coded) (text_member other) 97 111 refl refl (λ same. omega (arith, same)) plain
not_coded P coded other why failed (inr (others, same)) =
    let is : coded ≡ encode_of standard other = cc same in
    let decoded = sym failed ∙ ap (decode_of standard) is ∙ decode_of-encode_of standard other refl others in
    cc decoded
